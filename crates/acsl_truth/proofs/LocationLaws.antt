-- Locations one after the other, and the parts of one with a range.
use Rattle.std.proofs.Common.{◌≡◌, ℕ, suc, ◌+◌, ◌-◌, ◌<◌, Bool, true, false, ◌&&◌, List, ◌∷◌, length, map, take, drop, get_or, Option, Some, None, All, sym, ap, subst, ◌∙◌, arith, drop-cons}
use Rattle.std.proofs.lemmas.List.{take_rest}
use Rattle.std.proofs.lemmas.List.Elements.{All-drop}
use Rattle.step_meaning.specs.declared.value.CType.{CType}
use Rattle.step_meaning.specs.declared.predicate.Term.{Term}
use Rattle.step_meaning.specs.declared.predicate.Location.{Location}
use Rattle.step_meaning.specs.Views.{Sight, now}
use Rattle.step_meaning.specs.Terms.{TermValue, Number, NullPointer, PointerInto, value_of}
use Rattle.step_meaning.specs.Bounded.{WhereDefined, TermBounded, EndsWithin, SpanBounded, LocationBounded}
use Rattle.step_meaning.specs.Predicates.{Denoted, denoted, denoted_size, denoted_types, in_span, objects_between, are_disjoint, are_disjoint_in_pairs, all_defined, when_defined}
use Rattle.acsl_truth.specs.declared.ranges.Range.{Range}
use Rattle.acsl_truth.specs.Ranges.{IsCapped, StartsWithin, Denotes, is_apart_from_all}
use Rattle.acsl_truth.proofs.RangeLaws.{separated_first}

-- ---- one location after the other

module _ (den : Location → Option (List Denoted)) (ls : List Location) (i : ℕ) (l : Location) (h : i < length ls) (e : l ≡ get_or ls i l) where
  next_one : drop i ls ≡ l ∷ drop (i + 1) ls
  next_one = let after : suc i ≡ i + 1 = omega arith in drop-cons ls i l h ∙ ap (λ (x : Location). x ∷ drop (suc i) ls) (sym e) ∙ ap (λ k. l ∷ drop k ls) after

  pub next_apart : (cs : List Denoted)
      → is_apart_from_all (Some cs) (map den (drop i ls)) ≡ (when_defined (are_disjoint cs) (den l) && is_apart_from_all (Some cs) (map den (drop (i + 1) ls)))
  next_apart cs = ap (λ xs. is_apart_from_all (Some cs) (map den xs)) next_one

  pub next_separated : when_defined are_disjoint_in_pairs (all_defined (map den (drop i ls)))
      ≡ (is_apart_from_all (den l) (map den (drop (i + 1) ls)) && when_defined are_disjoint_in_pairs (all_defined (map den (drop (i + 1) ls))))
  next_separated = ap (λ xs. when_defined are_disjoint_in_pairs (all_defined (map den xs))) next_one ∙ separated_first (den l) (map den (drop (i + 1) ls))

  pub bounded_here : (P : Location → Type 0) → All P ls → P l
  bounded_here P bounded = subst P (sym e) (bounded i l h)

  -- what is answered of the locations after this one
  pub of_others : (P : Location → Type 0) → All P ls → (b : Bool)
      → (All P (take (length ls - (i + 1)) (drop (i + 1) ls)) → b ≡ is_apart_from_all (den l) (map den (take (length ls - (i + 1)) (drop (i + 1) ls))))
      → b ≡ is_apart_from_all (den l) (map den (drop (i + 1) ls))
  of_others P bounded b f = subst (λ xs. All P xs → b ≡ is_apart_from_all (den l) (map den xs)) (take_rest ls (i + 1)) f (All-drop P (i + 1) ls bounded)

pub and_false : (a b : Bool) → a ≡ false → (a && b) ≡ false
and_false a b e = ap (λ a. a && b) e

pub and_true : (a b : Bool) → a ≡ true → (a && b) ≡ b
and_true a b e = ap (λ a. a && b) e

-- ---- a location with a range

starts : (s : Sight) (v a b : Option TermValue) (size : ℕ) → EndsWithin s v a b size → StartsWithin v a b size
starts s (Some (PointerInto n o)) (Some (Number a)) (Some (Number b)) size h = (h.0, h.2)
starts s (Some (Number z)) (Some (Number a)) (Some (Number b)) size h = tt
starts s (Some NullPointer) (Some (Number a)) (Some (Number b)) size h = tt
starts s None a b size h = tt
starts s (Some v) None b size h = tt
starts s (Some v) (Some NullPointer) b size h = tt
starts s (Some v) (Some (PointerInto n o)) b size h = tt
starts s (Some v) (Some (Number a)) None size h = tt
starts s (Some v) (Some (Number a)) (Some NullPointer) size h = tt
starts s (Some v) (Some (Number a)) (Some (PointerInto n o)) size h = tt

module _ (s : Sight) where
  pub span_denotes : (l : Location) (first last : Term) (v a b : Option TermValue) (r : Option Range) (size : ℕ) → l.span ≡ Some (first, last)
      → (TermBounded s l.base (now s) → v ≡ value_of s l.base) → (TermBounded s first (now s) → a ≡ value_of s first) → (TermBounded s last (now s) → b ≡ value_of s last)
      → IsCapped (denoted_size s.layouts l.ctype) size
      → ((us : List CType) → IsCapped (length us) size → StartsWithin v a b (length us) → WhereDefined a → WhereDefined b → Denotes r (objects_between v a b us))
      → LocationBounded s l → Denotes r (denoted s l)
  span_denotes l first last v a b r size i base from to capped f h =
      let us = denoted_types s.layouts l.ctype in
      let span = subst (λ p. SpanBounded s (value_of s l.base) p (length us)) i h.1 in
      let x = base h.0 in
      let y = from span.0 in
      let z = to span.1 in
      let begins : StartsWithin (value_of s l.base) (value_of s first) (value_of s last) (length us) = starts s _ _ _ _ span.2 in
      subst (λ p. Denotes r (in_span s (value_of s l.base) p us)) (sym i)
      (subst (λ v. Denotes r (objects_between v (value_of s first) (value_of s last) us)) x
      (subst (λ a. Denotes r (objects_between v a (value_of s last) us)) y
      (subst (λ b. Denotes r (objects_between v a b us)) z
      (f us capped
      (subst (λ v. StartsWithin v a b (length us)) (sym x) (subst (λ a. StartsWithin (value_of s l.base) a b (length us)) (sym y) (subst (λ b. StartsWithin (value_of s l.base) (value_of s first) b (length us)) (sym z) begins)))
      (subst WhereDefined (sym y) span.0.0) (subst WhereDefined (sym z) span.1.0)))))
