-- The types of parameters, and functions by their names.
use Rattle.std.proofs.Common.{◌≡◌, ◌≢◌, ℕ, zero, suc, ◌+◌, ◌<◌, ◌≤◌, Bool, true, false, ◌&&◌, ◌||◌, not, List, [], ◌∷◌, map, drop, get_or, length, Some, None, refl, sym, ap, subst, ◌∙◌, arith}
use Rattle.std.specs.Prelude.{slice_get, nat_eq}
use Rattle.std.specs.List.{list_any, AllByRecursion}
use Rattle.std.specs.Str.{bytes_eq}
use Rattle.std.proofs.lemmas.Bool.{ne_eqb}
use Rattle.std.proofs.lemmas.List.{drop_all}
use Rattle.step_meaning.specs.declared.program.Declared.{Declared as Named}
use Rattle.step_meaning.specs.declared.program.Function.{Function as CoreFunction}
use Rattle.step_meaning.specs.Identifiers.{are_distinct}
use Rattle.step_meaning.specs.Types.{same_type}
use Rattle.step_meaning.proofs.Ranges.{left_of_and, right_of_and}
use Rattle.typing_rules.specs.Functions.{types_of, are_same, function_number}
use Rattle.typing_laws.proofs.Completion.{bytes_same}
use Rattle.typing_laws.proofs.Positions.{false_or_left, false_or_right, FoundAt, found_at, none_passes}
use Rattle.typing_files.proofs.Names.{names_turned}

-- ---- types of parameters

same_step : (a b : List Named) (n : ℕ) (x y : Named) → n < length a → n < length b → are_same (types_of (drop n a)) (types_of (drop n b)) ≡ (same_type (get_or a n x).ctype (get_or b n y).ctype && are_same (types_of (drop (suc n) a)) (types_of (drop (suc n) b)))
same_step [] b n x y h k = absurd (omega arith)
same_step (a ∷ more) [] n x y h k = absurd (omega arith)
same_step (a ∷ more) (b ∷ bs) zero x y h k = refl
same_step (a ∷ more) (b ∷ bs) (suc n) x y h k = same_step more bs n x y (omega arith) (omega arith)

next : (n : ℕ) → suc n ≡ n + 1
next n = omega arith

pub same_at : (a b : List Named) (n : ℕ) (x y : Named) → n < length a → n < length b → x ≡ get_or a n x → y ≡ get_or b n y → are_same (types_of (drop n a)) (types_of (drop n b)) ≡ (same_type x.ctype y.ctype && are_same (types_of (drop (n + 1) a)) (types_of (drop (n + 1) b)))
same_at a b n x y h k e f =
    same_step a b n x y h k
    ∙ ap (λ z. same_type z.ctype (get_or b n y).ctype && are_same (types_of (drop (suc n) a)) (types_of (drop (suc n) b))) (sym e)
    ∙ ap (λ z. same_type x.ctype z.ctype && are_same (types_of (drop (suc n) a)) (types_of (drop (suc n) b))) (sym f)
    ∙ ap (λ m. same_type x.ctype y.ctype && are_same (types_of (drop m a)) (types_of (drop m b))) (next n)

pub same_past : (a b : List Named) (n : ℕ) → length a ≤ n → length b ≤ n → are_same (types_of (drop n a)) (types_of (drop n b)) ≡ true
same_past a b n h k = ap (λ xs. are_same (types_of xs) (types_of (drop n b))) (drop_all n a h) ∙ ap (λ ys. are_same [] (types_of ys)) (drop_all n b k)

and_false : (b : Bool) → (b && false) ≡ false
and_false true = refl
and_false false = refl

pub other_lengths : (a b : List Named) → length a ≢ length b → are_same (types_of a) (types_of b) ≡ false
other_lengths [] [] h = absurd (h refl)
other_lengths [] (b ∷ bs) h = refl
other_lengths (a ∷ more) [] h = refl
other_lengths (a ∷ more) (b ∷ bs) h = ap (λ c. same_type a.ctype b.ctype && c) (other_lengths more bs (λ e. h (ap suc e))) ∙ and_false (same_type a.ctype b.ctype)

pub same_none : (ps : List Named) → are_same (types_of ps) [] ≡ nat_eq (length ps) 0
same_none [] = refl
same_none (p ∷ ps) = sym (ne_eqb (suc (length ps)) 0 (omega arith))

-- ---- functions of a name

module _ (name : List ℕ) (test : CoreFunction → Bool) where
  abbrev among : List CoreFunction → Bool
  among fs = list_any (λ f. bytes_eq f.name name && test f) fs

  others : (fs : List CoreFunction) → AllByRecursion (λ f. bytes_eq name f.name ≡ false) fs → among fs ≡ false
  others [] h = refl
  others (f ∷ fs) h = ap (λ b. (b && test f) || among fs) (names_turned f.name name ∙ h.0) ∙ others fs h.1

  pub none_named : (fs : List CoreFunction) → function_number fs name ≡ None → among fs ≡ false
  none_named fs e = others fs (none_passes (λ f. bytes_eq name f.name) fs e)

  new_names : (w : List ℕ) (fs : List CoreFunction) → list_any (bytes_eq w) (map (λ f. f.name) fs) ≡ false → w ≡ name → AllByRecursion (λ f. bytes_eq name f.name ≡ false) fs
  new_names w [] h e = tt
  new_names w (f ∷ fs) h e = (subst (λ v. bytes_eq v f.name ≡ false) e (false_or_left (bytes_eq w f.name) _ h), new_names w fs (false_or_right (bytes_eq w f.name) _ h) e)

  first_named : (f : CoreFunction) (fs : List CoreFunction) (b : Bool) → bytes_eq name f.name ≡ b → are_distinct (map (λ f. f.name) (f ∷ fs)) ≡ true → bytes_eq name f.name ≡ true → among (f ∷ fs) ≡ test f
  first_named f fs b e d h =
      ap (λ c. (c && test f) || among fs) (names_turned f.name name ∙ h) ∙ ap (λ c. test f || c) (others fs (new_names f.name fs (not_true _ (left_of_and _ _ d)) (sym (bytes_same name f.name h)))) ∙ or_false (test f)
    where
      or_false : (b : Bool) → (b || false) ≡ b
      or_false true = refl
      or_false false = refl

      not_true : (b : Bool) → not b ≡ true → b ≡ false
      not_true false e = refl
      not_true true e = absurd (cc e)

  known_among : (fs : List CoreFunction) (n : ℕ) (f : CoreFunction) → are_distinct (map (λ f. f.name) fs) ≡ true → slice_get fs n ≡ Some f → bytes_eq name f.name ≡ true → among fs ≡ test f
  known_among [] n f d e h = absurd (no e)
    where
      no : None ≡ Some f → ⊥
      no e = cc
  known_among (g ∷ fs) zero f d e h =
      let same : g ≡ f = some_same g f e in
      subst (λ (x : CoreFunction). are_distinct (map (λ f. f.name) (x ∷ fs)) ≡ true → among (x ∷ fs) ≡ test f) (sym same) (λ d. first_named f fs true h d h) d
    where
      some_same : (g f : CoreFunction) → Some g ≡ Some f → g ≡ f
      some_same g f e = cc
  known_among (g ∷ fs) (suc n) f d e h = later (known_among fs n f (right_of_and _ _ d) e h) (bytes_eq g.name name) refl
    where
      there : (fs : List CoreFunction) (n : ℕ) → slice_get fs n ≡ Some f → list_any (bytes_eq g.name) (map (λ f. f.name) fs) ≡ false → bytes_eq g.name f.name ≡ false
      there [] n e h = absurd (no e)
        where
          no : None ≡ Some f → ⊥
          no e = cc
      there (x ∷ fs) zero e h = ap (λ y. bytes_eq g.name y.name) (sym (same e)) ∙ false_or_left (bytes_eq g.name x.name) _ h
        where
          same : Some x ≡ Some f → x ≡ f
          same e = cc
      there (x ∷ fs) (suc n) e h = there fs n e (false_or_right (bytes_eq g.name x.name) _ h)

      not_true : (b : Bool) → not b ≡ true → b ≡ false
      not_true false e = refl
      not_true true e = absurd (cc e)

      clash : false ≡ true → ⊥
      clash e = cc

      later : among fs ≡ test f → (b : Bool) → bytes_eq g.name name ≡ b → among (g ∷ fs) ≡ test f
      later k false i = ap (λ c. (c && test g) || among fs) i ∙ k
      later k true i = absurd (clash (sym (there fs n e (not_true _ (left_of_and _ _ d))) ∙ ap (λ w. bytes_eq w f.name) (bytes_same g.name name i) ∙ h))

  pub one_named : (fs : List CoreFunction) (n : ℕ) (f : CoreFunction) → are_distinct (map (λ f. f.name) fs) ≡ true → function_number fs name ≡ Some n → slice_get fs n ≡ Some f → among fs ≡ test f
  one_named fs n f d e g =
      let found : FoundAt (λ f. bytes_eq name f.name) fs n = found_at (λ f. bytes_eq name f.name) fs n e in
      known_among fs n f d g (subst (λ (x : CoreFunction). bytes_eq name x.name ≡ true) (some_same found.element f (sym found.there ∙ g)) found.passes)
    where
      some_same : (g f : CoreFunction) → Some g ≡ Some f → g ≡ f
      some_same g f e = cc
