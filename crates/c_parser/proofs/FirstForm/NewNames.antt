-- Names that are new one after another are distinct, and the other way round.
use Rattle.std.proofs.Common.{◌≡◌, ◌≢◌, ℕ, zero, suc, ◌<◌, Bool, true, false, not, ◌&&◌, ◌||◌, List, [], ◌∷◌, ◌++◌, length, get_or, Some, refl, sym, subst, ◌∙◌, append_assoc, append-nil, length-append, arith}
use Rattle.std.specs.List.{AllByRecursion, list_any}
use Rattle.std.specs.Str.{bytes_eq}
use Rattle.std.proofs.lemmas.Bool.{and_parts, not-true}
use Rattle.std.proofs.lemmas.List.{get_or_append_left, get_or_at}
use Rattle.std.proofs.lemmas.List.Folds.{list_any_none}
use Rattle.std.proofs.lemmas.List.Quantifiers.{all_pairs_push}
use Rattle.std.proofs.lemmas.Slice.Eq.{bytes_eq-Decides}
use Rattle.c_parser.specs.FirstForm.Spelling.{named}
use Rattle.c_parser.specs.FirstForm.Texts.{is_free_name}
use Rattle.c_parser.specs.FirstForm.Reading.{Left, guard, name, new_name}
use Rattle.c_parser.proofs.FirstForm.Taking.{Takes, bind_ok, same_pair, guard-passes, name-takes}
use Rattle.c_parser.proofs.FirstForm.NameLaws.{AreDistinct}

-- a name that may be declared after these
pub record IsNew (names : List (List ℕ)) (x : List ℕ) : Type 0 where
  pub free : is_free_name x ≡ true
  pub absent : list_any (bytes_eq x) names ≡ false

pub new_name-is : (names : List (List ℕ)) (s rest : Left) (x : List ℕ) → new_name names s ≡ Some (x, rest) → Takes s (named x ∷ []) 0 rest × IsNew names x
unfolding new_name
new_name-is names s rest x h =
    let n = bind_ok (name s) _ x rest h in
    let g = bind_ok (guard (is_free_name n.value && not (list_any (bytes_eq n.value) names)) n.mid) _ x rest n.second in
    let p = guard-passes (is_free_name n.value && not (list_any (bytes_eq n.value) names)) n.mid g.mid g.value g.first in
    let parts = and_parts (is_free_name n.value) (not (list_any (bytes_eq n.value) names)) p.0 in
    let e = same_pair g.second in
    let new : IsNew names n.value = record { free = parts.0; absent = not-true _ parts.1 } in
    (subst (λ y. Takes s (named y ∷ []) 0 rest) e.0 (subst (λ r. Takes s (named n.value ∷ []) 0 r) (p.1 ∙ e.1) (name-takes s n.mid n.value n.first)), subst (IsNew names) e.0 new)

or_parts : (a b : Bool) → (a || b) ≡ false → (a ≡ false) × (b ≡ false)
or_parts true b h = cc
or_parts false b h = (refl, h)

absent-at : (x : List ℕ) (xs : List (List ℕ)) → list_any (bytes_eq x) xs ≡ false → (k : ℕ) (d : List ℕ) → k < length xs → get_or xs k d ≢ x
absent-at x [] h k d below = absurd (omega arith)
absent-at x (y ∷ ys) h zero d below = λ e.
    let hit : bytes_eq x y ≡ true = (bytes_eq-Decides x y).1 (sym e) in
    let miss = (or_parts (bytes_eq x y) (list_any (bytes_eq x) ys) h).0 in
    cc
absent-at x (y ∷ ys) h (suc k) d below = absent-at x ys (or_parts (bytes_eq x y) (list_any (bytes_eq x) ys) h).1 k d (omega arith)

not_equal : (x y : List ℕ) → y ≢ x → bytes_eq x y ≡ false
not_equal x y h = by_test (bytes_eq x y) refl
  where
    by_test : (b : Bool) → bytes_eq x y ≡ b → b ≡ false
    by_test true e = absurd (h (sym ((bytes_eq-Decides x y).0 e)))
    by_test false e = refl

absent-from : (x : List ℕ) (xs : List (List ℕ)) → ((k : ℕ) (d : List ℕ) → k < length xs → get_or xs k d ≢ x) → list_any (bytes_eq x) xs ≡ false
absent-from x xs h = list_any_none (bytes_eq x) xs (λ k d below. not_equal x (get_or xs k d) (h k d below))

-- each of these is new after those before it
abbrev pub AllNew : List (List ℕ) → List (List ℕ) → Type 0
AllNew found [] = Unit {0}
AllNew found (x ∷ xs) = IsNew found x × AllNew (found ++ x ∷ []) xs

pub AreDistinct-push : (found : List (List ℕ)) (x : List ℕ) → AreDistinct found → IsNew found x → AreDistinct (found ++ x ∷ [])
AreDistinct-push found x distinct new = all_pairs_push (λ a b. a ≢ b) found x distinct (absent-at x found new.absent)

pub AllNew-distinct : (found xs : List (List ℕ)) → AreDistinct found → AllNew found xs → AreDistinct (found ++ xs) × AllByRecursion (λ x. is_free_name x ≡ true) xs
AllNew-distinct found [] distinct new = (subst AreDistinct (sym (append-nil found)) distinct, tt)
AllNew-distinct found (x ∷ xs) distinct new =
    let rest = AllNew-distinct (found ++ x ∷ []) xs (AreDistinct-push found x distinct new.0) new.1 in
    let first = new.0 in
    (subst AreDistinct (append_assoc found (x ∷ []) xs) rest.0, (first.free, rest.1))

pub AreDistinct-front : (xs ys : List (List ℕ)) → AreDistinct (xs ++ ys) → AreDistinct xs
AreDistinct-front xs ys distinct i j d below within = λ e.
    distinct i j d below (omega (arith, length-append xs ys)) (get_or_append_left xs ys d i (omega arith) ∙ e ∙ sym (get_or_append_left xs ys d j within))

pub IsNew-from_distinct : (found : List (List ℕ)) (x : List ℕ) (xs : List (List ℕ)) → AreDistinct (found ++ x ∷ xs) → is_free_name x ≡ true → IsNew found x
IsNew-from_distinct found x xs distinct free = record {
  free = free;
  absent = absent-from x found (λ k d below e.
      distinct k (length found) d below (omega (arith, length-append found (x ∷ xs)))
      (get_or_append_left found (x ∷ xs) d k below ∙ e ∙ sym (get_or_at found x xs d (length found) refl)));
}

pub AllNew-from_distinct : (found xs : List (List ℕ)) → AreDistinct (found ++ xs) → AllByRecursion (λ x. is_free_name x ≡ true) xs → AllNew found xs
AllNew-from_distinct found [] distinct free = tt
AllNew-from_distinct found (x ∷ xs) distinct free =
    (IsNew-from_distinct found x xs distinct free.0, AllNew-from_distinct (found ++ x ∷ []) xs (subst AreDistinct (sym (append_assoc found (x ∷ []) xs)) distinct) free.1)
