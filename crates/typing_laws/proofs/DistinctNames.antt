-- Lists of distinct names, and one more name.
use Rattle.std.proofs.Common.{◌≡◌, ℕ, zero, suc, Bool, true, false, not, List, [], ◌∷◌, ◌++◌, map, Some, None, refl, sym, ap, subst, ◌∙◌}
use Rattle.std.specs.Prelude.{slice_get, is_some, if◌then◌else◌}
use Rattle.std.specs.List.{list_any, AllByRecursion}
use Rattle.std.specs.Str.{bytes_eq}
use Rattle.step_meaning.specs.declared.program.Function.{Function as CoreFunction}
use Rattle.step_meaning.specs.Identifiers.{are_distinct}
use Rattle.step_meaning.proofs.Ranges.{and_true, left_of_and, right_of_and}
use Rattle.typing_rules.specs.declared.operand.Entry.{Entry}
use Rattle.typing_rules.specs.Environment.{Scope, found_in}
use Rattle.typing_rules.specs.FileScope.{numbered}
use Rattle.typing_rules.specs.Functions.{replaced}
use Rattle.typing_laws.proofs.Completion.{bytes_same, bytes_itself}
use Rattle.typing_laws.proofs.Positions.{false_or_left, false_or_right}

pub differ_turned : (a b : List ℕ) → bytes_eq a b ≡ false → bytes_eq b a ≡ false
differ_turned a b e = by (bytes_eq b a) refl
  where
    by : (c : Bool) → bytes_eq b a ≡ c → c ≡ false
    by false h = refl
    by true h = absurd (no (sym e ∙ ap (λ x. bytes_eq a x) (bytes_same b a h) ∙ bytes_itself a))
      where
        no : false ≡ true → ⊥
        no e = cc

-- a name that none of these is
abbrev pub IsNew : List ℕ → List (List ℕ) → Type 0
IsNew w names = list_any (bytes_eq w) names ≡ false

pub new_append : (w : List ℕ) (xs ys : List (List ℕ)) → IsNew w xs → IsNew w ys → IsNew w (xs ++ ys)
new_append w [] ys h k = k
new_append w (x ∷ xs) ys h k = rw (false_or_left (bytes_eq w x) _ h, new_append w xs ys (false_or_right (bytes_eq w x) _ h) k) refl

any_insert : (test : List ℕ → Bool) (xs ys : List (List ℕ)) (w : List ℕ) → list_any test (xs ++ ys) ≡ false → test w ≡ false → list_any test (xs ++ (w ∷ ys)) ≡ false
any_insert test [] ys w h k = rw (k, h) refl
any_insert test (x ∷ xs) ys w h k = rw (false_or_left (test x) _ h, any_insert test xs ys w (false_or_right (test x) _ h) k) refl

not_true : (b : Bool) → not b ≡ true → b ≡ false
not_true false h = refl
not_true true h = absurd (cc h)

negated : (b : Bool) → b ≡ false → not b ≡ true
negated false h = refl
negated true h = absurd (cc h)

pub distinct_insert : (xs ys : List (List ℕ)) (w : List ℕ) → are_distinct (xs ++ ys) ≡ true → IsNew w (xs ++ ys) → are_distinct (xs ++ (w ∷ ys)) ≡ true
distinct_insert [] ys w h k = and_true (negated (list_any (bytes_eq w) ys) k) h
distinct_insert (x ∷ xs) ys w h k =
    and_true (negated (list_any (bytes_eq x) (xs ++ (w ∷ ys))) (any_insert (bytes_eq x) xs ys w (not_true (list_any (bytes_eq x) (xs ++ ys)) (left_of_and _ _ h)) (differ_turned w x (false_or_left (bytes_eq w x) _ k))))
    (distinct_insert xs ys w (right_of_and _ _ h) (false_or_right (bytes_eq w x) _ k))

pub distinct_last : (xs ys : List (List ℕ)) → are_distinct (xs ++ ys) ≡ true → are_distinct ys ≡ true
distinct_last [] ys h = h
distinct_last (x ∷ xs) ys h = distinct_last xs ys (right_of_and _ _ h)

-- ---- names of a scope

unknown_by : (x : List ℕ × Entry) (xs : Scope) (name : List ℕ) (b : Bool) → bytes_eq x.0 name ≡ b → is_some (if b then Some x.1 else found_in xs name) ≡ false → (is_some (found_in xs name) ≡ false → AllByRecursion (λ x. bytes_eq x.0 name ≡ false) xs)
    → AllByRecursion (λ x. bytes_eq x.0 name ≡ false) (x ∷ xs)
unknown_by x xs name true h e k = absurd (cc e)
unknown_by x xs name false h e k = (h, k e)

pub unknown : (scope : Scope) (name : List ℕ) → is_some (found_in scope name) ≡ false → AllByRecursion (λ x. bytes_eq x.0 name ≡ false) scope
unfolding found_in
unknown [] name e = tt
unknown (x ∷ xs) name e = unknown_by x xs name (bytes_eq x.0 name) refl e (unknown xs name)

-- of entries that have the names of these
pub new_of_entries : {A : Type 0} (f : ℕ → A → List ℕ × Entry) (name_of : A → List ℕ) → ((n : ℕ) (x : A) → (f n x).0 ≡ name_of x) → (name : List ℕ) (n : ℕ) (xs : List A) → AllByRecursion (λ x. bytes_eq x.0 name ≡ false) (numbered f n xs) → IsNew name (map name_of xs)
new_of_entries f name_of same name n [] h = refl
new_of_entries f name_of same name n (x ∷ xs) h =
    rw (differ_turned (name_of x) name (subst (λ w. bytes_eq w name ≡ false) (same n x) h.0), new_of_entries f name_of same name (suc n) xs h.1) refl

-- ---- functions in place of others of their names

abbrev pub function_names : List CoreFunction → List (List ℕ)
function_names fs = map (λ f. f.name) fs

pub replaced_names : (n : ℕ) (f g : CoreFunction) (fs : List CoreFunction) → slice_get fs n ≡ Some f → g.name ≡ f.name → function_names (replaced n g fs) ≡ function_names fs
unfolding replaced
replaced_names n f g [] e s = absurd (no e)
  where
    no : None ≡ Some f → ⊥
    no e = cc
replaced_names zero f g (x ∷ fs) e s = ap (λ w. w ∷ function_names fs) (s ∙ ap (λ f. f.name) (sym (same e)))
  where
    same : Some x ≡ Some f → x ≡ f
    same e = cc
replaced_names (suc n) f g (x ∷ fs) e s = ap (λ ws. x.name ∷ ws) (replaced_names n f g fs e s)

pub each_name : {A : Type 0} (P : List ℕ → Type 0) (name_of : A → List ℕ) (xs : List A) → AllByRecursion (λ x. P (name_of x)) xs → AllByRecursion P (map name_of xs)
each_name P name_of [] h = tt
each_name P name_of (x ∷ xs) h = (h.0, each_name P name_of xs h.1)
