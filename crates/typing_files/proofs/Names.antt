-- Names that are compared from either side.
use Rattle.std.proofs.Common.{◌≡◌, ℕ, Bool, true, false, ◌||◌, List, [], ◌∷◌, refl, sym, ap, ◌∙◌}
use Rattle.std.specs.List.{list_any}
use Rattle.std.specs.Str.{bytes_eq}
use Rattle.step_meaning.specs.declared.program.Declared.{Declared}
use Rattle.typing_laws.proofs.Completion.{bytes_same}
use Rattle.typing_laws.proofs.DistinctNames.{differ_turned}

pub names_turned : (a b : List ℕ) → bytes_eq a b ≡ bytes_eq b a
names_turned a b = by (bytes_eq a b) refl
  where
    by : (c : Bool) → bytes_eq a b ≡ c → bytes_eq a b ≡ bytes_eq b a
    by false e = e ∙ sym (differ_turned a b e)
    by true e = ap (λ x. bytes_eq x b) (bytes_same a b e) ∙ ap (λ x. bytes_eq b x) (sym (bytes_same a b e))

pub among_turned : {A : Type 0} (name_of : A → List ℕ) (name : List ℕ) (xs : List A) → list_any (λ x. bytes_eq name (name_of x)) xs ≡ list_any (λ x. bytes_eq (name_of x) name) xs
among_turned name_of name [] = refl
among_turned name_of name (x ∷ xs) = ap (λ b. b || list_any (λ x. bytes_eq name (name_of x)) xs) (names_turned name (name_of x)) ∙ ap (λ b. bytes_eq (name_of x) name || b) (among_turned name_of name xs)

pub declared_turned : (name : List ℕ) (ds : List Declared) → list_any (λ d. bytes_eq name d.name) ds ≡ list_any (λ d. bytes_eq d.name name) ds
declared_turned name ds = among_turned (λ d. d.name) name ds
