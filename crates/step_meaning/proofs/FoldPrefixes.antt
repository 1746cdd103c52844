-- The fold of the first steps of a traced list is the beginning of the fold of the list.
use Rattle.std.proofs.Common.{◌≡◌, ℕ, zero, suc, ◌≤◌, ◌<◌, Bool, true, false, cond, ◌&&◌, ◌==◌, List, [], ◌∷◌, ◌++◌, map, take, Some, refl, sym, ap, subst, ◌∙◌, arith}
use Rattle.std.specs.Prelude.{slice_get, IsTrue}
use Rattle.std.specs.List.{AllByRecursion}
use Rattle.step_meaning.specs.declared.stmt.Stmt.{Stmt}
use Rattle.step_meaning.specs.declared.program.Core.{Core}
use Rattle.step_meaning.specs.declared.program.Hooks.{Hooks}
use Rattle.step_meaning.specs.Memory.{Memory}
use Rattle.step_meaning.specs.Steps.{Step, Verdict, Item, Made, Judged}
use Rattle.step_meaning.specs.Views.{Sight}
use Rattle.step_meaning.specs.Limits.{is_enter}
use Rattle.step_meaning.specs.StepViews.{enter_memory, sight_of}
use Rattle.step_meaning.specs.Traced.{At}
use Rattle.step_meaning.specs.Verdicts.{items_to}
use Rattle.step_meaning.specs.Fold.{code_at, ghosts_after_code, verdicts_of_code, cells_at, start_cells, fold_from}
use Rattle.step_meaning.specs.FoldPrefixes.{FoldsPrefixes}
use Rattle.step_meaning.proofs.TypedMemory.{number_same}
use Rattle.step_meaning.proofs.ValuesInside.{none_is, some_is}

-- ---- elements of lists

pub from_each : {A : Type 0} (P : A → Type 0) (xs : List A) → ((i : ℕ) (x : A) → slice_get xs i ≡ Some x → P x) → AllByRecursion P xs
from_each P [] h = tt
from_each P (x ∷ xs) h = (h zero x refl, from_each P xs (λ i y e. h (suc i) y e))

-- an element of the first n is one of the list, with a number below n
pub among_first : (ss : List Step) (n i : ℕ) (s : Step) → At (take n ss) i s → (i < n) × At ss i s
among_first ss zero i s e = none_is s e
among_first [] (suc n) i s e = none_is s e
among_first (x ∷ xs) (suc n) zero s e = (omega arith, e)
among_first (x ∷ xs) (suc n) (suc i) s e = let r = among_first xs n i s e in (let l : i < n = r.0 in omega arith, r.1)

-- ---- the memory of an Enter step, where the Enter is one of the first steps

both_true : (b c : Bool) → b ≡ true → c ≡ true → b && c ≡ true
both_true true true e f = refl
both_true true false e f = f
both_true false c e f = e

chosen : (b : Bool) (m x y : Memory) → b ≡ true → cond b m x ≡ cond b m y
chosen true m x y e = refl
chosen false m x y e = absurd (no e)
  where
    no : false ≡ true → ⊥
    no e = cc

either_way : (b : Bool) (m x y : Memory) → x ≡ y → cond b m x ≡ cond b m y
either_way true m x y e = refl
either_way false m x y e = e

pub enter_among : (ss : List Step) (n a j : ℕ) (t : Step) → j < n → At ss j t → t.activation ≡ a → IsTrue (is_enter t.action) → enter_memory (take n ss) a ≡ enter_memory ss a
enter_among ss zero a j t l e same enter = absurd (omega arith)
enter_among [] (suc n) a j t l e same enter = none_is t e
enter_among (x ∷ xs) (suc n) a zero t l e same enter = chosen (is_enter x.action && x.activation == a) x.memory (enter_memory (take n xs) a) (enter_memory xs a) (subst (λ (s : Step). (is_enter s.action && s.activation == a) ≡ true) (sym (some_is x t e)) (both_true (is_enter t.action) (t.activation == a) enter (subst (λ k. (t.activation == k) ≡ true) same (number_same t.activation))))
enter_among (x ∷ xs) (suc n) a (suc j) t l e same enter = either_way (is_enter x.action && x.activation == a) x.memory (enter_memory (take n xs) a) (enter_memory xs a) (enter_among xs n a j t (omega arith) e same enter)

-- ---- the fold

to_step : (vs : List Verdict) (s : Step) (n : ℕ) (is : List Item) → items_to (suc n) (map Judged vs ++ (Made s ∷ is)) ≡ map Judged vs ++ (Made s ∷ items_to n is)
to_step [] s n is = refl
to_step (v ∷ vs) s n is = ap (λ more. Judged v ∷ more) (to_step vs s n is)

module _ (q : Core) (h : Hooks) (first whole : List Step) where
  -- both lists show a step the same memory of its activation's Enter
  abbrev SeenAlike : Step → Type 0
  SeenAlike s = enter_memory first s.activation ≡ enter_memory whole s.activation

  fold_alike : (more : List Step) (n : ℕ) (ghosts : Memory) → AllByRecursion SeenAlike (take n more) → fold_from q h first ghosts (take n more) ≡ items_to n (fold_from q h whole ghosts more)
  fold_alike more zero ghosts e = refl
  fold_alike [] (suc n) ghosts e = refl
  fold_alike (s ∷ more) (suc n) ghosts e =
      ap with_view view ∙ (ap (λ is. map Judged (verdicts_of_code (sight_of q whole s) code cells) ++ (Made s ∷ is)) (fold_alike more n after e.1) ∙ sym (to_step (verdicts_of_code (sight_of q whole s) code cells) s n (fold_from q h whole after more)))
    where
      code : List Stmt
      code = code_at h.points s

      cells : Memory
      cells = cells_at q h s ghosts

      after : Memory
      after = ghosts_after_code (sight_of q whole s) code cells

      with_view : Sight → List Item
      with_view v = map Judged (verdicts_of_code v code cells) ++ (Made s ∷ fold_from q h first (ghosts_after_code v code cells) (take n more))

      view : sight_of q first s ≡ sight_of q whole s
      view = ap (λ (m : Memory). record (sight_of q whole s) { before = m }) e.0

pub folds_prefixes : FoldsPrefixes
folds_prefixes q h ss traced n = fold_alike q h (take n ss) ss ss n (start_cells q h) (from_each (SeenAlike q h (take n ss) ss) (take n ss) alike)
  where
    alike : (i : ℕ) (s : Step) → At (take n ss) i s → SeenAlike q h (take n ss) ss s
    alike i s e =
        let m = among_first ss n i s e in
        let found = traced.entered i s m.1 in
        let below : found.0 < n = (let a : found.0 ≤ i = found.2 in let b : i < n = m.0 in omega arith) in
        enter_among ss n s.activation found.0 found.1 below found.3 found.4 found.5
