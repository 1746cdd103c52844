-- Cells of several objects, as a sum.
use Rattle.std.proofs.Common.{◌≡◌, ℕ, ◌+◌, ◌≤◌, List, [], ◌∷◌, drop, length, sum_by, refl, ap, ◌∙◌}
use Rattle.std.proofs.lemmas.List.{drop_all}
use Rattle.std.proofs.lemmas.List.Sums.{sum_by-cons}
use Rattle.step_meaning.specs.declared.program.Declared.{Declared}
use Rattle.step_meaning.specs.declared.program.Layout.{Layout}
use Rattle.step_meaning.specs.TypeRules.{cells}
use Rattle.typing_files.specs.CellSums.{declared_cells}

pub declared_first : (ls : List Layout) (ds : List Declared) → sum_by (λ d. cells ls d.ctype) ds ≡ declared_cells ls ds
unfolding declared_cells
declared_first ls [] = refl
declared_first ls (d ∷ ds) = sum_by-cons (λ d. cells ls d.ctype) d ds ∙ ap (λ n. cells ls d.ctype + n) (declared_first ls ds)

pub none_declared : (ls : List Layout) (ds : List Declared) (i : ℕ) → length ds ≤ i → declared_cells ls (drop i ds) ≡ 0
unfolding declared_cells
none_declared ls ds i past = ap (declared_cells ls) (drop_all i ds past)
