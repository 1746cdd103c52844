-- Cells of several objects.
use Rattle.std.specs.Prelude.{ℕ, ◌+◌, List, [], ◌∷◌}
use Rattle.step_meaning.specs.declared.program.Declared.{Declared}
use Rattle.step_meaning.specs.declared.program.Layout.{Layout}
use Rattle.step_meaning.specs.TypeRules.{cells}

unfoldable pub declared_cells : List Layout → List Declared → ℕ
declared_cells layouts [] = 0
declared_cells layouts (d ∷ ds) = cells layouts d.ctype + declared_cells layouts ds
