-- How many registers an activation begins with.
use Rattle.std.proofs.Common.{◌≡◌, List, [], ◌∷◌, length, suc, refl, ap}
use Rattle.step_meaning.specs.declared.program.Declared.{Declared}
use Rattle.step_meaning.specs.State.{unset_registers}

pub unset_sizes : (ds : List Declared) → length (unset_registers ds) ≡ length ds
unset_sizes [] = refl
unset_sizes (d ∷ ds) = ap suc (unset_sizes ds)
