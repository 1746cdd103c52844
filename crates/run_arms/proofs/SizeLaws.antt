-- How many registers the open activations have where the innermost one has ended.
use Rattle.std.proofs.Common.{◌≡◌, List, [], ◌∷◌, drop, refl}
use Rattle.step_meaning.specs.State.{Registers}
use Rattle.run_state.specs.Machine.{sizes_of}

pub sizes_after : (rs : List Registers) → sizes_of (drop 1 rs) ≡ drop 1 (sizes_of rs)
sizes_after [] = refl
sizes_after (r ∷ rs) = refl
