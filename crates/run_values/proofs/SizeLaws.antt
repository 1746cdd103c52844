-- How many registers the open activations have where one is written.
use Rattle.std.proofs.Common.{◌≡◌, ℕ, zero, suc, List, [], ◌∷◌, length, refl, ap}
use Rattle.step_meaning.specs.declared.value.Value.{Value}
use Rattle.step_meaning.specs.State.{Registers, set_register}
use Rattle.run_state.specs.Machine.{sizes_of}
use Rattle.run_state.specs.Registers.{innermost, with_innermost}

as_many : (r : Registers) (i : ℕ) (v : Value) → length (set_register r i v) ≡ length r
as_many [] i v = refl
as_many (s ∷ r) zero v = refl
as_many (s ∷ r) (suc i) v = ap suc (as_many r i v)

pub sizes_written : (rs : List Registers) (i : ℕ) (v : Value) → sizes_of (with_innermost (set_register (innermost rs) i v) rs) ≡ sizes_of rs
sizes_written [] i v = refl
sizes_written (r ∷ rs) i v = ap (λ n. n ∷ sizes_of rs) (as_many r i v)
