use Rattle.std.proofs.Common.{◌≡◌, ◌∷◌, take}
use Rattle.step_meaning.specs.State.{unset_registers}
use Rattle.run_state.proofs.registers.Registers.open.Given as goal

abbrev pub invariant-loop-register : goal.invariant-loop-register
invariant-loop-register l =
    l.self ≡ record { activations = unset_registers (take l.register-index l.declared) ∷ l.fn.self.activations; room = l.fn.self.room; calls = l.fn.self.calls }
