use Rattle.std.proofs.Common.{◌≡◌, take}
use Rattle.step_meaning.specs.Calls.{with_frame}
use Rattle.run_memory.proofs.OpenLaws.{all}
use Rattle.run_memory.proofs.store.Store.begin.Given as goal

abbrev pub invariant-loop-i : goal.invariant-loop-i
invariant-loop-i l =
    l.self ≡ record { memory = with_frame (record { activation = l.activation; locals = take l.i (all l.layouts l.variables l.arguments) }) l.fn.self.memory; chunk_limit = l.fn.self.chunk_limit; call_limit = l.fn.self.call_limit }
