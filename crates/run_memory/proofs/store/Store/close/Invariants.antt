use Rattle.std.proofs.Common.{◌≡◌, ◌-◌}
use Rattle.run_memory.specs.Storage.{with_locals, locals_in}
use Rattle.run_memory.proofs.store.Store.close.Given as goal

abbrev pub invariant-loop-i : goal.invariant-loop-i
invariant-loop-i l =
    (l.count ≡ locals_in l.fn.self.memory.frames)
    × (l.self ≡ record { memory = with_locals (l.count - l.i) l.fn.self.memory; chunk_limit = l.fn.self.chunk_limit; call_limit = l.fn.self.call_limit })
