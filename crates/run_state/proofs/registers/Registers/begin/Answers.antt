use Rattle.std.proofs.Common.{◌<◌, reverse, arith}
use Rattle.std.specs.Vec.{vec_len, vec_capacity}
use Rattle.std.proofs.lemmas.List.{length-reverse}
use Rattle.run_state.proofs.RegisterLaws.{count_parted}
use Rattle.run_state.proofs.registers.Registers.begin.Goals as goal

pub unreachable-requires : goal.unreachable-requires
unreachable-requires c =
    let h = rw (← c.self.view_is) at c.requires in
    let n = count_parted c.self.inside.cells.items (reverse c.self.inside.starts.items) in
    let r = length-reverse c.self.inside.starts.items in
    let room : vec_len c.self.inside.starts < vec_capacity c.self.inside.starts = omega (arith, c.self.invariant.2, c.self.inside.starts.ok.0) in
    let failed = rw c.in-Err.is at (c.push.ensures.succeeds room) in
    cc
