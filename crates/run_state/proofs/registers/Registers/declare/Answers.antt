use Rattle.std.proofs.Common.{◌<◌, ◌≤◌, length, reverse, arith, ap}
use Rattle.std.specs.Vec.{vec_len, vec_capacity}
use Rattle.std.proofs.lemmas.List.{length-append}
use Rattle.step_meaning.specs.declared.value.Cell.TheVariants.{Nothing}
use Rattle.run_state.specs.declared.registers.Register.{Register}
use Rattle.run_state.proofs.RegisterLaws.{count_parted, total_parted, declared, more_starts}
use Rattle.run_state.proofs.registers.Registers.declare.Goals as goal

pub unreachable-requires : goal.unreachable-requires
unreachable-requires c =
    let h = rw (← c.self.view_is) at c.requires.room in
    let n = total_parted c.self.inside.cells.items (reverse c.self.inside.starts.items) c.self.invariant.0 in
    let room : vec_len c.self.inside.cells < vec_capacity c.self.inside.cells = omega (arith, c.self.invariant.1, c.self.inside.cells.ok.0) in
    let failed = rw c.in-Err.is at (c.push.ensures.succeeds room) in
    cc

pub invariant_of-self : goal.invariant_of-self
invariant_of-self c =
    let cells = c.self.inside.cells.items in
    let ss = reverse c.self.inside.starts.items in
    let h = rw (← c.self.view_is) at c.requires.inside in
    let n = count_parted cells ss in
    let more : length cells ≤ length c.push.new.self.items = rw (c.in-Ok.ensures.items, length-append) (omega arith) in
    (more_starts (length cells) (length c.push.new.self.items) ss (omega arith) more c.self.invariant.0, omega (arith, c.self.invariant.1, c.in-Ok.ensures.capacity), c.self.invariant.2)

pub returns : goal.returns
returns c =
    let cells = c.self.inside.cells.items in
    let ss = reverse c.self.inside.starts.items in
    let h = rw (← c.self.view_is) at c.requires.inside in
    let n = count_parted cells ss in
    let new : Register = record { ctype = c.args.ctype; cell = Nothing } in
    rw (← c.self.view_is, c.in-Ok.ensures.items)
    (ap (λ rs. record { activations = rs; room = c.self.inside.room; calls = c.self.inside.calls }) (declared cells new ss (omega arith) c.self.invariant.0))
