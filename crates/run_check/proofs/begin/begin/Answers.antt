-- The activation begins, or a limit stands against it.
use Rattle.std.proofs.Common.{◌+◌, ◌<◌, ◌≤◌, length, arith}
use Rattle.step_meaning.specs.Limits.{chunks}
use Rattle.run_memory.specs.Storage.{variables_chunks}
use Rattle.run_state.specs.Machine.{body_of, configuration_of, fixed_of}
use Rattle.run_turns.specs.Pending as pending
use Rattle.run_turns.specs.Turns.{entered}
use Rattle.run_steps.specs.Turning.{begun}
use Rattle.run_check.proofs.BeginLaws.{begin_makes, begin_runs, has_room, lacks_room, locals_sized, may_begin, stops_at_calls, stops_at_cells}
use Rattle.run_check.proofs.Pops.{one_free, runs_next, two_free}
use Rattle.run_check.proofs.TurnLaws.{few_steps}
use Rattle.run_check.proofs.begin.begin.Goals as goal

pub push-requires : goal.push-requires
push-requires c = one_free c.args.run.now.steps c.args.run.now.machine (pending.Enter c.args.number c.args.n) c.requires.runs

pub returns-then-len-calls-clause-advances : goal.returns-then-len-calls-clause-advances
returns-then-len-calls-clause-advances c left held =
    let x = c.args.run.now.machine in
    let limit = c.requires.calls in
    let t = c.if-len-calls.true in
    let l = c.len.ensures in
    let many : x.memory.call_limit ≤ length x.callers.0 = omega (arith, limit, t, l) in
    rw c.push.ensures (stops_at_calls c.args.run.now.steps x c.args.number c.args.n c.requires.runs c.in-Some.function.now c.in-Some.ensures many left held)

pub has_room-requires : goal.has_room-requires
has_room-requires c = rw (c.as_slice-layouts.ensures, c.as_slice.ensures) (locals_sized c.args.run.now.steps c.args.run.now.machine c.args.number c.args.n c.requires.runs c.in-Some.function.now c.in-Some.ensures)

pub push-requires-then-not-has_room : goal.push-requires-then-not-has_room
push-requires-then-not-has_room c = one_free c.args.run.now.steps c.args.run.now.machine (pending.Enter c.args.number c.args.n) c.requires.runs

pub returns-then-not-has_room-clause-advances : goal.returns-then-not-has_room-clause-advances
returns-then-not-has_room-clause-advances c left held =
    let x = c.args.run.now.machine in
    let limit = c.requires.calls in
    let t = c.if-len-calls.false in
    let l = c.len.ensures in
    let few : length x.callers.0 < x.memory.call_limit = omega (arith, limit, t, l) in
    let many : x.memory.chunk_limit < chunks x.memory.memory + variables_chunks x.core.now.layouts c.in-Some.function.now.locals = lacks_room x.core.now.layouts c.as_slice-layouts.result.now c.in-Some.function.now.locals c.as_slice.result.now (chunks x.memory.memory) x.memory.chunk_limit c.has_room.result c.as_slice-layouts.ensures c.as_slice.ensures c.has_room.ensures c.if-not-has_room.true in
    rw c.push-then-not-has_room.ensures (stops_at_cells c.args.run.now.steps x c.args.number c.args.n c.requires.runs c.in-Some.function.now c.in-Some.ensures few many left held)

pub enter-requires-clause-free : goal.enter-requires-clause-free
enter-requires-clause-free c = two_free c.args.run.now.steps c.args.run.now.machine (pending.Enter c.args.number c.args.n) c.requires.runs

pub enter-requires-clause-may : goal.enter-requires-clause-may
enter-requires-clause-may c =
    let x = c.args.run.now.machine in
    let limit = c.requires.calls in
    let t = c.if-len-calls.false in
    let l = c.len.ensures in
    let few : length x.callers.0 < x.memory.call_limit = omega (arith, limit, t, l) in
    may_begin c.args.run.now.steps x c.args.number c.args.n c.requires.runs c.in-Some.function.now c.in-Some.ensures (few_steps c.args.run.now.steps c.requires.few) few (has_room x.core.now.layouts c.as_slice-layouts.result.now c.in-Some.function.now.locals c.as_slice.result.now (chunks x.memory.memory) x.memory.chunk_limit c.has_room.result c.as_slice-layouts.ensures c.as_slice.ensures c.has_room.ensures c.if-not-has_room.false)

pub returns-clause-after : goal.returns-clause-after
returns-clause-after c e =
    let x = c.args.run.now.machine in
    let limit = c.requires.calls in
    let t = c.if-len-calls.false in
    let l = c.len.ensures in
    let few : length x.callers.0 < x.memory.call_limit = omega (arith, limit, t, l) in
    runs_next c.args.run.now.steps (begun (length c.in-Some.function.now.registers) (fixed_of x)) (fixed_of c.enter.new.machine) (entered x.core.now c.args.number c.in-Some.function.now (body_of x.core.now c.args.number) c.args.n (configuration_of x)) (configuration_of c.enter.new.machine) c.enter.ensures.fixed c.enter.ensures.turned
    (begin_runs c.args.run.now.steps x c.args.number c.args.n c.requires.runs c.in-Some.function.now c.in-Some.ensures (few_steps c.args.run.now.steps c.requires.few) few (has_room x.core.now.layouts c.as_slice-layouts.result.now c.in-Some.function.now.locals c.as_slice.result.now (chunks x.memory.memory) x.memory.chunk_limit c.has_room.result c.as_slice-layouts.ensures c.as_slice.ensures c.has_room.ensures c.if-not-has_room.false))

pub returns-clause-advances : goal.returns-clause-advances
returns-clause-advances c left held =
    let x = c.args.run.now.machine in
    let limit = c.requires.calls in
    let t = c.if-len-calls.false in
    let l = c.len.ensures in
    let few : length x.callers.0 < x.memory.call_limit = omega (arith, limit, t, l) in
    rw c.enter.ensures.turned
    (begin_makes c.args.run.now.steps x c.args.number c.args.n c.requires.runs c.in-Some.function.now c.in-Some.ensures few (has_room x.core.now.layouts c.as_slice-layouts.result.now c.in-Some.function.now.locals c.as_slice.result.now (chunks x.memory.memory) x.memory.chunk_limit c.has_room.result c.as_slice-layouts.ensures c.as_slice.ensures c.has_room.ensures c.if-not-has_room.false) left held)
