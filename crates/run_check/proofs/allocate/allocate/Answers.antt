-- The block is made, or there isn't one, or it has no room.
use Rattle.std.proofs.Common.{◌≡◌, ◌*◌, true, false, ap}
use Rattle.step_meaning.specs.Limits.{chunks}
use Rattle.step_meaning.specs.Names.{integer}
use Rattle.step_meaning.specs.Numbers.{low_bits}
use Rattle.step_meaning.specs.TypeRules.{cells}
use Rattle.run_state.specs.Machine.{configuration_of, fixed_of, told_of}
use Rattle.run_turns.specs.Pending as pending
use Rattle.run_check.specs.Advancing.{block_fits}
use Rattle.run_check.proofs.AllocateLaws.{allocate_lacks, allocate_makes, allocate_runs, fits_seen, may_allocate, turned}
use Rattle.run_check.proofs.Pops.{one_free, runs_next, three_free}
use Rattle.run_check.proofs.TurnLaws.{few_steps}
use Rattle.run_check.proofs.allocate.allocate.Goals as goal

pub push-requires : goal.push-requires
push-requires c = one_free c.args.run.now.steps c.args.run.now.machine (pending.Operate (pending.Allocate c.args.ctype.now)) c.requires.runs

pub returns-then-not-fits-clause-advances : goal.returns-then-not-fits-clause-advances
returns-then-not-fits-clause-advances c left held =
    let x = c.args.run.now.machine in
    let lacks : block_fits (low_bits 64 (integer c.in-Gave.v) * cells x.core.now.layouts c.args.ctype.now) (chunks x.memory.memory) x.memory.chunk_limit ≡ false =
    fits_seen x.core.now.layouts c.as_slice-layouts.result.now c.args.ctype.now c.in-Gave.v c.chunks-used.result (chunks x.memory.memory) c.chunk_limit-limit.result x.memory.chunk_limit c.fits.result false c.as_slice-layouts.ensures c.chunks-used.ensures c.chunk_limit-limit.ensures c.fits.ensures c.if-not-fits.true in
    rw c.push.ensures (allocate_lacks c.args.run.now.steps x c.args.ctype.now c.in-Gave.v (ap told_of c.in-Gave.is) c.requires.runs lacks left held)

pub turn-requires-clause-free : goal.turn-requires-clause-free
turn-requires-clause-free c = three_free c.args.run.now.steps c.args.run.now.machine (pending.Operate (pending.Allocate c.args.ctype.now)) c.requires.runs

pub turn-requires-clause-may : goal.turn-requires-clause-may
turn-requires-clause-may c =
    let x = c.args.run.now.machine in
    let fits : block_fits (low_bits 64 (integer c.in-Gave.v) * cells x.core.now.layouts c.args.ctype.now) (chunks x.memory.memory) x.memory.chunk_limit ≡ true =
    fits_seen x.core.now.layouts c.as_slice-layouts.result.now c.args.ctype.now c.in-Gave.v c.chunks-used.result (chunks x.memory.memory) c.chunk_limit-limit.result x.memory.chunk_limit c.fits.result true c.as_slice-layouts.ensures c.chunks-used.ensures c.chunk_limit-limit.ensures c.fits.ensures c.if-not-fits.false in
    may_allocate c.args.run.now.steps x c.args.ctype.now c.in-Gave.v (ap told_of c.in-Gave.is) c.requires.runs (few_steps c.args.run.now.steps c.requires.few) fits

pub returns-clause-after : goal.returns-clause-after
returns-clause-after c e =
    let x = c.args.run.now.machine in
    runs_next c.args.run.now.steps (fixed_of x) (fixed_of c.turn.new.machine) (turned c.args.run.now.steps x c.args.ctype.now c.in-Gave.v (ap told_of c.in-Gave.is) c.requires.runs) (configuration_of c.turn.new.machine) c.turn.ensures.fixed c.turn.ensures.turned
    (allocate_runs c.args.run.now.steps x c.args.ctype.now c.in-Gave.v (ap told_of c.in-Gave.is) c.requires.runs (few_steps c.args.run.now.steps c.requires.few))

pub returns-clause-advances : goal.returns-clause-advances
returns-clause-advances c left held =
    let x = c.args.run.now.machine in
    let fits : block_fits (low_bits 64 (integer c.in-Gave.v) * cells x.core.now.layouts c.args.ctype.now) (chunks x.memory.memory) x.memory.chunk_limit ≡ true =
    fits_seen x.core.now.layouts c.as_slice-layouts.result.now c.args.ctype.now c.in-Gave.v c.chunks-used.result (chunks x.memory.memory) c.chunk_limit-limit.result x.memory.chunk_limit c.fits.result true c.as_slice-layouts.ensures c.chunks-used.ensures c.chunk_limit-limit.ensures c.fits.ensures c.if-not-fits.false in
    rw c.turn.ensures.turned (allocate_makes c.args.run.now.steps x c.args.ctype.now c.in-Gave.v (ap told_of c.in-Gave.is) c.requires.runs fits left held)
