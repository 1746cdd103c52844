-- The turn of a machine that runs.
use Rattle.run_state.specs.Machine.{configuration_of, fixed_of, pending_of, told_of}
use Rattle.run_laws.proofs.Granted.{may}
use Rattle.run_check.proofs.Pops.{three_free}
use Rattle.run_check.proofs.TurnLaws.{few_steps, inside, makes, moves, no_cells, weighs_less}
use Rattle.run_check.proofs.run.turned.Goals as goal

pub turn-requires-clause-free : goal.turn-requires-clause-free
turn-requires-clause-free c =
    let x = c.args.run.now.machine in
    three_free c.args.run.now.steps x (pending_of x.core.now c.args.part) c.requires.runs

pub turn-requires-clause-may : goal.turn-requires-clause-may
turn-requires-clause-may c =
    let x = c.args.run.now.machine in
    let p = pending_of x.core.now c.args.part in
    may c.args.run.now.steps x (few_steps c.args.run.now.steps c.requires.few) p (inside p c.requires.part) c.requires.runs (no_cells x p (told_of x.told) c.requires.part)

pub returns-clause-moved : goal.returns-clause-moved
returns-clause-moved c =
    let x = c.args.run.now.machine in
    moves c.args.run.now.steps (fixed_of x) (pending_of x.core.now c.args.part) (configuration_of x) c.requires.part c.requires.few c.requires.runs c.turn.result (fixed_of c.turn.new.machine) (configuration_of c.turn.new.machine) c.turn.ensures.fixed c.turn.ensures.made c.turn.ensures.turned

pub returns-clause-falls : goal.returns-clause-falls
returns-clause-falls c =
    let x = c.args.run.now.machine in
    weighs_less c.args.run.now.steps (fixed_of x) (pending_of x.core.now c.args.part) (configuration_of x) c.requires.part c.requires.few c.requires.runs c.turn.result (configuration_of c.turn.new.machine) c.turn.ensures.made c.turn.ensures.turned

pub returns-clause-made : goal.returns-clause-made
returns-clause-made c =
    let x = c.args.run.now.machine in
    makes c.args.run.now.steps (fixed_of x) (pending_of x.core.now c.args.part) (configuration_of x) c.requires.part c.requires.few c.requires.runs c.turn.result (fixed_of c.turn.new.machine) (configuration_of c.turn.new.machine) c.turn.ensures.fixed c.turn.ensures.made c.turn.ensures.turned
