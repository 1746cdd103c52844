use Rattle.std.proofs.Common.{◌∙◌, sym, refl}
use Rattle.run_memory.specs.Start.{start_blocks}
use Rattle.run_memory.proofs.StartLaws.{none_filled, more_filled, value_numbered}
use Rattle.run_memory.proofs.make.initialise.Goals as goal

pub loop-offset-init : goal.loop-offset-init
loop-offset-init c = record { start = c.requires.start; filled_so = sym (none_filled c.args.index c.args.values.now (start_blocks c.args.pool.now c.args.globals.now)); size = refl }

pub put_initial-requires-clause-numbered : goal.put_initial-requires-clause-numbered
put_initial-requires-clause-numbered c = value_numbered c.args.values.now c.loop-offset.offset c.value_at.result c.requires.initial c.loop-offset-test.true c.value_at.ensures

pub loop-offset-preserved : goal.loop-offset-preserved
loop-offset-preserved c =
    record {
      start = c.put_initial.ensures.start;
      filled_so = more_filled c.args.index c.loop-offset.offset c.args.values.now c.value_at.result (start_blocks c.args.pool.now c.args.globals.now) (start_blocks c.loop-offset.pool c.args.globals.now) (start_blocks c.put_initial.new.pool c.args.globals.now) c.loop-offset-test.true c.value_at.ensures c.loop-offset.invariant.filled_so c.put_initial.ensures.put;
      size = c.put_initial.ensures.size ∙ c.loop-offset.invariant.size;
    }
