use Rattle.step_meaning.specs.TypeRules.{cells}
use Rattle.run_values.proofs.BlockSizes.{no_block}
use Rattle.run_values.proofs.heap.block_count.Goals as goal

pub returns-in-None : goal.returns-in-None
returns-in-None c = no_block c.args.count (cells c.args.layouts.now c.args.of.now) c.in-None.ensures
