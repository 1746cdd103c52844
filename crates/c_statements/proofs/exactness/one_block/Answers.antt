use Rattle.c_statements.proofs.ExactnessLaws.{reads_blocks, have_one_block}
use Rattle.c_statements.proofs.exactness.one_block.Goals as goal

pub returns-clause-reads : goal.returns-clause-reads
returns-clause-reads c = reads_blocks

pub returns-clause-one : goal.returns-clause-one
returns-clause-one c = have_one_block
