use Rattle.c_expressions.proofs.ExactnessLaws.{reads_expressions, have_one_expression}
use Rattle.c_expressions.proofs.exactness.one_expression.Goals as goal

pub returns-clause-reads : goal.returns-clause-reads
returns-clause-reads c = reads_expressions

pub returns-clause-one : goal.returns-clause-one
returns-clause-one c = have_one_expression
