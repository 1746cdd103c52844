use Rattle.c_declarations.proofs.ExactnessLaws.{reads_declarations, reads_parameters, have_one_declaration}
use Rattle.c_declarations.proofs.exactness.one_declaration.Goals as goal

pub returns-clause-reads : goal.returns-clause-reads
returns-clause-reads c = reads_declarations

pub returns-clause-parameters : goal.returns-clause-parameters
returns-clause-parameters c = reads_parameters

pub returns-clause-one : goal.returns-clause-one
returns-clause-one c = have_one_declaration
