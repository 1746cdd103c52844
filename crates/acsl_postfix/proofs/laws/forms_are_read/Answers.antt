use Rattle.acsl_postfix.proofs.WholeForms.{predicate_read, term_read, predicate_found, term_found}
use Rattle.acsl_postfix.proofs.laws.forms_are_read.Goals as goal

pub returns : goal.returns
returns c = record { predicates = predicate_read; terms = term_read; predicates_read = predicate_found; terms_read = term_found }
