use Rattle.acsl_steps.proofs.PredicateRuns.{whole_term, whole_predicate}
use Rattle.acsl_steps.proofs.laws.forms_make_meanings.Goals as goal

pub returns : goal.returns
returns c = record { terms = whole_term; predicates = whole_predicate }
