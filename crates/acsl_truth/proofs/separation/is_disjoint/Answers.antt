use Rattle.std.proofs.Common.{subst}
use Rattle.acsl_truth.specs.Ranges.{Denotes}
use Rattle.acsl_truth.proofs.RangeLaws.{disjoint_where_known}
use Rattle.acsl_truth.proofs.separation.is_disjoint.Goals as goal

pub returns-in-Some : goal.returns-in-Some
returns-in-Some c = λ cs o h d. disjoint_where_known c.args.range c.in-Some.other cs o c.do_meet.result h (subst (λ r. Denotes r o) c.in-Some.is d) c.do_meet.ensures
