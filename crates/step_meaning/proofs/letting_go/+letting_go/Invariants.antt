use Rattle.std.proofs.Common.{◌≤◌, ◌+◌, ◌*◌, length}
use Rattle.step_meaning.specs.declared.expr.Expr.{size-Expr}
use Rattle.step_meaning.specs.declared.expr.Place_.{size-Place_}
use Rattle.step_meaning.specs.LettingGo.{rest_size}
use Rattle.step_meaning.proofs.letting_go.+letting_go.Given as goal

abbrev pub decreases-all_go : goal.decreases-all_go
decreases-all_go l = 6 * goal.size-all_go l + 8

abbrev pub decreases-first_of_place : goal.decreases-first_of_place
decreases-first_of_place l = 6 * size-Place_ l.p + 5

abbrev pub decreases-first_operand : goal.decreases-first_operand
decreases-first_operand l = 6 * size-Expr l.e + 5

abbrev pub decreases-let_go : goal.decreases-let_go
decreases-let_go l = 6 * rest_size l.rest

abbrev pub decreases-value_goes : goal.decreases-value_goes
decreases-value_goes l = 6 * size-Expr l.e + 7

abbrev pub invariant-all_go-loop-e : goal.invariant-all_go-loop-e
invariant-all_go-loop-e l = goal.no_deeper-all_go-loop-e l

abbrev pub decreases-all_go-loop-e : goal.decreases-all_go-loop-e
decreases-all_go-loop-e l = length l.rest

abbrev pub invariant-let_go-loop-rest : goal.invariant-let_go-loop-rest
invariant-let_go-loop-rest l = rest_size l.rest ≤ rest_size l.fn.rest

abbrev pub decreases-let_go-loop-rest : goal.decreases-let_go-loop-rest
decreases-let_go-loop-rest l = rest_size l.rest
