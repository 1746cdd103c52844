use Rattle.c_parser.specs.FirstForm.Reading as spec
use Rattle.c_parser.proofs.FirstForm.Many.{Turn}
use Rattle.c_parser.proofs.first_form.statement.body.Given as goal

abbrev pub invariant-loop-found : goal.invariant-loop-found
invariant-loop-found l =
    Turn spec.body_goes_on (spec.next_statement l.scope.mode l.scope.variables l.scope.names) (spec.body l.scope.mode l.scope.variables l.scope.names l.fn.reader) l.found.items l.reader

abbrev pub decreases-loop-found : goal.decreases-loop-found
decreases-loop-found l = l.reader.budget
