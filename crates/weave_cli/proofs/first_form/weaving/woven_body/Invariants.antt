use Rattle.std.proofs.Common.{◌≡◌, ◌++◌, take}
use Rattle.weave_cli.specs.FirstForm.Weaving as spec
use Rattle.weave_cli.proofs.first_form.weaving.woven_body.Given as goal

abbrev pub invariant-loop-statement : goal.invariant-loop-statement
invariant-loop-statement l = l.woven.items ≡ spec.separator l.body ++ spec.woven_statements l.x (take l.statement-index l.body)
