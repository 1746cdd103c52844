use Rattle.std.proofs.Common.{◌≡◌, ◌++◌, take}
use Rattle.c_parser.specs.FirstForm.Program.{program_of}
use Rattle.weave_cli.specs.FirstForm.Layout as spec
use Rattle.weave_cli.proofs.first_form.layout.push_body.Given as goal

abbrev pub invariant-loop-statement : goal.invariant-loop-statement
invariant-loop-statement l = l.text.items ≡ l.initial.text.items ++ spec.body_text (program_of l.tree) (take l.statement-index l.body)
