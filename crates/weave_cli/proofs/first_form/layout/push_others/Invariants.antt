use Rattle.std.proofs.Common.{◌≡◌, ◌++◌, map, take}
use Rattle.c_parser.specs.FirstForm.Program.{program_of, function_of}
use Rattle.weave_cli.specs.FirstForm.Layout as spec
use Rattle.weave_cli.proofs.first_form.layout.push_others.Given as goal

abbrev pub invariant-loop-function : goal.invariant-loop-function
invariant-loop-function l = l.text.items ≡ l.initial.text.items ++ spec.others_text (program_of l.tree) (map function_of (take l.function-index l.functions))
