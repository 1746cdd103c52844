use Rattle.std.proofs.Common.{◌≡◌, ◌++◌, map, take}
use Rattle.std.specs.String.{string_bytes}
use Rattle.weave_cli.specs.FirstForm.Layout as spec
use Rattle.weave_cli.proofs.first_form.layout.push_declarations.Given as goal

abbrev pub invariant-loop-x : goal.invariant-loop-x
invariant-loop-x l = l.text.items ≡ l.initial.text.items ++ spec.declarations_text (map string_bytes (take l.x-index l.globals))
