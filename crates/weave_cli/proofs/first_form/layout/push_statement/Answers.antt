use Rattle.std.proofs.Common.{◌≡◌, ◌∙◌, ap, map}
use Rattle.std.specs.String.{string_bytes}
use Rattle.c_parser.specs.FirstForm.Program.{function_of}
use Rattle.c_parser.specs.FirstForm.Spelling.{name_at, names_of}
use Rattle.weave_cli.proofs.FirstForm.LayoutLaws.{function_named}
use Rattle.weave_cli.proofs.first_form.layout.push_statement.Goals as goal

pub returns-in-Call : goal.returns-in-Call
returns-in-Call c =
    let named : c.function_name.result.now ≡ name_at (names_of (map function_of c.args.tree.now.functions.items)) c.in-Call.f =
    function_named c.args.tree.now.functions.items c.in-Call.f c.function_name.result.now
    (c.function_name.ensures ∙ ap (λ fs. name_at (map (λ g. string_bytes g.name) fs) c.in-Call.f) c.deref-in-Call.ensures.value)
    in rw (c.in-Call.is, ← named) c.push_call.ensures
