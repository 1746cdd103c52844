use Rattle.std.proofs.Common.{sym, ◌∙◌}
use Rattle.c_parser.specs.FirstForm.Program.{program_of}
use Rattle.weave_cli.proofs.FirstForm.LayoutLaws.{functions_text-split, joined}
use Rattle.weave_cli.proofs.first_form.layout.push_functions.Goals as goal

pub returns : goal.returns
returns c =
    let split = functions_text-split (program_of c.args.tree.now) c.args.tree.now.functions.items c.in-Some.others.now c.in-Some.main.now
    (sym c.as_slice.ensures.value ∙ c.in-Some.ensures.cases.0) in
    joined c.push_main.result _ _ _ _ _ _ c.push_main.ensures c.in_ok-push_others.ensures split
