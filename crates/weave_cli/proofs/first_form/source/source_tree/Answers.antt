use Rattle.std.proofs.Common.{subst, sym}
use Rattle.c_lexer.specs.FirstForm.Tokens.{AreTokensOf}
use Rattle.weave_cli.proofs.AnswerLaws.{no_program}
use Rattle.weave_cli.proofs.first_form.source.source_tree.Goals as goal

pub returns-clause-none : goal.returns-clause-none
returns-clause-none c =
    let lexed = rw c.in-Some.is at c.in_ok-tokens.ensures.found in
    no_program c.args.text.now c.deref.result.now c.first_tree.result
    (subst (λ ts. AreTokensOf c.args.text.now ts) (sym c.deref.ensures.value) lexed)
    c.first_tree.ensures.none
