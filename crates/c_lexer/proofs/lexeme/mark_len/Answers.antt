use Rattle.std.proofs.Common.{ap, sym, ◌==◌, ◌∙◌}
use Rattle.std.specs.Prelude.{codes}
use Rattle.std.specs.List.{list_any}
use Rattle.c_lexer.proofs.StringLemmas.{lone_within, lone_mark, lone_longest}
use Rattle.c_lexer.proofs.lexeme.mark_len.Goals as goal

pub returns-then-is_lone : goal.returns-then-is_lone
returns-then-is_lone c =
    let text = c.args.text.now in
    let lone = ap (λ b. list_any (λ c. b == c) (codes "{}()[];,~?:")) (sym c.byte_at.ensures) ∙ sym c.is_lone.ensures ∙ c.if-is_lone.true in
    record { within = lone_within text lone; mark = λ _. lone_mark c.args.profile text lone; longest = lone_longest c.args.profile text lone }
