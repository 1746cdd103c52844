use Rattle.std.proofs.Common.{subst}
use Rattle.std.proofs.lemmas.List.{take_rest}
use Rattle.c_lexer.specs.Comments.{ClosesFirst, closed}
use Rattle.c_lexer.proofs.comment.block_comment.Goals as goal

pub returns-in-Some : goal.returns-in-Some
returns-in-Some c = closed c.in-Some.at (subst (λ t. ClosesFirst t c.in-Some.at) (take_rest c.args.text.now 2) c.in-Some.ensures) c.comment.ensures
