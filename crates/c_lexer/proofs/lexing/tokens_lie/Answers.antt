use Rattle.c_lexer.proofs.SpellingLaws.{tokens_spelled, tokens_follow, tokens_few}
use Rattle.c_lexer.proofs.lexing.tokens_lie.Goals as goal

pub returns : goal.returns
returns c = record { spelled = tokens_spelled; ordered = tokens_follow; few = tokens_few }
