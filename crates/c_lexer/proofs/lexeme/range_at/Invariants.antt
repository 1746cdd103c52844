use Rattle.c_lexer.specs.Lexemes.{HasNoRange}
use Rattle.c_lexer.proofs.lexeme.range_at.Given as goal

abbrev pub invariant-loop-at : goal.invariant-loop-at
invariant-loop-at l = HasNoRange l.text l.at
