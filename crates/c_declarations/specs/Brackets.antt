-- Reading of a size in brackets. The size is read by the parser that is passed in.
use Rattle.c_words.specs.declared.word.Word.TheVariants as w
use Rattle.c_grammar.specs.declared.expression.Choice.{Choice}
use Rattle.c_words.specs.Parsing.{Parser, ◌>>=◌, pure, expect}
use Rattle.c_declarations.specs.declared.bracket.Bracket.{Bracket}

unfoldable pub bracketed : Parser Choice → Parser Bracket
bracketed choice = do
  opening ← expect w.LeftBracket
  size ← choice
  closing ← expect w.RightBracket
  pure (record { left = opening; size = size; right = closing })
