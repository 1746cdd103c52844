-- What the tree of a text says, as the laws on typing ask it of a parsed text.
use Rattle.std.specs.Prelude.{ℕ, List, None}
use Rattle.c_lexer.specs.declared.token.Token.{Token}
use Rattle.c_lexer.specs.Lexing.{Tokens}
use Rattle.c_words.specs.declared.word.Mode.{Mode}
use Rattle.c_words.specs.declared.word.Mode.TheVariants as mode
use Rattle.c_grammar.specs.declared.program.ProgramTree.{ProgramTree}
use Rattle.c_grammar.specs.Programs.{IsTreeOf}
use Rattle.typing_rules.specs.TreesOfDeclarations.{program}
use Rattle.typing_laws.specs.ParsedSyntax.{ItemsParsed}
use Rattle.typing_laws.specs.ShallowSyntax.{ItemsShallow}

-- each tree of a text's tokens is parsed
abbrev pub TreesAreParsed : Type 0
TreesAreParsed = (m : Mode) (text : List ℕ) (tokens : List Token) (p : ProgramTree) → Tokens text tokens None → IsTreeOf m text tokens p → ItemsParsed text (program p)

-- each tree of a source nests at most 64 deep
abbrev pub SourcesAreShallow : Type 0
SourcesAreShallow = (text : List ℕ) (tokens : List Token) (p : ProgramTree) → Tokens text tokens None → IsTreeOf mode.Source text tokens p → ItemsShallow (program p)
