-- The core that the bytes of a text stand for, and why they stand for none.
use Rattle.std.specs.Prelude.{◌≡◌, ◌≢◌, ℕ, List, Option, None, Ok, Err}
use Rattle.c_lexer.specs.declared.token.Token.{Token}
use Rattle.c_lexer.specs.declared.token.Refusal.{Refusal}
use Rattle.c_lexer.specs.Lexing as lexing
use Rattle.c_lexer.specs.Lexing.{Tokens, IsFaultOf}
use Rattle.c_words.specs.declared.word.Mode.{Mode}
use Rattle.c_words.specs.declared.fault.ParseFault.TheVariants as parsing
use Rattle.c_words.specs.Parsing as parse
use Rattle.c_grammar.specs.declared.program.ProgramTree.{ProgramTree}
use Rattle.c_grammar.specs.Programs.{IsTreeOf, HasNoTree}
use Rattle.step_meaning.specs.declared.program.Core.{Core}
use Rattle.typing_rules.specs.declared.fault.TypeFault.TheVariants as fault
use Rattle.typing_rules.specs.Checked as checked
use Rattle.typing_rules.specs.Programs.{elaboration}
use Rattle.c_texts.specs.declared.fault.TextFault.{TextFault}
use Rattle.c_texts.specs.declared.fault.TextFault.TheVariants.{Lex, Syntax, «Type» as Typed}

-- the tokens and the tree of a text: there is one of each at most
pub record Parsed (m : Mode) (text : List ℕ) : Type 0 where
  pub tokens : List Token
  pub tree : ProgramTree
  pub lexed : Tokens text tokens None
  pub parsed : IsTreeOf m text tokens tree

-- the text has tokens and a tree, and its elaboration gives this core
pub record StandsFor (m : Mode) (text : List ℕ) (q : Core) : Type 0 where
  pub read : Parsed m text
  pub elaborated : elaboration m text read.tree ≡ Ok q

-- tokens that no tree stands for
pub record IsUnparsed (m : Mode) (text : List ℕ) : Type 0 where
  pub tokens : List Token
  pub lexed : Tokens text tokens None
  pub none : HasNoTree m text tokens

-- the first refusal, unless memory fails
abbrev pub IsRefused : Mode → List ℕ → TextFault → Type 0
IsRefused m text (Lex e) = IsFaultOf (Tokens text) e
IsRefused m text (Syntax e) = e ≢ parsing.Memory → IsUnparsed m text
IsRefused m text (Typed e) = e ≢ fault.Memory → (read : Parsed m text) × (elaboration m text read.tree ≡ Err e)

abbrev pub refusal_of : TextFault → Option Refusal
refusal_of (Lex e) = lexing.refusal_of e
refusal_of (Syntax e) = parse.refusal_of e
refusal_of (Typed e) = checked.refusal_of e
