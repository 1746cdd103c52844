-- How examples of the typing rules are written: the abstract syntax of a text of one line, whose tokens stand at these bytes, and what is expected of it.
use Rattle.std.specs.Prelude.{ℕ, ◌+◌, ◌==◌, if◌then◌else◌, List, map, Option, Some, None, Ok, Err}
use Rattle.c_lexer.specs.declared.token.Refusal.{Refusal}
use Rattle.c_lexer.specs.declared.token.TokenKind.{TokenKind}
use Rattle.c_lexer.specs.declared.token.TokenKind.TheVariants as token
use Rattle.c_lexer.specs.declared.token.IntSuffix.{IntSuffix}
use Rattle.c_lexer.specs.declared.token.IntSuffix.TheVariants as suffix
use Rattle.c_words.specs.declared.word.Leaf.{Leaf}
use Rattle.c_words.specs.declared.word.Word.{Word}
use Rattle.c_words.specs.declared.word.Word.TheVariants as w
use Rattle.c_words.specs.declared.word.Mode.TheVariants as mode
use Rattle.c_grammar.specs.declared.types.Integer.TheVariants as i
use Rattle.c_grammar.specs.declared.types.Specifier.{Specifier}
use Rattle.c_grammar.specs.declared.types.Specifier.TheVariants as s
use Rattle.step_meaning.specs.declared.program.Core.{Core}
use Rattle.typing_rules.specs.Checked.{Checked, refusal_of}
use Rattle.typing_rules.specs.Syntax.{Modifier, Declarator, Initialiser, Declared, Parameter, Local, Members, Item, Spelled}
use Rattle.typing_rules.specs.Programs.{elaborated}

-- ---- tokens, from one byte up to another

abbrev pub leaf : Word → TokenKind → ℕ → ℕ → Leaf
leaf x k first past = record { word = x; token = record { kind = k; first = first; past = past; place = record { line = 1; column = first + 1 } } }

abbrev pub name : ℕ → ℕ → Leaf
name = leaf w.Name token.Name

abbrev pub suffixed : IntSuffix → ℕ → ℕ → Leaf
suffixed x = leaf w.Number (token.Number x)

abbrev pub number : ℕ → ℕ → Leaf
number = suffixed suffix.Plain

abbrev pub character : ℕ → ℕ → Leaf
character = leaf w.Character token.Character

abbrev pub word : Word → ℕ → ℕ → Leaf
word x = leaf x token.Keyword

abbrev pub mark : Word → ℕ → ℕ → Leaf
mark x = leaf x token.Punctuation

-- ---- types, of which the first word and the tag alone have places

abbrev pub int : ℕ → ℕ → Specifier
int a b = s.Integer (i.Int (word w.Int a b))

abbrev pub char : ℕ → ℕ → Specifier
char a b = s.Integer (i.Char (word w.Char a b))

abbrev pub unsigned_char : ℕ → ℕ → Specifier
unsigned_char a b = s.Integer (i.UnsignedChar (word w.Unsigned a b) (word w.Char a b))

abbrev pub short : ℕ → ℕ → Specifier
short a b = s.Integer (i.Short None (word w.Short a b) None)

abbrev pub unsigned : ℕ → ℕ → Specifier
unsigned a b = s.Integer (i.Unsigned (word w.Unsigned a b) None)

abbrev pub long : ℕ → ℕ → Specifier
long a b = s.Integer (i.Long None (word w.Long a b) None)

abbrev pub unsigned_long : ℕ → ℕ → Specifier
unsigned_long a b = s.Integer (i.UnsignedLong (word w.Unsigned a b) (word w.Long a b) None)

abbrev pub void : ℕ → ℕ → Specifier
void a b = s.Void (word w.Void a b)

abbrev pub struct : ℕ → ℕ → Specifier
struct a b = s.Struct (word w.Struct a b) (name a b)

abbrev pub spelled : Specifier → ℕ → Spelled
spelled x n = record { specifier = x; stars = n }

-- ---- declarations

abbrev pub declarator : Leaf → List Modifier → Declarator
declarator t ms = record { name = t; modifiers = ms }

abbrev pub declared : Leaf → List Modifier → Option Initialiser → Declared
declared t ms x = record { declarator = declarator t ms; initialiser = x }

abbrev pub parameter : Specifier → Option Leaf → Leaf → List Modifier → Parameter
parameter x t first ms = record { specifier = x; name = t; first = first; modifiers = ms }

abbrev pub local : Specifier → List Declared → Local
local x ds = record { specifier = x; declared = ds }

abbrev pub members : Specifier → List Declarator → Members
members x ds = record { specifier = x; declarators = ds }

-- ---- what is expected

-- a text that breaks the rule with this number at this column of its line; or none, where both are 0
pub record Row : Type 0 where
  pub text : List ℕ
  pub items : List Item
  pub code : ℕ
  pub column : ℕ

abbrev pub row : List ℕ → List Item → ℕ → ℕ → Row
row text items code column = record { text = text; items = items; code = code; column = column }

abbrev outcome : Checked Core → Option Refusal
outcome (Ok q) = None
outcome (Err e) = refusal_of e

abbrev pub outcomes : List Row → List (Option Refusal)
outcomes rows = map (λ r. outcome (elaborated mode.Source r.text r.items)) rows

abbrev expected : ℕ → ℕ → Option Refusal
expected code column = if code == 0 then None else Some (record { code = code; place = record { line = if column == 0 then 0 else 1; column = column } })

abbrev pub refusals : List Row → List (Option Refusal)
refusals rows = map (λ r. expected r.code r.column) rows
