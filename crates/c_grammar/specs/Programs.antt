-- The grammar of programs (C11 6.9): what each tree writes, and which tokens a tree spells.
use Rattle.std.specs.Prelude.{◌≡◌, ℕ, ◌≤◌, Bool, true, false, not, ◌||◌, ◌&&◌, List, [], ◌∷◌, Option, Some, None}
use Rattle.std.specs.List.{list_all}
use Rattle.c_lexer.specs.declared.token.Token.{Token}
use Rattle.c_words.specs.declared.word.Mode.{Mode}
use Rattle.c_words.specs.declared.word.Mode.TheVariants as mode
use Rattle.c_words.specs.declared.word.Word.{Word}
use Rattle.c_words.specs.declared.word.Word.TheVariants as w
use Rattle.c_words.specs.declared.word.Leaf.{Leaf}
use Rattle.c_grammar.specs.declared.declaration.Parameter.{Parameter}
use Rattle.c_grammar.specs.declared.declaration.Parameter.TheVariants as p
use Rattle.c_grammar.specs.declared.declaration.Params.{Params}
use Rattle.c_grammar.specs.declared.declaration.Params.TheVariants as ps
use Rattle.c_grammar.specs.declared.program.Member.{Member}
use Rattle.c_grammar.specs.declared.program.Body.{Body}
use Rattle.c_grammar.specs.declared.program.Body.TheVariants as b
use Rattle.c_grammar.specs.declared.program.Item.{Item}
use Rattle.c_grammar.specs.declared.program.Item.TheVariants as i
use Rattle.c_grammar.specs.declared.program.ProgramTree.{ProgramTree}
use Rattle.c_words.specs.Words.{same, leaves_of}
use Rattle.c_words.specs.Written.{Written, nothing, ◌then◌, one, one_of, nested, only, optional, run, chain}
use Rattle.c_grammar.specs.Types.{base, consts, stars_alone}
use Rattle.c_words.specs.OperatorWords.{is_comma}
use Rattle.c_grammar.specs.Declarations.{sized, all_declared, params}
use Rattle.c_grammar.specs.Statements.{block}

unfoldable pub member : Member → Written
member m = consts m.consts then base m.base then chain is_comma sized m.declarators then one w.Semicolon m.semicolon

unfoldable pub body : Body → Written
body (b.Absent semicolon) = one w.Semicolon semicolon
body (b.Block a) = block a

-- what may stand before variables, and what before a function
abbrev pub is_variable_prefix : Word → Bool
is_variable_prefix x = same w.Static x || same w.Const x

abbrev pub is_function_prefix : Word → Bool
is_function_prefix x = same w.Extern x || is_variable_prefix x

-- each parameter of a function with a body has a name
abbrev pub is_named : Parameter → Bool
is_named (p.Named cs x a) = true
is_named (p.Nameless cs x stars brackets) = false

unfoldable pub all_named : Params → Bool
all_named ps.Empty = true
all_named (ps.Void t) = true
all_named (ps.List all) = is_named all.first && list_all (λ l. is_named l.operand) all.rest

abbrev pub fits_params : Params → Body → Bool
fits_params inside (b.Absent semicolon) = true
fits_params inside (b.Block a) = all_named inside

abbrev pub is_empty : {A : Type 0} → List A → Bool
is_empty [] = true
is_empty (x ∷ xs) = false

-- a struct has a member; `extern` stands before functions alone; a parameter without name stands in a prototype alone
unfoldable pub item : Item → Written
item (i.Struct word tag opening members closing names semicolon) =
    one w.Struct word then one w.Name tag then one w.LeftBrace opening then run (λ m. nested (member m)) members then only (not (is_empty members))
    then one w.RightBrace closing then optional all_declared names then one w.Semicolon semicolon
item (i.Variables prefixes x names semicolon) =
    run (one_of is_variable_prefix) prefixes then base x then all_declared names then one w.Semicolon semicolon
item (i.Function prefixes x stars name opening inside closing rest) =
    run (one_of is_function_prefix) prefixes then base x then stars_alone stars then one w.Name name
    then one w.LeftParen opening then params inside then one w.RightParen closing then only (fits_params inside rest) then body rest
item (i.Meta annotation) = one w.Meta annotation
item (i.Ghost annotation) = one w.Ghost annotation

abbrev pub program : ProgramTree → Written
program p = run item p.items

-- how deep a text may nest
abbrev pub nesting_limit : Mode → ℕ
nesting_limit mode.Source = 64
nesting_limit mode.Woven = 1024

-- The tree is one of the tokens of the text: it is levelled, and it writes all tokens that the mode keeps.
pub record Spells (m : Mode) (text : List ℕ) (tokens : List Token) (p : ProgramTree) : Type 0 where
  pub spelled : leaves_of m text tokens ≡ (program p).leaves
  pub levelled : (program p).levelled ≡ true

-- the same within the nesting limit
pub record IsTreeOf (m : Mode) (text : List ℕ) (tokens : List Token) (p : ProgramTree) : Type 0 where
  pub spells : Spells m text tokens p
  pub within : (program p).nesting ≤ nesting_limit m

-- no tree within the limit stands for the tokens
abbrev pub HasNoTree : Mode → List ℕ → List Token → Type 0
HasNoTree m text tokens = (p : ProgramTree) → IsTreeOf m text tokens p → ⊥

-- tokens have at most one levelled tree, however deep it nests
abbrev pub HaveOneTree : Type 0
HaveOneTree = (m : Mode) (text : List ℕ) (tokens : List Token) (p q : ProgramTree) → Spells m text tokens p → Spells m text tokens q → p ≡ q
