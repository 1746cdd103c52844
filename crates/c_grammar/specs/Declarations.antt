-- The grammar of declarators (C11 6.7.6), initialisers (6.7.9) and parameters: what each tree writes.
use Rattle.std.specs.Prelude.{ℕ, Bool, true, false, not, is_none, List, [], ◌∷◌, Option, Some, None}
use Rattle.c_words.specs.declared.word.Word.TheVariants as w
use Rattle.c_words.specs.declared.word.Leaf.{Leaf}
use Rattle.c_words.specs.declared.chain.Chain.{Chain}
use Rattle.c_words.specs.declared.chain.Link.{Link}
use Rattle.c_grammar.specs.declared.types.Specifier.{Specifier}
use Rattle.c_grammar.specs.declared.types.Specifier.TheVariants as s
use Rattle.c_grammar.specs.declared.types.Base.{Base}
use Rattle.c_grammar.specs.declared.types.Star.{Star}
use Rattle.c_grammar.specs.declared.declaration.Direct.TheOpen.{Declarator-F, Direct-F}
use Rattle.c_grammar.specs.declared.declaration.Declarator.{Declarator, fold-Declarator}
use Rattle.c_grammar.specs.declared.declaration.Direct.{Direct, fold-Direct}
use Rattle.c_grammar.specs.declared.declaration.Init.{Init, fold-Init}
use Rattle.c_grammar.specs.declared.declaration.Init.TheOpen.{Init-F}
use Rattle.c_grammar.specs.declared.declaration.Declared.{Declared}
use Rattle.c_grammar.specs.declared.declaration.Declared.TheVariants as d
use Rattle.c_grammar.specs.declared.declaration.Sizes.{Sizes, fold-Sizes}
use Rattle.c_grammar.specs.declared.declaration.Sizes.TheOpen.{Sizes-F}
use Rattle.c_grammar.specs.declared.declaration.Parameter.{Parameter}
use Rattle.c_grammar.specs.declared.declaration.Parameter.TheVariants as p
use Rattle.c_grammar.specs.declared.declaration.Params.{Params}
use Rattle.c_grammar.specs.declared.declaration.Params.TheVariants as ps
use Rattle.c_words.specs.Written.{Written, nothing, ◌then◌, one, nested, only, optional, run, chain}
use Rattle.c_grammar.specs.Types.{base, consts, stars_alone, stars_before}
use Rattle.c_words.specs.OperatorWords.{is_comma}
use Rattle.c_grammar.specs.Expressions.{assign, choice}

-- ---- declarators

-- what a declarator writes, and whether the `[ ]` right after its name is empty
pub record DeclaratorShape : Type 0 where
  pub written : Written
  pub unsized : Bool

-- `[ ]` nests what stands in it, and what it stands after
unfoldable pub array_of : Written → Leaf → Written → Leaf → Written
array_of before opening size closing = nested before then one w.LeftBracket opening then nested size then one w.RightBracket closing

unfoldable pub direct_step : Direct-F DeclaratorShape DeclaratorShape → DeclaratorShape
direct_step (Direct-F.Name name) = record { written = one w.Name name; unsized = false }
direct_step (Direct-F.Unsized name opening closing) = record {
  written = nested (one w.Name name) then one w.LeftBracket opening then one w.RightBracket closing;
  unsized = true;
}
direct_step (Direct-F.Paren opening inside closing) = record {
  written = one w.LeftParen opening then nested inside.written then one w.RightParen closing;
  unsized = inside.unsized;
}
direct_step (Direct-F.Array before opening size closing) = record {
  written = array_of before.written opening (choice size) closing;
  unsized = before.unsized;
}

unfoldable pub declarator_step : Declarator-F DeclaratorShape DeclaratorShape → DeclaratorShape
declarator_step a = record { written = stars_before a.stars a.direct.written; unsized = a.direct.unsized }

unfoldable pub direct_shape : Direct → DeclaratorShape
direct_shape = fold-Direct DeclaratorShape DeclaratorShape direct_step declarator_step

unfoldable pub declarator_shape : Declarator → DeclaratorShape
declarator_shape = fold-Declarator DeclaratorShape DeclaratorShape direct_step declarator_step

abbrev pub direct : Direct → Written
direct a = (direct_shape a).written

abbrev pub declarator : Declarator → Written
declarator a = (declarator_shape a).written

abbrev pub is_unsized : Declarator → Bool
is_unsized a = (declarator_shape a).unsized

-- a declarator whose `[ ]` are not empty
abbrev pub sized : Declarator → Written
sized a = declarator a then only (not (is_unsized a))

-- ---- what is declared

abbrev written : Written → Written
written x = x

unfoldable pub init_step : Init-F Written → Written
init_step (Init-F.Value value) = assign value
init_step (Init-F.Braces opening elements last closing) =
    one w.LeftBrace opening then nested (chain is_comma written elements then optional (one w.Comma) last) then one w.RightBrace closing

unfoldable pub init : Init → Written
init = fold-Init Written init_step

-- the `[ ]` right after the name may be empty before an initialiser
unfoldable pub declared : Declared → Written
declared (d.Plain a) = sized a
declared (d.Initialised a equals value) = declarator a then one w.Assign equals then init value

abbrev pub all_declared : Chain Declared → Written
all_declared = chain is_comma declared

-- ---- parameters

unfoldable pub sizes_step : Sizes-F Written → Written
sizes_step (Sizes-F.Unsized opening closing) = one w.LeftBracket opening then one w.RightBracket closing
sizes_step (Sizes-F.First opening size closing) = one w.LeftBracket opening then nested (choice size) then one w.RightBracket closing
sizes_step (Sizes-F.More before opening size closing) = array_of before opening (choice size) closing

unfoldable pub sizes : Sizes → Written
sizes = fold-Sizes Written sizes_step

-- the declarator of a parameter without name
abbrev pub nameless : List Star → Option Sizes → Written
nameless stars None = stars_alone stars
nameless stars (Some x) = stars_before stars (sizes x)

unfoldable pub parameter : Parameter → Written
parameter (p.Named cs x a) = consts cs then base x then declarator a
parameter (p.Nameless cs x stars brackets) = consts cs then base x then nameless stars brackets

-- the `void` of a list that writes `void` and no more
abbrev pub void_by : Specifier → List Leaf → List Leaf → List Star → Option Sizes → List (Link Parameter) → Option Leaf
void_by (s.Void t) [] [] [] None [] = Some t
void_by _ _ _ _ _ _ = None

abbrev pub void_of : Parameter → List (Link Parameter) → Option Leaf
void_of (p.Nameless cs x stars brackets) more = void_by x.specifier x.consts cs stars brackets more
void_of (p.Named cs x a) more = None

unfoldable pub lone_void : Chain Parameter → Option Leaf
lone_void c = void_of c.first c.rest

-- what stands in the parentheses; `void` alone is the empty list
unfoldable pub params : Params → Written
params ps.Empty = nothing
params (ps.Void t) = nested (one w.Void t)
params (ps.List all) = nested (chain is_comma parameter all) then only (is_none (lone_void all))
