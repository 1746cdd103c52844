-- The abstract syntax of declarators, initialisers, statements and programs.
use Rattle.std.specs.Prelude.{List, [], ◌∷◌, ◌++◌, map, length, replicate, Option, Some, None, option_map}
use Rattle.c_words.specs.declared.word.Leaf.{Leaf}
use Rattle.c_words.specs.declared.chain.Chain.{Chain}
use Rattle.c_words.specs.declared.chain.Link.{Link}
use Rattle.c_grammar.specs.declared.types.Integer.{Integer}
use Rattle.c_grammar.specs.declared.types.Integer.TheVariants as i
use Rattle.c_grammar.specs.declared.types.Specifier.{Specifier}
use Rattle.c_grammar.specs.declared.types.Specifier.TheVariants as s
use Rattle.c_grammar.specs.declared.types.Star.{Star}
use Rattle.c_grammar.specs.declared.declaration.Direct.TheOpen.{Declarator-F, Direct-F}
use Rattle.c_grammar.specs.declared.declaration.Declarator.{Declarator, fold-Declarator}
use Rattle.c_grammar.specs.declared.declaration.Direct.{Direct, fold-Direct}
use Rattle.c_grammar.specs.declared.declaration.Init.{Init, fold-Init}
use Rattle.c_grammar.specs.declared.declaration.Init.TheOpen.{Init-F}
use Rattle.c_grammar.specs.declared.declaration.Declared.{Declared}
use Rattle.c_grammar.specs.declared.declaration.Declared.TheVariants as d
use Rattle.c_grammar.specs.declared.declaration.Sizes.{Sizes, fold-Sizes}
use Rattle.c_grammar.specs.declared.declaration.Sizes.TheOpen.{Sizes-F}
use Rattle.c_grammar.specs.declared.declaration.Parameter.{Parameter}
use Rattle.c_grammar.specs.declared.declaration.Parameter.TheVariants as p
use Rattle.c_grammar.specs.declared.declaration.Params.{Params}
use Rattle.c_grammar.specs.declared.declaration.Params.TheVariants as ps
use Rattle.c_grammar.specs.declared.statement.Local.{Local}
use Rattle.c_grammar.specs.declared.statement.Local.TheVariants as l
use Rattle.c_grammar.specs.declared.statement.ForFirst.{ForFirst}
use Rattle.c_grammar.specs.declared.statement.ForFirst.TheVariants as f
use Rattle.c_grammar.specs.declared.statement.Stmt.{Stmt, fold-Stmt}
use Rattle.c_grammar.specs.declared.statement.BlockPart.TheOpen.{Block-F, BlockPart-F, Stmt-F}
use Rattle.c_grammar.specs.declared.statement.Block.{Block, fold-Block}
use Rattle.c_grammar.specs.declared.statement.BlockPart.{BlockPart, fold-BlockPart}
use Rattle.c_grammar.specs.declared.program.Member.{Member}
use Rattle.c_grammar.specs.declared.program.Body.{Body}
use Rattle.c_grammar.specs.declared.program.Body.TheVariants as b
use Rattle.c_grammar.specs.declared.program.Item.{Item}
use Rattle.c_grammar.specs.declared.program.Item.TheVariants as it
use Rattle.c_grammar.specs.declared.program.ProgramTree.{ProgramTree}
use Rattle.typing_rules.specs.Syntax as syntax
use Rattle.typing_rules.specs.TreesOfExpressions.{assign, choice}

-- ---- lists between commas

unfoldable pub operands : {A : Type 0} → Chain A → List A
operands c = c.first ∷ map (λ l. l.operand) c.rest

unfoldable pub operands_there : {A : Type 0} → Option (Chain A) → List A
operands_there None = []
operands_there (Some c) = operands c

-- ---- declarators

abbrev pub stars_of : List Star → List syntax.Modifier
stars_of stars = replicate (length stars) syntax.PointerTo

unfoldable pub direct_step : Direct-F syntax.Declarator syntax.Declarator → syntax.Declarator
direct_step (Direct-F.Name name) = record { name = name; modifiers = [] }
direct_step (Direct-F.Unsized name opening closing) = record { name = name; modifiers = syntax.ArrayUnsized ∷ [] }
direct_step (Direct-F.Paren opening inside closing) = inside
direct_step (Direct-F.Array before opening size closing) = record { name = before.name; modifiers = before.modifiers ++ (syntax.ArrayOf (choice size) ∷ []) }

unfoldable pub declarator_step : Declarator-F syntax.Declarator syntax.Declarator → syntax.Declarator
declarator_step x = record { name = x.direct.name; modifiers = x.direct.modifiers ++ stars_of x.stars }

unfoldable pub declarator : Declarator → syntax.Declarator
declarator = fold-Declarator syntax.Declarator syntax.Declarator direct_step declarator_step

unfoldable pub direct : Direct → syntax.Declarator
direct = fold-Direct syntax.Declarator syntax.Declarator direct_step declarator_step

-- ---- initialisers

abbrev pub same_initialiser : syntax.Initialiser → syntax.Initialiser
same_initialiser x = x

module _ {A : Type 0} (f : A → syntax.Initialiser) where
  unfoldable pub elements_after : List (Link A) → syntax.Initialisers
  elements_after [] = syntax.NoElement
  elements_after (l ∷ ls) = syntax.Element (f l.operand) (elements_after ls)

unfoldable pub init_step : Init-F syntax.Initialiser → syntax.Initialiser
init_step (Init-F.Value value) = syntax.Value (assign value)
init_step (Init-F.Braces opening elements last closing) = syntax.Braces opening (syntax.Element elements.first (elements_after same_initialiser elements.rest))

unfoldable pub init : Init → syntax.Initialiser
init = fold-Init syntax.Initialiser init_step

unfoldable pub declared : Declared → syntax.Declared
declared (d.Plain a) = record { declarator = declarator a; initialiser = None }
declared (d.Initialised a equals value) = record { declarator = declarator a; initialiser = Some (init value) }

-- ---- parameters

abbrev pub integer_first : Integer → Leaf
integer_first (i.Char t) = t
integer_first (i.SignedChar t u) = t
integer_first (i.UnsignedChar t u) = t
integer_first (i.Short (Some t) u v) = t
integer_first (i.Short None t v) = t
integer_first (i.UnsignedShort t u v) = t
integer_first (i.Int t) = t
integer_first (i.Signed t u) = t
integer_first (i.Unsigned t u) = t
integer_first (i.Long (Some t) u v) = t
integer_first (i.Long None t v) = t
integer_first (i.UnsignedLong t u v) = t

abbrev pub specifier_first : Specifier → Leaf
specifier_first (s.Integer x) = integer_first x
specifier_first (s.Void t) = t
specifier_first (s.Struct t tag) = t

abbrev pub first_of : List Leaf → Specifier → Leaf
first_of [] x = specifier_first x
first_of (c ∷ cs) x = c

unfoldable pub sizes_step : Sizes-F (List syntax.Modifier) → List syntax.Modifier
sizes_step (Sizes-F.Unsized opening closing) = syntax.ArrayUnsized ∷ []
sizes_step (Sizes-F.First opening size closing) = syntax.ArrayOf (choice size) ∷ []
sizes_step (Sizes-F.More before opening size closing) = before ++ (syntax.ArrayOf (choice size) ∷ [])

unfoldable pub sizes : Sizes → List syntax.Modifier
sizes = fold-Sizes (List syntax.Modifier) sizes_step

abbrev pub sizes_there : Option Sizes → List syntax.Modifier
sizes_there None = []
sizes_there (Some x) = sizes x

unfoldable pub parameter : Parameter → syntax.Parameter
parameter (p.Named cs x a) = let m = declarator a in record { specifier = x.specifier; name = Some m.name; first = first_of cs x.specifier; modifiers = m.modifiers }
parameter (p.Nameless cs x stars brackets) = record { specifier = x.specifier; name = None; first = first_of cs x.specifier; modifiers = sizes_there brackets ++ stars_of stars }

-- `(void)` and `()` have no parameter
unfoldable pub params : Params → List syntax.Parameter
params ps.Empty = []
params (ps.Void t) = []
params (ps.List all) = map parameter (operands all)

-- ---- statements

unfoldable pub local : Local → syntax.Local
local (l.Variables cs x names semicolon) = record { specifier = x.specifier; declared = map declared (operands names) }
local (l.Registers register x names semicolon) = record { specifier = x.specifier; declared = map declared (operands names) }

unfoldable pub for_first : ForFirst → syntax.ForFirst
for_first (f.Local x) = syntax.FirstLocal (local x)
for_first (f.Expression None semicolon) = syntax.NoFirst
for_first (f.Expression (Some e) semicolon) = syntax.FirstValue (assign e)

unfoldable pub in_order : List syntax.Statement → syntax.Statements
in_order [] = syntax.End
in_order (s ∷ ss) = syntax.Next s (in_order ss)

unfoldable pub stmt_step : Stmt-F syntax.Statement syntax.Statement syntax.Statements → syntax.Statement
stmt_step (Stmt-F.Empty semicolon) = syntax.Nothing
stmt_step (Stmt-F.Expression value semicolon) = syntax.Evaluate (assign value)
stmt_step (Stmt-F.Block x) = syntax.Block x
stmt_step (Stmt-F.If first opening test closing body) = syntax.If (assign test) body
stmt_step (Stmt-F.IfElse first opening test closing body other rest) = syntax.IfElse (assign test) body rest
stmt_step (Stmt-F.While first opening test closing body) = syntax.While (assign test) body
stmt_step (Stmt-F.Do first body word opening test closing semicolon) = syntax.Do body (assign test)
stmt_step (Stmt-F.For first opening start test semicolon step closing body) = syntax.For (for_first start) (option_map assign test) (option_map assign step) body
stmt_step (Stmt-F.Break first semicolon) = syntax.Break first
stmt_step (Stmt-F.Continue first semicolon) = syntax.Continue first
stmt_step (Stmt-F.Return first value semicolon) = syntax.Return first (option_map assign value)
stmt_step (Stmt-F.Ghost annotation) = syntax.Ghost annotation
stmt_step (Stmt-F.Assert annotation) = syntax.Assert annotation

unfoldable pub block_part_step : BlockPart-F syntax.Statement syntax.Statement syntax.Statements → syntax.Statement
block_part_step (BlockPart-F.Local x) = syntax.Declare (local x)
block_part_step (BlockPart-F.Stmt s) = s

unfoldable pub block_step : Block-F syntax.Statement syntax.Statement syntax.Statements → syntax.Statements
block_step x = in_order x.parts

unfoldable pub stmt : Stmt → syntax.Statement
stmt = fold-Stmt syntax.Statement syntax.Statement syntax.Statements block_part_step stmt_step block_step

unfoldable pub block_part : BlockPart → syntax.Statement
block_part = fold-BlockPart syntax.Statement syntax.Statement syntax.Statements block_part_step stmt_step block_step

unfoldable pub block : Block → syntax.Statements
block = fold-Block syntax.Statement syntax.Statement syntax.Statements block_part_step stmt_step block_step

-- ---- programs

unfoldable pub members : Member → syntax.Members
members m = record { specifier = m.base.specifier; declarators = map declarator (operands m.declarators) }

unfoldable pub body : Body → Option syntax.Statements
body (b.Absent semicolon) = None
body (b.Block x) = Some (block x)

unfoldable pub item : Item → syntax.Item
item (it.Struct word tag opening ms closing ds semicolon) = syntax.Struct tag (map members ms) (map declared (operands_there ds))
item (it.Variables prefixes x ds semicolon) = syntax.Variables x.specifier (map declared (operands ds))
item (it.Function prefixes x stars name opening inside closing rest) = syntax.Function (record { specifier = x.specifier; stars = length stars }) name (params inside) (body rest)
item (it.Meta t) = syntax.Meta t
item (it.Ghost t) = syntax.GhostVariable t

unfoldable pub program : ProgramTree → List syntax.Item
program t = map item t.items
