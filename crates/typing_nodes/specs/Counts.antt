-- Nodes of the parts of an expression that stand in lists.
use Rattle.std.specs.Prelude.{ℕ, zero, suc, ◌+◌, List, [], ◌∷◌, sum_by, Option}
use Rattle.c_words.specs.declared.chain.Chain.{Chain}
use Rattle.c_words.specs.declared.chain.Link.{Link}
use Rattle.c_grammar.specs.declared.expression.Assign.{Assign}
use Rattle.c_grammar.specs.declared.declaration.Declarator.{Declarator}
use Rattle.c_grammar.specs.declared.program.Member.{Member}
use Rattle.c_grammar.specs.declared.program.Item.{Item}
use Rattle.step_meaning.specs.declared.stmt.Stmt.{Stmt as CoreStmt}
use Rattle.step_meaning.specs.declared.program.Function.{Function as CoreFunction}
use Rattle.c_grammar.specs.declared.declaration.Init.{Init}
use Rattle.c_grammar.specs.declared.declaration.Declared.{Declared}
use Rattle.c_grammar.specs.declared.declaration.Parameter.{Parameter}
use Rattle.c_grammar.specs.declared.statement.BlockPart.{BlockPart}
use Rattle.typing_rules.specs.Nodes.{nodes}
use Rattle.typing_rules.specs.Weights.{modifiers_weight, initialiser_nodes, initialiser_weight, continues, statement_weight, item_weight, inits, init_cells}
use Rattle.typing_rules.specs.TreesOfDeclarations as trees
use Rattle.typing_rules.specs.Syntax.{Expression}

-- the operators of a chain with the operands behind them
unfoldable pub link_nodes : {A : Type 0} → (A → Expression) → List (Link A) → ℕ
link_nodes f [] = 0
link_nodes f (l ∷ ls) = suc (nodes (f l.operand)) + link_nodes f ls

-- the arguments behind the first one
unfoldable pub after_nodes : {A : Type 0} → (A → Expression) → List (Link A) → ℕ
after_nodes f [] = 0
after_nodes f (l ∷ ls) = nodes (f l.operand) + after_nodes f ls

abbrev pub arguments_of : Option (Chain Assign) → Option (Chain Assign)
arguments_of o = o

-- the elements of an initialiser behind the first one
unfoldable pub elements_nodes : List (Link Init) → ℕ
elements_nodes [] = 0
elements_nodes (l ∷ ls) = initialiser_nodes (trees.init l.operand) + elements_nodes ls

-- what a declaration declares behind the first name
unfoldable pub declared_nodes : List (Link Declared) → ℕ
declared_nodes [] = 0
declared_nodes (l ∷ ls) = (modifiers_weight (trees.declared l.operand).declarator.modifiers + initialiser_weight (trees.declared l.operand).initialiser) + declared_nodes ls

-- the parameters behind the first one
unfoldable pub parameter_nodes : List (Link Parameter) → ℕ
parameter_nodes [] = 0
parameter_nodes (l ∷ ls) = modifiers_weight (trees.parameter l.operand).modifiers + parameter_nodes ls

-- the parts of a block
unfoldable pub parts_continues : List BlockPart → ℕ
parts_continues [] = 0
parts_continues (x ∷ xs) = continues (trees.block_part x) + parts_continues xs

unfoldable pub parts_weight : List BlockPart → ℕ
parts_weight [] = 0
parts_weight (x ∷ xs) = statement_weight (trees.block_part x) + parts_weight xs

-- the declarators of members behind the first one
unfoldable pub declarator_nodes : List (Link Declarator) → ℕ
declarator_nodes [] = 0
declarator_nodes (l ∷ ls) = modifiers_weight (trees.declarator l.operand).modifiers + declarator_nodes ls

unfoldable pub member_nodes : List Member → ℕ
member_nodes [] = 0
member_nodes (m ∷ ms) = sum_by (λ d. modifiers_weight d.modifiers) (trees.members m).declarators + member_nodes ms

unfoldable pub item_nodes : List Item → ℕ
item_nodes [] = 0
item_nodes (x ∷ xs) = item_weight (trees.item x) + item_nodes xs

-- statements and functions of a core
unfoldable pub init_nodes : List CoreStmt → ℕ
init_nodes [] = 0
init_nodes (s ∷ ss) = inits s + init_nodes ss

unfoldable pub function_nodes : List CoreFunction → ℕ
function_nodes [] = 0
function_nodes (f ∷ fs) = init_cells f + function_nodes fs
