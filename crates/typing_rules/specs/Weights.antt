-- Weighted nodes: the nodes of expressions, one for each statement and each declarator. The step of a `for` and the test of a `do` count once more for each `continue` of that loop.
use Rattle.std.specs.Prelude.{ℕ, suc, ◌+◌, ◌*◌, List, sum_by, Option, Some, None}
use Rattle.step_meaning.specs.declared.stmt.Stmt.{Stmt, Row_of-Stmt, end_of-Stmt, more_of-Stmt}
use Rattle.step_meaning.specs.declared.stmt.Stmt.TheVariants.{Init, Block', If', While', Do', For'}
use Rattle.step_meaning.specs.declared.program.Function.{Function as CoreFunction}
use Rattle.typing_rules.specs.Syntax.{Expression, Modifier, ArrayOf, Initialiser, Value, Braces, Initialisers, NoElement, Element, Declared, Statement, Nothing, Evaluate, Block, Declare, If, IfElse, While, Do, For, Break, Continue, Return, Ghost, Assert, Statements, End, Next, ForFirst, NoFirst, FirstValue, FirstLocal, Item, Struct, Variables, Function}
use Rattle.typing_rules.specs.Nodes.{nodes}

abbrev pub nodes_there : Option Expression → ℕ
nodes_there None = 0
nodes_there (Some x) = nodes x

abbrev pub modifier_nodes : Modifier → ℕ
modifier_nodes (ArrayOf x) = nodes x
modifier_nodes _ = 0

abbrev pub modifiers_weight : List Modifier → ℕ
modifiers_weight ms = suc (sum_by modifier_nodes ms)

unfoldable mutual
  pub initialiser_nodes : Initialiser → ℕ
  initialiser_nodes (Value x) = nodes x
  initialiser_nodes (Braces t xs) = elements_nodes xs

  pub elements_nodes : Initialisers → ℕ
  elements_nodes NoElement = 0
  elements_nodes (Element x xs) = initialiser_nodes x + elements_nodes xs

abbrev pub initialiser_weight : Option Initialiser → ℕ
initialiser_weight None = 0
initialiser_weight (Some x) = initialiser_nodes x

unfoldable pub declared_weight : List Declared → ℕ
declared_weight ds = sum_by (λ d. modifiers_weight d.declarator.modifiers + initialiser_weight d.initialiser) ds

-- ---- statements

unfoldable mutual
  -- the `continue`s of the loop whose body this is
  pub continues : Statement → ℕ
  continues (Continue t) = 1
  continues (Block ss) = all_continues ss
  continues (If x s) = continues s
  continues (IfElse x s r) = continues s + continues r
  continues _ = 0

  pub all_continues : Statements → ℕ
  all_continues End = 0
  all_continues (Next s ss) = continues s + all_continues ss

abbrev pub first_weight : ForFirst → ℕ
first_weight NoFirst = 0
first_weight (FirstValue x) = nodes x
first_weight (FirstLocal l) = declared_weight l.declared

unfoldable mutual
  pub statement_weight : Statement → ℕ
  statement_weight Nothing = 1
  statement_weight (Evaluate x) = suc (nodes x)
  statement_weight (Block ss) = suc (statements_weight ss)
  -- a declaration is no statement
  statement_weight (Declare l) = declared_weight l.declared
  statement_weight (If x s) = suc (nodes x + statement_weight s)
  statement_weight (IfElse x s r) = suc (nodes x + (statement_weight s + statement_weight r))
  statement_weight (While x s) = suc (nodes x + statement_weight s)
  statement_weight (Do s x) = suc (statement_weight s + nodes x * suc (continues s))
  statement_weight (For first x step s) = suc (first_weight first + (nodes_there x + (nodes_there step * suc (continues s) + statement_weight s)))
  statement_weight (Break t) = 1
  statement_weight (Continue t) = 1
  statement_weight (Return t x) = suc (nodes_there x)
  statement_weight (Ghost t) = 1
  statement_weight (Assert t) = 1

  pub statements_weight : Statements → ℕ
  statements_weight End = 0
  statements_weight (Next s ss) = statement_weight s + statements_weight ss

-- ---- items

abbrev pub body_weight : Option Statements → ℕ
body_weight None = 0
body_weight (Some ss) = statements_weight ss

unfoldable pub item_weight : Item → ℕ
item_weight (Struct tag ms ds) = sum_by (λ m. sum_by (λ d. modifiers_weight d.modifiers) m.declarators) ms + declared_weight ds
item_weight (Variables x ds) = declared_weight ds
item_weight (Function r t ps body) = sum_by (λ p. modifiers_weight p.modifiers) ps + body_weight body
item_weight _ = 0

abbrev pub weight : List Item → ℕ
weight = sum_by item_weight

-- ---- the cells of locals' initialisers, those that are filled up too

abbrev mutual
  pub inits : Stmt → ℕ
  inits (Init v o t e) = 1
  inits (Block' b ss) = all_inits ss
  inits (If' e b (more_of-Stmt s end_of-Stmt) c (more_of-Stmt u end_of-Stmt)) = inits s + inits u
  inits (While' e b (more_of-Stmt s end_of-Stmt)) = inits s
  inits (Do' b (more_of-Stmt s end_of-Stmt) e) = inits s
  inits (For' x y b (more_of-Stmt s end_of-Stmt)) = inits s
  inits _ = 0

  pub all_inits : {n : _} → Row_of-Stmt n → ℕ
  all_inits end_of-Stmt = 0
  all_inits (more_of-Stmt s more) = inits s + all_inits more

abbrev pub body_inits : Option (List Stmt) → ℕ
body_inits None = 0
body_inits (Some ss) = sum_by inits ss

abbrev pub init_cells : CoreFunction → ℕ
init_cells f = body_inits f.body
