-- How deep the abstract syntax of a text nests: what bounds the depth of types, and the nesting of statements where each `&&`, `||` and `? :` is an `if` over blocks and each loop a `while` over a block.
use Rattle.std.specs.Prelude.{ℕ, suc, pred, ◌≤◌, max, Bool, true, false, if◌then◌else◌, List, [], ◌∷◌, length, Option, Some, None}
use Rattle.std.specs.List.{AllByRecursion}
use Rattle.c_words.specs.declared.word.Word.{Word}
use Rattle.c_words.specs.declared.word.Word.TheVariants as w
use Rattle.step_meaning.specs.Sources.{in_branch}
use Rattle.typing_rules.specs.Syntax.{Expression, Expressions, Name, Number, Character, Paren, Call, Index, Member, Arrow, Increment, Decrement, Prefix, Cast, SizeOf, SizeOfType, Binary, Choose, Assign, NoMore, Then, Declarator, Initialiser, Initialisers, Value, Braces, NoElement, Element, Declared, Statement, Nothing, Evaluate, Block, Declare, If, IfElse, While, Do, For, Break, Continue, Return, Ghost, Assert, Statements, End, Next, ForFirst, NoFirst, FirstValue, FirstLocal, Item, Struct, Variables, Function, Meta, GhostVariable}
use Rattle.typing_laws.specs.ParsedSyntax.{IfThere}

-- ---- expressions

abbrev mutual
  -- how deep an expression nests in the text
  pub nest : Expression → ℕ
  nest (Name t) = 0
  nest (Number t) = 0
  nest (Character t) = 0
  nest (Paren t x) = suc (nest x)
  nest (Call t xs) = arguments_nest xs
  nest (Index x t i) = max (nest x) (suc (nest i))
  nest (Member x t m) = nest x
  nest (Arrow x t m) = nest x
  nest (Increment x t) = nest x
  nest (Decrement x t) = nest x
  nest (Prefix t x) = suc (nest x)
  nest (Cast t u x) = suc (nest x)
  nest (SizeOf t x) = suc (nest x)
  -- each star of a type after the first nests in the one before it
  nest (SizeOfType t u) = suc (pred u.stars)
  nest (Binary x t y) = max (nest x) (nest y)
  nest (Choose x t y z) = max (nest x) (suc (max (nest y) (nest z)))
  nest (Assign x t y) = max (nest x) (suc (nest y))

  pub arguments_nest : Expressions → ℕ
  arguments_nest NoMore = 0
  arguments_nest (Then x xs) = max (suc (nest x)) (arguments_nest xs)

abbrev pub is_branch : Word → Bool
is_branch w.AndAnd = true
is_branch w.OrOr = true
is_branch _ = false

abbrev mutual
  -- how deep the statements nest that compute it
  pub turns : Expression → ℕ
  turns (Name t) = 1
  turns (Number t) = 1
  turns (Character t) = 1
  turns (Paren t x) = turns x
  turns (Call t xs) = arguments_turns xs
  turns (Index x t i) = max (turns x) (turns i)
  turns (Member x t m) = turns x
  turns (Arrow x t m) = turns x
  turns (Increment x t) = turns x
  turns (Decrement x t) = turns x
  turns (Prefix t x) = turns x
  turns (Cast t u x) = turns x
  turns (SizeOf t x) = 1
  turns (SizeOfType t u) = 1
  turns (Binary x t y) = if is_branch t.word then max (turns x) (in_branch (turns y)) else max (turns x) (turns y)
  turns (Choose x t y z) = max (turns x) (in_branch (max (turns y) (turns z)))
  turns (Assign x t y) = max (turns x) (turns y)

  pub arguments_turns : Expressions → ℕ
  arguments_turns NoMore = 1
  arguments_turns (Then x xs) = max (turns x) (arguments_turns xs)

-- the nesting limit of a source
abbrev pub IsShallow : Expression → Type 0
IsShallow x = nest x ≤ 64

-- ---- declarations

abbrev pub DeclaratorShallow : Declarator → Type 0
DeclaratorShallow d = length d.modifiers ≤ 64

abbrev mutual
  pub InitialiserShallow : Initialiser → Type 0
  InitialiserShallow (Value x) = IsShallow x
  InitialiserShallow (Braces t xs) = InitialisersShallow xs

  pub InitialisersShallow : Initialisers → Type 0
  InitialisersShallow NoElement = Unit {0}
  InitialisersShallow (Element x xs) = InitialiserShallow x × InitialisersShallow xs

abbrev pub DeclaredShallow : Declared → Type 0
DeclaredShallow d = DeclaratorShallow d.declarator × IfThere InitialiserShallow d.initialiser

abbrev pub AllDeclaredShallow : List Declared → Type 0
AllDeclaredShallow ds = AllByRecursion DeclaredShallow ds

abbrev mutual
  pub initialiser_turns : Initialiser → ℕ
  initialiser_turns (Value x) = turns x
  initialiser_turns (Braces t xs) = initialisers_turns xs

  pub initialisers_turns : Initialisers → ℕ
  initialisers_turns NoElement = 1
  initialisers_turns (Element x xs) = max (initialiser_turns x) (initialisers_turns xs)

abbrev pub there_turns : Option Initialiser → ℕ
there_turns None = 1
there_turns (Some x) = max 1 (initialiser_turns x)

abbrev pub declared_turns : List Declared → ℕ
declared_turns [] = 1
declared_turns (d ∷ ds) = max (there_turns d.initialiser) (declared_turns ds)

-- ---- statements

abbrev pub ForFirstShallow : ForFirst → Type 0
ForFirstShallow NoFirst = Unit {0}
ForFirstShallow (FirstValue x) = IsShallow x
ForFirstShallow (FirstLocal l) = AllDeclaredShallow l.declared

abbrev mutual
  pub StatementShallow : Statement → Type 0
  StatementShallow Nothing = Unit {0}
  StatementShallow (Evaluate x) = IsShallow x
  StatementShallow (Block ss) = StatementsShallow ss
  StatementShallow (Declare l) = AllDeclaredShallow l.declared
  StatementShallow (If x s) = IsShallow x × StatementShallow s
  StatementShallow (IfElse x s r) = IsShallow x × StatementShallow s × StatementShallow r
  StatementShallow (While x s) = IsShallow x × StatementShallow s
  StatementShallow (Do s x) = StatementShallow s × IsShallow x
  StatementShallow (For first x step s) = ForFirstShallow first × IfThere IsShallow x × IfThere IsShallow step × StatementShallow s
  StatementShallow (Break t) = Unit {0}
  StatementShallow (Continue t) = Unit {0}
  StatementShallow (Return t x) = IfThere IsShallow x
  StatementShallow (Ghost t) = Unit {0}
  StatementShallow (Assert t) = Unit {0}

  pub StatementsShallow : Statements → Type 0
  StatementsShallow End = Unit {0}
  StatementsShallow (Next s ss) = StatementShallow s × StatementsShallow ss

abbrev pub if_there_turns : Option Expression → ℕ
if_there_turns None = 1
if_there_turns (Some x) = turns x

-- a test that leaves a loop by a `break` in a branch
abbrev pub test_turns : Option Expression → ℕ
test_turns None = 1
test_turns (Some x) = max (turns x) (in_branch 1)

abbrev pub with_first_turns : ForFirst → ℕ → ℕ
with_first_turns NoFirst n = n
with_first_turns (FirstValue x) n = suc (max (turns x) n)
with_first_turns (FirstLocal l) n = suc (max (declared_turns l.declared) n)

abbrev mutual
  -- in a loop whose turns end with statements that nest so deep
  pub statement_turns : ℕ → Statement → ℕ
  statement_turns last Nothing = 1
  statement_turns last (Evaluate x) = turns x
  statement_turns last (Block ss) = suc (statements_turns last ss)
  statement_turns last (Declare l) = suc (declared_turns l.declared)
  statement_turns last (If x s) = max (turns x) (in_branch (max (statement_turns last s) 1))
  statement_turns last (IfElse x s r) = max (turns x) (in_branch (max (statement_turns last s) (statement_turns last r)))
  statement_turns last (While x s) = in_branch (max (test_turns (Some x)) (statement_turns 1 s))
  statement_turns last (Do s x) = in_branch (max (test_turns (Some x)) (statement_turns (test_turns (Some x)) s))
  statement_turns last (For first x step s) = with_first_turns first (in_branch (max (test_turns x) (max (if_there_turns step) (statement_turns (if_there_turns step) s))))
  statement_turns last (Break t) = 1
  statement_turns last (Continue t) = max last 1
  statement_turns last (Return t x) = if_there_turns x
  statement_turns last (Ghost t) = 1
  statement_turns last (Assert t) = 1

  pub statements_turns : ℕ → Statements → ℕ
  statements_turns last End = 1
  statements_turns last (Next (Declare l) ss) = max (declared_turns l.declared) (statements_turns last ss)
  statements_turns last (Next s ss) = max (statement_turns last s) (statements_turns last ss)

-- ---- items

abbrev pub BodyShallow : Option Statements → Type 0
BodyShallow None = Unit {0}
BodyShallow (Some b) = StatementsShallow b × (statements_turns 1 b ≤ 500)

abbrev pub ItemShallow : Item → Type 0
ItemShallow (Struct tag ms ds) = AllByRecursion (λ m. AllByRecursion DeclaratorShallow m.declarators) ms × AllDeclaredShallow ds
ItemShallow (Variables x ds) = AllDeclaredShallow ds
-- a result has one star more, which nests in nothing
ItemShallow (Function r t xs body) = (r.stars ≤ 65) × AllByRecursion (λ x. length x.modifiers ≤ 64) xs × BodyShallow body
ItemShallow (Meta t) = Unit {0}
ItemShallow (GhostVariable t) = Unit {0}

abbrev pub ItemsShallow : List Item → Type 0
ItemsShallow xs = AllByRecursion ItemShallow xs
