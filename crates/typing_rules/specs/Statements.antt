-- Statements (C11 6.8): declarations and statements in text order, each seeing the names that were declared before it.
use Rattle.std.specs.Prelude.{ℕ, suc, Bool, true, false, not, if◌then◌else◌, List, [], ◌∷◌, ◌++◌, length, Option, Some, None, is_some, Ok}
use Rattle.c_words.specs.declared.word.Leaf.{Leaf}
use Rattle.step_meaning.specs.declared.value.CType.{CType}
use Rattle.step_meaning.specs.declared.value.NameKind.TheVariants as names
use Rattle.step_meaning.specs.declared.expr.Variable.{Variable}
use Rattle.step_meaning.specs.declared.expr.Expr.{Expr}
use Rattle.step_meaning.specs.declared.program.Declared.{Declared as Named}
use Rattle.step_meaning.specs.declared.stmt.Stmt.{Stmt}
use Rattle.step_meaning.specs.declared.stmt.Stmt.TheVariants as core
use Rattle.step_meaning.specs.ExpressionTypes.{is_void}
use Rattle.typing_rules.specs.declared.fault.TypeFault.TheVariants.{Mismatch, StrayJump}
use Rattle.typing_rules.specs.declared.operand.Entry.TheVariants as entry
use Rattle.typing_rules.specs.Checked.{Checked, unless}
use Rattle.typing_rules.specs.Checked.{◌>>=◌ as ◌then◌}
use Rattle.typing_rules.specs.Syntax.{Expression, Initialiser, Declared, Local, Statement, Nothing, Evaluate, Block, Declare, If, IfElse, While, Do, For, Break, Continue, Return, Ghost, Assert, Statements, End, Next, ForFirst, NoFirst, FirstValue, FirstLocal}
use Rattle.typing_rules.specs.Operands as operands
use Rattle.typing_rules.specs.Environment.{Environment, Scope, place_of, bytes_in, is_reserved, found_in, specified}
use Rattle.typing_rules.specs.Expressions.{full}
use Rattle.typing_rules.specs.Declarations.{layers, layered, count_of, is_complete_in, declarable}
use Rattle.typing_rules.specs.Initialisers.{Cell, local_cells}

-- ---- what is known within a body

pub record Frame : Type 0 where
  -- the parameters and locals so far
  pub locals : List Named
  -- the scopes of blocks, innermost first
  pub scopes : List Scope

-- what is checked after some declarations, and makes more
abbrev pub Does : Type 0 → Type 0
Does A = Frame → Checked (A × Frame)

abbrev pub pure : {A : Type 0} → A → Does A
pure a f = Ok (a, f)

infixl 10 ◌>>=◌
abbrev pub ◌>>=◌ : {A B : Type 0} → Does A → (A → Does B) → Does B
(d >>= k) f = d f then (λ r. k r.0 r.1)

-- the names of a declaration and of what follows it up to the end of a block
abbrev pub opened : Frame → Frame
opened f = record f { scopes = [] ∷ f.scopes }

abbrev pub tail : List Scope → List Scope
tail [] = []
tail (s ∷ ss) = ss

abbrev pub closed : Frame → Frame
closed f = record f { scopes = tail f.scopes }

unfoldable pub in_scope : {A : Type 0} → Does A → Does A
in_scope d f = d (opened f) then (λ r. Ok (r.0, closed r.1))

abbrev pub innermost : List Scope → Scope
innermost [] = []
innermost (s ∷ ss) = s

-- the innermost scope with one more name; a scope has its names in the order of their declarations
abbrev pub with_name : List ℕ → Variable → CType → List Scope → List Scope
with_name name v t [] = ((name, entry.Variable v t) ∷ []) ∷ []
with_name name v t (s ∷ ss) = (s ++ ((name, entry.Variable v t) ∷ [])) ∷ ss

-- in a program at this point, and a function with this result
module _ (program : Environment) (result : CType) where
  -- what the code sees
  abbrev pub seen : Frame → Environment
  seen f = record program { scopes = f.scopes ++ program.scopes }

  -- rules on expressions, which declare nothing
  abbrev pub checked : {A : Type 0} → (Environment → Checked A) → Does A
  checked c f = c (seen f) then (λ a. Ok (a, f))

  -- ---- declarations (C11 6.7)

  abbrev pub local_variable : ℕ → Variable
  local_variable n = record { kind = names.Local; index = n }

  -- the next local, known from here on
  abbrev pub declared_as : Leaf → CType → Does ℕ
  declared_as name t f =
      let bytes = bytes_in program name in
      Ok (length f.locals, record { locals = f.locals ++ (record { name = bytes; ctype = t } ∷ []); scopes = with_name bytes (local_variable (length f.locals)) t f.scopes })

  abbrev pub judged : Leaf → CType → Does (Unit {0})
  judged name t f =
      let bytes = bytes_in program name in
      declarable program (place_of name) (is_some (found_in (innermost f.scopes) bytes)) (not (is_complete_in program t)) false (is_reserved program bytes) t then (λ u. Ok (u, f))

  -- one statement a cell, in ascending order
  unfoldable pub init_statements : ℕ → ℕ → List Cell → List Stmt
  init_statements n o [] = []
  init_statements n o (c ∷ cs) = core.Init (local_variable n) o c.0 c.1 ∷ init_statements n (suc o) cs

  abbrev pub initialised : ℕ → CType → Option Initialiser → Does (List Stmt)
  initialised n t None = pure (core.Empty ∷ [])
  initialised n t (Some x) = checked (λ g. local_cells g t x) >>= (λ cs. pure (init_statements n 0 cs))

  unfoldable pub declare_one : CType → Declared → Does (List Stmt)
  declare_one base d = do
    ls ← checked (λ g. layers g (count_of d.initialiser) d.declarator.modifiers)
    let t = layered ls base in judged d.declarator.name t >>= (λ u. declared_as d.declarator.name t >>= (λ n. initialised n t d.initialiser))

  unfoldable pub declare_all : CType → List Declared → Does (List Stmt)
  declare_all base [] = pure []
  declare_all base (d ∷ ds) = do
    ss ← declare_one base d
    more ← declare_all base ds
    pure (ss ++ more)

  unfoldable pub declare : Local → Does (List Stmt)
  declare x = do
    base ← checked (λ g. specified g x.specifier)
    declare_all base x.declared

  -- ---- parts of statements

  abbrev pub value : Expression → Does Expr
  value x = checked (λ g. full g x) >>= (λ v. pure v.expr)

  abbrev pub test : Expression → Does Expr
  test x = checked (λ g. full g x then operands.condition)

  abbrev pub where_present : (Expression → Does Expr) → Option Expression → Does (Option Expr)
  where_present d None = pure None
  where_present d (Some x) = d x >>= (λ e. pure (Some e))

  abbrev pub rule : Bool → Leaf → Does (Unit {0})
  rule broken t f = unless broken (Mismatch (place_of t)) then (λ u. Ok (u, f))

  abbrev pub jump : Bool → Leaf → Stmt → Does Stmt
  jump loop t s f = unless (not loop) (StrayJump (place_of t)) then (λ u. Ok (s, f))

  -- C11 6.8.6.4
  abbrev pub returned : Leaf → Option Expression → Does Stmt
  returned t None = rule (not (is_void result)) t >>= (λ u. pure (core.Return None))
  returned t (Some x) = do
    v ← checked (λ g. full g x)
    _ ← rule (is_void result) t
    e ← checked (λ g. operands.fitted v.first result v)
    pure (core.Return (Some e))

  -- what stands before a `for` loop
  abbrev pub first_part : ForFirst → Does (List Stmt)
  first_part NoFirst = pure []
  first_part (FirstValue x) = value x >>= (λ e. pure (core.Eval e ∷ []))
  first_part (FirstLocal l) = declare l

  -- a declaration in a `for` has a scope of its own
  abbrev pub scoped : ForFirst → Does Stmt → Does Stmt
  scoped (FirstLocal l) d = in_scope d
  scoped x d = d

  abbrev pub with_first : ForFirst → List Stmt → Stmt → Stmt
  with_first NoFirst ss s = s
  with_first x ss s = core.Block (ss ++ (s ∷ []))

  -- ---- statements, in a loop or not

  unfoldable mutual
    pub statement : Bool → Statement → Does Stmt
    statement loop Nothing = pure core.Empty
    statement loop (Evaluate x) = value x >>= (λ e. pure (core.Eval e))
    statement loop (Block ss) = in_scope (statements loop ss) >>= (λ xs. pure (core.Block xs))
    statement loop (Declare l) = declare l >>= (λ xs. pure (core.Block xs))
    statement loop (If x s) = do
      e ← test x
      a ← statement loop s
      pure (core.If e a core.Empty)
    statement loop (IfElse x s r) = do
      e ← test x
      a ← statement loop s
      b ← statement loop r
      pure (core.If e a b)
    statement loop (While x s) = do
      e ← test x
      a ← statement true s
      pure (core.While e a)
    statement loop (Do s x) = do
      a ← statement true s
      e ← test x
      pure (core.Do a e)
    statement loop (For first x step s) = scoped first (do
      before ← first_part first
      e ← where_present test x
      i ← where_present value step
      a ← statement true s
      pure (with_first first before (core.For e i a)))
    statement loop (Break t) = jump loop t core.Break
    statement loop (Continue t) = jump loop t core.Continue
    statement loop (Return t x) = returned t x
    -- annotations stand in woven texts alone
    statement loop (Ghost t) = pure core.Empty
    statement loop (Assert t) = pure core.Empty

    pub statements : Bool → Statements → Does (List Stmt)
    statements loop End = pure []
    statements loop (Next (Declare l) ss) = do
      xs ← declare l
      more ← statements loop ss
      pure (xs ++ more)
    statements loop (Next s ss) = do
      x ← statement loop s
      more ← statements loop ss
      pure (x ∷ more)
