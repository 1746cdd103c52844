-- What a source's core keeps besides being well formed: it has nothing that a woven text alone has, and is small enough for its normal form to be written and read again.
use Rattle.std.specs.Prelude.{◌≡◌, ℕ, suc, ◌+◌, max, Bool, true, false, ◌&&◌, nat_le, List, [], Option, Some, None, IsTrue}
use Rattle.std.specs.List.{list_all, AllByRecursion}
use Rattle.step_meaning.specs.declared.expr.Expr.{Expr, Row_of-Expr, end_of-Expr, more_of-Expr}
use Rattle.step_meaning.specs.declared.expr.Expr.TheVariants.{Literal, Null, Load, Address, Convert', Unary', Binary', Compare', Move', Difference', Not', Both', Either', Choose', Assign', Update', Invoke', GetChar, PutChar', Malloc', Free', Discard', Own, Deref', Member', Index'}
use Rattle.step_meaning.specs.declared.expr.Place_.{Place_, end_of-Place_, more_of-Place_}
use Rattle.step_meaning.specs.declared.stmt.Stmt.{Stmt, Row_of-Stmt, end_of-Stmt, more_of-Stmt}
use Rattle.step_meaning.specs.declared.stmt.Stmt.TheVariants.{Eval, Init, Block', If', While', Do', For', Continue, Return, Ghost, Assert}
use Rattle.step_meaning.specs.declared.program.Declared.{Declared}
use Rattle.step_meaning.specs.declared.program.Function.{Function}
use Rattle.step_meaning.specs.declared.program.Core.{Core}
use Rattle.step_meaning.specs.TermSizes.{type_depth}
use Rattle.step_meaning.specs.WellFormed.{IsWellFormed, OfBody}

-- ---- no ghost code and no assertion

abbrev mutual
  pub is_bare : Stmt → Bool
  is_bare (Block' b ss) = are_bare ss
  is_bare (If' e b (more_of-Stmt s end_of-Stmt) c (more_of-Stmt u end_of-Stmt)) = is_bare s && is_bare u
  is_bare (While' e b (more_of-Stmt s end_of-Stmt)) = is_bare s
  is_bare (Do' b (more_of-Stmt s end_of-Stmt) e) = is_bare s
  is_bare (For' test step b (more_of-Stmt s end_of-Stmt)) = is_bare s
  is_bare (Ghost g) = false
  is_bare (Assert v k r) = false
  is_bare _ = true

  pub are_bare : {n : _} → Row_of-Stmt n → Bool
  are_bare end_of-Stmt = true
  are_bare (more_of-Stmt s more) = is_bare s && are_bare more

-- ---- calls and types in expressions

abbrev pub argument_count : {n : _} → Row_of-Expr n → ℕ
argument_count end_of-Expr = 0
argument_count (more_of-Expr e more) = suc (argument_count more)

abbrev mutual
  -- each call in the expression has at most 598 arguments, and each type that `malloc` names nests at most 99 deep
  pub has_short_calls : Expr → Bool
  has_short_calls (Literal k z) = true
  has_short_calls Null = true
  has_short_calls (Load p t) = place_has_short_calls p
  has_short_calls (Address p t) = place_has_short_calls p
  has_short_calls (Convert' k b (more_of-Expr e end_of-Expr)) = has_short_calls e
  has_short_calls (Unary' o k b (more_of-Expr e end_of-Expr)) = has_short_calls e
  has_short_calls (Binary' o k b (more_of-Expr e end_of-Expr) c (more_of-Expr f end_of-Expr)) = has_short_calls e && has_short_calls f
  has_short_calls (Compare' o b (more_of-Expr e end_of-Expr) c (more_of-Expr f end_of-Expr)) = has_short_calls e && has_short_calls f
  has_short_calls (Move' b (more_of-Expr e end_of-Expr) c (more_of-Expr f end_of-Expr) size side) = has_short_calls e && has_short_calls f
  has_short_calls (Difference' b (more_of-Expr e end_of-Expr) c (more_of-Expr f end_of-Expr) unit) = has_short_calls e && has_short_calls f
  has_short_calls (Not' b (more_of-Expr e end_of-Expr)) = has_short_calls e
  has_short_calls (Both' b (more_of-Expr e end_of-Expr) c (more_of-Expr f end_of-Expr)) = has_short_calls e && has_short_calls f
  has_short_calls (Either' b (more_of-Expr e end_of-Expr) c (more_of-Expr f end_of-Expr)) = has_short_calls e && has_short_calls f
  has_short_calls (Choose' b (more_of-Expr e end_of-Expr) c (more_of-Expr f end_of-Expr) d (more_of-Expr g end_of-Expr)) = has_short_calls e && (has_short_calls f && has_short_calls g)
  has_short_calls (Assign' p t b (more_of-Expr e end_of-Expr)) = place_has_short_calls p && has_short_calls e
  has_short_calls (Update' p t u b (more_of-Expr e end_of-Expr) w) = place_has_short_calls p && has_short_calls e
  has_short_calls (Invoke' f b es) = nat_le (argument_count es) 598 && row_has_short_calls es
  has_short_calls GetChar = true
  has_short_calls (PutChar' b (more_of-Expr e end_of-Expr)) = has_short_calls e
  has_short_calls (Malloc' b (more_of-Expr e end_of-Expr) t) = nat_le (type_depth t) 99 && has_short_calls e
  has_short_calls (Free' b (more_of-Expr e end_of-Expr)) = has_short_calls e
  has_short_calls (Discard' b (more_of-Expr e end_of-Expr)) = has_short_calls e

  pub place_has_short_calls : Place_ → Bool
  place_has_short_calls (Own v) = true
  place_has_short_calls (Deref' b (more_of-Expr e end_of-Expr)) = has_short_calls e
  place_has_short_calls (Member' b (more_of-Place_ p end_of-Place_) o) = place_has_short_calls p
  place_has_short_calls (Index' b (more_of-Place_ p end_of-Place_) c (more_of-Expr e end_of-Expr) size) = place_has_short_calls p && has_short_calls e

  pub row_has_short_calls : {n : _} → Row_of-Expr n → Bool
  row_has_short_calls end_of-Expr = true
  row_has_short_calls (more_of-Expr e more) = has_short_calls e && row_has_short_calls more

abbrev pub has_short_calls_if_any : Option Expr → Bool
has_short_calls_if_any None = true
has_short_calls_if_any (Some e) = has_short_calls e

abbrev mutual
  -- the same of the expressions in a statement
  pub calls_are_short : Stmt → Bool
  calls_are_short (Eval e) = has_short_calls e
  calls_are_short (Init v o t e) = has_short_calls e
  calls_are_short (Block' b ss) = all_calls_are_short ss
  calls_are_short (If' e b (more_of-Stmt s end_of-Stmt) c (more_of-Stmt u end_of-Stmt)) = has_short_calls e && (calls_are_short s && calls_are_short u)
  calls_are_short (While' e b (more_of-Stmt s end_of-Stmt)) = has_short_calls e && calls_are_short s
  calls_are_short (Do' b (more_of-Stmt s end_of-Stmt) e) = has_short_calls e && calls_are_short s
  calls_are_short (For' test step b (more_of-Stmt s end_of-Stmt)) = has_short_calls_if_any test && (has_short_calls_if_any step && calls_are_short s)
  calls_are_short (Return e) = has_short_calls_if_any e
  calls_are_short _ = true

  pub all_calls_are_short : {n : _} → Row_of-Stmt n → Bool
  all_calls_are_short end_of-Stmt = true
  all_calls_are_short (more_of-Stmt s more) = calls_are_short s && all_calls_are_short more

-- ---- nesting, where each `&&`, `||` and `? :` is an `if` over blocks, each loop a `while` over a block, and what ends a turn stands before each `continue`

-- statements in a block of an `if` or a `while` nest two deeper
abbrev pub in_branch : ℕ → ℕ
in_branch n = 2 + n

abbrev mutual
  -- how deep the statements nest that compute an expression: operands that are evaluated in one case alone stand in a branch
  pub branching : Expr → ℕ
  branching (Literal k z) = 1
  branching Null = 1
  branching (Load p t) = place_branching p
  branching (Address p t) = place_branching p
  branching (Convert' k b (more_of-Expr e end_of-Expr)) = branching e
  branching (Unary' o k b (more_of-Expr e end_of-Expr)) = branching e
  branching (Binary' o k b (more_of-Expr e end_of-Expr) c (more_of-Expr f end_of-Expr)) = max (branching e) (branching f)
  branching (Compare' o b (more_of-Expr e end_of-Expr) c (more_of-Expr f end_of-Expr)) = max (branching e) (branching f)
  branching (Move' b (more_of-Expr e end_of-Expr) c (more_of-Expr f end_of-Expr) size side) = max (branching e) (branching f)
  branching (Difference' b (more_of-Expr e end_of-Expr) c (more_of-Expr f end_of-Expr) unit) = max (branching e) (branching f)
  branching (Not' b (more_of-Expr e end_of-Expr)) = branching e
  branching (Both' b (more_of-Expr e end_of-Expr) c (more_of-Expr f end_of-Expr)) = max (branching e) (in_branch (branching f))
  branching (Either' b (more_of-Expr e end_of-Expr) c (more_of-Expr f end_of-Expr)) = max (branching e) (in_branch (branching f))
  branching (Choose' b (more_of-Expr e end_of-Expr) c (more_of-Expr f end_of-Expr) d (more_of-Expr g end_of-Expr)) = max (branching e) (in_branch (max (branching f) (branching g)))
  branching (Assign' p t b (more_of-Expr e end_of-Expr)) = max (place_branching p) (branching e)
  branching (Update' p t u b (more_of-Expr e end_of-Expr) w) = max (place_branching p) (branching e)
  branching (Invoke' f b es) = row_branching es
  branching GetChar = 1
  branching (PutChar' b (more_of-Expr e end_of-Expr)) = branching e
  branching (Malloc' b (more_of-Expr e end_of-Expr) t) = branching e
  branching (Free' b (more_of-Expr e end_of-Expr)) = branching e
  branching (Discard' b (more_of-Expr e end_of-Expr)) = branching e

  pub place_branching : Place_ → ℕ
  place_branching (Own v) = 1
  place_branching (Deref' b (more_of-Expr e end_of-Expr)) = branching e
  place_branching (Member' b (more_of-Place_ p end_of-Place_) o) = place_branching p
  place_branching (Index' b (more_of-Place_ p end_of-Place_) c (more_of-Expr e end_of-Expr) size) = max (place_branching p) (branching e)

  pub row_branching : {n : _} → Row_of-Expr n → ℕ
  row_branching end_of-Expr = 1
  row_branching (more_of-Expr e more) = max (branching e) (row_branching more)

abbrev pub branching_if_any : Option Expr → ℕ
branching_if_any None = 1
branching_if_any (Some e) = branching e

-- a test that leaves a loop by a `break` in a branch
abbrev pub test_branching : Option Expr → ℕ
test_branching None = 1
test_branching (Some e) = max (branching e) (in_branch 1)

abbrev mutual
  -- of a statement in a loop whose turns end with statements that nest so deep, which stand before each of its `continue`
  pub full_nesting : ℕ → Stmt → ℕ
  full_nesting last (Eval e) = branching e
  full_nesting last (Init v o t e) = branching e
  full_nesting last (Block' b ss) = 1 + row_full_nesting last ss
  full_nesting last (If' e b (more_of-Stmt s end_of-Stmt) c (more_of-Stmt u end_of-Stmt)) = max (branching e) (in_branch (max (full_nesting last s) (full_nesting last u)))
  full_nesting last (While' e b (more_of-Stmt s end_of-Stmt)) = in_branch (max (test_branching (Some e)) (full_nesting 1 s))
  full_nesting last (Do' b (more_of-Stmt s end_of-Stmt) e) = in_branch (max (test_branching (Some e)) (full_nesting (test_branching (Some e)) s))
  full_nesting last (For' test step b (more_of-Stmt s end_of-Stmt)) = in_branch (max (test_branching test) (max (branching_if_any step) (full_nesting (branching_if_any step) s)))
  full_nesting last Continue = max last 1
  full_nesting last (Return e) = branching_if_any e
  full_nesting last _ = 1

  pub row_full_nesting : {n : _} → ℕ → Row_of-Stmt n → ℕ
  row_full_nesting last end_of-Stmt = 1
  row_full_nesting last (more_of-Stmt s more) = max (full_nesting last s) (row_full_nesting last more)

-- ---- sources

-- the types nest at most 99 deep, so that a pointer to each nests at most 100 deep
abbrev pub have_source_types : List Declared → Bool
have_source_types ds = list_all (λ d. nat_le (type_depth d.ctype) 99) ds

pub record IsSourceFunction (f : Function) : Type 0 where
  -- no register and no ghost variable
  pub registers : f.registers ≡ []
  pub ghosts : f.ghosts ≡ []
  pub types : IsTrue (nat_le (type_depth f.result) 99 && have_source_types f.locals)
  -- no ghost code and no assertion
  pub bare : OfBody (λ ss. IsTrue (list_all is_bare ss)) f.body
  pub short_calls : OfBody (λ ss. IsTrue (list_all calls_are_short ss)) f.body
  -- the statements of its normal form nest at most 500 deep
  pub nesting : OfBody (λ ss. IsTrue (list_all (λ s. nat_le (full_nesting 1 s) 500) ss)) f.body

pub record IsSource (q : Core) : Type 0 where
  pub well_formed : IsWellFormed q
  pub ghosts : q.ghosts ≡ []
  pub struct_types : IsTrue (list_all (λ l. have_source_types l.members) q.layouts)
  pub global_types : IsTrue (have_source_types q.globals)
  pub functions : AllByRecursion IsSourceFunction q.functions
