-- What the statements of a function's body keep (C11 6.8): conditions are integers or pointers, `break` and `continue` stand in loops, `return` has a value exactly where the function has one, and expressions have types.
-- Ghost code and assertions keep the rules on annotations.
use Rattle.std.specs.Prelude.{ℕ, Bool, true, false, ◌&&◌, nat_le, List, slice_get, Option, Some, None, IsTrue}
use Rattle.std.specs.List.{AllByRecursion}
use Rattle.step_meaning.specs.declared.value.CType.{CType}
use Rattle.step_meaning.specs.declared.value.CType.TheVariants.{Void}
use Rattle.step_meaning.specs.declared.value.NameKind.TheVariants.{Local}
use Rattle.step_meaning.specs.declared.expr.Variable.{Variable}
use Rattle.step_meaning.specs.declared.expr.Expr.{Expr}
use Rattle.step_meaning.specs.declared.stmt.Stmt.{Stmt, Row_of-Stmt, end_of-Stmt, more_of-Stmt}
use Rattle.step_meaning.specs.declared.stmt.Stmt.TheVariants.{Empty, Eval, Init, Block', If', While', Do', For', Break, Continue, Return, Ghost, Assert}
use Rattle.step_meaning.specs.declared.program.Function.{Function}
use Rattle.step_meaning.specs.declared.program.Core.{Core}
use Rattle.step_meaning.specs.Names.{same_kind}
use Rattle.step_meaning.specs.Types.{object_cells}
use Rattle.step_meaning.specs.Settings.{Setting, variable_type, setting_of, code_setting, leading_setting}
use Rattle.step_meaning.specs.Calls.{annotations, after_annotations}
use Rattle.step_meaning.specs.ExpressionTypes.{has_this_type, has_a_type, is_condition, gives}
use Rattle.step_meaning.specs.Annotations.{nothing_else, PredicateFits, GhostFits}

-- monitors have the numbers 1 to 16
abbrev pub is_monitor : ℕ → Bool
is_monitor k = nat_le 1 k && nat_le k 16

module _ (q : Core) (f : Function) where
  -- what the function's code may name
  abbrev pub own_code : Setting
  own_code = code_setting q f

  -- a test or step of a `for` that is left out keeps every rule
  abbrev pub where_there : (Expr → Bool) → Option Expr → Bool
  where_there test None = true
  where_there test (Some e) = test e

  -- the type of a cell of an object
  abbrev pub cell_type : Option CType → ℕ → Option CType
  cell_type None o = None
  cell_type (Some t) o = slice_get (object_cells q.layouts t) o

  -- a cell of an initialised local, which is no parameter: a cell of the variable, with its type, takes the value (C11 6.7.9, 11)
  abbrev pub is_initialised : Variable → ℕ → CType → Expr → Bool
  is_initialised v o t e =
      same_kind v.kind Local && (nat_le f.params v.index && (has_this_type t (cell_type (variable_type own_code v) o) && gives q own_code t e))

  -- C11 6.8.6.4, 1
  abbrev pub may_return : CType → Option Expr → Bool
  may_return Void None = true
  may_return Void (Some e) = false
  may_return t None = false
  may_return t (Some e) = gives q own_code t e

  -- where its annotations may name this, and in a loop or not
  module _ (noted : Setting) where
    abbrev mutual
      pub StatementFits : Bool → Stmt → Type 0
      StatementFits loop Empty = Unit {0}
      StatementFits loop (Eval e) = IsTrue (has_a_type q own_code e)
      StatementFits loop (Init v o t e) = IsTrue (is_initialised v o t e)
      StatementFits loop (Block' b ss) = RowFits loop ss
      StatementFits loop (If' e b (more_of-Stmt s end_of-Stmt) c (more_of-Stmt u end_of-Stmt)) = IsTrue (is_condition q own_code e) × StatementFits loop s × StatementFits loop u
      StatementFits loop (While' e b (more_of-Stmt s end_of-Stmt)) = IsTrue (is_condition q own_code e) × StatementFits true s
      StatementFits loop (Do' b (more_of-Stmt s end_of-Stmt) e) = IsTrue (is_condition q own_code e) × StatementFits true s
      StatementFits loop (For' test step b (more_of-Stmt s end_of-Stmt)) = IsTrue (where_there (is_condition q own_code) test && where_there (has_a_type q own_code) step) × StatementFits true s
      -- C11 6.8.6.2, 1; 6.8.6.3, 1
      StatementFits loop Break = IsTrue loop
      StatementFits loop Continue = IsTrue loop
      StatementFits loop (Return e) = IsTrue (may_return f.result e)
      StatementFits loop (Ghost s) = GhostFits noted nothing_else s
      StatementFits loop (Assert v k r) = IsTrue (is_monitor k) × PredicateFits noted nothing_else r

      pub RowFits : {n : _} → Bool → Row_of-Stmt n → Type 0
      RowFits loop end_of-Stmt = Unit {0}
      RowFits loop (more_of-Stmt s more) = StatementFits loop s × RowFits loop more

    -- statements of a body, which are in no loop
    abbrev pub AllFit : List Stmt → Type 0
    AllFit ss = AllByRecursion (StatementFits false) ss

  -- the annotations that begin a body name no register and, of the function's locals, its parameters alone
  abbrev pub BodyFits : List Stmt → Type 0
  BodyFits ss = AllFit (leading_setting q f) (annotations ss) × AllFit (setting_of q f) (after_annotations ss)
