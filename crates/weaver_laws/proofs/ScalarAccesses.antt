-- Statements whose registers and places take integers and pointers alone, without annotations.
use Rattle.std.proofs.Common.{Bool, true, false, ◌&&◌, List, [], ◌∷◌}
use Rattle.step_meaning.specs.declared.stmt.Stmt.{Stmt, Row_of-Stmt, end_of-Stmt, more_of-Stmt}
use Rattle.step_meaning.specs.declared.stmt.Stmt.TheVariants.{Ghost, Assert, Eval}
use Rattle.step_meaning.specs.declared.stmt.Stmt.TheVariants as st
use Rattle.step_meaning.specs.declared.expr.Expr.{Expr, end_of-Expr, more_of-Expr}
use Rattle.step_meaning.specs.declared.expr.Expr.TheVariants as ex
use Rattle.step_meaning.specs.TypeRules.{is_scalar}

-- ---- expression statements take and read scalars

abbrev pub has_scalar_access : Expr → Bool
has_scalar_access (ex.Load q u) = is_scalar u
has_scalar_access e = true

-- what a register or place takes, and what is read, is an integer or a pointer
abbrev pub has_scalars : Expr → Bool
has_scalars (ex.Assign' q u b (more_of-Expr e end_of-Expr)) = is_scalar u && has_scalar_access e
has_scalars e = true

abbrev mutual
  -- of each expression statement
  pub scalars_in : Stmt → Bool
  scalars_in (st.Eval e) = has_scalars e
  scalars_in (st.Block' b xs) = scalars_in_row xs
  scalars_in (st.If' e b (more_of-Stmt x end_of-Stmt) c (more_of-Stmt y end_of-Stmt)) = scalars_in x && scalars_in y
  scalars_in (st.While' e b (more_of-Stmt x end_of-Stmt)) = scalars_in x
  -- no annotation stands in the source
  scalars_in (st.Ghost q) = false
  scalars_in (st.Assert k n q) = false
  scalars_in _ = true

  pub scalars_in_row : {n : _} → Row_of-Stmt n → Bool
  scalars_in_row end_of-Stmt = true
  scalars_in_row (more_of-Stmt x more) = scalars_in x && scalars_in_row more

abbrev pub scalars_in_all : List Stmt → Bool
scalars_in_all [] = true
scalars_in_all (x ∷ xs) = scalars_in x && scalars_in_all xs
