-- Programs that are written as texts which read back: well-formed ones in normal form, whose parts are within the limits of what is read.
use Rattle.std.specs.Prelude.{Bool, true, ◌&&◌, nat_le, List, Option, Some, None, IsTrue}
use Rattle.std.specs.List.{list_all}
use Rattle.step_meaning.specs.declared.expr.Expr.{Expr, end_of-Expr, more_of-Expr}
use Rattle.step_meaning.specs.declared.expr.Expr.TheVariants.{Malloc', Assign'}
use Rattle.step_meaning.specs.declared.stmt.GhostStmt.{GhostStmt, Row_of-GhostStmt, end_of-GhostStmt, more_of-GhostStmt}
use Rattle.step_meaning.specs.declared.stmt.GhostStmt.TheVariants.{Set, When'}
use Rattle.step_meaning.specs.declared.stmt.Stmt.{Stmt, Row_of-Stmt, end_of-Stmt, more_of-Stmt}
use Rattle.step_meaning.specs.declared.stmt.Stmt.TheVariants.{Empty, Eval, Init, Block', If', While', Do', For', Break, Continue, Return, Ghost, Assert}
use Rattle.step_meaning.specs.declared.predicate.Predicate.{Predicate}
use Rattle.step_meaning.specs.declared.predicate.Term.{Term}
use Rattle.step_meaning.specs.declared.program.Declared.{Declared}
use Rattle.step_meaning.specs.declared.program.Function.{Function}
use Rattle.step_meaning.specs.declared.program.Core.{Core}
use Rattle.step_meaning.specs.Sizes.{nodes, depth, nesting}
use Rattle.step_meaning.specs.WellFormed.{IsWellFormed}
use Rattle.step_meaning.specs.Normal.{IsNormal}
use Rattle.step_meaning.specs.TermSizes.{predicate_nodes, term_nodes, ghost_depth, type_depth}

-- ---- expressions and annotations

-- the type that a call of `malloc` names nests at most 100 deep. In normal form the call is the whole expression, or is what a register takes
abbrev pub allocates_small_type : Expr → Bool
allocates_small_type (Malloc' b e t) = nat_le (type_depth t) 100
allocates_small_type (Assign' p u b (more_of-Expr (Malloc' c e t) end_of-Expr)) = nat_le (type_depth t) 100
allocates_small_type e = true

-- an expression has at most 1,200 nodes and depth 64
abbrev pub is_small : Expr → Bool
is_small e = nat_le (nodes e) 1200 && (nat_le (depth e) 64 && allocates_small_type e)

abbrev pub is_small_or_nothing : Option Expr → Bool
is_small_or_nothing None = true
is_small_or_nothing (Some e) = is_small e

-- a predicate, and a term that is set, have at most 900 nodes
abbrev pub is_small_predicate : Predicate → Bool
is_small_predicate r = nat_le (predicate_nodes r) 900

abbrev pub is_small_term : Term → Bool
is_small_term e = nat_le (term_nodes e) 900

abbrev mutual
  -- those of ghost code
  pub has_small_parts : GhostStmt → Bool
  has_small_parts (Set v e) = is_small_term e
  has_small_parts (When' r b ss c us) = is_small_predicate r && (have_small_parts ss && have_small_parts us)

  pub have_small_parts : {n : _} → Row_of-GhostStmt n → Bool
  have_small_parts end_of-GhostStmt = true
  have_small_parts (more_of-GhostStmt s more) = has_small_parts s && have_small_parts more

-- ghost code within one annotation nests at most 100 deep
abbrev pub is_small_ghost : GhostStmt → Bool
is_small_ghost s = nat_le (ghost_depth s) 100 && has_small_parts s

-- ---- statements

abbrev mutual
  -- the expressions and annotations in a statement are so small
  pub is_small_within : Stmt → Bool
  is_small_within Empty = true
  is_small_within (Eval e) = is_small e
  is_small_within (Init v o t e) = is_small e
  is_small_within (Block' b ss) = are_small_within ss
  is_small_within (If' e b (more_of-Stmt s end_of-Stmt) c (more_of-Stmt u end_of-Stmt)) = is_small e && (is_small_within s && is_small_within u)
  is_small_within (While' e b (more_of-Stmt s end_of-Stmt)) = is_small e && is_small_within s
  is_small_within (Do' b (more_of-Stmt s end_of-Stmt) e) = is_small e && is_small_within s
  is_small_within (For' test step b (more_of-Stmt s end_of-Stmt)) = is_small_or_nothing test && (is_small_or_nothing step && is_small_within s)
  is_small_within Break = true
  is_small_within Continue = true
  is_small_within (Return e) = is_small_or_nothing e
  is_small_within (Ghost s) = is_small_ghost s
  is_small_within (Assert v k r) = is_small_predicate r

  pub are_small_within : {n : _} → Row_of-Stmt n → Bool
  are_small_within end_of-Stmt = true
  are_small_within (more_of-Stmt s more) = is_small_within s && are_small_within more

-- a statement nests at most 700 deep
abbrev pub is_small_statement : Stmt → Bool
is_small_statement s = nat_le (nesting s) 700 && is_small_within s

abbrev pub is_small_body : Option (List Stmt) → Bool
is_small_body None = true
is_small_body (Some ss) = list_all is_small_statement ss

-- ---- types

-- a type nests at most 100 deep
abbrev pub have_small_types : List Declared → Bool
have_small_types ds = list_all (λ d. nat_le (type_depth d.ctype) 100) ds

-- the types that a function declares. Each type in its code is a part of a declared one, or is named by a call of `malloc`
abbrev pub declares_small_types : Function → Bool
declares_small_types f = nat_le (type_depth f.result) 100 && (have_small_types f.locals && (have_small_types f.registers && have_small_types f.ghosts))

-- ---- programs

pub record IsPrintable (q : Core) : Type 0 where
  pub well_formed : IsWellFormed q
  pub normal : IsNormal q
  -- expressions have at most 1,200 nodes and depth 64, statements nest at most 700 deep, ghost code within one annotation at most 100 deep, and each predicate and each term that is set has at most 900 nodes
  pub bodies : IsTrue (list_all (λ f. is_small_body f.body) q.functions)
  -- types nest at most 100 deep
  pub struct_types : IsTrue (list_all (λ l. have_small_types l.members) q.layouts)
  pub global_types : IsTrue (have_small_types q.globals && have_small_types q.ghosts)
  pub function_types : IsTrue (list_all declares_small_types q.functions)
