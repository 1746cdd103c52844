-- Predicates and ghost code that keep the rules on annotations (ACSL, terms, predicates, ghost variables and statements): the kinds of their terms, their integer constants, and the limit on intervals.
use Rattle.std.specs.Prelude.{Option, Some}
use Rattle.step_meaning.specs.declared.value.CType.{CType}
use Rattle.step_meaning.specs.declared.value.CType.TheVariants as type
use Rattle.step_meaning.specs.declared.value.NameKind.{NameKind}
use Rattle.step_meaning.specs.declared.value.NameKind.TheVariants as names
use Rattle.step_meaning.specs.declared.expr.Variable.{Variable}
use Rattle.step_meaning.specs.declared.predicate.Term.{Term}
use Rattle.step_meaning.specs.declared.predicate.Predicate.{Predicate}
use Rattle.step_meaning.specs.declared.stmt.GhostStmt.{GhostStmt, Row_of-GhostStmt, end_of-GhostStmt, more_of-GhostStmt}
use Rattle.step_meaning.specs.declared.stmt.GhostStmt.TheVariants.{Set, When'}
use Rattle.step_meaning.specs.Settings.{Setting, variable_type}
pub use Rattle.step_meaning.specs.Allowances.{Allowed, nothing_else}
use Rattle.step_meaning.specs.Intervals.{TermLimited, PredicateLimited}
use Rattle.step_meaning.specs.TermKinds.{Kind, Integer, PointerTo, AnyNull, term_kind, PredicateKinds}

pub record PredicateFits (g : Setting) (a : Allowed) (r : Predicate) : Type 0 where
  pub kinds : PredicateKinds g a r
  pub limited : PredicateLimited a g.layouts r

-- ---- ghost code

abbrev pub IsGhostKind : NameKind → Type 0
IsGhostKind names.GhostGlobal = Unit {0}
IsGhostKind names.GhostLocal = Unit {0}
IsGhostKind _ = ⊥

-- an integer variable takes an integer term, a pointer variable a pointer term or null
abbrev pub Takes : Option CType → Option Kind → Type 0
Takes (Some (type.Int k)) (Some Integer) = Unit {0}
Takes (Some (type.Pointer' b u)) (Some (PointerTo w)) = Unit {0}
Takes (Some (type.Pointer' b u)) (Some AnyNull) = Unit {0}
Takes _ _ = ⊥

-- a ghost variable takes the value of the term
pub record AssignmentFits (g : Setting) (a : Allowed) (v : Variable) (e : Term) : Type 0 where
  pub ghost : IsGhostKind v.kind
  pub takes : Takes (variable_type g v) (term_kind g a e)
  pub limited : TermLimited a e

module _ (g : Setting) (a : Allowed) where
  abbrev mutual
    pub GhostFits : GhostStmt → Type 0
    GhostFits (Set v e) = AssignmentFits g a v e
    GhostFits (When' r b h c k) = PredicateFits g a r × AllGhostsFit h × AllGhostsFit k

    pub AllGhostsFit : {n : _} → Row_of-GhostStmt n → Type 0
    AllGhostsFit end_of-GhostStmt = Unit {0}
    AllGhostsFit (more_of-GhostStmt h more) = GhostFits h × AllGhostsFit more
