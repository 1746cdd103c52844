-- What holds of each part of an annotation: of each term, place and predicate in it, and of each assignment and predicate in ghost code and assertions.
use Rattle.std.specs.Prelude.{List, [], ◌∷◌, Option, Some, None}
use Rattle.std.specs.List.{AllByRecursion}
use Rattle.step_meaning.specs.declared.expr.Variable.{Variable}
use Rattle.step_meaning.specs.declared.predicate.Term.{Term, end_of-Term, more_of-Term}
use Rattle.step_meaning.specs.declared.predicate.Term.TheVariants as t
use Rattle.step_meaning.specs.declared.predicate.TermPlace.{TermPlace, end_of-TermPlace, more_of-TermPlace}
use Rattle.step_meaning.specs.declared.predicate.TermPlace.TheVariants as p
use Rattle.step_meaning.specs.declared.predicate.Location.{Location}
use Rattle.step_meaning.specs.declared.predicate.Predicate.{Predicate, end_of-Predicate, more_of-Predicate}
use Rattle.step_meaning.specs.declared.predicate.Predicate.TheVariants.{Not', And', Or', Implies', Iff', Relation, Valid, Separated}
use Rattle.step_meaning.specs.declared.stmt.GhostStmt.{GhostStmt, Row_of-GhostStmt, end_of-GhostStmt, more_of-GhostStmt}
use Rattle.step_meaning.specs.declared.stmt.GhostStmt.TheVariants.{Set, When'}
use Rattle.step_meaning.specs.declared.stmt.Stmt.{Stmt}
use Rattle.step_meaning.specs.declared.stmt.Stmt.TheVariants.{Ghost, Assert}

-- ---- terms, places and predicates, each with all its parts

-- what is to hold of each term, place and predicate
pub record Conditions : Type 1 where
  pub on_term : Term → Type 0
  pub on_place : TermPlace → Type 0
  pub on_predicate : Predicate → Type 0

abbrev pub no_condition : Conditions
no_condition = record { on_term = λ e. Unit {0}; on_place = λ q. Unit {0}; on_predicate = λ r. Unit {0} }

module _ (c : Conditions) where
  abbrev mutual
    pub EachInTerm : Term → Type 0
    EachInTerm (t.Load q u) = c.on_term (t.Load q u) × EachInPlace q
    EachInTerm (t.Address q u) = c.on_term (t.Address q u) × EachInPlace q
    EachInTerm (t.Neg' b (more_of-Term e end_of-Term)) = c.on_term (t.Neg' b (more_of-Term e end_of-Term)) × EachInTerm e
    EachInTerm (t.Arith' o b (more_of-Term e end_of-Term) d (more_of-Term f end_of-Term)) = c.on_term (t.Arith' o b (more_of-Term e end_of-Term) d (more_of-Term f end_of-Term)) × EachInTerm e × EachInTerm f
    EachInTerm (t.Move' b (more_of-Term e end_of-Term) d (more_of-Term f end_of-Term) size) = c.on_term (t.Move' b (more_of-Term e end_of-Term) d (more_of-Term f end_of-Term) size) × EachInTerm e × EachInTerm f
    EachInTerm (t.AtPre q u) = c.on_term (t.AtPre q u) × EachInPlace q
    EachInTerm e = c.on_term e

    pub EachInPlace : TermPlace → Type 0
    EachInPlace (p.Own v) = c.on_place (p.Own v)
    EachInPlace (p.Deref' b (more_of-Term e end_of-Term)) = c.on_place (p.Deref' b (more_of-Term e end_of-Term)) × EachInTerm e
    EachInPlace (p.Member' b (more_of-TermPlace q end_of-TermPlace) o) = c.on_place (p.Member' b (more_of-TermPlace q end_of-TermPlace) o) × EachInPlace q
    EachInPlace (p.Index' b (more_of-TermPlace q end_of-TermPlace) d (more_of-Term e end_of-Term) size) = c.on_place (p.Index' b (more_of-TermPlace q end_of-TermPlace) d (more_of-Term e end_of-Term) size) × EachInPlace q × EachInTerm e

  abbrev pub EachInRange : Option (Term × Term) → Type 0
  EachInRange None = Unit {0}
  EachInRange (Some e) = EachInTerm e.0 × EachInTerm e.1

  abbrev pub EachInLocation : Location → Type 0
  EachInLocation l = EachInTerm l.base × EachInRange l.span

  abbrev mutual
    pub EachInPredicate : Predicate → Type 0
    EachInPredicate (Not' b (more_of-Predicate r end_of-Predicate)) = c.on_predicate (Not' b (more_of-Predicate r end_of-Predicate)) × EachInPredicate r
    EachInPredicate (And' b (more_of-Predicate q end_of-Predicate) d (more_of-Predicate r end_of-Predicate)) = c.on_predicate (And' b (more_of-Predicate q end_of-Predicate) d (more_of-Predicate r end_of-Predicate)) × EachInPredicate q × EachInPredicate r
    EachInPredicate (Or' b (more_of-Predicate q end_of-Predicate) d (more_of-Predicate r end_of-Predicate)) = c.on_predicate (Or' b (more_of-Predicate q end_of-Predicate) d (more_of-Predicate r end_of-Predicate)) × EachInPredicate q × EachInPredicate r
    EachInPredicate (Implies' b (more_of-Predicate q end_of-Predicate) d (more_of-Predicate r end_of-Predicate)) = c.on_predicate (Implies' b (more_of-Predicate q end_of-Predicate) d (more_of-Predicate r end_of-Predicate)) × EachInPredicate q × EachInPredicate r
    EachInPredicate (Iff' b (more_of-Predicate q end_of-Predicate) d (more_of-Predicate r end_of-Predicate)) = c.on_predicate (Iff' b (more_of-Predicate q end_of-Predicate) d (more_of-Predicate r end_of-Predicate)) × EachInPredicate q × EachInPredicate r
    EachInPredicate (Relation o e f) = c.on_predicate (Relation o e f) × EachInTerm e × EachInTerm f
    EachInPredicate (Valid l) = c.on_predicate (Valid l) × EachInLocation l
    EachInPredicate (Separated ls) = c.on_predicate (Separated ls) × AllByRecursion EachInLocation ls
    EachInPredicate r = c.on_predicate r

-- ---- assignments and predicates of ghost code and assertions

module _ (on_set : Variable → Term → Type 0) (on_whole : Predicate → Type 0) where
  abbrev mutual
    -- of each assignment, and of the predicate of each `if`
    pub EachInGhost : GhostStmt → Type 0
    EachInGhost (Set v e) = on_set v e
    EachInGhost (When' r b h d k) = on_whole r × EachInAllGhosts h × EachInAllGhosts k

    pub EachInAllGhosts : {n : _} → Row_of-GhostStmt n → Type 0
    EachInAllGhosts end_of-GhostStmt = Unit {0}
    EachInAllGhosts (more_of-GhostStmt h more) = EachInGhost h × EachInAllGhosts more

  -- the same, and of the predicate of each assertion
  abbrev pub EachInCode : List Stmt → Type 0
  EachInCode [] = Unit {0}
  EachInCode (Ghost g ∷ code) = EachInGhost g × EachInCode code
  EachInCode (Assert k j r ∷ code) = on_whole r × EachInCode code
  EachInCode (_ ∷ code) = EachInCode code
