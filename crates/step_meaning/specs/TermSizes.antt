-- Sizes of annotations and types: nodes of predicates and terms (ACSL, terms and predicates), the depth of ghost code (ACSL, ghost variables and statements), and the depth of a type (C11 6.2.5).
-- The nodes of a tree are its values of `Predicate`, `Term`, `TermPlace` and `Location`.
use Rattle.std.specs.Prelude.{ℕ, suc, ◌+◌, max, List, [], ◌∷◌, Option, Some, None}
use Rattle.step_meaning.specs.declared.value.CType.{CType, end_of-CType, more_of-CType}
use Rattle.step_meaning.specs.declared.value.CType.TheVariants.{Void, Int, Pointer', Array', Struct}
use Rattle.step_meaning.specs.declared.predicate.Term.{Term, end_of-Term, more_of-Term}
use Rattle.step_meaning.specs.declared.predicate.Term.TheVariants as t
use Rattle.step_meaning.specs.declared.predicate.TermPlace.{TermPlace, end_of-TermPlace, more_of-TermPlace}
use Rattle.step_meaning.specs.declared.predicate.TermPlace.TheVariants as p
use Rattle.step_meaning.specs.declared.predicate.Location.{Location}
use Rattle.step_meaning.specs.declared.predicate.Predicate.{Predicate, end_of-Predicate, more_of-Predicate}
use Rattle.step_meaning.specs.declared.predicate.Predicate.TheVariants.{Not', And', Or', Implies', Iff', Relation, Valid, Separated}
use Rattle.step_meaning.specs.declared.stmt.GhostStmt.{GhostStmt, Row_of-GhostStmt, end_of-GhostStmt, more_of-GhostStmt}
use Rattle.step_meaning.specs.declared.stmt.GhostStmt.TheVariants.{Set, When'}

-- the sum of the numbers of the elements
abbrev pub total : {A : Type 0} → (A → ℕ) → List A → ℕ
total count [] = 0
total count (x ∷ xs) = count x + total count xs

-- ---- nodes, where what a term takes from the step itself counts as so many: the accessed pointer, a parameter, a result

module _ (from_step : ℕ) where
  abbrev mutual
    pub nodes_of_term : Term → ℕ
    nodes_of_term (t.Load q u) = suc (nodes_of_place q)
    nodes_of_term (t.Address q u) = suc (nodes_of_place q)
    nodes_of_term (t.Neg' b (more_of-Term e end_of-Term)) = suc (nodes_of_term e)
    nodes_of_term (t.Arith' o b (more_of-Term e end_of-Term) c (more_of-Term f end_of-Term)) = suc (nodes_of_term e + nodes_of_term f)
    nodes_of_term (t.Move' b (more_of-Term e end_of-Term) c (more_of-Term f end_of-Term) size) = suc (nodes_of_term e + nodes_of_term f)
    nodes_of_term (t.AtPre q u) = suc (nodes_of_place q)
    nodes_of_term t.Accessed = from_step
    nodes_of_term (t.Parameter f i) = from_step
    nodes_of_term (t.Result f) = from_step
    nodes_of_term _ = 1

    pub nodes_of_place : TermPlace → ℕ
    nodes_of_place (p.Own v) = 1
    nodes_of_place (p.Deref' b (more_of-Term e end_of-Term)) = suc (nodes_of_term e)
    nodes_of_place (p.Member' b (more_of-TermPlace q end_of-TermPlace) o) = suc (nodes_of_place q)
    nodes_of_place (p.Index' b (more_of-TermPlace q end_of-TermPlace) c (more_of-Term e end_of-Term) size) = suc (nodes_of_place q + nodes_of_term e)

  abbrev pub nodes_of_span : Option (Term × Term) → ℕ
  nodes_of_span None = 0
  nodes_of_span (Some e) = nodes_of_term e.0 + nodes_of_term e.1

  abbrev pub nodes_of_location : Location → ℕ
  nodes_of_location l = suc (nodes_of_term l.base + nodes_of_span l.span)

  abbrev mutual
    pub nodes_of_predicate : Predicate → ℕ
    nodes_of_predicate (Not' b (more_of-Predicate r end_of-Predicate)) = suc (nodes_of_predicate r)
    nodes_of_predicate (And' b (more_of-Predicate q end_of-Predicate) c (more_of-Predicate r end_of-Predicate)) = suc (nodes_of_predicate q + nodes_of_predicate r)
    nodes_of_predicate (Or' b (more_of-Predicate q end_of-Predicate) c (more_of-Predicate r end_of-Predicate)) = suc (nodes_of_predicate q + nodes_of_predicate r)
    nodes_of_predicate (Implies' b (more_of-Predicate q end_of-Predicate) c (more_of-Predicate r end_of-Predicate)) = suc (nodes_of_predicate q + nodes_of_predicate r)
    nodes_of_predicate (Iff' b (more_of-Predicate q end_of-Predicate) c (more_of-Predicate r end_of-Predicate)) = suc (nodes_of_predicate q + nodes_of_predicate r)
    nodes_of_predicate (Relation c e f) = suc (nodes_of_term e + nodes_of_term f)
    nodes_of_predicate (Valid l) = suc (nodes_of_location l)
    nodes_of_predicate (Separated ls) = suc (total nodes_of_location ls)
    nodes_of_predicate _ = 1

-- the nodes of a term and of a predicate
abbrev pub term_nodes : Term → ℕ
term_nodes e = nodes_of_term 1 e

abbrev pub predicate_nodes : Predicate → ℕ
predicate_nodes r = nodes_of_predicate 1 r

-- the same, where the accessed pointer, a parameter and a result count as two each: what stands for them in a program is a variable that is read
abbrev pub term_nodes_as_read : Term → ℕ
term_nodes_as_read e = nodes_of_term 2 e

abbrev pub predicate_nodes_as_read : Predicate → ℕ
predicate_nodes_as_read r = nodes_of_predicate 2 r

-- ---- ghost code nests as deep as the number of its statements one inside the other

abbrev mutual
  pub ghost_depth : GhostStmt → ℕ
  ghost_depth (Set v e) = 1
  ghost_depth (When' r a g b h) = suc (max (ghost_depth_of_all g) (ghost_depth_of_all h))

  pub ghost_depth_of_all : {n : _} → Row_of-GhostStmt n → ℕ
  ghost_depth_of_all end_of-GhostStmt = 0
  ghost_depth_of_all (more_of-GhostStmt g more) = max (ghost_depth g) (ghost_depth_of_all more)

-- ---- a type nests as deep as the number of its values of `CType`

abbrev pub type_depth : CType → ℕ
type_depth Void = 1
type_depth (Int k) = 1
type_depth (Pointer' b (more_of-CType u end_of-CType)) = suc (type_depth u)
type_depth (Array' b (more_of-CType u end_of-CType) n) = suc (type_depth u)
type_depth (Struct n) = 1
