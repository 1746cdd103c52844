-- Conditions on all parts of code, and its sizes, where its ghost variables are numbered anew.
use Rattle.std.specs.List.{AllByRecursion}
use Rattle.std.proofs.Common.{◌≡◌, ℕ, suc, max, List, [], ◌∷◌, map, Option, Some, None, refl, ap, ap₂}
use Rattle.std.specs.Prelude.{◌+◌}
use Rattle.step_meaning.specs.declared.predicate.Term.{Term, end_of-Term, more_of-Term}
use Rattle.step_meaning.specs.declared.predicate.Term.TheVariants as t
use Rattle.step_meaning.specs.declared.predicate.TermPlace.{TermPlace, end_of-TermPlace, more_of-TermPlace}
use Rattle.step_meaning.specs.declared.predicate.TermPlace.TheVariants as p
use Rattle.step_meaning.specs.declared.predicate.Location.{Location}
use Rattle.step_meaning.specs.declared.predicate.Predicate.{Predicate, end_of-Predicate, more_of-Predicate}
use Rattle.step_meaning.specs.declared.predicate.Predicate.TheVariants.{True, False, Not', And', Or', Implies', Iff', Relation, Valid, Separated, Called, Event as IsEvent}
use Rattle.step_meaning.specs.declared.stmt.GhostStmt.{GhostStmt, Row_of-GhostStmt, end_of-GhostStmt, more_of-GhostStmt}
use Rattle.step_meaning.specs.declared.stmt.GhostStmt.TheVariants.{Set, When'}
use Rattle.step_meaning.specs.TermParts.{Conditions, EachInTerm, EachInPlace, EachInRange, EachInLocation, EachInPredicate}
use Rattle.step_meaning.specs.TermSizes.{nodes_of_term, nodes_of_place, nodes_of_span, nodes_of_location, nodes_of_predicate, total, ghost_depth, ghost_depth_of_all}
use Rattle.weaver_laws.specs.Joining.{shift_term, shift_place, shift_range, shift_location, shift_predicate, shift_ghost, shift_ghosts}

-- ---- conditions on all parts

module _ (n : ℕ) (c d : Conditions) (on_term : (e : Term) → c.on_term e → d.on_term (shift_term n e)) (on_place : (q : TermPlace) → c.on_place q → d.on_place (shift_place n q)) (on_predicate : (r : Predicate) → c.on_predicate r → d.on_predicate (shift_predicate n r)) where
  mutual
    pub each_term : (e : Term) → EachInTerm c e → EachInTerm d (shift_term n e)
    each_term (t.Load q u) x = (on_term (t.Load q u) x.0, each_place q x.1)
    each_term (t.Address q u) x = (on_term (t.Address q u) x.0, each_place q x.1)
    each_term (t.Neg' b (more_of-Term e end_of-Term)) x = (on_term (t.Neg' b (more_of-Term e end_of-Term)) x.0, each_term e x.1)
    each_term (t.Arith' o b (more_of-Term e end_of-Term) k (more_of-Term f end_of-Term)) x = (on_term (t.Arith' o b (more_of-Term e end_of-Term) k (more_of-Term f end_of-Term)) x.0, each_term e x.1, each_term f x.2)
    each_term (t.Move' b (more_of-Term e end_of-Term) k (more_of-Term f end_of-Term) size) x = (on_term (t.Move' b (more_of-Term e end_of-Term) k (more_of-Term f end_of-Term) size) x.0, each_term e x.1, each_term f x.2)
    each_term (t.AtPre q u) x = (on_term (t.AtPre q u) x.0, each_place q x.1)
    each_term (t.Int z) x = on_term (t.Int z) x
    each_term t.Null x = on_term t.Null x
    each_term t.Accessed x = on_term t.Accessed x
    each_term (t.Parameter f i) x = on_term (t.Parameter f i) x
    each_term (t.Result f) x = on_term (t.Result f) x

    pub each_place : (q : TermPlace) → EachInPlace c q → EachInPlace d (shift_place n q)
    each_place (p.Own v) x = on_place (p.Own v) x
    each_place (p.Deref' b (more_of-Term e end_of-Term)) x = (on_place (p.Deref' b (more_of-Term e end_of-Term)) x.0, each_term e x.1)
    each_place (p.Member' b (more_of-TermPlace q end_of-TermPlace) o) x = (on_place (p.Member' b (more_of-TermPlace q end_of-TermPlace) o) x.0, each_place q x.1)
    each_place (p.Index' b (more_of-TermPlace q end_of-TermPlace) k (more_of-Term e end_of-Term) size) x = (on_place (p.Index' b (more_of-TermPlace q end_of-TermPlace) k (more_of-Term e end_of-Term) size) x.0, each_place q x.1, each_term e x.2)

  each_range : (s : Option (Term × Term)) → EachInRange c s → EachInRange d (shift_range n s)
  each_range None x = tt
  each_range (Some e) x = (each_term e.0 x.0, each_term e.1 x.1)

  each_location : (l : Location) → EachInLocation c l → EachInLocation d (shift_location n l)
  each_location l x = (each_term l.base x.0, each_range l.span x.1)

  each_locations : (ls : List Location) → AllByRecursion (EachInLocation c) ls → AllByRecursion (EachInLocation d) (map (shift_location n) ls)
  each_locations [] x = tt
  each_locations (l ∷ ls) x = (each_location l x.0, each_locations ls x.1)

  pub each_predicate : (r : Predicate) → EachInPredicate c r → EachInPredicate d (shift_predicate n r)
  each_predicate True x = on_predicate True x
  each_predicate False x = on_predicate False x
  each_predicate (Not' b (more_of-Predicate r end_of-Predicate)) x = (on_predicate (Not' b (more_of-Predicate r end_of-Predicate)) x.0, each_predicate r x.1)
  each_predicate (And' b (more_of-Predicate q end_of-Predicate) k (more_of-Predicate r end_of-Predicate)) x = (on_predicate (And' b (more_of-Predicate q end_of-Predicate) k (more_of-Predicate r end_of-Predicate)) x.0, each_predicate q x.1, each_predicate r x.2)
  each_predicate (Or' b (more_of-Predicate q end_of-Predicate) k (more_of-Predicate r end_of-Predicate)) x = (on_predicate (Or' b (more_of-Predicate q end_of-Predicate) k (more_of-Predicate r end_of-Predicate)) x.0, each_predicate q x.1, each_predicate r x.2)
  each_predicate (Implies' b (more_of-Predicate q end_of-Predicate) k (more_of-Predicate r end_of-Predicate)) x = (on_predicate (Implies' b (more_of-Predicate q end_of-Predicate) k (more_of-Predicate r end_of-Predicate)) x.0, each_predicate q x.1, each_predicate r x.2)
  each_predicate (Iff' b (more_of-Predicate q end_of-Predicate) k (more_of-Predicate r end_of-Predicate)) x = (on_predicate (Iff' b (more_of-Predicate q end_of-Predicate) k (more_of-Predicate r end_of-Predicate)) x.0, each_predicate q x.1, each_predicate r x.2)
  each_predicate (Relation o e f) x = (on_predicate (Relation o e f) x.0, each_term e x.1, each_term f x.2)
  each_predicate (Valid l) x = (on_predicate (Valid l) x.0, each_location l x.1)
  each_predicate (Separated ls) x = (on_predicate (Separated ls) x.0, each_locations ls x.1)
  each_predicate (Called f flag) x = on_predicate (Called f flag) x
  each_predicate (IsEvent k f) x = on_predicate (IsEvent k f) x

-- ---- sizes

module _ (n m : ℕ) where
  mutual
    pub nodes_same : (e : Term) → nodes_of_term m (shift_term n e) ≡ nodes_of_term m e
    nodes_same (t.Load q u) = ap suc (place_nodes q)
    nodes_same (t.Address q u) = ap suc (place_nodes q)
    nodes_same (t.Neg' b (more_of-Term e end_of-Term)) = ap suc (nodes_same e)
    nodes_same (t.Arith' o b (more_of-Term e end_of-Term) k (more_of-Term f end_of-Term)) = ap₂ (λ x y. suc (x + y)) (nodes_same e) (nodes_same f)
    nodes_same (t.Move' b (more_of-Term e end_of-Term) k (more_of-Term f end_of-Term) size) = ap₂ (λ x y. suc (x + y)) (nodes_same e) (nodes_same f)
    nodes_same (t.AtPre q u) = ap suc (place_nodes q)
    nodes_same (t.Int z) = refl
    nodes_same t.Null = refl
    nodes_same t.Accessed = refl
    nodes_same (t.Parameter f i) = refl
    nodes_same (t.Result f) = refl

    place_nodes : (q : TermPlace) → nodes_of_place m (shift_place n q) ≡ nodes_of_place m q
    place_nodes (p.Own v) = refl
    place_nodes (p.Deref' b (more_of-Term e end_of-Term)) = ap suc (nodes_same e)
    place_nodes (p.Member' b (more_of-TermPlace q end_of-TermPlace) o) = ap suc (place_nodes q)
    place_nodes (p.Index' b (more_of-TermPlace q end_of-TermPlace) k (more_of-Term e end_of-Term) size) = ap₂ (λ x y. suc (x + y)) (place_nodes q) (nodes_same e)

  span_nodes : (s : Option (Term × Term)) → nodes_of_span m (shift_range n s) ≡ nodes_of_span m s
  span_nodes None = refl
  span_nodes (Some e) = ap₂ (λ x y. x + y) (nodes_same e.0) (nodes_same e.1)

  location_nodes : (l : Location) → nodes_of_location m (shift_location n l) ≡ nodes_of_location m l
  location_nodes l = ap₂ (λ x y. suc (x + y)) (nodes_same l.base) (span_nodes l.span)

  total_nodes : (ls : List Location) → total (nodes_of_location m) (map (shift_location n) ls) ≡ total (nodes_of_location m) ls
  total_nodes [] = refl
  total_nodes (l ∷ ls) = ap₂ (λ x y. x + y) (location_nodes l) (total_nodes ls)

  pub predicate_nodes_same : (r : Predicate) → nodes_of_predicate m (shift_predicate n r) ≡ nodes_of_predicate m r
  predicate_nodes_same True = refl
  predicate_nodes_same False = refl
  predicate_nodes_same (Not' b (more_of-Predicate r end_of-Predicate)) = ap suc (predicate_nodes_same r)
  predicate_nodes_same (And' b (more_of-Predicate q end_of-Predicate) k (more_of-Predicate r end_of-Predicate)) = ap₂ (λ x y. suc (x + y)) (predicate_nodes_same q) (predicate_nodes_same r)
  predicate_nodes_same (Or' b (more_of-Predicate q end_of-Predicate) k (more_of-Predicate r end_of-Predicate)) = ap₂ (λ x y. suc (x + y)) (predicate_nodes_same q) (predicate_nodes_same r)
  predicate_nodes_same (Implies' b (more_of-Predicate q end_of-Predicate) k (more_of-Predicate r end_of-Predicate)) = ap₂ (λ x y. suc (x + y)) (predicate_nodes_same q) (predicate_nodes_same r)
  predicate_nodes_same (Iff' b (more_of-Predicate q end_of-Predicate) k (more_of-Predicate r end_of-Predicate)) = ap₂ (λ x y. suc (x + y)) (predicate_nodes_same q) (predicate_nodes_same r)
  predicate_nodes_same (Relation o e f) = ap₂ (λ x y. suc (x + y)) (nodes_same e) (nodes_same f)
  predicate_nodes_same (Valid l) = ap suc (location_nodes l)
  predicate_nodes_same (Separated ls) = ap suc (total_nodes ls)
  predicate_nodes_same (Called f flag) = refl
  predicate_nodes_same (IsEvent k f) = refl

module _ (n : ℕ) where
  mutual
    pub depth_same : (g : GhostStmt) → ghost_depth (shift_ghost n g) ≡ ghost_depth g
    depth_same (Set v e) = refl
    depth_same (When' r a g b h) = ap₂ (λ x y. suc (max x y)) (depths_same g) (depths_same h)

    depths_same : {m : _} (gs : Row_of-GhostStmt m) → ghost_depth_of_all (shift_ghosts n gs) ≡ ghost_depth_of_all gs
    depths_same end_of-GhostStmt = refl
    depths_same (more_of-GhostStmt g more) = ap₂ (λ x y. max x y) (depth_same g) (depths_same more)
