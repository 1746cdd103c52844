-- Predicates and ghost code of hooks keep their kinds and intervals where the parts of the step are replaced; the accessed pointer may stand in a relation and in `\separated` alone.
use Rattle.std.specs.List.{AllByRecursion}
use Rattle.std.proofs.Common.{◌≡◌, ℕ, suc, List, [], ◌∷◌, map, length, Option, Some, None, refl, sym, subst, ap, ap₂, ◌∙◌, inl, inr, Bool, true, false, cond}
use Rattle.std.specs.Prelude.{◌≤◌, ◌⊎◌, IsTrue}
use Rattle.step_meaning.specs.declared.value.NameKind.{NameKind}
use Rattle.step_meaning.specs.declared.value.NameKind.TheVariants as names
use Rattle.step_meaning.specs.declared.predicate.Term.{Term, end_of-Term, more_of-Term}
use Rattle.step_meaning.specs.declared.predicate.Term.TheVariants as t
use Rattle.step_meaning.specs.declared.predicate.Location.{Location}
use Rattle.step_meaning.specs.declared.predicate.Predicate.{Predicate, end_of-Predicate, more_of-Predicate}
use Rattle.step_meaning.specs.declared.predicate.Predicate.TheVariants.{True, False, Not', And', Or', Implies', Iff', Relation, Valid, Separated, Called, Event as IsEvent}
use Rattle.step_meaning.specs.declared.stmt.Stmt.{Stmt}
use Rattle.step_meaning.specs.declared.stmt.Stmt.TheVariants.{Ghost, Assert}
use Rattle.step_meaning.specs.declared.program.Core.{Core}
use Rattle.step_meaning.specs.declared.program.Hooks.{Hooks}
use Rattle.step_meaning.specs.declared.program.HookPoint.{HookPoint}
use Rattle.step_meaning.specs.declared.stmt.GhostStmt.{GhostStmt, Row_of-GhostStmt, end_of-GhostStmt, more_of-GhostStmt}
use Rattle.step_meaning.specs.declared.stmt.GhostStmt.TheVariants.{Set, When'}
use Rattle.step_meaning.specs.declared.expr.CompareOp.{CompareOp}
use Rattle.step_meaning.specs.declared.program.Declared.{Declared}
use Rattle.step_meaning.specs.Settings.{Setting, variable_type}
use Rattle.step_meaning.specs.Allowances.{Allowed, nothing_else}
use Rattle.step_meaning.specs.Fit.{hook_setting, hook_allowed, usable, IsUsableKind, IsOwnNumber, IsOwnGhost, HookStatementFits, is_access_place}
use Rattle.step_meaning.specs.Intervals.{TermLimited, LocationLimited, PredicateLimited}
use Rattle.step_meaning.specs.TermKinds.{term_kind, place_type, is_register_place, RelationFits, IsObjectType, SeparableFits, PredicateKinds, Kind, Integer, PointerTo, OfAccess}
use Rattle.step_meaning.specs.TermParts.{EachInTerm, EachInLocation, EachInPredicate, EachInGhost, EachInAllGhosts, EachInCode}
use Rattle.step_meaning.specs.Annotations.{PredicateFits, GhostFits, AllGhostsFit, Takes}
use Rattle.step_meaning.specs.Predicates.{is_called}
use Rattle.step_meaning.specs.Types.{where_true}
use Rattle.step_meaning.specs.Fold.{saves_of}
use Rattle.weaver_laws.specs.Weaving.{Substitution, substitute_term, substitute_location, substitute_predicate, substitute_ghost, substitute_ghosts, substitute_code}
use Rattle.weaver_laws.proofs.PlainKinds.{of_taken, never, HasSome, IsOther, kind_there, types_other, read_other, true_other, address_other, negation_other, operation_other, move_other, is_there, of_relation, access_left, access_right, same_itself}
use Rattle.weaver_laws.proofs.SubstitutionKinds.{plain, SubstitutionFits}
use Rattle.weaver_laws.proofs.WovenKinds.{types, plain_term, kind_same, term_limited, location_fits, location_limited}

module _ (q : Core) (h : Hooks) (first : h.first ≡ 0) (pt : HookPoint) (locals registers : List Declared) (st : Substitution) where
  abbrev own : Setting
  own = hook_setting q h pt.function

  abbrev a : Allowed
  a = hook_allowed q pt

  abbrev pub place : Setting
  place = record { layouts = q.layouts; globals = q.globals; locals = locals; registers = registers; file_ghosts = h.globals; ghosts = saves_of h.points pt.function }

  module _ (stood : SubstitutionFits q pt place st) where
    -- ---- the accessed pointer, which a relation and `\separated` may name

    access_or_plain : (e : Term) → HasSome (term_kind own a e) → (IsTrue (is_access_place pt.place) × (e ≡ t.Accessed)) ⊎ EachInTerm (plain a) e
    access_or_plain (t.Load r u) x = inr (plain_term q h first pt locals registers st (t.Load r u) (kind_there _ x (read_other own a (place_type own a r) u)))
    access_or_plain (t.Address r u) x = inr (plain_term q h first pt locals registers st (t.Address r u) (kind_there _ x (address_other own a (is_register_place r) (place_type own a r) u)))
    access_or_plain (t.Neg' b (more_of-Term e end_of-Term)) x = inr (plain_term q h first pt locals registers st (t.Neg' b (more_of-Term e end_of-Term)) (kind_there _ x (negation_other (term_kind own a e))))
    access_or_plain (t.Arith' o b (more_of-Term e end_of-Term) k (more_of-Term f end_of-Term)) x =
        inr (plain_term q h first pt locals registers st (t.Arith' o b (more_of-Term e end_of-Term) k (more_of-Term f end_of-Term)) (kind_there _ x (operation_other o (term_kind own a e) (term_kind own a f))))
    access_or_plain (t.Move' b (more_of-Term e end_of-Term) k (more_of-Term f end_of-Term) size) x =
        inr (plain_term q h first pt locals registers st (t.Move' b (more_of-Term e end_of-Term) k (more_of-Term f end_of-Term) size) (kind_there _ x (move_other q.layouts (term_kind own a e) (term_kind own a f) size)))
    access_or_plain (t.AtPre r u) x = absurd x
    access_or_plain (t.Int z) x = inr tt
    access_or_plain t.Null x = inr tt
    access_or_plain t.Accessed x = inl (is_there a.accessed x, refl)
    access_or_plain (t.Parameter f i) x = inr (kind_there _ x (types_other (a.parameter_type f i)))
    access_or_plain (t.Result f) x = inr (kind_there _ x (types_other (a.result_type f)))

    access_kind : (e : Term) → IsTrue (is_access_place pt.place) → e ≡ t.Accessed → term_kind own a e ≡ Some OfAccess
    access_kind e x y = ap (λ f. term_kind own a f) y ∙ there a.accessed x
      where
        there : (b : Bool) → IsTrue b → where_true b OfAccess ≡ Some OfAccess
        there true z = refl
        there false z = absurd (never z)

    access_put : (e : Term) → IsTrue (is_access_place pt.place) → e ≡ t.Accessed → term_kind place nothing_else (substitute_term st e) ≡ Some (PointerTo st.object)
    access_put e x y = ap (λ f. term_kind place nothing_else (substitute_term st f)) y ∙ (stood.accessed x).kind

    left_put : (c : CompareOp) (e : Term) (l : Option Kind) → EachInTerm (usable h pt) e → RelationFits own a c (term_kind own a e) l → RelationFits place nothing_else c (term_kind place nothing_else (substitute_term st e)) l
    left_put c e l u x = by (access_or_plain e (of_relation own a c (term_kind own a e) l x).0)
      where
        by : (IsTrue (is_access_place pt.place) × (e ≡ t.Accessed)) ⊎ EachInTerm (plain a) e → RelationFits place nothing_else c (term_kind place nothing_else (substitute_term st e)) l
        by (inl y) = subst (λ k. RelationFits place nothing_else c k l) (sym (access_put e y.0 y.1)) (access_left place nothing_else c st.object l (subst (λ k. RelationFits own a c k l) (access_kind e y.0 y.1) x))
        by (inr y) = subst (λ k. RelationFits place nothing_else c k l) (sym (kind_same q h first pt locals registers st stood e u y)) x

    right_put : (c : CompareOp) (k : Option Kind) (e : Term) → EachInTerm (usable h pt) e → RelationFits own a c k (term_kind own a e) → RelationFits place nothing_else c k (term_kind place nothing_else (substitute_term st e))
    right_put c k e u x = by (access_or_plain e (of_relation own a c k (term_kind own a e) x).1)
      where
        by : (IsTrue (is_access_place pt.place) × (e ≡ t.Accessed)) ⊎ EachInTerm (plain a) e → RelationFits place nothing_else c k (term_kind place nothing_else (substitute_term st e))
        by (inl y) = subst (λ l. RelationFits place nothing_else c k l) (sym (access_put e y.0 y.1)) (access_right place nothing_else c st.object k (subst (λ l. RelationFits own a c k l) (access_kind e y.0 y.1) x))
        by (inr y) = subst (λ l. RelationFits place nothing_else c k l) (sym (kind_same q h first pt locals registers st stood e u y)) x

    related_limited : (e : Term) → HasSome (term_kind own a e) → TermLimited a e → TermLimited nothing_else (substitute_term st e)
    related_limited e x z = by (access_or_plain e x)
      where
        by : (IsTrue (is_access_place pt.place) × (e ≡ t.Accessed)) ⊎ EachInTerm (plain a) e → TermLimited nothing_else (substitute_term st e)
        by (inl y) = subst (λ f. TermLimited nothing_else (substitute_term st f)) (sym y.1) (stood.accessed y.0).limited
        by (inr y) = term_limited q h first pt locals registers st stood e y z

    some_kind : (e : Term) (k : Kind) → term_kind own a e ≡ Some k → HasSome (term_kind own a e)
    some_kind e k x = subst HasSome (sym x) tt

    no_plain : (e : Term) → EachInTerm (plain a) e → term_kind own a e ≡ Some OfAccess → ⊥
    no_plain (t.Load r u) y x = subst IsOther x (read_other own a (place_type own a r) u)
    no_plain (t.Address r u) y x = subst IsOther x (address_other own a (is_register_place r) (place_type own a r) u)
    no_plain (t.Neg' b (more_of-Term e end_of-Term)) y x = subst IsOther x (negation_other (term_kind own a e))
    no_plain (t.Arith' o b (more_of-Term e end_of-Term) k (more_of-Term f end_of-Term)) y x = subst IsOther x (operation_other o (term_kind own a e) (term_kind own a f))
    no_plain (t.Move' b (more_of-Term e end_of-Term) k (more_of-Term f end_of-Term) size) y x = subst IsOther x (move_other q.layouts (term_kind own a e) (term_kind own a f) size)
    no_plain (t.AtPre r u) y x = absurd y.0
    no_plain (t.Int z) y x = subst IsOther x (true_other _ Integer tt)
    no_plain t.Null y x = subst IsOther x tt
    no_plain t.Accessed y x = absurd y
    no_plain (t.Parameter f i) y x = subst IsOther x (types_other (a.parameter_type f i))
    no_plain (t.Result f) y x = subst IsOther x (types_other (a.result_type f))

    -- the whole location of an access becomes the object
    whole_access : (l : Location) → IsTrue (is_access_place pt.place) → l.base ≡ t.Accessed → l.span ≡ None → substitute_location st l ≡ record { base = st.accessed; ctype = st.object; span = None }
    whole_access l x y z = ap₂ (λ e s. substitute_location st (record { base = e; ctype = l.ctype; span = s })) y z

    separable_fits : (l : Location) → EachInLocation (usable h pt) l → SeparableFits own a l → SeparableFits place nothing_else (substitute_location st l)
    separable_fits l x (inl y) = inl (location_fits q h first pt locals registers st stood l x y)
    separable_fits l x (inr y) = by (access_or_plain l.base (some_kind l.base OfAccess y.0))
      where
        by : (IsTrue (is_access_place pt.place) × (l.base ≡ t.Accessed)) ⊎ EachInTerm (plain a) l.base → SeparableFits place nothing_else (substitute_location st l)
        by (inl z) = subst (λ m. SeparableFits place nothing_else m) (sym (whole_access l z.0 z.1 y.2))
            (inl (subst (λ k. IsObjectType place nothing_else k st.object) (sym (stood.accessed z.0).kind) (same_itself st.object), tt))
        by (inr z) = absurd (no_plain l.base z y.0)

    separables_fit : (ls : List Location) → AllByRecursion (EachInLocation (usable h pt)) ls → AllByRecursion (SeparableFits own a) ls → AllByRecursion (SeparableFits place nothing_else) (map (substitute_location st) ls)
    separables_fit [] x y = tt
    separables_fit (l ∷ ls) x y = (separable_fits l x.0 y.0, separables_fit ls x.1 y.1)

    as_many : (ls : List Location) → length (map (substitute_location st) ls) ≡ length ls
    as_many [] = refl
    as_many (l ∷ ls) = ap suc (as_many ls)

    separable_limited : (l : Location) → SeparableFits own a l → LocationLimited a q.layouts l → LocationLimited nothing_else q.layouts (substitute_location st l)
    separable_limited l (inl y) x = location_limited q h first pt locals registers st stood l y x
    separable_limited l (inr y) x = by (access_or_plain l.base (some_kind l.base OfAccess y.0))
      where
        by : (IsTrue (is_access_place pt.place) × (l.base ≡ t.Accessed)) ⊎ EachInTerm (plain a) l.base → LocationLimited nothing_else q.layouts (substitute_location st l)
        by (inl z) = subst (λ m. LocationLimited nothing_else q.layouts m) (sym (whole_access l z.0 z.1 y.2)) ((stood.accessed z.0).limited, tt)
        by (inr z) = absurd (no_plain l.base z y.0)

    separables_limited : (ls : List Location) → AllByRecursion (SeparableFits own a) ls → AllByRecursion (LocationLimited a q.layouts) ls → AllByRecursion (LocationLimited nothing_else q.layouts) (map (substitute_location st) ls)
    separables_limited [] y x = tt
    separables_limited (l ∷ ls) y x = (separable_limited l y.0 x.0, separables_limited ls y.1 x.1)

    -- ---- predicates

    predicate_kinds : (r : Predicate) → EachInPredicate (usable h pt) r → PredicateKinds own a r → PredicateKinds place nothing_else (substitute_predicate st r)
    predicate_kinds True x y = tt
    predicate_kinds False x y = tt
    predicate_kinds (Not' b (more_of-Predicate r end_of-Predicate)) x y = predicate_kinds r x.1 y
    predicate_kinds (And' b (more_of-Predicate s end_of-Predicate) k (more_of-Predicate r end_of-Predicate)) x y = (predicate_kinds s x.1 y.0, predicate_kinds r x.2 y.1)
    predicate_kinds (Or' b (more_of-Predicate s end_of-Predicate) k (more_of-Predicate r end_of-Predicate)) x y = (predicate_kinds s x.1 y.0, predicate_kinds r x.2 y.1)
    predicate_kinds (Implies' b (more_of-Predicate s end_of-Predicate) k (more_of-Predicate r end_of-Predicate)) x y = (predicate_kinds s x.1 y.0, predicate_kinds r x.2 y.1)
    predicate_kinds (Iff' b (more_of-Predicate s end_of-Predicate) k (more_of-Predicate r end_of-Predicate)) x y = (predicate_kinds s x.1 y.0, predicate_kinds r x.2 y.1)
    predicate_kinds (Relation c e f) x y = right_put c (term_kind place nothing_else (substitute_term st e)) f x.2 (left_put c e (term_kind own a f) x.1 y)
    predicate_kinds (Valid l) x y = location_fits q h first pt locals registers st stood l x.1 y
    predicate_kinds (Separated ls) x y = (subst (λ k. 2 ≤ k) (sym (as_many ls)) y.0, separables_fit ls x.1 y.1)
    predicate_kinds (Called f flag) x y = by (is_called f flag (Some st.called))
      where
        by : (b : Bool) → PredicateKinds place nothing_else (cond b True False)
        by true = tt
        by false = tt
    predicate_kinds (IsEvent k f) x y = y

    predicate_limited : (r : Predicate) → PredicateKinds own a r → PredicateLimited a q.layouts r → PredicateLimited nothing_else q.layouts (substitute_predicate st r)
    predicate_limited True y x = tt
    predicate_limited False y x = tt
    predicate_limited (Not' b (more_of-Predicate r end_of-Predicate)) y x = predicate_limited r y x
    predicate_limited (And' b (more_of-Predicate s end_of-Predicate) k (more_of-Predicate r end_of-Predicate)) y x = (predicate_limited s y.0 x.0, predicate_limited r y.1 x.1)
    predicate_limited (Or' b (more_of-Predicate s end_of-Predicate) k (more_of-Predicate r end_of-Predicate)) y x = (predicate_limited s y.0 x.0, predicate_limited r y.1 x.1)
    predicate_limited (Implies' b (more_of-Predicate s end_of-Predicate) k (more_of-Predicate r end_of-Predicate)) y x = (predicate_limited s y.0 x.0, predicate_limited r y.1 x.1)
    predicate_limited (Iff' b (more_of-Predicate s end_of-Predicate) k (more_of-Predicate r end_of-Predicate)) y x = (predicate_limited s y.0 x.0, predicate_limited r y.1 x.1)
    predicate_limited (Relation c e f) y x =
        let z = of_relation own a c (term_kind own a e) (term_kind own a f) y in (related_limited e z.0 x.0, related_limited f z.1 x.1)
    predicate_limited (Valid l) y x = location_limited q h first pt locals registers st stood l y x
    predicate_limited (Separated ls) y x = separables_limited ls y.1 x
    predicate_limited (Called f flag) y x = by (is_called f flag (Some st.called))
      where
        by : (b : Bool) → PredicateLimited nothing_else q.layouts (cond b True False)
        by true = tt
        by false = tt
    predicate_limited (IsEvent k f) y x = tt

    pub predicate_fits : (r : Predicate) → EachInPredicate (usable h pt) r → PredicateFits own a r → PredicateFits place nothing_else (substitute_predicate st r)
    predicate_fits r x y = record { kinds = predicate_kinds r x y.kinds; limited = predicate_limited r y.kinds y.limited }

    -- ---- ghost code

    own_usable : (k : NameKind) (i : ℕ) → IsOwnNumber h pt.function k i → IsUsableKind h pt.function k i
    own_usable names.Global i x = tt
    own_usable names.Local i x = x
    own_usable names.Heap i x = x
    own_usable names.Register i x = x
    own_usable names.GhostGlobal i x = x
    own_usable names.GhostLocal i x = x

    mutual
      ghost_fits : (g : GhostStmt) → EachInGhost (λ v e. EachInTerm (usable h pt) e) (EachInPredicate (usable h pt)) g → EachInGhost (λ v e. IsOwnGhost h pt.function v) (λ r. Unit {0}) g → GhostFits own a g → GhostFits place nothing_else (substitute_ghost st g)
      ghost_fits (Set v e) x o y =
          let z = plain_term q h first pt locals registers st e (of_taken (variable_type own v) (term_kind own a e) y.takes) in
          record {
            ghost = y.ghost;
            takes = subst (λ w. Takes w (term_kind place nothing_else (substitute_term st e))) (sym (types q h first pt locals registers st v.kind v.index (own_usable v.kind v.index o))) (subst (λ k. Takes (variable_type own v) k) (sym (kind_same q h first pt locals registers st stood e x z)) y.takes);
            limited = term_limited q h first pt locals registers st stood e z y.limited;
          }
      ghost_fits (When' r b g c k) x o y = (predicate_fits r x.0 y.0, ghosts_fit g x.1 o.1 y.1, ghosts_fit k x.2 o.2 y.2)

      ghosts_fit : {m : _} (gs : Row_of-GhostStmt m) → EachInAllGhosts (λ v e. EachInTerm (usable h pt) e) (EachInPredicate (usable h pt)) gs → EachInAllGhosts (λ v e. IsOwnGhost h pt.function v) (λ r. Unit {0}) gs → AllGhostsFit own a gs → AllGhostsFit place nothing_else (substitute_ghosts st gs)
      ghosts_fit end_of-GhostStmt x o y = tt
      ghosts_fit (more_of-GhostStmt g more) x o y = (ghost_fits g x.0 o.0 y.0, ghosts_fit more x.1 o.1 y.1)

    -- code of ghost statements and assertions alone
    pub code_fits : (c : List Stmt) → EachInCode (λ v e. EachInTerm (usable h pt) e) (EachInPredicate (usable h pt)) c → EachInCode (λ v e. IsOwnGhost h pt.function v) (λ r. Unit {0}) c
        → AllByRecursion (HookStatementFits own a) c → AllByRecursion (HookStatementFits place nothing_else) (substitute_code st c)
    code_fits [] x o y = tt
    code_fits (Ghost g ∷ c) x o y = (ghost_fits g x.0 o.0 y.0, code_fits c x.1 o.1 y.1)
    code_fits (Assert k m r ∷ c) x o y = (predicate_fits r x.0 y.0, code_fits c x.1 o.1 y.1)
    code_fits (s ∷ c) x o y = code_fits c x o y.1
