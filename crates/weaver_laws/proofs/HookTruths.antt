-- Predicates in the code of a point: they hold in the woven program's view, with the parts of the step replaced, exactly where they hold in the fold's.
use Rattle.std.proofs.Common.{◌≡◌, ℕ, zero, suc, ◌^◌, Bool, true, false, not, cond, ◌&&◌, ◌||◌, List, [], ◌∷◌, ◌++◌, map, length, Option, Some, None, refl, sym, ap, ap₂, ◌∙◌}
use Rattle.std.specs.Prelude.{IsTrue, ℤ, pos, negsuc, nat_lt, ◌*ℤ◌, ◌+ℤ◌, is_some, option_map}
use Rattle.std.specs.List.{AllByRecursion}
use Rattle.step_meaning.specs.declared.value.CType.{CType}
use Rattle.step_meaning.specs.declared.value.CType.TheVariants as type
use Rattle.step_meaning.specs.declared.value.Name.{Name}
use Rattle.step_meaning.specs.declared.predicate.Term.{Term}
use Rattle.step_meaning.specs.declared.predicate.Term.TheVariants as t
use Rattle.step_meaning.specs.declared.predicate.Location.{Location}
use Rattle.step_meaning.specs.declared.predicate.Predicate.{Predicate, end_of-Predicate, more_of-Predicate}
use Rattle.step_meaning.specs.declared.predicate.Predicate.TheVariants.{True, False, Not', And', Or', Implies', Iff', Relation, Valid, Separated, Called, Event as IsEvent}
use Rattle.step_meaning.specs.declared.program.HookPlace.{HookPlace}
use Rattle.step_meaning.specs.declared.program.Layout.{Layout}
use Rattle.step_meaning.specs.Memory.{Memory, frame_block}
use Rattle.step_meaning.specs.State.{Here, Registers}
use Rattle.step_meaning.specs.Views.{Sight}
use Rattle.step_meaning.specs.Terms.{TermValue, Number, NullPointer, PointerInto, value_of}
use Rattle.step_meaning.specs.Predicates.{holds, is_called, related, denoted, Denoted, denoted_types, object_at, objects_at, objects_between, count_from_to, in_span, are_disjoint_in_pairs, all_defined, when_defined, is_null, may_access_all, may_access_at}
use Rattle.step_meaning.specs.TermParts.{EachInTerm, EachInRange, EachInLocation, EachInPredicate}
use Rattle.step_meaning.specs.Fit.{is_access_place}
use Rattle.weaver_laws.specs.Weaving.{Substitution, substitute_term, substitute_range, substitute_location, substitute_predicate, is_accessed}
use Rattle.weaver_laws.proofs.InsideMemories.{WhereSome, MemoryInside, IsSeenKind, PlaceSeen, inside_seen}
use Rattle.weaver_laws.proofs.PlainCells.{plains, plain_defined, plain_step, plain_between}
use Rattle.weaver_laws.proofs.HookSights.{uses, StepParts, sight_in_fold, sight_in_woven, SubstitutesStep, same_now, value_same}

module _ (layouts : List Layout) (here : Here) (m : Memory) (r : Registers) (base : Memory) (x : StepParts) where
  module _ (w : Bool) (at : HookPlace) (f : ℕ) (st : Substitution) (substitutes : SubstitutesStep layouts here m r base x at f st) (m_in : MemoryInside m) (g G : Memory) (g_in : MemoryInside g)
      (same_globals : IsTrue w → G.globals ≡ g.globals) (same_own : (i : ℕ) → frame_block G here.activation i ≡ frame_block g here.activation i) where
    abbrev in_fold : Sight
    in_fold = sight_in_fold layouts here m r base x g

    abbrev in_woven : Sight
    in_woven = sight_in_woven layouts here m r base x G

    -- ---- locations

    spanned : (v y : Option TermValue) (span : Option (Term × Term)) (us ws : List CType) → v ≡ y → EachInRange (uses w at f) span → length us ≡ length ws
        → option_map plains (in_span (in_fold) v span us) ≡ option_map plains (in_span (in_woven) y (substitute_range st span) ws)
    spanned v y None us ws e h l = plain_between v (Some (Number (pos 0))) (Some (Number (pos 0))) us ws l ∙ ap (λ v. option_map plains (objects_between v (Some (Number (pos 0))) (Some (Number (pos 0))) ws)) e
    spanned v y (Some ends) us ws e h l =
        plain_between v (value_of (in_fold) ends.0) (value_of (in_fold) ends.1) us ws l
        ∙ (ap (λ v. option_map plains (objects_between v (value_of (in_fold) ends.0) (value_of (in_fold) ends.1) ws)) e
        ∙ ap₂ (λ a b. option_map plains (objects_between y a b ws)) (value_same layouts here m r base x w at f st substitutes m_in g G g_in same_globals same_own ends.0 h.0).0 (value_same layouts here m r base x w at f st substitutes m_in g G g_in same_globals same_own ends.1 h.1).0)

    ranged : (v y : Option TermValue) (span : Option (Term × Term)) (us : List CType) → v ≡ y → EachInRange (uses w at f) span → in_span (in_fold) v span us ≡ in_span (in_woven) y (substitute_range st span) us
    ranged v y None us e h = ap (λ v. objects_between v (Some (Number (pos 0))) (Some (Number (pos 0))) us) e
    ranged v y (Some ends) us e h =
        ap (λ v. objects_between v (value_of (in_fold) ends.0) (value_of (in_fold) ends.1) us) e
        ∙ ap₂ (λ a b. objects_between y a b us) (value_same layouts here m r base x w at f st substitutes m_in g G g_in same_globals same_own ends.0 h.0).0 (value_same layouts here m r base x w at f st substitutes m_in g G g_in same_globals same_own ends.1 h.1).0

    whole_access : (e : Term) → is_accessed e ≡ true → EachInTerm (uses w at f) e → IsTrue (is_access_place at)
    whole_access t.Accessed e h = h
    whole_access _ e h = absurd (no e)
      where
        no : false ≡ true → ⊥
        no e = cc

    typed_alike : (l : Location) → EachInLocation (uses w at f) l → (is_accessed l.base ≡ true → l.ctype ≡ type.Void) → length (denoted_types layouts l.ctype) ≡ length (denoted_types layouts (substitute_location st l).ctype)
    typed_alike l h void = by (is_accessed l.base) refl
      where
        by : (b : Bool) → is_accessed l.base ≡ b → length (denoted_types layouts l.ctype) ≡ length (denoted_types layouts (cond b st.object l.ctype))
        by true e = ap (λ u. length (denoted_types layouts u)) (void e) ∙ sym (substitutes.object (whole_access l.base e h.0))
        by false e = refl

    located : (l : Location) → EachInLocation (uses w at f) l → (is_accessed l.base ≡ true → l.ctype ≡ type.Void) → option_map plains (denoted (in_fold) l) ≡ option_map plains (denoted (in_woven) (substitute_location st l))
    located l h void = spanned (value_of (in_fold) l.base) (value_of (in_woven) (substitute_term st l.base)) l.span (denoted_types layouts l.ctype) (denoted_types layouts (substitute_location st l).ctype) (value_same layouts here m r base x w at f st substitutes m_in g G g_in same_globals same_own l.base h.0).0 h.1 (typed_alike l h void)

    valid_same : (l : Location) → EachInLocation (uses w at f) l → is_accessed l.base ≡ false → denoted (in_fold) l ≡ denoted (in_woven) (substitute_location st l)
    valid_same l h apart =
        ranged (value_of (in_fold) l.base) (value_of (in_woven) (substitute_term st l.base)) l.span (denoted_types layouts l.ctype) (value_same layouts here m r base x w at f st substitutes m_in g G g_in same_globals same_own l.base h.0).0 h.1
        ∙ ap (λ b. in_span (in_woven) (value_of (in_woven) (substitute_term st l.base)) (substitute_range st l.span) (denoted_types layouts (cond b st.object l.ctype))) (sym apart)

    all_located : (ls : List Location) → AllByRecursion (EachInLocation (uses w at f)) ls → AllByRecursion (λ (l : Location). is_accessed l.base ≡ true → l.ctype ≡ type.Void) ls
        → option_map (map plains) (all_defined (map (denoted (in_fold)) ls)) ≡ option_map (map plains) (all_defined (map (denoted (in_woven)) (map (substitute_location st) ls)))
    all_located [] h void = refl
    all_located (l ∷ ls) h void = plain_step (denoted (in_fold) l) (denoted (in_woven) (substitute_location st l)) (map (denoted (in_fold)) ls) (map (denoted (in_woven)) (map (substitute_location st) ls)) (located l h.0 void.0) (all_located ls h.1 void.1)

    access_same : (n : Name) (o : ℤ) (u : CType) → IsSeenKind w here.activation n.kind n.activation → may_access_at (in_fold) n o u ≡ may_access_at (in_woven) n o u
    access_same n (negsuc o) u h = refl
    access_same n (pos o) u h = ap (λ c. nat_lt o (2 ^ 32) && is_some c) (same_now layouts here m r base x w at f st substitutes m_in g G g_in same_globals same_own n o u h)

    -- the cells of a location are of one variable
    abbrev AreSeen : List Denoted → Type 0
    AreSeen ds = AllByRecursion (λ (d : Denoted). IsSeenKind w here.activation d.name.kind d.name.activation) ds

    seen_append : (xs ys : List Denoted) → AreSeen xs → AreSeen ys → AreSeen (xs ++ ys)
    seen_append [] ys h k = k
    seen_append (x ∷ xs) ys h k = (h.0, seen_append xs ys h.1 k)

    seen_object : (n : Name) (o : ℤ) (us : List CType) → IsSeenKind w here.activation n.kind n.activation → AreSeen (object_at n o us)
    seen_object n o [] h = tt
    seen_object n o (u ∷ us) h = (h, seen_object n (o +ℤ pos 1) us h)

    seen_objects : (n : Name) (o : ℤ) (us : List CType) (count : ℕ) → IsSeenKind w here.activation n.kind n.activation → AreSeen (objects_at n o us count)
    seen_objects n o us zero h = tt
    seen_objects n o us (suc count) h = seen_append (object_at n o us) (objects_at n (o +ℤ pos (length us)) us count) (seen_object n o us h) (seen_objects n (o +ℤ pos (length us)) us count h)

    seen_between : (v x y : Option TermValue) (us : List CType) → PlaceSeen w here.activation v → WhereSome AreSeen (objects_between v x y us)
    seen_between None x y us h = tt
    seen_between (Some v) None y us h = tt
    seen_between (Some v) (Some NullPointer) y us h = tt
    seen_between (Some v) (Some (PointerInto n o)) y us h = tt
    seen_between (Some v) (Some (Number a)) None us h = tt
    seen_between (Some v) (Some (Number a)) (Some NullPointer) us h = tt
    seen_between (Some v) (Some (Number a)) (Some (PointerInto n o)) us h = tt
    seen_between (Some (Number z)) (Some (Number a)) (Some (Number b)) us h = tt
    seen_between (Some NullPointer) (Some (Number a)) (Some (Number b)) us h = tt
    seen_between (Some (PointerInto n o)) (Some (Number a)) (Some (Number b)) us h = seen_objects n (o +ℤ (a *ℤ pos (length us))) us (count_from_to a b) h

    seen_located : (l : Location) → EachInLocation (uses w at f) l → WhereSome AreSeen (denoted (in_fold) l)
    seen_located l h = by l.span
      where
        v : Option TermValue
        v = value_of (in_fold) l.base

        v_seen : PlaceSeen w here.activation v
        v_seen = inside_seen w here.activation v (value_same layouts here m r base x w at f st substitutes m_in g G g_in same_globals same_own l.base h.0).1

        by : (span : Option (Term × Term)) → WhereSome AreSeen (in_span (in_fold) v span (denoted_types layouts l.ctype))
        by None = seen_between v (Some (Number (pos 0))) (Some (Number (pos 0))) (denoted_types layouts l.ctype) v_seen
        by (Some x) = seen_between v (value_of (in_fold) x.0) (value_of (in_fold) x.1) (denoted_types layouts l.ctype) v_seen

    all_access_same : (ds : List Denoted) → AreSeen ds → may_access_all (in_fold) ds ≡ may_access_all (in_woven) ds
    all_access_same [] h = refl
    all_access_same (d ∷ ds) h = ap₂ (λ a b. a && b) (access_same d.name d.offset d.ctype h.0) (all_access_same ds h.1)

    defined_same : (o : Option (List Denoted)) → WhereSome AreSeen o → when_defined (may_access_all (in_fold)) o ≡ when_defined (may_access_all (in_woven)) o
    defined_same None h = refl
    defined_same (Some ds) h = all_access_same ds h

    pub holds_same : (r : Predicate) → EachInPredicate (uses w at f) r → holds (in_fold) r ≡ holds (in_woven) (substitute_predicate st r)
    holds_same True h = refl
    holds_same False h = refl
    holds_same (Not' b (more_of-Predicate r end_of-Predicate)) h = ap not (holds_same r h.1)
    holds_same (And' b (more_of-Predicate q end_of-Predicate) c (more_of-Predicate r end_of-Predicate)) h = ap₂ (λ a b. a && b) (holds_same q h.1) (holds_same r h.2)
    holds_same (Or' b (more_of-Predicate q end_of-Predicate) c (more_of-Predicate r end_of-Predicate)) h = ap₂ (λ a b. a || b) (holds_same q h.1) (holds_same r h.2)
    holds_same (Implies' b (more_of-Predicate q end_of-Predicate) c (more_of-Predicate r end_of-Predicate)) h = ap₂ (λ a b. not a || b) (holds_same q h.1) (holds_same r h.2)
    holds_same (Iff' b (more_of-Predicate q end_of-Predicate) c (more_of-Predicate r end_of-Predicate)) h = ap₂ (λ a b. cond a b (not b)) (holds_same q h.1) (holds_same r h.2)
    holds_same (Relation o d e) h = ap₂ (λ a b. related o a b) (value_same layouts here m r base x w at f st substitutes m_in g G g_in same_globals same_own d h.1).0 (value_same layouts here m r base x w at f st substitutes m_in g G g_in same_globals same_own e h.2).0
    holds_same (Valid l) h =
        ap₂ (λ v b. not (is_null v) && b) (value_same layouts here m r base x w at f st substitutes m_in g G g_in same_globals same_own l.base h.1.0).0
        (defined_same (denoted (in_fold) l) (seen_located l h.1) ∙ ap (λ o. when_defined (may_access_all (in_woven)) o) (valid_same l h.1 h.0))
    holds_same (Separated ls) h =
        plain_defined (all_defined (map (denoted (in_fold)) ls))
        ∙ (ap (λ o. when_defined are_disjoint_in_pairs o) (all_located ls h.1 h.0)
        ∙ sym (plain_defined (all_defined (map (denoted (in_woven)) (map (substitute_location st) ls)))))
    holds_same (Called k flag) h = ap (λ c. is_called k flag c) (substitutes.called h) ∙ by (is_called k flag (Some st.called))
      where
        by : (b : Bool) → b ≡ holds (in_woven) (cond b True False)
        by true = refl
        by false = refl
    holds_same (IsEvent k n) h = absurd h
