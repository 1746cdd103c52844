-- Predicates and terms that fit are bounded, in each view whose cells, parameters and result hold values of their types.
use Rattle.std.proofs.Common.{◌≡◌, ℕ, ◌&&◌, pos, ◌+ℤ◌, ◌*ℤ◌, List, [], ◌∷◌, Option, Some, None, All, refl, sym, subst, inl, inr}
use Rattle.std.specs.List.{AllByRecursion}
use Rattle.std.specs.Int.Signed.{le_z_yes}
use Rattle.std.proofs.lemmas.List.Elements.{All-nil, All-cons}
use Rattle.step_meaning.specs.declared.value.CType.{CType}
use Rattle.step_meaning.specs.declared.predicate.Term.{Term, end_of-Term, more_of-Term}
use Rattle.step_meaning.specs.declared.predicate.Term.TheVariants as t
use Rattle.step_meaning.specs.declared.predicate.TermPlace.{TermPlace, end_of-TermPlace, more_of-TermPlace}
use Rattle.step_meaning.specs.declared.predicate.TermPlace.TheVariants as p
use Rattle.step_meaning.specs.declared.predicate.Location.{Location}
use Rattle.step_meaning.specs.declared.predicate.Predicate.{Predicate, end_of-Predicate, more_of-Predicate}
use Rattle.step_meaning.specs.declared.predicate.Predicate.TheVariants.{True, False, Not', And', Or', Implies', Iff', Relation, Valid, Separated, Called, Event as IsEvent}
use Rattle.step_meaning.specs.Settings.{Setting}
use Rattle.step_meaning.specs.Views.{Sight, Reads, now, at_enter}
use Rattle.step_meaning.specs.Terms.{TermValue, Number, NullPointer, value_by, place_by, value_of}
use Rattle.step_meaning.specs.Terms as term
use Rattle.step_meaning.specs.Predicates.{denoted_size}
use Rattle.step_meaning.specs.Bounded.{WhereDefined, PartsBounded, PlaceBounded, TermBounded, EndsWithin, SpanBounded, LocationBounded, IsBounded}
use Rattle.step_meaning.specs.Intervals.{Interval, IsLimited, alone, sum, times_size, interval, interval_of_place, TermLimited, PlaceLimited, SpanLimited, RangeLimited, LocationLimited, PredicateLimited}
use Rattle.step_meaning.specs.TypeRules.{member_type}
use Rattle.step_meaning.specs.TermKinds.{Kind, Integer, OfAccess, is_register_place, is_fixed_place, pointed_type, kind_of_read, term_kind, place_type, RangeFits, LocationFits, SeparableFits, PredicateKinds}
use Rattle.step_meaning.specs.Annotations.{Allowed}
use Rattle.step_meaning.specs.FitsBounded.{AreTyped, IsTypedSight, FitsBounded}
use Rattle.step_meaning.proofs.IntervalEnds.{within, in_alone, in_sum, in_product}
use Rattle.step_meaning.proofs.ValuesInside.{some_of_bind, some_if, negation_kind, operation_kinds, move_kinds, indexed_parts, read_place, address_place, relation_kinds, object_kind, Inside, where_defined, product_within, value_inside, place_inside}

-- ---- what keeps the limit has an interval that does

module _ (a : Allowed) where
  mutual
    term_limit : (e : Term) → TermLimited a e → IsLimited (interval a e)
    term_limit (t.Int z) l = l
    term_limit t.Null l = l
    term_limit (t.Load q u) l = l.0
    term_limit (t.Address q u) l = place_limit q l
    term_limit (t.Neg' b (more_of-Term e end_of-Term)) l = l.0
    term_limit (t.Arith' o b (more_of-Term e end_of-Term) d (more_of-Term f end_of-Term)) l = l.0
    term_limit (t.Move' b (more_of-Term e end_of-Term) d (more_of-Term f end_of-Term) size) l = l.0
    term_limit (t.AtPre q u) l = l.0
    term_limit t.Accessed l = l
    term_limit (t.Parameter f i) l = l
    term_limit (t.Result f) l = l

    place_limit : (q : TermPlace) → PlaceLimited a q → IsLimited (interval_of_place a q)
    place_limit (p.Own x) l = ((le_z_yes tt, le_z_yes tt), (le_z_yes tt, le_z_yes tt))
    place_limit (p.Deref' b (more_of-Term e end_of-Term)) l = term_limit e l
    place_limit (p.Member' b (more_of-TermPlace q end_of-TermPlace) o) l = l.0
    place_limit (p.Index' b (more_of-TermPlace q end_of-TermPlace) d (more_of-Term e end_of-Term) size) l = l.0

-- ---- ends of ranges

ends : (a : Allowed) (s : Sight) (i from to : Interval) (size : ℕ) (x y z : Option TermValue) → SpanLimited a i from to size
    → ((v : TermValue) → x ≡ Some v → Inside i v) → ((v : TermValue) → y ≡ Some v → Inside from v) → ((v : TermValue) → z ≡ Some v → Inside to v) → EndsWithin s x y z size
ends a s i from to size (Some (term.PointerInto n o)) (Some (Number b)) (Some (Number c)) l h k m =
    let first = in_product from (alone (pos size)) b (pos size) (k (Number b) refl) (in_alone (pos size)) in
    let past = in_product (sum to (alone (pos 1))) (alone (pos size)) (c +ℤ pos 1) (pos size) (in_sum to (alone (pos 1)) c (pos 1) (m (Number c) refl) (in_alone (pos 1))) (in_alone (pos size)) in
    let base = h (term.PointerInto n o) refl in (
      within (times_size from size) (b *ℤ pos size) l.0 first,
      within (times_size (sum to (alone (pos 1))) size) ((c +ℤ pos 1) *ℤ pos size) l.1 past,
      within (sum i (times_size from size)) (o +ℤ (b *ℤ pos size)) l.2 (in_sum i (times_size from size) o (b *ℤ pos size) base first),
      within (sum i (times_size (sum to (alone (pos 1))) size)) (o +ℤ ((c +ℤ pos 1) *ℤ pos size)) l.3 (in_sum i (times_size (sum to (alone (pos 1))) size) o ((c +ℤ pos 1) *ℤ pos size) base past),
    )
ends a s i from to size x y z l h k m = tt

-- ---- parts

module _ (g : Setting) (a : Allowed) (s : Sight) (typed : IsTypedSight g a s) where
  defined : (e : Term) (reads : Reads) → AreTyped reads → (k : Kind) → term_kind g a e ≡ Some k → TermLimited a e → WhereDefined (value_by s e reads)
  defined e reads h k c l = where_defined (interval a e) (value_by s e reads) (term_limit a e l) (value_inside g a s typed e reads h k c)

  place_defined : (q : TermPlace) (reads : Reads) → AreTyped reads → (u : CType) → place_type g a q ≡ Some u → IsLimited (interval_of_place a q) → WhereDefined (place_by s q reads)
  place_defined q reads h u c l = where_defined (interval_of_place a q) (place_by s q reads) l (place_inside g a s typed q reads h u c)

  mutual
    parts : (e : Term) (reads : Reads) → AreTyped reads → (k : Kind) → term_kind g a e ≡ Some k → TermLimited a e → PartsBounded s e reads
    parts (t.Int z) reads h k c l = tt
    parts t.Null reads h k c l = tt
    parts (t.Load q u) reads h k c l = let m = read_place g a (place_type g a q) u k c in place_parts q reads h m.0 m.1 l.1
    parts (t.Address q u) reads h k c l = let m = address_place g a (is_register_place q) (place_type g a q) u k c in place_parts q reads h m.0 m.1 l
    parts (t.Neg' b (more_of-Term e end_of-Term)) reads h k c l =
        let i = negation_kind (term_kind g a e) k c in (defined e reads h Integer i l.1, parts e reads h Integer i l.1)
    parts (t.Arith' o b (more_of-Term e end_of-Term) d (more_of-Term f end_of-Term)) reads h k c l =
        let i = operation_kinds o (term_kind g a e) (term_kind g a f) k c in
        ((defined e reads h Integer i.0 l.1, parts e reads h Integer i.0 l.1), (defined f reads h Integer i.1 l.2, parts f reads h Integer i.1 l.2))
    parts (t.Move' b (more_of-Term e end_of-Term) d (more_of-Term f end_of-Term) size) reads h k c l =
        let i = move_kinds g.layouts (term_kind g a e) (term_kind g a f) size k c in (
          (defined e reads h i.0.0 i.0.1 l.2, parts e reads h i.0.0 i.0.1 l.2),
          (defined f reads h Integer i.1 l.3, parts f reads h Integer i.1 l.3),
          product_within (interval a f) (value_by s f reads) size l.1 (value_inside g a s typed f reads h Integer i.1),
        )
    parts (t.AtPre q u) reads h k c l =
        let m = read_place g a (place_type g a q) u k (some_if (a.at_enter && is_fixed_place g a q) (kind_of_read g a (place_type g a q) u) k c) in
        place_parts q (at_enter s) typed.cells_at_enter m.0 m.1 l.1
    parts t.Accessed reads h k c l = tt
    parts (t.Parameter f i) reads h k c l = tt
    parts (t.Result f) reads h k c l = tt

    place_parts : (q : TermPlace) (reads : Reads) → AreTyped reads → (u : CType) → place_type g a q ≡ Some u → PlaceLimited a q → PlaceBounded s q reads
    place_parts (p.Own x) reads h u c l = tt
    place_parts (p.Deref' b (more_of-Term e end_of-Term)) reads h u c l =
        let m = some_of_bind pointed_type (term_kind g a e) u c in (defined e reads h m.0 m.1 l, parts e reads h m.0 m.1 l)
    place_parts (p.Member' b (more_of-TermPlace q end_of-TermPlace) o) reads h u c l =
        let m = some_of_bind (λ u. member_type g.layouts u o) (place_type g a q) u c in
        (place_defined (p.Member' b (more_of-TermPlace q end_of-TermPlace) o) reads h u c l.0, place_parts q reads h m.0 m.1 l.1)
    place_parts (p.Index' b (more_of-TermPlace q end_of-TermPlace) d (more_of-Term e end_of-Term) size) reads h u c l =
        let m = indexed_parts g.layouts size (place_type g a q) (term_kind g a e) u c in (
          place_defined (p.Index' b (more_of-TermPlace q end_of-TermPlace) d (more_of-Term e end_of-Term) size) reads h u c l.0,
          place_parts q reads h m.0.0 m.0.1 l.2,
          (defined e reads h Integer m.1 l.3, parts e reads h Integer m.1 l.3),
          product_within (interval a e) (value_by s e reads) size l.1 (value_inside g a s typed e reads h Integer m.1),
        )

  term_bounded : (e : Term) (k : Kind) → term_kind g a e ≡ Some k → TermLimited a e → TermBounded s e (now s)
  term_bounded e k c l = (defined e (now s) typed.cells k c l, parts e (now s) typed.cells k c l)

  -- ---- locations

  span_bounded : (base : Option TermValue) (i : Interval) (size : ℕ) (span : Option (Term × Term)) → RangeFits g a span → RangeLimited a i span size
      → ((v : TermValue) → base ≡ Some v → Inside i v) → SpanBounded s base span size
  span_bounded base i size None f l h = tt
  span_bounded base i size (Some e) f l h = (
    term_bounded e.0 Integer f.0 l.0,
    term_bounded e.1 Integer f.1 l.1,
    ends a s i (interval a e.0) (interval a e.1) size base (value_of s e.0) (value_of s e.1) l.2 h
        (value_inside g a s typed e.0 (now s) typed.cells Integer f.0) (value_inside g a s typed e.1 (now s) typed.cells Integer f.1),
  )

  location_bounded : (l : Location) (k : Kind) → term_kind g a l.base ≡ Some k → RangeFits g a l.span → LocationLimited a g.layouts l → LocationBounded s l
  location_bounded l k c f lim = (
    term_bounded l.base k c lim.0,
    subst (λ ls. SpanBounded s (value_of s l.base) l.span (denoted_size ls l.ctype)) (sym typed.layouts)
        (span_bounded (value_of s l.base) (interval a l.base) (denoted_size g.layouts l.ctype) l.span f lim.1 (value_inside g a s typed l.base (now s) typed.cells k c)),
  )

  fitting_bounded : (l : Location) → LocationFits g a l → LocationLimited a g.layouts l → LocationBounded s l
  fitting_bounded l f lim = let k = object_kind g a (term_kind g a l.base) l.ctype f.0 in location_bounded l k.0 k.1 f.1 lim

  separable_bounded : (l : Location) → SeparableFits g a l → LocationLimited a g.layouts l → LocationBounded s l
  separable_bounded l (inl f) lim = fitting_bounded l f lim
  separable_bounded l (inr w) lim = location_bounded l OfAccess w.0 (subst (RangeFits g a) (sym w.2) tt) lim

  all_bounded : (ls : List Location) → AllByRecursion (SeparableFits g a) ls → AllByRecursion (LocationLimited a g.layouts) ls → All (LocationBounded s) ls
  all_bounded [] f lim = All-nil (LocationBounded s)
  all_bounded (l ∷ ls) f lim = All-cons (LocationBounded s) l ls (separable_bounded l f.0 lim.0) (all_bounded ls f.1 lim.1)

  -- ---- predicates

  predicate_bounded : (r : Predicate) → PredicateKinds g a r → PredicateLimited a g.layouts r → IsBounded s r
  predicate_bounded True f l = tt
  predicate_bounded False f l = tt
  predicate_bounded (Not' b (more_of-Predicate r end_of-Predicate)) f l = predicate_bounded r f l
  predicate_bounded (And' b (more_of-Predicate q end_of-Predicate) c (more_of-Predicate r end_of-Predicate)) f l = (predicate_bounded q f.0 l.0, predicate_bounded r f.1 l.1)
  predicate_bounded (Or' b (more_of-Predicate q end_of-Predicate) c (more_of-Predicate r end_of-Predicate)) f l = (predicate_bounded q f.0 l.0, predicate_bounded r f.1 l.1)
  predicate_bounded (Implies' b (more_of-Predicate q end_of-Predicate) c (more_of-Predicate r end_of-Predicate)) f l = (predicate_bounded q f.0 l.0, predicate_bounded r f.1 l.1)
  predicate_bounded (Iff' b (more_of-Predicate q end_of-Predicate) c (more_of-Predicate r end_of-Predicate)) f l = (predicate_bounded q f.0 l.0, predicate_bounded r f.1 l.1)
  predicate_bounded (Relation c e x) f l =
      let k = relation_kinds g a c (term_kind g a e) (term_kind g a x) f in (term_bounded e k.0.0 k.0.1 l.0, term_bounded x k.1.0 k.1.1 l.1)
  predicate_bounded (Valid l) f lim = fitting_bounded l f lim
  predicate_bounded (Separated ls) f lim = all_bounded ls f.1 lim
  predicate_bounded (Called x flag) f l = tt
  predicate_bounded (IsEvent k x) f l = tt

pub fits_bounded : FitsBounded
fits_bounded = record { terms = λ g a s e k typed c l. term_bounded g a s typed e k c l; predicates = λ g a s r typed f. predicate_bounded g a s typed r f.kinds f.limited }
