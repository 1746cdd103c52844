-- The values of terms that fit lie in their intervals, in each view whose cells, parameters and result hold values of their types.
use Rattle.std.proofs.Common.{◌≡◌, ℕ, ◌<◌, ◌^◌, Bool, true, false, cond, ◌&&◌, ◌==◌, nat_lt, ℤ, pos, negsuc, ◌+ℤ◌, ◌-ℤ◌, ◌*ℤ◌, neg_ℤ, int_div, int_rem, ◌≤ℤ◌, int_le, List, slice_get, Option, Some, None, option_map, option_and_then, refl, sym, subst, ap, arith}
use Rattle.std.proofs.lemmas.Int.{ints}
use Rattle.std.proofs.lemmas.Bool.{eqb-true}
use Rattle.step_meaning.specs.declared.value.CType.{CType}
use Rattle.step_meaning.specs.declared.value.CType.TheVariants as type
use Rattle.step_meaning.specs.declared.value.Value.{Value}
use Rattle.step_meaning.specs.declared.value.Value.TheVariants as value
use Rattle.step_meaning.specs.declared.value.Cell.{Cell}
use Rattle.step_meaning.specs.declared.value.Cell.TheVariants.{Nothing, Holds}
use Rattle.step_meaning.specs.declared.expr.IntOp.{IntOp}
use Rattle.step_meaning.specs.declared.expr.IntOp.TheVariants as op
use Rattle.step_meaning.specs.declared.expr.CompareOp.{CompareOp}
use Rattle.step_meaning.specs.declared.predicate.Term.{Term, end_of-Term, more_of-Term}
use Rattle.step_meaning.specs.declared.predicate.Term.TheVariants as t
use Rattle.step_meaning.specs.declared.predicate.TermPlace.{TermPlace, end_of-TermPlace, more_of-TermPlace}
use Rattle.step_meaning.specs.declared.predicate.TermPlace.TheVariants as p
use Rattle.step_meaning.specs.declared.predicate.Event.{Event}
use Rattle.step_meaning.specs.declared.predicate.Event.TheVariants as event
use Rattle.step_meaning.specs.declared.program.Layout.{Layout}
use Rattle.step_meaning.specs.Numbers.{least, greatest, is_zero}
use Rattle.step_meaning.specs.Names.{name_in}
use Rattle.step_meaning.specs.Settings.{Setting}
use Rattle.step_meaning.specs.Views.{Sight, Reads, at_enter}
use Rattle.step_meaning.specs.Terms.{TermValue, Number, NullPointer, term_value, with_number, with_value, unless_zero, term_operation, term_moved, value_in_cell, read_at, parameter_at, result_at, value_by, place_by}
use Rattle.step_meaning.specs.Terms as term
use Rattle.step_meaning.specs.Traced.{HasType, IsPointer}
use Rattle.step_meaning.specs.Bounded.{IsValueWithin, WhereDefined, IsProductWithin}
use Rattle.step_meaning.specs.Intervals.{Interval, IsLimited, alone, negated, around_zero, sum, operation, times_size, any_offset, interval_of_type, interval_if_any, interval, interval_of_place}
use Rattle.step_meaning.specs.TypeRules.{member_type}
use Rattle.step_meaning.specs.TermKinds.{Kind, Integer, PointerTo, AnyNull, OfAccess, kind_of_type, is_integer, indexed_type, is_register_place, pointed_type, kind_of_negation, kind_of_operation, kind_of_move, kind_of_read, address_kind, term_kind, place_type, RelationFits, IsObjectType}
use Rattle.step_meaning.specs.Annotations.{Allowed}
use Rattle.step_meaning.specs.FitsBounded.{AreTyped, IsTypedSight}
use Rattle.step_meaning.proofs.IntervalEnds.{In, within, in_alone, in_negated, in_sum, in_difference, in_product, in_quotient, in_remainder}

-- ---- options

pub some_is : {A : Type 0} (a b : A) → Some a ≡ Some b → a ≡ b
some_is a b e = ap (λ o. held o a) e
  where
    held : {A : Type 0} → Option A → A → A
    held None x = x
    held (Some y) x = y

pub none_is : {A : Type 0} {P : Type 0} (a : A) → None ≡ Some a → P
none_is a e = cc

pub some_of_bind : {A B : Type 0} (f : A → Option B) (o : Option A) (b : B) → option_and_then f o ≡ Some b → (a : A) × (o ≡ Some a) × (f a ≡ Some b)
some_of_bind f None b e = none_is b e
some_of_bind f (Some a) b e = (a, refl, e)

pub some_of_map : {A B : Type 0} (f : A → B) (o : Option A) (b : B) → option_map f o ≡ Some b → (a : A) × (o ≡ Some a) × (f a ≡ b)
some_of_map f None b e = none_is b e
some_of_map f (Some a) b e = (a, refl, some_is (f a) b e)

some_of_number : (f : ℤ → Option TermValue) (o : Option TermValue) (v : TermValue) → with_number o f ≡ Some v → (z : ℤ) × (o ≡ Some (Number z)) × (f z ≡ Some v)
some_of_number f None v e = none_is v e
some_of_number f (Some (Number z)) v e = (z, refl, e)
some_of_number f (Some NullPointer) v e = none_is v e
some_of_number f (Some (term.PointerInto n o)) v e = none_is v e

pub some_if : {A : Type 0} (b : Bool) (o : Option A) (a : A) → cond b o None ≡ Some a → o ≡ Some a
some_if true o a e = e
some_if false o a e = none_is a e

-- ---- kinds of parts

pub negation_kind : (o : Option Kind) (k : Kind) → kind_of_negation o ≡ Some k → o ≡ Some Integer
negation_kind None k e = none_is k e
negation_kind (Some Integer) k e = refl
negation_kind (Some (PointerTo u)) k e = none_is k e
negation_kind (Some AnyNull) k e = none_is k e
negation_kind (Some OfAccess) k e = none_is k e

pub operation_kinds : (o : IntOp) (a b : Option Kind) (k : Kind) → kind_of_operation o a b ≡ Some k → (a ≡ Some Integer) × (b ≡ Some Integer)
operation_kinds o (Some Integer) (Some Integer) k e = (refl, refl)
operation_kinds o None b k e = none_is k e
operation_kinds o (Some (PointerTo u)) b k e = none_is k e
operation_kinds o (Some AnyNull) b k e = none_is k e
operation_kinds o (Some OfAccess) b k e = none_is k e
operation_kinds o (Some Integer) None k e = none_is k e
operation_kinds o (Some Integer) (Some (PointerTo u)) k e = none_is k e
operation_kinds o (Some Integer) (Some AnyNull) k e = none_is k e
operation_kinds o (Some Integer) (Some OfAccess) k e = none_is k e

pub move_kinds : (layouts : List Layout) (a b : Option Kind) (size : ℕ) (k : Kind) → kind_of_move layouts a b size ≡ Some k → ((l : Kind) × (a ≡ Some l)) × (b ≡ Some Integer)
move_kinds layouts (Some l) (Some Integer) size k e = ((l, refl), refl)
move_kinds layouts None b size k e = none_is k e
move_kinds layouts (Some Integer) None size k e = none_is k e
move_kinds layouts (Some (PointerTo u)) None size k e = none_is k e
move_kinds layouts (Some AnyNull) None size k e = none_is k e
move_kinds layouts (Some OfAccess) None size k e = none_is k e
move_kinds layouts (Some Integer) (Some (PointerTo w)) size k e = none_is k e
move_kinds layouts (Some (PointerTo u)) (Some (PointerTo w)) size k e = none_is k e
move_kinds layouts (Some AnyNull) (Some (PointerTo w)) size k e = none_is k e
move_kinds layouts (Some OfAccess) (Some (PointerTo w)) size k e = none_is k e
move_kinds layouts (Some Integer) (Some AnyNull) size k e = none_is k e
move_kinds layouts (Some (PointerTo u)) (Some AnyNull) size k e = none_is k e
move_kinds layouts (Some AnyNull) (Some AnyNull) size k e = none_is k e
move_kinds layouts (Some OfAccess) (Some AnyNull) size k e = none_is k e
move_kinds layouts (Some Integer) (Some OfAccess) size k e = none_is k e
move_kinds layouts (Some (PointerTo u)) (Some OfAccess) size k e = none_is k e
move_kinds layouts (Some AnyNull) (Some OfAccess) size k e = none_is k e
move_kinds layouts (Some OfAccess) (Some OfAccess) size k e = none_is k e

-- what is indexed has an element type, and the index is an integer
pub indexed_parts : (layouts : List Layout) (size : ℕ) (o : Option CType) (i : Option Kind) (w : CType) → indexed_type layouts size o i ≡ Some w → ((u : CType) × (o ≡ Some u)) × (i ≡ Some Integer)
indexed_parts layouts size (Some u) (Some Integer) w e = ((u, refl), refl)
indexed_parts layouts size None i w e = absurd (no (is_integer i) e)
  where
    no : (b : Bool) → cond b None None ≡ Some w → ⊥
    no true e = none_is w e
    no false e = none_is w e
indexed_parts layouts size (Some u) None w e = none_is w e
indexed_parts layouts size (Some u) (Some (PointerTo x)) w e = none_is w e
indexed_parts layouts size (Some u) (Some AnyNull) w e = none_is w e
indexed_parts layouts size (Some u) (Some OfAccess) w e = none_is w e

module _ (g : Setting) (a : Allowed) where
  pub read_place : (o : Option CType) (w : CType) (k : Kind) → kind_of_read g a o w ≡ Some k → (u : CType) × (o ≡ Some u)
  read_place None w k e = none_is k e
  read_place (Some u) w k e = (u, refl)

  pub address_place : (b : Bool) (o : Option CType) (w : CType) (k : Kind) → address_kind g a b o w ≡ Some k → (u : CType) × (o ≡ Some u)
  address_place b None w k e = none_is k e
  address_place b (Some u) w k e = (u, refl)

  pub relation_kinds : (c : CompareOp) (o r : Option Kind) → RelationFits g a c o r → ((k : Kind) × (o ≡ Some k)) × ((l : Kind) × (r ≡ Some l))
  relation_kinds c (Some k) (Some l) h = ((k, refl), (l, refl))
  relation_kinds c None r h = absurd h
  relation_kinds c (Some k) None h = absurd h

  pub object_kind : (o : Option Kind) (w : CType) → IsObjectType g a o w → (k : Kind) × (o ≡ Some k)
  object_kind (Some k) w h = (k, refl)
  object_kind None w h = absurd h

-- ---- values in intervals

-- the integer, or the offset of the pointer, is in the interval
abbrev pub Inside : Interval → TermValue → Type 0
Inside i (Number z) = In i z
Inside i NullPointer = Unit {0}
Inside i (term.PointerInto n o) = In i o

pub inside_limit : (i : Interval) (v : TermValue) → IsLimited i → Inside i v → IsValueWithin v
inside_limit i (Number z) l h = within i z l h
inside_limit i NullPointer l h = tt
inside_limit i (term.PointerInto n o) l h = within i o l h

pub where_defined : (i : Interval) (o : Option TermValue) → IsLimited i → ((v : TermValue) → o ≡ Some v → Inside i v) → WhereDefined o
where_defined i None l h = tt
where_defined i (Some v) l h = inside_limit i v l (h v refl)

pub product_within : (i : Interval) (o : Option TermValue) (size : ℕ) → IsLimited (times_size i size) → ((v : TermValue) → o ≡ Some v → Inside i v) → IsProductWithin o size
product_within i None size l h = tt
product_within i (Some (Number z)) size l h = within (times_size i size) (z *ℤ pos size) l (in_product i (alone (pos size)) z (pos size) (h (Number z) refl) (in_alone (pos size)))
product_within i (Some NullPointer) size l h = tt
product_within i (Some (term.PointerInto n o)) size l h = tt

-- ---- values of types

offset_inside : (o : ℕ) → o < 2 ^ 32 → In any_offset (pos o)
offset_inside o h = record { low = omega (arith, ints); high = omega (arith, ints) }

both_true : (b c : Bool) → b && c ≡ true → (b ≡ true) × (c ≡ true)
both_true true true e = (refl, refl)
both_true true false e = absurd (cc)
both_true false c e = absurd (cc)

le_true : (x y : ℤ) → int_le x y ≡ true → x ≤ℤ y
le_true x y e = omega (arith, ints)

type_inside : (u : CType) (v : Value) → HasType u v → Inside (interval_of_type u) (term_value v)
type_inside (type.Int k) (value.Int z) h = let b = both_true (int_le (least k) z) (int_le z (greatest k)) h in record { low = le_true (least k) z b.0; high = le_true z (greatest k) b.1 }
type_inside (type.Pointer' b u) value.Null h = tt
type_inside (type.Pointer' b u) (value.Pointer n o) h = offset_inside o h
type_inside type.Void v h = absurd h
type_inside (type.Int k) value.Null h = absurd h
type_inside (type.Int k) (value.Pointer n o) h = absurd h
type_inside (type.Pointer' b u) (value.Int z) h = absurd h
type_inside (type.Array' b u n) v h = absurd h
type_inside (type.Struct n) v h = absurd h

access_inside : (v : Value) → IsPointer v → Inside any_offset (term_value v)
access_inside (value.Int z) h = absurd h
access_inside value.Null h = tt
access_inside (value.Pointer n o) h = offset_inside o h

cell_inside : (u : CType) (c : Option Cell) (v : TermValue) → ((w : Value) → c ≡ Some (Holds w) → HasType u w) → value_in_cell c ≡ Some v → Inside (interval_of_type u) v
cell_inside u None v h e = none_is v e
cell_inside u (Some Nothing) v h e = none_is v e
cell_inside u (Some (Holds w)) v h e = subst (Inside (interval_of_type u)) (some_is (term_value w) v e) (type_inside u w (h w refl))

read_inside : (reads : Reads) (u : CType) (p v : TermValue) → AreTyped reads → read_at reads u p ≡ Some v → Inside (interval_of_type u) v
read_inside reads u (Number z) v h e = none_is v e
read_inside reads u NullPointer v h e = none_is v e
read_inside reads u (term.PointerInto n (negsuc o)) v h e = none_is v e
read_inside reads u (term.PointerInto n (pos o)) v h e = by (nat_lt o (2 ^ 32)) e
  where
    by : (b : Bool) → cond b (value_in_cell (reads n o u)) None ≡ Some v → Inside (interval_of_type u) v
    by true e = cell_inside u (reads n o u) v (λ w. h n o u w) e
    by false e = none_is v e

-- ---- operators

pub by_cases : {A : Type 0} (x y : Option A) (v : A) (P : Type 0) (b : Bool) → (x ≡ Some v → P) → (y ≡ Some v → P) → cond b x y ≡ Some v → P
by_cases x y v P true f h e = f e
by_cases x y v P false f h e = h e

operation_inside : (o : IntOp) (i j : Interval) (x y : ℤ) (v : TermValue) → In i x → In j y → term_operation o x y ≡ Some v → Inside (operation o i j) v
operation_inside op.Add i j x y v h k e = subst (Inside (operation op.Add i j)) (some_is (Number (x +ℤ y)) v e) (in_sum i j x y h k)
operation_inside op.Sub i j x y v h k e = subst (Inside (operation op.Sub i j)) (some_is (Number (x -ℤ y)) v e) (in_difference i j x y h k)
operation_inside op.Mul i j x y v h k e = subst (Inside (operation op.Mul i j)) (some_is (Number (x *ℤ y)) v e) (in_product i j x y h k)
operation_inside op.Div i j x y v h k e = by_cases None (Some (Number (int_div x y))) v (Inside (around_zero i) v) (is_zero y) (λ f. none_is v f) (λ f. subst (Inside (around_zero i)) (some_is (Number (int_div x y)) v f) (in_quotient i x y h)) e
operation_inside op.Rem i j x y v h k e = by_cases None (Some (Number (int_rem x y))) v (Inside (around_zero i) v) (is_zero y) (λ f. none_is v f) (λ f. subst (Inside (around_zero i)) (some_is (Number (int_rem x y)) v f) (in_remainder i x y h)) e
operation_inside op.Shl i j x y v h k e = none_is v e
operation_inside op.Shr i j x y v h k e = none_is v e
operation_inside op.And i j x y v h k e = none_is v e
operation_inside op.Or i j x y v h k e = none_is v e
operation_inside op.Xor i j x y v h k e = none_is v e

moved_inside : (i j : Interval) (by : ℤ) (w v : TermValue) → Inside i w → In j by → term_moved by w ≡ Some v → Inside (sum i j) v
moved_inside i j by (Number z) v h k e = none_is v e
moved_inside i j by NullPointer v h k e = by_cases (Some NullPointer) None v (Inside (sum i j) v) (is_zero by) (λ f. subst (Inside (sum i j)) (some_is NullPointer v f) tt) (λ f. none_is v f) e
moved_inside i j by (term.PointerInto n o) v h k e = subst (Inside (sum i j)) (some_is (term.PointerInto n (o +ℤ by)) v e) (in_sum i j o by h k)

-- so many objects further
pub elements_inside : (i j : Interval) (size : ℕ) (x : Option TermValue) (y : Option TermValue) (v : TermValue)
    → ((w : TermValue) → x ≡ Some w → Inside i w) → ((w : TermValue) → y ≡ Some w → Inside j w)
    → with_value x (λ w. with_number y (λ n. term_moved (n *ℤ pos size) w)) ≡ Some v → Inside (sum i (times_size j size)) v
elements_inside i j size x y v h k e =
    let first = some_of_bind (λ w. with_number y (λ n. term_moved (n *ℤ pos size) w)) x v e in
    let second = some_of_number (λ n. term_moved (n *ℤ pos size) first.0) y v first.2 in
    moved_inside i (times_size j size) (second.0 *ℤ pos size) first.0 v (h first.0 first.1)
    (in_product j (alone (pos size)) second.0 (pos size) (k (Number second.0) second.1) (in_alone (pos size))) second.2

-- ---- what a step has of its own

same_number : (f g : ℕ) → (f == g) ≡ true → f ≡ g
same_number f g e = eqb-true f g e

argument_is : (ev : Event) (f i : ℕ) (vs : List Value) (v : TermValue) → parameter_at ev f vs i ≡ Some v → (w : Value) × (ev ≡ event.Enter f) × (slice_get vs i ≡ Some w) × (term_value w ≡ v)
argument_is event.Nothing f i vs v e = none_is v e
argument_is (event.Return g) f i vs v e = none_is v e
argument_is (event.Enter g) f i vs v e = by (f == g) refl e
  where
    by : (b : Bool) → (f == g) ≡ b → cond b (option_map term_value (slice_get vs i)) None ≡ Some v → (w : Value) × (event.Enter g ≡ event.Enter f) × (slice_get vs i ≡ Some w) × (term_value w ≡ v)
    by true b e = let m = some_of_map term_value (slice_get vs i) v e in (m.0, ap event.Enter (sym (same_number f g b)), m.1, m.2)
    by false b e = none_is v e

result_is : (ev : Event) (f : ℕ) (r : Option Value) (v : TermValue) → result_at ev f r ≡ Some v → (w : Value) × (ev ≡ event.Return f) × (r ≡ Some w) × (term_value w ≡ v)
result_is event.Nothing f r v e = none_is v e
result_is (event.Enter g) f r v e = none_is v e
result_is (event.Return g) f r v e = by (f == g) refl e
  where
    by : (b : Bool) → (f == g) ≡ b → cond b (option_map term_value r) None ≡ Some v → (w : Value) × (event.Return g ≡ event.Return f) × (r ≡ Some w) × (term_value w ≡ v)
    by true b e = let m = some_of_map term_value r v e in (m.0, ap event.Return (sym (same_number f g b)), m.1, m.2)
    by false b e = none_is v e

-- ---- values of terms

module _ (g : Setting) (a : Allowed) (s : Sight) (typed : IsTypedSight g a s) where
  mutual
    pub value_inside : (e : Term) (reads : Reads) → AreTyped reads → (k : Kind) → term_kind g a e ≡ Some k → (v : TermValue) → value_by s e reads ≡ Some v → Inside (interval a e) v
    value_inside (t.Int z) reads h k c v e = subst (Inside (alone z)) (some_is (Number z) v e) (in_alone z)
    value_inside t.Null reads h k c v e = subst (Inside (alone (pos 0))) (some_is NullPointer v e) tt
    value_inside (t.Load q u) reads h k c v e =
        let m = some_of_bind (read_at reads u) (place_by s q reads) v e in read_inside reads u m.0 v h m.2
    value_inside (t.Address q u) reads h k c v e =
        let m = address_place g a (is_register_place q) (place_type g a q) u k c in place_inside q reads h m.0 m.1 v e
    value_inside (t.Neg' b (more_of-Term e end_of-Term)) reads h k c v w =
        let m = some_of_number (λ x. Some (Number (neg_ℤ x))) (value_by s e reads) v w in
        subst (Inside (negated (interval a e))) (some_is (Number (neg_ℤ m.0)) v m.2) (in_negated (interval a e) m.0 (value_inside e reads h Integer (negation_kind (term_kind g a e) k c) (Number m.0) m.1))
    value_inside (t.Arith' o b (more_of-Term e end_of-Term) d (more_of-Term f end_of-Term)) reads h k c v w =
        let kinds = operation_kinds o (term_kind g a e) (term_kind g a f) k c in
        let m = some_of_number (λ x. with_number (value_by s f reads) (λ y. term_operation o x y)) (value_by s e reads) v w in
        let n = some_of_number (λ y. term_operation o m.0 y) (value_by s f reads) v m.2 in
        operation_inside o (interval a e) (interval a f) m.0 n.0 v (value_inside e reads h Integer kinds.0 (Number m.0) m.1) (value_inside f reads h Integer kinds.1 (Number n.0) n.1) n.2
    value_inside (t.Move' b (more_of-Term e end_of-Term) d (more_of-Term f end_of-Term) size) reads h k c v w =
        let kinds = move_kinds g.layouts (term_kind g a e) (term_kind g a f) size k c in
        elements_inside (interval a e) (interval a f) size (value_by s e reads) (value_by s f reads) v (value_inside e reads h kinds.0.0 kinds.0.1) (value_inside f reads h Integer kinds.1) w
    value_inside (t.AtPre q u) reads h k c v e =
        let m = some_of_bind (read_at (at_enter s) u) (place_by s q (at_enter s)) v e in read_inside (at_enter s) u m.0 v typed.cells_at_enter m.2
    value_inside t.Accessed reads h k c v e =
        let m = some_of_map term_value s.accessed v e in subst (Inside any_offset) m.2 (access_inside m.0 (typed.access m.0 m.1))
    value_inside (t.Parameter f i) reads h k c v e =
        let m = argument_is s.event f i s.arguments v e in
        let u = some_of_bind kind_of_type (a.parameter_type f i) k c in
        subst (λ o. Inside (interval_if_any o) v) (sym u.1) (subst (Inside (interval_of_type u.0)) m.3 (type_inside u.0 m.0 (typed.parameters f i u.0 m.0 m.1 m.2 u.1)))
    value_inside (t.Result f) reads h k c v e =
        let m = result_is s.event f s.result v e in
        let u = some_of_bind kind_of_type (a.result_type f) k c in
        subst (λ o. Inside (interval_if_any o) v) (sym u.1) (subst (Inside (interval_of_type u.0)) m.3 (type_inside u.0 m.0 (typed.result f u.0 m.0 m.1 m.2 u.1)))

    pub place_inside : (q : TermPlace) (reads : Reads) → AreTyped reads → (u : CType) → place_type g a q ≡ Some u → (v : TermValue) → place_by s q reads ≡ Some v → Inside (interval_of_place a q) v
    place_inside (p.Own x) reads h u c v e = subst (Inside (alone (pos 0))) (some_is (term.PointerInto (name_in s.activation x) (pos 0)) v e) (in_alone (pos 0))
    place_inside (p.Deref' b (more_of-Term e end_of-Term)) reads h u c v w =
        let m = some_of_bind pointed_type (term_kind g a e) u c in value_inside e reads h m.0 m.1 v w
    place_inside (p.Member' b (more_of-TermPlace q end_of-TermPlace) o) reads h u c v w =
        let m = some_of_bind (λ u. member_type g.layouts u o) (place_type g a q) u c in
        let n = some_of_bind (term_moved (pos o)) (place_by s q reads) v w in
        moved_inside (interval_of_place a q) (alone (pos o)) (pos o) n.0 v (place_inside q reads h m.0 m.1 n.0 n.1) (in_alone (pos o)) n.2
    place_inside (p.Index' b (more_of-TermPlace q end_of-TermPlace) d (more_of-Term e end_of-Term) size) reads h u c v w =
        let m = indexed_parts g.layouts size (place_type g a q) (term_kind g a e) u c in
        elements_inside (interval_of_place a q) (interval a e) size (place_by s q reads) (value_by s e reads) v (place_inside q reads h m.0.0 m.0.1) (value_inside e reads h Integer m.1) w
