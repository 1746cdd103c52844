-- The parts that `cell_parts` gives lead to the cell: their offsets add up to its own, each has the type of a member or element of the one before it, and the last has the cell's type.
use Rattle.std.proofs.Common.{◌≡◌, ℕ, zero, suc, ◌+◌, ◌-◌, ◌*◌, ◌/◌, ◌%◌, ◌<◌, ◌≤◌, Bool, true, false, cond, List, [], ◌∷◌, ◌++◌, length, Option, Some, None, refl, sym, ap, subst, ◌∙◌, arith, length-append, append_assoc, ne_eqb, div-add-mod', div-le_self, div-lt_iff_lt-mul, mod-lt}
use Rattle.std.specs.Prelude.{slice_get, flat_map, nat_lt, option_and_then}
use Rattle.std.specs.List.{list_all, AllByRecursion}
use Rattle.std.proofs.lemmas.Bool.{leb-true, ltb-true, ltb-false}
use Rattle.step_meaning.specs.declared.value.CType.{CType, end_of-CType, more_of-CType}
use Rattle.step_meaning.specs.declared.value.CType.TheVariants as type
use Rattle.step_meaning.specs.declared.program.Declared.{Declared}
use Rattle.step_meaning.specs.declared.program.Layout.{Layout}
use Rattle.step_meaning.specs.Types.{times, object_cells, struct_cells, cell_types, where_true}
use Rattle.step_meaning.specs.TypeRules.{cells, is_object_type, keeps_rules, is_layout_after, are_layouts_after, are_layouts, member_from, member_type, element_type}
use Rattle.step_meaning.proofs.Ranges.{false_is_not_true, left_of_and, right_of_and}
use Rattle.step_meaning.proofs.SameTypes.{number_same}
use Rattle.step_meaning.proofs.StructCells.{struct_at, before_get}
use Rattle.step_meaning.proofs.LaterLayouts.{same_cells, still_keeps}
use Rattle.core_types.proofs.SizeLaws.{times_length}
use Rattle.core_types.proofs.MemberLaws.{has_cell}
use Rattle.normal_laws.specs.NormalForm.{Part, MemberAt, ElementAt, type_parts, member_parts, layout_parts, struct_parts, cell_parts}
use Rattle.normal_laws.specs.SourceCode.{parts_offset}

-- ---- elements of lists

after_get : {A : Type 0} (a b : List A) (n : ℕ) → slice_get (a ++ b) (length a + n) ≡ slice_get b n
after_get [] b n = let e : 0 + n ≡ n = omega arith in ap (slice_get b) e
after_get (x ∷ a) b n = let e : suc (length a) + n ≡ suc (length a + n) = omega arith in ap (slice_get (x ∷ (a ++ b))) e ∙ after_get a b n

times_get : (n i r : ℕ) (ts : List CType) → i < n → r < length ts → slice_get (times n ts) (i * length ts + r) ≡ slice_get ts r
times_get zero i r ts h k = absurd (omega arith)
times_get (suc n) zero r ts h k = let e : 0 * length ts + r ≡ r = omega arith in ap (slice_get (times (suc n) ts)) e ∙ before_get ts (times n ts) r k
times_get (suc n) (suc i) r ts h k =
    let e : suc i * length ts + r ≡ length ts + (i * length ts + r) = grind arith in
    ap (slice_get (times (suc n) ts)) e ∙ after_get ts (times n ts) (i * length ts + r) ∙ times_get n i r ts (omega arith) k

-- the number of the element that has the cell at an offset
quotient_below : (o c n : ℕ) → 1 ≤ c → o < n * c → o / c < n
quotient_below o c n h k = (div-lt_iff_lt-mul h).1 k

remainder_below : (o c : ℕ) → 1 ≤ c → o % c < c
remainder_below o c h = mod-lt o h

-- ---- structs

-- the complete structs in a type have numbers below this
abbrev pub StructsBelow : ℕ → CType → Type 0
StructsBelow n (type.Array' b (more_of-CType t end_of-CType) m) = StructsBelow n t
StructsBelow n (type.Struct m) = m < n
StructsBelow n _ = Unit {0}

structs_below : (ls : List Layout) (declared : ℕ) (t : CType) → is_object_type ls declared t ≡ true → StructsBelow (length ls) t
structs_below ls declared type.Void e = tt
structs_below ls declared (type.Int k) e = tt
structs_below ls declared (type.Pointer' b t) e = tt
structs_below ls declared (type.Array' b (more_of-CType t end_of-CType) n) e = structs_below ls declared t (left_of_and _ _ e)
structs_below ls declared (type.Struct n) e = ltb-true n (length ls) e

below_more : (m n : ℕ) (t : CType) → m ≤ n → StructsBelow m t → StructsBelow n t
below_more m n (type.Array' b (more_of-CType t end_of-CType) k) l h = below_more m n t l h
below_more m n (type.Struct k) l h = omega arith
below_more m n type.Void l h = tt
below_more m n (type.Int k) l h = tt
below_more m n (type.Pointer' b t) l h = tt

-- the struct with this number, among those before and after it
record StructAt (all : List Layout) (n : ℕ) (l : Layout) : Type 0 where
  before : List Layout
  after : List Layout
  whole : all ≡ before ++ (l ∷ after)
  number : length before ≡ n
  keeps : is_layout_after before l ≡ true

some_is : {A : Type 0} {a b : A} → Some a ≡ Some b → a ≡ b
some_is e = cc

layout_at : (before ls : List Layout) → are_layouts_after before ls ≡ true → (n : ℕ) (l : Layout) → slice_get ls n ≡ Some l → StructAt (before ++ ls) (length before + n) l
layout_at before [] e zero l f = absurd cc
layout_at before [] e (suc n) l f = absurd cc
layout_at before (x ∷ ls) e zero l f =
    subst (λ l. StructAt (before ++ (x ∷ ls)) (length before + 0) l) (some_is f)
    (record { before = before; after = ls; whole = refl; number = omega arith; keeps = left_of_and _ _ e })
layout_at before (x ∷ ls) e (suc n) l f =
    let h = layout_at (before ++ (x ∷ [])) ls (right_of_and _ _ e) n l f in
    record {
      before = h.before;
      after = h.after;
      whole = sym (append_assoc before (x ∷ []) ls) ∙ h.whole;
      number = h.number ∙ (let c : length (before ++ (x ∷ [])) ≡ length before + 1 = length-append before (x ∷ []) in omega arith);
      keeps = h.keeps;
    }

module _ (ls : List Layout) (formed : are_layouts ls ≡ true) where
  abbrev Member : ℕ → Declared → Type 0
  Member n d = (keeps_rules ls d.ctype ≡ true) × StructsBelow n d.ctype

  member_cells : List Declared → List CType
  member_cells ds = flat_map (λ d. object_cells ls d.ctype) ds

  -- the members of the struct with this number
  record HasMembers (n : ℕ) (l : Layout) : Type 0 where
    same : object_cells ls (type.Struct n) ≡ flat_map (λ d. object_cells ls d.ctype) l.members
    members : AllByRecursion (Member n) l.members

  from_before : (before after : List Layout) (l : Layout) (ds : List Declared) → list_all (λ d. is_object_type before (suc (length before)) d.ctype) ds ≡ true
      → (flat_map (λ d. cell_types (struct_cells [] before) d.ctype) ds ≡ flat_map (λ d. object_cells (before ++ (l ∷ after)) d.ctype) ds)
      × AllByRecursion (λ d. (keeps_rules (before ++ (l ∷ after)) d.ctype ≡ true) × StructsBelow (length before) d.ctype) ds
  from_before before after l [] e = (refl, tt)
  from_before before after l (d ∷ ds) e =
      let h = from_before before after l ds (right_of_and _ _ e) in
      let k = left_of_and _ _ e in
      let c : length (before ++ (l ∷ after)) ≡ length before + suc (length after) = length-append before (l ∷ after) in (
        ap (λ ts. ts ++ flat_map (λ d. cell_types (struct_cells [] before) d.ctype) ds) (sym (same_cells before (l ∷ after) (suc (length before)) d.ctype k))
            ∙ ap (λ ts. object_cells (before ++ (l ∷ after)) d.ctype ++ ts) h.0,
        ((still_keeps before (l ∷ after) (suc (length before)) (length (before ++ (l ∷ after))) d.ctype (omega arith) k, structs_below before (suc (length before)) d.ctype k), h.1),
      )

  has_members : (n : ℕ) (l : Layout) → slice_get ls n ≡ Some l → HasMembers n l
  has_members n l f =
      let s : StructAt ls (0 + n) l = layout_at [] ls formed n l f in
      let m : length s.before ≡ n = s.number ∙ omega arith in
      let h = from_before s.before s.after l l.members (left_of_and _ _ (right_of_and _ _ s.keeps)) in
      record {
        same = ap (λ k. object_cells ls (type.Struct k)) (sym m)
            ∙ ap (λ all. object_cells all (type.Struct (length s.before))) s.whole
            ∙ struct_at s.before l s.after ∙ h.0
            ∙ ap (λ all. flat_map (λ d. object_cells all d.ctype) l.members) (sym s.whole);
        members = subst (λ k. AllByRecursion (Member k) l.members) m
            (subst (λ all. AllByRecursion (λ d. (keeps_rules all d.ctype ≡ true) × StructsBelow (length s.before) d.ctype) l.members) (sym s.whole) h.1);
      }

  -- ---- parts

  -- from an object of the one type through the parts to one of the other
  abbrev pub Leads : CType → List Part → CType → Type 0
  Leads t [] u = t ≡ u
  Leads t (MemberAt o s ∷ xs) u = (member_type ls t o ≡ Some s) × (keeps_rules ls s ≡ true) × Leads s xs u
  Leads t (ElementAt i size s ∷ xs) u = (element_type ls t size ≡ Some s) × (keeps_rules ls s ≡ true) × (i < 65536) × Leads s xs u

  pub record Reaches (t : CType) (o : ℕ) (xs : List Part) : Type 0 where
    pub offset : parts_offset xs ≡ o
    pub cell : CType
    pub found : slice_get (object_cells ls t) o ≡ Some cell
    pub leads : Leads t xs cell

  -- the same for members, the first of them at an offset
  record ReachesMember (ds : List Declared) (at o : ℕ) (xs : List Part) : Type 0 where
    begin : ℕ
    member : CType
    rest : List Part
    is : xs ≡ MemberAt begin member ∷ rest
    later : at ≤ begin
    typed : member_from ls ds at begin ≡ Some member
    keeps : keeps_rules ls member ≡ true
    offset : begin + parts_offset rest ≡ o
    cell : CType
    found : slice_get (flat_map (λ d. object_cells ls d.ctype) ds) (o - at) ≡ Some cell
    leads : Leads member rest cell

  -- structs with numbers below the bound are done by `inner`
  module _ (inner : ℕ → ℕ → List Part) (bound : ℕ) (reaches : (n o : ℕ) → n < bound → o < cells ls (type.Struct n) → Reaches (type.Struct n) o (inner n o)) where
    type_reaches : (t : CType) (o : ℕ) → keeps_rules ls t ≡ true → StructsBelow bound t → o < cells ls t → Reaches t o (type_parts ls inner t o)
    type_reaches type.Void o k b h = false_is_not_true k
    type_reaches (type.Int j) zero k b h = record { offset = refl; cell = type.Int j; found = refl; leads = refl }
    type_reaches (type.Int j) (suc o) k b h = absurd (omega arith)
    type_reaches (type.Pointer' x t) zero k b h = record { offset = refl; cell = type.Pointer' x t; found = refl; leads = refl }
    type_reaches (type.Pointer' x t) (suc o) k b h = absurd (omega arith)
    type_reaches (type.Struct n) o k b h = reaches n o b h
    type_reaches (type.Array' x (more_of-CType t end_of-CType) n) o k b h =
        let c = cells ls t in
        let inside = left_of_and _ _ k in
        let one : 1 ≤ c = has_cell ls formed t inside in
        let all : o < n * c = subst (λ m. o < m) (times_length n (object_cells ls t)) h in
        let few : cells ls (type.Array' x (more_of-CType t end_of-CType) n) ≤ 65536 = leb-true (cells ls (type.Array' x (more_of-CType t end_of-CType) n)) 65536 (right_of_and _ _ (right_of_and _ _ k)) in
        let i : o / c < n = quotient_below o c n one all in
        let r : o % c < c = remainder_below o c one in
        let q : o / c ≤ o = quotient_small o c in
        let e : (o / c) * c + o % c ≡ o = div-add-mod' o c in
        let rest = type_reaches t (o % c) inside b r in
        record {
          offset = ap (λ m. (o / c) * c + m) rest.offset ∙ e;
          cell = rest.cell;
          found = ap (slice_get (times n (object_cells ls t))) (sym e) ∙ times_get n (o / c) (o % c) (object_cells ls t) i r ∙ rest.found;
          leads = (ap (λ b. where_true b t) (number_same c), inside, omega arith, rest.leads);
        }
      where
        quotient_small : (o c : ℕ) → o / c ≤ o
        quotient_small o c = div-le_self o c

    members_reach : (n : ℕ) → n ≤ bound → (ds : List Declared) (at o : ℕ) → AllByRecursion (Member n) ds → at ≤ o → o < at + length (flat_map (λ d. object_cells ls d.ctype) ds) → ReachesMember ds at o (member_parts ls inner ds at o)
    members_reach n le [] at o h l m = absurd (omega arith)
    members_reach n le (d ∷ ds) at o h l m = by (nat_lt o (at + c)) refl (λ l m. members_reach n le ds (at + cells ls d.ctype) o h.1 l m)
      where
        c : ℕ
        c = cells ls d.ctype

        more : List CType
        more = flat_map (λ d. object_cells ls d.ctype) ds

        by : (b : Bool) → nat_lt o (at + c) ≡ b → (at + c ≤ o → o < (at + c) + length more → ReachesMember ds (at + c) o (member_parts ls inner ds (at + c) o)) → ReachesMember (d ∷ ds) at o (cond b (MemberAt at d.ctype ∷ type_parts ls inner d.ctype (o - at)) (member_parts ls inner ds (at + c) o))
        by true e next =
            let lt : o < at + c = ltb-true o (at + c) e in
            let rest = type_reaches d.ctype (o - at) h.0.0 (below_more n bound d.ctype le h.0.1) (omega arith) in
            record {
              begin = at;
              member = d.ctype;
              rest = type_parts ls inner d.ctype (o - at);
              is = refl;
              later = omega arith;
              typed = ap (λ b. cond b (Some d.ctype) (member_from ls ds (at + c) at)) (number_same at);
              keeps = h.0.0;
              offset = ap (λ m. at + m) rest.offset ∙ omega arith;
              cell = rest.cell;
              found = before_get (object_cells ls d.ctype) more (o - at) (omega arith) ∙ rest.found;
              leads = rest.leads;
            }
        by false e next =
            let le2 : at + c ≤ o = ltb-false o (at + c) e in
            let one : 1 ≤ c = has_cell ls formed d.ctype h.0.0 in
            let total : length (object_cells ls d.ctype ++ more) ≡ c + length more = length-append (object_cells ls d.ctype) more in
            let rest = next le2 (omega arith) in
            record {
              begin = rest.begin;
              member = rest.member;
              rest = rest.rest;
              is = rest.is;
              later = let l = rest.later in omega arith;
              typed = ap (λ b. cond b (Some d.ctype) (member_from ls ds (at + c) rest.begin)) (ne_eqb at rest.begin (let l = rest.later in omega arith)) ∙ rest.typed;
              keeps = rest.keeps;
              offset = rest.offset;
              cell = rest.cell;
              found = ap (slice_get (object_cells ls d.ctype ++ more)) (let m : o - at ≡ c + (o - (at + c)) = omega arith in m) ∙ after_get (object_cells ls d.ctype) more (o - (at + c)) ∙ rest.found;
              leads = rest.leads;
            }

  -- a struct of which this is the layout
  struct_reaches_by : (inner : ℕ → ℕ → List Part) (n o : ℕ) → ((m o : ℕ) → m < n → o < cells ls (type.Struct m) → Reaches (type.Struct m) o (inner m o))
      → (f : Option Layout) → slice_get ls n ≡ f → n < length ls → o < cells ls (type.Struct n) → Reaches (type.Struct n) o (layout_parts ls inner f o)
  struct_reaches_by inner n o reaches None e b h = absurd (missing ls n e b)
    where
      missing : (xs : List Layout) (n : ℕ) → slice_get xs n ≡ None → n < length xs → ⊥
      missing [] n e l = omega arith
      missing (x ∷ xs) zero e l = cc
      missing (x ∷ xs) (suc n) e l = missing xs n e (omega arith)
  struct_reaches_by inner n o reaches (Some l) e b h =
      let m = has_members n l e in
      let total : cells ls (type.Struct n) ≡ length (flat_map (λ d. object_cells ls d.ctype) l.members) = ap length m.same in
      let r = members_reach inner n reaches n (omega arith) l.members 0 o m.members (omega arith) (omega arith) in
      record {
        offset = ap parts_offset r.is ∙ r.offset;
        cell = r.cell;
        found = ap (λ ts. slice_get ts o) m.same ∙ ap (slice_get (flat_map (λ d. object_cells ls d.ctype) l.members)) same_place ∙ r.found;
        leads = subst (λ xs. Leads (type.Struct n) xs r.cell) (sym r.is)
            (ap (λ f. option_and_then (λ l. member_from ls l.members 0 r.begin) f) e ∙ r.typed, r.keeps, r.leads);
      }
    where
      same_place : o ≡ o - 0
      same_place = omega arith

  struct_reaches : (deep n o : ℕ) → n < deep → n < length ls → o < cells ls (type.Struct n) → Reaches (type.Struct n) o (struct_parts ls deep n o)
  struct_reaches zero n o d b h = absurd (omega arith)
  struct_reaches (suc deep) n o d b h =
      struct_reaches_by (struct_parts ls deep) n o (λ m p lt k. struct_reaches deep m p (omega arith) (omega arith) k) (slice_get ls n) refl b h

  -- of each type that keeps the rules
  pub cell_reached : (t : CType) (o : ℕ) → keeps_rules ls t ≡ true → o < cells ls t → Reaches t o (cell_parts ls t o)
  cell_reached t o k h =
      type_reaches (struct_parts ls (length ls)) (length ls) (λ n o b h. struct_reaches (length ls) n o b b h) t o k (structs_below ls (length ls) t k) h
