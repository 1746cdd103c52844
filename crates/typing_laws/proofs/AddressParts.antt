-- Address constants: parts of variables of file scope, and where they lie.
use Rattle.std.proofs.Common.{◌≡◌, ℕ, suc, ◌+◌, ◌*◌, ◌<◌, ◌≤◌, true, false, List, [], ◌∷◌, ◌++◌, map, length, flat_map, sum_by, Option, Some, None, refl, sym, ap, subst, ◌∙◌, arith, length-append, mul-le-mul_right}
use Rattle.std.specs.Prelude.{◌==◌, pos, nat_lt, slice_get}
use Rattle.std.specs.List.{list_all, AllByRecursion}
use Rattle.std.proofs.lemmas.Bool.{ltb-true, eqb-true}
use Rattle.std.proofs.lemmas.List.Sums.{sum_by-cons}
use Rattle.step_meaning.specs.declared.value.CType.{CType, end_of-CType, more_of-CType}
use Rattle.step_meaning.specs.declared.value.CType.TheVariants as type
use Rattle.step_meaning.specs.declared.value.NameKind.{NameKind}
use Rattle.step_meaning.specs.declared.value.NameKind.TheVariants as names
use Rattle.step_meaning.specs.declared.expr.Variable.{Variable}
use Rattle.step_meaning.specs.declared.expr.Expr.{end_of-Expr, more_of-Expr}
use Rattle.step_meaning.specs.declared.expr.Expr.TheVariants.{Literal, Own, Member', Index'}
use Rattle.step_meaning.specs.declared.expr.Place_.{Place_, end_of-Place_, more_of-Place_}
use Rattle.step_meaning.specs.declared.program.Declared.{Declared as Named}
use Rattle.step_meaning.specs.declared.program.Layout.{Layout}
use Rattle.step_meaning.specs.Names.{same_kind}
use Rattle.step_meaning.specs.Types.{object_cells}
use Rattle.step_meaning.specs.TypeRules.{cells, are_layouts, keeps_rules, member_from, member_type, element_type}
use Rattle.step_meaning.specs.InitialValues.{element_count, HasPart, itself, in_element, in_member}
use Rattle.step_meaning.proofs.Ranges.{false_is_not_true, left_of_and, right_of_and}
use Rattle.step_meaning.proofs.SameTypes.{same_itself, same_type_equal}
use Rattle.step_meaning.proofs.LaterLayouts.{member_types_keep}
use Rattle.step_meaning.proofs.TypedMemory.{WhereSome, get_fits}
use Rattle.core_types.proofs.SizeLaws.{times_length}
use Rattle.typing_rules.specs.ConstantExpressions.{Part, member_part, element_part, part_of}
use Rattle.typing_laws.proofs.CheckedValues.{if_holds, some_then, some_mapped, some_known, where_some}
use Rattle.typing_laws.proofs.LaterStructs.{object_complete, get_some}
use Rattle.typing_laws.proofs.LaterTypes.{complete_cells}
use Rattle.typing_laws.proofs.ObjectParts.{struct_parts}

-- ---- parts of parts

pub part_within : (ls : List Layout) (t w u : CType) (o j : ℕ) → HasPart ls w u o → HasPart ls t w j → HasPart ls t u (o + j)
part_within ls t w u o j (itself e z) h = subst (λ u. HasPart ls t u (o + j)) (sym (same_type_equal u w e)) (subst (λ n. HasPart ls t w n) (sum z) h)
  where
    sum : o ≡ 0 → j ≡ o + j
    sum z = omega arith
part_within ls t w u o j (in_element v size i k e l z p) h = in_element v size i (k + j) e l (omega arith) (part_within ls t w v k j p h)
part_within ls t w u o j (in_member v m k e z p) h = in_member v m (k + j) e (omega arith) (part_within ls t w v k j p h)

-- ---- members and elements, here and in the program

module _ (ls more : List Layout) (rules : are_layouts ls ≡ true) where
  cells_same : (t : CType) → keeps_rules ls t ≡ true → cells (ls ++ more) t ≡ cells ls t
  cells_same t k = ap length (complete_cells ls more (length ls) t (object_complete ls (length ls) t k))

  -- what a member at an offset keeps
  record MemberRoom (at o : ℕ) (ds : List Named) (t : CType) : Type 0 where
    keep : keeps_rules ls t ≡ true
    room : o + cells ls t ≤ at + sum_by (λ d. cells ls d.ctype) ds
    later : member_from (ls ++ more) ds at o ≡ Some t

  next_room : (at o : ℕ) (d : Named) (ds : List Named) (t : CType) → (at == o) ≡ false → cells (ls ++ more) d.ctype ≡ cells ls d.ctype → MemberRoom (at + cells ls d.ctype) o ds t → MemberRoom at o (d ∷ ds) t
  next_room at o d ds t e same h = record {
    keep = h.keep;
    room = wider at (cells ls d.ctype) (sum_by (λ d. cells ls d.ctype) ds) (sum_by (λ d. cells ls d.ctype) (d ∷ ds)) (o + cells ls t) (sum_by-cons (λ d. cells ls d.ctype) d ds) h.room;
    later = rw (e, same) h.later;
  }
    where
      wider : (at c rest all n : ℕ) → all ≡ c + rest → n ≤ (at + c) + rest → n ≤ at + all
      wider at c rest all n e l = omega arith

  first_room : (at o : ℕ) (d : Named) (ds : List Named) → (at == o) ≡ true → keeps_rules ls d.ctype ≡ true → MemberRoom at o (d ∷ ds) d.ctype
  first_room at o d ds e k = record {
    keep = k;
    room = wider at o (cells ls d.ctype) (sum_by (λ d. cells ls d.ctype) ds) (sum_by (λ d. cells ls d.ctype) (d ∷ ds)) (eqb-true at o e) (sum_by-cons (λ d. cells ls d.ctype) d ds);
    later = rw e refl;
  }
    where
      wider : (at o c rest all : ℕ) → at ≡ o → all ≡ c + rest → o + c ≤ at + all
      wider at o c rest all e f = omega arith

  member_room : (at o : ℕ) (ds : List Named) → list_all (λ d. keeps_rules ls d.ctype) ds ≡ true → WhereSome (MemberRoom at o ds) (member_from ls ds at o)
  member_room at o [] k = tt
  member_room at o (d ∷ ds) k =
      if_holds (WhereSome (MemberRoom at o (d ∷ ds))) (at == o) (Some d.ctype) (member_from ls ds (at + cells ls d.ctype) o)
      (λ e. first_room at o d ds e (left_of_and _ _ k))
      (λ e. weaker_some (MemberRoom (at + cells ls d.ctype) o ds) (MemberRoom at o (d ∷ ds)) (member_from ls ds (at + cells ls d.ctype) o) (λ t h. next_room at o d ds t e (cells_same d.ctype (left_of_and _ _ k)) h) (member_room (at + cells ls d.ctype) o ds (right_of_and _ _ k)))
    where
      weaker_some : {A : Type 0} (P Q : A → Type 0) (o : Option A) → ((a : A) → P a → Q a) → WhereSome P o → WhereSome Q o
      weaker_some P Q None k h = tt
      weaker_some P Q (Some a) k h = k a h

  -- ---- members and elements of an object

  length_of_types : (ds : List Named) → length (flat_map (object_cells ls) (map (λ d. d.ctype) ds)) ≡ sum_by (λ d. cells ls d.ctype) ds
  length_of_types [] = refl
  length_of_types (d ∷ ds) =
      length-append (object_cells ls d.ctype) (flat_map (object_cells ls) (map (λ d. d.ctype) ds)) ∙ ap (λ n. cells ls d.ctype + n) (length_of_types ds) ∙ sym (sum_by-cons (λ d. cells ls d.ctype) d ds)

  -- a member or element of an object of type w, at the offset o
  record SubobjectFits (w : CType) (o : ℕ) (found : Option CType) (t : CType) : Type 0 where
    keep : keeps_rules ls t ≡ true
    room : o + cells ls t ≤ cells ls w
    later : found ≡ Some t

  struct_member_fits : (n o : ℕ) (l : Layout) → slice_get ls n ≡ Some l → WhereSome (SubobjectFits (type.Struct n) o (member_type (ls ++ more) (type.Struct n) o)) (member_from ls l.members 0 o)
  struct_member_fits n o l found =
      let total : cells ls (type.Struct n) ≡ sum_by (λ d. cells ls d.ctype) l.members = ap length (struct_parts ls rules n l found) ∙ length_of_types l.members in
      some_known (SubobjectFits (type.Struct n) o (member_type (ls ++ more) (type.Struct n) o)) (member_from ls l.members 0 o) (λ t e.
      let h : MemberRoom 0 o l.members t = where_some (MemberRoom 0 o l.members) (member_from ls l.members 0 o) t e (member_room 0 o l.members (member_types_keep ls rules n l found)) in
      record { keep = h.keep; room = narrower (o + cells ls t) (cells ls (type.Struct n)) (sum_by (λ d. cells ls d.ctype) l.members) total h.room; later = rw (get_some ls more n l found) h.later })
    where
      narrower : (n all sum : ℕ) → all ≡ sum → n ≤ 0 + sum → n ≤ all
      narrower n all sum e l = omega arith

  member_fits : (w : CType) (o : ℕ) → WhereSome (SubobjectFits w o (member_type (ls ++ more) w o)) (member_type ls w o)
  member_fits (type.Struct n) o =
      some_then (λ l. slice_get ls n ≡ Some l) (SubobjectFits (type.Struct n) o (member_type (ls ++ more) (type.Struct n) o)) (λ l. member_from ls l.members 0 o) (slice_get ls n) (some_known (λ l. slice_get ls n ≡ Some l) (slice_get ls n) (λ l e. e)) (struct_member_fits n o)
  member_fits w o = tt

  element_fits : (w : CType) → keeps_rules ls w ≡ true → (n size : ℕ) → n < element_count w → WhereSome (SubobjectFits w (n * size) (element_type (ls ++ more) w size)) (element_type ls w size)
  element_fits (type.Array' b (more_of-CType t end_of-CType) m) k n size l =
      if_holds (WhereSome (SubobjectFits (type.Array' b (more_of-CType t end_of-CType) m) (n * size) (element_type (ls ++ more) (type.Array' b (more_of-CType t end_of-CType) m) size))) (size == cells ls t) (Some t) None
      (λ e.
      let same : size ≡ cells ls t = eqb-true size (cells ls t) e in
      let keep : keeps_rules ls t ≡ true = left_of_and _ _ k in
      let whole : cells ls (type.Array' b (more_of-CType t end_of-CType) m) ≡ m * cells ls t = times_length m (object_cells ls t) in
      record { keep = keep; room = within n m size (cells ls t) (cells ls (type.Array' b (more_of-CType t end_of-CType) m)) same whole l; later = rw (cells_same t keep, e) refl })
      (λ e. tt)
    where
      within : (n m size c all : ℕ) → size ≡ c → all ≡ m * c → n < m → n * size + c ≤ all
      within n m size c all s e l = let p : suc n * c ≤ m * c = mul-le-mul_right c l in rw (s, e) (omega (arith, p))
  element_fits w k n size l = tt

-- ---- parts of variables of file scope

module _ (globals : List Named) (ls more : List Layout) (rules : are_layouts ls ≡ true) (objects : AllByRecursion (λ d. keeps_rules ls d.ctype ≡ true) globals) where
  pub record PartFits (part : Part) : Type 0 where
    pub variable : Named
    pub found : slice_get globals part.index ≡ Some variable
    pub keep : keeps_rules ls part.ctype ≡ true
    pub inside : HasPart (ls ++ more) part.ctype variable.ctype part.offset
    pub room : part.offset + cells ls part.ctype ≤ cells ls variable.ctype

  kind_is_global : (k : NameKind) → same_kind k names.Global ≡ true → k ≡ names.Global
  kind_is_global names.Global e = refl
  kind_is_global _ e = false_is_not_true e

  variable_fits : (v : Variable) → WhereSome PartFits (part_of ls globals (Own v))
  unfolding part_of
  variable_fits v =
      if_holds (WhereSome PartFits) (same_kind v.kind names.Global) _ None
      (λ e. some_mapped (λ d. slice_get globals v.index ≡ Some d) PartFits _ (slice_get globals v.index) (some_known (λ d. slice_get globals v.index ≡ Some d) (slice_get globals v.index) (λ d e. e)) (λ d found.
      record {
        variable = d;
        found = found;
        keep = where_some (λ d. keeps_rules ls d.ctype ≡ true) (slice_get globals v.index) d found (get_fits (λ d. keeps_rules ls d.ctype ≡ true) globals v.index objects);
        inside = itself (same_itself d.ctype) refl;
        room = omega arith;
      }))
      (λ e. tt)

  member_part_fits : (o : ℕ) (w : Part) → PartFits w → WhereSome PartFits (member_part ls globals o w)
  member_part_fits o w h =
      some_mapped (SubobjectFits ls more rules w.ctype o (member_type (ls ++ more) w.ctype o)) PartFits _ (member_type ls w.ctype o) (member_fits ls more rules w.ctype o) (λ t k.
      record {
        variable = h.variable;
        found = h.found;
        keep = k.keep;
        inside = part_within (ls ++ more) t w.ctype h.variable.ctype w.offset o h.inside (in_member t o 0 k.later (sum o) (itself (same_itself t) refl));
        room = added w.offset o (cells ls t) (cells ls w.ctype) (cells ls h.variable.ctype) k.room h.room;
      })
    where
      sum : (o : ℕ) → o ≡ o + 0
      sum o = omega arith

      added : (a o c w all : ℕ) → o + c ≤ w → a + w ≤ all → (a + o) + c ≤ all
      added a o c w all l m = omega arith

  element_part_fits : (n size : ℕ) (w : Part) → PartFits w → WhereSome PartFits (element_part ls globals n size w)
  element_part_fits n size w h =
      if_holds (WhereSome PartFits) (nat_lt n (element_count w.ctype)) _ None
      (λ e.
      let below : n < element_count w.ctype = ltb-true n (element_count w.ctype) e in
      some_mapped (SubobjectFits ls more rules w.ctype (n * size) (element_type (ls ++ more) w.ctype size)) PartFits _ (element_type ls w.ctype size) (element_fits ls more rules w.ctype h.keep n size below) (λ t k.
      record {
        variable = h.variable;
        found = h.found;
        keep = k.keep;
        inside = part_within (ls ++ more) t w.ctype h.variable.ctype w.offset (n * size) h.inside (in_element t size n 0 k.later below (sum (n * size)) (itself (same_itself t) refl));
        room = added w.offset (n * size) (cells ls t) (cells ls w.ctype) (cells ls h.variable.ctype) k.room h.room;
      }))
      (λ e. tt)
    where
      sum : (o : ℕ) → o ≡ o + 0
      sum o = omega arith

      added : (a o c w all : ℕ) → o + c ≤ w → a + w ≤ all → (a + o) + c ≤ all
      added a o c w all l m = omega arith

  pub part_fits : (x : Place_) → WhereSome PartFits (part_of ls globals x)
  unfolding part_of
  part_fits (Own v) = variable_fits v
  part_fits (Member' b (more_of-Place_ x end_of-Place_) o) = some_then PartFits PartFits (member_part ls globals o) (part_of ls globals x) (part_fits x) (member_part_fits o)
  part_fits (Index' b (more_of-Place_ x end_of-Place_) c (more_of-Expr (Literal k (pos n)) end_of-Expr) size) = some_then PartFits PartFits (element_part ls globals n size) (part_of ls globals x) (part_fits x) (element_part_fits n size)
  part_fits x = tt
