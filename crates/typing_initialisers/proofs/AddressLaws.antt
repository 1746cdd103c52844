-- The addresses of parts of variables of file scope: each part lies within its variable, which has few cells.
use Rattle.std.proofs.Common.{◌≡◌, ℕ, zero, suc, ◌+◌, ◌*◌, ◌≤◌, ◌<◌, ◌^◌, Bool, true, false, cond, ◌==◌, List, [], ◌∷◌, ◌++◌, length, sum_by, Option, Some, None, refl, sym, ap, subst, ◌∙◌, arith, append_assoc, length-append, mul-le-mul_right}
use Rattle.std.specs.Prelude.{ℤ, pos, nat_lt, slice_get, option_map, option_and_then}
use Rattle.std.specs.List.{list_all, AllByRecursion}
use Rattle.std.proofs.lemmas.Bool.{eqb-true, leb-true}
use Rattle.std.proofs.lemmas.List.Concat.{length-flat_map}
use Rattle.std.proofs.lemmas.List.Sums.{sum_by-cons}
use Rattle.step_meaning.specs.declared.value.CType.{CType, end_of-CType, more_of-CType}
use Rattle.step_meaning.specs.declared.value.CType.TheVariants as type
use Rattle.step_meaning.specs.declared.value.NameKind.TheVariants.{Global}
use Rattle.step_meaning.specs.declared.value.Name.{Name}
use Rattle.step_meaning.specs.declared.value.Value.TheVariants as value
use Rattle.step_meaning.specs.declared.expr.Expr.{end_of-Expr, more_of-Expr}
use Rattle.step_meaning.specs.declared.expr.Expr.TheVariants.{Literal, Null, Address, Own, Member', Index'}
use Rattle.step_meaning.specs.declared.expr.Place_.{Place_, end_of-Place_, more_of-Place_}
use Rattle.step_meaning.specs.declared.program.Declared.{Declared}
use Rattle.step_meaning.specs.declared.program.Layout.{Layout}
use Rattle.step_meaning.specs.Names.{same_kind}
use Rattle.step_meaning.specs.Types.{same_type, where_true, object_cells}
use Rattle.step_meaning.specs.TypeRules.{cells, most_cells, member_from, member_type, element_type}
use Rattle.step_meaning.specs.InitialValues.{element_count}
use Rattle.step_meaning.proofs.Ranges.{left_of_and, right_of_and}
use Rattle.step_meaning.proofs.StructCells.{struct_at}
use Rattle.core_types.proofs.SizeLaws.{times_length}
use Rattle.typing_rules.specs.ConstantExpressions.{Part, constant, part_of, member_part, element_part, is_variable, pointer_at, address_of, initial_value}
use Rattle.typing_laws.specs.SmallPrograms.{is_small_object, is_small_struct, are_small_structs}
use Rattle.typing_laws.proofs.LaterTypes.{complete_cells}
use Rattle.typing_initialisers.specs.Initialisers.{AddressesFit}

none_is_not_some : {A B : Type 0} {a : A} → None ≡ Some a → B
none_is_not_some e = absurd (no e)
  where
    no : {A : Type 0} {a : A} → None ≡ Some a → ⊥
    no e = cc

same_some : {A : Type 0} {a b : A} → Some a ≡ Some b → a ≡ b
same_some e = cc

-- ---- the cells of a struct

members_later : (before more : List Layout) (known : ℕ) (ds : List Declared) → list_all (λ d. is_small_object before known d.ctype) ds ≡ true → sum_by (λ d. cells (before ++ more) d.ctype) ds ≡ sum_by (λ d. cells before d.ctype) ds
members_later before more known [] e = refl
members_later before more known (d ∷ ds) e =
    let first : cells (before ++ more) d.ctype ≡ cells before d.ctype = ap length (complete_cells before more known d.ctype (left_of_and _ _ (left_of_and _ _ e))) in
    let rest : sum_by (λ d. cells (before ++ more) d.ctype) ds ≡ sum_by (λ d. cells before d.ctype) ds = members_later before more known ds (right_of_and _ _ e) in
    rw (sum_by-cons (λ d. cells (before ++ more) d.ctype) d ds, sum_by-cons (λ d. cells before d.ctype) d ds, first, rest) refl

-- a struct after these has the cells of its members
at_struct : (before ls : List Layout) → are_small_structs before ls ≡ true → (k : ℕ) (l : Layout) → slice_get ls k ≡ Some l → sum_by (λ d. cells (before ++ ls) d.ctype) l.members ≡ cells (before ++ ls) (type.Struct (length before + k))
at_struct before [] e k l h = none_is_not_some h
at_struct before (m ∷ ls) e zero l h =
    let is : m ≡ l = same_some h in
    let here = left_of_and (is_small_struct before m) (are_small_structs (before ++ m ∷ []) ls) e in
    let members = left_of_and _ _ here in
    ap (λ l. sum_by (λ d. cells (before ++ m ∷ ls) d.ctype) l.members) (sym is)
    ∙ members_later before (m ∷ ls) (suc (length before)) m.members members
    ∙ sym (length-flat_map (λ d. object_cells before d.ctype) m.members)
    ∙ sym (ap length (struct_at before m ls))
    ∙ ap (λ n. cells (before ++ m ∷ ls) (type.Struct n)) (omega arith)
at_struct before (m ∷ ls) e (suc k) l h =
    let rest = right_of_and (is_small_struct before m) (are_small_structs (before ++ m ∷ []) ls) e in
    let all : (before ++ m ∷ []) ++ ls ≡ before ++ m ∷ ls = append_assoc before (m ∷ []) ls in
    let count : length (before ++ m ∷ []) + k ≡ length before + suc k = omega (arith, length-append before (m ∷ [])) in
    subst (λ x. sum_by (λ d. cells x d.ctype) l.members ≡ cells x (type.Struct (length before + suc k))) all
    (at_struct (before ++ m ∷ []) ls rest k l h ∙ ap (λ n. cells ((before ++ m ∷ []) ++ ls) (type.Struct n)) count)

-- ---- parts lie within what they are parts of

-- the member at an offset ends within the members
member_ends : (ls : List Layout) (ds : List Declared) (at o : ℕ) (t : CType) → member_from ls ds at o ≡ Some t → o + cells ls t ≤ at + sum_by (λ d. cells ls d.ctype) ds
member_ends ls [] at o t h = none_is_not_some h
member_ends ls (d ∷ ds) at o t h = by (at == o) refl h (member_ends ls ds (at + cells ls d.ctype) o t)
  where
    by : (b : Bool) → (at == o) ≡ b → cond b (Some d.ctype) (member_from ls ds (at + cells ls d.ctype) o) ≡ Some t
        → (member_from ls ds (at + cells ls d.ctype) o ≡ Some t → o + cells ls t ≤ (at + cells ls d.ctype) + sum_by (λ d. cells ls d.ctype) ds)
        → o + cells ls t ≤ at + sum_by (λ d. cells ls d.ctype) (d ∷ ds)
    by true e h later =
        let here : at ≡ o = eqb-true at o e in
        let size : cells ls d.ctype ≡ cells ls t = ap (cells ls) (same_some h) in
        let sum = sum_by-cons (λ d. cells ls d.ctype) d ds in
        omega arith
    by false e h later =
        let more = later h in
        let sum = sum_by-cons (λ d. cells ls d.ctype) d ds in
        omega arith

module _ (ls : List Layout) (gs : List Declared) (small : are_small_structs [] ls ≡ true) (few : AllByRecursion (λ d. cells ls d.ctype ≤ most_cells) gs) where
  member_within : (t : CType) (o : ℕ) (u : CType) → member_type ls t o ≡ Some u → o + cells ls u ≤ cells ls t
  member_within (type.Struct n) o u h = by (slice_get ls n) refl h
    where
      by : (l : Option Layout) → slice_get ls n ≡ l → option_and_then (λ l. member_from ls l.members 0 o) l ≡ Some u → o + cells ls u ≤ cells ls (type.Struct n)
      by None e h = none_is_not_some h
      by (Some l) e h =
          let ends = member_ends ls l.members 0 o u h in
          let count : length {A = Layout} [] + n ≡ n = omega arith in
          let all : sum_by (λ d. cells ls d.ctype) l.members ≡ cells ls (type.Struct n) = at_struct [] ls small n l e ∙ ap (λ k. cells ls (type.Struct k)) count in
          omega arith
  member_within type.Void o u h = none_is_not_some h
  member_within (type.Int k) o u h = none_is_not_some h
  member_within (type.Pointer' b t) o u h = none_is_not_some h
  member_within (type.Array' b t n) o u h = none_is_not_some h

  element_within : (t : CType) (n size : ℕ) (u : CType) → nat_lt n (element_count t) ≡ true → element_type ls t size ≡ Some u → n * size + cells ls u ≤ cells ls t
  element_within (type.Array' b (more_of-CType t end_of-CType) m) n size u l h = by (size == cells ls t) refl h
    where
      by : (c : Bool) → (size == cells ls t) ≡ c → where_true c t ≡ Some u → n * size + cells ls u ≤ cells ls (type.Array' b (more_of-CType t end_of-CType) m)
      by true e h =
          let same : size ≡ cells ls t = eqb-true size (cells ls t) e in
          let unit : cells ls t ≡ cells ls u = ap (cells ls) (same_some h) in
          let below : suc n ≤ m = leb-true (suc n) m l in
          let count : cells ls (type.Array' b (more_of-CType t end_of-CType) m) ≡ m * cells ls t = times_length m (object_cells ls t) in
          let more : suc n * cells ls t ≤ m * cells ls t = mul-le-mul_right (cells ls t) below in
          let offset : n * size ≡ n * cells ls t = ap (λ s. n * s) same in
          omega arith
      by false e h = none_is_not_some h
  element_within type.Void n size u l h = none_is_not_some h
  element_within (type.Int k) n size u l h = none_is_not_some h
  element_within (type.Pointer' b t) n size u l h = none_is_not_some h
  element_within (type.Struct k) n size u l h = none_is_not_some h

  -- a part ends within the limit
  abbrev Fits : Option Part → Type 0
  Fits None = Unit {0}
  Fits (Some q) = q.offset + cells ls q.ctype ≤ most_cells

  few_at : (ds : List Declared) → AllByRecursion (λ d. cells ls d.ctype ≤ most_cells) ds → (i : ℕ) (index : ℕ) → Fits (option_map (λ d. record { index = index; offset = 0; ctype = d.ctype }) (slice_get ds i))
  few_at [] h i index = tt
  few_at (d ∷ ds) h zero index = let first = h.0 in omega arith
  few_at (d ∷ ds) h (suc i) index = few_at ds h.1 i index

  member_fits : (o : ℕ) (q : Option Part) → Fits q → Fits (option_and_then (member_part ls gs o) q)
  member_fits o None h = tt
  member_fits o (Some q) h = by (member_type ls q.ctype o) refl
    where
      by : (t : Option CType) → member_type ls q.ctype o ≡ t → Fits (option_map (λ t. record { index = q.index; offset = q.offset + o; ctype = t }) t)
      by None e = tt
      by (Some t) e = let inside = member_within q.ctype o t e in omega arith

  element_fits : (n size : ℕ) (q : Option Part) → Fits q → Fits (option_and_then (element_part ls gs n size) q)
  element_fits n size None h = tt
  element_fits n size (Some q) h = by (nat_lt n (element_count q.ctype)) refl (element_type ls q.ctype size) refl
    where
      by : (b : Bool) → nat_lt n (element_count q.ctype) ≡ b → (t : Option CType) → element_type ls q.ctype size ≡ t → Fits (cond b (option_map (λ t. record { index = q.index; offset = q.offset + n * size; ctype = t }) t) None)
      by true l None e = tt
      by true l (Some t) e = let inside = element_within q.ctype n size t l e in omega arith
      by false l t e = tt

  part_fits : (p : Place_) → Fits (part_of ls gs p)
  unfolding part_of
  part_fits (Own v) = by (same_kind v.kind Global)
    where
      by : (b : Bool) → Fits (cond b (option_map (λ d. record { index = v.index; offset = 0; ctype = d.ctype }) (slice_get gs v.index)) None)
      by true = few_at gs few v.index v.index
      by false = tt
  part_fits (Member' b (more_of-Place_ p end_of-Place_) o) = member_fits o (part_of ls gs p) (part_fits p)
  part_fits (Index' b (more_of-Place_ p end_of-Place_) c (more_of-Expr (Literal k (pos n)) end_of-Expr) size) = element_fits n size (part_of ls gs p) (part_fits p)
  part_fits _ = tt

  -- ---- addresses

  offset_of : (n : Name) (o : ℕ) (m : Name) (k : ℕ) → Some (value.Pointer n o) ≡ Some (value.Pointer m k) → o ≡ k
  offset_of n o m k e = cc

  address_fits : (p : Place_) (t : CType) (n : Name) (o : ℕ) → address_of ls gs p t ≡ Some (value.Pointer n o) → o < 2 ^ 32
  address_fits p t n o h = by (part_of ls gs p) (part_fits p) h
    where
      by : (q : Option Part) → Fits q → option_and_then (λ q. where_true (cond (same_type t q.ctype) true (is_variable ls gs p)) (pointer_at ls gs q)) q ≡ Some (value.Pointer n o) → o < 2 ^ 32
      by None f h = none_is_not_some h
      by (Some q) f h = of (cond (same_type t q.ctype) true (is_variable ls gs p)) h
        where
          of : (b : Bool) → where_true b (pointer_at ls gs q) ≡ Some (value.Pointer n o) → o < 2 ^ 32
          of true h = let is : q.offset ≡ o = offset_of _ q.offset n o h in omega arith
          of false h = none_is_not_some h

  null_is_no_pointer : {B : Type 0} (n : Name) (o : ℕ) → Some value.Null ≡ Some (value.Pointer n o) → B
  null_is_no_pointer n o e = absurd (no e)
    where
      no : Some value.Null ≡ Some (value.Pointer n o) → ⊥
      no e = cc

  integer_is_no_pointer : {B : Type 0} (z : Option ℤ) (n : Name) (o : ℕ) → option_map value.Int z ≡ Some (value.Pointer n o) → B
  integer_is_no_pointer None n o e = none_is_not_some e
  integer_is_no_pointer (Some z) n o e = absurd (no e)
    where
      no : Some (value.Int z) ≡ Some (value.Pointer n o) → ⊥
      no e = cc

  pub addresses_fit : AddressesFit ls gs
  unfolding initial_value
  addresses_fit (type.Int k) x n o h = integer_is_no_pointer (constant x) n o h
  addresses_fit type.Void Null n o h = null_is_no_pointer n o h
  addresses_fit type.Void (Address p u) n o h = address_fits p u n o h
  addresses_fit type.Void x n o h = none_is_not_some h
  addresses_fit (type.Pointer' b t) Null n o h = null_is_no_pointer n o h
  addresses_fit (type.Pointer' b t) (Address p u) n o h = address_fits p u n o h
  addresses_fit (type.Pointer' b t) x n o h = none_is_not_some h
  addresses_fit (type.Array' b t m) Null n o h = null_is_no_pointer n o h
  addresses_fit (type.Array' b t m) (Address p u) n o h = address_fits p u n o h
  addresses_fit (type.Array' b t m) x n o h = none_is_not_some h
  addresses_fit (type.Struct m) Null n o h = null_is_no_pointer n o h
  addresses_fit (type.Struct m) (Address p u) n o h = address_fits p u n o h
  addresses_fit (type.Struct m) x n o h = none_is_not_some h
