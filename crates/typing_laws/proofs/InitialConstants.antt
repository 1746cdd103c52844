-- What an initialiser of file scope gives a cell is an initial value of it.
use Rattle.std.proofs.Common.{◌≡◌, ℕ, zero, suc, ◌+◌, ◌*◌, ◌<◌, ◌≤◌, Bool, true, false, ◌&&◌, ◌||◌, not, List, [], ◌∷◌, ◌++◌, length, Option, Some, None, refl, sym, ap, subst, ◌∙◌, arith}
use Rattle.std.specs.Prelude.{pos, slice_get, option_and_then, option_map, if◌then◌else◌}
use Rattle.std.specs.List.{AllByRecursion}
use Rattle.std.proofs.lemmas.Bool.{leb-true}
use Rattle.c_lexer.specs.declared.token.Place.{Place}
use Rattle.step_meaning.specs.declared.value.IntKind.{IntKind}
use Rattle.step_meaning.specs.declared.value.IntKind.TheVariants as kind
use Rattle.step_meaning.specs.declared.value.CType.{CType, end_of-CType, more_of-CType}
use Rattle.step_meaning.specs.declared.value.CType.TheVariants as type
use Rattle.step_meaning.specs.declared.value.NameKind.{NameKind}
use Rattle.step_meaning.specs.declared.value.NameKind.TheVariants as names
use Rattle.step_meaning.specs.declared.value.Value.{Value}
use Rattle.step_meaning.specs.declared.value.Value.TheVariants as value
use Rattle.step_meaning.specs.declared.expr.Expr.{Expr}
use Rattle.step_meaning.specs.declared.expr.Expr.TheVariants as e
use Rattle.step_meaning.specs.declared.expr.Place_.{Place_}
use Rattle.step_meaning.specs.declared.expr.Variable.{Variable}
use Rattle.step_meaning.specs.declared.program.Core.{Core}
use Rattle.step_meaning.specs.declared.program.Declared.{Declared as Named}
use Rattle.step_meaning.specs.declared.program.Layout.{Layout}
use Rattle.step_meaning.specs.Types.{same_type, where_true}
use Rattle.step_meaning.specs.TypeRules.{cells, is_scalar, are_layouts, keeps_rules}
use Rattle.step_meaning.specs.Settings.{Setting, variables, variable_type}
use Rattle.step_meaning.specs.Names.{same_kind}
use Rattle.step_meaning.specs.Numbers.{is_in_range}
use Rattle.step_meaning.specs.ExpressionTypes.{type_of, type_of_place, pointer_to, is_register, has_this_type, is_addressed_at, is_taken_by}
use Rattle.step_meaning.specs.InitialValues.{HasPart, itself, in_element, BeginsAt, IsInitialValue, AreInitialValues}
use Rattle.step_meaning.proofs.Ranges.{false_is_not_true, left_of_and, right_of_and}
use Rattle.step_meaning.proofs.SameTypes.{same_itself, same_type_equal, number_same}
use Rattle.step_meaning.proofs.TypedMemory.{WhereSome, get_fits}
use Rattle.core_types.proofs.MemberLaws.{has_cell}
use Rattle.typing_rules.specs.declared.fault.TypeFault.TheVariants.{BadInitialiser}
use Rattle.typing_rules.specs.Checked.{kept}
use Rattle.typing_rules.specs.Syntax.{Expression}
use Rattle.typing_rules.specs.ConstantExpressions.{Part, part_of, is_variable, pointer_at, address_of, initial_value, has_literal_indices, constant}
use Rattle.typing_rules.specs.Initialisers.{zero_value}
use Rattle.typing_laws.specs.SmallTypes.{WhereOk}
use Rattle.typing_laws.proofs.CheckedValues.{kept_holds, if_holds, some_then, some_mapped, where_some}
use Rattle.typing_laws.proofs.TypedOperators.{IsTaken}
use Rattle.typing_laws.proofs.TypedExpressions.{taken_integer}
use Rattle.typing_laws.proofs.FilledCells.{AreCells}
use Rattle.typing_laws.proofs.LaterStructs.{object_complete, get_some}
use Rattle.typing_laws.proofs.LaterTypes.{complete_cells}
use Rattle.typing_laws.proofs.ConstantRanges.{constant_in_range}
use Rattle.typing_laws.proofs.AddressParts.{PartFits, part_fits}

-- in the program with these variables of file scope so far, of which the last has the number i
module _ (q : Core) (s : Setting) (globals later : List Named) (ls more : List Layout) (rules : are_layouts ls ≡ true) (objects : AllByRecursion (λ d. keeps_rules ls d.ctype ≡ true) globals)
    (all_layouts : q.layouts ≡ ls ++ more) (all_globals : q.globals ≡ globals ++ later) (view : s.globals ≡ q.globals) (i : ℕ) (last : length globals ≡ suc i) where
  abbrev Initial : CType → Value → Type 0
  Initial t v = IsInitialValue q i t v

  below : {A : Type 0} (xs : List A) (n : ℕ) (x : A) → slice_get xs n ≡ Some x → n < length xs
  below [] n x e = absurd (no e)
    where
      no : {A : Type 0} {x : A} → None ≡ Some x → ⊥
      no e = cc
  below (y ∷ xs) zero x e = omega arith
  below (y ∷ xs) (suc n) x e = let h : n < length xs = below xs n x e in omega arith

  -- the address of a part at this offset
  part_initial : (index o : ℕ) (d : Named) (t : CType) → slice_get globals index ≡ Some d → keeps_rules ls d.ctype ≡ true → o < cells ls d.ctype → HasPart (ls ++ more) t d.ctype o → Initial (pointer_to t) (value.Pointer (record { kind = names.Global; activation = 0; index = index }) o)
  part_initial index o d t found keep room part = record {
    file_scope = refl;
    no_activation = refl;
    no_later = let h : index < length globals = below globals index d found in omega arith;
    part = subst (λ x. BeginsAt q x o t) (sym (ap (λ ds. slice_get ds index) all_globals ∙ get_some globals later index d found)) (within, subst (λ all. HasPart all t d.ctype o) (sym all_layouts) part);
  }
    where
      within : o < cells q.layouts d.ctype
      within = subst (λ n. o < n) (sym (ap (λ all. cells all d.ctype) all_layouts ∙ ap length (complete_cells ls more (length ls) d.ctype (object_complete ls (length ls) d.ctype keep)))) room

  -- the variable itself, or an array by its name alone
  variable_part : (u t : CType) → keeps_rules ls t ≡ true → is_addressed_at u (Some t) ≡ true → HasPart (ls ++ more) u t 0
  variable_part u (type.Array' b (more_of-CType w end_of-CType) n) k a =
      or_cases (same_type u w) (same_type u (type.Array' b (more_of-CType w end_of-CType) n)) a
      (λ e. in_element w (cells (ls ++ more) w) 0 0 (rw (number_same (cells (ls ++ more) w)) refl) (leb-true 1 n (left_of_and _ _ (right_of_and _ _ k))) (zero_sum (cells (ls ++ more) w)) (itself (turned u w e) refl))
      (λ e. itself (turned u (type.Array' b (more_of-CType w end_of-CType) n) e) refl)
    where
      zero_sum : (c : ℕ) → 0 ≡ 0 * c + 0
      zero_sum c = omega arith

      turned : (u w : CType) → same_type u w ≡ true → same_type w u ≡ true
      turned u w e = subst (λ x. same_type x u ≡ true) (same_type_equal u w e) (same_itself u)

      or_cases : {C : Type 0} (a b : Bool) → (a || b) ≡ true → (a ≡ true → C) → (b ≡ true → C) → C
      or_cases true b e h k = h refl
      or_cases false b e h k = k e
  variable_part u t k a = itself (subst (λ x. same_type x u ≡ true) (same_type_equal u t a) (same_itself u)) refl

  -- ---- addresses

  abbrev AddressInitial : CType → Value → Type 0
  AddressInitial u v = Initial (pointer_to u) v

  global_type : (v : Variable) → v.kind ≡ names.Global → (d : Named) → slice_get globals v.index ≡ Some d → variable_type s v ≡ Some d.ctype
  global_type v k d found =
      ap (λ kind. option_map (λ d. d.ctype) (slice_get (variables s kind) v.index)) k
      ∙ ap (λ ds. option_map (λ d. d.ctype) (slice_get ds v.index)) (view ∙ all_globals) ∙ ap (option_map (λ d. d.ctype)) (get_some globals later v.index d found)

  kind_is_global : (k : NameKind) → same_kind k names.Global ≡ true → k ≡ names.Global
  kind_is_global names.Global e = refl
  kind_is_global _ e = false_is_not_true e

  own_part : (v : Variable) (u : CType) → is_addressed_at u (variable_type s v) ≡ true → v.kind ≡ names.Global → (d : Named) → slice_get globals v.index ≡ Some d → AddressInitial u (value.Pointer (record { kind = names.Global; activation = 0; index = v.index }) 0)
  own_part v u a k d found =
      let keep : keeps_rules ls d.ctype ≡ true = where_some (λ d. keeps_rules ls d.ctype ≡ true) (slice_get globals v.index) d found (get_fits (λ d. keeps_rules ls d.ctype ≡ true) globals v.index objects) in
      part_initial v.index 0 d u found keep (has_cell ls rules d.ctype keep) (variable_part u d.ctype keep (subst (λ o. is_addressed_at u o ≡ true) (global_type v k d found) a))

  always_true : (b : Bool) → (if b then true else true) ≡ true
  always_true true = refl
  always_true false = refl

  own_address : (v : Variable) (u : CType) → is_addressed_at u (variable_type s v) ≡ true → WhereSome (AddressInitial u) (address_of ls globals (e.Own v) u)
  unfolding part_of
  own_address v u a = by (same_kind v.kind names.Global) refl (slice_get globals v.index) refl
    where
      by : (b : Bool) → same_kind v.kind names.Global ≡ b → (o : Option Named) → slice_get globals v.index ≡ o
          → WhereSome (AddressInitial u) (option_and_then (λ q. where_true (if same_type u q.ctype then true else true) (pointer_at ls globals q)) (if b then option_map (λ d. record { index = v.index; offset = 0; ctype = d.ctype }) o else None))
      by false k o found = tt
      by true k None found = tt
      by true k (Some d) found = rw (always_true (same_type u d.ctype)) (own_part v u a (kind_is_global v.kind k) d found)

  part_address : (u : CType) (w : Part) → PartFits globals ls more rules objects w → same_type u w.ctype ≡ true → AddressInitial u (pointer_at ls globals w)
  part_address u w h e =
      let keep : keeps_rules ls h.variable.ctype ≡ true = where_some (λ d. keeps_rules ls d.ctype ≡ true) (slice_get globals w.index) h.variable h.found (get_fits (λ d. keeps_rules ls d.ctype ≡ true) globals w.index objects) in
      let cell : 1 ≤ cells ls w.ctype = has_cell ls rules w.ctype h.keep in
      subst (λ t. AddressInitial t (pointer_at ls globals w)) (sym (same_type_equal u w.ctype e)) (part_initial w.index w.offset h.variable w.ctype h.found keep (within w.offset (cells ls w.ctype) (cells ls h.variable.ctype) cell h.room) h.inside)
    where
      within : (o c all : ℕ) → 1 ≤ c → o + c ≤ all → o < all
      within o c all l m = omega arith

  only_same : (b c : Bool) → c ≡ false → (if b then true else c) ≡ true → b ≡ true
  only_same true c e h = refl
  only_same false c e h = sym e ∙ h

  other_address : (x : Place_) (u : CType) → is_variable ls globals x ≡ false → WhereSome (AddressInitial u) (address_of ls globals x u)
  other_address x u i =
      some_then (PartFits globals ls more rules objects) (AddressInitial u) _ (part_of ls globals x) (part_fits globals ls more rules objects x) (λ w h.
      if_holds (WhereSome (AddressInitial u)) (if same_type u w.ctype then true else is_variable ls globals x) (Some (pointer_at ls globals w)) None (λ e. part_address u w h (only_same (same_type u w.ctype) (is_variable ls globals x) i e)) (λ e. tt))

  address_fits : (x : Place_) (u : CType) → is_addressed_at u (type_of_place q s x) ≡ true → WhereSome (AddressInitial u) (address_of ls globals x u)
  address_fits (e.Own v) u a = own_address v u a
  address_fits x u a = other_address x u refl

  -- ---- cells

  where_true_some : {A : Type 0} (b : Bool) (a c : A) → where_true b a ≡ Some c → (b ≡ true) × (a ≡ c)
  where_true_some true a c h = (refl, same h)
    where
      same : {A : Type 0} {a c : A} → Some a ≡ Some c → a ≡ c
      same e = cc
  where_true_some false a c h = absurd (no h)
    where
      no : {A : Type 0} {c : A} → None ≡ Some c → ⊥
      no e = cc

  pointee_same : (t u : CType) → pointer_to u ≡ pointer_to t → u ≡ t
  pointee_same t u e = same_type_equal u t (subst (λ x. same_type (pointer_to u) x ≡ true) e (same_itself (pointer_to u)))

  taken_address : (t : CType) (x : Place_) (u : CType) → IsTaken q s ls (pointer_to t) (e.Address x u) → type_of q s (e.Address x u) ≡ Some (pointer_to t)
  taken_address t x u h = by (type_of q s (e.Address x u)) h
    where
      by : (o : Option CType) → is_taken_by (pointer_to t) (e.Address x u) o ≡ true → o ≡ Some (pointer_to t)
      by None h = false_is_not_true h
      by (Some w) h = ap Some (sym (same_type_equal (pointer_to t) w (left (has_this_type (pointer_to t) (Some w)) h)))
        where
          left : (b : Bool) → (b || false) ≡ true → b ≡ true
          left true h = refl
          left false h = h

  pointer_initial : (t : CType) (y : Expr) → IsTaken q s ls (pointer_to t) y → WhereSome (Initial (pointer_to t)) (initial_value ls globals (pointer_to t) y)
  unfolding initial_value
  pointer_initial t e.Null h = tt
  pointer_initial t (e.Address x u) h =
      let both : ((not (is_register x) && is_addressed_at u (type_of_place q s x)) ≡ true) × (pointer_to u ≡ pointer_to t) = where_true_some (not (is_register x) && is_addressed_at u (type_of_place q s x)) (pointer_to u) (pointer_to t) (taken_address t x u h) in
      subst (λ t. WhereSome (Initial (pointer_to t)) (address_of ls globals x u)) (pointee_same t u both.1) (address_fits x u (right_of_and (not (is_register x)) (is_addressed_at u (type_of_place q s x)) both.0))
  pointer_initial t y h = tt

  value_initial : (at : Place) (t : CType) (y : Expr) → is_scalar t ≡ true → IsTaken q s ls t y → WhereOk (Initial t) (kept (BadInitialiser at) (initial_value ls globals t y))
  unfolding initial_value
  value_initial at (type.Int k) y i h =
      kept_holds (Initial (type.Int k)) _ (option_map value.Int (constant y)) (some_mapped (λ z. is_in_range k z ≡ true) (Initial (type.Int k)) value.Int (constant y) (constant_in_range q s k y (taken_integer k y (type_of q s y) h)) (λ z r. r))
  value_initial at (type.Pointer' b (more_of-CType t end_of-CType)) y i h = kept_holds (Initial (pointer_to t)) _ (initial_value ls globals (pointer_to t) y) (pointer_initial t y h)
  value_initial at type.Void y i h = false_is_not_true i
  value_initial at (type.Array' b t n) y i h = false_is_not_true i
  value_initial at (type.Struct n) y i h = false_is_not_true i

  no_value : (at : Place) (t : CType) → WhereOk (Initial t) (kept (BadInitialiser at) None)
  unfolding kept
  no_value at t = tt

  pub given_initial : (x : Expression) (at : Place) (t : CType) (y : Expr) → is_scalar t ≡ true → IsTaken q s ls t y → WhereOk (Initial t) (kept (BadInitialiser at) (if has_literal_indices x then initial_value ls globals t y else None))
  given_initial x at t y i h = if_holds (λ o. WhereOk (Initial t) (kept (BadInitialiser at) o)) (has_literal_indices x) (initial_value ls globals t y) None (λ e. value_initial at t y i h) (λ e. no_value at t)

  pub zero_initial : (t : CType) → is_scalar t ≡ true → Initial t (zero_value t)
  zero_initial (type.Int k) i = zero_in_range k
    where
      zero_in_range : (k : IntKind) → is_in_range k (pos 0) ≡ true
      zero_in_range kind.Char = refl
      zero_in_range kind.SChar = refl
      zero_in_range kind.UChar = refl
      zero_in_range kind.Short = refl
      zero_in_range kind.UShort = refl
      zero_in_range kind.Int = refl
      zero_in_range kind.UInt = refl
      zero_in_range kind.Long = refl
      zero_in_range kind.ULong = refl
  zero_initial (type.Pointer' b t) i = tt
  zero_initial type.Void i = false_is_not_true i
  zero_initial (type.Array' b t n) i = false_is_not_true i
  zero_initial (type.Struct n) i = false_is_not_true i

  pub cells_initial : (ts : List CType) (vs : List Value) → AreCells Initial ts vs → AreInitialValues q i ts vs
  cells_initial [] [] h = tt
  cells_initial (t ∷ ts) (v ∷ vs) h = (h.0, cells_initial ts vs h.1)
  cells_initial [] (v ∷ vs) h = absurd h
  cells_initial (t ∷ ts) [] h = absurd h
