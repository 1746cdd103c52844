-- Sizes that are counted up to 2^32 - 1 change neither whether a type is complete nor whether it is within the limit, and no type that is both.
use Rattle.std.proofs.Common.{◌≡◌, ℕ, zero, suc, ◌*◌, ◌≤◌, ◌<◌, min, Bool, true, false, ◌&&◌, List, [], ◌∷◌, map, length, ◌⊎◌, inl, inr, refl, sym, ap, ◌∙◌, arith, mul-le-mul_left}
use Rattle.std.specs.Prelude.{nat_le}
use Rattle.std.specs.List.{AllByRecursion}
use Rattle.std.proofs.lemmas.Bool.{leb-true, le-leb}
use Rattle.step_meaning.specs.declared.value.CType.{CType, end_of-CType, more_of-CType}
use Rattle.step_meaning.specs.declared.value.CType.TheVariants.{Void, Int, Struct, Pointer', Array'}
use Rattle.step_meaning.specs.declared.program.Layout.{Layout}
use Rattle.step_meaning.specs.Types.{object_cells}
use Rattle.step_meaning.specs.TypeRules.{cells, most_cells}
use Rattle.core_types.proofs.SizeLaws.{times_length}
use Rattle.typing_rules.specs.Declarations as rules
use Rattle.typing_rules.specs.Declarations.{is_complete, is_within_limit, layered, array_of}
use Rattle.typing_declarators.specs.Layers.{most_elements, counted}
use Rattle.typing_declarators.specs.Types.{behind_pointer, around, is_specified, HasElements, StructsHaveCells}

-- ---- tests

and_false : (a : Bool) → (a && false) ≡ false
and_false true = refl
and_false false = refl

false_is_not_true : false ≡ true → ⊥
false_is_not_true e = cc

left_true : (a b : Bool) → (a && b) ≡ true → a ≡ true
left_true true b e = refl
left_true false b e = e

right_true : (a b : Bool) → (a && b) ≡ true → b ≡ true
right_true true b e = e
right_true false b e = absurd (false_is_not_true e)

-- ---- layers

pub layered_around : (l : rules.Layer) (ls : List rules.Layer) (t : CType) → layered (l ∷ ls) t ≡ around l (layered ls t)
unfolding layered
layered_around rules.Pointing ls t = refl
layered_around (rules.Sized n) ls t = refl

array_cells : (ls : List Layout) (t : CType) (n : ℕ) → cells ls (array_of t n) ≡ n * cells ls t
array_cells ls t n = times_length n (object_cells ls t)

-- ---- whether a type is complete

module _ (c k : ℕ) where
  complete_pointer : (t : CType) → is_complete c k (around rules.Pointing t) ≡ behind_pointer k (is_complete c k t) t
  unfolding is_complete
  complete_pointer Void = refl
  complete_pointer (Int i) = refl
  complete_pointer (Pointer' b (more_of-CType t end_of-CType)) = refl
  complete_pointer (Array' b (more_of-CType t end_of-CType) n) = refl
  complete_pointer (Struct n) = refl

  complete_array : (n : ℕ) (t : CType) → is_complete c k (around (rules.Sized n) t) ≡ is_complete c k t
  unfolding is_complete
  complete_array n t = refl

  -- behind a pointer it counts alone whether the type is a struct
  behind_counted : (b : Bool) (ls : List rules.Layer) (base : CType) → behind_pointer k b (layered (map counted ls) base) ≡ behind_pointer k b (layered ls base)
  unfolding layered
  behind_counted b [] base = refl
  behind_counted b (rules.Pointing ∷ ls) base = refl
  behind_counted b (rules.Sized n ∷ ls) base = refl

  pub counted_complete : (ls : List rules.Layer) (base : CType) → is_complete c k (layered (map counted ls) base) ≡ is_complete c k (layered ls base)
  counted_complete [] base = refl
  counted_complete (rules.Pointing ∷ ls) base =
      ap (is_complete c k) (layered_around rules.Pointing (map counted ls) base) ∙ complete_pointer (layered (map counted ls) base)
      ∙ ap (λ b. behind_pointer k b (layered (map counted ls) base)) (counted_complete ls base)
      ∙ behind_counted (is_complete c k (layered ls base)) ls base
      ∙ sym (ap (is_complete c k) (layered_around rules.Pointing ls base) ∙ complete_pointer (layered ls base))
  counted_complete (rules.Sized n ∷ ls) base =
      ap (is_complete c k) (layered_around (rules.Sized (min n most_elements)) (map counted ls) base) ∙ complete_array (min n most_elements) (layered (map counted ls) base)
      ∙ counted_complete ls base
      ∙ sym (ap (is_complete c k) (layered_around (rules.Sized n) ls base) ∙ complete_array n (layered ls base))

-- ---- whether a type is within the limit

module _ (layouts : List Layout) where
  limit_pointer : (t : CType) → is_within_limit layouts (around rules.Pointing t) ≡ is_within_limit layouts t
  unfolding is_within_limit
  limit_pointer t = refl

  limit_array : (n : ℕ) (t : CType) → is_within_limit layouts (around (rules.Sized n) t) ≡ (is_within_limit layouts t && nat_le (cells layouts (array_of t n)) most_cells)
  unfolding is_within_limit
  limit_array n t = refl

  -- a product that is within the limit has a first factor that is counted right, unless the second one is 0
  counted_product : (n c : ℕ) → n * c ≤ most_cells → min n most_elements * c ≡ n * c
  counted_product n zero h = omega arith
  counted_product n (suc c) h =
      let small : n ≤ most_cells = omega arith in
      let same : min n most_elements ≡ n = omega arith in
      ap (λ m. m * suc c) same

  above_limit : (n c : ℕ) → most_cells < n * c → most_cells < min n most_elements * c
  above_limit n zero h = absurd (omega arith)
  above_limit n (suc c) h = by (nat_le n most_elements) refl
    where
      by : (b : Bool) → nat_le n most_elements ≡ b → most_cells < min n most_elements * suc c
      by true e =
          let small : n ≤ most_elements = leb-true n most_elements e in
          let same : min n most_elements ≡ n = omega arith in
          let same_product = ap (λ m. m * suc c) same in
          omega arith
      by false e =
          let large : most_elements < n = grind (arith, le-leb) in
          let same : min n most_elements ≡ most_elements = omega arith in
          let same_product = ap (λ m. m * suc c) same in
          omega arith

  same_limit : (n c : ℕ) → nat_le (min n most_elements * c) most_cells ≡ nat_le (n * c) most_cells
  same_limit n c = by (nat_le (n * c) most_cells) refl
    where
      by : (b : Bool) → nat_le (n * c) most_cells ≡ b → nat_le (min n most_elements * c) most_cells ≡ b
      by true e = ap (λ m. nat_le m most_cells) (counted_product n c (leb-true (n * c) most_cells e)) ∙ e
      by false e =
          let large : most_cells < n * c = grind (arith, le-leb) in
          let still = above_limit n c large in
          grind (arith, leb-true)

  -- a type within the limit has the same cells where its sizes are counted
  pub counted_cells : (ls : List rules.Layer) (base : CType) → is_within_limit layouts (layered ls base) ≡ true → cells layouts (layered (map counted ls) base) ≡ cells layouts (layered ls base)
  counted_cells [] base h = refl
  counted_cells (rules.Pointing ∷ ls) base h =
      ap (cells layouts) (layered_around rules.Pointing (map counted ls) base) ∙ sym (ap (cells layouts) (layered_around rules.Pointing ls base))
  counted_cells (rules.Sized n ∷ ls) base h =
      let t = layered ls base in
      let parts = sym (ap (is_within_limit layouts) (layered_around (rules.Sized n) ls base) ∙ limit_array n t) ∙ h in
      let inner = counted_cells ls base (left_true (is_within_limit layouts t) (nat_le (cells layouts (array_of t n)) most_cells) parts) in
      let small : n * cells layouts t ≤ most_cells = leb-true (n * cells layouts t) most_cells (ap (λ m. nat_le m most_cells) (sym (array_cells layouts t n)) ∙ right_true (is_within_limit layouts t) (nat_le (cells layouts (array_of t n)) most_cells) parts) in
      ap (cells layouts) (layered_around (rules.Sized (min n most_elements)) (map counted ls) base)
      ∙ array_cells layouts (layered (map counted ls) base) (min n most_elements)
      ∙ ap (λ c. min n most_elements * c) inner
      ∙ counted_product n (cells layouts t) small
      ∙ sym (ap (cells layouts) (layered_around (rules.Sized n) ls base) ∙ array_cells layouts t n)

  pub counted_limit : (ls : List rules.Layer) (base : CType) → is_within_limit layouts (layered (map counted ls) base) ≡ is_within_limit layouts (layered ls base)
  counted_limit [] base = refl
  counted_limit (rules.Pointing ∷ ls) base =
      ap (is_within_limit layouts) (layered_around rules.Pointing (map counted ls) base) ∙ limit_pointer (layered (map counted ls) base)
      ∙ counted_limit ls base
      ∙ sym (ap (is_within_limit layouts) (layered_around rules.Pointing ls base) ∙ limit_pointer (layered ls base))
  counted_limit (rules.Sized n ∷ ls) base =
      ap (is_within_limit layouts) (layered_around (rules.Sized (min n most_elements)) (map counted ls) base) ∙ limit_array (min n most_elements) (layered (map counted ls) base)
      ∙ by (counted_limit ls base) (is_within_limit layouts (layered ls base)) refl
      ∙ sym (ap (is_within_limit layouts) (layered_around (rules.Sized n) ls base) ∙ limit_array n (layered ls base))
    where
      by : is_within_limit layouts (layered (map counted ls) base) ≡ is_within_limit layouts (layered ls base) → (b : Bool) → is_within_limit layouts (layered ls base) ≡ b
          → (is_within_limit layouts (layered (map counted ls) base) && nat_le (cells layouts (array_of (layered (map counted ls) base) (min n most_elements))) most_cells)
          ≡ (is_within_limit layouts (layered ls base) && nat_le (cells layouts (array_of (layered ls base) n)) most_cells)
      by inner true e =
          ap (λ b. b && nat_le (cells layouts (array_of (layered (map counted ls) base) (min n most_elements))) most_cells) inner
          ∙ ap (λ m. is_within_limit layouts (layered ls base) && nat_le m most_cells) (array_cells layouts (layered (map counted ls) base) (min n most_elements) ∙ ap (λ c. min n most_elements * c) (counted_cells ls base e))
          ∙ ap (λ b. is_within_limit layouts (layered ls base) && b) (same_limit n (cells layouts (layered ls base)) ∙ ap (λ m. nat_le m most_cells) (sym (array_cells layouts (layered ls base) n)))
      by inner false e =
          ap (λ b. b && nat_le (cells layouts (array_of (layered (map counted ls) base) (min n most_elements))) most_cells) (inner ∙ e)
          ∙ ap (λ b. b && nat_le (cells layouts (array_of (layered ls base) n)) most_cells) (sym e)

  -- ---- a complete type within the limit

  -- a complete type has a cell, where each complete struct and each array has one
  complete_has_cell : StructsHaveCells layouts → (k : ℕ) (ls : List rules.Layer) (base : CType) → AllByRecursion HasElements ls → is_specified base ≡ true → is_complete (length layouts) k (layered ls base) ≡ true → 1 ≤ cells layouts (layered ls base)
  unfolding layered is_complete
  complete_has_cell h k [] Void p e c = absurd (false_is_not_true c)
  complete_has_cell h k [] (Int i) p e c = omega arith
  complete_has_cell h k [] (Struct n) p e c = h n (leb-true (suc n) (length layouts) c)
  complete_has_cell h k [] (Pointer' b t) p e c = absurd (false_is_not_true e)
  complete_has_cell h k [] (Array' b t n) p e c = absurd (false_is_not_true e)
  complete_has_cell h k (rules.Pointing ∷ ls) base p e c = omega arith
  complete_has_cell h k (rules.Sized n ∷ ls) base p e c =
      let inner = complete_has_cell h k ls base p.1 e c in
      let more : n * 1 ≤ n * cells layouts (layered ls base) = mul-le-mul_left n inner in
      let some : 1 ≤ n = p.0 in
      let count = array_cells layouts (layered ls base) n in
      omega arith

  behind_complete : (c k : ℕ) (ls : List rules.Layer) (base : CType) → is_complete c k (layered (rules.Pointing ∷ ls) base) ≡ true → (ls ≡ []) ⊎ (is_complete c k (layered ls base) ≡ true)
  unfolding layered is_complete
  behind_complete c k [] base e = inl refl
  behind_complete c k (rules.Pointing ∷ ls) base e = inr e
  behind_complete c k (rules.Sized n ∷ ls) base e = inr e

  array_complete : (c k n : ℕ) (ls : List rules.Layer) (base : CType) → is_complete c k (layered (rules.Sized n ∷ ls) base) ≡ true → is_complete c k (layered ls base) ≡ true
  unfolding layered is_complete
  array_complete c k n ls base e = e

  behind_limit : (ls : List rules.Layer) (base : CType) → is_within_limit layouts (layered (rules.Pointing ∷ ls) base) ≡ true → is_within_limit layouts (layered ls base) ≡ true
  unfolding layered is_within_limit
  behind_limit ls base e = e

  -- sizes of a complete type within the limit are counted right
  pub counted_same : StructsHaveCells layouts → (k : ℕ) (ls : List rules.Layer) (base : CType) → AllByRecursion HasElements ls → is_specified base ≡ true → is_complete (length layouts) k (layered ls base) ≡ true → is_within_limit layouts (layered ls base) ≡ true → map counted ls ≡ ls
  counted_same h k [] base p e c w = refl
  counted_same h k (rules.Pointing ∷ ls) base p e c w =
      ap (λ ls. rules.Pointing ∷ ls) (elim (behind_complete (length layouts) k ls base c) [
        | inl none ↦ ap (map counted) none ∙ sym none
        | inr inner ↦ counted_same h k ls base p.1 e inner (behind_limit ls base w)
      ])
  counted_same h k (rules.Sized n ∷ ls) base p e c w =
      let t = layered ls base in
      let inner = array_complete (length layouts) k n ls base c in
      let parts = sym (ap (is_within_limit layouts) (layered_around (rules.Sized n) ls base) ∙ limit_array n t) ∙ w in
      let cell = complete_has_cell h k ls base p.1 e inner in
      let small : n * cells layouts t ≤ most_cells = leb-true (n * cells layouts t) most_cells (ap (λ m. nat_le m most_cells) (sym (array_cells layouts t n)) ∙ right_true (is_within_limit layouts t) (nat_le (cells layouts (array_of t n)) most_cells) parts) in
      let more : n * 1 ≤ n * cells layouts t = mul-le-mul_left n cell in
      let same : min n most_elements ≡ n = omega arith in
      ap (λ m. rules.Sized m ∷ map counted ls) same
      ∙ ap (λ ls. rules.Sized n ∷ ls) (counted_same h k ls base p.1 e inner (left_true (is_within_limit layouts t) (nat_le (cells layouts (array_of t n)) most_cells) parts))
