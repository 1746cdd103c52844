-- Initial values that an initialiser gives, and others that none gives. `HasPart` is taken apart by the cases of its definition.
use Rattle.std.proofs.Common.{◌≡◌, ℕ, zero, ◌+◌, ◌*◌, ◌≤◌, ◌<◌, Bool, true, false, cond, refl, sym, subst, List, [], ◌∷◌, Option, Some, None, lit≤, lit<, arith, ◌⊎◌, inl, inr, ⊎_elim}
use Rattle.std.specs.Prelude.{pos, codes, IsTrue, ◌==◌}
use Rattle.std.proofs.lemmas.Bool.{eqb-true}
use Rattle.step_meaning.specs.declared.value.CType.{CType}
use Rattle.step_meaning.specs.declared.value.NameKind.TheVariants as names
use Rattle.step_meaning.specs.declared.value.Name.{Name}
use Rattle.step_meaning.specs.declared.value.Value.{Value}
use Rattle.step_meaning.specs.declared.value.Value.TheVariants as value
use Rattle.step_meaning.specs.declared.program.Layout.{Layout}
use Rattle.step_meaning.specs.declared.program.Core.{Core}
use Rattle.step_meaning.specs.ExpressionTypes.{pointer_to}
use Rattle.step_meaning.specs.TypeRules.{cells, member_type, element_type}
use Rattle.step_meaning.specs.Types.{same_type}
use Rattle.step_meaning.specs.InitialValues.{HasPart, itself, in_element, in_member, IsAddressConstant, AllInitialised}
use Rattle.step_meaning.specs.WellFormed.{IsWellFormed}
use Rattle.step_meaning.proofs.Examples.{int, array_of}
use Rattle.step_meaning.proofs.WellFormedExamples.{named, node, node_layout, list, adding}

no : false ≡ true → ⊥
no e = cc

none_is_not : {A : Type 0} (a : A) → None ≡ Some a → ⊥
none_is_not a e = cc

local_is_not_global : names.Local ≡ names.Global → ⊥
local_is_not_global e = cc

same : {A : Type 0} (a b : A) → Some a ≡ Some b → a ≡ b
same a b e = cc

-- ---- the program `adding`, with other initial values

abbrev starting : List (List Value) → Core
starting vss = record adding { initial = vss }

abbrev list_start : List Value
list_start = value.Int (pos 5) ∷ value.Pointer list 0 ∷ []

abbrev second : Name
second = record { kind = names.Global; activation = 0; index = 1 }

-- none for the second variable
too_few_variables : IsWellFormed (starting (list_start ∷ [])) → ⊥
too_few_variables w = w.initial.1

-- none for the second cell of the first
too_few_cells : IsWellFormed (starting ((value.Int (pos 5) ∷ []) ∷ (value.Null ∷ []) ∷ [])) → ⊥
too_few_cells w = w.initial.0.1

-- 2147483648 in an `int`
too_great_integer : IsWellFormed (starting ((value.Int (pos 2147483648) ∷ value.Null ∷ []) ∷ (value.Null ∷ []) ∷ [])) → ⊥
too_great_integer w = no w.initial.0.0

-- an integer in a pointer
integer_in_pointer : IsWellFormed (starting (list_start ∷ (value.Int (pos 0) ∷ []) ∷ [])) → ⊥
integer_in_pointer w = w.initial.1.0.0

-- ---- parts

-- a scalar has no part but itself
scalar_part : (layouts : List Layout) (t u : CType) (o : ℕ) → element_type layouts u ≡ (λ size. None) → member_type layouts u ≡ (λ m. None) → HasPart layouts t u o → (o ≡ 0) × IsTrue (same_type u t)
scalar_part layouts t u o e m (itself s z) = (z, s)
scalar_part layouts t u o e m (in_element w size i j f l z p) = absurd (none_is_not w (subst (λ g. g size ≡ Some w) e f))
scalar_part layouts t u o e m (in_member w k j f z p) = absurd (none_is_not w (subst (λ g. g k ≡ Some w) m f))

-- what is found by a test
found_by : {A : Type 0} (b : Bool) (x w : A) (o : Option A) → cond b (Some x) o ≡ Some w → ((b ≡ true) × (x ≡ w)) ⊎ (o ≡ Some w)
found_by true x w o e = inl (refl, same x w e)
found_by false x w o e = inr e

-- the parts of an array are itself and those of its elements
array_part : (layouts : List Layout) (t w : CType) (n o : ℕ) → HasPart layouts t (array_of w n) o
    → ((o ≡ 0) × IsTrue (same_type (array_of w n) t)) ⊎ ((i : ℕ) × (j : ℕ) × (i < n) × (o ≡ i * cells layouts w + j) × HasPart layouts t w j)
array_part layouts t w n o (itself s z) = inl (z, s)
array_part layouts t w n o (in_member v m j f z p) = absurd (none_is_not v f)
array_part layouts t w n o (in_element v size i j f l z p) = inr (by (found_by (size == cells layouts w) w v None f))
  where
    by : ((size == cells layouts w) ≡ true) × (w ≡ v) ⊎ (None ≡ Some v) → (i : ℕ) × (j : ℕ) × (i < n) × (o ≡ i * cells layouts w + j) × HasPart layouts t w j
    by (inl e) = (i, j, l, subst (λ c. o ≡ i * c + j) (eqb-true size (cells layouts w) e.0) z, subst (λ x. HasPart layouts t x j) (sym e.1) p)
    by (inr e) = absurd (none_is_not v e)

-- those of the struct are itself, its integer and its pointer
node_part : (t : CType) (o : ℕ) → HasPart (node_layout ∷ []) t node o → ((o ≡ 0) × IsTrue (same_type node t)) ⊎ (((o ≡ 0) × IsTrue (same_type int t)) ⊎ ((o ≡ 1) × IsTrue (same_type (pointer_to node) t)))
node_part t o (itself s z) = inl (z, s)
node_part t o (in_element w size i j f l z p) = absurd (none_is_not w f)
node_part t o (in_member w m j f z p) = inr (by (found_by (0 == m) int w (cond (1 == m) (Some (pointer_to node)) None) f))
  where
    integer : (0 ≡ m) → HasPart (node_layout ∷ []) t int j → (o ≡ 0) × IsTrue (same_type int t)
    integer a p = let q = scalar_part (node_layout ∷ []) t int j refl refl p in (let k : j ≡ 0 = q.0 in omega arith, q.1)

    pointer : (1 ≡ m) → HasPart (node_layout ∷ []) t (pointer_to node) j → (o ≡ 1) × IsTrue (same_type (pointer_to node) t)
    pointer a p = let q = scalar_part (node_layout ∷ []) t (pointer_to node) j refl refl p in (let k : j ≡ 0 = q.0 in omega arith, q.1)

    then : ((1 == m) ≡ true) × (pointer_to node ≡ w) ⊎ (None ≡ Some w) → (o ≡ 1) × IsTrue (same_type (pointer_to node) t)
    then (inl e) = pointer (eqb-true 1 m e.0) (subst (λ x. HasPart (node_layout ∷ []) t x j) (sym e.1) p)
    then (inr e) = absurd (none_is_not w e)

    by : ((0 == m) ≡ true) × (int ≡ w) ⊎ (cond (1 == m) (Some (pointer_to node)) None ≡ Some w) → ((o ≡ 0) × IsTrue (same_type int t)) ⊎ ((o ≡ 1) × IsTrue (same_type (pointer_to node) t))
    by (inl e) = inl (integer (eqb-true 0 m e.0) (subst (λ x. HasPart (node_layout ∷ []) t x j) (sym e.1) p))
    by (inr e) = inr (then (found_by (1 == m) (pointer_to node) w None e))

-- ---- addresses of parts of the struct

one_is_not_zero : 1 ≡ zero → ⊥
one_is_not_zero e = omega arith

-- int *where = &list.next; which points to no integer
struct_address : IsWellFormed (starting ((value.Int (pos 5) ∷ value.Null ∷ []) ∷ (value.Pointer list 1 ∷ []) ∷ [])) → ⊥
struct_address w = ⊎_elim (λ a. no a.1) (λ r. ⊎_elim (λ a. one_is_not_zero a.0) (λ a. no a.1) r) (node_part int 1 w.initial.1.0.0.part.1)

-- int *where = a pointer past the variable, and one to a local
past_the_variable : IsWellFormed (starting ((value.Int (pos 5) ∷ value.Null ∷ []) ∷ (value.Pointer list 2 ∷ []) ∷ [])) → ⊥
past_the_variable w = below w.initial.1.0.0.part.0
  where
    below : 2 < 2 → ⊥
    below l = omega arith

local_address : IsWellFormed (starting (list_start ∷ (value.Pointer (record { kind = names.Local; activation = 0; index = 0 }) 0 ∷ []) ∷ [])) → ⊥
local_address w = local_is_not_global w.initial.1.0.0.file_scope

-- int *a = &b; int b;
abbrev later_address : Core
later_address = record adding {
  globals = named (codes "a") (pointer_to int) ∷ named (codes "b") int ∷ [];
  initial = (value.Pointer second 0 ∷ []) ∷ (value.Int (pos 0) ∷ []) ∷ [];
}

address_of_later : IsWellFormed later_address → ⊥
address_of_later w = before w.initial.0.0.no_later
  where
    before : 1 ≤ zero → ⊥
    before l = omega arith

-- ---- addresses of parts of an array: int a[2][3]; int *b = &a[1][2]; int (*c)[3] = &a[1]; and &a[1] as the address of an array of two rows

abbrev row : CType
row = array_of int 3

abbrev table : CType
table = array_of row 2

abbrev rows : Value → CType → Core
rows v t = record adding {
  globals = named (codes "a") table ∷ named (codes "b") (pointer_to t) ∷ [];
  initial = (value.Int (pos 0) ∷ value.Int (pos 0) ∷ value.Int (pos 0) ∷ value.Int (pos 0) ∷ value.Int (pos 0) ∷ value.Int (pos 0) ∷ []) ∷ (v ∷ []) ∷ [];
}

-- the address of so many cells from the start of `a` on as a pointer to an object of the type
abbrev Address : ℕ → CType → Type 0
Address o t = IsAddressConstant (rows (value.Pointer list o) t) 1 t list o

abbrev Initialised : Core → Type 0
Initialised q = AllInitialised q 0 q.globals q.initial

abbrev zeros_and : {o : ℕ} {t : CType} → Address o t → Initialised (rows (value.Pointer list o) t)
zeros_and a = ((refl, (refl, (refl, (refl, (refl, (refl, tt)))))), ((a, tt), tt))

element_address : Initialised (rows (value.Pointer list 5) int)
element_address = zeros_and (record { file_scope = refl; no_activation = refl; no_later = lit≤ tt; part = (lit< tt, in_element row 3 1 2 refl (lit< tt) refl (in_element int 1 2 0 refl (lit< tt) refl (itself refl refl))) })

row_address : Initialised (rows (value.Pointer list 3) row)
row_address = zeros_and (record { file_scope = refl; no_activation = refl; no_later = lit≤ tt; part = (lit< tt, in_element row 3 1 0 refl (lit< tt) refl (itself refl refl)) })

within_a_row : Initialised (rows (value.Pointer list 4) row) → ⊥
within_a_row h = ⊎_elim (λ a. no a.1) (λ e. of_row e.0 e.1 e.3 (array_part (node_layout ∷ []) row int 3 e.1 e.4)) (array_part (node_layout ∷ []) row row 2 4 h.1.0.0.part.1)
  where
    of_row : (i j : ℕ) → 4 ≡ i * 3 + j → ((j ≡ 0) × IsTrue (same_type row row)) ⊎ ((k : ℕ) × (l : ℕ) × (k < 3) × (j ≡ k * 1 + l) × HasPart (node_layout ∷ []) row int l) → ⊥
    of_row i j e (inl a) = let z : j ≡ 0 = a.0 in omega arith
    of_row i j e (inr a) = no (scalar_part (node_layout ∷ []) row int a.1 refl refl a.4).1

past_the_rows : Initialised (rows (value.Pointer list 6) int) → ⊥
past_the_rows h = below h.1.0.0.part.0
  where
    below : 6 < 6 → ⊥
    below l = omega arith

rows_address : Initialised (rows (value.Pointer list 3) table) → ⊥
rows_address h = ⊎_elim (λ a. no_offset a.0) (λ e. ⊎_elim (λ a. no a.1) (λ a. no (scalar_part (node_layout ∷ []) table int a.1 refl refl a.4).1) (array_part (node_layout ∷ []) table int 3 e.1 e.4)) (array_part (node_layout ∷ []) table row 2 3 h.1.0.0.part.1)
  where
    no_offset : 3 ≡ zero → ⊥
    no_offset e = omega arith
