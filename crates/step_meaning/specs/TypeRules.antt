-- Rules on types (C11 6.2.5, 6.7.2.1, 6.7.6.1, 6.7.6.2), with the limit of 65,536 cells on an array and on a struct; and the types of members and elements.
-- A type is judged where the structs of `layouts` are complete, and those with numbers below `declared` may stand behind a pointer: in the definition of a struct, that struct besides.
use Rattle.std.specs.Prelude.{ℕ, suc, ◌+◌, Bool, true, false, ◌&&◌, ◌==◌, nat_lt, nat_le, if◌then◌else◌, List, [], ◌∷◌, ◌++◌, length, sum_by, slice_get, Option, Some, None, option_and_then}
use Rattle.std.specs.List.{list_all}
use Rattle.step_meaning.specs.declared.value.CType.{CType, end_of-CType, more_of-CType}
use Rattle.step_meaning.specs.declared.value.CType.TheVariants.{Void, Int, Pointer', Array', Struct}
use Rattle.step_meaning.specs.declared.program.Layout.{Layout}
use Rattle.step_meaning.specs.declared.program.Declared.{Declared}
use Rattle.step_meaning.specs.Types.{where_true, object_cells}

-- the cells of an object of the type
abbrev pub cells : List Layout → CType → ℕ
cells layouts t = length (object_cells layouts t)

abbrev pub most_cells : ℕ
most_cells = 65536

-- the integer and the pointer types (C11 6.2.5, 21)
abbrev pub is_scalar : CType → Bool
is_scalar (Int k) = true
is_scalar (Pointer' b t) = true
is_scalar _ = false

-- ---- types of objects

module _ (layouts : List Layout) (declared : ℕ) where
  -- the type of a variable or member: complete, with arrays of one element or more of a complete type, and within the limit.
  -- What a pointer points to has such a type too, or is the struct whose definition this stands in. `void` is no such type, behind a pointer neither
  abbrev pub is_object_type : CType → Bool
  is_object_type Void = false
  is_object_type (Int k) = true
  is_object_type (Pointer' b (more_of-CType (Struct n) end_of-CType)) = nat_lt n declared
  is_object_type (Pointer' b (more_of-CType t end_of-CType)) = is_object_type t
  is_object_type (Array' b (more_of-CType t end_of-CType) n) = is_object_type t && (nat_le 1 n && nat_le (cells layouts (Array' b (more_of-CType t end_of-CType) n)) most_cells)
  is_object_type (Struct n) = nat_lt n (length layouts)

-- ---- structs

-- a struct after these: it has a member, its members name earlier structs or, behind a pointer, the struct itself, and it keeps the limit (C11 6.7.2.1, 3 and 8)
abbrev pub is_layout_after : List Layout → Layout → Bool
is_layout_after before l =
    nat_le 1 (length l.members)
    && (list_all (λ d. is_object_type before (suc (length before)) d.ctype) l.members
    && nat_le (sum_by (λ d. cells before d.ctype) l.members) most_cells)

abbrev pub are_layouts_after : List Layout → List Layout → Bool
are_layouts_after before [] = true
are_layouts_after before (l ∷ ls) = is_layout_after before l && are_layouts_after (before ++ (l ∷ [])) ls

-- the structs of a program, each after those before it
abbrev pub are_layouts : List Layout → Bool
are_layouts ls = are_layouts_after [] ls

-- ---- types in a program with these structs

-- the type of a variable
abbrev pub keeps_rules : List Layout → CType → Bool
keeps_rules layouts t = is_object_type layouts (length layouts) t

-- an integer or a pointer
abbrev pub is_scalar_type : List Layout → CType → Bool
is_scalar_type layouts t = is_scalar t && keeps_rules layouts t

-- what a type name spells: an integer type or a struct, and pointers to it (C11 6.7.7 without arrays and functions)
abbrev pub is_spelled : CType → Bool
is_spelled (Int k) = true
is_spelled (Struct n) = true
is_spelled (Pointer' b (more_of-CType t end_of-CType)) = is_spelled t
is_spelled _ = false

-- the type of a function's result: `void`, or an integer or pointer type that a type name spells (C11 6.9.1, 3)
abbrev pub is_result_type : List Layout → CType → Bool
is_result_type layouts Void = true
is_result_type layouts t = is_scalar_type layouts t && is_spelled t

-- ---- parts of objects

-- the type of the member at this offset, where the first of these stands at offset `at`
abbrev pub member_from : List Layout → List Declared → ℕ → ℕ → Option CType
member_from layouts [] at offset = None
member_from layouts (d ∷ ds) at offset = if at == offset then Some d.ctype else member_from layouts ds (at + cells layouts d.ctype) offset

-- the type of the member of a struct at this offset (C11 6.5.2.3)
abbrev pub member_type : List Layout → CType → ℕ → Option CType
member_type layouts (Struct n) offset = option_and_then (λ l. member_from layouts l.members 0 offset) (slice_get layouts n)
member_type layouts _ offset = None

-- the type of the elements of an array, each of so many cells (C11 6.5.2.1)
abbrev pub element_type : List Layout → CType → ℕ → Option CType
element_type layouts (Array' b (more_of-CType t end_of-CType) n) size = where_true (size == cells layouts t) t
element_type layouts _ size = None
