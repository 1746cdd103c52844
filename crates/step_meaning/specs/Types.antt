-- Types (C11 6.2.5, 6.7.2.1): when two are the same, and the scalars that an object of a type consists of.
-- Each scalar is one cell. An array has the cells of its elements in order, a struct those of its members in order, without padding.
use Rattle.std.specs.Prelude.{ℕ, zero, suc, Bool, true, false, ◌&&◌, ◌==◌, if◌then◌else◌, List, [], ◌∷◌, ◌++◌, flat_map, slice_get, Option, Some, None}
use Rattle.step_meaning.specs.declared.value.IntKind.{IntKind}
use Rattle.step_meaning.specs.declared.value.IntKind.TheVariants as kind
use Rattle.step_meaning.specs.declared.value.CType.{CType, end_of-CType, more_of-CType}
use Rattle.step_meaning.specs.declared.value.CType.TheVariants.{Void, Int, Pointer', Array', Struct}
use Rattle.step_meaning.specs.declared.program.Layout.{Layout}

-- the integer types are nine different ones, `char` and `signed char` included (C11 6.2.5, 14)
abbrev pub kind_number : IntKind → ℕ
kind_number kind.Char = 0
kind_number kind.SChar = 1
kind_number kind.UChar = 2
kind_number kind.Short = 3
kind_number kind.UShort = 4
kind_number kind.Int = 5
kind_number kind.UInt = 6
kind_number kind.Long = 7
kind_number kind.ULong = 8

abbrev pub same_type : CType → CType → Bool
same_type Void Void = true
same_type (Int k) (Int l) = kind_number k == kind_number l
same_type (Pointer' p (more_of-CType t end_of-CType)) (Pointer' q (more_of-CType u end_of-CType)) = same_type t u
same_type (Array' p (more_of-CType t end_of-CType) n) (Array' q (more_of-CType u end_of-CType) m) = n == m && same_type t u
same_type (Struct n) (Struct m) = n == m
same_type _ _ = false

-- a value where a condition is met, and none elsewhere
abbrev pub where_true : {A : Type 0} → Bool → A → Option A
where_true b a = if b then Some a else None

-- the list n times, end to end
abbrev pub times : {A : Type 0} → ℕ → List A → List A
times zero xs = []
times (suc n) xs = xs ++ times n xs

abbrev pub or_empty : {A : Type 0} → Option (List A) → List A
or_empty None = []
or_empty (Some xs) = xs

-- the scalar types of a type's cells in order, where those of each struct are given. A struct of another number has no cells
abbrev pub cell_types : List (List CType) → CType → List CType
cell_types structs Void = []
cell_types structs (Int k) = Int k ∷ []
cell_types structs (Pointer' p t) = Pointer' p t ∷ []
cell_types structs (Array' p (more_of-CType t end_of-CType) n) = times n (cell_types structs t)
cell_types structs (Struct n) = or_empty (slice_get structs n)

-- the scalar types of each struct, after those of earlier ones, which alone a layout has as members
abbrev pub struct_cells : List (List CType) → List Layout → List (List CType)
struct_cells before [] = before
struct_cells before (l ∷ ls) = struct_cells (before ++ (flat_map (λ d. cell_types before d.ctype) l.members ∷ [])) ls

-- the scalar types of an object of the type, in a program with these layouts
abbrev pub object_cells : List Layout → CType → List CType
object_cells layouts t = cell_types (struct_cells [] layouts) t
