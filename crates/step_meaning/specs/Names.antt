-- Names of variables and heap blocks, and scalar values: truth (C11 6.8.4.1), pointer arithmetic (C11 6.5.6) and comparison (C11 6.5.8, 6.5.9).
-- A pointer is the name of a variable or heap block with an offset that counts cells, or null. Names don't come back, so a pointer to one whose lifetime has ended names none.
use Rattle.std.specs.Prelude.{ℕ, zero, Bool, true, false, ◌&&◌, cond, if◌then◌else◌, nat_le, ◌==◌, ℤ, pos, negsuc, ◌+ℤ◌, ◌-ℤ◌, int_div, int_rem, Option, Some, None, Ok, Err}
use Rattle.step_meaning.specs.declared.value.NameKind.{NameKind}
use Rattle.step_meaning.specs.declared.value.NameKind.TheVariants as names
use Rattle.step_meaning.specs.declared.value.Name.{Name}
use Rattle.step_meaning.specs.declared.value.Value.{Value}
use Rattle.step_meaning.specs.declared.value.Value.TheVariants.{Int, Null, Pointer}
use Rattle.step_meaning.specs.declared.value.RunFault.TheVariants as fault
use Rattle.step_meaning.specs.declared.expr.CompareOp.{CompareOp}
use Rattle.step_meaning.specs.declared.expr.CompareOp.TheVariants as comparing
use Rattle.step_meaning.specs.declared.expr.Variable.{Variable}
use Rattle.step_meaning.specs.Numbers.{Checked, compared_integers, is_zero}

-- ---- names

abbrev pub same_kind : NameKind → NameKind → Bool
same_kind names.Global names.Global = true
same_kind names.Local names.Local = true
same_kind names.Heap names.Heap = true
same_kind names.Register names.Register = true
same_kind names.GhostGlobal names.GhostGlobal = true
same_kind names.GhostLocal names.GhostLocal = true
same_kind _ _ = false

-- a variable that is declared `register`
abbrev pub is_register_variable : Variable → Bool
is_register_variable v = same_kind v.kind names.Register

abbrev pub same_name : Name → Name → Bool
same_name n m = same_kind n.kind m.kind && (n.activation == m.activation && n.index == m.index)

-- variables of file scope have one name in a whole run
abbrev pub has_file_scope : NameKind → Bool
has_file_scope names.Global = true
has_file_scope names.GhostGlobal = true
has_file_scope _ = false

-- the name of a variable of the text in the activation with this number
abbrev pub name_in : ℕ → Variable → Name
name_in activation v = record { kind = v.kind; activation = cond (has_file_scope v.kind) 0 activation; index = v.index }

-- the heap block with this number
abbrev pub heap_name : ℕ → Name
heap_name b = record { kind = names.Heap; activation = b; index = 0 }

-- ---- values

-- a condition holds of an integer other than 0 and of a pointer to a variable
abbrev pub truth : Value → Bool
truth (Int (pos zero)) = false
truth (Int _) = true
truth Null = false
truth (Pointer n o) = true

abbrev pub of_truth : Bool → Value
of_truth true = Int (pos 1)
of_truth false = Int (pos 0)

-- the integer of a value that is one. Typed programs ask it of integers alone
abbrev pub integer : Value → ℤ
integer (Int z) = z
integer Null = pos 0
integer (Pointer n o) = pos 0

abbrev pub IsNoInteger : Value → Type 0
IsNoInteger (Int z) = ⊥
IsNoInteger _ = Unit {0}

-- ---- pointer arithmetic (C11 6.5.6, 8 and 9)

-- the pointer to an offset of a variable with so many cells, or of one that isn't live: one past the end is allowed
abbrev pub within : Name → Option ℕ → ℤ → Checked Value
within n None o = Err fault.Invalid
within n (Some room) (negsuc o) = Err fault.Pointer
within n (Some room) (pos o) = if nat_le o room then Ok (Pointer n o) else Err fault.Pointer

-- a pointer moved by a number of cells. `room` is the number of cells of the variable that it names, and none where that isn't live
abbrev pub moved : Value → Option ℕ → ℤ → Checked Value
moved (Pointer n o) room by = within n room (pos o +ℤ by)
moved Null room (pos zero) = Ok Null
moved Null room _ = Err fault.Pointer
moved (Int z) room by = Err fault.Pointer

-- a difference in cells as a number of elements of so many cells
abbrev pub in_units : ℤ → ℕ → Checked ℤ
in_units d unit = if is_zero (int_rem d (pos unit)) then Ok (int_div d (pos unit)) else Err fault.Pointer

-- the difference of two pointers into one variable, or of null and null
abbrev pub distance : Value → Value → ℕ → Checked ℤ
distance (Pointer n o) (Pointer m i) unit = if same_name n m then in_units (pos o -ℤ pos i) unit else Err fault.Pointer
distance Null Null unit = Ok (pos 0)
distance _ _ unit = Err fault.Pointer

-- ---- comparison

-- two values that are neither integers, nor null both, nor pointers into one variable: they are unequal and have no order
abbrev pub unrelated : CompareOp → Checked Bool
unrelated comparing.Equal = Ok false
unrelated comparing.Unequal = Ok true
unrelated _ = Err fault.Pointer

abbrev pub compared : CompareOp → Value → Value → Checked Bool
compared c (Int a) (Int b) = Ok (compared_integers c a b)
compared c Null Null = Ok (compared_integers c (pos 0) (pos 0))
compared c (Pointer n o) (Pointer m i) = if same_name n m then Ok (compared_integers c (pos o) (pos i)) else unrelated c
compared c _ _ = unrelated c
