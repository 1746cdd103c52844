-- Small programs with heap blocks, computed: each core is what the text above it stands for. `main` has the pointers p and q as its locals 0 and 1.
use Rattle.std.proofs.Common.{◌≡◌, ℕ, true, false, refl, List, [], ◌∷◌, length, Option, Some, None}
use Rattle.std.specs.Prelude.{pos, slice_get, option_map}
use Rattle.step_meaning.specs.declared.value.IntKind.TheVariants as kind
use Rattle.step_meaning.specs.declared.value.CType.{CType}
use Rattle.step_meaning.specs.declared.value.CType.TheVariants as type
use Rattle.step_meaning.specs.declared.value.NameKind.TheVariants as names
use Rattle.step_meaning.specs.declared.value.Value.{Value}
use Rattle.step_meaning.specs.declared.value.Value.TheVariants as value
use Rattle.step_meaning.specs.declared.value.Cell.TheVariants.{Nothing}
use Rattle.step_meaning.specs.declared.value.Action.TheVariants as act
use Rattle.step_meaning.specs.declared.value.RunFault.TheVariants as fault
use Rattle.step_meaning.specs.declared.expr.CompareOp.TheVariants as comparing
use Rattle.step_meaning.specs.declared.expr.Side.TheVariants.{PointerFirst}
use Rattle.step_meaning.specs.declared.expr.Expr.{Expr, end_of-Expr, more_of-Expr}
use Rattle.step_meaning.specs.declared.expr.Expr.TheVariants as e
use Rattle.step_meaning.specs.declared.expr.Place_.{Place_}
use Rattle.step_meaning.specs.declared.stmt.Stmt.{Stmt, end_of-Stmt, more_of-Stmt}
use Rattle.step_meaning.specs.declared.stmt.Stmt.TheVariants as s
use Rattle.step_meaning.specs.declared.program.Core.{Core}
use Rattle.step_meaning.specs.declared.program.HookPlace.TheVariants as place
use Rattle.step_meaning.specs.declared.predicate.Predicate.TheVariants as is
use Rattle.step_meaning.specs.Memory.{HeapBlock, Slot}
use Rattle.step_meaning.specs.Steps.{Step, Exit, Fault, steps, end}
use Rattle.step_meaning.specs.Runs.{run}
use Rattle.step_meaning.specs.Limits.{CellsFull, Spent, Exited, outcome}
use Rattle.step_meaning.specs.Allocation.{block_for, block_pointer, is_block_size}
use Rattle.step_meaning.specs.Fold.{fold}
use Rattle.step_meaning.proofs.Examples.{int, pointer_to, array_of, declared, lit, global, local, load, deref, assign, convert, compare, return, function, program, step_actions, found}
use Rattle.step_meaning.proofs.ExpressionTypeExamples as typing
use Rattle.step_meaning.proofs.FoldExamples.{safe, hooks, point}
use Rattle.step_meaning.proofs.NormalExamples.{register}
use Rattle.step_meaning.specs.Normal.{is_normal}

-- ---- parts of programs

abbrev char : CType
char = type.Int kind.Char

abbrev int_pointer : CType
int_pointer = pointer_to int

-- `malloc(n * sizeof(T))` with an `int` n, and `malloc(sizeof(T))`
abbrev allocated : ℕ → CType → Expr
allocated n t = e.Malloc' tt (more_of-Expr (convert kind.ULong (lit n)) end_of-Expr) t

abbrev allocated_one : CType → Expr
allocated_one t = e.Malloc' tt (more_of-Expr (e.Literal kind.ULong (pos 1)) end_of-Expr) t

abbrev free : Expr → Stmt
free a = s.Eval (e.Free' tt (more_of-Expr a end_of-Expr))

abbrev p : Expr
p = e.Load (local 0) int_pointer

abbrev q : Expr
q = e.Load (local 1) int_pointer

-- p = E;
abbrev p_takes : Expr → Stmt
p_takes a = s.Eval (assign (local 0) int_pointer a)

abbrev q_takes : Expr → Stmt
q_takes a = s.Eval (assign (local 1) int_pointer a)

-- a[n]
abbrev element : Expr → ℕ → Place_
element a n = deref (e.Move' tt (more_of-Expr a end_of-Expr) tt (more_of-Expr (lit n) end_of-Expr) 1 PointerFirst)

-- int main(void) { int *p; int *q; .. }
abbrev main_of : List Stmt → Core
main_of body = program [] [] (function int (declared int_pointer ∷ declared int_pointer ∷ []) (s.Empty ∷ body) ∷ []) 4

-- ---- int main(void) { int *p = malloc(2 * sizeof(int)); p[0] = 5; free(p); return p[0]; }

abbrev used_after : Core
used_after = main_of (p_takes (allocated 2 int) ∷ s.Eval (assign (element p 0) int (lit 5)) ∷ free p ∷ return (load (element p 0)) ∷ [])

-- p names no live block, so that the address computation faults
used_after_ends : end (run used_after [] 5) ≡ Fault fault.Invalid
used_after_ends = refl

abbrev address_of_p : Value
address_of_p = value.Pointer (record { kind = names.Local; activation = 0; index = 0 }) 0

used_after_steps : step_actions (steps (run used_after [] 5))
    ≡ (act.Enter 4 [] ∷ act.Malloc 2 (block_pointer 0) 2 ∷ act.Write address_of_p (block_pointer 0) ∷ act.Read address_of_p ∷ act.Write (block_pointer 0) (value.Int (pos 5)) ∷ act.Read address_of_p
    ∷ act.Free (block_pointer 0) ∷ act.Read address_of_p ∷ act.Halt fault.Invalid ∷ [])
used_after_steps = refl

-- the memory of the Malloc step lacks the block, that of the Free step has it, and the next one lacks it
abbrev heap_at : ℕ → Option (List HeapBlock)
heap_at i = option_map (λ (s : Step). s.memory.heap) (slice_get (steps (run used_after [] 5)) i)

before_malloc : heap_at 1 ≡ Some []
before_malloc = refl

abbrev unset : Slot
unset = record { declared = int; cell = Nothing }

after_malloc : heap_at 2 ≡ Some (record { number = 0; cells = unset ∷ unset ∷ [] } ∷ [])
after_malloc = refl

at_free : option_map (λ bs. length bs) (heap_at 6) ≡ Some 1
at_free = refl

after_free : heap_at 7 ≡ Some []
after_free = refl

-- ---- int main(void) { int *p = (int *) malloc(sizeof *p); free(p); free(p); return 0; }

abbrev freed_twice : Core
freed_twice = main_of (p_takes (allocated_one int) ∷ free p ∷ free p ∷ return (lit 0) ∷ [])

freed_twice_ends : end (run freed_twice [] 5) ≡ Fault fault.BadFree
freed_twice_ends = refl

freed_twice_steps : step_actions (steps (run freed_twice [] 5))
    ≡ (act.Enter 4 [] ∷ act.Malloc 1 (block_pointer 0) 1 ∷ act.Write address_of_p (block_pointer 0) ∷ act.Read address_of_p ∷ act.Free (block_pointer 0) ∷ act.Read address_of_p ∷ act.Free (block_pointer 0) ∷ act.Halt fault.BadFree ∷ [])
freed_twice_steps = refl

-- ---- char *p; int main(void) { p = malloc(N * sizeof(char)); if (p) return 1; return 0; }

abbrev large : ℕ → Core
large n =
    program (declared (pointer_to char) ∷ []) ((value.Null ∷ []) ∷ [])
    (function int [] (s.Eval (assign (global 0) (pointer_to char) (allocated n char))
    ∷ s.If' (e.Load (global 0) (pointer_to char)) tt (more_of-Stmt (return (lit 1)) end_of-Stmt) tt (more_of-Stmt s.Empty end_of-Stmt)
    ∷ return (lit 0)
    ∷ [])
    ∷ []) 4

-- 65,537 cells are too many for a block
too_large : end (run (large 65537) [] 5) ≡ Exit (pos 0)
too_large = refl

too_large_steps : length (steps (run (large 65537) [] 5)) ≡ 5
too_large_steps = refl

-- a block of no cells is none
no_cells : end (run (large 0) [] 5) ≡ Exit (pos 0)
no_cells = refl

small_enough : end (run (large 3) [] 5) ≡ Exit (pos 1)
small_enough = refl

small_enough_steps : length (steps (run (large 3) [] 5)) ≡ 5
small_enough_steps = refl

greatest_block : is_block_size 65536 ≡ true
greatest_block = refl

-- the cells count, and not the objects: 257 arrays of 256 cells; and a count that isn't taken modulo 2 ^ 32
too_many_objects : block_for [] (array_of int 256) 257 ≡ None
too_many_objects = refl

wide_count : block_for [] char 4294967296 ≡ None
wide_count = refl

-- ---- int main(void) { int *p; while (1) { p = malloc(16 * sizeof(int)); free(p); } return 0; }

abbrev repeating : Stmt → Core
repeating last = main_of (s.While' (lit 1) tt (more_of-Stmt (s.Block' (tt ∷ tt ∷ []) (more_of-Stmt (p_takes (allocated 16 int)) (more_of-Stmt last end_of-Stmt))) end_of-Stmt) ∷ return (lit 0) ∷ [])

-- chunks given back serve again: p, q and one block
given_back : outcome (repeating (free p)) [] 50 3 9 ≡ record { made = 50; end = Spent }
given_back = refl

-- without `free(p);` the third block passes the limit
kept : outcome (repeating s.Empty) [] 50 4 9 ≡ record { made = 8; end = CellsFull }
kept = refl

-- a null pointer takes no chunk
null_is_free : outcome (main_of (p_takes (allocated 65537 int) ∷ return (lit 0) ∷ [])) [] 50 2 9 ≡ record { made = 4; end = Exited (pos 0) }
null_is_free = refl

-- a block that is larger than the limit: 33 cells take three chunks
no_room : outcome (main_of (p_takes (allocated 33 int) ∷ return (lit 0) ∷ [])) [] 50 4 9 ≡ record { made = 1; end = CellsFull }
no_room = refl

room_enough : outcome (main_of (p_takes (allocated 33 int) ∷ return (lit 0) ∷ [])) [] 50 5 9 ≡ record { made = 4; end = Exited (pos 0) }
room_enough = refl

-- ---- what `free` takes

-- int x; .. free(&x);
local_freed : end (run (program [] [] (function int (declared int ∷ []) (s.Empty ∷ free (e.Address (local 0) int) ∷ return (lit 0) ∷ []) ∷ []) 4) [] 5) ≡ Fault fault.BadFree
local_freed = refl

-- p = malloc(2 * sizeof(int)); free(p + 1);
inner_freed : end (run (main_of (p_takes (allocated 2 int) ∷ free (e.Address (element p 1) int) ∷ return (lit 0) ∷ [])) [] 5) ≡ Fault fault.BadFree
inner_freed = refl

-- free(0);
null_freed : end (run (main_of (free e.Null ∷ free e.Null ∷ return (lit 3) ∷ [])) [] 5) ≡ Exit (pos 3)
null_freed = refl

null_freed_steps : length (steps (run (main_of (free e.Null ∷ free e.Null ∷ return (lit 3) ∷ [])) [] 5)) ≡ 4
null_freed_steps = refl

-- p = malloc(2 * sizeof(int)); q = malloc(sizeof(int)); free(p); *q = 6; return *q;
other_block_stays : end (run (main_of (p_takes (allocated 2 int) ∷ q_takes (allocated_one int) ∷ free p ∷ s.Eval (assign (deref q) int (lit 6)) ∷ return (load (deref q)) ∷ [])) [] 5) ≡ Exit (pos 6)
other_block_stays = refl

-- ---- pointers that are kept

-- p = malloc(sizeof(int)); free(p); return *p;
abbrev read_after : Core
read_after = main_of (p_takes (allocated_one int) ∷ free p ∷ return (load (deref p)) ∷ [])

read_after_ends : end (run read_after [] 5) ≡ Fault fault.Invalid
read_after_ends = refl

-- the read is a step, and Halt follows it
read_after_steps : length (steps (run read_after [] 5)) ≡ 8
read_after_steps = refl

-- p = malloc(sizeof(int)); q = p; free(p); return p == q;
abbrev compared : Stmt → Stmt → Core
compared between last = main_of (p_takes (allocated_one int) ∷ q_takes p ∷ free p ∷ between ∷ last ∷ [])

same_block : end (run (compared s.Empty (return (compare comparing.Equal p q))) [] 5) ≡ Exit (pos 1)
same_block = refl

-- p = malloc(sizeof(int)); q = p; free(p); p = malloc(sizeof(int)); return p == q;
names_stay : end (run (compared (p_takes (allocated_one int)) (return (compare comparing.Equal p q))) [] 5) ≡ Exit (pos 0)
names_stay = refl

-- pointers into two blocks have no order
no_order : end (run (compared (p_takes (allocated_one int)) (return (compare comparing.Less p q))) [] 5) ≡ Fault fault.Pointer
no_order = refl

-- p = malloc(2 * sizeof(int)); return p[1];
unset_read : end (run (main_of (p_takes (allocated 2 int) ∷ return (load (element p 1)) ∷ [])) [] 5) ≡ Fault fault.Uninit
unset_read = refl

-- p[2] may be pointed to, and not read; p[3] may not be pointed to
one_past : end (run (main_of (p_takes (allocated 2 int) ∷ return (load (element p 2)) ∷ [])) [] 5) ≡ Fault fault.Invalid
one_past = refl

two_past : end (run (main_of (p_takes (allocated 2 int) ∷ return (load (element p 3)) ∷ [])) [] 5) ≡ Fault fault.Pointer
two_past = refl

-- ---- types

malloc_type : typing.typed (allocated 2 int) ≡ Some int_pointer
malloc_type = refl

struct_block : typing.typed (allocated 2 (type.Struct 0)) ≡ Some (pointer_to (type.Struct 0))
struct_block = refl

-- a count that is an `int`, and blocks of `void`, of arrays and of a struct that isn't there
int_count : typing.typed (e.Malloc' tt (more_of-Expr (lit 2) end_of-Expr) int) ≡ None
int_count = refl

void_block : typing.typed (allocated 2 type.Void) ≡ None
void_block = refl

void_pointer_block : typing.typed (allocated 2 (pointer_to type.Void)) ≡ None
void_pointer_block = refl

array_block : typing.typed (allocated 2 (array_of int 3)) ≡ None
array_block = refl

unknown_block : typing.typed (allocated 2 (type.Struct 7)) ≡ None
unknown_block = refl

free_pointer : typing.typed (e.Free' tt (more_of-Expr (allocated 2 int) end_of-Expr)) ≡ Some type.Void
free_pointer = refl

free_null : typing.typed (e.Free' tt (more_of-Expr e.Null end_of-Expr)) ≡ Some type.Void
free_null = refl

free_integer : typing.typed (e.Free' tt (more_of-Expr (lit 0) end_of-Expr)) ≡ None
free_integer = refl

-- ---- normal form: one call of an operand

malloc_alone : is_normal (s.Eval (e.Malloc' tt (more_of-Expr (load (register 0)) end_of-Expr) int)) ≡ true
malloc_alone = refl

malloc_into_register : is_normal (s.Eval (assign (register 0) int_pointer (allocated_one int))) ≡ true
malloc_into_register = refl

malloc_into_variable : is_normal (p_takes (allocated_one int)) ≡ false
malloc_into_variable = refl

malloc_of_conversion : is_normal (s.Eval (allocated 2 int)) ≡ false
malloc_of_conversion = refl

free_of_register : is_normal (free (e.Load (register 1) int_pointer)) ≡ true
free_of_register = refl

free_of_variable : is_normal (free p) ≡ false
free_of_variable = refl

-- ---- hooks: `malloc` and `free` are called, as the functions 2 and 3

calls_malloc : found (fold freed_twice (hooks [] (point 4 place.Call [] (safe (is.Called 2 true) ∷ []) ∷ [])) (steps (run freed_twice [] 5))) ≡ (true ∷ false ∷ false ∷ [])
calls_malloc = refl

calls_free : found (fold freed_twice (hooks [] (point 4 place.Call [] (safe (is.Called 3 true) ∷ []) ∷ [])) (steps (run freed_twice [] 5))) ≡ (false ∷ true ∷ true ∷ [])
calls_free = refl
