-- Small programs at the edges of what `malloc` and `free` say, computed: each core is what the text above it stands for. `main` has the pointers p and q as its locals 0 and 1.
use Rattle.std.proofs.Common.{◌≡◌, ℕ, Bool, true, false, refl, List, [], ◌∷◌, map, Option, Some, None}
use Rattle.std.specs.Prelude.{pos, slice_get, option_map, is_some}
use Rattle.step_meaning.specs.declared.value.IntKind.TheVariants as kind
use Rattle.step_meaning.specs.declared.value.CType.{CType}
use Rattle.step_meaning.specs.declared.value.CType.TheVariants as type
use Rattle.step_meaning.specs.declared.value.NameKind.TheVariants as names
use Rattle.step_meaning.specs.declared.value.Value.{Value}
use Rattle.step_meaning.specs.declared.value.Value.TheVariants as value
use Rattle.step_meaning.specs.declared.value.Action.{Action}
use Rattle.step_meaning.specs.declared.value.Action.TheVariants as act
use Rattle.step_meaning.specs.declared.value.RunFault.TheVariants as fault
use Rattle.step_meaning.specs.declared.expr.UnaryOp.TheVariants as op
use Rattle.step_meaning.specs.declared.expr.CompareOp.TheVariants as comparing
use Rattle.step_meaning.specs.declared.expr.Side.TheVariants.{PointerFirst}
use Rattle.step_meaning.specs.declared.expr.Expr.{Expr, end_of-Expr, more_of-Expr}
use Rattle.step_meaning.specs.declared.expr.Expr.TheVariants as e
use Rattle.step_meaning.specs.declared.expr.Place_.{Place_, end_of-Place_, more_of-Place_}
use Rattle.step_meaning.specs.declared.expr.Place_.TheVariants as place_
use Rattle.step_meaning.specs.declared.stmt.Stmt.{Stmt, end_of-Stmt, more_of-Stmt}
use Rattle.step_meaning.specs.declared.stmt.Stmt.TheVariants as s
use Rattle.step_meaning.specs.declared.program.Core.{Core}
use Rattle.step_meaning.specs.declared.program.Layout.{Layout}
use Rattle.step_meaning.specs.declared.program.HookPlace.{HookPlace}
use Rattle.step_meaning.specs.declared.program.HookPlace.TheVariants as place
use Rattle.step_meaning.specs.declared.predicate.Term.{Term, end_of-Term, more_of-Term}
use Rattle.step_meaning.specs.declared.predicate.Term.TheVariants as t
use Rattle.step_meaning.specs.declared.predicate.TermPlace.TheVariants as p
use Rattle.step_meaning.specs.declared.predicate.Predicate.{Predicate}
use Rattle.step_meaning.specs.declared.predicate.Predicate.TheVariants as is
use Rattle.step_meaning.specs.Memory.{HeapBlock, Slot}
use Rattle.step_meaning.specs.Steps.{Step, Exit, Fault, items, steps, end}
use Rattle.step_meaning.specs.Runs.{run}
use Rattle.step_meaning.specs.Erasure as shown
use Rattle.step_meaning.specs.Erasure.{ShownStep, erased}
use Rattle.step_meaning.specs.Limits.{CellsFull, CallsFull, Spent, Exited, outcome}
use Rattle.step_meaning.specs.Allocation.{block_for}
use Rattle.step_meaning.specs.Sizes.{nodes, depth}
use Rattle.step_meaning.specs.Fold.{fold}
use Rattle.step_meaning.proofs.Examples.{int, pointer_to, array_of, declared, lit, global, local, load, index, deref, assign, convert, compare, return, function, program, step_actions, found}
use Rattle.step_meaning.proofs.FoldExamples.{safe, hooks, point, variable}

-- ---- parts of programs

abbrev char : CType
char = type.Int kind.Char

abbrev int_pointer : CType
int_pointer = pointer_to int

-- malloc(A * sizeof(T)), and the same for an `int` n
abbrev allocated_by : Expr → CType → Expr
allocated_by a t = e.Malloc' tt (more_of-Expr a end_of-Expr) t

abbrev allocated : ℕ → CType → Expr
allocated n t = allocated_by (convert kind.ULong (lit n)) t

abbrev freeing : Expr → Expr
freeing a = e.Free' tt (more_of-Expr a end_of-Expr)

abbrev free : Expr → Stmt
free a = s.Eval (freeing a)

abbrev pointer : Expr
pointer = e.Load (local 0) int_pointer

abbrev other : Expr
other = e.Load (local 1) int_pointer

-- p = E; and q = E;
abbrev p_takes : Expr → Stmt
p_takes a = s.Eval (assign (local 0) int_pointer a)

abbrev q_takes : Expr → Stmt
q_takes a = s.Eval (assign (local 1) int_pointer a)

-- A + n
abbrev moved : Expr → ℕ → ℕ → Expr
moved a n size = e.Move' tt (more_of-Expr a end_of-Expr) tt (more_of-Expr (lit n) end_of-Expr) size PointerFirst

abbrev returns_zero : Stmt
returns_zero = return (lit 0)

-- int main(void) { int *p; int *q; .. return 0; }
abbrev main_of : List Stmt → Core
main_of body = program [] [] (function int (declared int_pointer ∷ declared int_pointer ∷ []) (s.Empty ∷ body) ∷ []) 4

abbrev actions : Core → List Action
actions q = step_actions (steps (run q [] 9))

abbrev main_returns : Action
main_returns = act.Return 4 (Some (value.Int (pos 0)))

-- the beginnings of p, of q, and of a heap block, with an offset
abbrev at_p : Value
at_p = value.Pointer (record { kind = names.Local; activation = 0; index = 0 }) 0

abbrev at_q : Value
at_q = value.Pointer (record { kind = names.Local; activation = 0; index = 1 }) 0

abbrev in_block : ℕ → ℕ → Value
in_block n o = value.Pointer (record { kind = names.Heap; activation = n; index = 0 }) o

-- the numbers of the blocks in the memory of a step
abbrev blocks_at : Core → ℕ → Option (List ℕ)
blocks_at q n = option_map (λ (s : Step). map (λ (b : HeapBlock). b.number) s.memory.heap) (slice_get (steps (run q [] 9)) n)

-- ---- the count

-- p = malloc(0 * sizeof(int)); p = malloc(sizeof(int)); a `malloc` that gives null takes no number
null_unnumbered : actions (main_of (p_takes (allocated 0 int) ∷ p_takes (allocated 1 int) ∷ returns_zero ∷ []))
    ≡ (act.Enter 4 [] ∷ act.Malloc 0 value.Null 0 ∷ act.Write at_p value.Null ∷ act.Malloc 1 (in_block 0 0) 1 ∷ act.Write at_p (in_block 0 0) ∷ main_returns ∷ [])
null_unnumbered = refl

-- malloc(-1 * sizeof(int)), and malloc(4294967297 * sizeof(char)), whose count doesn't become 1
negative_count : actions (main_of (s.Eval (allocated_by (convert kind.ULong (e.Unary' op.Neg kind.Int tt (more_of-Expr (lit 1) end_of-Expr))) int) ∷ returns_zero ∷ []))
    ≡ (act.Enter 4 [] ∷ act.Malloc 18446744073709551615 value.Null 0 ∷ main_returns ∷ [])
negative_count = refl

wide_count : actions (main_of (s.Eval (allocated_by (e.Literal kind.ULong (pos 4294967297)) char) ∷ returns_zero ∷ [])) ≡ (act.Enter 4 [] ∷ act.Malloc 4294967297 value.Null 0 ∷ main_returns ∷ [])
wide_count = refl

-- malloc(getchar() * sizeof(char)): the count is computed first
abbrev counted_by_input : Core
counted_by_input = main_of (s.Eval (allocated_by (convert kind.ULong e.GetChar) char) ∷ returns_zero ∷ [])

count_first : step_actions (steps (run counted_by_input (3 ∷ []) 9)) ≡ (act.Enter 4 [] ∷ act.Input ∷ act.Malloc 3 (in_block 0 0) 3 ∷ main_returns ∷ [])
count_first = refl

-- ---- struct s { int a; char *b; int c[2]; }, which has four cells

abbrev layout : Layout
layout = record { tag = []; members = declared int ∷ declared (pointer_to char) ∷ declared (array_of int 2) ∷ [] }

abbrev struct_pointer : CType
struct_pointer = pointer_to (type.Struct 0)

abbrev points_to_structs : Expr
points_to_structs = e.Load (local 0) struct_pointer

-- struct s *p; p = malloc(2 * sizeof(struct s)); ..
abbrev two_structs : List Stmt → Core
two_structs body = record (program [] [] (function int (declared struct_pointer ∷ []) (s.Eval (assign (local 0) struct_pointer (allocated 2 (type.Struct 0))) ∷ body) ∷ []) 4) { layouts = layout ∷ [] }

cells_of_structs : option_map (λ (s : Step). map (λ b. map (λ (c : Slot). c.declared) b.cells) s.memory.heap) (slice_get (steps (run (two_structs (returns_zero ∷ [])) [] 9)) 2)
    ≡ Some ((int ∷ pointer_to char ∷ int ∷ int ∷ int ∷ pointer_to char ∷ int ∷ int ∷ []) ∷ [])
cells_of_structs = refl

abbrev member : Place_ → ℕ → Place_
member q o = place_.Member' tt (more_of-Place_ q end_of-Place_) o

-- p[1].c[1] = 7;
last_cell : actions (two_structs (s.Eval (assign (index (member (deref (moved points_to_structs 1 4)) 2) (lit 1)) int (lit 7)) ∷ returns_zero ∷ []))
    ≡ (act.Enter 4 [] ∷ act.Malloc 2 (in_block 0 0) 8 ∷ act.Write at_p (in_block 0 0) ∷ act.Read at_p ∷ act.Write (in_block 0 7) (value.Int (pos 7)) ∷ main_returns ∷ [])
last_cell = refl

-- a write of an `int` to the cell of a `char *`
other_type : end (run (two_structs (s.Eval (assign (member (deref points_to_structs) 1) int (lit 7)) ∷ returns_zero ∷ [])) [] 9) ≡ Fault fault.Invalid
other_type = refl

-- 65,536 cells and 65,540, and 2 ^ 64 + 4, which isn't 4
greatest_count : is_some (block_for (layout ∷ []) (type.Struct 0) 16384) ≡ true
greatest_count = refl

one_struct_more : block_for (layout ∷ []) (type.Struct 0) 16385 ≡ None
one_struct_more = refl

wide_product : block_for (layout ∷ []) (type.Struct 0) 4611686018427387905 ≡ None
wide_product = refl

-- ---- `free`

-- p = malloc(2 * sizeof(int)); free(p + 1);: the Halt has the memory of the Free, which has the block
abbrev inner_freed : Core
inner_freed = main_of (p_takes (allocated 2 int) ∷ free (moved pointer 1 1) ∷ returns_zero ∷ [])

inner_freed_steps : actions inner_freed ≡ (act.Enter 4 [] ∷ act.Malloc 2 (in_block 0 0) 2 ∷ act.Write at_p (in_block 0 0) ∷ act.Read at_p ∷ act.Free (in_block 0 1) ∷ act.Halt fault.BadFree ∷ [])
inner_freed_steps = refl

block_at_halt : blocks_at inner_freed 5 ≡ Some (0 ∷ [])
block_at_halt = refl

-- p = malloc(sizeof(int)); free(p); q = malloc(sizeof(int)); free(p);: p doesn't point to the new block
freed_after_other : actions (main_of (p_takes (allocated 1 int) ∷ free pointer ∷ q_takes (allocated 1 int) ∷ free pointer ∷ returns_zero ∷ []))
    ≡ (act.Enter 4 [] ∷ act.Malloc 1 (in_block 0 0) 1 ∷ act.Write at_p (in_block 0 0) ∷ act.Read at_p ∷ act.Free (in_block 0 0) ∷ act.Malloc 1 (in_block 1 0) 1 ∷ act.Write at_q (in_block 1 0) ∷ act.Read at_p ∷ act.Free (in_block 0 0)
    ∷ act.Halt fault.BadFree ∷ [])
freed_after_other = refl

-- free(malloc(sizeof(int)));
freed_at_once : actions (main_of (free (allocated 1 int) ∷ returns_zero ∷ [])) ≡ (act.Enter 4 [] ∷ act.Malloc 1 (in_block 0 0) 1 ∷ act.Free (in_block 0 0) ∷ main_returns ∷ [])
freed_at_once = refl

-- malloc(sizeof(int)); p = malloc(sizeof(int)); malloc(sizeof(int)); free(p);: the first and the last stay
others_stay : blocks_at (main_of (s.Eval (allocated 1 int) ∷ p_takes (allocated 1 int) ∷ s.Eval (allocated 1 int) ∷ free pointer ∷ returns_zero ∷ [])) 7 ≡ Some (2 ∷ 0 ∷ [])
others_stay = refl

-- ---- pointers to a block that has ended: p = malloc(2 * sizeof(int)); q = p; free(p); ..

abbrev ended : Stmt → Core
ended last = main_of (p_takes (allocated 2 int) ∷ q_takes pointer ∷ free pointer ∷ last ∷ returns_zero ∷ [])

abbrev ended_steps : List Action → List Action
ended_steps last = act.Enter 4 [] ∷ act.Malloc 2 (in_block 0 0) 2 ∷ act.Write at_p (in_block 0 0) ∷ act.Read at_p ∷ act.Write at_q (in_block 0 0) ∷ act.Read at_p ∷ act.Free (in_block 0 0) ∷ act.Read at_q ∷ last

-- *q = 1; and q = q + 0;, which accesses nothing
written_after : actions (ended (s.Eval (assign (deref other) int (lit 1)))) ≡ ended_steps (act.Write (in_block 0 0) (value.Int (pos 1)) ∷ act.Halt fault.Invalid ∷ [])
written_after = refl

moved_after : actions (ended (q_takes (moved other 0 1))) ≡ ended_steps (act.Halt fault.Invalid ∷ [])
moved_after = refl

-- order and difference of two pointers to it are defined, and it is no null pointer
ordered_after : end (run (ended (return (compare comparing.LessEqual pointer other))) [] 9) ≡ Exit (pos 1)
ordered_after = refl

abbrev when : Expr → Stmt
when a = s.If' a tt (more_of-Stmt (return (lit 3)) end_of-Stmt) tt (more_of-Stmt (return (lit 4)) end_of-Stmt)

difference_after : end (run (ended (when (e.Difference' tt (more_of-Expr pointer end_of-Expr) tt (more_of-Expr other end_of-Expr) 1))) [] 9) ≡ Exit (pos 4)
difference_after = refl

true_after : end (run (ended (when other)) [] 9) ≡ Exit (pos 3)
true_after = refl

-- ---- blocks and activations

-- void f(int *x) { free(x); } int main(void) { int *p; p = malloc(sizeof(int)); f(p); return *p; }
abbrev freed_by_f : Core
freed_by_f =
    program [] []
    (record (function type.Void (declared int_pointer ∷ []) (s.Empty ∷ free pointer ∷ [])) { params = 1 }
    ∷ function int (declared int_pointer ∷ []) (s.Empty ∷ p_takes (allocated 1 int) ∷ s.Eval (e.Invoke' 4 (tt ∷ []) (more_of-Expr pointer end_of-Expr)) ∷ return (load (deref pointer)) ∷ [])
    ∷ []) 5

freed_by_f_steps : actions freed_by_f
    ≡ (act.Enter 5 [] ∷ act.Malloc 1 (in_block 0 0) 1 ∷ act.Write at_p (in_block 0 0) ∷ act.Read at_p ∷ act.Call 4 ∷ act.Enter 4 (in_block 0 0 ∷ [])
    ∷ act.Read (value.Pointer (record { kind = names.Local; activation = 1; index = 0 }) 0) ∷ act.Free (in_block 0 0) ∷ act.Return 4 None
    ∷ act.Read at_p ∷ act.Read (in_block 0 0) ∷ act.Halt fault.Invalid ∷ [])
freed_by_f_steps = refl

-- `free` is a step of f
freed_by_f_functions : map (λ (s : Step). s.function) (steps (run freed_by_f [] 9)) ≡ (5 ∷ 5 ∷ 5 ∷ 5 ∷ 5 ∷ 4 ∷ 4 ∷ 4 ∷ 4 ∷ 5 ∷ 5 ∷ 5 ∷ [])
freed_by_f_functions = refl

-- int *f(void) { return malloc(sizeof(int)); } int main(void) { int *p; p = f(); *p = 3; return *p; }: the block outlives the activation that made it
made_by_f : end (run (program [] [] (function int_pointer [] (return (allocated 1 int) ∷ []) ∷ function int (declared int_pointer ∷ []) (s.Empty ∷ p_takes (e.Invoke' 4 [] end_of-Expr) ∷ s.Eval (assign (deref pointer) int (lit 3)) ∷ return (load (deref pointer)) ∷ []) ∷ []) 5) [] 9) ≡ Exit (pos 3)
made_by_f = refl

-- ---- order

-- int f(int *x, int *y) { return 0; } int main(void) { return f(malloc(sizeof(int)), malloc(2 * sizeof(int))); }
arguments_in_order : actions (program [] []
    (record (function int (declared int_pointer ∷ declared int_pointer ∷ []) (returns_zero ∷ [])) { params = 2 }
    ∷ function int [] (return (e.Invoke' 4 (tt ∷ tt ∷ []) (more_of-Expr (allocated 1 int) (more_of-Expr (allocated 2 int) end_of-Expr))) ∷ [])
    ∷ []) 5)
    ≡ (act.Enter 5 [] ∷ act.Malloc 1 (in_block 0 0) 1 ∷ act.Malloc 2 (in_block 1 0) 2 ∷ act.Call 4 ∷ act.Enter 4 (in_block 0 0 ∷ in_block 1 0 ∷ []) ∷ act.Return 4 (Some (value.Int (pos 0))) ∷ act.Return 5 (Some (value.Int (pos 0))) ∷ [])
arguments_in_order = refl

-- p = 0 ? malloc(sizeof(int)) : malloc(2 * sizeof(int));
one_is_made : actions (main_of (p_takes (e.Choose' tt (more_of-Expr (lit 0) end_of-Expr) tt (more_of-Expr (allocated 1 int) end_of-Expr) tt (more_of-Expr (allocated 2 int) end_of-Expr)) ∷ returns_zero ∷ []))
    ≡ (act.Enter 4 [] ∷ act.Malloc 2 (in_block 0 0) 2 ∷ act.Write at_p (in_block 0 0) ∷ main_returns ∷ [])
one_is_made = refl

-- ---- limits: p and q take two chunks

abbrev of_cells : ℕ → Core
of_cells n = main_of (s.Eval (allocated n int) ∷ returns_zero ∷ [])

sixteen_cells : outcome (of_cells 16) [] 50 3 9 ≡ record { made = 3; end = Exited (pos 0) }
sixteen_cells = refl

seventeen_cells : outcome (of_cells 17) [] 50 3 9 ≡ record { made = 1; end = CellsFull }
seventeen_cells = refl

one_cell : outcome (of_cells 1) [] 50 2 9 ≡ record { made = 1; end = CellsFull }
one_cell = refl

-- where the steps are spent, the next one isn't looked at
spent_first : outcome (of_cells 17) [] 1 3 9 ≡ record { made = 1; end = Spent }
spent_first = refl

-- int f(void) { int x; return 0; } int main(void) { malloc(16 * sizeof(int)); return f(); }: an Enter counts the blocks too
abbrev entering : Core
entering = program [] [] (function int (declared int ∷ []) (returns_zero ∷ []) ∷ function int [] (s.Eval (allocated 16 int) ∷ return (e.Invoke' 4 [] end_of-Expr) ∷ []) ∷ []) 5

enter_counts_blocks : outcome entering [] 50 1 9 ≡ record { made = 3; end = CellsFull }
enter_counts_blocks = refl

enter_fits : outcome entering [] 50 2 9 ≡ record { made = 6; end = Exited (pos 0) }
enter_fits = refl

-- where both limits are passed, it is by the activations
calls_before_cells : outcome entering [] 50 1 1 ≡ record { made = 3; end = CallsFull }
calls_before_cells = refl

-- ---- what is shown of a run: int *p; int main(void) { p = malloc(2 * sizeof(int)); free(p); return 0; }

abbrev file_pointer : Expr
file_pointer = e.Load (global 0) int_pointer

abbrev with_file_pointer : List Stmt → Core
with_file_pointer body = program (declared int_pointer ∷ []) ((value.Null ∷ []) ∷ []) (function int [] (s.Eval (assign (global 0) int_pointer (allocated 2 int)) ∷ body) ∷ []) 4

abbrev two_cells : Core
two_cells = with_file_pointer (free file_pointer ∷ returns_zero ∷ [])

abbrev at_file_pointer : Value
at_file_pointer = value.Pointer (record { kind = names.Global; activation = 0; index = 0 }) 0

allocation_shown : map (λ (s : ShownStep). s.action) (erased two_cells (items (run two_cells [] 9)))
    ≡ (shown.Enter [] [] ∷ shown.Malloc 2 (in_block 0 0) 2 ∷ shown.Write at_file_pointer (in_block 0 0) ∷ shown.Read at_file_pointer ∷ shown.Free (in_block 0 0) ∷ shown.Return [] (Some (value.Int (pos 0))) ∷ [])
allocation_shown = refl

-- ---- predicates about blocks, at the steps of that program

abbrev p_now : Term
p_now = t.Load (p.Own (variable names.Global 0)) int_pointer

abbrev judged : Core → HookPlace → Predicate → List Bool
judged q at r = found (fold q (hooks [] (point 4 at [] (safe r ∷ []) ∷ [])) (steps (run q [] 9)))

-- \valid(p + (0 .. n)), from the step after the write of p to its Free
abbrev valid_to : ℕ → Predicate
valid_to n = is.Valid (record { base = p_now; ctype = int; span = Some (t.Int (pos 0), t.Int (pos n)) })

valid_while_live : judged two_cells place.Changed (valid_to 1) ≡ (false ∷ false ∷ false ∷ true ∷ true ∷ false ∷ [])
valid_while_live = refl

valid_no_further : judged two_cells place.Changed (valid_to 2) ≡ (false ∷ false ∷ false ∷ false ∷ false ∷ false ∷ [])
valid_no_further = refl

-- \separated(p, p), whether or not the block is live
separated_by_name : judged two_cells place.Return (is.Separated (record { base = p_now; ctype = int; span = None } ∷ record { base = p_now; ctype = int; span = None } ∷ [])) ≡ (false ∷ [])
separated_by_name = refl

-- *p == 1, before the write of `*p = 1;` and after it
reads_block : judged (with_file_pointer (s.Eval (assign (deref file_pointer) int (lit 1)) ∷ returns_zero ∷ [])) place.Changed (is.Relation comparing.Equal (t.Load (p.Deref' tt (more_of-Term p_now end_of-Term)) int) (t.Int (pos 1)))
    ≡ (false ∷ false ∷ false ∷ false ∷ false ∷ true ∷ [])
reads_block = refl

-- \separated(\written, p + (0 .. 1)) at the writes of p and of *p
written_block : judged (with_file_pointer (s.Eval (assign (deref file_pointer) int (lit 1)) ∷ returns_zero ∷ [])) place.Write (is.Separated (record { base = t.Accessed; ctype = type.Void; span = None } ∷ record { base = p_now; ctype = int; span = Some (t.Int (pos 0), t.Int (pos 1)) } ∷ []))
    ≡ (true ∷ false ∷ [])
written_block = refl

-- ---- nodes and depth of free(malloc(2 * sizeof(int))): the `free`, the `malloc`, the conversion and the literal

four_nodes : nodes (freeing (allocated 2 int)) ≡ 4
four_nodes = refl

four_deep : depth (freeing (allocated 2 int)) ≡ 4
four_deep = refl
