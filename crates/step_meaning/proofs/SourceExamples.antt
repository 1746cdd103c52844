-- What a source's core keeps besides being well formed, on expressions and statements, and a core that is one.
use Rattle.std.proofs.Common.{◌≡◌, ◌&&◌, ℕ, zero, suc, ◌++◌, true, false, refl, sym, subst, map, replicate, List, [], ◌∷◌, Some, None}
use Rattle.std.specs.Prelude.{pos, nat_le, codes, IsTrue}
use Rattle.std.specs.List.{list_all}
use Rattle.step_meaning.specs.declared.value.IntKind.TheVariants as kind
use Rattle.step_meaning.specs.declared.value.CType.{CType}
use Rattle.step_meaning.specs.declared.value.NameKind.TheVariants as names
use Rattle.step_meaning.specs.declared.expr.IntOp.TheVariants as op
use Rattle.step_meaning.specs.declared.expr.UnaryOp.TheVariants as unary
use Rattle.step_meaning.specs.declared.expr.CompareOp.TheVariants as comparing
use Rattle.step_meaning.specs.declared.expr.Side.TheVariants.{PointerFirst, PointerLast}
use Rattle.step_meaning.specs.declared.expr.Answer.TheVariants.{After}
use Rattle.step_meaning.specs.declared.expr.UpdateOp.TheVariants.{Forward}
use Rattle.step_meaning.specs.declared.expr.Expr.{Expr, end_of-Expr, more_of-Expr}
use Rattle.step_meaning.specs.declared.expr.Expr.TheVariants as e
use Rattle.step_meaning.specs.declared.expr.Place_.{end_of-Place_, more_of-Place_}
use Rattle.step_meaning.specs.declared.expr.Place_.TheVariants as p
use Rattle.step_meaning.specs.declared.stmt.VerdictKind.TheVariants.{Safe}
use Rattle.step_meaning.specs.declared.stmt.Stmt.{Stmt, end_of-Stmt, more_of-Stmt}
use Rattle.step_meaning.specs.declared.stmt.Stmt.TheVariants as s
use Rattle.step_meaning.specs.declared.predicate.Predicate.TheVariants as is
use Rattle.step_meaning.specs.declared.program.Function.{Function}
use Rattle.step_meaning.specs.Printable.{is_small, have_small_types}
use Rattle.step_meaning.specs.Promises.{has_blocks, ReturnsRegisters}
use Rattle.step_meaning.specs.TermSizes.{type_depth}
use Rattle.step_meaning.specs.WellFormed.{OfBody}
use Rattle.step_meaning.specs.Sources.{is_bare, has_short_calls, calls_are_short, branching, full_nesting, have_source_types, IsSourceFunction, IsSource}
use Rattle.step_meaning.proofs.Examples.{int, pointer_to, lit, local, load, index, deref, assign, binary, convert, compare, both, either, return}
use Rattle.step_meaning.proofs.NormalExamples.{register, counting}
use Rattle.step_meaning.proofs.WellFormedExamples.{named, getchar, putchar, malloc, free, add, main, adding, adding_well_formed}

-- ---- a && (b || c) and (a || b) && c: a right operand stands in a branch

right_operand : branching (both (lit 1) (either (lit 1) (lit 0))) ≡ 5
right_operand = refl

left_operand : branching (both (either (lit 1) (lit 0)) (lit 1)) ≡ 3
left_operand = refl

-- ---- while (1) { if (1) continue; } and for (; ; 1 && 1) { if (1) continue; }

abbrev continuing : Stmt
continuing = s.Block' (tt ∷ []) (more_of-Stmt (s.If' (lit 1) tt (more_of-Stmt s.Continue end_of-Stmt) tt (more_of-Stmt s.Empty end_of-Stmt)) end_of-Stmt)

-- the `while`, its block, the body's block, the `if`, the branch's block and the `continue`
while_continue : full_nesting 1 (s.While' (lit 1) tt (more_of-Stmt continuing end_of-Stmt)) ≡ 6
while_continue = refl

-- the step of the `for` stands before the `continue`, and nests three deep
for_continue : full_nesting 1 (s.For' None (Some (both (lit 1) (lit 1))) tt (more_of-Stmt continuing end_of-Stmt)) ≡ 8
for_continue = refl

-- do { if (1) continue; } while (1);: the test stands there too
do_continue : full_nesting 1 (s.Do' tt (more_of-Stmt continuing end_of-Stmt) (lit 1)) ≡ 8
do_continue = refl

-- ---- annotations, and types that `malloc` names

assertion : is_bare (s.While' (lit 1) tt (more_of-Stmt (s.Assert Safe 1 is.True) end_of-Stmt)) ≡ false
assertion = refl

no_assertion : is_bare continuing ≡ true
no_assertion = refl

abbrev pointers : ℕ → CType
pointers zero = int
pointers (suc n) = pointer_to (pointers n)

deepest_declared : have_source_types (named [] (pointers 98) ∷ []) ≡ true
deepest_declared = refl

too_deep_declared : have_source_types (named [] int ∷ named [] (pointers 99) ∷ []) ≡ false
too_deep_declared = refl

deepest_printed : have_small_types (named [] (pointers 99) ∷ []) ≡ true
deepest_printed = refl

too_deep_printed : have_small_types (named [] int ∷ named [] (pointers 100) ∷ []) ≡ false
too_deep_printed = refl

abbrev allocated : CType → Expr
allocated t = e.Malloc' tt (more_of-Expr (e.Literal kind.ULong (pos 1)) end_of-Expr) t

deepest_source_type : has_short_calls (allocated (pointers 98)) ≡ true
deepest_source_type = refl

too_deep_source_type : has_short_calls (allocated (pointers 99)) ≡ false
too_deep_source_type = refl

deepest_type : is_small (allocated (pointers 99)) ≡ true
deepest_type = refl

too_deep_type : is_small (allocated (pointers 100)) ≡ false
too_deep_type = refl

-- r = malloc(sizeof(T));
too_deep_taken : is_small (assign (register 0) (pointers 101) (allocated (pointers 100))) ≡ false
too_deep_taken = refl

-- free(malloc(sizeof(T))); the operands of both count
abbrev freed : Expr → Expr
freed a = e.Free' tt (more_of-Expr a end_of-Expr)

too_deep_in_free : has_short_calls (freed (allocated (pointers 99))) ≡ false
too_deep_in_free = refl

abbrev counted : Expr → Expr
counted a = e.Malloc' tt (more_of-Expr a end_of-Expr) int

too_deep_in_count : has_short_calls (counted (allocated (pointers 99))) ≡ false
too_deep_in_count = refl

-- malloc((1 && 1) * sizeof(int)), and free(1 && 1)
count_in_branch : branching (counted (both (lit 1) (lit 1))) ≡ 3
count_in_branch = refl

freed_in_branch : branching (freed (both (lit 1) (lit 1))) ≡ 3
freed_in_branch = refl

-- ---- each operand of an expression counts

abbrev one : Expr
one = lit 1

abbrev choose : Expr → Expr → Expr → Expr
choose a b c = e.Choose' tt (more_of-Expr a end_of-Expr) tt (more_of-Expr b end_of-Expr) tt (more_of-Expr c end_of-Expr)

-- the expressions with this operand, which is always evaluated
abbrev around : Expr → List Expr
around a =
    load (deref a) ∷ e.Address (deref a) int ∷ load (index (deref a) one) ∷ load (index (local 0) a) ∷ load (p.Member' tt (more_of-Place_ (deref a) end_of-Place_) 1)
    ∷ convert kind.Long a ∷ e.Unary' unary.Neg kind.Int tt (more_of-Expr a end_of-Expr) ∷ binary op.Add kind.Int a one ∷ binary op.Add kind.Int one a ∷ compare comparing.Less a one ∷ compare comparing.Less one a
    ∷ e.Move' tt (more_of-Expr a end_of-Expr) tt (more_of-Expr one end_of-Expr) 1 PointerFirst ∷ e.Move' tt (more_of-Expr one end_of-Expr) tt (more_of-Expr a end_of-Expr) 1 PointerLast
    ∷ e.Difference' tt (more_of-Expr a end_of-Expr) tt (more_of-Expr one end_of-Expr) 1 ∷ e.Difference' tt (more_of-Expr one end_of-Expr) tt (more_of-Expr a end_of-Expr) 1
    ∷ e.Not' tt (more_of-Expr a end_of-Expr) ∷ both a one ∷ either a one ∷ choose a one one
    ∷ assign (deref a) int one ∷ assign (local 0) int a ∷ e.Update' (deref a) int (Forward 1) tt (more_of-Expr one end_of-Expr) After ∷ e.Update' (local 0) int (Forward 1) tt (more_of-Expr a end_of-Expr) After
    ∷ e.Invoke' 4 (tt ∷ tt ∷ []) (more_of-Expr a (more_of-Expr one end_of-Expr)) ∷ e.Invoke' 4 (tt ∷ tt ∷ []) (more_of-Expr one (more_of-Expr a end_of-Expr))
    ∷ e.PutChar' tt (more_of-Expr a end_of-Expr) ∷ counted a ∷ freed a ∷ e.Discard' tt (more_of-Expr a end_of-Expr)
    ∷ []

-- those in which it is evaluated in one case alone
abbrev in_one_case : Expr → List Expr
in_one_case a = both one a ∷ either one a ∷ choose one a one ∷ choose one one a ∷ []

branching_around : map branching (around (both one one)) ≡ replicate 29 3
branching_around = refl

branching_in_one_case : map branching (in_one_case (both one one)) ≡ replicate 4 5
branching_in_one_case = refl

too_deep_around : map has_short_calls (around (allocated (pointers 99)) ++ in_one_case (allocated (pointers 99))) ≡ replicate 33 false
too_deep_around = refl

deepest_around : map has_short_calls (around (allocated (pointers 98)) ++ in_one_case (allocated (pointers 98))) ≡ replicate 33 true
deepest_around = refl

-- and each expression of a statement: E; int x = E; return E; if (E) ; while (E) ; do ; while (E); for (; E; ) ; for (; ; E) ;
abbrev alone : Expr → List Stmt
alone a =
    s.Eval a ∷ s.Init (record { kind = names.Local; index = 0 }) 0 int a ∷ return a
    ∷ s.If' a tt (more_of-Stmt s.Empty end_of-Stmt) tt (more_of-Stmt s.Empty end_of-Stmt)
    ∷ s.While' a tt (more_of-Stmt s.Empty end_of-Stmt) ∷ s.Do' tt (more_of-Stmt s.Empty end_of-Stmt) a
    ∷ s.For' (Some a) None tt (more_of-Stmt s.Empty end_of-Stmt) ∷ s.For' None (Some a) tt (more_of-Stmt s.Empty end_of-Stmt)
    ∷ []

-- the statements with this one inside
abbrev within : Stmt → List Stmt
within u =
    s.Block' (tt ∷ tt ∷ []) (more_of-Stmt u (more_of-Stmt s.Empty end_of-Stmt)) ∷ s.Block' (tt ∷ tt ∷ []) (more_of-Stmt s.Empty (more_of-Stmt u end_of-Stmt))
    ∷ s.If' one tt (more_of-Stmt u end_of-Stmt) tt (more_of-Stmt s.Empty end_of-Stmt) ∷ s.If' one tt (more_of-Stmt s.Empty end_of-Stmt) tt (more_of-Stmt u end_of-Stmt)
    ∷ s.While' one tt (more_of-Stmt u end_of-Stmt) ∷ s.Do' tt (more_of-Stmt u end_of-Stmt) one ∷ s.For' None None tt (more_of-Stmt u end_of-Stmt)
    ∷ []

nesting_alone : map (full_nesting 1) (alone (both one one)) ≡ (3 ∷ 3 ∷ 3 ∷ 3 ∷ 5 ∷ 5 ∷ 5 ∷ 5 ∷ [])
nesting_alone = refl

nesting_within : map (full_nesting 1) (within (s.Eval (both one (both one one)))) ≡ (6 ∷ 6 ∷ 7 ∷ 7 ∷ 7 ∷ 7 ∷ 7 ∷ [])
nesting_within = refl

too_deep_statements : map calls_are_short (alone (allocated (pointers 99)) ++ within (s.Eval (allocated (pointers 99)))) ≡ replicate 15 false
too_deep_statements = refl

bare_within : map is_bare (within s.Empty ++ alone one) ≡ replicate 15 true
bare_within = refl

annotated_within : map is_bare (within (s.Assert Safe 1 is.True)) ≡ replicate 7 false
annotated_within = refl

-- ---- sources

without_body : (f : Function) → f.registers ≡ [] → f.ghosts ≡ [] → f.body ≡ None → IsTrue (nat_le (type_depth f.result) 99 && have_source_types f.locals) → IsSourceFunction f
without_body f r g b t = record { registers = r; ghosts = g; types = t; bare = nothing (λ ss. IsTrue (list_all is_bare ss)); short_calls = nothing (λ ss. IsTrue (list_all calls_are_short ss)); nesting = nothing (λ ss. IsTrue (list_all (λ s. nat_le (full_nesting 1 s) 500) ss)) }
  where
    nothing : (P : List Stmt → Type 0) → OfBody P f.body
    nothing P = subst (OfBody P) (sym b) tt

add_is : IsSourceFunction add
add_is = record { registers = refl; ghosts = refl; types = refl; bare = refl; short_calls = refl; nesting = refl }

main_is : IsSourceFunction main
main_is = record { registers = refl; ghosts = refl; types = refl; bare = refl; short_calls = refl; nesting = refl }

adding_is_source : IsSource adding
adding_is_source = record {
  well_formed = adding_well_formed;
  ghosts = refl;
  struct_types = refl;
  global_types = refl;
  functions = (without_body getchar refl refl refl refl, (without_body putchar refl refl refl refl, (without_body malloc refl refl refl refl, (without_body free refl refl refl refl, (add_is, (main_is, tt))))));
}

-- a core with a register is none
with_register : IsSource counting → ⊥
with_register h = some_are_not_none (h.functions.1.1.1.1.0.registers)
  where
    some_are_not_none : (named (codes "__r") int ∷ []) ≡ [] → ⊥
    some_are_not_none e = cc

-- ---- what a normal form keeps besides

block_branches : has_blocks (s.If' (lit 1) tt (more_of-Stmt (s.Block' [] end_of-Stmt) end_of-Stmt) tt (more_of-Stmt (s.Block' [] end_of-Stmt) end_of-Stmt)) ≡ true
block_branches = refl

plain_branch : has_blocks (s.If' (lit 1) tt (more_of-Stmt (s.Block' [] end_of-Stmt) end_of-Stmt) tt (more_of-Stmt s.Empty end_of-Stmt)) ≡ false
plain_branch = refl

register_returned : ReturnsRegisters int (return (load (register 0)))
register_returned = (refl, refl)

literal_returned : ReturnsRegisters int (return (lit 0)) → ⊥
literal_returned h = h
