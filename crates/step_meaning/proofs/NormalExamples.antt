-- Statements in normal form and others, sizes of small trees, and a small program that is printable.
use Rattle.std.proofs.Common.{◌≡◌, ℕ, zero, suc, true, false, refl, [], ◌∷◌, Some}
use Rattle.std.specs.Prelude.{pos, codes, IsTrue}
use Rattle.step_meaning.specs.declared.value.IntKind.TheVariants as kind
use Rattle.step_meaning.specs.declared.value.NameKind.TheVariants as names
use Rattle.step_meaning.specs.declared.expr.IntOp.TheVariants as op
use Rattle.step_meaning.specs.declared.expr.Expr.{Expr, end_of-Expr, more_of-Expr}
use Rattle.step_meaning.specs.declared.expr.Expr.TheVariants as e
use Rattle.step_meaning.specs.declared.expr.Place_.{Place_}
use Rattle.step_meaning.specs.declared.expr.Place_.TheVariants as p
use Rattle.step_meaning.specs.declared.stmt.Stmt.{Stmt, end_of-Stmt, more_of-Stmt}
use Rattle.step_meaning.specs.declared.stmt.Stmt.TheVariants as s
use Rattle.step_meaning.specs.declared.program.Function.{Function}
use Rattle.step_meaning.specs.declared.program.Core.{Core}
use Rattle.step_meaning.specs.ExpressionTypes.{pointer_to}
use Rattle.step_meaning.specs.Identifiers.{keywords, is_keyword}
use Rattle.step_meaning.specs.WellFormed.{IsWellFormed, IsWellFormedFunction}
use Rattle.step_meaning.specs.Sizes.{nodes, depth, nesting}
use Rattle.step_meaning.specs.Normal.{is_normal, ends_with_return, are_normal_functions, IsNormal}
use Rattle.step_meaning.specs.Printable.{IsPrintable, is_small, is_small_statement}
use Rattle.step_meaning.proofs.Examples.{int, lit, global, local, load, deref, index, assign, binary, return, zero_cell}
use Rattle.step_meaning.proofs.WellFormedExamples.{named, getchar, putchar, malloc, free, adding}

-- ---- statements, where r and s are registers

abbrev pub register : ℕ → Place_
register i = p.Own (record { kind = names.Register; index = i })

abbrev r : Expr
r = load (register 0)

abbrev takes : Place_ → Expr → Stmt
takes q a = s.Eval (assign q int a)

-- r = s + 1; r = r + x; r = x; r = x + 1;
sum_of_registers : is_normal (takes (register 0) (binary op.Add kind.Int (load (register 1)) (lit 1))) ≡ true
sum_of_registers = refl

sum_with_access : is_normal (takes (register 0) (binary op.Add kind.Int r (load (local 0)))) ≡ false
sum_with_access = refl

read : is_normal (takes (register 0) (load (local 0))) ≡ true
read = refl

-- r = *s; r = *x; r = a[1]; r = &a[1]
read_behind : is_normal (takes (register 0) (load (deref (e.Load (register 1) (pointer_to int))))) ≡ true
read_behind = refl

read_behind_variable : is_normal (takes (register 0) (load (deref (e.Load (local 1) (pointer_to int))))) ≡ false
read_behind_variable = refl

read_element : is_normal (takes (register 0) (load (index (local 0) (lit 1)))) ≡ false
read_element = refl

address_of_element : is_normal (takes (register 0) (e.Address (index (local 0) r) int)) ≡ true
address_of_element = refl

-- x = r; *r = 1; x = y; x = r + 1; a[1] = r;
write : is_normal (takes (local 0) r) ≡ true
write = refl

write_behind : is_normal (takes (deref (e.Load (register 1) (pointer_to int))) (lit 1)) ≡ true
write_behind = refl

copy : is_normal (takes (local 0) (load (local 1))) ≡ false
copy = refl

write_sum : is_normal (takes (local 0) (binary op.Add kind.Int r (lit 1))) ≡ false
write_sum = refl

write_element : is_normal (takes (index (local 0) (lit 1)) r) ≡ false
write_element = refl

-- f(r); r = f(1); x = f(1); f(x); f(f(1)); r = getchar(); putchar(r); r;
abbrev call : Expr → Expr
call a = e.Invoke' 4 (tt ∷ []) (more_of-Expr a end_of-Expr)

call_alone : is_normal (s.Eval (call r)) ≡ true
call_alone = refl

call_into_register : is_normal (takes (register 0) (call (lit 1))) ≡ true
call_into_register = refl

call_into_place : is_normal (takes (local 0) (call (lit 1))) ≡ false
call_into_place = refl

call_of_access : is_normal (s.Eval (call (load (local 0)))) ≡ false
call_of_access = refl

call_of_call : is_normal (s.Eval (call (call (lit 1)))) ≡ false
call_of_call = refl

input : is_normal (takes (register 0) e.GetChar) ≡ true
input = refl

output : is_normal (s.Eval (e.PutChar' tt (more_of-Expr r end_of-Expr))) ≡ true
output = refl

value_alone : is_normal (s.Eval r) ≡ false
value_alone = refl

-- if (r) ; if (x) ; while (1) ; while (r) ; do ; while (1); return r; return x;
abbrev if_then : Expr → Stmt
if_then a = s.If' a tt (more_of-Stmt s.Empty end_of-Stmt) tt (more_of-Stmt s.Empty end_of-Stmt)

if_register : is_normal (if_then r) ≡ true
if_register = refl

if_access : is_normal (if_then (load (local 0))) ≡ false
if_access = refl

while_one : is_normal (s.While' (lit 1) tt (more_of-Stmt s.Break end_of-Stmt)) ≡ true
while_one = refl

-- while (1U) ;
while_unsigned : is_normal (s.While' (e.Literal kind.UInt (pos 1)) tt (more_of-Stmt s.Break end_of-Stmt)) ≡ false
while_unsigned = refl

while_register : is_normal (s.While' r tt (more_of-Stmt s.Break end_of-Stmt)) ≡ false
while_register = refl

do_one : is_normal (s.Do' tt (more_of-Stmt s.Empty end_of-Stmt) (lit 1)) ≡ false
do_one = refl

return_register : is_normal (return r) ≡ true
return_register = refl

return_access : is_normal (return (load (local 0))) ≡ false
return_access = refl

initialising : is_normal (s.Init (record { kind = names.Local; index = 0 }) 0 int r) ≡ false
initialising = refl

-- ---- sizes: a[i] + 1 has four expressions (the sum, two values and the constant) and three lvalues (the element, the array, i), and i stands five deep

abbrev element_sum : Expr
element_sum = binary op.Add kind.Int (load (index (local 0) (load (local 1)))) (lit 1)

nodes_of_sum : nodes element_sum ≡ 7
nodes_of_sum = refl

depth_of_sum : depth element_sum ≡ 5
depth_of_sum = refl

-- if (1) { ; } else ;
nesting_of_if : nesting (s.If' (lit 1) tt (more_of-Stmt (s.Block' (tt ∷ []) (more_of-Stmt s.Empty end_of-Stmt)) end_of-Stmt) tt (more_of-Stmt s.Empty end_of-Stmt)) ≡ 3
nesting_of_if = refl

-- n times !
abbrev nots : ℕ → Expr
nots zero = lit 1
nots (suc n) = e.Not' tt (more_of-Expr (nots n) end_of-Expr)

deepest : is_small (nots 63) ≡ true
deepest = refl

too_deep : is_small (nots 64) ≡ false
too_deep = refl

-- sums whose operands are alike: the n-th has 2 ^ (n + 1) - 1 nodes; and n times ! before an expression
abbrev doubled : ℕ → Expr
doubled zero = lit 1
doubled (suc n) = binary op.Add kind.Int (doubled n) (doubled n)

abbrev negated : ℕ → Expr → Expr
negated zero a = a
negated (suc n) a = e.Not' tt (more_of-Expr (negated n a) end_of-Expr)

-- 1,023 nodes, 127, the sum, and 49
most_nodes : is_small (negated 49 (binary op.Add kind.Int (doubled 9) (doubled 6))) ≡ true
most_nodes = refl

too_many_nodes : is_small (negated 50 (binary op.Add kind.Int (doubled 9) (doubled 6))) ≡ false
too_many_nodes = refl

abbrev blocks : ℕ → Stmt
blocks zero = s.Empty
blocks (suc n) = s.Block' (tt ∷ []) (more_of-Stmt (blocks n) end_of-Stmt)

deepest_blocks : is_small_statement (blocks 699) ≡ true
deepest_blocks = refl

too_deep_blocks : is_small_statement (blocks 700) ≡ false
too_deep_blocks = refl

-- ---- int x = 0; int main(void) { register int __r; __r = x; __r = __r + 1; x = __r; return __r; }

abbrev main : Function
main = record {
  name = codes "main";
  result = int;
  params = 0;
  locals = [];
  registers = named (codes "__r") int ∷ [];
  ghosts = [];
  body = Some (s.Empty ∷ takes (register 0) (load (global 0)) ∷ takes (register 0) (binary op.Add kind.Int r (lit 1)) ∷ takes (global 0) r ∷ return r ∷ []);
}

abbrev pub counting : Core
counting = record adding { layouts = []; globals = named (codes "x") int ∷ []; initial = zero_cell ∷ []; functions = getchar ∷ putchar ∷ malloc ∷ free ∷ main ∷ []; start = 4 }

getchar_fits : IsWellFormedFunction counting getchar
getchar_fits = record { result = refl; parameters_first = refl; parameters = refl; locals = refl; registers = refl; ghosts = refl; body = tt; names = tt }

putchar_fits : IsWellFormedFunction counting putchar
putchar_fits = record { result = refl; parameters_first = refl; parameters = refl; locals = refl; registers = refl; ghosts = refl; body = tt; names = tt }

main_fits : IsWellFormedFunction counting main
main_fits = record { result = refl; parameters_first = refl; parameters = refl; locals = refl; registers = refl; ghosts = refl; body = (tt, (tt, (refl, (refl, (refl, (refl, tt)))))); names = refl }

counting_well_formed : IsWellFormed counting
unfolding is_keyword keywords
counting_well_formed = record {
  structs = refl;
  globals = refl;
  initial = ((refl, tt), tt);
  ghosts = refl;
  getchar = refl;
  putchar = refl;
  malloc = refl;
  free = refl;
  main = refl;
  functions = (getchar_fits, (putchar_fits, (main_fits, tt)));
  file_names = refl;
  distinct_names = refl;
  tags = refl;
  distinct_tags = refl;
  member_names = refl;
}

counting_printable : IsPrintable counting
counting_printable = record { well_formed = counting_well_formed; normal = refl; bodies = refl; struct_types = refl; global_types = refl; function_types = refl }

-- without the `return`, and with a `return` that isn't last
no_return : ends_with_return (takes (register 0) (lit 1) ∷ []) ≡ false
no_return = refl

early_return : are_normal_functions counting 4 (record main { body = Some (return r ∷ s.Empty ∷ []) } ∷ []) ≡ false
early_return = refl

-- a function with a value, other than `main`, may end without one
falling_off : are_normal_functions counting 5 (record main { body = Some (s.Empty ∷ []) } ∷ []) ≡ true
falling_off = refl

normal : IsNormal counting
normal = refl

-- `main` without a `return`
not_normal : IsNormal (record counting { functions = getchar ∷ putchar ∷ malloc ∷ free ∷ record main { body = Some (s.Empty ∷ []) } ∷ [] }) → ⊥
not_normal h = refuted h
  where
    refuted : IsTrue false → ⊥
    refuted h = cc
