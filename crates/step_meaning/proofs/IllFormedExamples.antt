-- Programs that differ from a well-formed one in one point, which makes them ill formed.
use Rattle.std.proofs.Common.{◌≡◌, ℕ, true, false, refl, List, [], ◌∷◌, Some, None}
use Rattle.std.specs.Prelude.{codes, IsTrue}
use Rattle.step_meaning.specs.declared.value.IntKind.TheVariants as kind
use Rattle.step_meaning.specs.declared.value.CType.TheVariants as type
use Rattle.step_meaning.specs.declared.value.NameKind.{NameKind}
use Rattle.step_meaning.specs.declared.value.NameKind.TheVariants as names
use Rattle.step_meaning.specs.declared.value.Value.{Value}
use Rattle.step_meaning.specs.declared.value.Action.TheVariants as act
use Rattle.step_meaning.specs.declared.value.RunFault.TheVariants as fault
use Rattle.step_meaning.specs.declared.expr.Variable.{Variable}
use Rattle.step_meaning.specs.declared.expr.Expr.{Expr, end_of-Expr, more_of-Expr}
use Rattle.step_meaning.specs.declared.expr.Expr.TheVariants as e
use Rattle.step_meaning.specs.declared.predicate.Predicate.TheVariants as is
use Rattle.step_meaning.specs.declared.stmt.VerdictKind.TheVariants.{Safe}
use Rattle.step_meaning.specs.declared.stmt.Stmt.{Stmt, end_of-Stmt, more_of-Stmt}
use Rattle.step_meaning.specs.declared.stmt.Stmt.TheVariants as s
use Rattle.step_meaning.specs.declared.program.Declared.{Declared}
use Rattle.step_meaning.specs.declared.program.Layout.{Layout}
use Rattle.step_meaning.specs.declared.program.Function.{Function}
use Rattle.step_meaning.specs.declared.program.Core.{Core}
use Rattle.step_meaning.specs.Settings.{setting_of}
use Rattle.step_meaning.specs.TypeRules.{are_layouts, keeps_rules, is_result_type}
use Rattle.step_meaning.specs.ExpressionTypes.{pointer_to}
use Rattle.step_meaning.specs.Identifiers.{keywords, is_keyword, is_name}
use Rattle.step_meaning.specs.StatementRules.{StatementFits}
use Rattle.step_meaning.specs.Runs.{run}
use Rattle.step_meaning.specs.FaultsHalt.{FaultsHalt}
use Rattle.step_meaning.specs.WellFormed.{IsWellFormed, IsWellFormedFunction}
use Rattle.step_meaning.proofs.Examples.{declared, int, array_of, lit, local, return}
use Rattle.step_meaning.proofs.WellFormedExamples.{named, char, node, node_layout, getchar, putchar, malloc, free, add, main, main_with, adding}

refuted : {A : Type 0} → IsTrue false → A
refuted e = absurd (no e)
  where
    no : false ≡ true → ⊥
    no e = cc

-- ---- structs

abbrev structs : List Declared → List Layout
structs members = record { tag = codes "node"; members = members } ∷ []

-- struct node { };
no_member : IsWellFormed (record adding { layouts = structs [] }) → ⊥
no_member w = refuted w.structs

-- struct node { int value; struct node next; };
itself_as_member : IsWellFormed (record adding { layouts = structs (named (codes "value") int ∷ named (codes "next") node ∷ []) }) → ⊥
itself_as_member w = refuted w.structs

-- a pointer to a struct that isn't there, or comes later
later_struct : are_layouts (structs (named (codes "value") int ∷ named (codes "next") (pointer_to (type.Struct 1)) ∷ [])) ≡ false
later_struct = refl

-- struct node { int value; struct node (*next)[2]; };
array_of_itself : are_layouts (structs (named (codes "value") int ∷ named (codes "next") (pointer_to (array_of node 2)) ∷ [])) ≡ false
array_of_itself = refl

-- struct node { int value; struct node **next; }; struct pair { struct node first; };
pointer_to_pointer : are_layouts (record { tag = []; members = named [] int ∷ named [] (pointer_to (pointer_to node)) ∷ [] } ∷ record { tag = []; members = named [] node ∷ [] } ∷ []) ≡ true
pointer_to_pointer = refl

-- ---- types

-- void x; void *x; int x[0]; struct node x; and a struct without definition
void_object : keeps_rules adding.layouts type.Void ≡ false
void_object = refl

pointer_to_void : keeps_rules adding.layouts (pointer_to type.Void) ≡ false
pointer_to_void = refl

array_of_none : keeps_rules adding.layouts (array_of int 0) ≡ false
array_of_none = refl

struct_object : keeps_rules adding.layouts node ≡ true
struct_object = refl

unknown_struct : keeps_rules adding.layouts (type.Struct 1) ≡ false
unknown_struct = refl

pointer_to_unknown : keeps_rules adding.layouts (pointer_to (type.Struct 1)) ≡ false
pointer_to_unknown = refl

-- int x[65536]; int x[65537]; int (*x)[65537]; struct node x[32769];
greatest_array : keeps_rules adding.layouts (array_of int 65536) ≡ true
greatest_array = refl

too_great_array : keeps_rules adding.layouts (array_of int 65537) ≡ false
too_great_array = refl

pointer_to_too_great : keeps_rules adding.layouts (pointer_to (array_of int 65537)) ≡ false
pointer_to_too_great = refl

too_great_structs : keeps_rules adding.layouts (array_of node 32769) ≡ false
too_great_structs = refl

-- struct { int a[65536]; int b; }
too_great_struct : are_layouts (structs (named (codes "a") (array_of int 65536) ∷ named (codes "b") int ∷ [])) ≡ false
too_great_struct = refl

-- the result of a function: void, struct node *, struct node, int (*)[3]
void_result : is_result_type adding.layouts type.Void ≡ true
void_result = refl

struct_pointer_result : is_result_type adding.layouts (pointer_to node) ≡ true
struct_pointer_result = refl

struct_result : is_result_type adding.layouts node ≡ false
struct_result = refl

array_pointer_result : is_result_type adding.layouts (pointer_to (array_of int 3)) ≡ false
array_pointer_result = refl

-- ---- variables of file scope

-- void *list;
void_pointer_global : IsWellFormed (record adding { globals = named (codes "list") (pointer_to type.Void) ∷ named (codes "where") (pointer_to int) ∷ [] }) → ⊥
void_pointer_global w = refuted w.globals

-- an array as a ghost variable
ghost_array : IsWellFormed (record adding { ghosts = named (codes "__g") (array_of int 2) ∷ [] }) → ⊥
ghost_array w = refuted w.ghosts

-- ---- functions

-- `getchar` isn't the first function
getchar_elsewhere : IsWellFormed (record adding { functions = putchar ∷ getchar ∷ malloc ∷ free ∷ add ∷ main ∷ [] }) → ⊥
getchar_elsewhere w = refuted w.getchar

-- `putchar` has a body
putchar_with_body : IsWellFormed (record adding { functions = getchar ∷ record putchar { body = Some [] } ∷ malloc ∷ free ∷ add ∷ main ∷ [] }) → ⊥
putchar_with_body w = refuted w.putchar

-- `malloc` gives back an `int *`, `free` isn't the function 3, `malloc` has a second local, and `free` a register
int_malloc : IsWellFormed (record adding { functions = getchar ∷ putchar ∷ record malloc { result = pointer_to int } ∷ free ∷ add ∷ main ∷ [] }) → ⊥
int_malloc w = refuted w.malloc

free_elsewhere : IsWellFormed (record adding { functions = getchar ∷ putchar ∷ malloc ∷ add ∷ free ∷ main ∷ [] }) → ⊥
free_elsewhere w = refuted w.free

malloc_with_local : IsWellFormed (record adding { functions = getchar ∷ putchar ∷ record malloc { locals = declared (type.Int kind.ULong) ∷ declared int ∷ [] } ∷ free ∷ add ∷ main ∷ [] }) → ⊥
malloc_with_local w = refuted w.malloc

free_with_register : IsWellFormed (record adding { functions = getchar ∷ putchar ∷ malloc ∷ record free { registers = declared int ∷ [] } ∷ add ∷ main ∷ [] }) → ⊥
free_with_register w = refuted w.free

abbrev with_main : Function → Core
with_main f = record adding { functions = getchar ∷ putchar ∷ malloc ∷ free ∷ add ∷ f ∷ [] }

-- no `main`, `main` without a body, of another name, with a parameter, with another result
no_main : IsWellFormed (record adding { start = 6 }) → ⊥
no_main w = refuted w.main

main_without_body : IsWellFormed (with_main (record main { body = None })) → ⊥
main_without_body w = refuted w.main

another_start : IsWellFormed (record adding { start = 4 }) → ⊥
another_start w = refuted w.main

main_with_parameter : IsWellFormed (with_main (record main { params = 1 })) → ⊥
main_with_parameter w = refuted w.main

void_main : IsWellFormed (with_main (record main { result = type.Void })) → ⊥
void_main w = refuted w.main

abbrev with_add : Function → Core
with_add f = record adding { functions = getchar ∷ putchar ∷ malloc ∷ free ∷ f ∷ main ∷ [] }

add_of : {f : Function} → IsWellFormed (with_add f) → IsWellFormedFunction (with_add f) f
add_of w = w.functions.1.1.0

main_of : (f : Function) → IsWellFormed (with_main f) → IsWellFormedFunction (with_main f) f
main_of f w = w.functions.1.1.1.0

-- another function takes a pointer to `void`
void_pointer_parameter : IsWellFormed (with_add (record add { params = 1; locals = named (codes "q") (pointer_to type.Void) ∷ named (codes "c") char ∷ [] })) → ⊥
void_pointer_parameter w = refuted (add_of w).parameters

-- the result is a struct
struct_function : IsWellFormed (with_add (record add { result = node })) → ⊥
struct_function w = refuted (add_of w).result

-- more parameters than locals, and a parameter that is an array
missing_parameter : IsWellFormed (with_add (record add { params = 3 })) → ⊥
missing_parameter w = refuted (add_of w).parameters_first

array_parameter : IsWellFormed (with_add (record add { locals = named (codes "q") (pointer_to int) ∷ named (codes "c") (array_of char 2) ∷ [] })) → ⊥
array_parameter w = refuted (add_of w).parameters

-- a local, a register and a ghost variable of a wrong type
void_local : IsWellFormed (with_main (record main { locals = named (codes "i") int ∷ named (codes "v") type.Void ∷ [] })) → ⊥
void_local w = refuted (main_of (record main { locals = named (codes "i") int ∷ named (codes "v") type.Void ∷ [] }) w).locals

array_register : IsWellFormed (with_main (record main { registers = named (codes "__r") (array_of int 2) ∷ [] })) → ⊥
array_register w = refuted (main_of (record main { registers = named (codes "__r") (array_of int 2) ∷ [] }) w).registers

struct_ghost : IsWellFormed (with_main (record main { ghosts = named (codes "__g") node ∷ [] })) → ⊥
struct_ghost w = refuted (main_of (record main { ghosts = named (codes "__g") node ∷ [] }) w).ghosts

-- ---- statements

-- int main(void) { int i; S return 0; }
abbrev doing : Stmt → Function
doing x = main_with (s.Empty ∷ x ∷ return (lit 0) ∷ [])

abbrev Fits : Stmt → Type 0
Fits x = StatementFits (with_main (doing x)) (doing x) (setting_of (with_main (doing x)) (doing x)) false x

statement_of : (x : Stmt) → IsWellFormed (with_main (doing x)) → Fits x
statement_of x w = (main_of (doing x) w).body.1.1.0

-- an expression without a type: the value of a variable that isn't there
no_type : IsWellFormed (with_main (doing (s.Eval (e.Load (local 1) int)))) → ⊥
no_type w = refuted (statement_of (s.Eval (e.Load (local 1) int)) w)

-- if ((void) 0) ; and while ((void) 0) ;
abbrev void_value : Expr
void_value = e.Discard' tt (more_of-Expr (lit 0) end_of-Expr)

abbrev if_void : Stmt
if_void = s.If' void_value tt (more_of-Stmt s.Empty end_of-Stmt) tt (more_of-Stmt s.Empty end_of-Stmt)

void_condition : IsWellFormed (with_main (doing if_void)) → ⊥
void_condition w = refuted (statement_of if_void w).0

abbrev while_void : Stmt
while_void = s.While' void_value tt (more_of-Stmt s.Empty end_of-Stmt)

void_test : IsWellFormed (with_main (doing while_void)) → ⊥
void_test w = refuted (statement_of while_void w).0

-- break; continue; and both in a loop
stray_break : IsWellFormed (with_main (doing s.Break)) → ⊥
stray_break w = refuted (statement_of s.Break w)

stray_continue : IsWellFormed (with_main (doing s.Continue)) → ⊥
stray_continue w = refuted (statement_of s.Continue w)

break_in_loop : Fits (s.While' (lit 1) tt (more_of-Stmt (s.If' (lit 1) tt (more_of-Stmt s.Break end_of-Stmt) tt (more_of-Stmt s.Continue end_of-Stmt)) end_of-Stmt))
break_in_loop = (refl, (refl, refl, refl))

-- return; in `main`, return 0; in a function without a value, return (void) 0;
return_nothing : IsWellFormed (with_main (doing (s.Return None))) → ⊥
return_nothing w = refuted (statement_of (s.Return None) w)

abbrev silent : Function
silent = record add { result = type.Void; body = Some (return (lit 0) ∷ []) }

return_something : IsWellFormed (with_add silent) → ⊥
return_something w = refuted (add_of w).body.1.0

return_void : IsWellFormed (with_main (doing (return void_value))) → ⊥
return_void w = refuted (statement_of (return void_value) w)

-- a cell of an initialised local: right, at an offset without a cell, of another type, of a variable of file scope, of a parameter
abbrev variable : NameKind → Variable
variable k = record { kind = k; index = 0 }

initialised_local : Fits (s.Init (variable names.Local) 0 int (lit 1))
initialised_local = refl

initialised_past : IsWellFormed (with_main (doing (s.Init (variable names.Local) 1 int (lit 1)))) → ⊥
initialised_past w = refuted (statement_of (s.Init (variable names.Local) 1 int (lit 1)) w)

initialised_char : IsWellFormed (with_main (doing (s.Init (variable names.Local) 0 char (e.Convert' kind.Char tt (more_of-Expr (lit 1) end_of-Expr))))) → ⊥
initialised_char w = refuted (statement_of (s.Init (variable names.Local) 0 char (e.Convert' kind.Char tt (more_of-Expr (lit 1) end_of-Expr))) w)

initialised_global : IsWellFormed (with_main (doing (s.Init (variable names.Global) 0 int (lit 1)))) → ⊥
initialised_global w = refuted (statement_of (s.Init (variable names.Global) 0 int (lit 1)) w)

abbrev initialising_parameter : Function
initialising_parameter = record add { body = Some (s.Init (variable names.Local) 0 (pointer_to int) e.Null ∷ return (lit 0) ∷ []) }

initialised_parameter : IsWellFormed (with_add initialising_parameter) → ⊥
initialised_parameter w = refuted (add_of w).body.1.0

-- an assertion of monitor 0, and of monitor 17
abbrev asserting : ℕ → Stmt
asserting k = s.Assert Safe k is.True

monitor_zero : IsWellFormed (with_main (doing (asserting 0))) → ⊥
monitor_zero w = refuted (statement_of (asserting 0) w).0

monitor_seventeen : IsWellFormed (with_main (doing (asserting 17))) → ⊥
monitor_seventeen w = refuted (statement_of (asserting 17) w).0

-- a call of `main`, of a function without a body, and of one that isn't there
abbrev calling : ℕ → Stmt
calling f = s.Eval (e.Invoke' f [] end_of-Expr)

calls_main : IsWellFormed (with_main (doing (calling 5))) → ⊥
calls_main w = refuted (statement_of (calling 5) w)

calls_getchar : IsWellFormed (with_main (doing (calling 0))) → ⊥
calls_getchar w = refuted (statement_of (calling 0) w)

calls_none : IsWellFormed (with_main (doing (calling 6))) → ⊥
calls_none w = refuted (statement_of (calling 6) w)

-- ---- names

-- _0 is a name; while, _Thread_local, 0x, a-b and the empty text are none
underscore : is_name (codes "_0") ≡ true
unfolding is_keyword keywords
underscore = refl

keyword : is_name (codes "while") ≡ false
unfolding is_keyword keywords
keyword = refl

last_keyword : is_name (codes "_Thread_local") ≡ false
unfolding is_keyword keywords
last_keyword = refl

digit_first : is_name (codes "0x") ≡ false
unfolding is_keyword keywords
digit_first = refl

minus_within : is_name (codes "a-b") ≡ false
unfolding is_keyword keywords
minus_within = refl

no_letter : is_name [] ≡ false
unfolding is_keyword keywords
no_letter = refl

-- int while;
keyword_global : IsWellFormed (record adding { globals = named (codes "while") node ∷ named (codes "where") (pointer_to int) ∷ [] }) → ⊥
unfolding is_keyword keywords
keyword_global w = refuted w.file_names

-- a function without a name
nameless_function : IsWellFormed (with_add (record add { name = [] })) → ⊥
unfolding is_keyword keywords
nameless_function w = refuted w.file_names

-- int add; beside the function
one_name_twice : IsWellFormed (record adding { globals = named (codes "add") node ∷ named (codes "where") (pointer_to int) ∷ [] }) → ⊥
one_name_twice w = refuted w.distinct_names

-- int for; in a body
keyword_local : IsWellFormed (with_add (record add { locals = named (codes "q") (pointer_to int) ∷ named (codes "for") char ∷ [] })) → ⊥
unfolding is_keyword keywords
keyword_local w = refuted (add_of w).names

-- struct int { .. };
keyword_tag : IsWellFormed (record adding { layouts = record node_layout { tag = codes "int" } ∷ [] }) → ⊥
unfolding is_keyword keywords
keyword_tag w = refuted w.tags

-- two structs of one tag
one_tag_twice : IsWellFormed (record adding { layouts = node_layout ∷ node_layout ∷ [] }) → ⊥
one_tag_twice w = refuted w.distinct_tags

-- struct node { int next; struct node *next; };
one_member_twice : IsWellFormed (record adding { layouts = structs (named (codes "next") int ∷ named (codes "next") (pointer_to node) ∷ []) }) → ⊥
unfolding is_keyword keywords
one_member_twice w = refuted w.member_names

-- struct node { int long; struct node *next; };
keyword_member : IsWellFormed (record adding { layouts = structs (named (codes "long") int ∷ named (codes "next") (pointer_to node) ∷ []) }) → ⊥
unfolding is_keyword keywords
keyword_member w = refuted w.member_names

-- ---- what an ill-formed program may do

-- the run of `break;` in a body ends by a fault that is no step
break_run : FaultsHalt (run (with_main (doing s.Break)) [] 5) → ⊥
break_run h = no h
  where
    no : {q : List Value} → act.Enter 5 q ≡ act.Halt fault.Invalid → ⊥
    no e = cc

-- and so does that of a call of a function without a body
call_run : FaultsHalt (run (with_main (doing (calling 0))) [] 5) → ⊥
call_run h = no h
  where
    no : act.Call 0 ≡ act.Halt fault.Invalid → ⊥
    no e = cc
