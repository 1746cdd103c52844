-- A small program that is well formed, and programs that break one point each. The text of each core stands above it.
use Rattle.std.proofs.Common.{ℕ, refl, List, [], ◌∷◌, Some, None, lit≤, lit<}
use Rattle.std.specs.Prelude.{pos, codes}
use Rattle.step_meaning.specs.declared.value.IntKind.TheVariants as kind
use Rattle.step_meaning.specs.declared.value.CType.{CType}
use Rattle.step_meaning.specs.declared.value.CType.TheVariants as type
use Rattle.step_meaning.specs.declared.value.NameKind.TheVariants as names
use Rattle.step_meaning.specs.declared.value.Name.{Name}
use Rattle.step_meaning.specs.declared.value.Value.TheVariants as value
use Rattle.step_meaning.specs.declared.expr.IntOp.TheVariants as op
use Rattle.step_meaning.specs.declared.expr.CompareOp.TheVariants as comparing
use Rattle.step_meaning.specs.declared.expr.UpdateOp.TheVariants as update
use Rattle.step_meaning.specs.declared.expr.Answer.TheVariants.{Before}
use Rattle.step_meaning.specs.declared.expr.Expr.{Expr, end_of-Expr, more_of-Expr}
use Rattle.step_meaning.specs.declared.expr.Expr.TheVariants as e
use Rattle.step_meaning.specs.declared.expr.Place_.{Place_, end_of-Place_, more_of-Place_}
use Rattle.step_meaning.specs.declared.expr.Place_.TheVariants as p
use Rattle.step_meaning.specs.declared.stmt.Stmt.{Stmt, end_of-Stmt, more_of-Stmt}
use Rattle.step_meaning.specs.declared.stmt.Stmt.TheVariants as s
use Rattle.step_meaning.specs.declared.program.Declared.{Declared}
use Rattle.step_meaning.specs.declared.program.Layout.{Layout}
use Rattle.step_meaning.specs.declared.program.Function.{Function}
use Rattle.step_meaning.specs.declared.program.Core.{Core}
use Rattle.step_meaning.specs.ExpressionTypes.{pointer_to}
use Rattle.step_meaning.specs.Identifiers.{keywords, is_keyword}
use Rattle.step_meaning.specs.InitialValues.{IsAddressConstant, itself, in_member}
use Rattle.step_meaning.specs.WellFormed.{IsWellFormed, IsWellFormedFunction}
use Rattle.step_meaning.proofs.Examples.{declared, int, lit, global, local, load, deref, assign, binary, convert, compare, return}

-- ---- parts of programs

abbrev pub named : List ℕ → CType → Declared
named name t = record { name = name; ctype = t }

abbrev pub char : CType
char = type.Int kind.Char

abbrev pub node : CType
node = type.Struct 0

-- the member at an offset
abbrev pub member : Place_ → ℕ → Place_
member q o = p.Member' tt (more_of-Place_ q end_of-Place_) o

-- `i++` of an `int`
abbrev pub increment : Place_ → Expr
increment q = e.Update' q int (update.Integer op.Add kind.Int) tt (more_of-Expr (lit 1) end_of-Expr) Before

abbrev pub getchar : Function
getchar = record { name = codes "getchar"; result = int; params = 0; locals = []; registers = []; ghosts = []; body = None }

abbrev pub putchar : Function
putchar = record { name = codes "putchar"; result = int; params = 1; locals = named [] int ∷ []; registers = []; ghosts = []; body = None }

-- ---- struct node { int value; struct node *next; };
-- ---- struct node list = {5, &list}; int *where = &list.value;
-- ---- int add(int *q, char c) { *q = *q + c; return *q; }
-- ---- int main(void) { int i; for (i = 0; i < 3; i++) add(where, 'a'); if (list.next) where = 0; return list.value; }

abbrev pub node_layout : Layout
node_layout = record { tag = codes "node"; members = named (codes "value") int ∷ named (codes "next") (pointer_to node) ∷ [] }

abbrev pub list : Name
list = record { kind = names.Global; activation = 0; index = 0 }

abbrev pub through_q : Place_
through_q = deref (e.Load (local 0) (pointer_to int))

-- void *malloc(unsigned long); void free(void *);
abbrev pub malloc : Function
malloc = record { name = codes "malloc"; result = pointer_to type.Void; params = 1; locals = declared (type.Int kind.ULong) ∷ []; registers = []; ghosts = []; body = None }

abbrev pub free : Function
free = record { name = codes "free"; result = type.Void; params = 1; locals = declared (pointer_to type.Void) ∷ []; registers = []; ghosts = []; body = None }

abbrev pub add : Function
add = record {
  name = codes "add";
  result = int;
  params = 2;
  locals = named (codes "q") (pointer_to int) ∷ named (codes "c") char ∷ [];
  registers = [];
  ghosts = [];
  body = Some (s.Eval (assign through_q int (binary op.Add kind.Int (load through_q) (convert kind.Int (e.Load (local 1) char)))) ∷ return (load through_q) ∷ []);
}

abbrev pub call_add : Expr
call_add = e.Invoke' 4 (tt ∷ tt ∷ []) (more_of-Expr (e.Load (global 1) (pointer_to int)) (more_of-Expr (convert kind.Char (lit 97)) end_of-Expr))

abbrev pub main_with : List Stmt → Function
main_with body = record { name = codes "main"; result = int; params = 0; locals = named (codes "i") int ∷ []; registers = []; ghosts = []; body = Some body }

abbrev pub main : Function
main = main_with
    (s.Empty
    ∷ s.Eval (assign (local 0) int (lit 0))
    ∷ s.For' (Some (compare comparing.Less (load (local 0)) (lit 3))) (Some (increment (local 0))) tt (more_of-Stmt (s.Eval call_add) end_of-Stmt)
    ∷ s.If' (e.Load (member (global 0) 1) (pointer_to node)) tt (more_of-Stmt (s.Eval (assign (global 1) (pointer_to int) e.Null)) end_of-Stmt) tt (more_of-Stmt s.Empty end_of-Stmt)
    ∷ return (load (member (global 0) 0))
    ∷ [])

abbrev pub adding : Core
adding = record {
  layouts = node_layout ∷ [];
  globals = named (codes "list") node ∷ named (codes "where") (pointer_to int) ∷ [];
  initial = (value.Int (pos 5) ∷ value.Pointer list 0 ∷ []) ∷ (value.Pointer list 0 ∷ []) ∷ [];
  ghosts = [];
  functions = getchar ∷ putchar ∷ malloc ∷ free ∷ add ∷ main ∷ [];
  start = 5;
}

getchar_fits : IsWellFormedFunction adding getchar
getchar_fits = record { result = refl; parameters_first = refl; parameters = refl; locals = refl; registers = refl; ghosts = refl; body = tt; names = tt }

putchar_fits : IsWellFormedFunction adding putchar
putchar_fits = record { result = refl; parameters_first = refl; parameters = refl; locals = refl; registers = refl; ghosts = refl; body = tt; names = tt }

add_fits : IsWellFormedFunction adding add
unfolding is_keyword keywords
add_fits = record { result = refl; parameters_first = refl; parameters = refl; locals = refl; registers = refl; ghosts = refl; body = (tt, (refl, (refl, tt))); names = refl }

main_fits : IsWellFormedFunction adding main
unfolding is_keyword keywords
main_fits = record { result = refl; parameters_first = refl; parameters = refl; locals = refl; registers = refl; ghosts = refl; body = (tt, (tt, (refl, ((refl, refl), ((refl, refl, tt), (refl, tt)))))); names = refl }

-- `&list` and `&list.value`
to_node : IsAddressConstant adding 0 node list 0
to_node = record { file_scope = refl; no_activation = refl; no_later = lit≤ tt; part = (lit< tt, itself refl refl) }

to_value : IsAddressConstant adding 1 int list 0
to_value = record { file_scope = refl; no_activation = refl; no_later = lit≤ tt; part = (lit< tt, in_member int 0 0 refl refl (itself refl refl)) }

pub adding_well_formed : IsWellFormed adding
unfolding is_keyword keywords
adding_well_formed = record {
  structs = refl;
  globals = refl;
  initial = ((refl, (to_node, tt)), ((to_value, tt), tt));
  ghosts = refl;
  getchar = refl;
  putchar = refl;
  malloc = refl;
  free = refl;
  main = refl;
  functions = (getchar_fits, (putchar_fits, (add_fits, (main_fits, tt))));
  file_names = refl;
  distinct_names = refl;
  tags = refl;
  distinct_tags = refl;
  member_names = refl;
}
