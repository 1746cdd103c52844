-- The code of each form of expression and lvalue, over the code of its parts.
use Rattle.std.proofs.Common.{rules, ◌≡◌, ℕ, suc, List, [], ◌∷◌, ◌++◌, map, Option, Some, None, refl, sym, ap, ◌∙◌, append_assoc, append-nil}
use Rattle.std.specs.Prelude.{ℤ}
use denote.Hole.Carrier.{hidden}
use Rattle.step_meaning.specs.declared.value.IntKind.{IntKind}
use Rattle.step_meaning.specs.declared.value.CType.{CType}
use Rattle.step_meaning.specs.declared.expr.IntOp.{IntOp}
use Rattle.step_meaning.specs.declared.expr.UnaryOp.{UnaryOp}
use Rattle.step_meaning.specs.declared.expr.CompareOp.{CompareOp}
use Rattle.step_meaning.specs.declared.expr.Side.{Side}
use Rattle.step_meaning.specs.declared.expr.Answer.{Answer}
use Rattle.step_meaning.specs.declared.expr.UpdateOp.{UpdateOp}
use Rattle.step_meaning.specs.declared.expr.Variable.{Variable}
use Rattle.step_meaning.specs.declared.expr.Expr.{Expr}
use Rattle.step_meaning.specs.declared.expr.Expr.TheVariants as e
use Rattle.step_meaning.specs.declared.expr.Place_.{Place_}
use Rattle.step_meaning.specs.declared.expr.Expr.TheBlock.{shape-the_row-Expr-0, hidden-the_row-Expr-0, shape-the_row-Expr-1, hidden-the_row-Expr-1, shape-the_row-Place_-2, hidden-the_row-Place_-2}
use Rattle.step_meaning.specs.Settings.{variable_type}
use Rattle.normal_laws.specs.NormalForm as form
use Rattle.normal_expressions.specs.declared.scope.Scope.{Scope}
use Rattle.normal_expressions.specs.Code.{setting_in, expression_code_in, place_code_in, arguments_code_in, result_in, load_in, address_in, convert_in, unary_in, not_in, put_char_in, malloc_in, free_in, discard_in, binary_in, compare_in, move_in, difference_in, both_in, either_in, choose_in, assign_in, update_in, invoke_in, deref_in, member_in, index_in}
use Rattle.normal_expressions.specs.Additions.{taking}

pub code_Literal : (x : Scope) (k : IntKind) (z : ℤ) (m : ℕ) → expression_code_in x (e.Literal k z) m ≡ form.without_code (form.Number k z) m
unfolding expression_code_in
code_Literal x k z m = refl

pub code_Null : (x : Scope) (m : ℕ) → expression_code_in x e.Null m ≡ form.without_code form.Nil m
unfolding expression_code_in
code_Null x m = refl

pub code_GetChar : (x : Scope) (m : ℕ) → expression_code_in x e.GetChar m ≡ taking form.int e.GetChar m
unfolding expression_code_in
code_GetChar x m = refl

pub code_Load : (x : Scope) (p : Place_) (t : CType) (m : ℕ) → expression_code_in x (e.Load p t) m ≡ load_in x p t m
unfolding expression_code_in load_in place_code_in
code_Load x p t m = refl

pub code_Address : (x : Scope) (p : Place_) (t : CType) (m : ℕ) → expression_code_in x (e.Address p t) m ≡ address_in x p t m
unfolding expression_code_in address_in place_code_in
code_Address x p t m = refl

pub code_Convert : (x : Scope) (k : IntKind) (a : Expr) (m : ℕ) → expression_code_in x (e.Convert k a) m ≡ convert_in x k a m
unfolding expression_code_in convert_in shape-the_row-Expr-0 hidden-the_row-Expr-0 hidden
code_Convert x k a m = refl

pub code_Unary : (x : Scope) (o : UnaryOp) (k : IntKind) (a : Expr) (m : ℕ) → expression_code_in x (e.Unary o k a) m ≡ unary_in x o k a m
unfolding expression_code_in unary_in shape-the_row-Expr-0 hidden-the_row-Expr-0 hidden
code_Unary x o k a m = refl

pub code_Not : (x : Scope) (a : Expr) (m : ℕ) → expression_code_in x (e.Not a) m ≡ not_in x a m
unfolding expression_code_in not_in shape-the_row-Expr-0 hidden-the_row-Expr-0 hidden
code_Not x a m = refl

pub code_PutChar : (x : Scope) (a : Expr) (m : ℕ) → expression_code_in x (e.PutChar a) m ≡ put_char_in x a m
unfolding expression_code_in put_char_in shape-the_row-Expr-0 hidden-the_row-Expr-0 hidden
code_PutChar x a m = refl

pub code_Malloc : (x : Scope) (a : Expr) (t : CType) (m : ℕ) → expression_code_in x (e.Malloc a t) m ≡ malloc_in x a t m
unfolding expression_code_in malloc_in shape-the_row-Expr-0 hidden-the_row-Expr-0 hidden
code_Malloc x a t m = refl

pub code_Free : (x : Scope) (a : Expr) (m : ℕ) → expression_code_in x (e.Free a) m ≡ free_in x a m
unfolding expression_code_in free_in shape-the_row-Expr-0 hidden-the_row-Expr-0 hidden
code_Free x a m = refl

pub code_Discard : (x : Scope) (a : Expr) (m : ℕ) → expression_code_in x (e.Discard a) m ≡ discard_in x a m
unfolding expression_code_in discard_in shape-the_row-Expr-0 hidden-the_row-Expr-0 hidden
code_Discard x a m = refl

pub code_Binary : (x : Scope) (o : IntOp) (k : IntKind) (a b : Expr) (m : ℕ) → expression_code_in x (e.Binary o k a b) m ≡ binary_in x o k a b m
unfolding expression_code_in binary_in shape-the_row-Expr-0 hidden-the_row-Expr-0 hidden
code_Binary x o k a b m = refl

pub code_Compare : (x : Scope) (o : CompareOp) (a b : Expr) (m : ℕ) → expression_code_in x (e.Compare o a b) m ≡ compare_in x o a b m
unfolding expression_code_in compare_in shape-the_row-Expr-0 hidden-the_row-Expr-0 hidden
code_Compare x o a b m = refl

pub code_Move : (x : Scope) (a b : Expr) (size : ℕ) (side : Side) (m : ℕ) → expression_code_in x (e.Move a b size side) m ≡ move_in x a b size side m
unfolding expression_code_in move_in shape-the_row-Expr-0 hidden-the_row-Expr-0 hidden
code_Move x a b size side m = refl

pub code_Difference : (x : Scope) (a b : Expr) (unit : ℕ) (m : ℕ) → expression_code_in x (e.Difference a b unit) m ≡ difference_in x a b unit m
unfolding expression_code_in difference_in shape-the_row-Expr-0 hidden-the_row-Expr-0 hidden
code_Difference x a b unit m = refl

pub code_Both : (x : Scope) (a b : Expr) (m : ℕ) → expression_code_in x (e.Both a b) m ≡ both_in x a b m
unfolding expression_code_in both_in shape-the_row-Expr-0 hidden-the_row-Expr-0 hidden
code_Both x a b m = refl

pub code_Either : (x : Scope) (a b : Expr) (m : ℕ) → expression_code_in x (e.Either a b) m ≡ either_in x a b m
unfolding expression_code_in either_in shape-the_row-Expr-0 hidden-the_row-Expr-0 hidden
code_Either x a b m = refl

pub code_Choose : (x : Scope) (a b c : Expr) (m : ℕ) → expression_code_in x (e.Choose a b c) m ≡ choose_in x a b c m
unfolding expression_code_in choose_in shape-the_row-Expr-0 hidden-the_row-Expr-0 hidden
code_Choose x a b c m = refl

pub code_Assign : (x : Scope) (p : Place_) (t : CType) (a : Expr) (m : ℕ) → expression_code_in x (e.Assign p t a) m ≡ assign_in x p t a m
unfolding expression_code_in assign_in place_code_in shape-the_row-Expr-0 hidden-the_row-Expr-0 hidden
code_Assign x p t a m = refl

pub code_Update : (x : Scope) (p : Place_) (t : CType) (o : UpdateOp) (a : Expr) (w : Answer) (m : ℕ) → expression_code_in x (e.Update p t o a w) m ≡ update_in x p t o a w m
unfolding expression_code_in update_in place_code_in shape-the_row-Expr-0 hidden-the_row-Expr-0 hidden
code_Update x p t o a w m = refl

arguments_of : (x : Scope) (es : List Expr) (m : ℕ) → form.arguments_code x.core.now (setting_in x) (hidden-the_row-Expr-1 es) m ≡ arguments_code_in x es m
unfolding expression_code_in arguments_code_in shape-the_row-Expr-1 hidden-the_row-Expr-1 hidden
arguments_of x [] m = refl
arguments_of x (a ∷ es) m =
    let A = expression_code_in x a m in
    ap (λ (B : form.Codes). record { code = A.code ++ B.code; values = A.value ∷ B.values; next = B.next; types = A.types ++ B.types }) (arguments_of x es A.next)

pub code_Invoke : (x : Scope) (f : ℕ) (es : List Expr) (m : ℕ) → expression_code_in x (e.Invoke f es) m ≡ invoke_in x f es m
unfolding expression_code_in invoke_in result_in shape-the_row-Expr-1 hidden-the_row-Expr-1 hidden
code_Invoke x f es m = ap (form.invoke_code f (result_in x f)) (arguments_of x es m)

pub ruleset expressions = (append-nil, code_Literal, code_Null, code_GetChar, code_Load, code_Address, code_Convert, code_Unary, code_Not, code_PutChar, code_Malloc, code_Free, code_Discard, code_Binary, code_Compare, code_Move, code_Difference, code_Both, code_Either, code_Choose, code_Assign, code_Update, code_Invoke)

-- ---- lvalues

pub code_Own : (x : Scope) (v : Variable) (m : ℕ) → place_code_in x (e.Own v) m ≡ form.named_code v (form.or_void (variable_type (setting_in x) v)) m
unfolding place_code_in
code_Own x v m = refl

pub code_Deref : (x : Scope) (a : Expr) (m : ℕ) → place_code_in x (e.Deref a) m ≡ deref_in x a m
unfolding place_code_in deref_in expression_code_in shape-the_row-Expr-0 hidden-the_row-Expr-0 hidden
code_Deref x a m = refl

pub code_Member : (x : Scope) (p : Place_) (o : ℕ) (m : ℕ) → place_code_in x (e.Member p o) m ≡ member_in x p o m
unfolding place_code_in member_in shape-the_row-Place_-2 hidden-the_row-Place_-2 hidden
code_Member x p o m = refl

pub code_Index : (x : Scope) (p : Place_) (a : Expr) (size : ℕ) (m : ℕ) → place_code_in x (e.Index p a size) m ≡ index_in x p a size m
unfolding place_code_in index_in expression_code_in shape-the_row-Expr-0 hidden-the_row-Expr-0 shape-the_row-Place_-2 hidden-the_row-Place_-2 hidden
code_Index x p a size m = refl

pub ruleset places = (append-nil, code_Own, code_Deref, code_Member, code_Index)

-- ---- arguments

pub no_arguments : (x : Scope) (m : ℕ) → arguments_code_in x [] m ≡ record { code = []; values = []; next = m; types = [] }
unfolding arguments_code_in
no_arguments x m = refl

pub more_arguments : (x : Scope) (a : Expr) (es : List Expr) (m : ℕ) → arguments_code_in x (a ∷ es) m ≡ (let A = expression_code_in x a m in let B = arguments_code_in x es A.next in record { code = A.code ++ B.code; values = A.value ∷ B.values; next = B.next; types = A.types ++ B.types })
unfolding arguments_code_in
more_arguments x a es m = refl
