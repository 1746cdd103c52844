-- The core of each expression of a source has short calls and shallow types, and the statements that compute it nest as little as the text says.
use Rattle.std.proofs.Common.{◌≡◌, ℕ, zero, suc, pred, ◌+◌, ◌≤◌, max, Bool, true, false, not, List, [], ◌∷◌, length, Option, Some, None, refl, ap, subst, ◌∙◌, arith}
use Rattle.std.specs.Prelude.{nat_le, if◌then◌else◌, ◌==◌, codes}
use Rattle.std.specs.List.{AllByRecursion}
use Rattle.std.specs.Str.{bytes_eq}
use Rattle.std.proofs.lemmas.Bool.{le-leb, leb-true}
use Rattle.c_lexer.specs.declared.token.Place.{Place}
use Rattle.c_lexer.specs.declared.token.IntegerConstant.{IntegerConstant}
use Rattle.c_lexer.specs.Numbers.{constant_of}
use Rattle.c_words.specs.declared.word.Word.{Word}
use Rattle.c_words.specs.declared.word.Word.TheVariants as w
use Rattle.c_words.specs.declared.word.Leaf.{Leaf}
use Rattle.c_words.specs.declared.word.Mode.{Mode}
use Rattle.c_words.specs.declared.word.Mode.TheVariants as mode
use Rattle.c_grammar.specs.declared.types.Specifier.{Specifier}
use Rattle.c_grammar.specs.declared.types.Specifier.TheVariants as sp
use Rattle.step_meaning.specs.declared.value.CType.{CType}
use Rattle.step_meaning.specs.declared.expr.IntOp.{IntOp}
use Rattle.step_meaning.specs.declared.expr.IntOp.TheVariants as op
use Rattle.step_meaning.specs.declared.expr.UnaryOp.TheVariants as unary
use Rattle.step_meaning.specs.declared.expr.Answer.TheVariants.{Before, After}
use Rattle.step_meaning.specs.declared.expr.Expr.{Expr}
use Rattle.step_meaning.specs.declared.expr.Expr.TheVariants as e
use Rattle.step_meaning.specs.declared.expr.Expr.TheBlock.{shape-the_row-Expr-0, hidden-the_row-Expr-0, shape-the_row-Expr-1, hidden-the_row-Expr-1}
use Rattle.step_meaning.specs.TermSizes.{type_depth}
use Rattle.step_meaning.specs.ExpressionTypes.{pointer_to}
use Rattle.step_meaning.specs.Sources.{argument_count, row_has_short_calls, in_branch, branching, row_branching}
use Rattle.step_meaning.proofs.Ranges.{and_true}
use Rattle.step_meaning.proofs.TypedMemory.{WhereSome}
use Rattle.typing_rules.specs.declared.operand.Entry.{Entry}
use Rattle.typing_rules.specs.declared.operand.Entry.TheVariants.{Variable, Function}
use Rattle.typing_rules.specs.declared.operand.Operand.{Operand}
use Rattle.typing_rules.specs.declared.operand.Value.{Value}
use Rattle.typing_rules.specs.declared.operand.What.{What}
use Rattle.typing_rules.specs.declared.operand.What.TheVariants.{At, Made}
use Rattle.typing_rules.specs.declared.fault.TypeFault.{TypeFault}
use Rattle.typing_rules.specs.declared.fault.TypeFault.TheVariants.{TooLarge}
use Rattle.typing_rules.specs.Checked.{Checked, ◌>>=◌, none_of, unless, kept}
use Rattle.typing_rules.specs.Syntax.{Spelled, Expression, Expressions, Name, Number, Character, Paren, Call, Index, Member, Arrow, Increment, Decrement, Prefix, Cast, SizeOf, SizeOfType, Binary, Choose, Assign, NoMore, Then}
use Rattle.typing_rules.specs.Nodes.{nodes, all_nodes}
use Rattle.typing_rules.specs.Environment.{Environment, Scope, place_of, bytes_in, found_in, or_else, found, entry, specified, with_stars, spelled_type}
use Rattle.typing_rules.specs.Judgements.{shape, is_integer_shape, is_pointer, is_null, operator_of, compound_of}
use Rattle.typing_rules.specs.Operands.{zero_literal, value, condition}
use Rattle.typing_rules.specs.Subobjects.{base_of}
use Rattle.typing_rules.specs.Allocation.{Request, operand_type, type_of_object, one_object, objects, product, is_allocated, allocated, freed}
use Rattle.typing_rules.specs.Expressions.{literal, numbered, is_malloc_number, is_free_number, is_star, named, called_core, called, malloc_called, free_called, called_entry, fitted_argument, tail, prefixed, assigned_by, operand, arguments, only_value, only_request, requested, measured, most_nodes, full}
use Rattle.typing_laws.specs.SmallTypes.{WhereOk}
use Rattle.typing_laws.specs.ShallowSyntax.{nest, arguments_nest, is_branch, turns, arguments_turns}
use Rattle.typing_laws.proofs.CheckedValues.{then_holds, then_known, kept_holds, if_holds, weaker}
use Rattle.typing_laws.proofs.PlainCores.{both_below, PlainCore, ShallowValue, ShallowObject, PlainWhat, PlainOperand, PlainValue, one_part, null_plain, brought_plain, value_plain, condition_plain, shallow_integer, right_turns}
use Rattle.typing_laws.proofs.PlainOperators.{combined_plain, choice_plain, cast_plain, promoting_plain, unary_plain, negation_plain, address_plain, dereferenced_plain, fitted_plain}
use Rattle.typing_laws.proofs.PlainObjects.{IsShallowType, ShallowMembers, object_shallow, assigned_plain, compound_plain, stepped_plain, PlainBase, base_plain, indexed_plain, dot_plain, arrow_plain}
use denote.Hole.Carrier.{hidden}

-- ---- what names stand for

abbrev pub EntryShallow : Entry → Type 0
EntryShallow (Variable v t) = IsShallowType 65 t
EntryShallow (Function f r ts) = IsShallowType 66 r

abbrev pub ScopeShallow : Scope → Type 0
ScopeShallow scope = AllByRecursion (λ x. EntryShallow x.1) scope

pub record EnvironmentShallow (g : Environment) : Type 0 where
  pub names : AllByRecursion ScopeShallow g.scopes
  pub members : ShallowMembers g.layouts

one_of : {A : Type 0} (P : A → Type 0) (b : Bool) (a : A) (o : Option A) → P a → WhereSome P o → WhereSome P (if b then Some a else o)
one_of P true a o h j = h
one_of P false a o h j = j

either : (o q : Option Entry) → WhereSome EntryShallow o → WhereSome EntryShallow q → WhereSome EntryShallow (or_else o q)
either None q h j = j
either (Some x) q h j = h

in_scope : (name : List ℕ) (scope : Scope) → ScopeShallow scope → WhereSome EntryShallow (found_in scope name)
unfolding found_in
in_scope name [] h = tt
in_scope name (p ∷ ps) h = one_of EntryShallow (bytes_eq p.0 name) p.1 (found_in ps name) h.0 (in_scope name ps h.1)

in_scopes : (name : List ℕ) (scopes : List Scope) → AllByRecursion ScopeShallow scopes → WhereSome EntryShallow (found scopes name)
unfolding found
in_scopes name [] h = tt
in_scopes name (scope ∷ outer) h = either (found_in scope name) (found outer name) (in_scope name scope h.0) (in_scopes name outer h.1)

-- ---- numbers

mutual
  pub turns_positive : (x : Expression) → 1 ≤ turns x
  turns_positive (Name t) = omega arith
  turns_positive (Number t) = omega arith
  turns_positive (Character t) = omega arith
  turns_positive (Paren t x) = turns_positive x
  turns_positive (Call t xs) = arguments_positive xs
  turns_positive (Index x t i) = let h : 1 ≤ turns x = turns_positive x in omega arith
  turns_positive (Member x t m) = turns_positive x
  turns_positive (Arrow x t m) = turns_positive x
  turns_positive (Increment x t) = turns_positive x
  turns_positive (Decrement x t) = turns_positive x
  turns_positive (Prefix t x) = turns_positive x
  turns_positive (Cast t u x) = turns_positive x
  turns_positive (SizeOf t x) = omega arith
  turns_positive (SizeOfType t u) = omega arith
  turns_positive (Binary x t y) =
      if_holds (λ n. 1 ≤ n) (is_branch t.word) (max (turns x) (in_branch (turns y))) (max (turns x) (turns y))
      (λ e. let h : 1 ≤ turns x = turns_positive x in omega arith) (λ e. let h : 1 ≤ turns x = turns_positive x in omega arith)
  turns_positive (Choose x t y z) = let h : 1 ≤ turns x = turns_positive x in omega arith
  turns_positive (Assign x t y) = let h : 1 ≤ turns x = turns_positive x in omega arith

  arguments_positive : (xs : Expressions) → 1 ≤ arguments_turns xs
  arguments_positive NoMore = omega arith
  arguments_positive (Then x xs) = let h : 1 ≤ turns x = turns_positive x in omega arith

mutual
  nodes_positive : (x : Expression) → 1 ≤ nodes x
  nodes_positive (Name t) = omega arith
  nodes_positive (Number t) = omega arith
  nodes_positive (Character t) = omega arith
  nodes_positive (Paren t x) = nodes_positive x
  nodes_positive (Call t xs) = omega arith
  nodes_positive (Index x t i) = omega arith
  nodes_positive (Member x t m) = omega arith
  nodes_positive (Arrow x t m) = omega arith
  nodes_positive (Increment x t) = omega arith
  nodes_positive (Decrement x t) = omega arith
  nodes_positive (Prefix t x) = omega arith
  nodes_positive (Cast t u x) = omega arith
  nodes_positive (SizeOf t x) = omega arith
  nodes_positive (SizeOfType t u) = omega arith
  nodes_positive (Binary x t y) = omega arith
  nodes_positive (Choose x t y z) = omega arith
  nodes_positive (Assign x t y) = omega arith

-- the right operand of an operator
right_of : (x : Word) (a b : ℕ) → right_turns (operator_of x) b ≤ (if is_branch x then max a (in_branch b) else max a b)
right_of w.OrOr a b = omega arith
right_of w.AndAnd a b = omega arith
right_of _ a b = at_right a b
  where
    at_right : (a b : ℕ) → b ≤ max a b
    at_right a b = omega arith

left_of : (c : Bool) (a b : ℕ) → a ≤ (if c then max a (in_branch b) else max a b)
left_of true a b = omega arith
left_of false a b = omega arith

-- ---- types that are spelled

stars_deep : (n : ℕ) (t : CType) → type_depth (with_stars n t) ≡ n + type_depth t
unfolding with_stars
stars_deep zero t = omega arith
stars_deep (suc n) t = stars_deep n (pointer_to t) ∙ omega arith

pub specified_deep : (g : Environment) (x : Specifier) → WhereOk (λ t. type_depth t ≡ 1) (specified g x)
unfolding specified
specified_deep g (sp.Integer x) = refl
specified_deep g (sp.Void t) = refl
specified_deep g (sp.Struct t tag) = then_known (λ (t : CType). type_depth t ≡ 1) (kept _ _) _ (λ n e. refl)

pub spelled_deep : (g : Environment) (x : Spelled) → WhereOk (λ t. type_depth t ≡ suc x.stars) (spelled_type g x)
unfolding spelled_type
spelled_deep g x =
    then_holds (λ (t : CType). type_depth t ≡ 1) (λ (t : CType). type_depth t ≡ suc x.stars) (specified g x.specifier) _ (specified_deep g x.specifier) (λ t h. stars_deep x.stars t ∙ ap (λ d. x.stars + d) h ∙ omega arith)

-- ---- names and calls

-- the arguments of a call
abbrev pub PlainArguments : ℕ → ℕ → List Expr → Type 0
PlainArguments m k xs = AllByRecursion (PlainCore m) xs × (length xs ≤ k)

-- what `malloc` is asked for
pub record PlainRequest (n m : ℕ) (r : Request) : Type 0 where
  pub core : PlainCore m r.count
  pub depth : ShallowObject n r.ctype

module _ (m : ℕ) where
  row_counted : (xs : List Expr) → argument_count (hidden-the_row-Expr-1 xs) ≡ length xs
  unfolding shape-the_row-Expr-1 hidden-the_row-Expr-1 hidden
  row_counted [] = refl
  row_counted (x ∷ xs) = ap suc (row_counted xs)

  row_short : (xs : List Expr) → AllByRecursion (PlainCore m) xs → row_has_short_calls (hidden-the_row-Expr-1 xs) ≡ true
  unfolding shape-the_row-Expr-1 hidden-the_row-Expr-1 hidden
  row_short [] h = refl
  row_short (x ∷ xs) h = and_true h.0.short (row_short xs h.1)

  row_turns : 1 ≤ m → (xs : List Expr) → AllByRecursion (PlainCore m) xs → row_branching (hidden-the_row-Expr-1 xs) ≤ m
  unfolding shape-the_row-Expr-1 hidden-the_row-Expr-1 hidden
  row_turns l [] h = l
  row_turns l (x ∷ xs) h = both_below (branching x) (row_branching (hidden-the_row-Expr-1 xs)) m h.0.turns (row_turns l xs h.1)

  short_row : (xs : List Expr) → PlainArguments m 598 xs → nat_le (argument_count (hidden-the_row-Expr-1 xs)) 598 ≡ true
  short_row xs h = ap (λ n. nat_le n 598) (row_counted xs) ∙ le-leb (length xs) 598 h.1

  invoke_plain : 1 ≤ m → (f : ℕ) (xs : List Expr) → PlainArguments m 598 xs → PlainCore m (e.Invoke f xs)
  unfolding shape-the_row-Expr-1 hidden-the_row-Expr-1 hidden
  invoke_plain l f xs h = record { short = and_true (short_row xs h) (row_short xs h.0); turns = row_turns l xs h.0 }

  put_plain : (x : Expr) → PlainCore m x → PlainCore m (e.PutChar x)
  unfolding shape-the_row-Expr-0 hidden-the_row-Expr-0 hidden
  put_plain x h = one_part m x (e.PutChar x) refl refl h

  malloc_core : (n : ℕ) → n ≤ 64 → (r : Request) → PlainRequest n m r → PlainCore m (e.Malloc r.count r.ctype)
  unfolding shape-the_row-Expr-0 hidden-the_row-Expr-0 hidden
  malloc_core n l r h = record { short = and_true (le-leb (type_depth r.ctype) 99 (below (type_depth r.ctype) n l h.depth)) h.core.short; turns = h.core.turns }
    where
      below : (d n : ℕ) → n ≤ 64 → d + d ≤ 130 + n → d ≤ 99
      below d n l h = omega arith

  free_core : (x : Expr) → PlainCore m x → PlainCore m (e.Free x)
  unfolding shape-the_row-Expr-0 hidden-the_row-Expr-0 hidden
  free_core x h = one_part m x (e.Free x) refl refl h

pub pointer_shallow : (d n : ℕ) → d + d ≤ 130 + n → suc d + suc d ≤ 132 + n
pointer_shallow d n l = omega arith

module _ (g : Environment) (s : EnvironmentShallow g) (n m : ℕ) (small : n ≤ 64) (positive : 1 ≤ m) where
  abbrev V : Value → Type 0
  V v = PlainValue n m v

  abbrev O : Operand → Type 0
  O a = PlainOperand n m a

  abbrev R : Request → Type 0
  R r = PlainRequest n m r

  abbrev A : List Expr → Type 0
  A xs = PlainArguments m 598 xs

  literal_plain : (at : Place) (c : Option IntegerConstant) → O (literal at c)
  literal_plain at None = record { core = record { short = refl; turns = positive }; depth = shallow_integer n }
  literal_plain at (Some c) = record { core = record { short = refl; turns = positive }; depth = shallow_integer n }

  pub numbered_plain : (at : Place) (bytes : List ℕ) → O (numbered at bytes)
  numbered_plain at bytes =
      if_holds O (bytes_eq bytes (codes "0")) (zero_literal at) (literal at (constant_of bytes))
      (λ i. record { core = record { short = refl; turns = positive }; depth = shallow_integer n }) (λ i. literal_plain at (constant_of bytes))

  pub entry_plain : (t : Leaf) → WhereOk EntryShallow (entry g t)
  entry_plain t = kept_holds EntryShallow _ (found g.scopes (bytes_in g t)) (in_scopes (bytes_in g t) g.scopes s.names)

  pub named_plain : (t : Leaf) (x : Entry) → EntryShallow x → WhereOk O (named g t x)
  named_plain t (Variable v u) h = record { core = record { short = refl; turns = positive }; depth = object_shallow (type_depth u) n h }
  named_plain t (Function f r ts) h = tt

  result_shallow : (d n : ℕ) → d ≤ 66 → d + d ≤ 132 + n
  result_shallow d n l = omega arith

  core_plain : (f : ℕ) (xs : List Expr) → A xs → PlainCore m (called_core g f xs)
  core_plain f [] h =
      if_holds (PlainCore m) (f == 0) e.GetChar _ (λ i. record { short = refl; turns = positive }) (λ i.
      if_holds (PlainCore m) (f == 1) e.GetChar (e.Invoke f []) (λ j. record { short = refl; turns = positive }) (λ j. invoke_plain m positive f [] h))
  core_plain f (x ∷ xs) h =
      if_holds (PlainCore m) (f == 0) e.GetChar _ (λ i. record { short = refl; turns = positive }) (λ i.
      if_holds (PlainCore m) (f == 1) (e.PutChar x) (e.Invoke f (x ∷ xs)) (λ j. put_plain m x h.0.0) (λ j. invoke_plain m positive f (x ∷ xs) h))

  called_plain : (t : Leaf) (f : ℕ) (r : CType) (ts : List CType) (xs : List Expr) → IsShallowType 66 r → A xs → WhereOk O (called g t f r ts xs)
  called_plain t f r ts xs h j =
      then_known O (none_of _) _ (λ u i. record { core = core_plain f xs j; depth = result_shallow (type_depth r) n h })

  allocated_plain : (at : Place) (r : Request) → R r → WhereOk O (allocated g at r)
  unfolding allocated
  allocated_plain at r h =
      if_holds (WhereOk O) (is_allocated g r.ctype) _ _ (λ i. record { core = malloc_core m n small r h; depth = pointer_shallow (type_depth r.ctype) n h.depth }) (λ i. tt)

  freed_plain : (at : Place) (v : Value) → V v → WhereOk O (freed at v)
  unfolding freed
  freed_plain at v h =
      if_holds (WhereOk O) (is_null v.origin) _ _ (λ i. record { core = free_core m e.Null (null_plain m positive); depth = shallow_integer n }) (λ d.
      if_holds (WhereOk O) (is_pointer (shape v.ctype)) _ _ (λ i. record { core = free_core m v.expr h.core; depth = shallow_integer n }) (λ i. tt))

  malloc_plain : (t : Leaf) (r : Option (Checked Request)) (v : Option (Checked Value)) (es : Checked (List Expr)) → WhereSome (WhereOk R) r → WhereOk O (malloc_called g t r v es)
  malloc_plain t (Some r) v es h = then_holds R O r _ h (λ x k. allocated_plain (place_of t) x k)
  malloc_plain t None (Some v) es h = then_known O v _ (λ x i. tt)
  malloc_plain t None None es h = then_known O es _ (λ x i. tt)

  free_plain : (t : Leaf) (v : Option (Checked Value)) (es : Checked (List Expr)) → WhereSome (WhereOk V) v → WhereOk O (free_called g t v es)
  free_plain t (Some v) es h = then_holds V O v _ h (λ x k. freed_plain (place_of t) x k)
  free_plain t None es h = then_known O es _ (λ x i. tt)

  pub called_entry_plain : (t : Leaf) (x : Entry) (r : Option (Checked Request)) (v : Option (Checked Value)) (es : List CType → Checked (List Expr)) → EntryShallow x
      → WhereSome (WhereOk R) r → WhereSome (WhereOk V) v → ((ts : List CType) → WhereOk A (es ts)) → WhereOk O (called_entry g t x r v es)
  called_entry_plain t (Variable u c) r v es h i j k = then_known O (es []) _ (λ xs d. tt)
  called_entry_plain t (Function f c ts) r v es h i j k =
      if_holds (WhereOk O) (is_malloc_number f) _ _ (λ d. malloc_plain t r v (es []) i) (λ no_malloc.
      if_holds (WhereOk O) (is_free_number f) _ _ (λ d. free_plain t v (es []) j) (λ no_free.
      then_holds A O (es ts) _ (k ts) (λ xs l. called_plain t f c ts xs h l)))

  -- ---- prefix operators and assignments

  pub prefixed_plain : (t : Leaf) (x : Word) (a : Operand) → O a → WhereOk O (prefixed g t x a)
  prefixed_plain t w.Increment a h = stepped_plain g.layouts n m positive (place_of t) (place_of t) op.Add a After h
  prefixed_plain t w.Decrement a h = stepped_plain g.layouts n m positive (place_of t) (place_of t) op.Sub a After h
  prefixed_plain t w.Ampersand a h = address_plain g.layouts n m positive (place_of t) a h
  prefixed_plain t w.Star a h = then_holds V O (value a) _ (value_plain n m a h) (λ v k. dereferenced_plain g.layouts n m positive (place_of t) v k)
  prefixed_plain t w.Plus a h = then_holds V O (value a) _ (value_plain n m a h) (λ v k. promoting_plain g.layouts n m positive (place_of t) (λ k x. x) v (λ k x i. i) k)
  prefixed_plain t w.Minus a h = then_holds V O (value a) _ (value_plain n m a h) (λ v k. promoting_plain g.layouts n m positive (place_of t) (e.Unary unary.Neg) v (unary_plain g.layouts n m positive unary.Neg) k)
  prefixed_plain t w.Tilde a h = then_holds V O (value a) _ (value_plain n m a h) (λ v k. promoting_plain g.layouts n m positive (place_of t) (e.Unary unary.Invert) v (unary_plain g.layouts n m positive unary.Invert) k)
  prefixed_plain t _ a h = then_holds V O (value a) _ (value_plain n m a h) (λ v k. negation_plain g.layouts n m positive (place_of t) v k)

  pub assigned_by_plain : (t : Leaf) (o : Option IntOp) (a : Operand) (v : Value) → O a → V v → WhereOk O (assigned_by g t o a v)
  assigned_by_plain t None a v h j = assigned_plain g.layouts n m positive (place_of t) a v h j
  assigned_by_plain t (Some o) a v h j = compound_plain g.layouts n m positive (place_of t) o a v h j

  pub fitted_argument_plain : (ts : List CType) (v : Value) → V v → WhereOk (PlainCore m) (fitted_argument g ts v)
  fitted_argument_plain [] v h = h.core
  fitted_argument_plain (t ∷ ts) v h = fitted_plain g.layouts n m positive v.first t v h.core

  -- ---- what `malloc` is asked for

  objects_plain : (at : Place) (v : Value) (t : CType) → V v → ShallowObject n t → WhereOk R (objects at v t)
  unfolding objects
  objects_plain at v t h j = if_holds (WhereOk R) (is_integer_shape (shape v.ctype)) _ _ (λ i. record { core = brought_plain m _ v h.core; depth = j }) (λ i. tt)

  pub product_plain : (at : Place) (c : Option (Checked CType)) (x : Checked Value) (d : Option (Checked CType)) (y : Checked Value)
      → WhereSome (WhereOk (ShallowObject n)) c → WhereOk V x → WhereSome (WhereOk (ShallowObject n)) d → WhereOk V y → WhereSome (WhereOk R) (product at c x d y)
  unfolding product
  product_plain at c x (Some d) y i h l j = then_holds V R x _ h (λ v k. then_holds (ShallowObject n) R d _ l (λ t q. objects_plain at v t k q))
  product_plain at (Some c) x None y i h l j = then_holds (ShallowObject n) R c _ i (λ t q. then_holds V R y _ j (λ v k. objects_plain at v t k q))
  product_plain at None x None y i h l j = tt

  pub one_plain : (t : CType) → ShallowObject n t → R (one_object t)
  one_plain t h = record { core = record { short = refl; turns = positive }; depth = h }

  pub value_then : (c : Checked Operand) → WhereOk O c → WhereOk V (c >>= value)
  value_then c h = then_holds O V c value h (λ a k. value_plain n m a k)

-- the type that a `sizeof` names is that of an object where it stands one deeper
operand_type_shallow : (k n m : ℕ) → suc (suc k) ≤ n → (w : What) → PlainWhat k m w → ShallowObject n (type_of_object w)
operand_type_shallow k n m l (At p t) h = let d : ShallowObject k t = h.depth in omega arith
operand_type_shallow k n m l (Made o x t) h = let d : ShallowValue k t = h.depth in omega arith

spelled_shallow : (d s n : ℕ) → d ≡ suc s → suc (suc (pred s)) ≤ n → n ≤ 64 → d + d ≤ 130 + n
spelled_shallow d zero n e l k = omega arith
spelled_shallow d (suc s) n e l k = omega arith

-- ---- expressions

positive : (x : Expression) (m : ℕ) → turns x ≤ m → 1 ≤ m
positive x m l = let h : 1 ≤ turns x = turns_positive x in omega arith

below : {a b c : ℕ} → a ≤ b → b ≤ c → a ≤ c
below h k = omega arith

above : (c : Bool) (a b : ℕ) → b ≤ (if c then max a (in_branch b) else max a b)
above true a b = omega arith
above false a b = omega arith

one_more : (a k : ℕ) → 1 ≤ k → a ≤ pred k → suc a ≤ k
one_more a zero l h = absurd (omega arith)
one_more a (suc k) l h = omega arith

module _ (g : Environment) (s : EnvironmentShallow g) where
  mutual
    unfolding operand

    pub operand_plain : (x : Expression) (n m : ℕ) → n ≤ 64 → nest x ≤ n → turns x ≤ m → nodes x ≤ 598 → WhereOk (PlainOperand n m) (operand g x)
    operand_plain (Name t) n m l a b c = then_holds EntryShallow (PlainOperand n m) (entry g t) (named g t) (entry_plain g s n m l b t) (λ x h. named_plain g s n m l b t x h)
    operand_plain (Number t) n m l a b c = numbered_plain g s n m l b (place_of t) (bytes_in g t)
    operand_plain (Character t) n m l a b c = record { core = record { short = refl; turns = b }; depth = shallow_integer n }
    operand_plain (Paren t x) n m l a b c = then_holds (PlainOperand n m) (PlainOperand n m) (operand g x) _ (operand_plain x n m l (omega arith) b c) (λ a h. h)
    operand_plain (Call t xs) n m l a b c =
        let p : 1 ≤ m = positive (Call t xs) m b in
        then_holds EntryShallow (PlainOperand n m) (entry g t) _ (entry_plain g s n m l p t)
        (λ x h. called_entry_plain g s n m l p t x (only_request g xs) (only_value g xs) (arguments g xs) h
        (request_alone xs n m l a b (omega arith)) (value_alone xs n m l a b (omega arith)) (arguments_plain xs n m 598 l a b (omega arith) (omega arith)))
    operand_plain (Index x t i) n m l a b c =
        let p : 1 ≤ m = positive (Index x t i) m b in
        then_holds (PlainOperand n m) (PlainOperand n m) (operand g x) _ (operand_plain x n m l (omega arith) (omega arith) (omega arith)) (λ a' h.
        then_holds (PlainBase g.layouts n m p) (PlainOperand n m) (base_of g.layouts a') _ (base_plain g.layouts n m p a' h) (λ b' k.
        then_holds (PlainOperand n m) (PlainOperand n m) (operand g i) _ (operand_plain i n m l (omega arith) (omega arith) (omega arith)) (λ d j.
        then_holds (PlainValue n m) (PlainOperand n m) (value d) _ (value_plain n m d j) (λ v q. indexed_plain g.layouts n m p (place_of t) a'.first b' v k q))))
    operand_plain (Member x t f) n m l a b c =
        then_holds (PlainOperand n m) (PlainOperand n m) (operand g x) _ (operand_plain x n m l a b (omega arith)) (λ a' h. dot_plain g.layouts n m (positive x m b) s.members (place_of t) (place_of f) (bytes_in g f) a' h)
    operand_plain (Arrow x t f) n m l a b c =
        then_holds (PlainOperand n m) (PlainOperand n m) (operand g x) _ (operand_plain x n m l a b (omega arith)) (λ a' h.
        then_holds (PlainValue n m) (PlainOperand n m) (value a') _ (value_plain n m a' h) (λ v k. arrow_plain g.layouts n m (positive x m b) s.members (place_of t) (place_of f) (bytes_in g f) v k))
    operand_plain (Increment x t) n m l a b c = then_holds (PlainOperand n m) (PlainOperand n m) (operand g x) _ (operand_plain x n m l a b (omega arith)) (λ a' h. stepped_plain g.layouts n m (positive x m b) (place_of t) a'.first op.Add a' Before h)
    operand_plain (Decrement x t) n m l a b c = then_holds (PlainOperand n m) (PlainOperand n m) (operand g x) _ (operand_plain x n m l a b (omega arith)) (λ a' h. stepped_plain g.layouts n m (positive x m b) (place_of t) a'.first op.Sub a' Before h)
    operand_plain (Prefix t x) n m l a b c = then_holds (PlainOperand n m) (PlainOperand n m) (operand g x) _ (operand_plain x n m l (omega arith) b (omega arith)) (λ a' h. prefixed_plain g s n m l (positive x m b) t t.word a' h)
    operand_plain (Cast t u x) n m l a b c =
        then_known (PlainOperand n m) (spelled_type g u) _ (λ d i.
        then_holds (PlainOperand n m) (PlainOperand n m) (operand g x) _ (operand_plain x n m l (omega arith) b (omega arith)) (λ a' h.
        then_holds (PlainValue n m) (PlainOperand n m) (value a') _ (value_plain n m a' h) (λ v k. cast_plain g.layouts n m (positive x m b) (place_of t) d v k)))
    operand_plain (SizeOf t x) n m l a b c = then_known (PlainOperand n m) (operand g x) _ (λ a i. tt)
    operand_plain (SizeOfType t u) n m l a b c = then_known (PlainOperand n m) (spelled_type g u) _ (λ d i. tt)
    operand_plain (Binary x t y) n m l a b c =
        then_holds (PlainOperand n m) (PlainOperand n m) (operand g x) _ (operand_plain x n m l (omega arith) (below (left_of (is_branch t.word) (turns x) (turns y)) b) (omega arith)) (λ a' h.
        then_holds (PlainValue n m) (PlainOperand n m) (value a') _ (value_plain n m a' h) (λ v j.
        then_holds (PlainOperand n (turns y)) (PlainOperand n m) (operand g y) _ (operand_plain y n (turns y) l (omega arith) (omega arith) (omega arith)) (λ b' i.
        then_holds (PlainValue n (turns y)) (PlainOperand n m) (value b') _ (value_plain n (turns y) b' i) (λ u k.
        combined_plain g.layouts n m (positive (Binary x t y) m b) (place_of t) (operator_of t.word) v u (turns y) j k (below (right_of t.word (turns x) (turns y)) b)))))
    operand_plain (Choose x t y z) n m l a b c =
        then_holds (PlainOperand n m) (PlainOperand n m) (operand g x) _ (operand_plain x n m l (omega arith) (omega arith) (omega arith)) (λ a' h.
        then_holds (PlainValue n m) (PlainOperand n m) (value a') _ (value_plain n m a' h) (λ v j.
        then_holds (PlainCore m) (PlainOperand n m) (condition v) _ (condition_plain n m v j) (λ test o.
        then_holds (PlainOperand n (max (turns y) (turns z))) (PlainOperand n m) (operand g y) _ (operand_plain y n (max (turns y) (turns z)) l (omega arith) (omega arith) (omega arith)) (λ b' i.
        then_holds (PlainValue n (max (turns y) (turns z))) (PlainOperand n m) (value b') _ (value_plain n (max (turns y) (turns z)) b' i) (λ u k.
        then_holds (PlainOperand n (max (turns y) (turns z))) (PlainOperand n m) (operand g z) _ (operand_plain z n (max (turns y) (turns z)) l (omega arith) (omega arith) (omega arith)) (λ d q.
        then_holds (PlainValue n (max (turns y) (turns z))) (PlainOperand n m) (value d) _ (value_plain n (max (turns y) (turns z)) d q) (λ e r.
        choice_plain g.layouts n m (positive (Choose x t y z) m b) (place_of t) a'.first test u e (max (turns y) (turns z)) (positive y (max (turns y) (turns z)) (omega arith)) (omega arith) o k r)))))))
    operand_plain (Assign x t y) n m l a b c =
        then_holds (PlainOperand n m) (PlainOperand n m) (operand g x) _ (operand_plain x n m l (omega arith) (omega arith) (omega arith)) (λ a' h.
        then_holds (PlainOperand n m) (PlainOperand n m) (operand g y) _ (operand_plain y n m l (omega arith) (omega arith) (omega arith)) (λ b' i.
        then_holds (PlainValue n m) (PlainOperand n m) (value b') _ (value_plain n m b' i) (λ v j. assigned_by_plain g s n m l (positive (Assign x t y) m b) t (compound_of t.word) a' v h j)))

    arguments_plain : (xs : Expressions) (n m k : ℕ) → n ≤ 64 → arguments_nest xs ≤ n → arguments_turns xs ≤ m → all_nodes xs ≤ k → k ≤ 598 → (ts : List CType) → WhereOk (PlainArguments m k) (arguments g xs ts)
    arguments_plain NoMore n m k l a b c d ts = (tt, omega arith)
    arguments_plain (Then x xs) n m k l a b c d ts =
        let f : 1 ≤ nodes x = nodes_positive x in
        then_holds (PlainOperand n m) (PlainArguments m k) (operand g x) _ (operand_plain x n m l (omega arith) (omega arith) (omega arith)) (λ a' h.
        then_holds (PlainValue n m) (PlainArguments m k) (value a') _ (value_plain n m a' h) (λ v j.
        then_holds (PlainCore m) (PlainArguments m k) (fitted_argument g ts v) _ (fitted_argument_plain g s n m l (positive x m (omega arith)) ts v j) (λ y i.
        then_holds (PlainArguments m (pred k)) (PlainArguments m k) (arguments g xs (tail g ts)) _ (arguments_plain xs n m (pred k) l (omega arith) (omega arith) (omega arith) (omega arith) (tail g ts)) (λ ys q. ((i, q.0), one_more (length ys) k (omega arith) q.1)))))

    value_alone : (xs : Expressions) (n m : ℕ) → n ≤ 64 → arguments_nest xs ≤ n → arguments_turns xs ≤ m → all_nodes xs ≤ 598 → WhereSome (WhereOk (PlainValue n m)) (only_value g xs)
    value_alone NoMore n m l a b c = tt
    value_alone (Then x NoMore) n m l a b c = value_then g s n m l (positive x m (omega arith)) (operand g x) (operand_plain x n m l (omega arith) (omega arith) (omega arith))
    value_alone (Then x (Then y ys)) n m l a b c = tt

    request_alone : (xs : Expressions) (n m : ℕ) → n ≤ 64 → arguments_nest xs ≤ n → arguments_turns xs ≤ m → all_nodes xs ≤ 598 → WhereSome (WhereOk (PlainRequest n m)) (only_request g xs)
    request_alone NoMore n m l a b c = tt
    request_alone (Then x NoMore) n m l a b c = requested_plain x n m l (omega arith) (omega arith) (omega arith)
    request_alone (Then x (Then y ys)) n m l a b c = tt

    requested_plain : (x : Expression) (n m : ℕ) → n ≤ 64 → suc (nest x) ≤ n → turns x ≤ m → nodes x ≤ 598 → WhereSome (WhereOk (PlainRequest n m)) (requested g x)
    requested_plain (Paren t x) n m l a b c = requested_plain x n m l (omega arith) b c
    requested_plain (SizeOf t x) n m l a b c =
        then_holds (PlainOperand (nest x) (turns x)) (PlainRequest n m) (operand g x) _ (operand_plain x (nest x) (turns x) (omega arith) (omega arith) (omega arith) (omega arith))
        (λ a' h. one_plain g s n m l b (operand_type a') (operand_type_shallow (nest x) n (turns x) a a'.what h))
    requested_plain (SizeOfType t u) n m l a b c =
        then_holds (λ (d : CType). type_depth d ≡ suc u.stars) (PlainRequest n m) (spelled_type g u) _ (spelled_deep g u) (λ d h. one_plain g s n m l b d (spelled_shallow (type_depth d) u.stars n h a l))
    requested_plain (Binary x t y) n m l a b c =
        if_holds (WhereSome (WhereOk (PlainRequest n m))) (is_star t) _ _
        (λ i.
        let p : 1 ≤ m = positive (Binary x t y) m b in
        let d : turns x ≤ m = below (left_of (is_branch t.word) (turns x) (turns y)) b in
        let e : turns y ≤ m = below (above (is_branch t.word) (turns x) (turns y)) b in
        product_plain g s n m l p (place_of t) (measured g x) (operand g x >>= value) (measured g y) (operand g y >>= value)
        (measured_plain x n l (omega arith) (omega arith))
        (value_then g s n m l p (operand g x) (operand_plain x n m l (omega arith) d (omega arith)))
        (measured_plain y n l (omega arith) (omega arith))
        (value_then g s n m l p (operand g y) (operand_plain y n m l (omega arith) e (omega arith)))) (λ i. tt)
    requested_plain x n m l a b c = tt

    measured_plain : (x : Expression) (n : ℕ) → n ≤ 64 → suc (nest x) ≤ n → nodes x ≤ 598 → WhereSome (WhereOk (ShallowObject n)) (measured g x)
    measured_plain (Paren t x) n l a c = measured_plain x n l (omega arith) c
    measured_plain (SizeOf t x) n l a c =
        then_holds (PlainOperand (nest x) (turns x)) (ShallowObject n) (operand g x) _ (operand_plain x (nest x) (turns x) (omega arith) (omega arith) (omega arith) (omega arith))
        (λ a' h. operand_type_shallow (nest x) n (turns x) a a'.what h)
    measured_plain (SizeOfType t u) n l a c =
        weaker (λ (d : CType). type_depth d ≡ suc u.stars) (ShallowObject n) (spelled_type g u) (λ d h. spelled_shallow (type_depth d) u.stars n h a l) (spelled_deep g u)
    measured_plain x n l a c = tt

  -- a full expression of a source
  by_size : (n : ℕ) (x : Mode) → x ≡ mode.Source → nat_le n (most_nodes g x) ≡ true → n ≤ 598
  by_size n x e h = let k : n ≤ 500 = leb-true n 500 (subst (λ y. nat_le n (most_nodes g y) ≡ true) e h) in omega arith

  unless_true : (e : TypeFault) (Q : Value → Type 0) (b : Bool) (f : Unit {0} → Checked Value) → not b ≡ true → WhereOk Q (unless (not b) e >>= f)
  unfolding unless
  unless_true e Q false f h = tt
  unless_true e Q true f h = absurd (cc h)

  value_cases : {C : Type 0} (b : Bool) → (b ≡ true → C) → (b ≡ false → C) → C
  value_cases true h k = h refl
  value_cases false h k = k refl

  pub full_plain : g.mode ≡ mode.Source → (x : Expression) (n m : ℕ) → n ≤ 64 → nest x ≤ n → turns x ≤ m → WhereOk (PlainValue n m) (full g x)
  unfolding full
  full_plain source x n m l a b =
      value_cases (nat_le (nodes x) (most_nodes g g.mode))
      (λ e. then_holds (PlainOperand n m) (PlainValue n m) (operand g x) _ (operand_plain x n m l a b (by_size (nodes x) g.mode source e)) (λ a' h.
      then_holds (PlainValue n m) (PlainValue n m) (value a') _ (value_plain n m a' h) (λ v k.
      then_known (PlainValue n m) (unless (not (nat_le (nodes x) (most_nodes g g.mode))) (TooLarge a'.first)) _ (λ u i. k))))
      (λ e. then_known (PlainValue n m) (operand g x) _ (λ a' h.
      then_known (PlainValue n m) (value a') _ (λ v k. unless_true (TooLarge a'.first) (PlainValue n m) (nat_le (nodes x) (most_nodes g g.mode)) _ (ap not e))))
