-- Each operand of an expression has a small type, where the names in view have small types and the structs are small.
use Rattle.std.proofs.Common.{◌≡◌, ℕ, Bool, true, false, ◌&&◌, not, length, List, [], ◌∷◌, Option, Some, None, Ok, Err, refl}
use Rattle.std.specs.Prelude.{if◌then◌else◌, ◌==◌, codes}
use Rattle.std.specs.List.{AllByRecursion}
use Rattle.std.specs.Str.{bytes_eq}
use Rattle.c_lexer.specs.declared.token.Place.{Place}
use Rattle.c_lexer.specs.declared.token.IntegerConstant.{IntegerConstant}
use Rattle.c_lexer.specs.Numbers.{constant_of}
use Rattle.c_words.specs.declared.word.Word.{Word}
use Rattle.c_words.specs.declared.word.Word.TheVariants as w
use Rattle.c_words.specs.declared.word.Leaf.{Leaf}
use Rattle.step_meaning.specs.declared.value.CType.{CType}
use Rattle.step_meaning.specs.declared.expr.IntOp.{IntOp}
use Rattle.step_meaning.specs.declared.expr.Expr.{Expr}
use Rattle.step_meaning.specs.declared.expr.Expr.TheVariants as e
use Rattle.step_meaning.specs.declared.program.Layout.{Layout}
use Rattle.step_meaning.specs.ExpressionTypes.{pointer_to}
use Rattle.step_meaning.proofs.Ranges.{left_of_and}
use Rattle.step_meaning.proofs.TypedMemory.{WhereSome}
use Rattle.typing_rules.specs.declared.operand.Entry.{Entry}
use Rattle.typing_rules.specs.declared.operand.Entry.TheVariants.{Variable, Function}
use Rattle.typing_rules.specs.declared.operand.Operand.{Operand}
use Rattle.typing_rules.specs.declared.operand.Value.{Value}
use Rattle.typing_rules.specs.declared.operand.Origin.TheVariants.{Allocation}
use Rattle.typing_rules.specs.declared.fault.TypeFault.TheVariants.{Mismatch, ArgumentCount, NoBody, MainCalled}
use Rattle.typing_rules.specs.Checked.{Checked, none_of}
use Rattle.typing_rules.specs.Syntax.{Expression, Name, Number, Character, Paren, Call, Index, Member, Arrow, Increment, Decrement, Prefix, Cast, SizeOf, SizeOfType, Binary, Choose, Assign}
use Rattle.typing_rules.specs.Environment.{Environment, Scope, place_of, bytes_in, found_in, or_else, found, entry, contains, spelled_type}
use Rattle.typing_rules.specs.Judgements.{shape, is_pointer, is_null, operator_of, compound_of}
use Rattle.typing_rules.specs.Declarations.{is_within_limit}
use Rattle.typing_rules.specs.Operands.{made_from, zero_literal, value, condition}
use Rattle.typing_rules.specs.Subobjects.{base_of}
use Rattle.typing_rules.specs.Allocation.{Request, allocated, is_allocated, freed}
use Rattle.typing_rules.specs.Expressions.{literal, numbered, is_library_number, is_malloc_number, is_free_number, named, called, malloc_called, free_called, called_entry, prefixed, assigned_by, operand}
use Rattle.typing_laws.specs.SmallTypes.{WhereOk, IsSmallType, IsSmallOperand, IsSmallValue, IsSmallEntry, IsSmallScope, IsSmall, OperandsAreSmall}
use Rattle.typing_laws.proofs.CheckedValues.{then_holds, then_known, where_ok, kept_holds}
use Rattle.typing_laws.proofs.SmallTypes.{small_spelled}
use Rattle.typing_laws.proofs.SmallRules.{value_small, combined_small, choice_small, cast_small, promoting_small, negation_small, address_small, dereferenced_small, assigned_small, compound_small, stepped_small, IsSmallBase, base_small, indexed_small, dot_small, arrow_small}

-- ---- names

one_of : {A : Type 0} (P : A → Type 0) (b : Bool) (a : A) (o : Option A) → P a → WhereSome P o → WhereSome P (if b then Some a else o)
one_of P true a o h j = h
one_of P false a o h j = j

either : (P : Entry → Type 0) (o q : Option Entry) → WhereSome P o → WhereSome P q → WhereSome P (or_else o q)
either P None q h j = j
either P (Some x) q h j = h

module _ (ls : List Layout) (name : List ℕ) where
  in_scope : (scope : Scope) → IsSmallScope ls scope → WhereSome (IsSmallEntry ls) (found_in scope name)
  unfolding found_in
  in_scope [] h = tt
  in_scope (p ∷ ps) h = one_of (IsSmallEntry ls) (bytes_eq p.0 name) p.1 (found_in ps name) h.0 (in_scope ps h.1)

  in_scopes : (scopes : List Scope) → AllByRecursion (IsSmallScope ls) scopes → WhereSome (IsSmallEntry ls) (found scopes name)
  unfolding found
  in_scopes [] h = tt
  in_scopes (scope ∷ outer) h = either (IsSmallEntry ls) (found_in scope name) (found outer name) (in_scope scope h.0) (in_scopes outer h.1)

-- ---- constants and calls

chosen : {A : Type 0} (P : A → Type 0) (b : Bool) (x y : A) → P x → P y → P (if b then x else y)
chosen P true x y h j = h
chosen P false x y h j = j

module _ (ls : List Layout) where
  literal_small : (at : Place) (c : Option IntegerConstant) → IsSmallOperand ls (literal at c)
  unfolding is_within_limit
  literal_small at None = refl
  literal_small at (Some c) = refl

  numbered_small : (at : Place) (bytes : List ℕ) → IsSmallOperand ls (numbered at bytes)
  unfolding is_within_limit
  numbered_small at bytes = chosen (IsSmallOperand ls) (bytes_eq bytes (codes "0")) (zero_literal at) (literal at (constant_of bytes)) refl (literal_small at (constant_of bytes))

  freed_small : (at : Place) (v : Value) → WhereOk (IsSmallOperand ls) (freed at v)
  unfolding freed is_within_limit
  freed_small at v = chosen (WhereOk (IsSmallOperand ls)) (is_null v.origin) _ _ refl (chosen (WhereOk (IsSmallOperand ls)) (is_pointer (shape v.ctype)) _ _ refl tt)

module _ (g : Environment) where
  abbrev Small : Operand → Type 0
  Small a = IsSmallOperand g.layouts a

  entry_small : IsSmall g → (t : Leaf) → WhereOk (IsSmallEntry g.layouts) (entry g t)
  entry_small s t = kept_holds (IsSmallEntry g.layouts) _ (found g.scopes (bytes_in g t)) (in_scopes g.layouts (bytes_in g t) g.scopes s.names)

  named_small : (t : Leaf) (x : Entry) → IsSmallEntry g.layouts x → WhereOk Small (named g t x)
  named_small t (Variable v u) h = h
  named_small t (Function f r ts) h = tt

  allocated_if : (b : Bool) (at : Place) (q : Request) → is_allocated g q.ctype ≡ b → WhereOk Small (if b then Ok (made_from Allocation at (e.Malloc q.count q.ctype) (pointer_to q.ctype)) else Err (Mismatch at))
  unfolding is_within_limit
  allocated_if true at q e = small_spelled g.layouts q.ctype (left_of_and _ _ e)
  allocated_if false at q e = tt

  allocated_small : (at : Place) (q : Request) → WhereOk Small (allocated g at q)
  unfolding allocated
  allocated_small at q = allocated_if (is_allocated g q.ctype) at q refl

  called_small : (t : Leaf) (f : ℕ) (r : CType) (ts : List CType) (xs : List Expr) → IsSmallType g.layouts r → WhereOk Small (called g t f r ts xs)
  called_small t f r ts xs h =
      then_known Small
      (none_of ((not (length xs == length ts), ArgumentCount (place_of t))
      ∷ (not (is_library_number f) && not (contains g.bodies (bytes_in g t)), NoBody (place_of t))
      ∷ (bytes_eq (bytes_in g t) (codes "main"), MainCalled (place_of t)) ∷ [])) _ (λ u e. h)

  malloc_small : (t : Leaf) (q : Option (Checked Request)) (v : Option (Checked Value)) (es : Checked (List Expr)) → WhereOk Small (malloc_called g t q v es)
  malloc_small t (Some q) v es = then_known Small q _ (λ r e. allocated_small (place_of t) r)
  malloc_small t None (Some v) es = then_known Small v _ (λ x e. tt)
  malloc_small t None None es = then_known Small es _ (λ x e. tt)

  free_small : (t : Leaf) (v : Option (Checked Value)) (es : Checked (List Expr)) → WhereOk Small (free_called g t v es)
  free_small t (Some v) es = then_known Small v _ (λ x e. freed_small g.layouts (place_of t) x)
  free_small t None es = then_known Small es _ (λ x e. tt)

  called_entry_small : (t : Leaf) (x : Entry) (q : Option (Checked Request)) (v : Option (Checked Value)) (es : List CType → Checked (List Expr)) → IsSmallEntry g.layouts x → WhereOk Small (called_entry g t x q v es)
  called_entry_small t (Variable u c) q v es h = then_known Small (es []) _ (λ xs e. tt)
  called_entry_small t (Function f r ts) q v es h =
      chosen (WhereOk Small) (is_malloc_number f) _ _ (malloc_small t q v (es []))
      (chosen (WhereOk Small) (is_free_number f) _ _ (free_small t v (es []))
      (then_known Small (es ts) _ (λ xs e. called_small t f r ts xs h)))

  -- ---- prefix operators and assignments

  prefixed_small : (t : Leaf) (x : Word) (a : Operand) → Small a → WhereOk Small (prefixed g t x a)
  prefixed_small t w.Increment a h = stepped_small g.layouts (place_of t) (place_of t) _ a _ h
  prefixed_small t w.Decrement a h = stepped_small g.layouts (place_of t) (place_of t) _ a _ h
  prefixed_small t w.Ampersand a h = address_small g.layouts (place_of t) a h
  prefixed_small t w.Star a h = then_holds (IsSmallValue g.layouts) Small (value a) _ (value_small g.layouts a h) (λ v k. dereferenced_small g.layouts (place_of t) v k)
  prefixed_small t w.Plus a h = then_known Small (value a) _ (λ v k. promoting_small g.layouts (place_of t) _ v)
  prefixed_small t w.Minus a h = then_known Small (value a) _ (λ v k. promoting_small g.layouts (place_of t) _ v)
  prefixed_small t w.Tilde a h = then_known Small (value a) _ (λ v k. promoting_small g.layouts (place_of t) _ v)
  prefixed_small t _ a h = then_known Small (value a) _ (λ v k. negation_small g.layouts (place_of t) v)

  assigned_by_small : (t : Leaf) (o : Option IntOp) (a : Operand) (v : Value) → Small a → WhereOk Small (assigned_by g t o a v)
  assigned_by_small t None a v h = assigned_small g.layouts (place_of t) a v h
  assigned_by_small t (Some o) a v h = compound_small g.layouts (place_of t) o a v h

  -- ---- expressions

  module _ (s : IsSmall g) where
    pub operand_small : (x : Expression) → WhereOk Small (operand g x)
    unfolding operand is_within_limit
    operand_small (Name t) = then_holds (IsSmallEntry g.layouts) Small (entry g t) (named g t) (entry_small s t) (named_small t)
    operand_small (Number t) = numbered_small g.layouts (place_of t) (bytes_in g t)
    operand_small (Character t) = refl
    operand_small (Paren t x) = then_holds Small Small (operand g x) _ (operand_small x) (λ a h. h)
    operand_small (Call t xs) = then_holds (IsSmallEntry g.layouts) Small (entry g t) _ (entry_small s t) (λ f h. called_entry_small t f _ _ _ h)
    operand_small (Index x t i) =
        then_holds Small Small (operand g x) _ (operand_small x) (λ a h.
        then_holds (IsSmallBase g.layouts) Small (base_of g.layouts a) _ (base_small g.layouts a h) (λ b k.
        then_known Small (operand g i) _ (λ c e.
        then_known Small (value c) _ (λ v e. indexed_small g.layouts (place_of t) a.first b v k))))
    operand_small (Member x t m) = then_known Small (operand g x) _ (λ a e. dot_small g.layouts s.structs (place_of t) (place_of m) (bytes_in g m) a)
    operand_small (Arrow x t m) =
        then_known Small (operand g x) _ (λ a e.
        then_known Small (value a) _ (λ v e. arrow_small g.layouts s.structs (place_of t) (place_of m) (bytes_in g m) v))
    operand_small (Increment x t) = then_holds Small Small (operand g x) _ (operand_small x) (λ a h. stepped_small g.layouts (place_of t) a.first _ a _ h)
    operand_small (Decrement x t) = then_holds Small Small (operand g x) _ (operand_small x) (λ a h. stepped_small g.layouts (place_of t) a.first _ a _ h)
    operand_small (Prefix t x) = then_holds Small Small (operand g x) _ (operand_small x) (λ a h. prefixed_small t t.word a h)
    operand_small (Cast t u x) =
        then_known Small (spelled_type g u) _ (λ c e.
        then_holds Small Small (operand g x) _ (operand_small x) (λ a h.
        then_holds (IsSmallValue g.layouts) Small (value a) _ (value_small g.layouts a h) (λ v k. cast_small g.layouts (place_of t) c v k)))
    operand_small (SizeOf t x) = then_known Small (operand g x) _ (λ a e. tt)
    operand_small (SizeOfType t u) = then_known Small (spelled_type g u) _ (λ c e. tt)
    operand_small (Binary x t y) =
        then_holds Small Small (operand g x) _ (operand_small x) (λ a h.
        then_holds (IsSmallValue g.layouts) Small (value a) _ (value_small g.layouts a h) (λ v j.
        then_holds Small Small (operand g y) _ (operand_small y) (λ b i.
        then_holds (IsSmallValue g.layouts) Small (value b) _ (value_small g.layouts b i) (λ u k. combined_small g.layouts (place_of t) (operator_of t.word) v u j k))))
    operand_small (Choose x t y z) =
        then_known Small (operand g x) _ (λ a e.
        then_known Small (value a) _ (λ v e.
        then_known Small (condition v) _ (λ test e.
        then_holds Small Small (operand g y) _ (operand_small y) (λ b i.
        then_holds (IsSmallValue g.layouts) Small (value b) _ (value_small g.layouts b i) (λ u j.
        then_holds Small Small (operand g z) _ (operand_small z) (λ c k.
        then_holds (IsSmallValue g.layouts) Small (value c) _ (value_small g.layouts c k) (λ y l. choice_small g.layouts (place_of t) a.first test u y j l)))))))
    operand_small (Assign x t y) =
        then_holds Small Small (operand g x) _ (operand_small x) (λ a h.
        then_known Small (operand g y) _ (λ b e.
        then_known Small (value b) _ (λ v e. assigned_by_small t (compound_of t.word) a v h)))

-- ---- what rules ask

pub operands_small : OperandsAreSmall
operands_small g s x a e = where_ok (IsSmallOperand g.layouts) (operand g x) a e (operand_small g s x)
