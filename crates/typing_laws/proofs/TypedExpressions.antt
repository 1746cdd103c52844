-- Each operand of an expression fits, where what names stand for agrees with the program.
use Rattle.std.proofs.Common.{◌≡◌, ℕ, Bool, true, false, ◌&&◌, ◌||◌, not, List, [], ◌∷◌, length, Option, Some, None, Ok, Err, refl, sym, ap, subst, ◌∙◌, ◌<◌, arith}
use Rattle.std.specs.Prelude.{pos, int_le, nat_lt, nat_le, Result, ◌==◌, codes}
use Rattle.std.specs.Str.{bytes_eq}
use Rattle.std.proofs.lemmas.Bool.{ltb-true, le-leb, eqb-true}
use Rattle.c_lexer.specs.declared.token.Place.{Place}
use Rattle.c_lexer.specs.declared.token.IntegerConstant.{IntegerConstant}
use Rattle.c_lexer.specs.declared.token.ConstantType.{ConstantType}
use Rattle.c_lexer.specs.declared.token.ConstantType.TheVariants as constant
use Rattle.c_lexer.specs.Numbers.{limit_of, radix_of, constant_types, number_of, number_value, first_holding, constant_with, constant_of}
use Rattle.c_lexer.specs.Lexemes.{character_value}
use Rattle.c_words.specs.declared.word.Word.{Word}
use Rattle.c_words.specs.declared.word.Word.TheVariants as w
use Rattle.c_words.specs.declared.word.Leaf.{Leaf}
use Rattle.step_meaning.specs.declared.value.IntKind.{IntKind}
use Rattle.step_meaning.specs.declared.value.IntKind.TheVariants as kind
use Rattle.step_meaning.specs.declared.value.CType.{CType}
use Rattle.step_meaning.specs.declared.value.CType.TheVariants as type
use Rattle.step_meaning.specs.declared.expr.IntOp.{IntOp}
use Rattle.step_meaning.specs.declared.expr.IntOp.TheVariants as op
use Rattle.step_meaning.specs.declared.expr.UnaryOp.TheVariants as unary
use Rattle.step_meaning.specs.declared.expr.Answer.TheVariants.{Before, After}
use Rattle.step_meaning.specs.declared.expr.Expr.{Expr}
use Rattle.step_meaning.specs.declared.expr.Expr.TheVariants as e
use Rattle.step_meaning.specs.declared.program.Core.{Core}
use Rattle.step_meaning.specs.declared.program.Function.{Function as CoreFunction}
use Rattle.step_meaning.specs.Numbers.{is_in_range}
use Rattle.step_meaning.specs.Names.{is_register_variable}
use Rattle.step_meaning.specs.Settings.{Setting, variable_type}
use Rattle.step_meaning.specs.ExpressionTypes.{type_of, is_sum, is_taken_by, is_null_constant, parameter_types}
use Rattle.step_meaning.specs.ExpressionTypes as core_types
use Rattle.step_meaning.specs.Library.{int}
use Rattle.step_meaning.specs.Types.{same_type}
use Rattle.step_meaning.specs.Conversions.{is_promoted}
use Rattle.step_meaning.proofs.SameTypes.{same_type_equal}
use Rattle.step_meaning.proofs.Ranges.{natural_in_range, false_is_not_true}
use Rattle.step_meaning.proofs.TypedMemory.{WhereSome}
use Rattle.typing_rules.specs.declared.operand.Entry.{Entry}
use Rattle.typing_rules.specs.declared.operand.Entry.TheVariants.{Variable as Object, Function}
use Rattle.typing_rules.specs.declared.operand.Operand.{Operand}
use Rattle.typing_rules.specs.declared.operand.Value.{Value}
use Rattle.typing_rules.specs.declared.fault.TypeFault.TheVariants.{ArgumentCount, NoBody, MainCalled, TooLarge}
use Rattle.typing_rules.specs.Checked.{Checked, ◌>>=◌, none_of, unless}
use Rattle.typing_rules.specs.Syntax.{Expression, Expressions, Name, Number, Character, Paren, Call, Index, Member, Arrow, Increment, Decrement, Prefix, Cast, SizeOf, SizeOfType, Binary, Choose, Assign, NoMore, Then}
use Rattle.typing_rules.specs.Nodes.{nodes}
use Rattle.typing_rules.specs.Environment.{Environment, place_of, bytes_in, found, entry, contains, spelled_type}
use Rattle.typing_rules.specs.Judgements.{operator_of, compound_of}
use Rattle.typing_rules.specs.Declarations.{is_complete}
use Rattle.typing_rules.specs.Operands.{made, zero_literal, value, condition, fitted}
use Rattle.typing_rules.specs.Subobjects.{base_of}
use Rattle.typing_rules.specs.Allocation.{Request, product}
use Rattle.typing_rules.specs.Expressions.{kind_of, literal, numbered, is_library_number, is_malloc_number, is_free_number, is_star, named, called_core, called, malloc_called, free_called, called_entry, fitted_argument, tail, prefixed, assigned_by, operand, arguments, only_value, only_request, requested, measured, most_nodes, full}
use Rattle.typing_laws.specs.SmallTypes.{WhereOk}
use Rattle.typing_laws.specs.ParsedSyntax.{ExpressionParsed, ExpressionsParsed}
use Rattle.typing_laws.proofs.CheckedValues.{then_holds, then_known, kept_holds, if_holds, weaker, some_mapped}
use Rattle.typing_laws.proofs.DeclaredNames.{none_left, none_then, not_false}
use Rattle.typing_laws.proofs.TypedCores.{literal_typed, unary_typed, put_typed, ArgumentsFit, invoked_typed}
use Rattle.typing_laws.proofs.TypedValues.{is_value_type, ValueFits, OperandFits, IsCondition, value_fits, condition_fits}
use Rattle.typing_laws.proofs.TypedOperators.{CellsStay, IsTaken, fitted_fits, combined_fits, choice_fits, cast_fits, promoting_fits, negation_fits, address_fits, dereferenced_fits}
use Rattle.typing_laws.proofs.TypedObjects.{assigned_fits, compound_fits, stepped_fits, BaseFits, base_fits, indexed_fits, MembersStay, dot_fits, arrow_fits, RequestFits, objects_fit, AllocationStays, allocated_fits, freed_fits}

-- ---- what names stand for

module _ (q : Core) (s : Setting) (g : Environment) where
  -- how many structs are complete
  abbrev pub complete : ℕ
  complete = length g.layouts

  -- the function with this number has the body that is asked for, the result and the parameters
  pub record FunctionFits (f : ℕ) (r : CType) (ts : List CType) : Type 0 where
    pub function : CoreFunction
    pub called : core_types.called q f ≡ Some function
    pub result : function.result ≡ r
    pub parameters : parameter_types function ≡ ts

  pub record EntryFits (name : List ℕ) (f : ℕ) (r : CType) (ts : List CType) : Type 0 where
    pub valued : is_value_type complete r ≡ true
    -- `getchar` and `putchar`
    pub getchar : f ≡ 0 → (r ≡ int) × (ts ≡ [])
    pub putchar : f ≡ 1 → (r ≡ int) × (ts ≡ int ∷ [])
    -- one that has a body somewhere in the text and isn't `main`
    pub others : is_library_number f ≡ false → contains g.bodies name ≡ true → bytes_eq name (codes "main") ≡ false → FunctionFits f r ts

  abbrev pub NameFits : List ℕ → Entry → Type 0
  NameFits name (Object v t) = (variable_type s v ≡ Some t) × (is_complete complete complete t ≡ true) × (is_register_variable v ≡ false)
  NameFits name (Function f r ts) = EntryFits name f r ts

  pub record Agrees : Type 0 where
    pub names : (name : List ℕ) → WhereSome (NameFits name) (found g.scopes name)
    pub cells : CellsStay q s g.layouts
    pub members : MembersStay q s g.layouts
    pub allocation : AllocationStays q s g.layouts g

-- ---- numbers

first_holds : (ts : List ConstantType) (n : ℕ) → WhereSome (λ t. n < limit_of t) (first_holding ts n)
unfolding first_holding
first_holds [] n = tt
first_holds (t ∷ ts) n = if_holds (WhereSome (λ t. n < limit_of t)) (nat_lt n (limit_of t)) (Some t) (first_holding ts n) (λ i. ltb-true n (limit_of t) i) (λ i. first_holds ts n)

abbrev IsHeld : IntegerConstant → Type 0
IsHeld c = c.value < limit_of c.kind

result_cases : {A E C : Type 0} (r : Result A E) → ((a : A) → r ≡ Ok a → C) → ((x : E) → r ≡ Err x → C) → C
result_cases (Ok a) h k = h a refl
result_cases (Err x) h k = k x refl

constant_held : (bytes : List ℕ) → WhereSome IsHeld (constant_of bytes)
unfolding constant_of constant_with
constant_held bytes =
    result_cases (number_of bytes)
    (λ s i. rw i (some_mapped (λ t. number_value bytes < limit_of t) IsHeld _ (first_holding (constant_types (radix_of bytes) s) (number_value bytes)) (first_holds (constant_types (radix_of bytes) s) (number_value bytes)) (λ t h. h)))
    (λ f i. rw i tt)

held_in_range : (t : ConstantType) (n : ℕ) → n < limit_of t → is_in_range (kind_of t) (pos n) ≡ true
held_in_range constant.Int n h = natural_in_range kind.Int n h
held_in_range constant.UnsignedInt n h = natural_in_range kind.UInt n h
held_in_range constant.Long n h = natural_in_range kind.Long n h
held_in_range constant.UnsignedLong n h = natural_in_range kind.ULong n h

constant_promoted : (t : ConstantType) → is_promoted (kind_of t) ≡ true
constant_promoted constant.Int = refl
constant_promoted constant.UnsignedInt = refl
constant_promoted constant.Long = refl
constant_promoted constant.UnsignedLong = refl

not_negative : (n : ℕ) → int_le (pos 0) (pos n) ≡ true
not_negative n = le-leb 0 n (omega arith)

-- ---- the functions of the library

no_library_number : (f : ℕ) → (f == 0) ≡ false → (f == 1) ≡ false → is_malloc_number f ≡ false → is_free_number f ≡ false → is_library_number f ≡ false
no_library_number f a b c d = grind arith

pub taken_integer : (k : IntKind) (x : Expr) (o : Option CType) → is_taken_by (type.Int k) x o ≡ true → o ≡ Some (type.Int k)
taken_integer k x None h = false_is_not_true (null_no_integer (is_null_constant x) h)
  where
    null_no_integer : (n : Bool) → (n && false) ≡ true → false ≡ true
    null_no_integer true h = h
    null_no_integer false h = h
taken_integer k x (Some t) h = ap Some (sym (same_type_equal (type.Int k) t (without_null (same_type (type.Int k) t) (is_null_constant x) h)))
  where
    without_null : (same n : Bool) → (same || (n && false)) ≡ true → same ≡ true
    without_null true n h = refl
    without_null false true h = h
    without_null false false h = h

-- ---- names and calls

module _ (q : Core) (s : Setting) (g : Environment) where
  abbrev V : Value → Type 0
  V v = ValueFits q s (length g.layouts) v

  abbrev O : Operand → Type 0
  O a = OperandFits q s (length g.layouts) a

  literal_fits : (at : Place) (c : Option IntegerConstant) → WhereSome IsHeld c → O (literal at c)
  literal_fits at None h = record { typed = refl; valued = refl }
  literal_fits at (Some c) h = record { typed = literal_typed q s (kind_of c.kind) c.value (constant_promoted c.kind) (held_in_range c.kind c.value h) (not_negative c.value); valued = refl }

  numbered_fits : (at : Place) (bytes : List ℕ) → O (numbered at bytes)
  numbered_fits at bytes = if_holds O (bytes_eq bytes (codes "0")) (zero_literal at) (literal at (constant_of bytes)) (λ i. record { typed = refl; valued = refl }) (λ i. literal_fits at (constant_of bytes) (constant_held bytes))

  entry_fits : Agrees q s g → (t : Leaf) → WhereOk (NameFits q s g (bytes_in g t)) (entry g t)
  entry_fits agrees t = kept_holds (NameFits q s g (bytes_in g t)) _ (found g.scopes (bytes_in g t)) (agrees.names (bytes_in g t))

  named_fits : (name : List ℕ) (t : Leaf) (x : Entry) → NameFits q s g name x → WhereOk O (named g t x)
  named_fits name t (Object v u) h = record { typed = h.0; complete = h.1; memory = h.2 }
  named_fits name t (Function f r ts) h = tt

  -- arguments that are brought to the parameters' types, as far as there are some
  abbrev pub AreBrought : List Expr → List CType → Type 0
  AreBrought [] ts = Unit {0}
  AreBrought (x ∷ xs) [] = Unit {0}
  AreBrought (x ∷ xs) (t ∷ ts) = IsTaken q s g.layouts t x × AreBrought xs ts

  brought_arguments : (xs : List Expr) (ts : List CType) → AreBrought xs ts → length xs ≡ length ts → ArgumentsFit q s xs ts
  brought_arguments [] [] h n = tt
  brought_arguments (x ∷ xs) (t ∷ ts) h n = (h.0, brought_arguments xs ts h.1 (omega arith))
  brought_arguments [] (t ∷ ts) h n = absurd (omega arith)
  brought_arguments (x ∷ xs) [] h n = absurd (omega arith)

  module _ (name : List ℕ) (at : Place) (f : ℕ) (r : CType) (ts : List CType) (fits : EntryFits q s g name f r ts) where
    abbrev Gives : Expr → Type 0
    Gives x = type_of q s x ≡ Some r

    get_gives : (f == 0) ≡ true → Gives e.GetChar
    get_gives i = ap Some (sym (fits.getchar (eqb-true f 0 i)).0)

    put_gives : (x : Expr) (xs : List Expr) → (f == 1) ≡ true → ArgumentsFit q s (x ∷ xs) ts → Gives (e.PutChar x)
    put_gives x xs i h =
        let p : (r ≡ int) × (ts ≡ int ∷ []) = fits.putchar (eqb-true f 1 i) in
        let taken : IsTaken q s g.layouts int x = (subst (ArgumentsFit q s (x ∷ xs)) p.1 h).0 in
        put_typed q s x (taken_integer kind.Int x (type_of q s x) taken) ∙ ap Some (sym p.0)

    nothing_put : (f == 1) ≡ true → ArgumentsFit q s [] ts → ⊥
    nothing_put i h = subst (ArgumentsFit q s []) (fits.putchar (eqb-true f 1 i)).1 h

    invoke_gives : (xs : List Expr) → ArgumentsFit q s xs ts → FunctionFits q s g f r ts → Gives (e.Invoke f xs)
    invoke_gives xs h k = invoked_typed q s f k.function xs k.called (subst (ArgumentsFit q s xs) (sym k.parameters) h) ∙ ap Some k.result

    module _ (no_malloc : is_malloc_number f ≡ false) (no_free : is_free_number f ≡ false) (k : is_library_number f ≡ false → FunctionFits q s g f r ts) where
      core_gives : (xs : List Expr) → ArgumentsFit q s xs ts → Gives (called_core g f xs)
      core_gives [] h =
          if_holds Gives (f == 0) e.GetChar _ get_gives (λ a.
          if_holds Gives (f == 1) _ (e.Invoke f []) (λ i. absurd (nothing_put i h)) (λ b.
          invoke_gives [] h (k (no_library_number f a b no_malloc no_free))))
      core_gives (x ∷ xs) h =
          if_holds Gives (f == 0) e.GetChar _ get_gives (λ a.
          if_holds Gives (f == 1) (e.PutChar x) (e.Invoke f (x ∷ xs)) (λ i. put_gives x xs i h) (λ b.
          invoke_gives (x ∷ xs) h (k (no_library_number f a b no_malloc no_free))))

  named_main : Leaf → Bool
  named_main t = bytes_eq (bytes_in g t) (codes "main")

  right_of_nand : (a b : Bool) → (not a && not b) ≡ false → a ≡ false → b ≡ true
  right_of_nand false b h i = not_false b h
  right_of_nand true b h i = absurd (cc i)

  called_fits : (t : Leaf) (f : ℕ) (r : CType) (ts : List CType) (xs : List Expr) → is_malloc_number f ≡ false → is_free_number f ≡ false → EntryFits q s g (bytes_in g t) f r ts → AreBrought xs ts → WhereOk O (called g t f r ts xs)
  called_fits t f r ts xs no_malloc no_free fits h =
      let A : Type 0 = O (made (place_of t) (called_core g f xs) r) in
      let n : Bool = not (length xs == length ts) in
      let m : Bool = not (is_library_number f) && not (contains g.bodies (bytes_in g t)) in
      let main : Bool = bytes_eq (bytes_in g t) (codes "main") in
      then_holds (λ (u : Unit {0}). A) O (none_of ((n, ArgumentCount (place_of t)) ∷ (m, NoBody (place_of t)) ∷ (main, MainCalled (place_of t)) ∷ [])) _
      (none_then A n _ _ (λ count.
      none_then A m _ _ (λ body.
      none_then A main _ _ (λ other.
      none_left A (record {
        typed =
            core_gives (bytes_in g t) (place_of t) f r ts fits no_malloc no_free (λ i. fits.others i (right_of_nand (is_library_number f) (contains g.bodies (bytes_in g t)) body i) other) xs
            (brought_arguments xs ts h (eqb-true (length xs) (length ts) (not_false (length xs == length ts) count)));
        valued = fits.valued;
      })))))
      (λ u k. k)

  malloc_fits : Agrees q s g → (t : Leaf) (r : Option (Checked Request)) (v : Option (Checked Value)) (es : Checked (List Expr)) → WhereSome (WhereOk (RequestFits q s g.layouts)) r → WhereOk O (malloc_called g t r v es)
  malloc_fits agrees t (Some r) v es h = then_holds (RequestFits q s g.layouts) O r _ h (λ x k. allocated_fits q s g.layouts g agrees.allocation (place_of t) x k)
  malloc_fits agrees t None (Some v) es h = then_known O v _ (λ x i. tt)
  malloc_fits agrees t None None es h = then_known O es _ (λ x i. tt)

  free_fits : (t : Leaf) (v : Option (Checked Value)) (es : Checked (List Expr)) → WhereSome (WhereOk V) v → WhereOk O (free_called g t v es)
  free_fits t (Some v) es h = then_holds V O v _ h (λ x k. freed_fits q s g.layouts (place_of t) x k)
  free_fits t None es h = then_known O es _ (λ x i. tt)

  called_entry_fits : Agrees q s g → (t : Leaf) (x : Entry) (r : Option (Checked Request)) (v : Option (Checked Value)) (es : List CType → Checked (List Expr)) → NameFits q s g (bytes_in g t) x
      → WhereSome (WhereOk (RequestFits q s g.layouts)) r → WhereSome (WhereOk V) v → ((ts : List CType) → WhereOk (λ xs. AreBrought xs ts) (es ts)) → WhereOk O (called_entry g t x r v es)
  called_entry_fits agrees t (Object u c) r v es h i j k = then_known O (es []) _ (λ xs d. tt)
  called_entry_fits agrees t (Function f c ts) r v es h i j k =
      if_holds (WhereOk O) (is_malloc_number f) _ _ (λ d. malloc_fits agrees t r v (es []) i) (λ no_malloc.
      if_holds (WhereOk O) (is_free_number f) _ _ (λ d. free_fits t v (es []) j) (λ no_free.
      then_holds (λ xs. AreBrought xs ts) O (es ts) _ (k ts) (λ xs l. called_fits t f c ts xs no_malloc no_free h l)))

  -- ---- prefix operators and assignments

  module _ (agrees : Agrees q s g) where
    prefixed_fits : (t : Leaf) (x : Word) (a : Operand) → O a → WhereOk O (prefixed g t x a)
    prefixed_fits t w.Increment a h = stepped_fits q s g.layouts agrees.cells (place_of t) (place_of t) op.Add a After refl h
    prefixed_fits t w.Decrement a h = stepped_fits q s g.layouts agrees.cells (place_of t) (place_of t) op.Sub a After refl h
    prefixed_fits t w.Ampersand a h = address_fits q s g.layouts (place_of t) a h
    prefixed_fits t w.Star a h = then_holds V O (value a) _ (value_fits q s (length g.layouts) a h) (λ v k. dereferenced_fits q s g.layouts (place_of t) v k)
    prefixed_fits t w.Plus a h = then_holds V O (value a) _ (value_fits q s (length g.layouts) a h) (λ v k. promoting_fits q s g.layouts (place_of t) (λ k x. x) v (λ k x p i. i) k)
    prefixed_fits t w.Minus a h = then_holds V O (value a) _ (value_fits q s (length g.layouts) a h) (λ v k. promoting_fits q s g.layouts (place_of t) (e.Unary unary.Neg) v (unary_typed q s unary.Neg) k)
    prefixed_fits t w.Tilde a h = then_holds V O (value a) _ (value_fits q s (length g.layouts) a h) (λ v k. promoting_fits q s g.layouts (place_of t) (e.Unary unary.Invert) v (unary_typed q s unary.Invert) k)
    prefixed_fits t _ a h = then_holds V O (value a) _ (value_fits q s (length g.layouts) a h) (λ v k. negation_fits q s g.layouts (place_of t) v k)

    assigned_by_fits : (t : Leaf) (o : Option IntOp) (a : Operand) (v : Value) → O a → V v → WhereOk O (assigned_by g t o a v)
    assigned_by_fits t None a v h j = assigned_fits q s g.layouts (place_of t) a v h j
    assigned_by_fits t (Some o) a v h j = compound_fits q s g.layouts agrees.cells (place_of t) o a v h j

    -- an argument before others
    abbrev IsFirstOf : List CType → Expr → Type 0
    IsFirstOf ts y = (xs : List Expr) → AreBrought xs (tail g ts) → AreBrought (y ∷ xs) ts

    fitted_argument_fits : (ts : List CType) (v : Value) → V v → WhereOk (IsFirstOf ts) (fitted_argument g ts v)
    fitted_argument_fits [] v h = λ xs k. tt
    fitted_argument_fits (t ∷ ts) v h = weaker (IsTaken q s g.layouts t) (IsFirstOf (t ∷ ts)) (fitted v.first t v) (λ y i xs k. (i, k)) (fitted_fits q s g.layouts v.first t v h)

    -- ---- what `malloc` is asked for

    abbrev R : Request → Type 0
    R r = RequestFits q s g.layouts r

    product_fits : (at : Place) (c : Option (Checked CType)) (x : Checked Value) (d : Option (Checked CType)) (y : Checked Value) → WhereOk V x → WhereOk V y → WhereSome (WhereOk R) (product at c x d y)
    unfolding product
    product_fits at c x (Some d) y h j = then_holds V R x _ h (λ v k. then_known R d _ (λ t i. objects_fit q s g.layouts at v t k))
    product_fits at (Some c) x None y h j = then_known R c _ (λ t i. then_holds V R y _ j (λ v k. objects_fit q s g.layouts at v t k))
    product_fits at None x None y h j = tt

    -- ---- expressions

    value_then : (c : Checked Operand) → WhereOk O c → WhereOk V (c >>= value)
    value_then c h = then_holds O V c value h (λ a k. value_fits q s (length g.layouts) a k)

    mutual
      unfolding operand

      pub operand_fits : (x : Expression) → ExpressionParsed g.text x → WhereOk O (operand g x)
      operand_fits (Name t) c = then_holds (NameFits q s g (bytes_in g t)) O (entry g t) (named g t) (entry_fits agrees t) (λ x h. named_fits (bytes_in g t) t x h)
      operand_fits (Number t) c = numbered_fits (place_of t) (bytes_in g t)
      operand_fits (Character t) c = record { typed = literal_typed q s kind.Int (character_value (bytes_in g t)) refl c (not_negative (character_value (bytes_in g t))); valued = refl }
      operand_fits (Paren t x) c = then_holds O O (operand g x) _ (operand_fits x c) (λ a h. h)
      operand_fits (Call t xs) c =
          then_holds (NameFits q s g (bytes_in g t)) O (entry g t) _ (entry_fits agrees t)
          (λ x h. called_entry_fits agrees t x (only_request g xs) (only_value g xs) (arguments g xs) h (request_alone xs c) (value_alone xs c) (arguments_fit xs c))
      operand_fits (Index x t i) c =
          then_holds O O (operand g x) _ (operand_fits x c.0) (λ a h.
          then_holds (BaseFits q s g.layouts) O (base_of g.layouts a) _ (base_fits q s g.layouts a h) (λ b k.
          then_holds O O (operand g i) _ (operand_fits i c.1) (λ d j.
          then_holds V O (value d) _ (value_fits q s (length g.layouts) d j) (λ v l. indexed_fits q s g.layouts agrees.cells (place_of t) a.first b v k l))))
      operand_fits (Member x t m) c = then_holds O O (operand g x) _ (operand_fits x c) (λ a h. dot_fits q s g.layouts agrees.members (place_of t) (place_of m) (bytes_in g m) a h)
      operand_fits (Arrow x t m) c =
          then_holds O O (operand g x) _ (operand_fits x c) (λ a h.
          then_holds V O (value a) _ (value_fits q s (length g.layouts) a h) (λ v k. arrow_fits q s g.layouts agrees.members (place_of t) (place_of m) (bytes_in g m) v k))
      operand_fits (Increment x t) c = then_holds O O (operand g x) _ (operand_fits x c) (λ a h. stepped_fits q s g.layouts agrees.cells (place_of t) a.first op.Add a Before refl h)
      operand_fits (Decrement x t) c = then_holds O O (operand g x) _ (operand_fits x c) (λ a h. stepped_fits q s g.layouts agrees.cells (place_of t) a.first op.Sub a Before refl h)
      operand_fits (Prefix t x) c = then_holds O O (operand g x) _ (operand_fits x c) (λ a h. prefixed_fits t t.word a h)
      operand_fits (Cast t u x) c =
          then_known O (spelled_type g u) _ (λ d i.
          then_holds O O (operand g x) _ (operand_fits x c) (λ a h.
          then_holds V O (value a) _ (value_fits q s (length g.layouts) a h) (λ v k. cast_fits q s g.layouts (place_of t) d v k)))
      operand_fits (SizeOf t x) c = then_known O (operand g x) _ (λ a i. tt)
      operand_fits (SizeOfType t u) c = then_known O (spelled_type g u) _ (λ d i. tt)
      operand_fits (Binary x t y) c =
          then_holds O O (operand g x) _ (operand_fits x c.0) (λ a h.
          then_holds V O (value a) _ (value_fits q s (length g.layouts) a h) (λ v j.
          then_holds O O (operand g y) _ (operand_fits y c.1) (λ b i.
          then_holds V O (value b) _ (value_fits q s (length g.layouts) b i) (λ u k. combined_fits q s g.layouts agrees.cells (place_of t) (operator_of t.word) v u j k))))
      operand_fits (Choose x t y z) c =
          then_holds O O (operand g x) _ (operand_fits x c.0) (λ a h.
          then_holds V O (value a) _ (value_fits q s (length g.layouts) a h) (λ v j.
          then_holds (IsCondition q s (length g.layouts)) O (condition v) _ (condition_fits q s (length g.layouts) v j) (λ test m.
          then_holds O O (operand g y) _ (operand_fits y c.1) (λ b i.
          then_holds V O (value b) _ (value_fits q s (length g.layouts) b i) (λ u k.
          then_holds O O (operand g z) _ (operand_fits z c.2) (λ d n.
          then_holds V O (value d) _ (value_fits q s (length g.layouts) d n) (λ x l. choice_fits q s g.layouts (place_of t) a.first test u x m k l)))))))
      operand_fits (Assign x t y) c =
          then_holds O O (operand g x) _ (operand_fits x c.0) (λ a h.
          then_holds O O (operand g y) _ (operand_fits y c.1) (λ b i.
          then_holds V O (value b) _ (value_fits q s (length g.layouts) b i) (λ v j. assigned_by_fits t (compound_of t.word) a v h j)))

      arguments_fit : (xs : Expressions) → ExpressionsParsed g.text xs → (ts : List CType) → WhereOk (λ es. AreBrought es ts) (arguments g xs ts)
      arguments_fit NoMore c ts = tt
      arguments_fit (Then x xs) c ts =
          then_holds O (λ es. AreBrought es ts) (operand g x) _ (operand_fits x c.0) (λ a h.
          then_holds V (λ es. AreBrought es ts) (value a) _ (value_fits q s (length g.layouts) a h) (λ v j.
          then_holds (IsFirstOf ts) (λ es. AreBrought es ts) (fitted_argument g ts v) _ (fitted_argument_fits ts v j) (λ y k.
          then_holds (λ es. AreBrought es (tail g ts)) (λ es. AreBrought es ts) (arguments g xs (tail g ts)) _ (arguments_fit xs c.1 (tail g ts)) (λ ys l. k ys l))))

      value_alone : (xs : Expressions) → ExpressionsParsed g.text xs → WhereSome (WhereOk V) (only_value g xs)
      value_alone NoMore c = tt
      value_alone (Then x NoMore) c = value_then (operand g x) (operand_fits x c.0)
      value_alone (Then x (Then y ys)) c = tt

      request_alone : (xs : Expressions) → ExpressionsParsed g.text xs → WhereSome (WhereOk R) (only_request g xs)
      request_alone NoMore c = tt
      request_alone (Then x NoMore) c = requested_fits x c.0
      request_alone (Then x (Then y ys)) c = tt

      requested_fits : (x : Expression) → ExpressionParsed g.text x → WhereSome (WhereOk R) (requested g x)
      requested_fits (Paren t x) c = requested_fits x c
      requested_fits (SizeOf t x) c = then_known R (operand g x) _ (λ a i. refl)
      requested_fits (SizeOfType t u) c = then_known R (spelled_type g u) _ (λ d i. refl)
      requested_fits (Binary x t y) c =
          if_holds (WhereSome (WhereOk R)) (is_star t) _ _
          (λ i. product_fits (place_of t) (measured g x) (operand g x >>= value) (measured g y) (operand g y >>= value) (value_then (operand g x) (operand_fits x c.0)) (value_then (operand g y) (operand_fits y c.1))) (λ i. tt)
      requested_fits x c = tt

    -- a full expression gives a value
    pub full_fits : (x : Expression) → ExpressionParsed g.text x → WhereOk V (full g x)
    unfolding full
    full_fits x c =
        then_holds O V (operand g x) _ (operand_fits x c) (λ a h.
        then_holds V V (value a) _ (value_fits q s (length g.layouts) a h) (λ v k.
        then_known V (unless (not (nat_le (nodes x) (most_nodes g g.mode))) (TooLarge a.first)) _ (λ u i. k)))
