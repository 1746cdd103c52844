-- Expressions (C11 6.5): the parts of a construct from left to right, each part's rules where it stands, then the rules of the construct.
use Rattle.std.specs.Prelude.{ℕ, nat_le, nat_lt, pos, Bool, ◌&&◌, not, ◌==◌, if◌then◌else◌, List, [], ◌∷◌, length, codes, Option, Some, None, Ok, Err}
use Rattle.std.specs.Str.{bytes_eq}
use Rattle.c_lexer.specs.declared.token.Place.{Place}
use Rattle.c_lexer.specs.declared.token.ConstantType.{ConstantType}
use Rattle.c_lexer.specs.declared.token.ConstantType.TheVariants as constant
use Rattle.c_lexer.specs.declared.token.IntegerConstant.{IntegerConstant}
use Rattle.c_lexer.specs.Numbers.{constant_of}
use Rattle.c_lexer.specs.Lexemes.{character_value}
use Rattle.c_words.specs.declared.word.Mode.{Mode}
use Rattle.c_words.specs.declared.word.Mode.TheVariants as mode
use Rattle.c_words.specs.declared.word.Word.{Word}
use Rattle.c_words.specs.declared.word.Word.TheVariants as w
use Rattle.c_words.specs.declared.word.Leaf.{Leaf}
use Rattle.c_words.specs.Words.{same}
use Rattle.step_meaning.specs.declared.value.CType.{CType}
use Rattle.step_meaning.specs.declared.value.CType.TheVariants as type
use Rattle.step_meaning.specs.declared.value.IntKind.{IntKind}
use Rattle.step_meaning.specs.declared.value.IntKind.TheVariants as kind
use Rattle.step_meaning.specs.declared.expr.IntOp.{IntOp}
use Rattle.step_meaning.specs.declared.expr.IntOp.TheVariants as op
use Rattle.step_meaning.specs.declared.expr.UnaryOp.TheVariants as unary
use Rattle.step_meaning.specs.declared.expr.Answer.TheVariants.{Before, After}
use Rattle.step_meaning.specs.declared.expr.Expr.{Expr}
use Rattle.step_meaning.specs.declared.expr.Expr.TheVariants as e
use Rattle.typing_rules.specs.declared.fault.TypeFault.TheVariants.{Mismatch, ArgumentCount, NoBody, MainCalled, TooLarge}
use Rattle.typing_rules.specs.declared.operand.Operand.{Operand}
use Rattle.typing_rules.specs.declared.operand.Value.{Value}
use Rattle.typing_rules.specs.declared.operand.Entry.{Entry}
use Rattle.typing_rules.specs.declared.operand.Entry.TheVariants.{Variable, Function}
use Rattle.typing_rules.specs.Checked.{Checked, ◌>>=◌, none_of, unless}
use Rattle.typing_rules.specs.Syntax.{Expression, Expressions, Name, Number, Character, Paren, Call, Index, Member, Arrow, Increment, Decrement, Prefix, Cast, SizeOf, SizeOfType, Binary, Choose, Assign, NoMore, Then}
use Rattle.typing_rules.specs.Nodes.{nodes}
use Rattle.typing_rules.specs.Environment.{Environment, place_of, bytes_in, contains, entry, spelled_type}
use Rattle.typing_rules.specs.Judgements.{operator_of, compound_of}
use Rattle.typing_rules.specs.Operands.{int, made, zero_literal, at_place, value, fitted, condition}
use Rattle.typing_rules.specs.Operators.{combined, choice_of, cast, promoting, negation, address, dereferenced}
use Rattle.typing_rules.specs.Assignments.{assigned, compound, stepped}
use Rattle.typing_rules.specs.Subobjects.{base_of, indexed, dot, arrow}
use Rattle.typing_rules.specs.Allocation.{Request, operand_type, one_object, product, allocated, freed}

-- ---- constants (C11 6.4.4)

abbrev pub kind_of : ConstantType → IntKind
kind_of constant.Int = kind.Int
kind_of constant.UnsignedInt = kind.UInt
kind_of constant.Long = kind.Long
kind_of constant.UnsignedLong = kind.ULong

-- a token that is a number is a constant: the lexer lets no other through
abbrev pub literal : Place → Option IntegerConstant → Operand
literal at None = made at (e.Literal kind.Int (pos 0)) int
literal at (Some c) = made at (e.Literal (kind_of c.kind) (pos c.value)) (type.Int (kind_of c.kind))

-- the literal `0` is the token `0`
abbrev pub numbered : Place → List ℕ → Operand
numbered at bytes = if bytes_eq bytes (codes "0") then zero_literal at else literal at (constant_of bytes)

-- ---- the library (C11 7.21.7.6, 7.21.7.8, 7.22.3.4, 7.22.3.3)

-- the functions 0 to 3, which no text gives a body
abbrev pub is_library_number : ℕ → Bool
is_library_number f = nat_lt f 4

abbrev pub is_malloc_number : ℕ → Bool
is_malloc_number f = f == 2

abbrev pub is_free_number : ℕ → Bool
is_free_number f = f == 3

abbrev pub is_star : Leaf → Bool
is_star t = same w.Star t.word

-- ---- expressions in an environment

module _ (s : Environment) where
  abbrev pub named : Leaf → Entry → Checked Operand
  named t (Variable v u) = Ok (at_place (place_of t) (e.Own v) u)
  named t (Function f r ts) = Err (Mismatch (place_of t))

  -- ---- calls (C11 6.5.2.2)

  abbrev pub called_core : ℕ → List Expr → Expr
  called_core f xs = if f == 0 then e.GetChar else (if f == 1 then put xs else e.Invoke f xs)
    where
      put : List Expr → Expr
      put [] = e.GetChar
      put (x ∷ ys) = e.PutChar x

  -- the function with this number, result and parameters, and the arguments
  abbrev pub called : Leaf → ℕ → CType → List CType → List Expr → Checked Operand
  called t f r ts xs = do
    _ ← none_of ((not (length xs == length ts), ArgumentCount (place_of t))
        ∷ (not (is_library_number f) && not (contains s.bodies (bytes_in s t)), NoBody (place_of t))
        ∷ (bytes_eq (bytes_in s t) (codes "main"), MainCalled (place_of t)) ∷ [])
    Ok (made (place_of t) (called_core f xs) r)

  -- `malloc`: the argument, as what is asked for where it has that form, and its value; with another number of arguments these keep their own rules
  abbrev pub malloc_called : Leaf → Option (Checked Request) → Option (Checked Value) → Checked (List Expr) → Checked Operand
  malloc_called t (Some q) v es = q >>= allocated s (place_of t)
  malloc_called t None (Some v) es = v >>= (λ x. Err (Mismatch (place_of t)))
  malloc_called t None None es = es >>= (λ x. Err (ArgumentCount (place_of t)))

  abbrev pub free_called : Leaf → Option (Checked Value) → Checked (List Expr) → Checked Operand
  free_called t (Some v) es = v >>= freed (place_of t)
  free_called t None es = es >>= (λ x. Err (ArgumentCount (place_of t)))

  -- the arguments are brought to the parameters' types; those of what is no function keep their own rules, and then the name is wrong
  abbrev pub called_entry : Leaf → Entry → Option (Checked Request) → Option (Checked Value) → (List CType → Checked (List Expr)) → Checked Operand
  called_entry t (Variable v u) q x es = es [] >>= (λ xs. Err (Mismatch (place_of t)))
  called_entry t (Function f r ts) q x es =
      if is_malloc_number f then malloc_called t q x (es [])
      else (if is_free_number f then free_called t x (es [])
      else (es ts >>= called t f r ts))

  abbrev pub fitted_argument : List CType → Value → Checked Expr
  fitted_argument [] v = Ok v.expr
  fitted_argument (t ∷ ts) v = fitted v.first t v

  abbrev pub tail : List CType → List CType
  tail [] = []
  tail (t ∷ ts) = ts

  -- ---- prefix operators and assignments

  abbrev pub prefixed : Leaf → Word → Operand → Checked Operand
  prefixed t w.Increment a = stepped s.layouts (place_of t) (place_of t) op.Add a After
  prefixed t w.Decrement a = stepped s.layouts (place_of t) (place_of t) op.Sub a After
  prefixed t w.Ampersand a = address (place_of t) a
  prefixed t w.Star a = value a >>= dereferenced (place_of t)
  prefixed t w.Plus a = value a >>= promoting (place_of t) (λ k x. x)
  prefixed t w.Minus a = value a >>= promoting (place_of t) (e.Unary unary.Neg)
  prefixed t w.Tilde a = value a >>= promoting (place_of t) (e.Unary unary.Invert)
  prefixed t _ a = value a >>= negation (place_of t)

  abbrev pub assigned_by : Leaf → Option IntOp → Operand → Value → Checked Operand
  assigned_by t None a v = assigned (place_of t) a v
  assigned_by t (Some o) a v = compound s.layouts (place_of t) o a v

  -- ---- each alternative

  unfoldable mutual
    pub operand : Expression → Checked Operand
    operand (Name t) = entry s t >>= named t
    operand (Number t) = Ok (numbered (place_of t) (bytes_in s t))
    operand (Character t) = Ok (made (place_of t) (e.Literal kind.Int (pos (character_value (bytes_in s t)))) int)
    operand (Paren t x) = do
      a ← operand x
      Ok (record a { first = place_of t })
    -- the name is the first part
    operand (Call t xs) = do
      f ← entry s t
      called_entry t f (only_request xs) (only_value xs) (arguments xs)
    operand (Index x t i) = do
      a ← operand x
      b ← base_of s.layouts a
      c ← operand i
      v ← value c
      indexed s.layouts (place_of t) a.first b v
    operand (Member x t m) = operand x >>= dot s.layouts (place_of t) (place_of m) (bytes_in s m)
    operand (Arrow x t m) = do
      a ← operand x
      v ← value a
      arrow s.layouts (place_of t) (place_of m) (bytes_in s m) v
    operand (Increment x t) = operand x >>= (λ a. stepped s.layouts (place_of t) a.first op.Add a Before)
    operand (Decrement x t) = operand x >>= (λ a. stepped s.layouts (place_of t) a.first op.Sub a Before)
    operand (Prefix t x) = operand x >>= prefixed t t.word
    operand (Cast t u x) = do
      c ← spelled_type s u
      a ← operand x
      v ← value a
      cast (place_of t) c v
    -- `sizeof` stands in an argument of `malloc` alone
    operand (SizeOf t x) = operand x >>= (λ a. Err (Mismatch (place_of t)))
    operand (SizeOfType t u) = spelled_type s u >>= (λ c. Err (Mismatch (place_of t)))
    operand (Binary x t y) = do
      a ← operand x
      v ← value a
      b ← operand y
      w ← value b
      combined s.layouts (place_of t) (operator_of t.word) v w
    operand (Choose x t y z) = do
      a ← operand x
      v ← value a
      test ← condition v
      b ← operand y
      w ← value b
      c ← operand z
      u ← value c
      choice_of (place_of t) a.first test w u
    operand (Assign x t y) = do
      a ← operand x
      b ← operand y
      v ← value b
      assigned_by t (compound_of t.word) a v

    -- each argument, brought to its parameter's type where there is one
    pub arguments : Expressions → List CType → Checked (List Expr)
    arguments NoMore ts = Ok []
    arguments (Then x xs) ts = do
      a ← operand x
      v ← value a
      y ← fitted_argument ts v
      ys ← arguments xs (tail ts)
      Ok (y ∷ ys)

    -- the value of an argument that is the only one
    pub only_value : Expressions → Option (Checked Value)
    only_value (Then x NoMore) = Some (operand x >>= value)
    only_value _ = None

    -- what the only argument asks `malloc` for, where it has that form
    pub only_request : Expressions → Option (Checked Request)
    only_request (Then x NoMore) = requested x
    only_request _ = None

    pub requested : Expression → Option (Checked Request)
    requested (Paren t x) = requested x
    requested (SizeOf t x) = Some (operand x >>= (λ a. Ok (one_object (operand_type a))))
    requested (SizeOfType t u) = Some (spelled_type s u >>= (λ c. Ok (one_object c)))
    requested (Binary x t y) = if is_star t then product (place_of t) (measured x) (operand x >>= value) (measured y) (operand y >>= value) else None
    requested _ = None

    -- the type that a `sizeof` names, in any parentheses (C11 6.5.3.4)
    pub measured : Expression → Option (Checked CType)
    measured (Paren t x) = measured x
    measured (SizeOf t x) = Some (operand x >>= (λ a. Ok (operand_type a)))
    measured (SizeOfType t u) = Some (spelled_type s u)
    measured _ = None

  -- ---- full expressions (C11 6.8, 4)

  abbrev pub most_nodes : Mode → ℕ
  most_nodes mode.Source = 500
  most_nodes mode.Woven = 4000

  -- a full expression as a value: its own rules, then its size
  unfoldable pub full : Expression → Checked Value
  full x = do
    a ← operand x
    v ← value a
    _ ← unless (not (nat_le (nodes x) (most_nodes s.mode))) (TooLarge a.first)
    Ok v
