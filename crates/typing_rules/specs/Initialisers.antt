-- Initialisers (C11 6.7.9): one part a cell, in ascending order. Braces follow the shape of the type, and what is left out is zero or null.
use Rattle.std.specs.Prelude.{pos, Bool, false, not, if◌then◌else◌, List, [], ◌∷◌, ◌++◌, map, flat_map, replicate, slice_get, codes, Option, Some, None, Ok, Err}
use Rattle.std.specs.Str.{bytes_eq}
use Rattle.c_lexer.specs.declared.token.Place.{Place}
use Rattle.step_meaning.specs.declared.value.CType.{CType, end_of-CType, more_of-CType}
use Rattle.step_meaning.specs.declared.value.CType.TheVariants as type
use Rattle.step_meaning.specs.declared.value.IntKind.TheVariants as kind
use Rattle.step_meaning.specs.declared.value.Value.{Value as Constant}
use Rattle.step_meaning.specs.declared.value.Value.TheVariants as constant
use Rattle.step_meaning.specs.declared.expr.Expr.{Expr}
use Rattle.step_meaning.specs.declared.expr.Expr.TheVariants as e
use Rattle.step_meaning.specs.declared.program.Declared.{Declared}
use Rattle.step_meaning.specs.Types.{object_cells}
use Rattle.step_meaning.specs.TypeRules.{is_scalar}
use Rattle.step_meaning.specs.Conversions.{same_int_kind}
use Rattle.typing_rules.specs.declared.fault.TypeFault.TheVariants.{BadInitialiser}
use Rattle.typing_rules.specs.Checked.{Checked, ◌>>=◌, kept, unless}
use Rattle.typing_rules.specs.Syntax.{Expression, Number, Initialiser, Value, Braces, Initialisers, NoElement, Element}
use Rattle.typing_rules.specs.Operands.{fitted}
use Rattle.typing_rules.specs.Environment.{Environment, place_of, bytes_in}
use Rattle.typing_rules.specs.ConstantExpressions.{has_literal_indices, initial_value}
use Rattle.typing_rules.specs.Nodes.{first_place}
use Rattle.typing_rules.specs.Expressions.{full}

-- in an environment, where an expression for a cell gives a part of the answer, and a cell that is filled up another
module _ (g : Environment) (A : Type 0) (given : Expression → Place → CType → Expr → Checked A) (filled : CType → A) where
  -- the types of the elements or members
  abbrev pub members_of : Option (List CType) → List CType
  members_of None = []
  members_of (Some ts) = ts

  unfoldable pub parts : CType → List CType
  parts (type.Array' b (more_of-CType t end_of-CType) n) = replicate n t
  parts (type.Struct n) = flat_map (λ l. map (λ d. d.ctype) l.members) (there (slice_get g.layouts n))
    where
      there : {B : Type 0} → Option B → List B
      there None = []
      there (Some x) = x ∷ []
  parts t = []

  -- `{0}` (the token `0` alone)
  abbrev pub is_all_zero : Initialisers → Bool
  is_all_zero (Element (Value (Number t)) NoElement) = bytes_eq (bytes_in g t) (codes "0")
  is_all_zero _ = false

  unfoldable pub zeros : CType → List A
  zeros t = map filled (object_cells g.layouts t)

  unfoldable mutual
    -- the rules that the expressions keep in an initialiser that fits no shape
    pub alone : Initialiser → Checked (Unit {0})
    alone (Value x) = full g x >>= (λ v. Ok tt)
    alone (Braces t xs) = all_alone xs

    pub all_alone : Initialisers → Checked (Unit {0})
    all_alone NoElement = Ok tt
    all_alone (Element x xs) = alone x >>= (λ u. all_alone xs)

  abbrev pub first : Initialiser → Place
  first (Value x) = first_place x
  first (Braces t xs) = place_of t

  unfoldable mutual
    pub cells : CType → Initialiser → Checked (List A)
    cells t (Value x) = do
      v ← full g x
      _ ← unless (not (is_scalar t)) (BadInitialiser v.first)
      y ← fitted v.first t v
      a ← given x v.first t y
      Ok (a ∷ [])
    cells t (Braces b xs) =
        if is_scalar t then (all_alone xs >>= (λ u. Err (BadInitialiser (place_of b))))
        else (if is_all_zero xs then Ok (zeros t)
        else elements (parts t) xs)

    -- one initialiser for each of these types; those without one are filled up
    pub elements : List CType → Initialisers → Checked (List A)
    elements ts NoElement = Ok (flat_map zeros ts)
    elements [] (Element x xs) = alone x >>= (λ u. Err (BadInitialiser (first x)))
    elements (t ∷ ts) (Element x xs) = do
      a ← cells t x
      b ← elements ts xs
      Ok (a ++ b)

-- ---- initialisers of locals

abbrev pub Cell : Type 0
Cell = CType × Expr

abbrev pub zero_of : CType → Expr
zero_of (type.Int k) = if same_int_kind k kind.Int then e.Literal kind.Int (pos 0) else e.Convert k (e.Literal kind.Int (pos 0))
zero_of t = e.Null

abbrev pub local_cells : Environment → CType → Initialiser → Checked (List Cell)
local_cells g = cells g Cell (λ x at t y. Ok (t, y)) (λ t. (t, zero_of t))

-- ---- initial values of file scope

abbrev pub zero_value : CType → Constant
zero_value (type.Int k) = constant.Int (pos 0)
zero_value t = constant.Null

-- what an expression gives a cell of this type
abbrev pub given_value : Environment → List Declared → Expression → CType → Expr → Option Constant
given_value g globals x t y = if has_literal_indices x then initial_value g.layouts globals t y else None

abbrev pub initial_values : Environment → List Declared → CType → Initialiser → Checked (List Constant)
initial_values g globals = cells g Constant (λ x at t y. kept (BadInitialiser at) (given_value g globals x t y)) zero_value

abbrev pub uninitialised : Environment → CType → List Constant
uninitialised g t = map zero_value (object_cells g.layouts t)
