-- Where `malloc` is asked for something, by the form of its argument.
use Rattle.std.proofs.Common.{◌≡◌, Bool, true, false, ◌&&◌, ◌||◌, Option, Some, None, is_some, Ok, refl, ap, ◌∙◌, if◌then◌else◌}
use Rattle.c_lexer.specs.declared.token.Place.{Place}
use Rattle.step_meaning.specs.declared.value.CType.{CType}
use Rattle.typing_rules.specs.declared.operand.Value.{Value}
use Rattle.typing_rules.specs.Checked.{Checked, ◌>>=◌}
use Rattle.typing_rules.specs.Syntax.{Expression, Name, Number, Character, Paren, Call, Index, Member, Arrow, Increment, Decrement, Prefix, Cast, SizeOf, SizeOfType, Binary, Choose, Assign}
use Rattle.typing_rules.specs.Environment.{Environment, place_of}
use Rattle.typing_rules.specs.Operands.{value}
use Rattle.typing_rules.specs.Allocation.{Request, product}
use Rattle.typing_rules.specs.Expressions.{operand, measured, requested, is_star}
use Rattle.typing_shapes.specs.Requests.{is_sized, is_request}
use Rattle.typing_steps.specs.Steps.{asked}

-- ---- forms

none_of : {A : Type 0} (o : Option A) → is_some o ≡ false → o ≡ None
none_of None h = refl
none_of (Some a) h = cc

pub measured_there : (g : Environment) (x : Expression) → is_some (measured g x) ≡ is_sized x
unfolding measured is_sized
measured_there g (Name t) = refl
measured_there g (Number t) = refl
measured_there g (Character t) = refl
measured_there g (Paren t x) = measured_there g x
measured_there g (Call t xs) = refl
measured_there g (Index x t i) = refl
measured_there g (Member x t m) = refl
measured_there g (Arrow x t m) = refl
measured_there g (Increment x t) = refl
measured_there g (Decrement x t) = refl
measured_there g (Prefix t x) = refl
measured_there g (Cast t u x) = refl
measured_there g (SizeOf t x) = refl
measured_there g (SizeOfType t u) = refl
measured_there g (Binary x t y) = refl
measured_there g (Choose x t y z) = refl
measured_there g (Assign x t y) = refl

pub no_measure : (g : Environment) (x : Expression) → is_sized x ≡ false → measured g x ≡ None
no_measure g x h = none_of (measured g x) (measured_there g x ∙ h)

some_product : (at : Place) (s : Option (Checked CType)) (m : Checked Value) (o : Option (Checked CType)) (n : Checked Value) → is_some (product at s m o n) ≡ (is_some o || is_some s)
unfolding product
some_product at s m (Some t) n = refl
some_product at (Some s) m None n = refl
some_product at None m None n = refl

pub requested_there : (g : Environment) (x : Expression) → is_some (requested g x) ≡ is_request x
unfolding requested is_request
requested_there g (Name t) = refl
requested_there g (Number t) = refl
requested_there g (Character t) = refl
requested_there g (Paren t x) = requested_there g x
requested_there g (Call t xs) = refl
requested_there g (Index x t i) = refl
requested_there g (Member x t m) = refl
requested_there g (Arrow x t m) = refl
requested_there g (Increment x t) = refl
requested_there g (Decrement x t) = refl
requested_there g (Prefix t x) = refl
requested_there g (Cast t u x) = refl
requested_there g (SizeOf t x) = refl
requested_there g (SizeOfType t u) = refl
requested_there g (Binary x t y) =
    by (is_star t) (product (place_of t) (measured g x) (operand g x >>= value) (measured g y) (operand g y >>= value))
    (some_product (place_of t) (measured g x) (operand g x >>= value) (measured g y) (operand g y >>= value) ∙ rw (measured_there g x, measured_there g y) refl)
  where
    by : (b : Bool) (o : Option (Checked Request)) → is_some o ≡ (is_sized y || is_sized x) → is_some (if b then o else None) ≡ (b && (is_sized y || is_sized x))
    by true o h = h
    by false o h = refl
requested_there g (Choose x t y z) = refl
requested_there g (Assign x t y) = refl

pub nothing_asked : (g : Environment) (x : Expression) → is_request x ≡ false → asked (requested g x) ≡ Ok None
nothing_asked g x h = ap asked (none_of (requested g x) (requested_there g x ∙ h))
