-- Steps between two rules, as code takes them.
use Rattle.std.specs.Prelude.{List, [], Option, Some, None, Ok, Err}
use Rattle.c_lexer.specs.declared.token.Place.{Place}
use Rattle.c_words.specs.declared.word.Word.{Word}
use Rattle.c_words.specs.declared.word.Word.TheVariants as w
use Rattle.c_words.specs.declared.word.Leaf.{Leaf}
use Rattle.step_meaning.specs.declared.expr.UnaryOp.TheVariants as unary
use Rattle.step_meaning.specs.declared.expr.Expr.TheVariants as e
use Rattle.step_meaning.specs.declared.value.CType.{CType}
use Rattle.step_meaning.specs.declared.expr.Expr.{Expr}
use Rattle.step_meaning.specs.declared.program.Layout.{Layout}
use Rattle.typing_laws.specs.SmallTypes.{IsSmallType, IsSmallValue}
use Rattle.typing_objects.specs.declared.allocation.Request as parts
use Rattle.typing_objects.specs.Parts.{request}
use Rattle.typing_rules.specs.declared.operand.Operand.{Operand}
use Rattle.typing_rules.specs.declared.operand.Value.{Value}
use Rattle.typing_rules.specs.Checked.{Checked, ◌>>=◌}
use Rattle.typing_rules.specs.Syntax.{Expression, Expressions}
use Rattle.typing_rules.specs.Environment.{Environment, place_of}
use Rattle.typing_rules.specs.Operands.{value}
use Rattle.typing_rules.specs.Subobjects.{Base, InArray, BehindPointer}
use Rattle.typing_rules.specs.Allocation.{Request, product}
use Rattle.typing_rules.specs.Expressions.{operand, arguments, only_value, only_request, measured, malloc_called, free_called, fitted_argument}
use Rattle.typing_rules.specs.Operators.{promoting, negation, dereferenced}

-- a prefix operator on a value
abbrev pub prefixed_by : Leaf → Word → Value → Checked Operand
prefixed_by t w.Star v = dereferenced (place_of t) v
prefixed_by t w.Plus v = promoting (place_of t) (λ k x. x) v
prefixed_by t w.Minus v = promoting (place_of t) (e.Unary unary.Neg) v
prefixed_by t w.Tilde v = promoting (place_of t) (e.Unary unary.Invert) v
prefixed_by t _ v = negation (place_of t) v

-- what stands before `[ ]` has small elements
abbrev pub IsSmallBase : List Layout → Base → Type 0
IsSmallBase layouts (InArray p t) = IsSmallType layouts t
IsSmallBase layouts (BehindPointer v) = IsSmallValue layouts v

-- an argument, brought to the type of its parameter
abbrev pub argument : Environment → Expression → List CType → Checked Expr
argument g x ts = do
  a ← operand g x
  v ← value a
  fitted_argument g ts v

-- what is asked for, or nothing where the argument has another form
abbrev pub asked : Option (Checked Request) → Checked (Option Request)
asked None = Ok None
asked (Some (Ok q)) = Ok (Some q)
asked (Some (Err e)) = Err e

abbrev pub request_there : Option parts.Request → Option Request
request_there None = None
request_there (Some q) = Some (request q)

abbrev pub asked_result : Checked (Option parts.Request) → Checked (Option Request)
asked_result (Ok o) = Ok (request_there o)
asked_result (Err e) = Err e

-- a call of `malloc` with these arguments, and one of `free`
abbrev pub malloc_of : Environment → Leaf → Expressions → Checked Operand
malloc_of g t xs = malloc_called g t (only_request g xs) (only_value g xs) (arguments g xs [])

abbrev pub free_of : Environment → Leaf → Expressions → Checked Operand
free_of g t xs = free_called g t (only_value g xs) (arguments g xs [])

-- so many objects, where the operand is made already
abbrev pub times_of : Environment → Place → Operand → Expression → Checked (Option Request)
times_of g at a y = asked (product at None (value a) (measured g y) (operand g y >>= value))

abbrev pub sized_by : Environment → Place → Expression → Expression → Checked (Option Request)
sized_by g at x y = asked (product at (measured g x) (operand g x >>= value) None (operand g y >>= value))
