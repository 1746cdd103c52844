-- Steps of the rules on initialisers (C11 6.7.9).
use Rattle.std.specs.Prelude.{◌≡◌, ℕ, ◌<◌, ◌^◌, false, Bool, List, [], map, replicate, slice_get, codes, Option, Some, None, Ok, Err}
use Rattle.std.specs.Str.{bytes_eq}
use Rattle.c_lexer.specs.declared.token.Place.{Place}
use Rattle.c_words.specs.declared.word.Leaf.{Leaf}
use Rattle.c_words.specs.declared.chain.Chain.{Chain}
use Rattle.c_grammar.specs.declared.declaration.Init.{Init}
use Rattle.step_meaning.specs.declared.value.CType.{CType, end_of-CType, more_of-CType}
use Rattle.step_meaning.specs.declared.value.CType.TheVariants as type
use Rattle.step_meaning.specs.declared.value.Name.{Name}
use Rattle.step_meaning.specs.declared.value.Value.TheVariants.{Pointer}
use Rattle.step_meaning.specs.declared.expr.Expr.{Expr}
use Rattle.step_meaning.specs.declared.program.Declared.{Declared}
use Rattle.step_meaning.specs.declared.program.Layout.{Layout}
use Rattle.typing_rules.specs.declared.fault.TypeFault.TheVariants.{BadInitialiser}
use Rattle.typing_rules.specs.declared.operand.Value.{Value as ValueOperand}
use Rattle.typing_rules.specs.Checked.{Checked, ◌>>=◌}
use Rattle.typing_rules.specs.Syntax.{Initialiser, Value, Braces, Initialisers, NoElement, Element}
use Rattle.typing_rules.specs.Environment.{Environment, place_of, bytes_in}
use Rattle.typing_rules.specs.ConstantExpressions.{initial_value}
use Rattle.typing_rules.specs.Nodes.{first_place}
use Rattle.typing_rules.specs.Operands.{fitted}
use Rattle.typing_rules.specs.TreesOfDeclarations.{elements_after, init}
use Rattle.typing_rules.specs.Initialisers as rules
use Rattle.typing_shapes.specs.Numbers.{number_leaf}

-- the rules that the expressions of an initialiser keep by themselves, which no kind of cell changes
abbrev pub alone : Environment → Initialiser → Checked (Unit {0})
alone g x = rules.alone g (Unit {0}) (λ x at t y. Ok tt) (λ t. tt) x

abbrev pub all_alone : Environment → Initialisers → Checked (Unit {0})
all_alone g xs = rules.all_alone g (Unit {0}) (λ x at t y. Ok tt) (λ t. tt) xs

abbrev pub first_of : Initialiser → Place
first_of (Value x) = first_place x
first_of (Braces t xs) = place_of t

-- an initialiser of no object
unfoldable pub superfluous : Environment → Initialiser → Checked (Unit {0})
superfluous g x = alone g x >>= (λ u. Err (BadInitialiser (first_of x)))

-- braces around the initialiser of a scalar, with `{` at this place
unfoldable pub refused : Environment → Leaf → Initialiser → Checked (Unit {0})
refused g t x = alone g x >>= (λ u. Err (BadInitialiser (place_of t)))

-- the cell that a value gives, as one kind of cells has it
unfoldable pub given_cell : {A : Type 0} → (Place → CType → Expr → Checked A) → CType → ValueOperand → Checked A
given_cell given t v = fitted v.first t v >>= given v.first t

abbrev pub elements_of : Chain Init → Initialisers
elements_of c = Element (init c.first) (elements_after init c.rest)

-- ---- `{0}`

abbrev pub is_zero_leaf : Environment → Option Leaf → Bool
is_zero_leaf g None = false
is_zero_leaf g (Some t) = bytes_eq (bytes_in g t) (codes "0")

abbrev pub is_zero_token : Environment → Initialiser → Bool
is_zero_token g (Value x) = is_zero_leaf g (number_leaf x)
is_zero_token g (Braces t xs) = false

abbrev pub is_all_zero : Environment → Initialisers → Bool
is_all_zero g (Element x NoElement) = is_zero_token g x
is_all_zero g _ = false

-- ---- the parts of an object

abbrev pub members_there : Option Layout → List CType
members_there None = []
members_there (Some l) = map (λ d. d.ctype) l.members

abbrev pub parts_of : List Layout → CType → List CType
parts_of layouts (type.Array' b (more_of-CType t end_of-CType) n) = replicate n t
parts_of layouts (type.Struct n) = members_there (slice_get layouts n)
parts_of layouts t = []

-- ---- addresses

-- the offset of each address that an expression gives a cell of file scope is below 2^32
abbrev pub AddressesFit : List Layout → List Declared → Type 0
AddressesFit layouts globals = (t : CType) (x : Expr) (n : Name) (o : ℕ) → initial_value layouts globals t x ≡ Some (Pointer n o) → o < 2 ^ 32
