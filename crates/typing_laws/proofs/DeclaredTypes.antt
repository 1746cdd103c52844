-- The types that declarators give keep the rules, where they are complete and within the limit.
use Rattle.std.proofs.Common.{◌≡◌, ℕ, zero, suc, true, List, [], ◌∷◌, length, Option, Some, None, refl, ◌∙◌, arith}
use Rattle.std.specs.Prelude.{ℤ, pos, negsuc, nat_le}
use Rattle.std.specs.List.{AllByRecursion}
use Rattle.std.proofs.lemmas.Bool.{le-leb}
use Rattle.c_grammar.specs.declared.types.Specifier.{Specifier}
use Rattle.c_grammar.specs.declared.types.Specifier.TheVariants as sp
use Rattle.step_meaning.specs.declared.value.CType.{CType}
use Rattle.step_meaning.specs.declared.expr.Expr.{Expr}
use Rattle.step_meaning.specs.declared.program.Layout.{Layout}
use Rattle.step_meaning.specs.TypeRules.{is_object_type}
use Rattle.step_meaning.proofs.Ranges.{and_true}
use Rattle.step_meaning.proofs.TypedMemory.{WhereSome}
use Rattle.typing_rules.specs.Checked.{kept}
use Rattle.typing_rules.specs.Syntax.{Expression, Modifier, PointerTo, ArrayUnsized, ArrayOf, Initialiser, Value, Braces, Initialisers, NoElement, Element}
use Rattle.typing_rules.specs.Operands as operands
use Rattle.typing_rules.specs.Environment.{Environment, specified}
use Rattle.typing_rules.specs.ConstantExpressions.{positive, size_of_array, constant}
use Rattle.typing_rules.specs.Expressions.{operand}
use Rattle.typing_rules.specs.Declarations.{Layer, Pointing, Sized, size, layers, layered, element_number, count_of, is_complete, is_within_limit}
use Rattle.typing_rules.proofs.ObjectTypes.{has_elements, object_types}
use Rattle.typing_laws.specs.SmallTypes.{WhereOk}
use Rattle.typing_laws.specs.ParsedSyntax.{IfThere, HasElement, InitialiserParsed}
use Rattle.typing_laws.proofs.CheckedValues.{then_holds, then_known, kept_holds}

abbrev pub IsPositive : ℕ → Type 0
IsPositive n = nat_le 1 n ≡ true

positive_holds : (o : Option ℤ) → WhereSome IsPositive (positive o)
positive_holds None = tt
positive_holds (Some (pos zero)) = tt
positive_holds (Some (pos (suc n))) = le-leb 1 (suc n) (omega arith)
positive_holds (Some (negsuc n)) = tt

size_holds : (x : Expr) → WhereSome IsPositive (size_of_array x)
unfolding size_of_array
size_holds x = positive_holds (constant x)

size_fits : (g : Environment) (x : Expression) → WhereOk IsPositive (size g x)
unfolding size
size_fits g x = then_known IsPositive (operand g x) _ (λ a e. then_known IsPositive (operands.value a) _ (λ v i. kept_holds IsPositive _ (size_of_array v.expr) (size_holds v.expr)))

-- an array has an element
abbrev pub HasSize : Layer → Type 0
HasSize Pointing = Unit {0}
HasSize (Sized n) = IsPositive n

abbrev pub HaveSizes : List Layer → Type 0
HaveSizes ls = AllByRecursion HasSize ls

pub layers_fit : (g : Environment) (count : ℕ) (ms : List Modifier) → IsPositive count → WhereOk HaveSizes (layers g count ms)
unfolding layers
layers_fit g count [] h = tt
layers_fit g count (PointerTo ∷ ms) h = then_holds HaveSizes HaveSizes (layers g count ms) _ (layers_fit g count ms h) (λ ls k. (tt, k))
layers_fit g count (ArrayUnsized ∷ ms) h = then_holds HaveSizes HaveSizes (layers g count ms) _ (layers_fit g count ms h) (λ ls k. (h, k))
layers_fit g count (ArrayOf x ∷ ms) h =
    then_holds IsPositive HaveSizes (size g x) _ (size_fits g x) (λ n i.
    then_holds HaveSizes HaveSizes (layers g count ms) _ (layers_fit g count ms h) (λ ls k. (i, k)))

pub layered_elements : (ls : List Layer) (t : CType) → HaveSizes ls → has_elements t ≡ true → has_elements (layered ls t) ≡ true
unfolding layered
layered_elements [] t h e = e
layered_elements (Pointing ∷ ls) t h e = layered_elements ls t h.1 e
layered_elements (Sized n ∷ ls) t h e = and_true (layered_elements ls t h.1 e) h.0

pub specified_elements : (g : Environment) (x : Specifier) → WhereOk (λ t. has_elements t ≡ true) (specified g x)
unfolding specified
specified_elements g (sp.Integer x) = refl
specified_elements g (sp.Void t) = refl
specified_elements g (sp.Struct t tag) = then_known (λ (t : CType). has_elements t ≡ true) (kept _ _) _ (λ n e. refl)

pub declared_keeps : (ls : List Layout) (known : ℕ) (t : CType) → has_elements t ≡ true → is_complete (length ls) known t ≡ true → is_within_limit ls t ≡ true → is_object_type ls known t ≡ true
declared_keeps ls known t e c w = object_types ls known t e ∙ and_true c w

element_positive : (xs : Initialisers) → HasElement [] xs → IsPositive (element_number xs)
unfolding element_number
element_positive NoElement h = absurd h
element_positive (Element x xs) h = le-leb 1 (suc (element_number xs)) (omega arith)

pub count_positive : (text : List ℕ) (o : Option Initialiser) → IfThere (InitialiserParsed text) o → IsPositive (count_of o)
count_positive text None h = refl
count_positive text (Some (Value x)) h = refl
count_positive text (Some (Braces t xs)) h = element_positive xs h.0
