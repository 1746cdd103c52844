-- The shapes of types that code makes.
use Rattle.std.proofs.Common.{◌≡◌, ℕ, refl}
use Rattle.step_meaning.specs.declared.value.IntKind.{IntKind}
use Rattle.step_meaning.specs.declared.value.CType.{CType}
use Rattle.step_meaning.specs.declared.value.CType.TheVariants.{Void, Int, Struct, Pointer, Array}
use Rattle.step_meaning.specs.declared.value.CType.TheBlock.{shape-the_row-CType-0, hidden-the_row-CType-0}
use denote.Hole.Carrier.{hidden}
use Rattle.step_meaning.specs.ExpressionTypes.{pointer_to}
use Rattle.typing_rules.specs.Judgements.{shape}
use Rattle.typing_rules.specs.declared.judgement.Shape.TheVariants as is

pub shape-Void : shape Void ≡ is.NoValue
unfolding shape shape-the_row-CType-0 hidden-the_row-CType-0 hidden
shape-Void = refl

pub shape-Int : (k : IntKind) → shape (Int k) ≡ is.Integer k
unfolding shape shape-the_row-CType-0 hidden-the_row-CType-0 hidden
shape-Int k = refl

pub shape-Struct : (n : ℕ) → shape (Struct n) ≡ is.Aggregate
unfolding shape shape-the_row-CType-0 hidden-the_row-CType-0 hidden
shape-Struct n = refl

pub shape-Array : (t : CType) (n : ℕ) → shape (Array t n) ≡ is.Aggregate
unfolding shape shape-the_row-CType-0 hidden-the_row-CType-0 hidden
shape-Array t n = refl

pub shape-Pointer : (t : CType) → shape (Pointer t) ≡ shape (pointer_to t)
unfolding shape shape-the_row-CType-0 hidden-the_row-CType-0 hidden
shape-Pointer t = refl

pub behind-Int : (k : IntKind) → shape (pointer_to (Int k)) ≡ is.ToObject
unfolding shape shape-the_row-CType-0 hidden-the_row-CType-0 hidden
behind-Int k = refl

pub behind-Struct : (n : ℕ) → shape (pointer_to (Struct n)) ≡ is.ToObject
unfolding shape shape-the_row-CType-0 hidden-the_row-CType-0 hidden
behind-Struct n = refl

pub behind-Pointer : (t : CType) → shape (pointer_to (Pointer t)) ≡ is.ToObject
unfolding shape shape-the_row-CType-0 hidden-the_row-CType-0 hidden
behind-Pointer t = refl

pub behind-Array : (t : CType) (n : ℕ) → shape (pointer_to (Array t n)) ≡ is.ToObject
unfolding shape shape-the_row-CType-0 hidden-the_row-CType-0 hidden
behind-Array t n = refl

pub behind-Void : shape (pointer_to Void) ≡ is.ToVoid
unfolding shape shape-the_row-CType-0 hidden-the_row-CType-0 hidden
behind-Void = refl

pub ruleset shapes = (shape-Void, shape-Int, shape-Struct, shape-Array, shape-Pointer, behind-Int, behind-Struct, behind-Pointer, behind-Array, behind-Void)
