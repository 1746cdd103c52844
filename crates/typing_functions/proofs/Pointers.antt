-- Pointers to `void`, and `int`.
use Rattle.std.proofs.Common.{◌≡◌, ℕ, true, false, List, [], ◌∷◌, refl}
use Rattle.step_meaning.specs.declared.value.IntKind.{IntKind}
use Rattle.step_meaning.specs.declared.value.CType.{CType, end_of-CType, more_of-CType}
use Rattle.step_meaning.specs.declared.value.CType.TheVariants as type
use Rattle.step_meaning.specs.declared.value.CType.TheVariants.{Pointer, Array}
use Rattle.step_meaning.specs.declared.value.CType.TheBlock.{shape-the_row-CType-0, hidden-the_row-CType-0}
use denote.Hole.Carrier.{hidden}
use Rattle.step_meaning.specs.Types.{same_type}
use Rattle.step_meaning.specs.ExpressionTypes.{is_void}
use Rattle.typing_rules.specs.Declarations.{Layer, Pointing, Sized, layered}
use Rattle.typing_rules.specs.Functions.{is_void_pointer}
use Rattle.typing_declarators.specs.Types.{is_specified}
use Rattle.typing_functions.specs.Parameters.{is_lone_pointer}
use Rattle.typing_functions.specs.Signatures.{is_int_type}

same_void : (t : CType) → same_type t type.Void ≡ is_void t
same_void type.Void = refl
same_void (type.Int k) = refl
same_void (type.Struct n) = refl
same_void (type.Pointer' b (more_of-CType t end_of-CType)) = refl
same_void (type.Array' b (more_of-CType t end_of-CType) n) = refl

-- ---- each type that code makes

pub void-Pointer : (t : CType) → is_void_pointer (Pointer t) ≡ is_void t
unfolding shape-the_row-CType-0 hidden-the_row-CType-0 hidden
void-Pointer t = same_void t

pub void-Void : is_void_pointer type.Void ≡ false
void-Void = refl

pub void-Int : (k : IntKind) → is_void_pointer (type.Int k) ≡ false
void-Int k = refl

pub void-Array : (t : CType) (n : ℕ) → is_void_pointer (Array t n) ≡ false
unfolding shape-the_row-CType-0 hidden-the_row-CType-0 hidden
void-Array t n = refl

pub void-Struct : (n : ℕ) → is_void_pointer (type.Struct n) ≡ false
void-Struct n = refl

pub ruleset pointers_to_void = (void-Pointer, void-Void, void-Int, void-Array, void-Struct)

pub int-Pointer : (t : CType) → is_int_type (Pointer t) ≡ false
unfolding shape-the_row-CType-0 hidden-the_row-CType-0 hidden
int-Pointer t = refl

pub int-Array : (t : CType) (n : ℕ) → is_int_type (Array t n) ≡ false
unfolding shape-the_row-CType-0 hidden-the_row-CType-0 hidden
int-Array t n = refl

pub ruleset int_types = (int-Pointer, int-Array)

-- ---- the type that layers give

pub lone_pointer : (ls : List Layer) (base : CType) → is_lone_pointer ls ≡ true → is_void_pointer (layered ls base) ≡ is_void base
unfolding layered
lone_pointer [] base e = absurd (cc e)
lone_pointer (Pointing ∷ []) base e = same_void base
lone_pointer (Pointing ∷ (l ∷ ls)) base e = absurd (cc e)
lone_pointer (Sized n ∷ ls) base e = absurd (cc e)

plain : (t : CType) → is_specified t ≡ true → is_void_pointer t ≡ false
plain type.Void e = refl
plain (type.Int k) e = refl
plain (type.Struct n) e = refl
plain (type.Pointer' b t) e = absurd (cc e)
plain (type.Array' b t n) e = absurd (cc e)

pub no_lone_pointer : (ls : List Layer) (base : CType) → is_specified base ≡ true → is_lone_pointer ls ≡ false → is_void_pointer (layered ls base) ≡ false
unfolding layered
no_lone_pointer [] base s e = plain base s
no_lone_pointer (Pointing ∷ []) base s e = absurd (cc e)
no_lone_pointer (Pointing ∷ (Pointing ∷ ls)) base s e = refl
no_lone_pointer (Pointing ∷ (Sized n ∷ ls)) base s e = refl
no_lone_pointer (Sized n ∷ ls) base s e = refl
