-- What the type of an object keeps is what is asked of a declared name in two parts, which have numbers of their own: that the type is complete, and that it is within the limit.
use Rattle.std.proofs.Common.{◌≡◌, ℕ, Bool, true, false, ◌&&◌, List, length, refl, sym}
use Rattle.std.specs.Prelude.{nat_le, nat_lt}
use Rattle.step_meaning.specs.declared.value.CType.{CType, end_of-CType, more_of-CType}
use Rattle.step_meaning.specs.declared.value.CType.TheVariants.{Void, Int, Pointer', Array', Struct}
use Rattle.step_meaning.specs.declared.program.Layout.{Layout}
use Rattle.step_meaning.specs.TypeRules.{is_object_type}
use Rattle.typing_rules.specs.Declarations.{is_complete, is_within_limit}

-- each array has an element
abbrev pub has_elements : CType → Bool
has_elements (Pointer' b (more_of-CType t end_of-CType)) = has_elements t
has_elements (Array' b (more_of-CType t end_of-CType) n) = has_elements t && nat_le 1 n
has_elements _ = true

and_true : (b : Bool) → (b && true) ≡ b
and_true true = refl
and_true false = refl

and_parts : (a b : Bool) → (a && b) ≡ true → (a ≡ true) × (b ≡ true)
and_parts true b h = (refl, h)
and_parts false b h = absurd (cc h)

regrouped : (a b c : Bool) → ((a && b) && (true && c)) ≡ (a && (b && c))
regrouped true true c = refl
regrouped true false c = refl
regrouped false b c = refl

pub object_types : (ls : List Layout) (known : ℕ) (t : CType) → has_elements t ≡ true → is_object_type ls known t ≡ (is_complete (length ls) known t && is_within_limit ls t)
unfolding is_complete is_within_limit
object_types ls known Void h = refl
object_types ls known (Int k) h = refl
object_types ls known (Pointer' b (more_of-CType Void end_of-CType)) h = refl
object_types ls known (Pointer' b (more_of-CType (Int k) end_of-CType)) h = refl
object_types ls known (Pointer' b (more_of-CType (Struct n) end_of-CType)) h = sym (and_true (nat_lt n known))
object_types ls known (Pointer' b (more_of-CType (Pointer' c (more_of-CType t end_of-CType)) end_of-CType)) h = object_types ls known (Pointer' c (more_of-CType t end_of-CType)) h
object_types ls known (Pointer' b (more_of-CType (Array' c (more_of-CType t end_of-CType) n) end_of-CType)) h = object_types ls known (Array' c (more_of-CType t end_of-CType) n) h
object_types ls known (Array' b (more_of-CType t end_of-CType) n) h =
    let p = and_parts (has_elements t) (nat_le 1 n) h in
    rw (object_types ls known t p.0, p.1) (regrouped (is_complete (length ls) known t) (is_within_limit ls t) _)
object_types ls known (Struct n) h = sym (and_true (nat_lt n (length ls)))
