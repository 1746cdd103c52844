-- Kinds of integers: the promotions and the usual arithmetic conversions lead to promoted kinds.
use Rattle.std.proofs.Common.{◌≡◌, Bool, true, false, refl, sym, ap, ◌∙◌}
use Rattle.step_meaning.specs.declared.value.IntKind.{IntKind}
use Rattle.step_meaning.specs.declared.value.IntKind.TheVariants as kind
use Rattle.step_meaning.specs.Types.{kind_number}
use Rattle.step_meaning.specs.Conversions.{same_int_kind, is_promoted, promoted, common}
use Rattle.step_meaning.proofs.Ranges.{false_is_not_true}
use Rattle.step_meaning.proofs.SameTypes.{number_same, same_kind_equal}

pub promoted_is_promoted : (k : IntKind) → is_promoted (promoted k) ≡ true
promoted_is_promoted kind.Char = refl
promoted_is_promoted kind.SChar = refl
promoted_is_promoted kind.UChar = refl
promoted_is_promoted kind.Short = refl
promoted_is_promoted kind.UShort = refl
promoted_is_promoted kind.Int = refl
promoted_is_promoted kind.UInt = refl
promoted_is_promoted kind.Long = refl
promoted_is_promoted kind.ULong = refl

pub common_is_promoted : (k l : IntKind) → is_promoted (common k l) ≡ true
common_is_promoted kind.Char kind.Char = refl
common_is_promoted kind.SChar kind.Char = refl
common_is_promoted kind.UChar kind.Char = refl
common_is_promoted kind.Short kind.Char = refl
common_is_promoted kind.UShort kind.Char = refl
common_is_promoted kind.Int kind.Char = refl
common_is_promoted kind.UInt kind.Char = refl
common_is_promoted kind.Long kind.Char = refl
common_is_promoted kind.ULong kind.Char = refl
common_is_promoted _ _ = refl

-- kinds that differ differ in the other order
pub turned_apart : (k l : IntKind) → same_int_kind k l ≡ false → same_int_kind l k ≡ false
turned_apart k l e = by (same_int_kind l k) refl
  where
    by : (b : Bool) → same_int_kind l k ≡ b → b ≡ false
    by true h = false_is_not_true (sym e ∙ ap (same_int_kind k) (same_kind_equal l k h) ∙ number_same (kind_number k))
    by false h = refl
