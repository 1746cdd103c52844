-- The promotions and the usual arithmetic conversions, for all kinds.
use Rattle.std.proofs.Common.{◌≡◌, true, refl}
use Rattle.step_meaning.specs.declared.value.IntKind.{IntKind}
use Rattle.step_meaning.specs.declared.value.IntKind.TheVariants as kind
use Rattle.step_meaning.specs.Types.{kind_number}
use Rattle.step_meaning.specs.Conversions.{same_int_kind, is_promoted, promoted, common}
use Rattle.step_meaning.proofs.SameTypes.{number_same}

pub same_kind_itself : (k : IntKind) → same_int_kind k k ≡ true
same_kind_itself k = number_same (kind_number k)

pub promoted_is_promoted : (k : IntKind) → is_promoted (promoted k) ≡ true
promoted_is_promoted kind.Char = refl
promoted_is_promoted kind.SChar = refl
promoted_is_promoted kind.UChar = refl
promoted_is_promoted kind.Short = refl
promoted_is_promoted kind.UShort = refl
promoted_is_promoted kind.Int = refl
promoted_is_promoted kind.UInt = refl
promoted_is_promoted kind.Long = refl
promoted_is_promoted kind.ULong = refl

pub common_is_promoted : (k l : IntKind) → is_promoted (common k l) ≡ true
common_is_promoted kind.Char kind.Char = refl
common_is_promoted kind.SChar kind.Char = refl
common_is_promoted kind.UChar kind.Char = refl
common_is_promoted kind.Short kind.Char = refl
common_is_promoted kind.UShort kind.Char = refl
common_is_promoted kind.Int kind.Char = refl
common_is_promoted kind.UInt kind.Char = refl
common_is_promoted kind.Long kind.Char = refl
common_is_promoted kind.ULong kind.Char = refl
common_is_promoted _ _ = refl

-- the common kind is the one that the operand and it have in common
pub common_again : (k l : IntKind) → same_int_kind (common k l) (common k (common k l)) ≡ true
common_again kind.Char kind.Char = refl
common_again kind.SChar kind.Char = refl
common_again kind.UChar kind.Char = refl
common_again kind.Short kind.Char = refl
common_again kind.UShort kind.Char = refl
common_again kind.Int kind.Char = refl
common_again kind.UInt kind.Char = refl
common_again kind.Long kind.Char = refl
common_again kind.ULong kind.Char = refl
common_again _ _ = refl

-- with an `int` an integer has its promoted kind in common
pub common_with_int : (k : IntKind) → same_int_kind (common k kind.Int) (promoted k) ≡ true
common_with_int kind.Char = refl
common_with_int kind.SChar = refl
common_with_int kind.UChar = refl
common_with_int kind.Short = refl
common_with_int kind.UShort = refl
common_with_int kind.Int = refl
common_with_int kind.UInt = refl
common_with_int kind.Long = refl
common_with_int kind.ULong = refl
