-- The kinds in which operators compute: the integer promotions and the usual arithmetic conversions (C11 6.3.1.1, 6.3.1.8).
use Rattle.std.specs.Prelude.{ℕ, Bool, true, false, ◌==◌, nat_lt, nat_le, if◌then◌else◌}
use Rattle.step_meaning.specs.declared.value.IntKind.{IntKind}
use Rattle.step_meaning.specs.declared.value.IntKind.TheVariants as kind
use Rattle.step_meaning.specs.Numbers.{width, is_signed}
use Rattle.step_meaning.specs.Types.{kind_number}

-- the integer types are all different
abbrev pub same_int_kind : IntKind → IntKind → Bool
same_int_kind k l = kind_number k == kind_number l

-- the kinds that the promotions leave as they are: those in which operators compute
abbrev pub is_promoted : IntKind → Bool
is_promoted kind.Int = true
is_promoted kind.UInt = true
is_promoted kind.Long = true
is_promoted kind.ULong = true
is_promoted _ = false

-- `int` holds all values of the narrower kinds (C11 6.3.1.1, 2)
abbrev pub promoted : IntKind → IntKind
promoted k = if is_promoted k then k else kind.Int

-- the conversion rank of a promoted kind (C11 6.3.1.1, 1)
abbrev pub rank : IntKind → ℕ
rank kind.Long = 2
rank kind.ULong = 2
rank _ = 1

-- the unsigned kind of the same rank
abbrev pub unsigned_of : IntKind → IntKind
unsigned_of kind.Long = kind.ULong
unsigned_of kind.Int = kind.UInt
unsigned_of k = k

-- of two promoted kinds that are both signed or both unsigned, the one with the greater rank
abbrev pub greater_rank : IntKind → IntKind → IntKind
greater_rank k l = if nat_lt (rank k) (rank l) then l else k

-- of an unsigned and a signed kind: the unsigned one where its rank isn't the lesser; else the signed one where it holds all values of the unsigned one; else the unsigned kind of the signed one's rank
abbrev pub unsigned_and_signed : IntKind → IntKind → IntKind
unsigned_and_signed u s = if nat_le (rank s) (rank u) then u else if nat_lt (width u) (width s) then s else unsigned_of s

abbrev pub common_of_promoted : IntKind → IntKind → IntKind
common_of_promoted k l =
    if is_signed k then (if is_signed l then greater_rank k l else unsigned_and_signed l k)
    else (if is_signed l then unsigned_and_signed k l else greater_rank k l)

-- the common kind of two operands (C11 6.3.1.8)
abbrev pub common : IntKind → IntKind → IntKind
common k l = common_of_promoted (promoted k) (promoted l)
