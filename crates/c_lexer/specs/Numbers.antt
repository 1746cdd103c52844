-- Integer constants (C11 6.4.4.1), with `int` of 32 bits and `long` of 64.
use Rattle.std.specs.Prelude.{ℕ, ◌+◌, ◌-◌, ◌*◌, ◌^◌, Bool, ◌||◌, ◌==◌, nat_lt, if◌then◌else◌, List, [], ◌∷◌, length, drop, slice_index, codes, fold, take_while, Option, Some, None, option_map, Result, Ok, Err}
use Rattle.std.specs.List.{list_any}
use Rattle.std.specs.Str.{bytes_eq}
use Rattle.c_lexer.specs.declared.token.IntSuffix.{IntSuffix}
use Rattle.c_lexer.specs.declared.token.IntSuffix.TheVariants as suffix
use Rattle.c_lexer.specs.declared.token.ConstantType.{ConstantType}
use Rattle.c_lexer.specs.declared.token.ConstantType.TheVariants as type
use Rattle.c_lexer.specs.declared.token.IntegerConstant.{IntegerConstant}
use Rattle.c_lexer.specs.declared.fault.Flaw.{Flaw}
use Rattle.c_lexer.specs.declared.fault.Flaw.TheVariants as flaw
use Rattle.c_lexer.specs.declared.number.Radix.{Radix}
use Rattle.c_lexer.specs.declared.number.Radix.TheVariants as radix
use Rattle.c_lexer.specs.Bytes.{is_between, is_digit}

-- what follows the longest front that passes a test
abbrev pub rest_after : (ℕ → Bool) → List ℕ → List ℕ
rest_after test xs = drop (length (take_while test xs)) xs

-- `0x` and `0X` begin a hexadecimal constant, another `0` an octal one
unfoldable pub radix_of : List ℕ → Radix
radix_of w = if slice_index w 0 == 48 then (if slice_index w 1 == 120 || slice_index w 1 == 88 then radix.Hexadecimal else radix.Octal) else radix.Decimal

-- the constant without its prefix
abbrev pub body_of : Radix → List ℕ → List ℕ
body_of radix.Hexadecimal w = drop 2 w
body_of _ w = w

abbrev pub base_of : Radix → ℕ
base_of radix.Decimal = 10
base_of radix.Octal = 8
base_of radix.Hexadecimal = 16

abbrev pub is_digit_in : Radix → ℕ → Bool
is_digit_in radix.Decimal c = is_digit c
is_digit_in radix.Octal c = is_between 48 55 c
is_digit_in radix.Hexadecimal c = is_digit c || (is_between 97 102 c || is_between 65 70 c)

abbrev pub digit_value : ℕ → ℕ
digit_value c = if is_digit c then c - 48 else (if is_between 65 70 c then c - 55 else c - 87)

unfoldable pub value_of : ℕ → List ℕ → ℕ
value_of base digits = fold (λ v c. v * base + digit_value c) 0 digits

-- at most one `u` or `U` and at most one `l` or `L`, in either order
unfoldable pub suffix_of : List ℕ → Option IntSuffix
suffix_of w =
    if list_any (bytes_eq w) (codes "" ∷ []) then Some suffix.Plain
    else (if list_any (bytes_eq w) (codes "u" ∷ codes "U" ∷ []) then Some suffix.U
    else (if list_any (bytes_eq w) (codes "l" ∷ codes "L" ∷ []) then Some suffix.L
    else (if list_any (bytes_eq w) (codes "ul" ∷ codes "uL" ∷ codes "Ul" ∷ codes "UL" ∷ codes "lu" ∷ codes "lU" ∷ codes "Lu" ∷ codes "LU" ∷ []) then Some suffix.UL
    else None)))

-- the least number that each type doesn't hold
abbrev pub int_limit : ℕ
int_limit = 2 ^ 31

abbrev pub unsigned_int_limit : ℕ
unsigned_int_limit = 2 ^ 32

abbrev pub long_limit : ℕ
long_limit = 2 ^ 63

abbrev pub unsigned_long_limit : ℕ
unsigned_long_limit = 2 ^ 64

abbrev pub limit_of : ConstantType → ℕ
limit_of type.Int = int_limit
limit_of type.UnsignedInt = unsigned_int_limit
limit_of type.Long = long_limit
limit_of type.UnsignedLong = unsigned_long_limit

-- the types that a constant may have, in their order
unfoldable pub constant_types : Radix → IntSuffix → List ConstantType
constant_types radix.Decimal suffix.Plain = type.Int ∷ type.Long ∷ []
constant_types radix.Decimal suffix.L = type.Long ∷ []
constant_types _ suffix.Plain = type.Int ∷ type.UnsignedInt ∷ type.Long ∷ type.UnsignedLong ∷ []
constant_types _ suffix.L = type.Long ∷ type.UnsignedLong ∷ []
constant_types _ suffix.U = type.UnsignedInt ∷ type.UnsignedLong ∷ []
constant_types _ suffix.UL = type.UnsignedLong ∷ []

-- some type holds the value
abbrev pub is_held : Radix → IntSuffix → ℕ → Bool
is_held r s value = list_any (λ t. nat_lt value (limit_of t)) (constant_types r s)

abbrev pub held_number : Radix → List ℕ → Option IntSuffix → Result IntSuffix Flaw
held_number r digits None = Err flaw.BadNumber
held_number r digits (Some s) = if is_held r s (value_of (base_of r) digits) then Ok s else Err flaw.NumberTooWide

abbrev pub number_with : Radix → List ℕ → List ℕ → Result IntSuffix Flaw
number_with r [] rest = Err flaw.BadNumber
number_with r (c ∷ cs) rest = held_number r (c ∷ cs) (suffix_of rest)

-- the digits of the radix, as many as there are, and then the suffix
unfoldable pub number_of : List ℕ → Result IntSuffix Flaw
number_of w =
    let r = radix_of w in
    number_with r (take_while (is_digit_in r) (body_of r w)) (rest_after (is_digit_in r) (body_of r w))

-- ---- what a constant is

-- the number that the digits after the prefix write
unfoldable pub number_value : List ℕ → ℕ
number_value w = let r = radix_of w in value_of (base_of r) (take_while (is_digit_in r) (body_of r w))

-- the first type that holds the value
unfoldable pub first_holding : List ConstantType → ℕ → Option ConstantType
first_holding [] value = None
first_holding (t ∷ ts) value = if nat_lt value (limit_of t) then Some t else first_holding ts value

unfoldable pub constant_with : IntSuffix → List ℕ → Option IntegerConstant
constant_with s w = option_map (λ t. record { value = number_value w; kind = t }) (first_holding (constant_types (radix_of w) s) (number_value w))

abbrev constant_by : Result IntSuffix Flaw → List ℕ → Option IntegerConstant
constant_by (Ok s) w = constant_with s w
constant_by (Err f) w = None

unfoldable pub constant_of : List ℕ → Option IntegerConstant
constant_of w = constant_by (number_of w) w
