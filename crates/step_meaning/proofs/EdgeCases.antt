-- Operations on integers and pointers at the edges of their ranges, computed.
use Rattle.std.proofs.Common.{◌≡◌, refl, Some, None, Ok, Err}
use Rattle.std.specs.Prelude.{pos, negsuc}
use Rattle.step_meaning.specs.declared.value.IntKind.TheVariants as kind
use Rattle.step_meaning.specs.declared.value.NameKind.TheVariants as names
use Rattle.step_meaning.specs.declared.value.Name.{Name}
use Rattle.step_meaning.specs.declared.value.Value.{Value}
use Rattle.step_meaning.specs.declared.value.Value.TheVariants.{Null, Pointer}
use Rattle.step_meaning.specs.declared.value.RunFault.TheVariants as fault
use Rattle.step_meaning.specs.declared.expr.IntOp.TheVariants as op
use Rattle.step_meaning.specs.declared.expr.UnaryOp.TheVariants as unary
use Rattle.step_meaning.specs.Numbers.{binary_of, unary_of, converted}
use Rattle.step_meaning.specs.Names.{moved, distance}

-- -7 / 2, -7 % 2, -7 >> 1
quotient : binary_of op.Div kind.Int (negsuc 6) (pos 2) ≡ Ok (negsuc 2)
quotient = refl

rest_of_division : binary_of op.Rem kind.Int (negsuc 6) (pos 2) ≡ Ok (negsuc 0)
rest_of_division = refl

down : binary_of op.Shr kind.Int (negsuc 6) (pos 1) ≡ Ok (negsuc 3)
down = refl

-- 1 << 31, 1 << 32, -1 << 40, 1U << 31
up_too_far : binary_of op.Shl kind.Int (pos 1) (pos 31) ≡ Err fault.Overflow
up_too_far = refl

up_by_width : binary_of op.Shl kind.Int (pos 1) (pos 32) ≡ Err fault.ShiftRange
up_by_width = refl

count_first : binary_of op.Shl kind.Int (negsuc 0) (pos 40) ≡ Err fault.ShiftRange
count_first = refl

up_unsigned : binary_of op.Shl kind.UInt (pos 1) (pos 31) ≡ Ok (pos 2147483648)
up_unsigned = refl

-- the least `int` divided by -1, with both operators, and negated
least_quotient : binary_of op.Div kind.Int (negsuc 2147483647) (negsuc 0) ≡ Err fault.Overflow
least_quotient = refl

least_rest : binary_of op.Rem kind.Int (negsuc 2147483647) (negsuc 0) ≡ Err fault.Overflow
least_rest = refl

least_negated : unary_of unary.Neg kind.Int (negsuc 2147483647) ≡ Err fault.Overflow
least_negated = refl

no_divisor : binary_of op.Rem kind.Int (pos 5) (pos 0) ≡ Err fault.ZeroDivisor
no_divisor = refl

-- (unsigned char) -1, (char) 200, ~0U, -1 & 255, -1L ^ 1
to_unsigned_char : converted kind.UChar (negsuc 0) ≡ pos 255
to_unsigned_char = refl

to_char : converted kind.Char (pos 200) ≡ negsuc 55
to_char = refl

inverted : unary_of unary.Invert kind.UInt (pos 0) ≡ Ok (pos 4294967295)
inverted = refl

and_bits : binary_of op.And kind.Int (negsuc 0) (pos 255) ≡ Ok (pos 255)
and_bits = refl

xor_bits : binary_of op.Xor kind.Long (negsuc 0) (pos 1) ≡ Ok (negsuc 1)
xor_bits = refl

-- ---- pointers into a variable of 10 cells

abbrev name : Name
name = record { kind = names.Global; activation = 0; index = 0 }

abbrev at_three : Value
at_three = Pointer name 3

to_the_end : moved at_three (Some 10) (pos 7) ≡ Ok (Pointer name 10)
to_the_end = refl

past_the_end : moved at_three (Some 10) (pos 8) ≡ Err fault.Pointer
past_the_end = refl

before_the_start : moved at_three (Some 10) (negsuc 3) ≡ Err fault.Pointer
before_the_start = refl

not_live : moved at_three None (pos 0) ≡ Err fault.Invalid
not_live = refl

null_stays : moved Null None (pos 0) ≡ Ok Null
null_stays = refl

null_moved : moved Null None (pos 1) ≡ Err fault.Pointer
null_moved = refl

in_threes : distance (Pointer name 9) at_three 3 ≡ Ok (pos 2)
in_threes = refl

in_fours : distance (Pointer name 9) at_three 4 ≡ Err fault.Pointer
in_fours = refl
