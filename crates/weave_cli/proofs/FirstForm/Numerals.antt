-- What a number writes is a decimal constant.
use Rattle.std.proofs.Common.{◌≡◌, ℕ, zero, suc, ◌<◌, ◌^◌, true, List, [], ◌∷◌, length, get_or, refl, ap, pos, negsuc, ◌≤ℤ◌, ℤ, arith}
use Rattle.std.specs.List.{list_all}
use Rattle.std.specs.Str.Parse.{AllDigits}
use Rattle.std.specs.Fmt.{decimal, signed_decimal}
use Rattle.std.specs.Int.{IsInRange}
use Rattle.std.proofs.lemmas.Bool.Decides.{nat_tests}
use Rattle.std.proofs.lemmas.Int.{ints}
use Rattle.std.proofs.lemmas.Str.Parse.{digit_from_value}
use Rattle.std.proofs.lemmas.Fmt.{decimal_is_IsNumeral, decimal_digit, first_decimal}
use Rattle.c_lexer.specs.Bytes.{is_digit, is_between}
use Rattle.c_lexer.specs.FirstForm.Tokens.{is_decimal}
use Rattle.c_lexer.proofs.ListLemmas.{both}

digit_test : (c : ℕ) → IsInRange 48 57 c → is_digit c ≡ true
digit_test c h = grind (arith, nat_tests)

first_test : (c : ℕ) → IsInRange 48 57 c → 48 < c → is_between 49 57 c ≡ true
first_test c h some = grind (arith, nat_tests)

digit_tests : (cs : List ℕ) → AllDigits 10 cs → list_all is_digit cs ≡ true
digit_tests [] d = refl
digit_tests (c ∷ cs) d = both _ _ (digit_test c (digit_from_value c d.0)) (digit_tests cs d.1)

some_decimal : (cs : List ℕ) → 0 < length cs → AllDigits 10 cs → 48 < get_or cs 0 0 → is_decimal cs ≡ true
unfolding is_decimal
some_decimal [] some d first = absurd (omega arith)
some_decimal (c ∷ []) some d first = digit_test c (digit_from_value c d.0)
some_decimal (c ∷ e ∷ cs) some d first = both _ _ (first_test c (digit_from_value c d.0) first) (digit_tests (e ∷ cs) d.1)

zero_decimal : is_decimal (decimal 0) ≡ true
unfolding is_decimal
zero_decimal = ap is_decimal (decimal_digit 0 (omega arith))

pub decimal_is_decimal : (n : ℕ) → n < 2 ^ 64 → is_decimal (decimal n) ≡ true
decimal_is_decimal zero h = zero_decimal
decimal_is_decimal (suc n) h =
    let d = decimal_is_IsNumeral (suc n) h in
    some_decimal (decimal (suc n)) d.0.0 d.0.1 (first_decimal (suc n) (omega arith) h)

pub signed_is_decimal : (n : ℤ) → pos 0 ≤ℤ n → n ≤ℤ pos 2147483647 → is_decimal (signed_decimal n) ≡ true
signed_is_decimal (pos n) low high = decimal_is_decimal n (omega (arith, ints))
signed_is_decimal (negsuc n) low high = absurd (omega (arith, ints))
