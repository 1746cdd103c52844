-- What the bytes of a decimal constant write.
use Rattle.std.proofs.Common.{◌≡◌, ℕ, ◌<◌, ◌≤◌, ◌^◌, Bool, true, false, ◌&&◌, cond, List, [], ◌∷◌, length, get_or, Option, Some, None, Result, Ok, Err, pos, ℤ, w32, refl, sym, ap, ◌∙◌, subst, ⊎_elim, arith}
use mir.Syntax.{w128}
use mir.Val.{to_z, of_z}
use Rattle.std.proofs.lemmas.Int.{ints}
use Rattle.std.proofs.lemmas.Result.{OkIff-at_ok, OkIff-at_err}
use Rattle.std.specs.Prelude.{nat_le}
use Rattle.std.specs.List.{list_all}
use Rattle.std.specs.Str.{IsAscii, bytes_eq}
use Rattle.std.specs.Str.Parse.{AllDigits, digits_value, ParsesSigned}
use Rattle.std.specs.Fmt.{decimal}
use Rattle.std.specs.Int.{IsInRange}
use Rattle.std.proofs.lemmas.Bool.{and_parts, le-leb, lt-leb, leb-true, cases_lt}
use Rattle.std.proofs.lemmas.Bool.Decides.{nat_tests}
use Rattle.std.proofs.lemmas.Slice.Eq.{bytes_eq-Decides}
use Rattle.std.proofs.lemmas.Str.Parse.{IsNumeralModel, numerals_by_value, tells_digits, parse_signed_digits}
use Rattle.std.proofs.lemmas.Fmt.{IsAscii-from_digits, decimal-digits_value, digits_value-decimal}
use Rattle.c_lexer.specs.Bytes.{is_digit, is_between}
use Rattle.c_lexer.specs.FirstForm.Tokens.{is_decimal}
use Rattle.c_parser.specs.FirstForm.Reading.{number_of}

own : IsNumeralModel (AllDigits 10) (digits_value 10)
own = numerals_by_value (AllDigits 10) tells_digits

digit_between : (c : ℕ) → is_digit c ≡ true → IsInRange 48 57 c
digit_between c h = grind (arith, nat_tests)

each_digit : (cs : List ℕ) → list_all is_digit cs ≡ true → AllDigits 10 cs
each_digit [] h = tells_digits.empty
each_digit (c ∷ cs) h = let parts = and_parts (is_digit c) (list_all is_digit cs) h in tells_digits.more c cs (digit_between c parts.0) (each_digit cs parts.1)

first_between : (c : ℕ) → is_between 49 57 c ≡ true → (49 ≤ c) × (c ≤ 57)
first_between c h = grind (arith, nat_tests)

-- a decimal constant is digits, and begins with 0 only where it is 0
pub record IsDecimal (bytes : List ℕ) : Type 0 where
  pub digits : AllDigits 10 bytes
  pub some : 0 < length bytes
  pub zero_alone : get_or bytes 0 0 ≡ 48 → length bytes ≡ 1

pub IsDecimal-from_test : (bytes : List ℕ) → is_decimal bytes ≡ true → IsDecimal bytes
unfolding is_decimal
IsDecimal-from_test [] h = cc
IsDecimal-from_test (c ∷ []) h = record { digits = tells_digits.more c [] (digit_between c h) tells_digits.empty; some = omega arith; zero_alone = λ e. refl }
IsDecimal-from_test (c ∷ d ∷ cs) h =
    let parts = and_parts (is_between 49 57 c) (list_all is_digit (d ∷ cs)) h in
    let first = first_between c parts.0 in
    record {
      digits = tells_digits.more c (d ∷ cs) (omega arith, omega arith) (each_digit (d ∷ cs) parts.1);
      some = omega arith;
      zero_alone = λ e. absurd (omega arith);
    }

pub decimal_ascii : (bytes : List ℕ) → is_decimal bytes ≡ true → IsAscii bytes
decimal_ascii bytes h = let d = IsDecimal-from_test bytes h in IsAscii-from_digits bytes d.digits

pub number_of-within : (bytes : List ℕ) → is_decimal bytes ≡ true → digits_value 10 bytes < 2 ^ 31 → number_of bytes ≡ Some (pos (digits_value 10 bytes))
unfolding number_of
number_of-within bytes h below =
    let d = IsDecimal-from_test bytes h in
    let same = decimal-digits_value own bytes d.digits d.some d.zero_alone (omega arith) in
    let small = le-leb (digits_value 10 bytes) 2147483647 (omega arith) in
    let equal = (bytes_eq-Decides bytes (decimal (digits_value 10 bytes))).1 (sym same) in
    rw (small, equal) refl

pub number_of-past : (bytes : List ℕ) → 2 ^ 31 ≤ digits_value 10 bytes → number_of bytes ≡ None
unfolding number_of
number_of-past bytes past = let large = lt-leb (digits_value 10 bytes) 2147483647 (omega arith) in rw large refl

-- the other way: what number_of gives is what the bytes write
pub number_of-some : (bytes : List ℕ) (n : ℤ) → number_of bytes ≡ Some n → (m : ℕ) × (n ≡ pos m) × (m ≤ 2147483647) × (bytes ≡ decimal m)
unfolding number_of
number_of-some bytes n h = by_test (nat_le v 2147483647 && bytes_eq bytes (decimal v)) refl h
  where
    v : ℕ
    v = digits_value 10 bytes

    by_test : (b : Bool) → (nat_le (digits_value 10 bytes) 2147483647 && bytes_eq bytes (decimal (digits_value 10 bytes))) ≡ b → cond b (Some (pos (digits_value 10 bytes))) None ≡ Some n
        → (m : ℕ) × (n ≡ pos m) × (m ≤ 2147483647) × (bytes ≡ decimal m)
    by_test true e h =
        let parts = and_parts _ _ e in
        (digits_value 10 bytes, cc, leb-true _ _ parts.0, (bytes_eq-Decides bytes (decimal (digits_value 10 bytes))).0 parts.1)
    by_test false e h = cc

pub number_of-decimal : (m : ℕ) → m ≤ 2147483647 → number_of (decimal m) ≡ Some (pos m)
unfolding number_of
number_of-decimal m le =
    let value = digits_value-decimal own m (omega arith) in
    let small = le-leb m 2147483647 le in
    let equal = (bytes_eq-Decides (decimal m) (decimal m)).1 refl in
    rw (value, small, equal) refl

-- what `parse` reads of a decimal constant, as the code widens it
pub parsed_some : {E : Type 0} (bytes text : List ℕ) (r : Result ℤ E) (x z : ℤ) → text ≡ bytes → is_decimal bytes ≡ true → ParsesSigned w32 10 text r → r ≡ Ok x
    → z ≡ to_z w32 (of_z w32 x) → ◌≡◌ {A = Option ℤ} (Some (to_z w128 (of_z w128 z))) (number_of bytes)
parsed_some bytes text r x z same h parsed ok widened =
    let d = IsDecimal-from_test bytes h in
    let at : ParsesSigned w32 10 bytes r = subst (λ t. ParsesSigned w32 10 t r) same parsed in
    let read = OkIff-at_ok r _ _ x (parse_signed_digits own w32 bytes r at d.digits) ok in
    let small : digits_value 10 bytes < 2 ^ 31 = read.0.1 in
    let value : x ≡ pos (digits_value 10 bytes) = read.1 in
    let narrow : to_z w32 (of_z w32 (pos (digits_value 10 bytes))) ≡ pos (digits_value 10 bytes) = omega (arith, ints) in
    let wide : to_z w128 (of_z w128 (pos (digits_value 10 bytes))) ≡ pos (digits_value 10 bytes) = omega (arith, ints) in
    let e : z ≡ pos (digits_value 10 bytes) = widened ∙ ap (λ y. to_z w32 (of_z w32 y)) value ∙ narrow in
    ap (λ y. Some (to_z w128 (of_z w128 y))) e ∙ ap Some wide ∙ sym (number_of-within bytes h small)

pub parsed_none : {E : Type 0} (bytes text : List ℕ) (r : Result ℤ E) (e : E) → text ≡ bytes → is_decimal bytes ≡ true → ParsesSigned w32 10 text r → r ≡ Err e → None ≡ number_of bytes
parsed_none bytes text r error same h parsed err =
    let d = IsDecimal-from_test bytes h in
    let at : ParsesSigned w32 10 bytes r = subst (λ t. ParsesSigned w32 10 t r) same parsed in
    let refused = OkIff-at_err r _ _ error (parse_signed_digits own w32 bytes r at d.digits) err in
    let past : 2 ^ 31 ≤ digits_value 10 bytes = ⊎_elim (λ below. absurd (refused (d.some, below))) (λ past. past) (cases_lt (digits_value 10 bytes) (2 ^ 31)) in
    sym (number_of-past bytes past)
