-- The value of digits, read from the left.
use Rattle.std.proofs.Common.{◌≡◌, ℕ, ◌+◌, ◌*◌, ◌^◌, ◌<◌, ◌≤◌, false, if◌then◌else◌, List, [], ◌∷◌, ◌++◌, length, take, drop, get_or, refl, sym, ap, subst, ◌∙◌, arith, ap₂, Some, Ok, Err}
use Rattle.std.proofs.Math.Nat.{mul-le-mul_left}
use Rattle.std.specs.Prelude.{fold}
use Rattle.std.proofs.lemmas.Bool.Decides.{nat_tests}
use Rattle.std.proofs.lemmas.List.{take_more, take-append-drop}
use Rattle.std.proofs.lemmas.List.Sums.{fold-append}
use Rattle.c_lexer.specs.declared.token.IntSuffix.{IntSuffix}
use Rattle.c_lexer.specs.declared.token.IntSuffix.TheVariants as suffix
use Rattle.c_lexer.specs.declared.number.Radix.{Radix}
use Rattle.c_lexer.specs.declared.number.Radix.TheVariants as radix
use Rattle.c_lexer.specs.Numbers.{base_of, digit_value, value_of, constant_types, is_held, held_number}
use Rattle.c_lexer.specs.declared.fault.Flaw.TheVariants as flaw

pub value_none : (base : ℕ) → 0 ≡ value_of base []
unfolding value_of
value_none base = refl

pub value_more : (base : ℕ) (digits : List ℕ) (i : ℕ) → i < length digits → value_of base (take (i + 1) digits) ≡ value_of base (take i digits) * base + digit_value (get_or digits i 0)
unfolding value_of
value_more base digits i lt =
    ap (fold (λ v c. v * base + digit_value c) 0) (take_more digits i 0 lt) ∙ fold-append (λ v c. v * base + digit_value c) 0 (take i digits) (get_or digits i 0 ∷ [])

fold_grows : (base : ℕ) → 0 < base → (a : ℕ) (digits : List ℕ) → a ≤ fold (λ v c. v * base + digit_value c) a digits
fold_grows base h a [] = omega arith
fold_grows base h a (c ∷ cs) =
    let more : a * 1 ≤ a * base = mul-le-mul_left a (omega arith) in
    omega (arith, more, fold_grows base h (a * base + digit_value c) cs)

-- more digits make no smaller value
pub value_grows : (base : ℕ) (digits : List ℕ) (i : ℕ) → 0 < base → value_of base (take i digits) ≤ value_of base digits
unfolding value_of
value_grows base digits i h =
    let whole : fold (λ v c. v * base + digit_value c) 0 (take i digits ++ drop i digits) ≡ fold (λ v c. v * base + digit_value c) 0 digits = ap (fold (λ v c. v * base + digit_value c) 0) (take-append-drop i digits) in
    subst (λ n. fold (λ v c. v * base + digit_value c) 0 (take i digits) ≤ n) (sym (fold-append (λ v c. v * base + digit_value c) 0 (take i digits) (drop i digits)) ∙ whole)
    (fold_grows base h (fold (λ v c. v * base + digit_value c) 0 (take i digits)) (drop i digits))

pub too_wide : (base : ℕ) (digits : List ℕ) (i : ℕ) → 0 < base → i < length digits → 2 ^ 64 ≤ value_of base (take i digits) * base + digit_value (get_or digits i 0) → 2 ^ 64 ≤ value_of base digits
too_wide base digits i h lt le = omega (arith, le, value_more base digits i lt, value_grows base digits (i + 1) h)

-- no type holds what 64 bits don't
pub none_holds : (r : Radix) (s : IntSuffix) (value : ℕ) → 2 ^ 64 ≤ value → is_held r s value ≡ false
unfolding constant_types
none_holds radix.Decimal suffix.Plain value h = grind (arith, nat_tests)
none_holds radix.Octal suffix.Plain value h = grind (arith, nat_tests)
none_holds radix.Hexadecimal suffix.Plain value h = grind (arith, nat_tests)
none_holds radix.Decimal suffix.U value h = grind (arith, nat_tests)
none_holds radix.Octal suffix.U value h = grind (arith, nat_tests)
none_holds radix.Hexadecimal suffix.U value h = grind (arith, nat_tests)
none_holds radix.Decimal suffix.L value h = grind (arith, nat_tests)
none_holds radix.Octal suffix.L value h = grind (arith, nat_tests)
none_holds radix.Hexadecimal suffix.L value h = grind (arith, nat_tests)
none_holds radix.Decimal suffix.UL value h = grind (arith, nat_tests)
none_holds radix.Octal suffix.UL value h = grind (arith, nat_tests)
none_holds radix.Hexadecimal suffix.UL value h = grind (arith, nat_tests)

pub step_wide : (base : ℕ) (digits : List ℕ) (i value digit : ℕ) → 0 < base → i < length digits → value ≡ value_of base (take i digits) → digit ≡ digit_value (get_or digits i 0) → 2 ^ 64 ≤ value * base + digit → 2 ^ 64 ≤ value_of base digits
step_wide base digits i value digit h lt e f le = too_wide base digits i h lt (subst (λ n. 2 ^ 64 ≤ n) (ap₂ (λ v d. v * base + d) e f) le)

pub step_value : (base : ℕ) (digits : List ℕ) (i value digit more : ℕ) → i < length digits → value ≡ value_of base (take i digits) → digit ≡ digit_value (get_or digits i 0) → more ≡ value * base + digit → more ≡ value_of base (take (i + 1) digits)
step_value base digits i value digit more lt e f g = g ∙ ap₂ (λ v d. v * base + d) e f ∙ sym (value_more base digits i lt)

pub held_none : (r : Radix) (s : IntSuffix) (base : ℕ) (digits : List ℕ) → base ≡ base_of r → 2 ^ 64 ≤ value_of base digits → Err flaw.NumberTooWide ≡ held_number r digits (Some s)
held_none r s base digits e le =
    sym (ap (λ b. if b then Ok s else Err flaw.NumberTooWide) (none_holds r s (value_of (base_of r) digits) (subst (λ b. 2 ^ 64 ≤ value_of b digits) e le)))
