-- The types of constants.
use Rattle.std.proofs.Common.{◌≡◌, ℕ, ◌^◌, ◌≤◌, Bool, true, false, ◌||◌, nat_lt, if◌then◌else◌, List, [], ◌∷◌, take_while, Option, Some, None, option_map, IsSome, Result, Ok, Err, refl, sym, ap, subst, ◌∙◌, arith}
use Rattle.std.specs.List.{list_any}
use Rattle.c_lexer.specs.declared.token.IntSuffix.{IntSuffix}
use Rattle.c_lexer.specs.declared.token.ConstantType.{ConstantType}
use Rattle.c_lexer.specs.declared.token.IntegerConstant.{IntegerConstant}
use Rattle.c_lexer.specs.declared.fault.Flaw.{Flaw}
use Rattle.c_lexer.specs.declared.fault.Flaw.TheVariants as flaw
use Rattle.c_lexer.specs.declared.number.Radix.{Radix}
use Rattle.c_lexer.specs.Numbers.{radix_of, base_of, body_of, is_digit_in, value_of, suffix_of, limit_of, constant_types, is_held, held_number, number_with, number_of, number_value, first_holding, constant_with, constant_of, rest_after}
use Rattle.c_lexer.specs.ConstantLaws.{NumbersHaveTypes}
use Rattle.c_lexer.proofs.NumberLemmas.{none_holds}

no_first : {A : Type 0} (b d : Bool) (t : A) (rest : Option A) → (b || d) ≡ false → (d ≡ false → rest ≡ None) → (if b then Some t else rest) ≡ None
no_first true d t rest h others = cc
no_first false d t rest h others = others h

a_first : {A : Type 0} (b d : Bool) (t : A) (rest : Option A) → (b || d) ≡ true → (d ≡ true → IsSome rest) → IsSome (if b then Some t else rest)
a_first true d t rest h others = refl
a_first false d t rest h others = others h

none_first : (ts : List ConstantType) (value : ℕ) → list_any (λ t. nat_lt value (limit_of t)) ts ≡ false → first_holding ts value ≡ None
unfolding first_holding
none_first [] value h = refl
none_first (t ∷ ts) value h =
    no_first (nat_lt value (limit_of t)) (list_any (λ t. nat_lt value (limit_of t)) ts) t (first_holding ts value) h (none_first ts value)

some_first : (ts : List ConstantType) (value : ℕ) → list_any (λ t. nat_lt value (limit_of t)) ts ≡ true → IsSome (first_holding ts value)
unfolding first_holding
some_first [] value h = cc
some_first (t ∷ ts) value h =
    a_first (nat_lt value (limit_of t)) (list_any (λ t. nat_lt value (limit_of t)) ts) t (first_holding ts value) h (some_first ts value)

-- no type holds what 64 bits don't
no_type : (r : Radix) (s : IntSuffix) (value : ℕ) → 2 ^ 64 ≤ value → first_holding (constant_types r s) value ≡ None
no_type r s value h = none_first (constant_types r s) value (none_holds r s value h)

pub no_constant : (s : IntSuffix) (w : List ℕ) → 2 ^ 64 ≤ number_value w → constant_with s w ≡ None
unfolding constant_with
no_constant s w h = rw (no_type (radix_of w) s (number_value w) h) refl

-- a list of digits and a suffix that make a constant
module _ (r : Radix) (digits : List ℕ) (s : IntSuffix) where
  held_by : (t : IntSuffix) (b : Bool) → is_held r t (value_of (base_of r) digits) ≡ b → ◌≡◌ {A = Result IntSuffix Flaw} (if b then Ok t else Err flaw.NumberTooWide) (Ok s)
      → is_held r s (value_of (base_of r) digits) ≡ true
  held_by t true e h = let same : t ≡ s = cc in subst (λ x. is_held r x (value_of (base_of r) digits) ≡ true) same e
  held_by t false e h = cc

  held_with : (o : Option IntSuffix) → held_number r digits o ≡ Ok s → is_held r s (value_of (base_of r) digits) ≡ true
  held_with None h = cc
  held_with (Some t) h = held_by t (is_held r t (value_of (base_of r) digits)) refl h

number_held : (r : Radix) (digits rest : List ℕ) (s : IntSuffix) → number_with r digits rest ≡ Ok s → is_held r s (value_of (base_of r) digits) ≡ true
number_held r [] rest s h = cc
number_held r (c ∷ cs) rest s h = held_with r (c ∷ cs) s (suffix_of rest) h

mapped : {A B : Type 0} (f : A → B) (o : Option A) → IsSome o → IsSome (option_map f o)
mapped f (Some a) h = refl
mapped f None h = h

with_type : (w : List ℕ) (s : IntSuffix) → is_held (radix_of w) s (number_value w) ≡ true → IsSome (constant_with s w)
unfolding constant_with
with_type w s h = mapped _ _ (some_first (constant_types (radix_of w) s) (number_value w) h)

pub numbers_have_types : NumbersHaveTypes
unfolding number_of constant_of number_value
numbers_have_types w s h =
    let r = radix_of w in
    let held : is_held r s (number_value w) ≡ true = number_held r (take_while (is_digit_in r) (body_of r w)) (rest_after (is_digit_in r) (body_of r w)) s h in
    rw h (with_type w s held)
