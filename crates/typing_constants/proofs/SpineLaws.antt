-- What an expression is by its first operand.
use Rattle.std.proofs.Common.{◌≡◌, refl, sym, ap, ◌∙◌, Bool, true, false, ◌&&◌, List, [], ◌∷◌, ◌++◌, map, Option, Some, None, Bor}
use Rattle.std.specs.List.{AllByRecursion}
use Rattle.std.specs.Prelude.{ℤ}
use Rattle.step_meaning.specs.declared.expr.Expr.{Expr, end_of-Expr, more_of-Expr}
use Rattle.step_meaning.specs.declared.expr.Expr.TheVariants.{Literal, Convert', Unary', Binary', Compare', Not', Both', Either', Choose'}
use Rattle.typing_rules.specs.ConstantExpressions.{is_constant, value_of}
use Rattle.typing_constants.specs.Values.{converted_value, unary_value, binary_value, compared_value, negated_value, logical_value, both_value, either_value, chosen_value}
use Rattle.typing_constants.specs.Spines.{first_operand, others_constant, value_after, climbed}

and_true : (b c : Bool) → c ≡ true → (b && c) ≡ b
and_true true c h = h
and_true false c h = refl

and_false : (b c : Bool) → c ≡ false → (b && c) ≡ false
and_false true c h = h
and_false false c h = refl

same : {A : Type 0} (a b : A) → Some a ≡ Some b → a ≡ b
same a b h = cc

none : {A B : Type 0} (a : A) → None ≡ Some a → B
none a h = absurd (no h)
  where
    no : None ≡ Some a → ⊥
    no h = cc

pub constant_first : (n x : Expr) → first_operand n ≡ Some x → others_constant n ≡ true → is_constant n ≡ is_constant x
unfolding is_constant first_operand others_constant
constant_first (Literal k z) x h i = none x h
constant_first (Convert' k b (more_of-Expr e end_of-Expr)) x h i = ap is_constant (same e x h)
constant_first (Unary' o k b (more_of-Expr e end_of-Expr)) x h i = ap is_constant (same e x h)
constant_first (Binary' o k b (more_of-Expr e end_of-Expr) c (more_of-Expr f end_of-Expr)) x h i = and_true (is_constant e) (is_constant f) i ∙ ap is_constant (same e x h)
constant_first (Compare' o b (more_of-Expr e end_of-Expr) c (more_of-Expr f end_of-Expr)) x h i = and_true (is_constant e) (is_constant f) i ∙ ap is_constant (same e x h)
constant_first (Not' b (more_of-Expr e end_of-Expr)) x h i = ap is_constant (same e x h)
constant_first (Both' b (more_of-Expr e end_of-Expr) c (more_of-Expr f end_of-Expr)) x h i = and_true (is_constant e) (is_constant f) i ∙ ap is_constant (same e x h)
constant_first (Either' b (more_of-Expr e end_of-Expr) c (more_of-Expr f end_of-Expr)) x h i = and_true (is_constant e) (is_constant f) i ∙ ap is_constant (same e x h)
constant_first (Choose' b (more_of-Expr e end_of-Expr) c (more_of-Expr f end_of-Expr) d (more_of-Expr g end_of-Expr)) x h i = and_true (is_constant e) (is_constant f && is_constant g) i ∙ ap is_constant (same e x h)
constant_first y x h i = none x h

differ : true ≡ false → ⊥
differ h = cc

pub not_constant : (n : Expr) → others_constant n ≡ false → is_constant n ≡ false
unfolding is_constant others_constant
not_constant (Literal k z) i = absurd (differ i)
not_constant (Convert' k b (more_of-Expr e end_of-Expr)) i = absurd (differ i)
not_constant (Unary' o k b (more_of-Expr e end_of-Expr)) i = absurd (differ i)
not_constant (Binary' o k b (more_of-Expr e end_of-Expr) c (more_of-Expr f end_of-Expr)) i = and_false (is_constant e) (is_constant f) i
not_constant (Compare' o b (more_of-Expr e end_of-Expr) c (more_of-Expr f end_of-Expr)) i = and_false (is_constant e) (is_constant f) i
not_constant (Not' b (more_of-Expr e end_of-Expr)) i = absurd (differ i)
not_constant (Both' b (more_of-Expr e end_of-Expr) c (more_of-Expr f end_of-Expr)) i = and_false (is_constant e) (is_constant f) i
not_constant (Either' b (more_of-Expr e end_of-Expr) c (more_of-Expr f end_of-Expr)) i = and_false (is_constant e) (is_constant f) i
not_constant (Choose' b (more_of-Expr e end_of-Expr) c (more_of-Expr f end_of-Expr) d (more_of-Expr g end_of-Expr)) i = and_false (is_constant e) (is_constant f && is_constant g) i
not_constant n i = refl

pub constant_last : (n : Expr) → first_operand n ≡ None → others_constant n ≡ true → is_constant n ≡ true
unfolding is_constant first_operand others_constant
constant_last (Literal k z) h i = refl
constant_last (Convert' k b (more_of-Expr e end_of-Expr)) h i = none e (sym h)
constant_last (Unary' o k b (more_of-Expr e end_of-Expr)) h i = none e (sym h)
constant_last (Binary' o k b (more_of-Expr e end_of-Expr) c (more_of-Expr f end_of-Expr)) h i = none e (sym h)
constant_last (Compare' o b (more_of-Expr e end_of-Expr) c (more_of-Expr f end_of-Expr)) h i = none e (sym h)
constant_last (Not' b (more_of-Expr e end_of-Expr)) h i = none e (sym h)
constant_last (Both' b (more_of-Expr e end_of-Expr) c (more_of-Expr f end_of-Expr)) h i = none e (sym h)
constant_last (Either' b (more_of-Expr e end_of-Expr) c (more_of-Expr f end_of-Expr)) h i = none e (sym h)
constant_last (Choose' b (more_of-Expr e end_of-Expr) c (more_of-Expr f end_of-Expr) d (more_of-Expr g end_of-Expr)) h i = none e (sym h)
constant_last n h i = absurd (differ (sym i))

pub value_first : (n x : Expr) → first_operand n ≡ Some x → value_of n ≡ value_after n (value_of x)
unfolding value_of value_after first_operand converted_value unary_value binary_value compared_value negated_value logical_value both_value either_value chosen_value
value_first (Literal k z) x h = none x h
value_first (Convert' k b (more_of-Expr e end_of-Expr)) x h = ap (λ (y : Expr). converted_value k (value_of y)) (same e x h)
value_first (Unary' o k b (more_of-Expr e end_of-Expr)) x h = ap (λ (y : Expr). unary_value o k (value_of y)) (same e x h)
value_first (Binary' o k b (more_of-Expr e end_of-Expr) c (more_of-Expr f end_of-Expr)) x h = ap (λ (y : Expr). binary_value o k (value_of y) (value_of f)) (same e x h)
value_first (Compare' o b (more_of-Expr e end_of-Expr) c (more_of-Expr f end_of-Expr)) x h = ap (λ (y : Expr). compared_value o (value_of y) (value_of f)) (same e x h)
value_first (Not' b (more_of-Expr e end_of-Expr)) x h = ap (λ (y : Expr). negated_value (value_of y)) (same e x h)
value_first (Both' b (more_of-Expr e end_of-Expr) c (more_of-Expr f end_of-Expr)) x h = ap (λ (y : Expr). both_value (value_of y) (value_of f)) (same e x h)
value_first (Either' b (more_of-Expr e end_of-Expr) c (more_of-Expr f end_of-Expr)) x h = ap (λ (y : Expr). either_value (value_of y) (value_of f)) (same e x h)
value_first (Choose' b (more_of-Expr e end_of-Expr) c (more_of-Expr f end_of-Expr) d (more_of-Expr g end_of-Expr)) x h = ap (λ (y : Expr). chosen_value (value_of y) (value_of f) (value_of g)) (same e x h)
value_first y x h = none x h

pub value_last : (n : Expr) → first_operand n ≡ None → value_of n ≡ value_after n None
unfolding value_of value_after first_operand converted_value unary_value binary_value compared_value negated_value logical_value both_value either_value chosen_value
value_last (Literal k z) h = refl
value_last (Convert' k b (more_of-Expr e end_of-Expr)) h = none e (sym h)
value_last (Unary' o k b (more_of-Expr e end_of-Expr)) h = none e (sym h)
value_last (Binary' o k b (more_of-Expr e end_of-Expr) c (more_of-Expr f end_of-Expr)) h = none e (sym h)
value_last (Compare' o b (more_of-Expr e end_of-Expr) c (more_of-Expr f end_of-Expr)) h = none e (sym h)
value_last (Not' b (more_of-Expr e end_of-Expr)) h = none e (sym h)
value_last (Both' b (more_of-Expr e end_of-Expr) c (more_of-Expr f end_of-Expr)) h = none e (sym h)
value_last (Either' b (more_of-Expr e end_of-Expr) c (more_of-Expr f end_of-Expr)) h = none e (sym h)
value_last (Choose' b (more_of-Expr e end_of-Expr) c (more_of-Expr f end_of-Expr) d (more_of-Expr g end_of-Expr)) h = none e (sym h)
value_last n h = refl

-- ---- nodes of a spine

pub climbed_push : (ns : List (Bor Expr)) (n : Bor Expr) (a : Option ℤ) → climbed (map (λ n. n.now) (ns ++ n ∷ [])) a ≡ climbed (map (λ n. n.now) ns) (value_after n.now a)
climbed_push [] n a = refl
climbed_push (m ∷ ns) n a = ap (value_after m.now) (climbed_push ns n a)

pub all_push : (P : Bor Expr → Type 0) (ns : List (Bor Expr)) (n : Bor Expr) → AllByRecursion P ns → P n → AllByRecursion P (ns ++ n ∷ [])
all_push P [] n h p = (p, tt)
all_push P (m ∷ ns) n h p = (h.0, all_push P ns n h.1 p)

pub all_before : (P : Bor Expr → Type 0) (ns : List (Bor Expr)) (n : Bor Expr) → AllByRecursion P (ns ++ n ∷ []) → AllByRecursion P ns
all_before P [] n h = tt
all_before P (m ∷ ns) n h = (h.0, all_before P ns n h.1)
