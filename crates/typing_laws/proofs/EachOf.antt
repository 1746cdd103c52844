-- What holds of each element of a list that is made of others.
use Rattle.std.proofs.Common.{◌≡◌, ℕ, zero, suc, Bool, true, List, [], ◌∷◌, ◌++◌, take, drop, refl}
use Rattle.std.specs.List.{list_all, AllByRecursion}
use Rattle.step_meaning.proofs.Ranges.{and_true, left_of_and, right_of_and}
use Rattle.typing_rules.specs.FileScope.{numbered}

module _ {A : Type 0} (P : A → Type 0) where
  pub each_append : (xs ys : List A) → AllByRecursion P xs → AllByRecursion P ys → AllByRecursion P (xs ++ ys)
  each_append [] ys h k = k
  each_append (x ∷ xs) ys h k = (h.0, each_append xs ys h.1 k)

  pub each_first : (xs ys : List A) → AllByRecursion P (xs ++ ys) → AllByRecursion P xs
  each_first [] ys h = tt
  each_first (x ∷ xs) ys h = (h.0, each_first xs ys h.1)

  pub each_last : (xs ys : List A) → AllByRecursion P (xs ++ ys) → AllByRecursion P ys
  each_last [] ys h = h
  each_last (x ∷ xs) ys h = each_last xs ys h.1

  pub each_take : (n : ℕ) (xs : List A) → AllByRecursion P xs → AllByRecursion P (take n xs)
  each_take zero xs h = tt
  each_take (suc n) [] h = tt
  each_take (suc n) (x ∷ xs) h = (h.0, each_take n xs h.1)

  pub each_drop : (n : ℕ) (xs : List A) → AllByRecursion P xs → AllByRecursion P (drop n xs)
  each_drop zero xs h = h
  each_drop (suc n) [] h = tt
  each_drop (suc n) (x ∷ xs) h = each_drop n xs h.1

pub each_weaker : {A : Type 0} (P Q : A → Type 0) (xs : List A) → ((x : A) → P x → Q x) → AllByRecursion P xs → AllByRecursion Q xs
each_weaker P Q [] k h = tt
each_weaker P Q (x ∷ xs) k h = (k x h.0, each_weaker P Q xs k h.1)

pub each_numbered : {A B : Type 0} (P : A → Type 0) (Q : B → Type 0) (f : ℕ → A → B) (n : ℕ) (xs : List A) → ((i : ℕ) (x : A) → P x → Q (f i x)) → AllByRecursion P xs → AllByRecursion Q (numbered f n xs)
each_numbered P Q f n [] k h = tt
each_numbered P Q f n (x ∷ xs) k h = (k n x h.0, each_numbered P Q f (suc n) xs k h.1)

-- ---- tests

module _ {A : Type 0} (test : A → Bool) where
  pub all_append : (xs ys : List A) → list_all test xs ≡ true → list_all test ys ≡ true → list_all test (xs ++ ys) ≡ true
  all_append [] ys h k = k
  all_append (x ∷ xs) ys h k = and_true (left_of_and _ _ h) (all_append xs ys (right_of_and _ _ h) k)

  pub all_each : (xs : List A) → list_all test xs ≡ true → AllByRecursion (λ x. test x ≡ true) xs
  all_each [] h = tt
  all_each (x ∷ xs) h = (left_of_and _ _ h, all_each xs (right_of_and _ _ h))

  pub each_all : (xs : List A) → AllByRecursion (λ x. test x ≡ true) xs → list_all test xs ≡ true
  each_all [] h = refl
  each_all (x ∷ xs) h = and_true h.0 (each_all xs h.1)
