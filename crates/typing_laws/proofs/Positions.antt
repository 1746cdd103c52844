-- The first place in a list that passes a test, and that none does.
use Rattle.std.proofs.Common.{◌≡◌, ℕ, suc, ◌+◌, ◌<◌, ◌≤◌, Bool, true, false, cond, ◌||◌, not, List, [], ◌∷◌, length, get_or, Some, None, refl, arith}
use Rattle.std.specs.Prelude.{slice_get, nat_lt, position}
use Rattle.std.specs.List.{list_any, position_or_len, AllByRecursion}
use Rattle.std.proofs.lemmas.Option.{slice_get-get_or}
use Rattle.std.proofs.lemmas.List.Quantifiers.{position-Some}

pub false_or_left : (a b : Bool) → (a || b) ≡ false → a ≡ false
false_or_left false b e = refl
false_or_left true b e = absurd (cc e)

pub false_or_right : (a b : Bool) → (a || b) ≡ false → b ≡ false
false_or_right false b e = e
false_or_right true b e = absurd (cc e)

module _ {A : Type 0} (test : A → Bool) where
  -- a place that is found
  pub record FoundAt (xs : List A) (n : ℕ) : Type 0 where
    pub element : A
    pub there : slice_get xs n ≡ Some element
    pub passes : test element ≡ true

  pub found_at : (xs : List A) (n : ℕ) → position test xs ≡ Some n → FoundAt xs n
  found_at [] n e = absurd (no e)
    where
      no : None ≡ Some n → ⊥
      no e = cc
  found_at (x ∷ xs) n e =
      let h : (n < length (x ∷ xs)) × (test (get_or (x ∷ xs) n x) ≡ true) × ((k : ℕ) → k < n → test (get_or (x ∷ xs) k x) ≡ false) = position-Some test (x ∷ xs) n x e in
      record { element = get_or (x ∷ xs) n x; there = slice_get-get_or (x ∷ xs) n x h.0; passes = h.1 }

  none_by : (x : A) (xs : List A) (b : Bool) → test x ≡ b → suc (length xs) ≤ cond (not b) (1 + position_or_len test xs) 0 → (length xs ≤ position_or_len test xs → AllByRecursion (λ x. test x ≡ false) xs) → AllByRecursion (λ x. test x ≡ false) (x ∷ xs)
  none_by x xs true e l k = absurd (omega arith)
  none_by x xs false e l k = (e, k (omega arith))

  none_from : (xs : List A) → length xs ≤ position_or_len test xs → AllByRecursion (λ x. test x ≡ false) xs
  none_from [] l = tt
  none_from (x ∷ xs) l = none_by x xs (test x) refl l (none_from xs)

  not_below : (m n : ℕ) → cond (nat_lt m n) (Some m) None ≡ None → n ≤ m
  not_below m n e = by (nat_lt m n) refl e
    where
      by : (b : Bool) → nat_lt m n ≡ b → cond b (Some m) None ≡ None → n ≤ m
      by true l e = absurd (no e)
        where
          no : Some m ≡ None → ⊥
          no e = cc
      by false l e = grind arith

  pub none_passes : (xs : List A) → position test xs ≡ None → AllByRecursion (λ x. test x ≡ false) xs
  none_passes xs e = none_from xs (not_below (position_or_len test xs) (length xs) e)

  pub any_none : (xs : List A) → list_any test xs ≡ false → AllByRecursion (λ x. test x ≡ false) xs
  any_none [] e = tt
  any_none (x ∷ xs) e = (false_or_left (test x) _ e, any_none xs (false_or_right (test x) _ e))

  pub none_any : (xs : List A) → AllByRecursion (λ x. test x ≡ false) xs → list_any test xs ≡ false
  none_any [] h = refl
  none_any (x ∷ xs) h = rw h.0 (none_any xs h.1)
