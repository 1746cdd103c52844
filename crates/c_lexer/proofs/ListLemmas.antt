-- Tests of each element of a list, and of words among others.
use Rattle.std.proofs.Common.{◌≡◌, ℕ, zero, suc, ◌+◌, ◌≤◌, ◌<◌, Bool, true, false, not, cond, ◌&&◌, ◌||◌, List, [], ◌∷◌, length, take, refl, sym, ap, subst, ◌∙◌, ◌⊎◌, inl, inr, ⊎_elim, arith}
use Rattle.std.proofs.Math.Numerals.{one-add}
use Rattle.std.specs.List.{list_any, list_all, prefix_len, take_while}
use Rattle.std.specs.Str.{bytes_eq}
use Rattle.std.proofs.lemmas.Slice.Eq.{bytes_eq-Decides}
use Rattle.std.proofs.lemmas.List.Sums.{prefix_len-le-length}
use Rattle.std.proofs.lemmas.List.Folds.{length-prefix_len}

pub both : (a b : Bool) → a ≡ true → b ≡ true → (a && b) ≡ true
both true b h i = i
both false b h i = h

pub left : (a b : Bool) → (a && b) ≡ true → a ≡ true
left true b h = refl
left false b h = h

pub right : (a b : Bool) → (a && b) ≡ true → b ≡ true
right true b h = h
right false b h = cc

pub either : (a b : Bool) → (a || b) ≡ true → (a ≡ true) ⊎ (b ≡ true)
either true b h = inl refl
either false b h = inr h

pub apart : (b : Bool) → b ≡ false → b ≡ true → ⊥
apart b h i = cc

pub not_true : (b : Bool) → not b ≡ true → b ≡ false
not_true true h = cc
not_true false h = refl

-- what each listed word passes, a word among them passes
pub among : (test : List ℕ → Bool) (words : List (List ℕ)) (word : List ℕ) → list_all test words ≡ true → list_any (bytes_eq word) words ≡ true → test word ≡ true
among test [] word h i = cc
among test (w ∷ ws) word h i =
    ⊎_elim (λ e. ap test ((bytes_eq-Decides word w).0 e) ∙ left _ _ h) (λ e. among test ws word (right _ _ h) e) (either (bytes_eq word w) _ i)

pub list_all_weaker : (p q : ℕ → Bool) → ((c : ℕ) → p c ≡ true → q c ≡ true) → (xs : List ℕ) → list_all p xs ≡ true → list_all q xs ≡ true
list_all_weaker p q h [] i = refl
list_all_weaker p q h (x ∷ xs) i = both _ _ (h x (left _ _ i)) (list_all_weaker p q h xs (right _ _ i))

add_one : (m n : ℕ) → m ≤ n → suc m ≤ 1 + n
add_one m n h = omega arith

-- the front that passes a test is as long as can be
prefix_len_longest : (test : ℕ → Bool) (xs : List ℕ) (m : ℕ) → m ≤ length xs → list_all test (take m xs) ≡ true → m ≤ prefix_len test xs
prefix_len_longest test xs zero le h = omega arith
prefix_len_longest test [] (suc m) le h = absurd (omega arith)
prefix_len_longest test (x ∷ xs) (suc m) le h =
    subst (λ b. suc m ≤ cond b (1 + prefix_len test xs) 0) (sym (left (test x) _ h))
    (add_one m (prefix_len test xs) (prefix_len_longest test xs m (omega arith) (right (test x) _ h)))

cond_each : (test : ℕ → Bool) (x : ℕ) (xs : List ℕ) (n : ℕ) → list_all test (take n xs) ≡ true → (b : Bool) → test x ≡ b → list_all test (take (cond b (1 + n) 0) (x ∷ xs)) ≡ true
cond_each test x xs n h true e = simp one-add (both _ _ e h)
cond_each test x xs n h false e = refl

prefix_len_each : (test : ℕ → Bool) (xs : List ℕ) → list_all test (take (prefix_len test xs) xs) ≡ true
prefix_len_each test [] = refl
prefix_len_each test (x ∷ xs) = cond_each test x xs (prefix_len test xs) (prefix_len_each test xs) (test x) refl

-- the longest front of a list that passes a test
pub record IsRun (test : ℕ → Bool) (xs : List ℕ) (n : ℕ) : Type 0 where
  pub fits : n ≤ length xs
  pub passes : list_all test (take n xs) ≡ true
  pub longest : (m : ℕ) → m ≤ length xs → list_all test (take m xs) ≡ true → m ≤ n

pub IsRun-take_while : (test : ℕ → Bool) (xs : List ℕ) (n : ℕ) → n ≡ length (take_while test xs) → IsRun test xs n
IsRun-take_while test xs n e =
    subst (IsRun test xs) (sym (e ∙ length-prefix_len test xs))
    (record { fits = prefix_len-le-length test xs; passes = prefix_len_each test xs; longest = prefix_len_longest test xs })

pub IsRun-some : (test : ℕ → Bool) (x : ℕ) (xs : List ℕ) (n : ℕ) → test x ≡ true → IsRun test (x ∷ xs) n → 0 < n
IsRun-some test x xs n h run = omega (arith, run.longest 1 (omega arith) (both _ _ h refl))
