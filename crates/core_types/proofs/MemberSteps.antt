-- What the steps of the code on members and elements come to.
use Rattle.std.proofs.Common.{◌≡◌, ◌==◌, ℕ, ◌<◌, Bool, true, false, cond, List, [], ◌∷◌, length, get_or, Some, None, refl, sym, ap, subst, arith}
use Rattle.std.specs.Prelude.{nat_lt, position}
use Rattle.std.specs.List.{position_or_len}
use Rattle.std.proofs.lemmas.List.Sums.{position_or_len_is}
use Rattle.step_meaning.specs.declared.value.CType.{CType}
use Rattle.step_meaning.specs.declared.value.CType.TheVariants.{Array}
use Rattle.step_meaning.specs.declared.value.CType.TheBlock.{shape-the_row-CType-0, hidden-the_row-CType-0}
use denote.Hole.Carrier.{hidden}
use Rattle.step_meaning.specs.declared.program.Layout.{Layout}
use Rattle.step_meaning.specs.Types.{where_true}
use Rattle.step_meaning.specs.TypeRules.{cells, element_type}

-- ---- the first that passes

pub position_at : {A : Type 0} (p : A → Bool) (xs : List A) (i : ℕ) (d : A) → i < length xs → ((k : ℕ) → k < i → p (get_or xs k d) ≡ false) → p (get_or xs i d) ≡ true → Some i ≡ position p xs
position_at p xs i d l before here =
    let found : position_or_len p xs ≡ i = position_or_len_is p xs i d (omega arith) before (λ m. here) in
    subst (λ n. Some i ≡ cond (nat_lt n (length xs)) (Some n) None) (sym found) (subst (λ b. Some i ≡ cond b (Some i) None) (sym (is_below i (length xs) l)) refl)
  where
    is_below : (m n : ℕ) → m < n → nat_lt m n ≡ true
    is_below m n l = grind arith

pub position_nowhere : {A : Type 0} (p : A → Bool) (xs : List A) → ((k : ℕ) (d : A) → k < length xs → p (get_or xs k d) ≡ false) → None ≡ position p xs
position_nowhere p [] h = refl
position_nowhere p (x ∷ xs) h =
    let found : position_or_len p (x ∷ xs) ≡ length (x ∷ xs) = position_or_len_is p (x ∷ xs) (length (x ∷ xs)) x (omega arith) (λ k l. h k x l) (λ m. absurd (omega arith)) in
    subst (λ n. None ≡ cond (nat_lt n (length (x ∷ xs))) (Some n) None) (sym found) (subst (λ b. None ≡ cond b (Some (length (x ∷ xs))) None) (sym (not_below (length (x ∷ xs)))) refl)
  where
    not_below : (n : ℕ) → nat_lt n n ≡ false
    not_below n = grind arith

-- ---- elements

turned : (m n : ℕ) (b : Bool) → (m == n) ≡ b → (n == m) ≡ b
turned m n b e = grind arith

pub element_is : (ls : List Layout) (t : CType) (n size : ℕ) (b : Bool) → (cells ls t == size) ≡ b → element_type ls (Array t n) size ≡ where_true b t
unfolding shape-the_row-CType-0 hidden-the_row-CType-0 hidden
element_is ls t n size b e = ap (λ b. where_true b t) (turned (cells ls t) size b e)
