-- A name stands for the variable or the function whose name it is.
use Rattle.std.proofs.Common.{◌≡◌, ◌≢◌, ℕ, zero, suc, ◌+◌, ◌-◌, ◌<◌, Bool, true, false, not, cond, if◌then◌else◌, List, [], ◌∷◌, ◌++◌, length, get_or, Some, None, position, option_and_then, refl, sym, ap, subst, ◌∙◌, length-append, arith}
use Rattle.std.specs.Prelude.{nat_lt, AllPairs}
use Rattle.std.specs.List.{prefix_len}
use Rattle.std.specs.Str.{bytes_eq}
use Rattle.std.proofs.lemmas.Bool.{lt-ltb, le-ltb, ltb-true, ltb-false}
use Rattle.std.proofs.lemmas.List.{get_or_append_left, get_or-append-add}
use Rattle.std.proofs.lemmas.List.Quantifiers.{position-Some}
use Rattle.std.proofs.lemmas.Option.{unwrap_or-slice_get, option_and_then_some, cond_some}
use Rattle.std.proofs.lemmas.Slice.Eq.{bytes_eq-Decides}
use Rattle.c_parser.specs.FirstForm.Spelling.{name_at}
use Rattle.c_parser.specs.FirstForm.Reading.{variable_of, function_of_name}

abbrev pub AreDistinct : List (List ℕ) → Type 0
AreDistinct names = AllPairs (λ x y. x ≢ y) names

name_at-get_or : (names : List (List ℕ)) (i : ℕ) → name_at names i ≡ get_or names i []
name_at-get_or names i = unwrap_or-slice_get names i []

prefix_len-at : {X : Type 0} (p : X → Bool) (d : X) (xs : List X) (i : ℕ) → i < length xs → ((k : ℕ) → k < i → p (get_or xs k d) ≡ true) → p (get_or xs i d) ≡ false → prefix_len p xs ≡ i
prefix_len-at p d [] i below before at = absurd (omega arith)
prefix_len-at p d (x ∷ xs) zero below before at = ap (λ b. cond b (1 + prefix_len p xs) 0) at
prefix_len-at p d (x ∷ xs) (suc i) below before at =
    let rest = prefix_len-at p d xs i (omega arith) (λ k h. before (suc k) (omega arith)) at in
    let here : p x ≡ true = before 0 (omega arith) in
    ap (λ b. cond b (1 + prefix_len p xs) 0) here ∙ omega arith

unlike : (x y : List ℕ) → x ≢ y → not (bytes_eq x y) ≡ true
unlike x y h = by_test (bytes_eq x y) refl
  where
    by_test : (b : Bool) → bytes_eq x y ≡ b → not b ≡ true
    by_test true e = absurd (h ((bytes_eq-Decides x y).0 e))
    by_test false e = refl

-- among distinct names each is found at its place
position-at : (names : List (List ℕ)) (i : ℕ) → AreDistinct names → i < length names → position (bytes_eq (name_at names i)) names ≡ Some i
position-at names i distinct below =
    let same = name_at-get_or names i in
    let hit : not (bytes_eq (get_or names i []) (get_or names i [])) ≡ false = ap not ((bytes_eq-Decides (get_or names i []) (get_or names i [])).1 refl) in
    let n : prefix_len (λ y. not (bytes_eq (get_or names i []) y)) names ≡ i =
    prefix_len-at (λ y. not (bytes_eq (get_or names i []) y)) [] names i below (λ k h. unlike _ _ (λ e. distinct k i [] h below (sym e))) hit in
    let lt = lt-ltb i (length names) below in
    rw (same, n, lt) refl

position-is : (names : List (List ℕ)) (x : List ℕ) (i : ℕ) → position (bytes_eq x) names ≡ Some i → (i < length names) × (name_at names i ≡ x)
position-is names x i h =
    let at = position-Some (bytes_eq x) names i [] h in
    (at.0, name_at-get_or names i ∙ sym ((bytes_eq-Decides x (get_or names i [])).0 at.1))

cond_none : {X : Type 0} (b : Bool) (x y : X) → cond b None (Some x) ≡ Some y → (b ≡ false) × (x ≡ y)
cond_none true x y h = cc
cond_none false x y h = (refl, cc)

module _ (globals functions : List (List ℕ)) where
  pub name_at-variable : (i : ℕ) → i < length globals → name_at (globals ++ functions) i ≡ name_at globals i
  name_at-variable i below = name_at-get_or (globals ++ functions) i ∙ get_or_append_left globals functions [] i below ∙ sym (name_at-get_or globals i)

  name_at-function : (f : ℕ) → name_at (globals ++ functions) (length globals + f) ≡ name_at functions f
  name_at-function f = name_at-get_or (globals ++ functions) (length globals + f) ∙ get_or-append-add globals functions f [] ∙ sym (name_at-get_or functions f)

  pub variable_of-is : (x : List ℕ) (i : ℕ) → variable_of (length globals) (globals ++ functions) x ≡ Some i → (i < length globals) × (name_at globals i ≡ x)
  unfolding variable_of
  variable_of-is x i h = option_and_then_some (λ k. if nat_lt k (length globals) then Some k else None) (position (bytes_eq x) (globals ++ functions)) i h (λ k found test.
      let t = cond_some (nat_lt k (length globals)) k i test in
      let at = position-is (globals ++ functions) x k found in
      let below = ltb-true k (length globals) t.0 in
      let same : name_at globals k ≡ x = sym (name_at-variable k below) ∙ at.1 in
      (subst (λ j. j < length globals) t.1 below, subst (λ j. name_at globals j ≡ x) t.1 same))

  pub function_of-is : (x : List ℕ) (f : ℕ) → function_of_name (length globals) (globals ++ functions) x ≡ Some f → (f < length functions) × (name_at functions f ≡ x)
  unfolding function_of_name
  function_of-is x f h = option_and_then_some (λ k. if nat_lt k (length globals) then None else Some (k - length globals)) (position (bytes_eq x) (globals ++ functions)) f h (λ k found test.
      let t = cond_none (nat_lt k (length globals)) (k - length globals) f test in
      let at = position-is (globals ++ functions) x k found in
      let past = ltb-false k (length globals) t.0 in
      let place : length globals + f ≡ k = omega arith in
      (omega (arith, length-append globals functions), sym (name_at-function f) ∙ ap (name_at (globals ++ functions)) place ∙ at.1))

  module _ (distinct : AreDistinct (globals ++ functions)) where
    pub variable_of-at : (i : ℕ) → i < length globals → variable_of (length globals) (globals ++ functions) (name_at globals i) ≡ Some i
    unfolding variable_of
    variable_of-at i below =
        let found : position (bytes_eq (name_at globals i)) (globals ++ functions) ≡ Some i =
        ap (λ x. position (bytes_eq x) (globals ++ functions)) (sym (name_at-variable i below)) ∙ position-at (globals ++ functions) i distinct (omega (arith, length-append globals functions)) in
        let test = lt-ltb i (length globals) below in
        ap (λ o. option_and_then (λ k. if nat_lt k (length globals) then Some k else None) o) found ∙ ap (λ b. if b then Some i else None) test

    pub function_of-at : (f : ℕ) → f < length functions → function_of_name (length globals) (globals ++ functions) (name_at functions f) ≡ Some f
    unfolding function_of_name
    function_of-at f below =
        let place = length globals + f in
        let found : position (bytes_eq (name_at functions f)) (globals ++ functions) ≡ Some place =
        ap (λ x. position (bytes_eq x) (globals ++ functions)) (sym (name_at-function f)) ∙ position-at (globals ++ functions) place distinct (omega (arith, length-append globals functions)) in
        let test = le-ltb place (length globals) (omega arith) in
        let back : place - length globals ≡ f = omega arith in
        ap (λ o. option_and_then (λ k. if nat_lt k (length globals) then None else Some (k - length globals)) o) found ∙ ap (λ b. if b then None else Some (place - length globals)) test ∙ ap Some back
