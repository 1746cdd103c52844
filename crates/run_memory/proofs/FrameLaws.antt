-- The locals of the open activations in one list: which of them a name means, and what a change of one comes to.
use Rattle.std.proofs.Common.{◌≡◌, ℕ, zero, suc, ◌+◌, ◌-◌, ◌*◌, ◌<◌, ◌≤◌, List, [], ◌∷◌, length, take, drop, set, get_or, Option, None, refl, sym, ap, ◌∙◌, inl, inr, arith}
use Rattle.std.specs.Prelude.{nat_le, slice_get, option_and_then}
use Rattle.std.proofs.lemmas.Bool.{cases_lt, cases_eq, le-leb, lt-leb, eq-eqb, ne_eqb, cond-true, cond-false}
use Rattle.std.proofs.lemmas.List.{length-take, length-drop}
use Rattle.std.proofs.lemmas.Option.{slice_get_past}
use Rattle.step_meaning.specs.declared.value.NameKind.TheVariants as names
use Rattle.step_meaning.specs.Memory.{Block, Frame, frame_of, at_block, at_frame}
use Rattle.run_memory.specs.Numbering.{name_number}
use Rattle.run_memory.specs.View.{frames_of, local_at, AreOpen}

-- ---- lists

pub at_block-set : (f : Block → Block) (k : ℕ) (bs : List Block) → at_block f k bs ≡ set bs k (f (get_or bs k []))
at_block-set f k [] = refl
at_block-set f zero (b ∷ bs) = refl
at_block-set f (suc k) (b ∷ bs) = ap (λ r. b ∷ r) (at_block-set f k bs)

pub drop_at_block : (f : Block → Block) (b k : ℕ) (bs : List Block) → b ≤ k → drop b (at_block f k bs) ≡ at_block f (k - b) (drop b bs)
drop_at_block f zero k bs h = let e : k - 0 ≡ k = omega arith in rw e refl
drop_at_block f (suc b) k [] h = refl
drop_at_block f (suc b) zero (x ∷ bs) h = absurd (omega arith)
drop_at_block f (suc b) (suc k) (x ∷ bs) h = let e : suc k - suc b ≡ k - b = omega arith in rw e (drop_at_block f b k bs (omega arith))

pub drop_past_block : (f : Block → Block) (b k : ℕ) (bs : List Block) → k < b → drop b (at_block f k bs) ≡ drop b bs
drop_past_block f zero k bs h = absurd (omega arith)
drop_past_block f (suc b) k [] h = refl
drop_past_block f (suc b) zero (x ∷ bs) h = refl
drop_past_block f (suc b) (suc k) (x ∷ bs) h = drop_past_block f b k bs (omega arith)

pub take_at_block : (f : Block → Block) (b k : ℕ) (bs : List Block) → k < b → take b (at_block f k bs) ≡ at_block f k (take b bs)
take_at_block f zero k bs h = absurd (omega arith)
take_at_block f (suc b) k [] h = refl
take_at_block f (suc b) zero (x ∷ bs) h = refl
take_at_block f (suc b) (suc k) (x ∷ bs) h = ap (λ r. x ∷ r) (take_at_block f b k bs (omega arith))

pub take_before_block : (f : Block → Block) (b k : ℕ) (bs : List Block) → b ≤ k → take b (at_block f k bs) ≡ take b bs
take_before_block f zero k bs h = refl
take_before_block f (suc b) k [] h = refl
take_before_block f (suc b) zero (x ∷ bs) h = absurd (omega arith)
take_before_block f (suc b) (suc k) (x ∷ bs) h = ap (λ r. x ∷ r) (take_before_block f b k bs (omega arith))

get_drop : {A : Type 0} (b k : ℕ) (xs : List A) → b ≤ k → slice_get (drop b xs) (k - b) ≡ slice_get xs k
get_drop zero k xs h = let e : k - 0 ≡ k = omega arith in rw e refl
get_drop (suc b) k [] h = refl
get_drop (suc b) zero (x ∷ xs) h = absurd (omega arith)
get_drop (suc b) (suc k) (x ∷ xs) h = let e : suc k - suc b ≡ k - b = omega arith in rw e (get_drop b k xs (omega arith))

get_take : {A : Type 0} (b k : ℕ) (xs : List A) → k < b → slice_get (take b xs) k ≡ slice_get xs k
get_take zero k xs h = absurd (omega arith)
get_take (suc b) k [] h = refl
get_take (suc b) zero (x ∷ xs) h = refl
get_take (suc b) (suc k) (x ∷ xs) h = get_take b k xs (omega arith)

-- ---- numbers

-- 4,194,304 is 2^22
pub same_local : (n i a j : ℕ) → i < 4194304 → j < 4194304 → name_number names.Local n i ≡ name_number names.Local a j → (n ≡ a) × (i ≡ j)
unfolding name_number
same_local n i a j p q e = let f : n * 4194304 + i ≡ a * 4194304 + j = omega arith in (omega arith, omega arith)

pub no_local : (a i : ℕ) → 0 ≡ name_number names.Local a i → ⊥
unfolding name_number
no_local a i e = omega arith

-- ---- which local a name means

-- one that is there belongs to an open activation
pub open_below : (m l : ℕ) (ns bs : List ℕ) (k a i : ℕ) → AreOpen m l ns bs → l ≤ 4194304 → k < l → i < 4194304 → local_at ns bs k ≡ name_number names.Local a i → a < m
open_below m l [] bs k a i o s h q e = absurd (no_local a i e)
open_below m l (n ∷ ns) [] k a i o s h q e = absurd o
open_below m l (n ∷ ns) (b ∷ bs) k a i o s h q e =
    elim (cases_lt k b) [
      | inl p ↦ let w : a < n = open_below n b ns bs k a i o.2 (omega (arith, o.1)) p q (sym (cond-false (nat_le b k) (name_number names.Local n (k - b)) (local_at ns bs k) (lt-leb b k p)) ∙ e) in omega (arith, o.0)
      | inr p ↦ let w = same_local n (k - b) a i (omega arith) q (sym (cond-true (nat_le b k) (name_number names.Local n (k - b)) (local_at ns bs k) (le-leb b k p)) ∙ e) in omega (arith, o.0)
    ]

abbrev pub local_block : ℕ → ℕ → List Frame → Option Block
local_block a i frames = option_and_then (λ f. slice_get f.locals i) (frame_of a frames)

-- the local at a place is the one that its name means
pub local_found : (m l : ℕ) (ns bs : List ℕ) (d : List Block) (k a i : ℕ) → AreOpen m l ns bs → l ≤ 4194304 → k < l → i < 4194304 → local_at ns bs k ≡ name_number names.Local a i
    → local_block a i (frames_of ns bs d) ≡ slice_get d k
local_found m l [] bs d k a i o s h q e = absurd (no_local a i e)
local_found m l (n ∷ ns) [] d k a i o s h q e = absurd o
local_found m l (n ∷ ns) (b ∷ bs) d k a i o s h q e =
    elim (cases_lt k b) [
      | inl p ↦
          let g = sym (cond-false (nat_le b k) (name_number names.Local n (k - b)) (local_at ns bs k) (lt-leb b k p)) ∙ e in
          let w : a < n = open_below n b ns bs k a i o.2 (omega (arith, o.1)) p q g in
          rw (ne_eqb n a (λ x. omega arith)) (local_found n b ns bs (take b d) k a i o.2 (omega (arith, o.1)) p q g ∙ get_take b k d p)
      | inr p ↦
          let w = same_local n (k - b) a i (omega arith) q (sym (cond-true (nat_le b k) (name_number names.Local n (k - b)) (local_at ns bs k) (le-leb b k p)) ∙ e) in
          rw (eq-eqb n a w.0, ← w.1) (get_drop b k d p)
    ]

-- a name that none has means none
pub local_missing : (ns bs : List ℕ) (d : List Block) (a i : ℕ) → ((k : ℕ) → k < length d → local_at ns bs k ≡ name_number names.Local a i → ⊥)
    → local_block a i (frames_of ns bs d) ≡ None
local_missing [] bs d a i none = refl
local_missing (n ∷ ns) [] d a i none = refl
local_missing (n ∷ ns) (b ∷ bs) d a i none =
    elim (cases_eq n a) [
      | inl same ↦
          rw (eq-eqb n a same) (elim (cases_lt i (length (drop b d))) [
            | inl p ↦
                let q : i + b < length d = let t = length-drop b d in omega arith in
                let j : (b + i) - b ≡ i = omega arith in
                absurd (none (b + i) (omega arith) (cond-true (nat_le b (b + i)) (name_number names.Local n ((b + i) - b)) (local_at ns bs (b + i)) (le-leb b (b + i) (omega arith)) ∙ rw (j, same) refl))
            | inr p ↦ slice_get_past (drop b d) i p
          ])
      | inr other ↦
          rw (ne_eqb n a other) (local_missing ns bs (take b d) a i (λ k p e.
          let t = length-take b d in
          none k (omega arith) (cond-false (nat_le b k) (name_number names.Local n (k - b)) (local_at ns bs k) (lt-leb b k (omega arith)) ∙ e)))
    ]

-- ---- a change of one local

pub local_changed : (m l : ℕ) (ns bs : List ℕ) (d : List Block) (f : Block → Block) (k a i : ℕ) → AreOpen m l ns bs → l ≤ 4194304 → k < l → i < 4194304 → local_at ns bs k ≡ name_number names.Local a i
    → frames_of ns bs (at_block f k d) ≡ at_frame (at_block f i) a (frames_of ns bs d)
local_changed m l [] bs d f k a i o s h q e = absurd (no_local a i e)
local_changed m l (n ∷ ns) [] d f k a i o s h q e = absurd o
local_changed m l (n ∷ ns) (b ∷ bs) d f k a i o s h q e =
    elim (cases_lt k b) [
      | inl p ↦
          let g = sym (cond-false (nat_le b k) (name_number names.Local n (k - b)) (local_at ns bs k) (lt-leb b k p)) ∙ e in
          let w : a < n = open_below n b ns bs k a i o.2 (omega (arith, o.1)) p q g in
          rw (ne_eqb n a (λ x. omega arith), drop_past_block f b k d p, take_at_block f b k d p)
          (ap (λ fs. record { activation = n; locals = drop b d } ∷ fs) (local_changed n b ns bs (take b d) f k a i o.2 (omega (arith, o.1)) p q g))
      | inr p ↦
          let w = same_local n (k - b) a i (omega arith) q (sym (cond-true (nat_le b k) (name_number names.Local n (k - b)) (local_at ns bs k) (le-leb b k p)) ∙ e) in
          rw (eq-eqb n a w.0, drop_at_block f b k d p, take_before_block f b k d p, w.1) refl
    ]

-- ---- the names of locals rise from place to place

local_below : (n m i : ℕ) → n < m → i < 4194304 → name_number names.Local n i < name_number names.Local m 0
unfolding name_number
local_below n m i p q = omega arith

local_above : (n i j : ℕ) → i < j → name_number names.Local n i < name_number names.Local n j
unfolding name_number
local_above n i j p = omega arith

local_from : (n i x : ℕ) → x < name_number names.Local n 0 → x < name_number names.Local n i
unfolding name_number
local_from n i x p = omega arith

pub locals_below : (m l : ℕ) (ns bs : List ℕ) (k : ℕ) → AreOpen m l ns bs → l ≤ 4194304 → k < l → local_at ns bs k < name_number names.Local m 0
locals_below m l [] [] k o s h = let z : l ≡ 0 = o in absurd (omega arith)
locals_below m l [] (b ∷ bs) k o s h = absurd o
locals_below m l (n ∷ ns) [] k o s h = absurd o
locals_below m l (n ∷ ns) (b ∷ bs) k o s h =
    elim (cases_lt k b) [
      | inl p ↦
          let w : local_at ns bs k < name_number names.Local n 0 = locals_below n b ns bs k o.2 (omega (arith, o.1)) p in
          let v : name_number names.Local n 0 < name_number names.Local m 0 = local_below n m 0 o.0 (omega arith) in
          rw (cond-false (nat_le b k) (name_number names.Local n (k - b)) (local_at ns bs k) (lt-leb b k p)) (omega arith)
      | inr p ↦ rw (cond-true (nat_le b k) (name_number names.Local n (k - b)) (local_at ns bs k) (le-leb b k p)) (local_below n m (k - b) o.0 (omega arith))
    ]

pub locals_rise : (m l : ℕ) (ns bs : List ℕ) (j k : ℕ) → AreOpen m l ns bs → l ≤ 4194304 → j < k → k < l → local_at ns bs j < local_at ns bs k
locals_rise m l [] [] j k o s h q = let z : l ≡ 0 = o in absurd (omega arith)
locals_rise m l [] (b ∷ bs) j k o s h q = absurd o
locals_rise m l (n ∷ ns) [] j k o s h q = absurd o
locals_rise m l (n ∷ ns) (b ∷ bs) j k o s h q =
    elim (cases_lt k b) [
      | inl p ↦
          rw (cond-false (nat_le b j) (name_number names.Local n (j - b)) (local_at ns bs j) (lt-leb b j (omega arith)), cond-false (nat_le b k) (name_number names.Local n (k - b)) (local_at ns bs k) (lt-leb b k p))
          (locals_rise n b ns bs j k o.2 (omega (arith, o.1)) h p)
      | inr p ↦ elim (cases_lt j b) [
        | inl r ↦
            rw (cond-false (nat_le b j) (name_number names.Local n (j - b)) (local_at ns bs j) (lt-leb b j r), cond-true (nat_le b k) (name_number names.Local n (k - b)) (local_at ns bs k) (le-leb b k p))
            (local_from n (k - b) (local_at ns bs j) (locals_below n b ns bs j o.2 (omega (arith, o.1)) r))
        | inr r ↦
            rw (cond-true (nat_le b j) (name_number names.Local n (j - b)) (local_at ns bs j) (le-leb b j r), cond-true (nat_le b k) (name_number names.Local n (k - b)) (local_at ns bs k) (le-leb b k p))
            (local_above n (j - b) (k - b) (omega arith))
      ]
    ]
