-- The registers of all activations in one list.
use Rattle.std.proofs.Common.{◌≡◌, ℕ, zero, suc, ◌+◌, ◌<◌, ◌≤◌, List, [], ◌∷◌, ◌++◌, length, map, take, drop, set, get_or, Some, None, refl, sym, ap, ◌∙◌, arith}
use Rattle.std.specs.Prelude.{Bool, if◌then◌else◌, slice_get}
use Rattle.std.proofs.lemmas.List.{length-drop, take_all, drop_all, take-append-le, drop-append-le}
use Rattle.step_meaning.specs.declared.value.Value.{Value}
use Rattle.step_meaning.specs.declared.value.Cell.TheVariants.{Holds}
use Rattle.step_meaning.specs.declared.value.CType.{CType}
use Rattle.step_meaning.specs.Types.{same_type}
use Rattle.step_meaning.specs.Memory.{typed}
use Rattle.step_meaning.specs.State.{register_at, set_register}
use Rattle.run_state.specs.declared.registers.Register.{Register}
use Rattle.run_state.specs.Registers.{innermost, with_innermost, total, slot_of, parted, AreStarts, IsPlace, IsPast}

-- ---- counts

pub count_parted : (cells : List Register) (ss : List ℕ) → length (parted cells ss) ≡ length ss
count_parted cells [] = refl
count_parted cells (s ∷ ss) = ap suc (count_parted (take s cells) ss)

length_taken : (s : ℕ) (cells : List Register) → s ≤ length cells → length (take s cells) ≡ s
length_taken zero cells h = refl
length_taken (suc s) [] h = absurd (omega arith)
length_taken (suc s) (c ∷ cells) h = ap suc (length_taken s cells (omega arith))

length_slots : (cells : List Register) → length (map slot_of cells) ≡ length cells
length_slots [] = refl
length_slots (c ∷ cells) = ap suc (length_slots cells)

pub total_parted : (cells : List Register) (ss : List ℕ) → AreStarts (length cells) ss → total (parted cells ss) ≡ length cells
total_parted cells [] h = sym h
total_parted cells (s ∷ ss) h =
    let t = length_taken s cells h.0 in
    let below : AreStarts (length (take s cells)) ss = rw t h.1 in
    let rest = total_parted (take s cells) ss below in
    omega (arith, length_slots (drop s cells), length-drop s cells)

-- ---- an activation begins

pub begun : (cells : List Register) (ss : List ℕ) → parted cells (length cells ∷ ss) ≡ [] ∷ parted cells ss
begun cells ss = rw (drop_all (length cells) cells (omega arith), take_all (length cells) cells (omega arith)) refl

-- ---- a register more

slots_more : (xs : List Register) (c : Register) → map slot_of (xs ++ c ∷ []) ≡ map slot_of xs ++ slot_of c ∷ []
slots_more [] c = refl
slots_more (x ∷ xs) c = ap (λ l. slot_of x ∷ l) (slots_more xs c)

pub declared : (cells : List Register) (c : Register) (ss : List ℕ) → 0 < length ss → AreStarts (length cells) ss → parted (cells ++ c ∷ []) ss ≡ with_innermost (innermost (parted cells ss) ++ slot_of c ∷ []) (parted cells ss)
declared cells c [] p h = absurd (omega arith)
declared cells c (s ∷ ss) p h =
    rw (drop-append-le s cells (c ∷ []) h.0, take-append-le s cells (c ∷ []) h.0, slots_more (drop s cells) c) refl

pub more_starts : (n m : ℕ) (ss : List ℕ) → 0 < length ss → n ≤ m → AreStarts n ss → AreStarts m ss
more_starts n m [] p l h = absurd (omega arith)
more_starts n m (s ∷ ss) p l h = (omega arith, h.1)

-- ---- a register is read and written

slot_there : (cells : List Register) (i : ℕ) (r : Register) → i < length cells → slice_get (map slot_of cells) i ≡ Some (slot_of (get_or cells i r))
slot_there [] i r h = absurd (omega arith)
slot_there (c ∷ cells) zero r h = refl
slot_there (c ∷ cells) (suc i) r h = slot_there cells i r (omega arith)

slot_past : (cells : List Register) (i : ℕ) → length cells ≤ i → slice_get (map slot_of cells) i ≡ None
slot_past [] i h = refl
slot_past (c ∷ cells) zero h = absurd (omega arith)
slot_past (c ∷ cells) (suc i) h = slot_past cells i (omega arith)

dropped_there : (s i p : ℕ) (cells : List Register) (r : Register) → p ≡ s + i → p < length cells → slice_get (map slot_of (drop s cells)) i ≡ Some (slot_of (get_or cells p r))
dropped_there zero i p cells r e h = rw (let f : p ≡ i = omega arith in f) (slot_there cells i r (omega arith))
dropped_there (suc s) i p [] r e h = absurd (omega arith)
dropped_there (suc s) i zero (c ∷ cells) r e h = absurd (omega arith)
dropped_there (suc s) i (suc p) (c ∷ cells) r e h = dropped_there s i p cells r (omega arith) (omega arith)

pub there : (cells : List Register) (ss : List ℕ) (i p : ℕ) (r : Register) → IsPlace (length cells) ss i p → slice_get (innermost (parted cells ss)) i ≡ Some (slot_of (get_or cells p r))
there cells [] i p r h = absurd h
there cells (s ∷ ss) i p r h = dropped_there s i p cells r h.0 h.1

pub past : (cells : List Register) (ss : List ℕ) (i : ℕ) → IsPast (length cells) ss i → slice_get (innermost (parted cells ss)) i ≡ None
past cells [] i h = refl
past cells (s ∷ ss) i h = slot_past (drop s cells) i (omega (arith, length-drop s cells))

pub used : (cells : List Register) (ss : List ℕ) (i p : ℕ) (r : Register) (t : CType) (b : Bool) → IsPlace (length cells) ss i p → r ≡ get_or cells p r → b ≡ same_type r.ctype.now t → register_at (innermost (parted cells ss)) i t ≡ (if b then Some r.cell else None)
used cells ss i p r t b h e k =
    ap (λ o. typed o t) (there cells ss i p r h ∙ ap (λ (x : Register). Some (slot_of x)) (sym e)) ∙ ap (λ c. if c then Some r.cell else None) (sym k)

pub unused : (cells : List Register) (ss : List ℕ) (i : ℕ) (t : CType) → IsPast (length cells) ss i → register_at (innermost (parted cells ss)) i t ≡ None
unused cells ss i t h = ap (λ o. typed o t) (past cells ss i h)

set_there : (cells : List Register) (i : ℕ) (r n : Register) (v : Value) → i < length cells → slot_of n ≡ record (slot_of (get_or cells i r)) { cell = Holds v } → map slot_of (set cells i n) ≡ set_register (map slot_of cells) i v
set_there [] i r n v h e = absurd (omega arith)
set_there (c ∷ cells) zero r n v h e = ap (λ s. s ∷ map slot_of cells) e
set_there (c ∷ cells) (suc i) r n v h e = ap (λ l. slot_of c ∷ l) (set_there cells i r n v (omega arith) e)

set_dropped : (s i p : ℕ) (cells : List Register) (r n : Register) (v : Value) → p ≡ s + i → p < length cells → slot_of n ≡ record (slot_of (get_or cells p r)) { cell = Holds v } → map slot_of (drop s (set cells p n)) ≡ set_register (map slot_of (drop s cells)) i v
set_dropped zero i p cells r n v e h k =
    let f : p ≡ i = omega arith in
    set_there cells p r n v h k ∙ ap (λ j. set_register (map slot_of cells) j v) f
set_dropped (suc s) i p [] r n v e h k = absurd (omega arith)
set_dropped (suc s) i zero (c ∷ cells) r n v e h k = absurd (omega arith)
set_dropped (suc s) i (suc p) (c ∷ cells) r n v e h k = set_dropped s i p cells r n v (omega arith) (omega arith) k

taken_below : (s p : ℕ) (cells : List Register) (n : Register) → s ≤ p → take s (set cells p n) ≡ take s cells
taken_below zero p cells n h = refl
taken_below (suc s) p [] n h = refl
taken_below (suc s) zero (c ∷ cells) n h = absurd (omega arith)
taken_below (suc s) (suc p) (c ∷ cells) n h = ap (λ l. c ∷ l) (taken_below s p cells n (omega arith))

pub written : (cells : List Register) (ss : List ℕ) (i p : ℕ) (r n : Register) (v : Value) → IsPlace (length cells) ss i p → slot_of n ≡ record (slot_of (get_or cells p r)) { cell = Holds v } → parted (set cells p n) ss ≡ with_innermost (set_register (innermost (parted cells ss)) i v) (parted cells ss)
written cells [] i p r n v h k = absurd h
written cells (s ∷ ss) i p r n v h k =
    rw (set_dropped s i p cells r n v h.0 h.1 k, taken_below s p cells n (omega (arith, h.0))) refl
