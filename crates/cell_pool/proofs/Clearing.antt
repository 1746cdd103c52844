-- Cells that are made blank, one after another and chunk after chunk.
use Rattle.std.proofs.Common.{◌≡◌, ℕ, ◌+◌, ◌*◌, ◌<◌, ◌≤◌, List, length, set, get_or, refl, sym, ◌∙◌, ap, inl, inr, arith, length-set}
use Rattle.std.proofs.lemmas.Bool.{cases_eq, cases_lt}
use Rattle.std.proofs.lemmas.List.{get_or-set_other}
use Rattle.std.proofs.lemmas.Grind.{get_or-set_at}
use Rattle.cell_pool.specs.Chains.{chunk_after}
use Rattle.cell_pool.specs.Inside.{AreBlankFrom, IsCleared}

pub blank_none : {C : Type 0} (old : List C) (start : ℕ) (blank : C) → AreBlankFrom old old start 0 blank
blank_none old start blank = record {
  as_long = refl;
  inside = λ k l. absurd (omega arith);
  before = λ k l. refl;
  after = λ k l. refl;
}

pub blank_more : {C : Type 0} (old new : List C) (start count : ℕ) (blank : C) → AreBlankFrom old new start count blank → start + count < length new → AreBlankFrom old (set new (start + count) blank) start (count + 1) blank
blank_more {C} old new start count blank h l = record {
  as_long = length-set new (start + count) blank ∙ h.as_long;
  inside = λ k m.
      elim (cases_eq k count) [
        | inl e ↦ get_or-set_at new (start + count) (start + k) blank blank (omega arith) l
        | inr n ↦ get_or-set_other new (start + count) (start + k) blank blank (λ e. n (omega arith)) ∙ h.inside k (lower k m n)
      ];
  before = λ k m. get_or-set_other new (start + count) k blank blank (λ e. absurd (omega arith)) ∙ h.before k m;
  after = λ k m. get_or-set_other new (start + count) k blank blank (λ e. absurd (omega arith)) ∙ h.after k (omega arith);
}
  where
    lower : (k : ℕ) → k < count + 1 → (k ≡ count → ⊥) → k < count
    lower k m n = omega arith

pub cleared_none : {C : Type 0} (old : List C) (next : List ℕ) (first : ℕ) (blank : C) → IsCleared old old next first 0 blank
cleared_none old next first blank = record {
  as_long = refl;
  inside = λ i k l m. absurd (omega arith);
  others = λ c k l n. refl;
}

-- cells outside of one chunk that is made blank
beside : {C : Type 0} (old new : List C) (chunk c k : ℕ) (blank : C) → AreBlankFrom old new (chunk * 16) 16 blank → k < 16 → (chunk ≡ c → ⊥) → get_or new (c * 16 + k) blank ≡ get_or old (c * 16 + k) blank
beside old new chunk c k blank h l n =
    elim (cases_lt c chunk) [
      | inl m ↦ h.before (c * 16 + k) (omega arith)
      | inr m ↦ h.after (c * 16 + k) (above chunk c k m n)
    ]
  where
    above : (chunk c k : ℕ) → chunk ≤ c → (chunk ≡ c → ⊥) → chunk * 16 + 16 ≤ c * 16 + k
    above chunk c k m n = omega arith

pub cleared_more : {C : Type 0} (old mid new : List C) (next : List ℕ) (first i start : ℕ) (blank : C) → IsCleared old mid next first i blank → AreBlankFrom mid new start 16 blank → start ≡ chunk_after next first i * 16 → IsCleared old new next first (i + 1) blank
cleared_more old mid new next first i start blank h b e = record {
  as_long = b.as_long ∙ h.as_long;
  inside = λ j k l m. inner old mid new next first i blank h (rw e at b) j k l m;
  others = λ c k l n.
      beside mid new (chunk_after next first i) c k blank (rw e at b) l (n i (omega arith)) ∙ h.others c k l (λ j m. n j (omega arith));
}
  where
    earlier : (next : List ℕ) (first i j : ℕ) → j < i + 1 → (chunk_after next first i ≡ chunk_after next first j → ⊥) → j < i
    earlier next first i j l n =
        elim (cases_eq i j) [
          | inl e ↦ absurd (n (ap (chunk_after next first) e))
          | inr d ↦ omega arith
        ]

    inner : {C : Type 0} (old mid new : List C) (next : List ℕ) (first i : ℕ) (blank : C) → IsCleared old mid next first i blank → AreBlankFrom mid new (chunk_after next first i * 16) 16 blank → (j k : ℕ) → j < i + 1 → k < 16 → get_or new (chunk_after next first j * 16 + k) blank ≡ blank
    inner old mid new next first i blank h b j k l m =
        elim (cases_eq (chunk_after next first i) (chunk_after next first j)) [
          | inl e ↦ ap (λ c. get_or new (c * 16 + k) blank) (sym e) ∙ b.inside k m
          | inr n ↦
              beside mid new (chunk_after next first i) (chunk_after next first j) k blank b m n
              ∙ h.inside j k (earlier next first i j l n) m
        ]
