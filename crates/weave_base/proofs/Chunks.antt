-- A file that is read chunk by chunk.
use Rattle.std.proofs.Common.{◌≡◌, ℕ, ◌≤◌, List, [], ◌++◌, length, refl, sym, ap, ◌∙◌, append_assoc, arith}
use Rattle.std.proofs.lemmas.List.{append-nil, length-append}
use Rattle.std.specs.Prelude.{Option, Some, None}
use Rattle.std.specs.Io.KnownBytes.{Consumes, IsAtEnd}
use Rattle.weave_base.specs.Reading.{IsChunk}

-- of all the bytes these were read, and the reader has the others
pub record Read (all bytes : List ℕ) (left : Option (List ℕ)) : Type 0 where
  pub others : List ℕ
  pub split : all ≡ bytes ++ others
  pub holds : left ≡ Some others

consumed : (before after : Option (List ℕ)) (xs chunk : List ℕ) → before ≡ Some xs → Consumes before after chunk →
    (rest : List ℕ) × (xs ≡ chunk ++ rest) × (after ≡ Some rest)
consumed None after xs chunk is h = absurd (cc)
consumed (Some ys) None xs chunk is h = absurd h
consumed (Some ys) (Some rest) xs chunk is h = let same : xs ≡ ys = cc in (rest, same ∙ h, refl)

pub read_more : (all old new : List ℕ) (before after : Option (List ℕ)) (most count : ℕ) →
    Read all old before → IsChunk old new before after most count → Read all new after
read_more all old new before after most count r h =
    let c = consumed before after r.others h.chunk r.holds h.taken in
    record {
      others = c.0;
      split = r.split ∙ ap (λ xs. old ++ xs) c.1 ∙ sym (append_assoc old h.chunk c.0) ∙ ap (λ xs. xs ++ c.0) (sym h.added);
      holds = c.2;
    }

at_end : (left : Option (List ℕ)) (others : List ℕ) → left ≡ Some others → IsAtEnd left → others ≡ []
at_end None others is h = absurd (cc)
at_end (Some xs) others is h = let same : others ≡ xs = cc in same ∙ h

-- after a read that gave nothing all was read
pub read_all : (all old new : List ℕ) (before after : Option (List ℕ)) (most count limit : ℕ) →
    Read all old before → IsChunk old new before after most count → count ≡ 0 → length old ≤ limit → (new ≡ all) × (length all ≤ limit)
read_all all old new before after most count limit r h none within =
    let more = read_more all old new before after most count r h in
    let same = sym (more.split ∙ ap (λ xs. new ++ xs) (at_end after more.others more.holds (h.ended none)) ∙ append-nil new) in
    let none_added = length-append old h.chunk in
    (same, omega (arith, none_added, h.counted, ap length h.added, ap length same))

-- there are no fewer than were read
pub read_so_far : (all bytes : List ℕ) (left : Option (List ℕ)) → Read all bytes left → length bytes ≤ length all
read_so_far all bytes left r = omega (arith, length-append bytes r.others, ap length r.split)
