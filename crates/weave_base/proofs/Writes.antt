-- Writes to a sink in memory.
use Rattle.std.proofs.Common.{◌≡◌, ℕ, ◌-◌, ◌≤◌, min, List, ◌++◌, length, take, drop, Bool, true, false, refl, sym, ap, arith}
use Rattle.std.proofs.lemmas.Bool.{leb-true}
use Rattle.std.proofs.lemmas.Bool.Decides.{nat_tests}
use Rattle.std.proofs.lemmas.List.{take_all, take-append-drop}
use Rattle.std.specs.Prelude.{Option, Some, None, unwrap_or, is_none, nat_le, ◌&&◌, if◌then◌else◌, Result, Ok, Err, IsErr}
use Rattle.weave_base.specs.declared.outside.Failed.{Failed}
use Rattle.weave_base.specs.Calls.{one_more}
use Rattle.weave_base.specs.Causes.{HasCause}
use Rattle.weave_base.specs.Contents.{IsPut}
use Rattle.weave_base.specs.SinkInMemory.{SinkInMemory, listed_keep, write_answer, after_write}

-- a state whose fields are those that a write leaves
pub same_after_write : (s : SinkInMemory) (piece held : List ℕ) (keep : Option ℕ) (free calls faults : ℕ) →
    calls ≡ one_more s.calls → keep ≡ listed_keep s.listed calls → free ≡ s.room - length s.held →
    held ≡ s.held ++ take (min (unwrap_or keep (length piece)) free) piece →
    faults ≡ (if is_none keep && nat_le (length piece) free then s.faults else one_more s.faults) →
    ◌≡◌ {A = SinkInMemory} (record { held = held; room = s.room; listed = s.listed; calls = calls; faults = faults }) (after_write s piece)
same_after_write s piece held keep free calls faults called kept freed part faulted = cc

-- a piece that fits is added whole
unlisted_is_put : (held piece : List ℕ) (free : ℕ) (b : Bool) → nat_le (length piece) free ≡ b →
    IsPut {E = Failed} held piece (if b then Ok tt else Err (record {})) (Some (held ++ take (min (length piece) free) piece))
unlisted_is_put held piece free true fits =
    let small : length piece ≤ free = leb-true _ _ fits in
    let whole = take_all (min (length piece) free) piece (omega arith) in
    ap (λ part. Some (held ++ part)) whole
unlisted_is_put held piece free false fits =
    (take (min (length piece) free) piece, drop (min (length piece) free) piece, sym (take-append-drop _ piece), refl)

part_is_put : (held piece : List ℕ) (free : ℕ) (keep : Option ℕ) →
    IsPut {E = Failed} held piece (if is_none keep && nat_le (length piece) free then Ok tt else Err (record {})) (Some (held ++ take (min (unwrap_or keep (length piece)) free) piece))
part_is_put held piece free None = unlisted_is_put held piece free _ refl
part_is_put held piece free (Some n) = (take (min n free) piece, drop (min n free) piece, sym (take-append-drop _ piece), refl)

-- what a write answers and leaves is what a sink is asked for
pub written_is_put : (s t : SinkInMemory) (bytes piece : List ℕ) (result : Result (Unit {0}) Failed) →
    result ≡ write_answer s piece → t ≡ after_write s piece → ◌≡◌ {A = Option (List ℕ)} (Some s.held) (Some bytes) → IsPut bytes piece result (Some t.held)
written_is_put s t bytes piece result answer after told =
    let holds : bytes ≡ s.held = cc in
    rw (holds, answer, after) (part_is_put s.held piece _ _)

-- a write that fails counts a fault
cause_by_test : (b : Bool) (faults : ℕ) →
    HasCause faults (if b then faults else one_more faults) (IsErr {T = Unit {0}} {E = Failed} (if b then Ok tt else Err (record {})))
cause_by_test true faults = record { later = omega arith; failed = λ e. absurd (cc) }
cause_by_test false faults = record { later = grind (arith, nat_tests); failed = λ e. grind (arith, nat_tests) }

pub written_has_cause : (s t : SinkInMemory) (piece : List ℕ) (result : Result (Unit {0}) Failed) →
    result ≡ write_answer s piece → t ≡ after_write s piece → HasCause s.faults t.faults (IsErr result)
written_has_cause s t piece result answer after = rw (answer, after) (cause_by_test _ s.faults)
