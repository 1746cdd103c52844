-- A sink in memory: what a write answers, and what it leaves.
use Rattle.std.specs.Prelude.{ℕ, ◌-◌, min, Bool, nat_le, ◌&&◌, List, ◌++◌, length, take, Option, is_some, is_none, unwrap_or, Result, Ok, Err, if◌then◌else◌}
use Rattle.std.specs.Map.{lookup}
use Rattle.std.specs.Ordering.{nat_cmp}
use Rattle.std.specs.BTreeMap.{is_at, insert_entry}
use Rattle.weave_base.specs.declared.outside.Failed.{Failed}
use Rattle.weave_base.specs.Calls.{one_more}

pub record SinkInMemory : Type 0 where
  -- the bytes that it holds
  pub held : List ℕ
  -- how many it has room for
  pub room : ℕ
  -- the calls that are to fail, ascending, each with the number of bytes that it is to add
  pub listed : List (ℕ × ℕ)
  -- how many calls there were, and how many of them failed
  pub calls : ℕ
  pub faults : ℕ

-- how many bytes a call is to add, where it is listed
abbrev pub listed_keep : List (ℕ × ℕ) → ℕ → Option ℕ
listed_keep listed call = lookup (is_at (nat_cmp call)) listed

-- the listed calls, and one more: of two entries for one call the first counts
abbrev pub with_entry : List (ℕ × ℕ) → ℕ → ℕ → List (ℕ × ℕ)
with_entry listed call keep =
    if is_some (listed_keep listed call) then listed else insert_entry nat_cmp listed call keep

-- the part of a piece that the next write adds
abbrev pub written_part : SinkInMemory → List ℕ → List ℕ
written_part s piece =
    take (min (unwrap_or (listed_keep s.listed (one_more s.calls)) (length piece)) (s.room - length s.held)) piece

-- whether the next write succeeds: it isn't listed, and the piece fits
abbrev pub write_succeeds : SinkInMemory → List ℕ → Bool
write_succeeds s piece =
    is_none (listed_keep s.listed (one_more s.calls)) && nat_le (length piece) (s.room - length s.held)

-- what the next write answers
abbrev pub write_answer : SinkInMemory → List ℕ → Result (Unit {0}) Failed
write_answer s piece = if write_succeeds s piece then Ok tt else Err (record {})

-- what the next write leaves
abbrev pub after_write : SinkInMemory → List ℕ → SinkInMemory
after_write s piece = record s {
  held = s.held ++ written_part s piece;
  calls = one_more s.calls;
  faults = if write_succeeds s piece then s.faults else one_more s.faults;
}
