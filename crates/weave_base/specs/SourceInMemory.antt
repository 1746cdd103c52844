-- A source in memory: what a read answers, and what it leaves.
use Rattle.std.specs.Prelude.{ℕ, Bool, List, [], ◌∷◌, drop, Option, Some, None, Result, Ok, Err, if◌then◌else◌}
use Rattle.weave_base.specs.declared.outside.Failed.{Failed}
use Rattle.weave_base.specs.Calls.{one_more, is_listed}

pub record SourceInMemory : Type 0 where
  -- the bytes that are left
  pub left : List ℕ
  -- the calls that are to fail, ascending
  pub listed : List ℕ
  -- how many calls there were, and how many of them failed
  pub calls : ℕ
  pub faults : ℕ

abbrev pub first : List ℕ → Option ℕ
first [] = None
first (byte ∷ bytes) = Some byte

-- whether the next read fails
abbrev pub read_fails : SourceInMemory → Bool
read_fails s = is_listed s.listed (one_more s.calls)

-- what the next read answers
abbrev pub read_answer : SourceInMemory → Result (Option ℕ) Failed
read_answer s = if read_fails s then Err (record {}) else Ok (first s.left)

-- what the next read leaves
abbrev pub after_read : SourceInMemory → SourceInMemory
after_read s = if read_fails s
    then record s { calls = one_more s.calls; faults = one_more s.faults }
    else record s { calls = one_more s.calls; left = drop 1 s.left }
