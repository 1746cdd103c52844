-- Files in memory: what a load answers, and what it leaves.
use Rattle.std.specs.Prelude.{◌≡◌, ℕ, List, length, nat_le, Option, Some, None, Result, Ok, Err, Vec, if◌then◌else◌}
use Rattle.std.specs.declared.alloc.Global.{Global}
use Rattle.weave_base.specs.declared.outside.FileFault.{FileFault}
use Rattle.weave_base.specs.declared.outside.FileFault.TheVariants as fault
use Rattle.weave_base.specs.Calls.{one_more, is_listed}
use Rattle.weave_base.specs.Contents.{File, bytes_of}

pub record FilesInMemory : Type 0 where
  -- the files: of two files of one name the first counts
  pub files : List File
  -- the calls that are to fail, ascending
  pub listed : List ℕ
  -- how many calls there were, and how many of them failed
  pub calls : ℕ
  pub faults : ℕ
  -- the name of the last load that failed
  pub last_failed : Option (List ℕ)

-- a file's bytes, where it is there and isn't longer than the limit
abbrev pub within_limit : ℕ → Option (List ℕ) → Result (List ℕ) FileFault
within_limit limit None = Err fault.Failed
within_limit limit (Some bytes) = if nat_le (length bytes) limit then Ok bytes else Err fault.TooLong

-- what the next load answers with memory enough
abbrev pub load_answer : FilesInMemory → List ℕ → ℕ → Result (List ℕ) FileFault
load_answer s name limit =
    if is_listed s.listed (one_more s.calls) then Err fault.Failed else within_limit limit (bytes_of s.files name)

-- that answer, or want of memory
abbrev pub IsAnswer : Result (List ℕ) FileFault → Result (Vec ℕ Global) FileFault → Type 0
IsAnswer answer (Ok bytes) = answer ≡ Ok bytes.items
IsAnswer answer (Err fault.Failed) = answer ≡ Err fault.Failed
IsAnswer answer (Err fault.TooLong) = answer ≡ Err fault.TooLong
IsAnswer answer (Err fault.Memory) = Unit {0}

-- what a load leaves, by its answer
abbrev pub after_load : FilesInMemory → List ℕ → Result (Vec ℕ Global) FileFault → FilesInMemory
after_load s name (Err fault.Failed) =
    record s { calls = one_more s.calls; faults = one_more s.faults; last_failed = Some name }
after_load s name (Err fault.TooLong) = record s { calls = one_more s.calls }
after_load s name (Err fault.Memory) = record s { calls = one_more s.calls }
after_load s name (Ok bytes) = record s { calls = one_more s.calls }
