-- What reading a whole file within a limit answers.
use Rattle.std.specs.Prelude.{◌≡◌, ℕ, ◌<◌, ◌≤◌, List, ◌++◌, length, Option, Result, Ok, Err, Vec}
use Rattle.std.specs.Io.KnownBytes.{Consumes, IsAtEnd}
use Rattle.std.specs.declared.alloc.Global.{Global}
use Rattle.weave_base.specs.declared.outside.FileFault.{FileFault}
use Rattle.weave_base.specs.declared.outside.FileFault.TheVariants as fault

-- all the bytes, of which there are no more than the limit, or that there are more
abbrev pub IsReadWithin : List ℕ → ℕ → Result (Vec ℕ Global) FileFault → Type 0
IsReadWithin bytes limit (Ok v) = (v.items ≡ bytes) × (length bytes ≤ limit)
IsReadWithin bytes limit (Err fault.TooLong) = limit < length bytes
IsReadWithin bytes limit (Err fault.Failed) = Unit {0}
IsReadWithin bytes limit (Err fault.Memory) = Unit {0}

-- one read: a number of bytes left the reader and were put behind those that were there, and none only at the end
pub record IsChunk (old new : List ℕ) (before after : Option (List ℕ)) (most count : ℕ) : Type 0 where
  pub chunk : List ℕ
  pub counted : length chunk ≡ count
  pub added : new ≡ old ++ chunk
  pub taken : Consumes before after chunk
  pub bounded : count ≤ most
  pub ended : count ≡ 0 → IsAtEnd after
