-- What the calls of the outside answer and leave, where their objects tell what they hold.
use Rattle.std.specs.Prelude.{◌≡◌, ℕ, ◌<◌, ◌≤◌, List, [], ◌∷◌, ◌++◌, length, Option, Some, None, Result, Ok, Err, Vec, if◌then◌else◌}
use Rattle.std.specs.Str.{bytes_eq}
use Rattle.std.specs.declared.alloc.Global.{Global}
use Rattle.weave_base.specs.declared.outside.FileFault.{FileFault}
use Rattle.weave_base.specs.declared.outside.FileFault.TheVariants as fault

pub record File : Type 0 where
  pub name : List ℕ
  pub bytes : List ℕ

-- the bytes of the first file of the name
unfoldable pub bytes_of : List File → List ℕ → Option (List ℕ)
bytes_of [] name = None
bytes_of (f ∷ fs) name = if bytes_eq f.name name then Some f.bytes else bytes_of fs name

-- `TooLong` exactly where the file has more bytes; a file that isn't there is neither loaded nor too long
abbrev pub IsLoaded : List File → List ℕ → ℕ → Result (Vec ℕ Global) FileFault → Type 0
IsLoaded files name limit (Ok v) = (bytes_of files name ≡ Some v.items) × (length v.items ≤ limit)
IsLoaded files name limit (Err fault.TooLong) = (bytes : List ℕ) × (bytes_of files name ≡ Some bytes) × (limit < length bytes)
IsLoaded files name limit (Err fault.Failed) = Unit {0}
IsLoaded files name limit (Err fault.Memory) = Unit {0}

-- the name of the last load that failed: this one's, where it failed
abbrev pub failed_name : Option (List ℕ) → List ℕ → Result (Vec ℕ Global) FileFault → Option (List ℕ)
failed_name before name (Err fault.Failed) = Some name
failed_name before name (Err fault.TooLong) = before
failed_name before name (Err fault.Memory) = before
failed_name before name (Ok v) = before

-- the first byte is taken; after a fault nothing is
abbrev pub IsTaken : {E : Type 0} → List ℕ → Result (Option ℕ) E → Option (List ℕ) → Type 0
IsTaken bytes (Ok None) after = (bytes ≡ []) × (after ≡ Some [])
IsTaken bytes (Ok (Some byte)) after = (rest : List ℕ) × (bytes ≡ byte ∷ rest) × (after ≡ Some rest)
IsTaken bytes (Err e) after = after ≡ Some bytes

-- the piece is added; after a fault a prefix of it is
abbrev pub IsPut : {E : Type 0} → List ℕ → List ℕ → Result (Unit {0}) E → Option (List ℕ) → Type 0
IsPut bytes piece (Ok u) after = after ≡ Some (bytes ++ piece)
IsPut bytes piece (Err e) after = (some others : List ℕ) × (piece ≡ some ++ others) × (after ≡ Some (bytes ++ some))
