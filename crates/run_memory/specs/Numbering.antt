-- A name as one number: 2 bits for the kind, 40 for the activation or the number of the block, and 22 for the index.
-- Different names have different numbers, and a number tells its name.
use Rattle.std.specs.Prelude.{ℕ, ◌+◌, ◌*◌, ◌/◌, ◌%◌, ◌<◌, ◌≤◌, ◌==◌, if◌then◌else◌}
use Rattle.step_meaning.specs.declared.value.NameKind.{NameKind}
use Rattle.step_meaning.specs.declared.value.NameKind.TheVariants as names
use Rattle.step_meaning.specs.declared.value.Name.{Name}

abbrev pub kind_code : NameKind → ℕ
kind_code names.Global = 1
kind_code names.Local = 2
kind_code names.Heap = 3
kind_code _ = 0

unfoldable pub name_number : NameKind → ℕ → ℕ → ℕ
name_number k a i = kind_code k * 4611686018427387904 + (a * 4194304 + i)

abbrev pub kind_by : ℕ → NameKind
kind_by code = if code == 1 then names.Global else (if code == 2 then names.Local else names.Heap)

unfoldable pub named_by : ℕ → Name
named_by n = record { kind = kind_by (n / 4611686018427387904); activation = n / 4194304 % 1099511627776; index = n % 4194304 }

-- a name of a variable of file scope, of a local or of a heap block, within the numbers
pub record IsNumbered (k : NameKind) (a i : ℕ) : Type 0 where
  pub in_memory : 1 ≤ kind_code k
  pub activation_fits : a < 1099511627776
  pub index_fits : i < 4194304
