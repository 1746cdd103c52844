-- The calls of an object in memory: they are counted from 1, and some are listed to fail.
use Rattle.std.specs.Prelude.{ℕ, ◌+◌, ◌-◌, ◌^◌, nat_lt, if◌then◌else◌, Bool, List}
use Rattle.std.specs.List.{list_any}
use Rattle.std.specs.Ordering.{nat_cmp}
use Rattle.std.specs.BTreeMap.{is_at}
use Rattle.std.specs.BTreeSet.{insert_key}

-- a count after one more: at the end of a `u64` it stands still
abbrev pub one_more : ℕ → ℕ
one_more count = if nat_lt count (2 ^ 64 - 1) then count + 1 else count

-- whether a call is among those listed
abbrev pub is_listed : List ℕ → ℕ → Bool
is_listed listed call = list_any (is_at (nat_cmp call)) listed

-- the listed calls, which ascend, and one more
abbrev pub with_call : List ℕ → ℕ → List ℕ
with_call listed call = insert_key nat_cmp listed call
