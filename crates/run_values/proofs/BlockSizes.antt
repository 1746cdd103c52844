-- Sizes that make no block.
use Rattle.std.proofs.Common.{◌≡◌, ℕ, zero, suc, ◌*◌, ◌^◌, ◌<◌, ◌≤◌, false, ap, arith}
use Rattle.std.proofs.Math.Nat.{zero-mul}
use Rattle.std.proofs.lemmas.Bool.Decides.{nat_tests}
use Rattle.step_meaning.specs.Allocation.{is_block_size}

large : (n : ℕ) → 65536 < n → is_block_size n ≡ false
large n h = grind (arith, nat_tests)

pub no_block : (count size : ℕ) → 2 ^ 128 ≤ size → is_block_size (count * size) ≡ false
no_block zero size h = ap is_block_size (zero-mul size)
no_block (suc k) size h = large (suc k * size) (omega arith)
