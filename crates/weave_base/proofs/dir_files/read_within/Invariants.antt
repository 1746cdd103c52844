use Rattle.std.proofs.Common.{◌≡◌, ◌≤◌, List, ℕ, length}
use Rattle.std.specs.Prelude.{Some}
use Rattle.weave_base.proofs.Chunks.{Read}
use Rattle.weave_base.proofs.dir_files.read_within.Given as goal

abbrev pub invariant-chunks : goal.invariant-chunks
invariant-chunks g l = record {
  within : length l.bytes.items ≤ l.limit;
  read : (all : List ℕ) → g.R.Read.remaining l.initial.reader ≡ Some all → Read all l.bytes.items (g.R.Read.remaining l.reader);
}
