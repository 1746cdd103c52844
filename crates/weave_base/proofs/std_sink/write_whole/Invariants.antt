use Rattle.std.proofs.Common.{◌≡◌, ℕ, List, length}
use Rattle.std.specs.Prelude.{Some}
use Rattle.weave_base.proofs.Written.{Written}
use Rattle.weave_base.proofs.std_sink.write_whole.Given as goal

abbrev pub invariant-loop-rest : goal.invariant-loop-rest
invariant-loop-rest g l =
    (bytes : List ℕ) → g.W.Write.contents l.initial.writer ≡ Some bytes → Written bytes l.piece l.rest (g.W.Write.contents l.writer)

abbrev pub decreases-loop-rest : goal.decreases-loop-rest
decreases-loop-rest g l = length l.rest
