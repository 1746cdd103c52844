use Rattle.std.proofs.Common.{◌≡◌, take}
use Rattle.c_words.specs.Words as spec
use Rattle.c_words.proofs.leaf.leaves_of.Given as goal

abbrev pub invariant-loop-token : goal.invariant-loop-token
invariant-loop-token l = l.leaves.items ≡ spec.leaves_of l.mode l.text (take l.token-index l.tokens)
