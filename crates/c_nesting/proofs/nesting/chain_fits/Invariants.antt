use Rattle.std.proofs.Common.{◌≡◌, ◌<◌, nat_lt, Bool, length}
use Rattle.c_words.specs.declared.word.Word.{Word}
use Rattle.c_words.specs.Written.{links, chain}
use Rattle.c_nesting.proofs.nesting.chain_fits.Given as goal

abbrev pub invariant-loop-link : goal.invariant-loop-link
invariant-loop-link g l =
    let operand = g.P.Operand.operand in
    let limit = g.P.Operand.limit l.operand in
    g.P.Operand.can_tell l.operand × 0 < limit
    × ((operators : Word → Bool) → nat_lt (chain operators operand l.tree).nesting limit ≡ nat_lt (links operators operand l.links).nesting limit)

abbrev pub decreases-loop-link : goal.decreases-loop-link
decreases-loop-link g l = length l.links
