use Rattle.std.proofs.Common.{◌≡◌, suc, nat_lt, length}
use Rattle.c_words.specs.Written.{run}
use Rattle.c_grammar.specs.Expressions.{assign, suffix}
use Rattle.c_nesting.specs.Measuring.{Tells}
use Rattle.c_nesting.proofs.nesting.Nesting.suffixes.Given as goal

abbrev pub invariant-loop-tree : goal.invariant-loop-tree
invariant-loop-tree g l = Tells assign l.self.below (goal.A-pre g l.self.assign) (goal.A-post g l.self.assign)
    × (nat_lt (run suffix l.trees).nesting (suc l.self.below) ≡ nat_lt (run suffix l.left).nesting (suc l.self.below))

abbrev pub decreases-loop-tree : goal.decreases-loop-tree
decreases-loop-tree g l = length l.left
