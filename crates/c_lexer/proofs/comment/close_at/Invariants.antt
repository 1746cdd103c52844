use Rattle.std.proofs.Common.{ℕ, ◌<◌}
use Rattle.c_lexer.specs.Comments.{Closes}
use Rattle.c_lexer.proofs.comment.close_at.Given as goal

abbrev pub invariant-loop-at : goal.invariant-loop-at
invariant-loop-at l = (k : ℕ) → k < l.at → Closes l.text k → ⊥
