use Rattle.c_expressions.proofs.expression.+level.Given as goal

abbrev pub decreases-assign : goal.decreases-assign
decreases-assign l = l.depth

abbrev pub decreases-choice : goal.decreases-choice
decreases-choice l = l.depth

abbrev pub decreases-unary : goal.decreases-unary
decreases-unary l = l.depth
