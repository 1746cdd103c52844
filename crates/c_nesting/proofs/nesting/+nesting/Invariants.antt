use Rattle.c_nesting.proofs.nesting.+nesting.Given as goal

abbrev pub decreases-assign_fits : goal.decreases-assign_fits
decreases-assign_fits l = l.limit

abbrev pub decreases-choice_fits : goal.decreases-choice_fits
decreases-choice_fits l = l.limit

abbrev pub decreases-unary_fits : goal.decreases-unary_fits
decreases-unary_fits l = l.limit
