-- The equations of each alternative, by the tree that has it.
use Rattle.typing_rules.proofs.ExpressionAlternatives.{assign-Choice, assign-Assign, choice-Or, choice-Choose, unary-Postfix, unary-Prefix, unary-Cast, unary-SizeOf, unary-SizeOfType, primary-Name, primary-Number, primary-Character, primary-Paren, primary-Call-none, primary-Call-some, suffix-Index, suffix-Member, suffix-Arrow, suffix-Increment, suffix-Decrement}

pub ruleset assigns = (assign-Choice, assign-Assign)

pub ruleset choices = (choice-Or, choice-Choose)

pub ruleset unaries = (unary-Postfix, unary-Prefix, unary-Cast, unary-SizeOf, unary-SizeOfType)

pub ruleset suffixes = (suffix-Index, suffix-Member, suffix-Arrow, suffix-Increment, suffix-Decrement)

pub ruleset primaries = (primary-Name, primary-Number, primary-Character, primary-Paren, primary-Call-none, primary-Call-some)
