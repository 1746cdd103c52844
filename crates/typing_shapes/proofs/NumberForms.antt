-- Which expressions are a number alone, by the forms of their trees.
use Rattle.std.proofs.Common.{◌≡◌, refl, ap, ◌∙◌, cond, List, [], ◌∷◌, map, Option, Some, None}
use Rattle.c_words.specs.declared.word.Leaf.{Leaf}
use Rattle.c_words.specs.declared.chain.Chain.{Chain}
use Rattle.c_grammar.specs.declared.types.TypeName.{TypeName}
use Rattle.c_grammar.specs.declared.expression.Assign.{Assign}
use Rattle.c_grammar.specs.declared.expression.Assign.TheVariants as a
use Rattle.c_grammar.specs.declared.expression.Choice.{Choice}
use Rattle.c_grammar.specs.declared.expression.Choice.TheVariants as c
use Rattle.c_grammar.specs.declared.expression.Unary.{Unary}
use Rattle.c_grammar.specs.declared.expression.Unary.TheVariants as u
use Rattle.c_grammar.specs.declared.expression.Postfix.{Postfix, out-Postfix}
use Rattle.c_grammar.specs.declared.expression.Primary.TheVariants as p
use Rattle.c_grammar.specs.declared.expression.Suffix.{Suffix}
use Rattle.c_grammar.specs.declared.expression.Or.{Or}
use Rattle.c_grammar.proofs.ExpressionShapes.{suffix_cases}
use Rattle.typing_rules.specs.Syntax.{Expression, Binary}
use Rattle.typing_rules.specs.TreesOfExpressions as trees
use Rattle.typing_rules.specs.TreesOfExpressions.{suffix, suffixed}
use Rattle.typing_rules.proofs.ExpressionAlternatives as forms
use Rattle.typing_shapes.specs.Numbers.{number_leaf, has_none, lone_or, unary_in_or}
use Rattle.typing_shapes.proofs.Operands.{said_of_or}

-- ---- chains

joined_is_no_number : (x : Expression) (t : Leaf) (y : Expression) → number_leaf (Binary x t y) ≡ None
unfolding number_leaf
joined_is_no_number x t y = refl

pub number_or : (e : Or) → number_leaf (trees.or e) ≡ cond (lone_or e) (number_leaf (trees.unary (unary_in_or e))) None
number_or e = said_of_or number_leaf None joined_is_no_number e

-- ---- suffixes

suffix_is_no_number : (x : Expression) (s : Suffix) → number_leaf (suffix s x) ≡ None
unfolding number_leaf
suffix_is_no_number x s = suffix_cases (λ s. number_leaf (suffix s x) ≡ None)
    (λ o i r. ap number_leaf (forms.suffix-Index o i r x))
    (λ d n. ap number_leaf (forms.suffix-Member d n x))
    (λ d n. ap number_leaf (forms.suffix-Arrow d n x))
    (λ t. ap number_leaf (forms.suffix-Increment t x))
    (λ t. ap number_leaf (forms.suffix-Decrement t x))
    s

after_suffixes : (x : Expression) (ss : List Suffix) → number_leaf x ≡ None → number_leaf (suffixed x (map suffix ss)) ≡ None
unfolding suffixed
after_suffixes x [] h = h
after_suffixes x (s ∷ ss) h = after_suffixes (suffix s x) ss (suffix_is_no_number x s)

number_suffixed : (x : Expression) (ss : List Suffix) → number_leaf (suffixed x (map suffix ss)) ≡ cond (has_none ss) (number_leaf x) None
unfolding suffixed
number_suffixed x [] = refl
number_suffixed x (s ∷ ss) = after_suffixes (suffix s x) ss (suffix_is_no_number x s)

pub number_postfix : (e : Postfix) → number_leaf (trees.postfix e) ≡ cond (has_none (out-Postfix e).suffixes) (number_leaf (trees.primary (out-Postfix e).primary)) None
number_postfix e = ap number_leaf (forms.postfix-is e) ∙ number_suffixed (trees.primary (out-Postfix e).primary) (out-Postfix e).suffixes

-- ---- other forms

pub primary-Number : (t : Leaf) → number_leaf (trees.primary (p.Number t)) ≡ Some t
unfolding number_leaf
primary-Number t = ap number_leaf (forms.primary-Number t)

pub primary-Name : (t : Leaf) → number_leaf (trees.primary (p.Name t)) ≡ None
unfolding number_leaf
primary-Name t = ap number_leaf (forms.primary-Name t)

pub primary-Character : (t : Leaf) → number_leaf (trees.primary (p.Character t)) ≡ None
unfolding number_leaf
primary-Character t = ap number_leaf (forms.primary-Character t)

pub primary-Paren : (o : Leaf) (x : Assign) (r : Leaf) → number_leaf (trees.primary (p.Paren o x r)) ≡ None
unfolding number_leaf
primary-Paren o x r = ap number_leaf (forms.primary-Paren o x r)

pub primary-Call : (t o : Leaf) (x : Option (Chain Assign)) (r : Leaf) → number_leaf (trees.primary (p.Call t o x r)) ≡ None
unfolding number_leaf
primary-Call t o None r = ap number_leaf (forms.primary-Call-none t o r)
primary-Call t o (Some x) r = ap number_leaf (forms.primary-Call-some t o x r)

pub ruleset primaries = (primary-Number, primary-Name, primary-Character, primary-Paren, primary-Call)

pub unary-Postfix : (x : Postfix) → number_leaf (trees.unary (u.Postfix x)) ≡ number_leaf (trees.postfix x)
unary-Postfix x = ap number_leaf (forms.unary-Postfix x)

pub unary-Prefix : (t : Leaf) (x : Unary) → number_leaf (trees.unary (u.Prefix t x)) ≡ None
unfolding number_leaf
unary-Prefix t x = ap number_leaf (forms.unary-Prefix t x)

pub unary-Cast : (o : Leaf) (t : TypeName) (r : Leaf) (x : Unary) → number_leaf (trees.unary (u.Cast o t r x)) ≡ None
unfolding number_leaf
unary-Cast o t r x = ap number_leaf (forms.unary-Cast o t r x)

pub unary-SizeOf : (t : Leaf) (x : Unary) → number_leaf (trees.unary (u.SizeOf t x)) ≡ None
unfolding number_leaf
unary-SizeOf t x = ap number_leaf (forms.unary-SizeOf t x)

pub unary-SizeOfType : (t o : Leaf) (x : TypeName) (r : Leaf) → number_leaf (trees.unary (u.SizeOfType t o x r)) ≡ None
unfolding number_leaf
unary-SizeOfType t o x r = ap number_leaf (forms.unary-SizeOfType t o x r)

pub ruleset unaries = (unary-Postfix, unary-Prefix, unary-Cast, unary-SizeOf, unary-SizeOfType)

pub choice-Or : (x : Or) → number_leaf (trees.choice (c.Or x)) ≡ number_leaf (trees.or x)
choice-Or x = ap number_leaf (forms.choice-Or x)

pub choice-Choose : (x : Or) (q : Leaf) (y : Assign) (d : Leaf) (z : Choice) → number_leaf (trees.choice (c.Choose x q y d z)) ≡ None
unfolding number_leaf
choice-Choose x q y d z = ap number_leaf (forms.choice-Choose x q y d z)

pub ruleset choices = (choice-Or, choice-Choose)

pub assign-Choice : (x : Choice) → number_leaf (trees.assign (a.Choice x)) ≡ number_leaf (trees.choice x)
assign-Choice x = ap number_leaf (forms.assign-Choice x)

pub assign-Assign : (l : Unary) (t : Leaf) (r : Assign) → number_leaf (trees.assign (a.Assign l t r)) ≡ None
unfolding number_leaf
assign-Assign l t r = ap number_leaf (forms.assign-Assign l t r)

pub ruleset assigns = (assign-Choice, assign-Assign)
