-- Literals and literal indices, by the forms of the trees.
use Rattle.std.proofs.Common.{◌≡◌, ℕ, zero, suc, ◌+◌, ◌<◌, ◌≤◌, refl, sym, ap, ◌∙◌, Bool, true, false, cond, ◌&&◌, List, [], ◌∷◌, map, drop, length, get_or, Option, Some, None, add-one, arith}
use Rattle.c_words.specs.declared.word.Leaf.{Leaf}
use Rattle.c_words.specs.declared.chain.Chain.{Chain}
use Rattle.c_grammar.specs.declared.types.TypeName.{TypeName}
use Rattle.c_grammar.specs.declared.expression.Assign.{Assign}
use Rattle.c_grammar.specs.declared.expression.Assign.TheVariants as a
use Rattle.c_grammar.specs.declared.expression.Choice.{Choice}
use Rattle.c_grammar.specs.declared.expression.Choice.TheVariants as c
use Rattle.c_grammar.specs.declared.expression.Unary.{Unary}
use Rattle.c_grammar.specs.declared.expression.Unary.TheVariants as u
use Rattle.c_grammar.specs.declared.expression.Postfix.{Postfix, out-Postfix}
use Rattle.c_grammar.specs.declared.expression.Primary.TheVariants as p
use Rattle.c_grammar.specs.declared.expression.Suffix.{Suffix}
use Rattle.c_grammar.specs.declared.expression.Suffix.TheVariants as s
use Rattle.c_grammar.specs.declared.expression.Or.{Or}
use Rattle.c_grammar.proofs.ExpressionShapes.{suffix_cases}
use Rattle.typing_rules.specs.ConstantExpressions.{is_literal, has_literal_indices}
use Rattle.typing_rules.specs.Syntax.{Expression, Binary}
use Rattle.typing_rules.specs.TreesOfExpressions as trees
use Rattle.typing_rules.specs.TreesOfExpressions.{suffix, suffixed}
use Rattle.typing_rules.proofs.ExpressionAlternatives as forms
use Rattle.typing_shapes.specs.Numbers.{has_none, lone_or, unary_in_or}
use Rattle.typing_shapes.proofs.Operands.{said_of_or}

-- ---- literals

joined_is_no_literal : (x : Expression) (t : Leaf) (y : Expression) → is_literal (Binary x t y) ≡ false
unfolding is_literal
joined_is_no_literal x t y = refl

pub literal_in_or : (e : Or) → is_literal (trees.or e) ≡ cond (lone_or e) (is_literal (trees.unary (unary_in_or e))) false
literal_in_or e = said_of_or is_literal false joined_is_no_literal e

suffix_is_no_literal : (x : Expression) (s : Suffix) → is_literal (suffix s x) ≡ false
unfolding is_literal
suffix_is_no_literal x s = suffix_cases (λ s. is_literal (suffix s x) ≡ false)
    (λ o i r. ap is_literal (forms.suffix-Index o i r x))
    (λ d n. ap is_literal (forms.suffix-Member d n x))
    (λ d n. ap is_literal (forms.suffix-Arrow d n x))
    (λ t. ap is_literal (forms.suffix-Increment t x))
    (λ t. ap is_literal (forms.suffix-Decrement t x))
    s

after_suffixes : (x : Expression) (ss : List Suffix) → is_literal x ≡ false → is_literal (suffixed x (map suffix ss)) ≡ false
unfolding suffixed
after_suffixes x [] h = h
after_suffixes x (s ∷ ss) h = after_suffixes (suffix s x) ss (suffix_is_no_literal x s)

literal_suffixed : (x : Expression) (ss : List Suffix) → is_literal (suffixed x (map suffix ss)) ≡ cond (has_none ss) (is_literal x) false
unfolding suffixed
literal_suffixed x [] = refl
literal_suffixed x (s ∷ ss) = after_suffixes (suffix s x) ss (suffix_is_no_literal x s)

pub literal_in_postfix : (e : Postfix) → is_literal (trees.postfix e) ≡ cond (has_none (out-Postfix e).suffixes) (is_literal (trees.primary (out-Postfix e).primary)) false
literal_in_postfix e = ap is_literal (forms.postfix-is e) ∙ literal_suffixed (trees.primary (out-Postfix e).primary) (out-Postfix e).suffixes

pub literal-primary-Number : (t : Leaf) → is_literal (trees.primary (p.Number t)) ≡ true
unfolding is_literal
literal-primary-Number t = ap is_literal (forms.primary-Number t)

pub literal-primary-Name : (t : Leaf) → is_literal (trees.primary (p.Name t)) ≡ false
unfolding is_literal
literal-primary-Name t = ap is_literal (forms.primary-Name t)

pub literal-primary-Character : (t : Leaf) → is_literal (trees.primary (p.Character t)) ≡ true
unfolding is_literal
literal-primary-Character t = ap is_literal (forms.primary-Character t)

pub literal-primary-Paren : (o : Leaf) (x : Assign) (r : Leaf) → is_literal (trees.primary (p.Paren o x r)) ≡ is_literal (trees.assign x)
unfolding is_literal
literal-primary-Paren o x r = ap is_literal (forms.primary-Paren o x r)

pub literal-primary-Call : (t o : Leaf) (x : Option (Chain Assign)) (r : Leaf) → is_literal (trees.primary (p.Call t o x r)) ≡ false
unfolding is_literal
literal-primary-Call t o None r = ap is_literal (forms.primary-Call-none t o r)
literal-primary-Call t o (Some x) r = ap is_literal (forms.primary-Call-some t o x r)

pub literal-unary-Postfix : (x : Postfix) → is_literal (trees.unary (u.Postfix x)) ≡ is_literal (trees.postfix x)
literal-unary-Postfix x = ap is_literal (forms.unary-Postfix x)

pub literal-unary-Prefix : (t : Leaf) (x : Unary) → is_literal (trees.unary (u.Prefix t x)) ≡ false
unfolding is_literal
literal-unary-Prefix t x = ap is_literal (forms.unary-Prefix t x)

pub literal-unary-Cast : (o : Leaf) (t : TypeName) (r : Leaf) (x : Unary) → is_literal (trees.unary (u.Cast o t r x)) ≡ false
unfolding is_literal
literal-unary-Cast o t r x = ap is_literal (forms.unary-Cast o t r x)

pub literal-unary-SizeOf : (t : Leaf) (x : Unary) → is_literal (trees.unary (u.SizeOf t x)) ≡ false
unfolding is_literal
literal-unary-SizeOf t x = ap is_literal (forms.unary-SizeOf t x)

pub literal-unary-SizeOfType : (t o : Leaf) (x : TypeName) (r : Leaf) → is_literal (trees.unary (u.SizeOfType t o x r)) ≡ false
unfolding is_literal
literal-unary-SizeOfType t o x r = ap is_literal (forms.unary-SizeOfType t o x r)

pub literal-choice-Or : (x : Or) → is_literal (trees.choice (c.Or x)) ≡ is_literal (trees.or x)
literal-choice-Or x = ap is_literal (forms.choice-Or x)

pub literal-choice-Choose : (x : Or) (q : Leaf) (y : Assign) (d : Leaf) (z : Choice) → is_literal (trees.choice (c.Choose x q y d z)) ≡ false
unfolding is_literal
literal-choice-Choose x q y d z = ap is_literal (forms.choice-Choose x q y d z)

pub literal-assign-Choice : (x : Choice) → is_literal (trees.assign (a.Choice x)) ≡ is_literal (trees.choice x)
literal-assign-Choice x = ap is_literal (forms.assign-Choice x)

pub literal-assign-Assign : (l : Unary) (t : Leaf) (r : Assign) → is_literal (trees.assign (a.Assign l t r)) ≡ false
unfolding is_literal
literal-assign-Assign l t r = ap is_literal (forms.assign-Assign l t r)

pub ruleset literals = (literal-primary-Number, literal-primary-Name, literal-primary-Character, literal-primary-Paren, literal-primary-Call, literal-unary-Postfix, literal-unary-Prefix, literal-unary-Cast, literal-unary-SizeOf, literal-unary-SizeOfType, literal-choice-Or, literal-choice-Choose, literal-assign-Choice, literal-assign-Assign)

-- ---- indices

joined_has_no_index : (x : Expression) (t : Leaf) (y : Expression) → has_literal_indices (Binary x t y) ≡ true
unfolding has_literal_indices
joined_has_no_index x t y = refl

pub indices_in_or : (e : Or) → has_literal_indices (trees.or e) ≡ cond (lone_or e) (has_literal_indices (trees.unary (unary_in_or e))) true
indices_in_or e = said_of_or has_literal_indices true joined_has_no_index e

pub after-suffix-Index : (o : Leaf) (i : Assign) (r : Leaf) (x : Expression) → has_literal_indices (suffix (s.Index o i r) x) ≡ (has_literal_indices x && is_literal (trees.assign i))
unfolding has_literal_indices
after-suffix-Index o i r x = ap has_literal_indices (forms.suffix-Index o i r x)

pub after-suffix-Member : (d n : Leaf) (x : Expression) → has_literal_indices (suffix (s.Member d n) x) ≡ has_literal_indices x
unfolding has_literal_indices
after-suffix-Member d n x = ap has_literal_indices (forms.suffix-Member d n x)

pub after-suffix-Arrow : (d n : Leaf) (x : Expression) → has_literal_indices (suffix (s.Arrow d n) x) ≡ true
unfolding has_literal_indices
after-suffix-Arrow d n x = ap has_literal_indices (forms.suffix-Arrow d n x)

pub after-suffix-Increment : (t : Leaf) (x : Expression) → has_literal_indices (suffix (s.Increment t) x) ≡ true
unfolding has_literal_indices
after-suffix-Increment t x = ap has_literal_indices (forms.suffix-Increment t x)

pub after-suffix-Decrement : (t : Leaf) (x : Expression) → has_literal_indices (suffix (s.Decrement t) x) ≡ true
unfolding has_literal_indices
after-suffix-Decrement t x = ap has_literal_indices (forms.suffix-Decrement t x)

pub ruleset indices_after = (after-suffix-Index, after-suffix-Member, after-suffix-Arrow, after-suffix-Increment, after-suffix-Decrement)

pub index-primary-Number : (t : Leaf) → has_literal_indices (trees.primary (p.Number t)) ≡ true
unfolding has_literal_indices
index-primary-Number t = ap has_literal_indices (forms.primary-Number t)

pub index-primary-Name : (t : Leaf) → has_literal_indices (trees.primary (p.Name t)) ≡ true
unfolding has_literal_indices
index-primary-Name t = ap has_literal_indices (forms.primary-Name t)

pub index-primary-Character : (t : Leaf) → has_literal_indices (trees.primary (p.Character t)) ≡ true
unfolding has_literal_indices
index-primary-Character t = ap has_literal_indices (forms.primary-Character t)

pub index-primary-Paren : (o : Leaf) (x : Assign) (r : Leaf) → has_literal_indices (trees.primary (p.Paren o x r)) ≡ has_literal_indices (trees.assign x)
unfolding has_literal_indices
index-primary-Paren o x r = ap has_literal_indices (forms.primary-Paren o x r)

pub index-primary-Call : (t o : Leaf) (x : Option (Chain Assign)) (r : Leaf) → has_literal_indices (trees.primary (p.Call t o x r)) ≡ true
unfolding has_literal_indices
index-primary-Call t o None r = ap has_literal_indices (forms.primary-Call-none t o r)
index-primary-Call t o (Some x) r = ap has_literal_indices (forms.primary-Call-some t o x r)

pub index-unary-Postfix : (x : Postfix) → has_literal_indices (trees.unary (u.Postfix x)) ≡ has_literal_indices (trees.postfix x)
index-unary-Postfix x = ap has_literal_indices (forms.unary-Postfix x)

pub index-unary-Prefix : (t : Leaf) (x : Unary) → has_literal_indices (trees.unary (u.Prefix t x)) ≡ has_literal_indices (trees.unary x)
unfolding has_literal_indices
index-unary-Prefix t x = ap has_literal_indices (forms.unary-Prefix t x)

pub index-unary-Cast : (o : Leaf) (t : TypeName) (r : Leaf) (x : Unary) → has_literal_indices (trees.unary (u.Cast o t r x)) ≡ true
unfolding has_literal_indices
index-unary-Cast o t r x = ap has_literal_indices (forms.unary-Cast o t r x)

pub index-unary-SizeOf : (t : Leaf) (x : Unary) → has_literal_indices (trees.unary (u.SizeOf t x)) ≡ true
unfolding has_literal_indices
index-unary-SizeOf t x = ap has_literal_indices (forms.unary-SizeOf t x)

pub index-unary-SizeOfType : (t o : Leaf) (x : TypeName) (r : Leaf) → has_literal_indices (trees.unary (u.SizeOfType t o x r)) ≡ true
unfolding has_literal_indices
index-unary-SizeOfType t o x r = ap has_literal_indices (forms.unary-SizeOfType t o x r)

pub index-choice-Or : (x : Or) → has_literal_indices (trees.choice (c.Or x)) ≡ has_literal_indices (trees.or x)
index-choice-Or x = ap has_literal_indices (forms.choice-Or x)

pub index-choice-Choose : (x : Or) (q : Leaf) (y : Assign) (d : Leaf) (z : Choice) → has_literal_indices (trees.choice (c.Choose x q y d z)) ≡ true
unfolding has_literal_indices
index-choice-Choose x q y d z = ap has_literal_indices (forms.choice-Choose x q y d z)

pub index-assign-Choice : (x : Choice) → has_literal_indices (trees.assign (a.Choice x)) ≡ has_literal_indices (trees.choice x)
index-assign-Choice x = ap has_literal_indices (forms.assign-Choice x)

pub index-assign-Assign : (l : Unary) (t : Leaf) (r : Assign) → has_literal_indices (trees.assign (a.Assign l t r)) ≡ true
unfolding has_literal_indices
index-assign-Assign l t r = ap has_literal_indices (forms.assign-Assign l t r)

pub ruleset indices = (index-primary-Number, index-primary-Name, index-primary-Character, index-primary-Paren, index-primary-Call, index-unary-Postfix, index-unary-Prefix, index-unary-Cast, index-unary-SizeOf, index-unary-SizeOfType, index-choice-Or, index-choice-Choose, index-assign-Choice, index-assign-Assign)

-- ---- suffixes, from the left

pub suffix_left : (x : Expression) (ss : List Suffix) (i : ℕ) (s : Suffix) → i < length ss → suffixed x (map suffix (drop i ss)) ≡ suffixed (suffix (get_or ss i s) x) (map suffix (drop (i + 1) ss))
unfolding suffixed
suffix_left x ss i s h = at ss i h ∙ ap (λ k. suffixed (suffix (get_or ss i s) x) (map suffix (drop k ss))) (sym (add-one i))
  where
    at : (ss : List Suffix) (i : ℕ) → i < length ss → suffixed x (map suffix (drop i ss)) ≡ suffixed (suffix (get_or ss i s) x) (map suffix (drop (suc i) ss))
    at [] i h = absurd (omega arith)
    at (y ∷ ss) zero h = refl
    at (y ∷ ss) (suc i) h = at ss i (omega arith)

pub no_suffix_left : (x : Expression) (ss : List Suffix) (i : ℕ) → length ss ≤ i → suffixed x (map suffix (drop i ss)) ≡ x
unfolding suffixed
no_suffix_left x [] zero h = refl
no_suffix_left x [] (suc i) h = refl
no_suffix_left x (y ∷ ss) zero h = absurd (omega arith)
no_suffix_left x (y ∷ ss) (suc i) h = no_suffix_left x ss i (omega arith)
