-- An expression with a suffix is no argument of `malloc` of its own form.
use Rattle.std.proofs.Common.{◌≡◌, ◌≢◌, false, List, [], ◌∷◌, map, refl, sym, ap, subst, ◌∙◌}
use Rattle.c_words.specs.declared.word.Leaf.{Leaf}
use Rattle.c_grammar.specs.declared.expression.Assign.{Assign}
use Rattle.c_grammar.specs.declared.expression.Choice.{Choice}
use Rattle.c_grammar.specs.declared.expression.Primary.{Primary}
use Rattle.c_grammar.specs.declared.expression.Suffix.{Suffix, out-Suffix, roll-Suffix, roll-out-Suffix}
use Rattle.c_grammar.specs.declared.expression.Suffix.TheVariants as s
use Rattle.c_grammar.specs.declared.expression.Assign.TheOpen.{Suffix-F}
use Rattle.c_grammar.specs.declared.expression.Unary.{Unary}
use Rattle.c_grammar.specs.declared.expression.Postfix.{Postfix, out-Postfix}
use Rattle.c_grammar.specs.declared.expression.Product.{Product}
use Rattle.c_grammar.specs.declared.expression.Or.{Or}
use Rattle.c_grammar.specs.declared.expression.And.{And}
use Rattle.c_grammar.specs.declared.expression.BitOr.{BitOr}
use Rattle.c_grammar.specs.declared.expression.BitXor.{BitXor}
use Rattle.c_grammar.specs.declared.expression.BitAnd.{BitAnd}
use Rattle.c_grammar.specs.declared.expression.Equal.{Equal}
use Rattle.c_grammar.specs.declared.expression.Relation.{Relation}
use Rattle.c_grammar.specs.declared.expression.Shift.{Shift}
use Rattle.c_grammar.specs.declared.expression.Sum.{Sum}
use Rattle.typing_rules.specs.Syntax as syntax
use Rattle.typing_rules.specs.Syntax.{Expression}
use Rattle.typing_rules.specs.TreesOfExpressions as trees
use Rattle.typing_rules.specs.TreesOfExpressions.{suffixed}
use Rattle.typing_rules.proofs.ExpressionAlternatives.{suffix-Index, suffix-Member, suffix-Arrow, suffix-Increment, suffix-Decrement, postfix-is}
use Rattle.typing_shapes.specs.Requests.{is_sized, is_request}

-- neither a `sizeof` nor a product with one
pub record IsPlain (x : Expression) : Type 0 where
  pub sized : is_sized x ≡ false
  pub request : is_request x ≡ false

plain_index : (x : Expression) (t : Leaf) (i : Expression) → IsPlain (syntax.Index x t i)
unfolding is_sized is_request
plain_index x t i = record { sized = refl; request = refl }

plain_member : (x : Expression) (t m : Leaf) → IsPlain (syntax.Member x t m)
unfolding is_sized is_request
plain_member x t m = record { sized = refl; request = refl }

plain_arrow : (x : Expression) (t m : Leaf) → IsPlain (syntax.Arrow x t m)
unfolding is_sized is_request
plain_arrow x t m = record { sized = refl; request = refl }

plain_increment : (x : Expression) (t : Leaf) → IsPlain (syntax.Increment x t)
unfolding is_sized is_request
plain_increment x t = record { sized = refl; request = refl }

plain_decrement : (x : Expression) (t : Leaf) → IsPlain (syntax.Decrement x t)
unfolding is_sized is_request
plain_decrement x t = record { sized = refl; request = refl }

same_plain : (x y : Expression) → x ≡ y → IsPlain y → IsPlain x
same_plain x y e h = subst IsPlain (sym e) h

plain_suffix : (y : Suffix) (x : Expression) → IsPlain (trees.suffix y x)
plain_suffix y x = subst (λ r. IsPlain (trees.suffix r x)) (roll-out-Suffix y) (by (out-Suffix y))
  where
    by : (o : Suffix-F Assign Choice Primary Suffix Unary And BitAnd BitOr BitXor Equal Or Postfix Product Relation Shift Sum) → IsPlain (trees.suffix (roll-Suffix o) x)
    by (Suffix-F.Index o i c) = same_plain _ _ (ap (λ z. trees.suffix z x) (s.rolls-Index o i c) ∙ suffix-Index o i c x) (plain_index x o (trees.assign i))
    by (Suffix-F.Member d n) = same_plain _ _ (ap (λ z. trees.suffix z x) (s.rolls-Member d n) ∙ suffix-Member d n x) (plain_member x d n)
    by (Suffix-F.Arrow d n) = same_plain _ _ (ap (λ z. trees.suffix z x) (s.rolls-Arrow d n) ∙ suffix-Arrow d n x) (plain_arrow x d n)
    by (Suffix-F.Increment t) = same_plain _ _ (ap (λ z. trees.suffix z x) (s.rolls-Increment t) ∙ suffix-Increment t x) (plain_increment x t)
    by (Suffix-F.Decrement t) = same_plain _ _ (ap (λ z. trees.suffix z x) (s.rolls-Decrement t) ∙ suffix-Decrement t x) (plain_decrement x t)

still_plain : (x : Expression) (ys : List Suffix) → IsPlain x → IsPlain (suffixed x (map trees.suffix ys))
unfolding suffixed
still_plain x [] h = h
still_plain x (y ∷ ys) h = still_plain (trees.suffix y x) ys (plain_suffix y x)

some_plain : (x : Expression) (ys : List Suffix) → ys ≢ [] → IsPlain (suffixed x (map trees.suffix ys))
unfolding suffixed
some_plain x [] h = absurd (h refl)
some_plain x (y ∷ ys) h = still_plain (trees.suffix y x) ys (plain_suffix y x)

pub postfix_plain : (x : Postfix) → (out-Postfix x).suffixes ≢ [] → IsPlain (trees.postfix x)
postfix_plain x h = same_plain _ _ (postfix-is x) (some_plain (trees.primary (out-Postfix x).primary) (out-Postfix x).suffixes h)

no_suffix : (x : Expression) (ys : List Suffix) → ys ≡ [] → suffixed x (map trees.suffix ys) ≡ x
unfolding suffixed
no_suffix x ys h = ap (λ zs. suffixed x (map trees.suffix zs)) h

pub postfix_alone : (x : Postfix) → (out-Postfix x).suffixes ≡ [] → trees.postfix x ≡ trees.primary (out-Postfix x).primary
postfix_alone x h = postfix-is x ∙ no_suffix (trees.primary (out-Postfix x).primary) (out-Postfix x).suffixes h
