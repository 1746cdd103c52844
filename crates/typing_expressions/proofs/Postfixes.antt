-- Suffixes, one after another.
use Rattle.std.proofs.Common.{◌≡◌, ℕ, ◌+◌, ◌<◌, ◌≤◌, List, [], ◌∷◌, length, get_or, drop, map, Err, refl, sym, ap, subst, ◌∙◌}
use Rattle.std.proofs.lemmas.List.{drop_more, drop_all}
use Rattle.c_words.specs.declared.word.Leaf.{Leaf}
use Rattle.c_grammar.specs.declared.expression.Assign.{Assign}
use Rattle.c_grammar.specs.declared.expression.Choice.{Choice}
use Rattle.c_grammar.specs.declared.expression.Primary.{Primary}
use Rattle.c_grammar.specs.declared.expression.Suffix.{Suffix, out-Suffix, roll-Suffix, roll-out-Suffix}
use Rattle.c_grammar.specs.declared.expression.Suffix.TheVariants as s
use Rattle.c_grammar.specs.declared.expression.Assign.TheOpen.{Suffix-F}
use Rattle.c_grammar.specs.declared.expression.Unary.{Unary}
use Rattle.c_grammar.specs.declared.expression.Postfix.{Postfix}
use Rattle.c_grammar.specs.declared.expression.Product.{Product}
use Rattle.c_grammar.specs.declared.expression.Or.{Or}
use Rattle.c_grammar.specs.declared.expression.And.{And}
use Rattle.c_grammar.specs.declared.expression.BitOr.{BitOr}
use Rattle.c_grammar.specs.declared.expression.BitXor.{BitXor}
use Rattle.c_grammar.specs.declared.expression.BitAnd.{BitAnd}
use Rattle.c_grammar.specs.declared.expression.Equal.{Equal}
use Rattle.c_grammar.specs.declared.expression.Relation.{Relation}
use Rattle.c_grammar.specs.declared.expression.Shift.{Shift}
use Rattle.c_grammar.specs.declared.expression.Sum.{Sum}
use Rattle.typing_rules.specs.declared.fault.TypeFault.{TypeFault}
use Rattle.typing_rules.specs.Syntax as syntax
use Rattle.typing_rules.specs.Syntax.{Expression}
use Rattle.typing_rules.specs.TreesOfExpressions as trees
use Rattle.typing_rules.specs.TreesOfExpressions.{suffixed}
use Rattle.typing_rules.specs.Environment.{Environment}
use Rattle.typing_rules.specs.Expressions.{operand}
use Rattle.typing_rules.proofs.ExpressionAlternatives.{suffix-Index, suffix-Member, suffix-Arrow, suffix-Increment, suffix-Decrement}

module _ (g : Environment) (e : TypeFault) where
  err_index : (x : Expression) (t : Leaf) (i : Expression) → operand g x ≡ Err e → operand g (syntax.Index x t i) ≡ Err e
  unfolding operand
  err_index x t i h = rw h refl

  err_member : (x : Expression) (t m : Leaf) → operand g x ≡ Err e → operand g (syntax.Member x t m) ≡ Err e
  unfolding operand
  err_member x t m h = rw h refl

  err_arrow : (x : Expression) (t m : Leaf) → operand g x ≡ Err e → operand g (syntax.Arrow x t m) ≡ Err e
  unfolding operand
  err_arrow x t m h = rw h refl

  err_increment : (x : Expression) (t : Leaf) → operand g x ≡ Err e → operand g (syntax.Increment x t) ≡ Err e
  unfolding operand
  err_increment x t h = rw h refl

  err_decrement : (x : Expression) (t : Leaf) → operand g x ≡ Err e → operand g (syntax.Decrement x t) ≡ Err e
  unfolding operand
  err_decrement x t h = rw h refl

  err_suffix : (y : Suffix) (x : Expression) → operand g x ≡ Err e → operand g (trees.suffix y x) ≡ Err e
  err_suffix y x h = subst (λ r. operand g (trees.suffix r x) ≡ Err e) (roll-out-Suffix y) (by (out-Suffix y))
    where
      by : (o : Suffix-F Assign Choice Primary Suffix Unary And BitAnd BitOr BitXor Equal Or Postfix Product Relation Shift Sum) → operand g (trees.suffix (roll-Suffix o) x) ≡ Err e
      by (Suffix-F.Index o i c) = ap (λ z. operand g (trees.suffix z x)) (s.rolls-Index o i c) ∙ (ap (operand g) (suffix-Index o i c x) ∙ err_index x o (trees.assign i) h)
      by (Suffix-F.Member d n) = ap (λ z. operand g (trees.suffix z x)) (s.rolls-Member d n) ∙ (ap (operand g) (suffix-Member d n x) ∙ err_member x d n h)
      by (Suffix-F.Arrow d n) = ap (λ z. operand g (trees.suffix z x)) (s.rolls-Arrow d n) ∙ (ap (operand g) (suffix-Arrow d n x) ∙ err_arrow x d n h)
      by (Suffix-F.Increment t) = ap (λ z. operand g (trees.suffix z x)) (s.rolls-Increment t) ∙ (ap (operand g) (suffix-Increment t x) ∙ err_increment x t h)
      by (Suffix-F.Decrement t) = ap (λ z. operand g (trees.suffix z x)) (s.rolls-Decrement t) ∙ (ap (operand g) (suffix-Decrement t x) ∙ err_decrement x t h)

  pub err_suffixed : (x : Expression) (ys : List Suffix) → operand g x ≡ Err e → operand g (suffixed x (map trees.suffix ys)) ≡ Err e
  unfolding suffixed
  err_suffixed x [] h = h
  err_suffixed x (y ∷ ys) h = err_suffixed (trees.suffix y x) ys (err_suffix y x h)

one_suffix : (x : Expression) (y : Suffix) (ys : List Suffix) → suffixed x (map trees.suffix (y ∷ ys)) ≡ suffixed (trees.suffix y x) (map trees.suffix ys)
unfolding suffixed
one_suffix x y ys = refl

pub next_suffix : (x whole : Expression) (ys : List Suffix) (i : ℕ) (y : Suffix) → i < length ys → y ≡ get_or ys i y
    → whole ≡ suffixed x (map trees.suffix (drop i ys)) → whole ≡ suffixed (trees.suffix y x) (map trees.suffix (drop (i + 1) ys))
next_suffix x whole ys i y below at h =
    h ∙ (ap (λ zs. suffixed x (map trees.suffix zs)) (drop_more ys i y below)
    ∙ (ap (λ z. suffixed x (map trees.suffix (z ∷ drop (i + 1) ys))) (sym at)
    ∙ one_suffix x y (drop (i + 1) ys)))

no_suffix : (x : Expression) → suffixed x (map trees.suffix []) ≡ x
unfolding suffixed
no_suffix x = refl

pub last_suffix : (x whole : Expression) (ys : List Suffix) (i : ℕ) → length ys ≤ i → whole ≡ suffixed x (map trees.suffix (drop i ys)) → whole ≡ x
last_suffix x whole ys i done h = h ∙ (ap (λ zs. suffixed x (map trees.suffix zs)) (drop_all i ys done) ∙ no_suffix x)

pub failed_suffix : (g : Environment) (e : TypeFault) (x whole : Expression) (ys : List Suffix) (i : ℕ) (y : Suffix) → i < length ys → y ≡ get_or ys i y
    → whole ≡ suffixed x (map trees.suffix (drop i ys)) → operand g (trees.suffix y x) ≡ Err e → operand g whole ≡ Err e
failed_suffix g e x whole ys i y below at h k =
    ap (operand g) (next_suffix x whole ys i y below at h) ∙ err_suffixed g e (trees.suffix y x) (drop (i + 1) ys) k
