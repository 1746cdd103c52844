-- Whether the `[ ]` right after the name of a declarator is empty, by its alternatives.
use Rattle.std.proofs.Common.{◌≡◌, true, false, ap}
use Rattle.c_words.specs.declared.word.Leaf.{Leaf}
use Rattle.c_grammar.specs.declared.expression.Choice.{Choice}
use Rattle.c_grammar.specs.declared.declaration.Declarator.{Declarator}
use Rattle.c_grammar.specs.declared.declaration.Direct.{Direct}
use Rattle.c_grammar.specs.declared.declaration.Direct.TheVariants as d
use Rattle.c_grammar.specs.Declarations.{direct_shape, is_unsized}
use Rattle.c_grammar.proofs.DeclaratorShapes.{shape-Name, shape-Unsized, shape-Paren, shape-Array, unsized-is}

pub unsized_name : (t : Leaf) → (direct_shape (d.Name t)).unsized ≡ false
unsized_name t = ap (λ x. x.unsized) (shape-Name t)

pub unsized_empty : (t l r : Leaf) → (direct_shape (d.Unsized t l r)).unsized ≡ true
unsized_empty t l r = ap (λ x. x.unsized) (shape-Unsized t l r)

pub unsized_paren : (l : Leaf) (x : Declarator) (r : Leaf) → (direct_shape (d.Paren l x r)).unsized ≡ is_unsized x
unsized_paren l x r = ap (λ x. x.unsized) (shape-Paren l x r)

pub unsized_array : (x : Direct) (l : Leaf) (s : Choice) (r : Leaf) → (direct_shape (d.Array x l s r)).unsized ≡ (direct_shape x).unsized
unsized_array x l s r = ap (λ x. x.unsized) (shape-Array x l s r)

pub unsized_declarator : (x : Declarator) → is_unsized x ≡ (direct_shape x.direct).unsized
unsized_declarator x = unsized-is x
