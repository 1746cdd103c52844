-- What each alternative of declarators, initialisers and sizes says, as one equation each.
use Rattle.std.proofs.Common.{◌≡◌, List, [], ◌∷◌, ◌++◌, Option, refl, sym, ap, map, ◌∙◌}
use Rattle.c_words.specs.declared.word.Leaf.{Leaf}
use Rattle.c_words.specs.declared.chain.Chain.{Chain}
use Rattle.c_words.specs.declared.chain.Link.{Link}
use Rattle.c_grammar.specs.declared.expression.Assign.{Assign}
use Rattle.c_grammar.specs.declared.expression.Choice.{Choice}
use Rattle.c_grammar.specs.declared.declaration.Declarator.{Declarator, fold-roll-Declarator, out-Declarator, roll-out-Declarator}
use Rattle.c_grammar.specs.declared.declaration.Direct.{Direct, fold-roll-Direct}
use Rattle.c_grammar.specs.declared.declaration.Direct.TheVariants as d
use Rattle.c_grammar.specs.declared.declaration.Init.{Init, fold-roll-Init}
use Rattle.c_grammar.specs.declared.declaration.Init.TheVariants as i
use Rattle.c_grammar.specs.declared.declaration.Sizes.{Sizes, fold-roll-Sizes}
use Rattle.c_grammar.specs.declared.declaration.Sizes.TheVariants as z
use Rattle.typing_rules.specs.Syntax as syntax
use Rattle.typing_rules.specs.TreesOfExpressions.{assign, choice}
use Rattle.typing_rules.specs.TreesOfDeclarations.{stars_of, direct_step, declarator_step, declarator, direct, elements_after, init_step, init, sizes_step, sizes}

-- ---- declarators

pub direct-Name : (n : Leaf) → direct (d.Name n) ≡ record { name = n; modifiers = [] }
unfolding direct direct_step
direct-Name n = ap direct (sym (d.rolls-Name n)) ∙ fold-roll-Direct _ _ direct_step declarator_step _

pub direct-Unsized : (n : Leaf) (o : Leaf) (c : Leaf) → direct (d.Unsized n o c) ≡ record { name = n; modifiers = syntax.ArrayUnsized ∷ [] }
unfolding direct direct_step
direct-Unsized n o c = ap direct (sym (d.rolls-Unsized n o c)) ∙ fold-roll-Direct _ _ direct_step declarator_step _

pub direct-Paren : (o : Leaf) (x : Declarator) (c : Leaf) → direct (d.Paren o x c) ≡ declarator x
unfolding declarator direct direct_step
direct-Paren o x c = ap direct (sym (d.rolls-Paren o x c)) ∙ fold-roll-Direct _ _ direct_step declarator_step _

pub direct-Array : (x : Direct) (o : Leaf) (n : Choice) (c : Leaf) → direct (d.Array x o n c) ≡ record { name = (direct x).name; modifiers = (direct x).modifiers ++ (syntax.ArrayOf (choice n) ∷ []) }
unfolding direct direct_step
direct-Array x o n c = ap direct (sym (d.rolls-Array x o n c)) ∙ fold-roll-Direct _ _ direct_step declarator_step _

pub declarator-is : (x : Declarator) → declarator x ≡ record { name = (direct (out-Declarator x).direct).name; modifiers = (direct (out-Declarator x).direct).modifiers ++ stars_of (out-Declarator x).stars }
unfolding declarator direct declarator_step
declarator-is x = ap declarator (sym (roll-out-Declarator x)) ∙ fold-roll-Declarator _ _ direct_step declarator_step _

-- ---- initialisers

module _ {A B : Type 0} (f : A → syntax.Initialiser) (g : B → syntax.Initialiser) (h : Link A → Link B) (same_operand : (l : Link A) → g (h l).operand ≡ f l.operand) where
  pub elements-map : (ls : List (Link A)) → elements_after g (map h ls) ≡ elements_after f ls
  unfolding elements_after
  elements-map [] = refl
  elements-map (l ∷ ls) = rw (same_operand l, elements-map ls) refl

pub init-Value : (x : Assign) → init (i.Value x) ≡ syntax.Value (assign x)
unfolding init init_step
init-Value x = ap init (sym (i.rolls-Value x)) ∙ fold-roll-Init _ init_step _

pub init-Braces : (o : Leaf) (x : Chain Init) (l : Option Leaf) (c : Leaf) → init (i.Braces o x l c) ≡ syntax.Braces o (syntax.Element (init x.first) (elements_after init x.rest))
unfolding init init_step
init-Braces o x l c = ap init (sym (i.rolls-Braces o x l c)) ∙ fold-roll-Init _ init_step _
    ∙ ap (λ more. syntax.Braces o (syntax.Element (init x.first) more)) (elements-map init (λ y. y) _ (λ l. refl) x.rest)

-- ---- the sizes of a parameter without name

pub sizes-Unsized : (o : Leaf) (c : Leaf) → sizes (z.Unsized o c) ≡ syntax.ArrayUnsized ∷ []
unfolding sizes sizes_step
sizes-Unsized o c = ap sizes (sym (z.rolls-Unsized o c)) ∙ fold-roll-Sizes _ sizes_step _

pub sizes-First : (o : Leaf) (n : Choice) (c : Leaf) → sizes (z.First o n c) ≡ syntax.ArrayOf (choice n) ∷ []
unfolding sizes sizes_step
sizes-First o n c = ap sizes (sym (z.rolls-First o n c)) ∙ fold-roll-Sizes _ sizes_step _

pub sizes-More : (x : Sizes) (o : Leaf) (n : Choice) (c : Leaf) → sizes (z.More x o n c) ≡ sizes x ++ (syntax.ArrayOf (choice n) ∷ [])
unfolding sizes sizes_step
sizes-More x o n c = ap sizes (sym (z.rolls-More x o n c)) ∙ fold-roll-Sizes _ sizes_step _

pub ruleset declarations = (direct-Name, direct-Unsized, direct-Paren, direct-Array, declarator-is, init-Value, init-Braces, sizes-Unsized, sizes-First, sizes-More)
