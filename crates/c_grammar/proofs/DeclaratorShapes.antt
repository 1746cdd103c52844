-- What each alternative of a declarator, an initialiser and a parameter's sizes writes, as one equation each, and cases on a tree.
use Rattle.std.proofs.Common.{◌≡◌, true, false, Option, refl, sym, ap, subst, ◌∙◌}
use Rattle.c_words.specs.declared.word.Word.TheVariants as w
use Rattle.c_words.specs.declared.word.Leaf.{Leaf}
use Rattle.c_words.specs.declared.chain.Chain.{Chain}
use Rattle.c_grammar.specs.declared.expression.Assign.{Assign}
use Rattle.c_grammar.specs.declared.expression.Choice.{Choice}
use Rattle.c_grammar.specs.declared.declaration.Direct.TheOpen.{Direct-F}
use Rattle.c_grammar.specs.declared.declaration.Declarator.{Declarator, fold-roll-Declarator, out-Declarator, roll-out-Declarator}
use Rattle.c_grammar.specs.declared.declaration.Direct.{Direct, fold-roll-Direct, out-Direct, roll-Direct, roll-out-Direct}
use Rattle.c_grammar.specs.declared.declaration.Direct.TheVariants as d
use Rattle.c_grammar.specs.declared.declaration.Init.{Init, fold-roll-Init, out-Init, roll-Init, roll-out-Init}
use Rattle.c_grammar.specs.declared.declaration.Init.TheOpen.{Init-F}
use Rattle.c_grammar.specs.declared.declaration.Init.TheVariants as i
use Rattle.c_grammar.specs.declared.declaration.Sizes.{Sizes, fold-roll-Sizes, out-Sizes, roll-Sizes, roll-out-Sizes}
use Rattle.c_grammar.specs.declared.declaration.Sizes.TheOpen.{Sizes-F}
use Rattle.c_grammar.specs.declared.declaration.Sizes.TheVariants as z
use Rattle.c_words.specs.Written.{◌then◌, one, nested, optional, chain}
use Rattle.c_grammar.specs.Types.{stars_before}
use Rattle.c_words.specs.OperatorWords.{is_comma}
use Rattle.c_grammar.specs.Expressions.{assign, choice}
use Rattle.c_grammar.specs.Declarations.{array_of, direct_step, declarator_step, direct_shape, declarator_shape, direct, declarator, is_unsized, init_step, init, sizes_step, sizes}
use Rattle.c_grammar.proofs.ExpressionShapes.{chain-of}

-- ---- declarators

pub shape-Name : (t : Leaf) → direct_shape (d.Name t) ≡ record { written = one w.Name t; unsized = false }
unfolding direct_shape direct_step
shape-Name t = ap direct_shape (sym (d.rolls-Name t)) ∙ fold-roll-Direct _ _ direct_step declarator_step (Direct-F.Name t)

pub shape-Unsized : (t l r : Leaf) → direct_shape (d.Unsized t l r) ≡ record { written = nested (one w.Name t) then one w.LeftBracket l then one w.RightBracket r; unsized = true }
unfolding direct_shape direct_step
shape-Unsized t l r = ap direct_shape (sym (d.rolls-Unsized t l r)) ∙ fold-roll-Direct _ _ direct_step declarator_step (Direct-F.Unsized t l r)

pub shape-Paren : (l : Leaf) (x : Declarator) (r : Leaf) → direct_shape (d.Paren l x r) ≡ record { written = one w.LeftParen l then nested (declarator x) then one w.RightParen r; unsized = is_unsized x }
unfolding direct_shape declarator_shape direct_step
shape-Paren l x r = ap direct_shape (sym (d.rolls-Paren l x r)) ∙ fold-roll-Direct _ _ direct_step declarator_step (Direct-F.Paren l x r)

pub shape-Array : (x : Direct) (l : Leaf) (s : Choice) (r : Leaf)
    → direct_shape (d.Array x l s r) ≡ record { written = array_of (direct x) l (choice s) r; unsized = (direct_shape x).unsized }
unfolding direct_shape direct_step
shape-Array x l s r = ap direct_shape (sym (d.rolls-Array x l s r)) ∙ fold-roll-Direct _ _ direct_step declarator_step (Direct-F.Array x l s r)

pub shape-Declarator : (x : Declarator) → declarator_shape x ≡ record { written = stars_before x.stars (direct x.direct); unsized = (direct_shape x.direct).unsized }
unfolding direct_shape declarator_shape declarator_step
shape-Declarator x = ap declarator_shape (sym (roll-out-Declarator x)) ∙ fold-roll-Declarator _ _ direct_step declarator_step (out-Declarator x)

pub direct-Name : (t : Leaf) → direct (d.Name t) ≡ one w.Name t
direct-Name t = ap (λ x. x.written) (shape-Name t)

pub direct-Unsized : (t l r : Leaf) → direct (d.Unsized t l r) ≡ nested (one w.Name t) then one w.LeftBracket l then one w.RightBracket r
direct-Unsized t l r = ap (λ x. x.written) (shape-Unsized t l r)

pub direct-Paren : (l : Leaf) (x : Declarator) (r : Leaf) → direct (d.Paren l x r) ≡ one w.LeftParen l then nested (declarator x) then one w.RightParen r
direct-Paren l x r = ap (λ x. x.written) (shape-Paren l x r)

pub direct-Array : (x : Direct) (l : Leaf) (s : Choice) (r : Leaf) → direct (d.Array x l s r) ≡ array_of (direct x) l (choice s) r
direct-Array x l s r = ap (λ x. x.written) (shape-Array x l s r)

pub declarator-is : (x : Declarator) → declarator x ≡ stars_before x.stars (direct x.direct)
declarator-is x = ap (λ x. x.written) (shape-Declarator x)

pub unsized-is : (x : Declarator) → is_unsized x ≡ (direct_shape x.direct).unsized
unsized-is x = ap (λ x. x.unsized) (shape-Declarator x)

pub direct_cases : (P : Direct → Type 0) → ((t : Leaf) → P (d.Name t)) → ((t l r : Leaf) → P (d.Unsized t l r)) → ((l : Leaf) (x : Declarator) (r : Leaf) → P (d.Paren l x r))
    → ((x : Direct) (l : Leaf) (s : Choice) (r : Leaf) → P (d.Array x l s r)) → (x : Direct) → P x
direct_cases P f1 f2 f3 f4 x = subst P (roll-out-Direct x) (of (out-Direct x))
  where
    of : (y : Direct-F Direct Declarator) → P (roll-Direct y)
    of (Direct-F.Name t) = subst P (sym (d.rolls-Name t)) (f1 t)
    of (Direct-F.Unsized t l r) = subst P (sym (d.rolls-Unsized t l r)) (f2 t l r)
    of (Direct-F.Paren l y r) = subst P (sym (d.rolls-Paren l y r)) (f3 l y r)
    of (Direct-F.Array y l s r) = subst P (sym (d.rolls-Array y l s r)) (f4 y l s r)

-- ---- initialisers

pub init-Value : (x : Assign) → init (i.Value x) ≡ assign x
unfolding init init_step
init-Value x = ap init (sym (i.rolls-Value x)) ∙ fold-roll-Init _ init_step (Init-F.Value x)

pub init-Braces : (l : Leaf) (all : Chain Init) (last : Option Leaf) (r : Leaf)
    → init (i.Braces l all last r) ≡ one w.LeftBrace l then nested (chain is_comma init all then optional (one w.Comma) last) then one w.RightBrace r
unfolding init init_step
init-Braces l all last r = ap init (sym (i.rolls-Braces l all last r)) ∙ fold-roll-Init _ init_step (Init-F.Braces l all last r)
    ∙ ap (λ x. one w.LeftBrace l then nested (x then optional (one w.Comma) last) then one w.RightBrace r) (chain-of is_comma _ _ _ _ _ _ refl (λ m. refl) (λ m. refl))

pub init_cases : (P : Init → Type 0) → ((x : Assign) → P (i.Value x)) → ((l : Leaf) (all : Chain Init) (last : Option Leaf) (r : Leaf) → P (i.Braces l all last r)) → (x : Init) → P x
init_cases P f1 f2 x = subst P (roll-out-Init x) (of (out-Init x))
  where
    of : (y : Init-F Init) → P (roll-Init y)
    of (Init-F.Value y) = subst P (sym (i.rolls-Value y)) (f1 y)
    of (Init-F.Braces l all last r) = subst P (sym (i.rolls-Braces l all last r)) (f2 l all last r)

-- ---- sizes of a parameter without name

pub sizes-Unsized : (l r : Leaf) → sizes (z.Unsized l r) ≡ one w.LeftBracket l then one w.RightBracket r
unfolding sizes sizes_step
sizes-Unsized l r = ap sizes (sym (z.rolls-Unsized l r)) ∙ fold-roll-Sizes _ sizes_step (Sizes-F.Unsized l r)

pub sizes-First : (l : Leaf) (s : Choice) (r : Leaf) → sizes (z.First l s r) ≡ one w.LeftBracket l then nested (choice s) then one w.RightBracket r
unfolding sizes sizes_step
sizes-First l s r = ap sizes (sym (z.rolls-First l s r)) ∙ fold-roll-Sizes _ sizes_step (Sizes-F.First l s r)

pub sizes-More : (x : Sizes) (l : Leaf) (s : Choice) (r : Leaf) → sizes (z.More x l s r) ≡ array_of (sizes x) l (choice s) r
unfolding sizes sizes_step
sizes-More x l s r = ap sizes (sym (z.rolls-More x l s r)) ∙ fold-roll-Sizes _ sizes_step (Sizes-F.More x l s r)

pub sizes_cases : (P : Sizes → Type 0) → ((l r : Leaf) → P (z.Unsized l r)) → ((l : Leaf) (s : Choice) (r : Leaf) → P (z.First l s r))
    → ((x : Sizes) (l : Leaf) (s : Choice) (r : Leaf) → P (z.More x l s r)) → (x : Sizes) → P x
sizes_cases P f1 f2 f3 x = subst P (roll-out-Sizes x) (of (out-Sizes x))
  where
    of : (y : Sizes-F Sizes) → P (roll-Sizes y)
    of (Sizes-F.Unsized l r) = subst P (sym (z.rolls-Unsized l r)) (f1 l r)
    of (Sizes-F.First l s r) = subst P (sym (z.rolls-First l s r)) (f2 l s r)
    of (Sizes-F.More y l s r) = subst P (sym (z.rolls-More y l s r)) (f3 y l s r)
