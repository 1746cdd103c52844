-- The elements of initialisers.
use Rattle.std.proofs.Common.{◌≡◌, suc, ◌+◌, List, [], ◌∷◌, length, Option, Some, refl, sym, ap, ◌∙◌, add-one}
use Rattle.c_words.specs.declared.word.Leaf.{Leaf}
use Rattle.c_words.specs.declared.chain.Chain.{Chain}
use Rattle.c_words.specs.declared.chain.Link.{Link}
use Rattle.c_grammar.specs.declared.expression.Assign.{Assign}
use Rattle.c_grammar.specs.declared.declaration.Init.{Init}
use Rattle.c_grammar.specs.declared.declaration.Init.TheVariants as i
use Rattle.typing_rules.specs.Syntax as syntax
use Rattle.typing_rules.specs.Declarations.{element_number, count_of}
use Rattle.typing_rules.specs.TreesOfDeclarations.{elements_after, init}
use Rattle.typing_rules.proofs.DeclarationAlternatives.{init-Value, init-Braces}

elements_number : {A : Type 0} (f : A → syntax.Initialiser) (ls : List (Link A)) → element_number (elements_after f ls) ≡ length ls
unfolding element_number elements_after
elements_number f [] = refl
elements_number f (l ∷ ls) = ap suc (elements_number f ls)

pub value_count : (x : Assign) → count_of (Some (init (i.Value x))) ≡ 1
value_count x = ap (λ y. count_of (Some y)) (init-Value x)

pub braces_count : (o : Leaf) (x : Chain Init) (l : Option Leaf) (c : Leaf) → count_of (Some (init (i.Braces o x l c))) ≡ length x.rest + 1
unfolding element_number
braces_count o x l c = ap (λ y. count_of (Some y)) (init-Braces o x l c) ∙ ap suc (elements_number init x.rest) ∙ sym (add-one (length x.rest))
