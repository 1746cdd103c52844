-- The weighted nodes of the trees of declarations.
use Rattle.std.proofs.Common.{◌≡◌, ℕ, zero, suc, ◌+◌, List, [], ◌∷◌, ◌++◌, map, replicate, length, sum_by, Option, Some, None, refl, ap, ◌∙◌, arith}
use Rattle.std.proofs.lemmas.List.Sums.{sum_by-cons, sum_by-append, sum_by_push}
use Rattle.std.proofs.lemmas.List.Folds.{sum_by-replicate}
use Rattle.c_words.specs.declared.word.Leaf.{Leaf}
use Rattle.c_words.specs.declared.chain.Chain.{Chain}
use Rattle.c_words.specs.declared.chain.Link.{Link}
use Rattle.c_grammar.specs.declared.expression.Assign.{Assign}
use Rattle.c_grammar.specs.declared.expression.Choice.{Choice}
use Rattle.c_grammar.specs.declared.types.Star.{Star}
use Rattle.c_grammar.specs.declared.declaration.Direct.{Direct}
use Rattle.c_grammar.specs.declared.declaration.Direct.TheVariants as d
use Rattle.c_grammar.specs.declared.declaration.Declarator.{Declarator, out-Declarator}
use Rattle.c_grammar.specs.declared.declaration.Init.{Init}
use Rattle.c_grammar.specs.declared.declaration.Init.TheVariants as i
use Rattle.c_grammar.specs.declared.declaration.Declared.{Declared}
use Rattle.c_grammar.specs.declared.declaration.Parameter.{Parameter}
use Rattle.c_grammar.specs.declared.declaration.Sizes.{Sizes}
use Rattle.c_grammar.specs.declared.declaration.Sizes.TheVariants as z
use Rattle.typing_rules.specs.Syntax as syntax
use Rattle.typing_rules.specs.Nodes.{nodes}
use Rattle.typing_rules.specs.Weights.{modifier_nodes, modifiers_weight, initialiser_nodes, elements_nodes, initialiser_weight, declared_weight}
use Rattle.typing_rules.specs.TreesOfExpressions as expressions
use Rattle.typing_rules.specs.TreesOfDeclarations as trees
use Rattle.typing_rules.specs.TreesOfDeclarations.{operands, elements_after, stars_of, sizes_there}
use Rattle.typing_rules.proofs.DeclarationAlternatives as alternative
use Rattle.typing_nodes.specs.Counts as counts

abbrev sizes_in : List syntax.Modifier → ℕ
sizes_in ms = sum_by modifier_nodes ms

both_sizes : (ms ns : List syntax.Modifier) → sizes_in (ms ++ ns) ≡ sizes_in ms + sizes_in ns
both_sizes = sum_by-append modifier_nodes

no_sizes : (n : ℕ) → sizes_in (replicate n syntax.PointerTo) ≡ 0
no_sizes n = let h = sum_by-replicate modifier_nodes n syntax.PointerTo in omega (arith, h)

last_size : (ms : List syntax.Modifier) (x : syntax.Expression) → sizes_in (ms ++ (syntax.ArrayOf x ∷ [])) ≡ sizes_in ms + nodes x
last_size ms x = sum_by_push modifier_nodes ms (syntax.ArrayOf x)

pub direct_name : (t : Leaf) → sizes_in (trees.direct (d.Name t)).modifiers ≡ 0
direct_name t = ap (λ x. sizes_in x.modifiers) (alternative.direct-Name t)

pub direct_unsized : (t o c : Leaf) → sizes_in (trees.direct (d.Unsized t o c)).modifiers ≡ 0
direct_unsized t o c = ap (λ x. sizes_in x.modifiers) (alternative.direct-Unsized t o c)

pub direct_paren : (o : Leaf) (x : Declarator) (c : Leaf) → sizes_in (trees.direct (d.Paren o x c)).modifiers ≡ sizes_in (trees.declarator x).modifiers
direct_paren o x c = ap (λ x. sizes_in x.modifiers) (alternative.direct-Paren o x c)

pub direct_array : (x : Direct) (o : Leaf) (n : Choice) (c : Leaf) → sizes_in (trees.direct (d.Array x o n c)).modifiers ≡ sizes_in (trees.direct x).modifiers + nodes (expressions.choice n)
direct_array x o n c = ap (λ x. sizes_in x.modifiers) (alternative.direct-Array x o n c) ∙ last_size (trees.direct x).modifiers (expressions.choice n)

pub ruleset direct_nodes = (direct_name, direct_unsized, direct_paren, direct_array)

pub declarator_nodes : (x : Declarator) → sizes_in (trees.declarator x).modifiers ≡ sizes_in (trees.direct (out-Declarator x).direct).modifiers
declarator_nodes x =
    let h = both_sizes (trees.direct (out-Declarator x).direct).modifiers (stars_of (out-Declarator x).stars) in
    let n = no_sizes (length (out-Declarator x).stars) in
    ap (λ x. sizes_in x.modifiers) (alternative.declarator-is x) ∙ omega (arith, h, n)

-- ---- initialisers

pub initialiser_value : (x : Assign) → initialiser_nodes (trees.init (i.Value x)) ≡ nodes (expressions.assign x)
unfolding initialiser_nodes
initialiser_value x = ap initialiser_nodes (alternative.init-Value x)

elements_behind : (ls : List (Link Init)) → elements_nodes (elements_after trees.init ls) ≡ counts.elements_nodes ls
unfolding elements_after counts.elements_nodes initialiser_nodes
elements_behind [] = refl
elements_behind (l ∷ ls) = ap (λ n. initialiser_nodes (trees.init l.operand) + n) (elements_behind ls)

pub initialiser_braces : (o : Leaf) (x : Chain Init) (l : Option Leaf) (c : Leaf) → initialiser_nodes (trees.init (i.Braces o x l c)) ≡ initialiser_nodes (trees.init x.first) + counts.elements_nodes x.rest
unfolding initialiser_nodes
initialiser_braces o x l c = ap initialiser_nodes (alternative.init-Braces o x l c) ∙ ap (λ n. initialiser_nodes (trees.init x.first) + n) (elements_behind x.rest)

pub ruleset initialisers = (initialiser_value, initialiser_braces)

-- ---- lists of declared names and of parameters

abbrev declared_weight_of : syntax.Declared → ℕ
declared_weight_of d = modifiers_weight d.declarator.modifiers + initialiser_weight d.initialiser

declared_behind : (ls : List (Link Declared)) → sum_by declared_weight_of (map trees.declared (map (λ l. l.operand) ls)) ≡ counts.declared_nodes ls
unfolding counts.declared_nodes
declared_behind [] = refl
declared_behind (l ∷ ls) = sum_by-cons declared_weight_of (trees.declared l.operand) (map trees.declared (map (λ l. l.operand) ls)) ∙ ap (λ n. declared_weight_of (trees.declared l.operand) + n) (declared_behind ls)

pub declared_chain : (c : Chain Declared) → declared_weight (map trees.declared (operands c)) ≡ (modifiers_weight (trees.declared c.first).declarator.modifiers + initialiser_weight (trees.declared c.first).initialiser) + counts.declared_nodes c.rest
unfolding operands declared_weight
declared_chain c = sum_by-cons declared_weight_of (trees.declared c.first) (map trees.declared (map (λ l. l.operand) c.rest)) ∙ ap (λ n. declared_weight_of (trees.declared c.first) + n) (declared_behind c.rest)

pub size_unsized : (o c : Leaf) → sizes_in (trees.sizes (z.Unsized o c)) ≡ 0
size_unsized o c = ap sizes_in (alternative.sizes-Unsized o c)

pub size_first : (o : Leaf) (n : Choice) (c : Leaf) → sizes_in (trees.sizes (z.First o n c)) ≡ nodes (expressions.choice n)
size_first o n c = ap sizes_in (alternative.sizes-First o n c) ∙ omega arith

pub size_more : (x : Sizes) (o : Leaf) (n : Choice) (c : Leaf) → sizes_in (trees.sizes (z.More x o n c)) ≡ sizes_in (trees.sizes x) + nodes (expressions.choice n)
size_more x o n c = ap sizes_in (alternative.sizes-More x o n c) ∙ last_size (trees.sizes x) (expressions.choice n)

pub ruleset sizes_nodes = (size_unsized, size_first, size_more)

-- stars of a parameter without name have no nodes
pub nameless_nodes : (s : Option Sizes) (stars : List Star) → sizes_in (sizes_there s ++ stars_of stars) ≡ sizes_in (sizes_there s)
nameless_nodes s stars = let h = both_sizes (sizes_there s) (stars_of stars) in let n = no_sizes (length stars) in omega (arith, h, n)

abbrev parameter_weight : syntax.Parameter → ℕ
parameter_weight p = modifiers_weight p.modifiers

parameters_behind : (ls : List (Link Parameter)) → sum_by parameter_weight (map trees.parameter (map (λ l. l.operand) ls)) ≡ counts.parameter_nodes ls
unfolding counts.parameter_nodes
parameters_behind [] = refl
parameters_behind (l ∷ ls) = sum_by-cons parameter_weight (trees.parameter l.operand) (map trees.parameter (map (λ l. l.operand) ls)) ∙ ap (λ n. parameter_weight (trees.parameter l.operand) + n) (parameters_behind ls)

pub parameter_chain : (c : Chain Parameter) → sum_by (λ p. modifiers_weight p.modifiers) (map trees.parameter (operands c)) ≡ modifiers_weight (trees.parameter c.first).modifiers + counts.parameter_nodes c.rest
unfolding operands
parameter_chain c = sum_by-cons parameter_weight (trees.parameter c.first) (map trees.parameter (map (λ l. l.operand) c.rest)) ∙ ap (λ n. parameter_weight (trees.parameter c.first) + n) (parameters_behind c.rest)
