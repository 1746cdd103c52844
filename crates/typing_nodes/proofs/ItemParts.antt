-- The weighted nodes of items.
use Rattle.std.proofs.lemmas.List.{drop_all}
use Rattle.std.proofs.Common.{◌≡◌, ℕ, ◌+◌, ◌≤◌, List, [], ◌∷◌, drop, length, map, sum_by, refl, ap, ◌∙◌}
use Rattle.std.proofs.lemmas.List.Sums.{sum_by-cons}
use Rattle.c_words.specs.declared.chain.Chain.{Chain}
use Rattle.c_words.specs.declared.chain.Link.{Link}
use Rattle.c_grammar.specs.declared.declaration.Declarator.{Declarator}
use Rattle.c_grammar.specs.declared.program.Member.{Member}
use Rattle.c_grammar.specs.declared.program.Item.{Item}
use Rattle.c_grammar.specs.declared.program.ProgramTree.{ProgramTree}
use Rattle.typing_rules.specs.Syntax as syntax
use Rattle.typing_rules.specs.Weights.{modifiers_weight, item_weight, weight}
use Rattle.typing_rules.specs.TreesOfDeclarations as trees
use Rattle.typing_rules.specs.TreesOfDeclarations.{operands}
use Rattle.typing_nodes.specs.Counts.{declarator_nodes, member_nodes, item_nodes}

abbrev declarator_weight : syntax.Declarator → ℕ
declarator_weight d = modifiers_weight d.modifiers

declarators_behind : (ls : List (Link Declarator)) → sum_by declarator_weight (map trees.declarator (map (λ l. l.operand) ls)) ≡ declarator_nodes ls
unfolding declarator_nodes
declarators_behind [] = refl
declarators_behind (l ∷ ls) = sum_by-cons declarator_weight (trees.declarator l.operand) (map trees.declarator (map (λ l. l.operand) ls)) ∙ ap (λ n. declarator_weight (trees.declarator l.operand) + n) (declarators_behind ls)

pub declarator_chain : (c : Chain Declarator) → sum_by (λ d. modifiers_weight d.modifiers) (map trees.declarator (operands c)) ≡ modifiers_weight (trees.declarator c.first).modifiers + declarator_nodes c.rest
unfolding operands
declarator_chain c = sum_by-cons declarator_weight (trees.declarator c.first) (map trees.declarator (map (λ l. l.operand) c.rest)) ∙ ap (λ n. declarator_weight (trees.declarator c.first) + n) (declarators_behind c.rest)

abbrev members_weight : syntax.Members → ℕ
members_weight m = sum_by (λ d. modifiers_weight d.modifiers) m.declarators

pub members_first : (ms : List Member) → sum_by (λ m. sum_by (λ d. modifiers_weight d.modifiers) m.declarators) (map trees.members ms) ≡ member_nodes ms
unfolding member_nodes
members_first [] = refl
members_first (m ∷ ms) = sum_by-cons members_weight (trees.members m) (map trees.members ms) ∙ ap (λ n. members_weight (trees.members m) + n) (members_first ms)

pub items_first : (xs : List Item) → weight (map trees.item xs) ≡ item_nodes xs
unfolding item_nodes
items_first [] = refl
items_first (x ∷ xs) = sum_by-cons item_weight (trees.item x) (map trees.item xs) ∙ ap (λ n. item_weight (trees.item x) + n) (items_first xs)

pub no_member : (ms : List Member) (i : ℕ) → length ms ≤ i → member_nodes (drop i ms) ≡ 0
unfolding member_nodes
no_member ms i past = ap member_nodes (drop_all i ms past)

pub no_item : (xs : List Item) (i : ℕ) → length xs ≤ i → item_nodes (drop i xs) ≡ 0
unfolding item_nodes
no_item xs i past = ap item_nodes (drop_all i xs past)

pub program_items : (t : ProgramTree) → weight (trees.program t) ≡ item_nodes t.items
unfolding trees.program
program_items t = items_first t.items
