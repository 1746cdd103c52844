-- What it is for expressions to be read exactly, and for leaves to spell one expression at most.
use Rattle.std.specs.Prelude.{◌≡◌, ◌↔◌, ℕ, true, List, [], Some}
use Rattle.c_words.specs.declared.word.Leaf.{Leaf}
use Rattle.c_grammar.specs.declared.expression.Assign.{Assign}
use Rattle.c_words.specs.Written.{Takes}
use Rattle.c_grammar.specs.Expressions.{assign}
use Rattle.c_expressions.specs.ExpressionReading.{inner_at}

-- reading gives a tree, and leaves nothing, exactly where the tree is levelled, nests below k and writes the leaves
abbrev pub ReadsExpressions : Type 0
ReadsExpressions = (k : ℕ) (ls : List Leaf) (a : Assign) → ((inner_at k).assign ls ≡ Some (a, [])) ↔ Takes k ls (assign a) []

-- levelled expressions that write the same leaves are equal, however deep they nest
abbrev pub HaveOneExpression : Type 0
HaveOneExpression = (a b : Assign) → (assign a).levelled ≡ true → (assign b).levelled ≡ true → (assign a).leaves ≡ (assign b).leaves → a ≡ b
