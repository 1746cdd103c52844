-- The weighted nodes and the `continue`s of the trees of statements.
use Rattle.std.proofs.Common.{◌≡◌, ℕ, zero, suc, ◌+◌, ◌-◌, ◌*◌, ◌<◌, List, [], ◌∷◌, map, drop, length, get_or, Option, Some, None, refl, sym, ap, ◌∙◌, arith}
use Rattle.std.proofs.Math.Seq.{drop-cons}
use Rattle.std.specs.Prelude.{option_map}
use Rattle.c_words.specs.declared.word.Leaf.{Leaf}
use Rattle.c_grammar.specs.declared.expression.Assign.{Assign}
use Rattle.c_grammar.specs.declared.statement.Stmt.{Stmt}
use Rattle.c_grammar.specs.declared.statement.Stmt.TheVariants as s
use Rattle.c_grammar.specs.declared.statement.Block.{Block, out-Block}
use Rattle.c_grammar.specs.declared.statement.BlockPart.{BlockPart}
use Rattle.c_grammar.specs.declared.statement.BlockPart.TheVariants as p
use Rattle.c_grammar.specs.declared.statement.Local.{Local}
use Rattle.c_grammar.specs.declared.statement.ForFirst.{ForFirst}
use Rattle.typing_rules.specs.Nodes.{nodes}
use Rattle.typing_rules.specs.Weights.{nodes_there, continues, all_continues, first_weight, declared_weight, statement_weight, statements_weight}
use Rattle.typing_rules.specs.TreesOfExpressions as expressions
use Rattle.typing_rules.specs.TreesOfDeclarations as trees
use Rattle.typing_rules.specs.TreesOfDeclarations.{in_order}
use Rattle.typing_rules.proofs.StatementAlternatives as alternative
use Rattle.typing_nodes.specs.Counts.{parts_continues, parts_weight}

pub continues-Empty : (e : Leaf) → continues (trees.stmt (s.Empty e)) ≡ 0
unfolding continues
continues-Empty e = ap continues (alternative.stmt-Empty e)

pub weight-Empty : (e : Leaf) → statement_weight (trees.stmt (s.Empty e)) ≡ 1
unfolding statement_weight
weight-Empty e = ap statement_weight (alternative.stmt-Empty e)

pub continues-Expression : (x : Assign) (e : Leaf) → continues (trees.stmt (s.Expression x e)) ≡ 0
unfolding continues
continues-Expression x e = ap continues (alternative.stmt-Expression x e)

pub weight-Expression : (x : Assign) (e : Leaf) → statement_weight (trees.stmt (s.Expression x e)) ≡ suc (nodes (expressions.assign x))
unfolding statement_weight
weight-Expression x e = ap statement_weight (alternative.stmt-Expression x e)

pub continues-Block : (x : Block) → continues (trees.stmt (s.Block x)) ≡ all_continues (trees.block x)
unfolding continues
continues-Block x = ap continues (alternative.stmt-Block x)

pub weight-Block : (x : Block) → statement_weight (trees.stmt (s.Block x)) ≡ suc (statements_weight (trees.block x))
unfolding statement_weight
weight-Block x = ap statement_weight (alternative.stmt-Block x)

pub continues-If : (t o : Leaf) (x : Assign) (c : Leaf) (a : Stmt) → continues (trees.stmt (s.If t o x c a)) ≡ continues (trees.stmt a)
unfolding continues
continues-If t o x c a = ap continues (alternative.stmt-If t o x c a)

pub weight-If : (t o : Leaf) (x : Assign) (c : Leaf) (a : Stmt) → statement_weight (trees.stmt (s.If t o x c a)) ≡ suc (nodes (expressions.assign x) + statement_weight (trees.stmt a))
unfolding statement_weight
weight-If t o x c a = ap statement_weight (alternative.stmt-If t o x c a)

pub continues-IfElse : (t o : Leaf) (x : Assign) (c : Leaf) (a : Stmt) (e : Leaf) (b : Stmt) → continues (trees.stmt (s.IfElse t o x c a e b)) ≡ continues (trees.stmt a) + continues (trees.stmt b)
unfolding continues
continues-IfElse t o x c a e b = ap continues (alternative.stmt-IfElse t o x c a e b)

pub weight-IfElse : (t o : Leaf) (x : Assign) (c : Leaf) (a : Stmt) (e : Leaf) (b : Stmt) → statement_weight (trees.stmt (s.IfElse t o x c a e b)) ≡ suc (nodes (expressions.assign x) + (statement_weight (trees.stmt a) + statement_weight (trees.stmt b)))
unfolding statement_weight
weight-IfElse t o x c a e b = ap statement_weight (alternative.stmt-IfElse t o x c a e b)

pub continues-While : (t o : Leaf) (x : Assign) (c : Leaf) (a : Stmt) → continues (trees.stmt (s.While t o x c a)) ≡ 0
unfolding continues
continues-While t o x c a = ap continues (alternative.stmt-While t o x c a)

pub weight-While : (t o : Leaf) (x : Assign) (c : Leaf) (a : Stmt) → statement_weight (trees.stmt (s.While t o x c a)) ≡ suc (nodes (expressions.assign x) + statement_weight (trees.stmt a))
unfolding statement_weight
weight-While t o x c a = ap statement_weight (alternative.stmt-While t o x c a)

pub continues-Do : (t : Leaf) (a : Stmt) (w o : Leaf) (x : Assign) (c e : Leaf) → continues (trees.stmt (s.Do t a w o x c e)) ≡ 0
unfolding continues
continues-Do t a w o x c e = ap continues (alternative.stmt-Do t a w o x c e)

pub weight-Do : (t : Leaf) (a : Stmt) (w o : Leaf) (x : Assign) (c e : Leaf) → statement_weight (trees.stmt (s.Do t a w o x c e)) ≡ suc (statement_weight (trees.stmt a) + nodes (expressions.assign x) * suc (continues (trees.stmt a)))
unfolding statement_weight
weight-Do t a w o x c e = ap statement_weight (alternative.stmt-Do t a w o x c e)

pub continues-For : (t o : Leaf) (f : ForFirst) (x : Option Assign) (e : Leaf) (y : Option Assign) (c : Leaf) (a : Stmt) → continues (trees.stmt (s.For t o f x e y c a)) ≡ 0
unfolding continues
continues-For t o f x e y c a = ap continues (alternative.stmt-For t o f x e y c a)

pub weight-For : (t o : Leaf) (f : ForFirst) (x : Option Assign) (e : Leaf) (y : Option Assign) (c : Leaf) (a : Stmt) → statement_weight (trees.stmt (s.For t o f x e y c a)) ≡ suc (first_weight (trees.for_first f) + (nodes_there (option_map expressions.assign x) + (nodes_there (option_map expressions.assign y) * suc (continues (trees.stmt a)) + statement_weight (trees.stmt a))))
unfolding statement_weight
weight-For t o f x e y c a = ap statement_weight (alternative.stmt-For t o f x e y c a)

pub continues-Break : (t e : Leaf) → continues (trees.stmt (s.Break t e)) ≡ 0
unfolding continues
continues-Break t e = ap continues (alternative.stmt-Break t e)

pub weight-Break : (t e : Leaf) → statement_weight (trees.stmt (s.Break t e)) ≡ 1
unfolding statement_weight
weight-Break t e = ap statement_weight (alternative.stmt-Break t e)

pub continues-Continue : (t e : Leaf) → continues (trees.stmt (s.Continue t e)) ≡ 1
unfolding continues
continues-Continue t e = ap continues (alternative.stmt-Continue t e)

pub weight-Continue : (t e : Leaf) → statement_weight (trees.stmt (s.Continue t e)) ≡ 1
unfolding statement_weight
weight-Continue t e = ap statement_weight (alternative.stmt-Continue t e)

pub continues-Return : (t : Leaf) (x : Option Assign) (e : Leaf) → continues (trees.stmt (s.Return t x e)) ≡ 0
unfolding continues
continues-Return t x e = ap continues (alternative.stmt-Return t x e)

pub weight-Return : (t : Leaf) (x : Option Assign) (e : Leaf) → statement_weight (trees.stmt (s.Return t x e)) ≡ suc (nodes_there (option_map expressions.assign x))
unfolding statement_weight
weight-Return t x e = ap statement_weight (alternative.stmt-Return t x e)

pub continues-Ghost : (t : Leaf) → continues (trees.stmt (s.Ghost t)) ≡ 0
unfolding continues
continues-Ghost t = ap continues (alternative.stmt-Ghost t)

pub weight-Ghost : (t : Leaf) → statement_weight (trees.stmt (s.Ghost t)) ≡ 1
unfolding statement_weight
weight-Ghost t = ap statement_weight (alternative.stmt-Ghost t)

pub continues-Assert : (t : Leaf) → continues (trees.stmt (s.Assert t)) ≡ 0
unfolding continues
continues-Assert t = ap continues (alternative.stmt-Assert t)

pub weight-Assert : (t : Leaf) → statement_weight (trees.stmt (s.Assert t)) ≡ 1
unfolding statement_weight
weight-Assert t = ap statement_weight (alternative.stmt-Assert t)

pub continues-Local : (x : Local) → continues (trees.block_part (p.Local x)) ≡ 0
unfolding continues
continues-Local x = ap continues (alternative.block_part-Local x)

pub continues-Stmt : (x : Stmt) → continues (trees.block_part (p.Stmt x)) ≡ continues (trees.stmt x)
continues-Stmt x = ap continues (alternative.block_part-Stmt x)

pub weight-Local : (x : Local) → statement_weight (trees.block_part (p.Local x)) ≡ declared_weight (trees.local x).declared
unfolding statement_weight
weight-Local x = ap statement_weight (alternative.block_part-Local x)

pub weight-Stmt : (x : Stmt) → statement_weight (trees.block_part (p.Stmt x)) ≡ statement_weight (trees.stmt x)
weight-Stmt x = ap statement_weight (alternative.block_part-Stmt x)

parts_in_order : (xs : List BlockPart) → all_continues (in_order (map trees.block_part xs)) ≡ parts_continues xs
unfolding continues in_order parts_continues
parts_in_order [] = refl
parts_in_order (x ∷ xs) = ap (λ n. continues (trees.block_part x) + n) (parts_in_order xs)

weights_in_order : (xs : List BlockPart) → statements_weight (in_order (map trees.block_part xs)) ≡ parts_weight xs
unfolding statement_weight in_order parts_weight
weights_in_order [] = refl
weights_in_order (x ∷ xs) = ap (λ n. statement_weight (trees.block_part x) + n) (weights_in_order xs)

pub block_continues : (x : Block) → all_continues (trees.block x) ≡ parts_continues (out-Block x).parts
block_continues x = ap all_continues (alternative.block-is x) ∙ parts_in_order (out-Block x).parts

pub block_weight : (x : Block) → statements_weight (trees.block x) ≡ parts_weight (out-Block x).parts
block_weight x = ap statements_weight (alternative.block-is x) ∙ weights_in_order (out-Block x).parts

-- ---- products

pub once_more : (n c : ℕ) → n * suc c ≡ n + c * n
once_more n c = grind arith

pub ruleset continues_of = (continues-Empty, continues-Expression, continues-Block, continues-If, continues-IfElse, continues-While, continues-Do, continues-For, continues-Break, continues-Continue, continues-Return, continues-Ghost, continues-Assert, continues-Local, continues-Stmt)

pub ruleset weights_of = (weight-Empty, weight-Expression, weight-Block, weight-If, weight-IfElse, weight-While, weight-Do, weight-For, weight-Break, weight-Continue, weight-Return, weight-Ghost, weight-Assert, weight-Local, weight-Stmt)

-- the part at hand and those behind it
pub next_part : (ps : List BlockPart) (i : ℕ) (x : BlockPart) → i < length ps → x ≡ get_or ps i x → parts_continues (drop i ps) ≡ continues (trees.block_part x) + parts_continues (drop (i + 1) ps)
unfolding parts_continues
next_part ps i x below is =
    let next : suc i ≡ i + 1 = omega arith in
    ap parts_continues (drop-cons ps i x below ∙ ap (λ y. y ∷ drop (suc i) ps) (sym is)) ∙ ap (λ k. continues (trees.block_part x) + parts_continues (drop k ps)) next

spread : (c r n : ℕ) → (c + r) * n ≡ c * n + r * n
spread c r n = grind arith

pub taken_apart : (l c r n : ℕ) → l - (c + r) * n ≡ (l - c * n) - r * n
taken_apart l c r n = ap (λ k. l - k) (spread c r n) ∙ (apart l (c * n) (r * n))
  where
    apart : (l a b : ℕ) → l - (a + b) ≡ (l - a) - b
    apart l a b = omega arith
