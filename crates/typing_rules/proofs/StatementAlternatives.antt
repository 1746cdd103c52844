-- What each alternative of a statement says, as one equation each.
use Rattle.std.proofs.Common.{◌≡◌, Option, sym, ap, map, ◌∙◌}
use Rattle.std.specs.Prelude.{option_map}
use Rattle.c_words.specs.declared.word.Leaf.{Leaf}
use Rattle.c_grammar.specs.declared.expression.Assign.{Assign}
use Rattle.c_grammar.specs.declared.statement.Local.{Local}
use Rattle.c_grammar.specs.declared.statement.ForFirst.{ForFirst}
use Rattle.c_grammar.specs.declared.statement.Stmt.{Stmt, fold-roll-Stmt}
use Rattle.c_grammar.specs.declared.statement.Stmt.TheVariants as s
use Rattle.c_grammar.specs.declared.statement.BlockPart.{fold-roll-BlockPart}
use Rattle.c_grammar.specs.declared.statement.BlockPart.TheVariants as p
use Rattle.c_grammar.specs.declared.statement.Block.{Block, fold-roll-Block, out-Block, roll-out-Block}
use Rattle.typing_rules.specs.Syntax as syntax
use Rattle.typing_rules.specs.TreesOfExpressions.{assign}
use Rattle.typing_rules.specs.TreesOfDeclarations.{local, for_first, in_order, stmt_step, block_part_step, block_step, stmt, block_part, block}

pub stmt-Empty : (t : Leaf) → stmt (s.Empty t) ≡ syntax.Nothing
unfolding stmt stmt_step
stmt-Empty t = ap stmt (sym (s.rolls-Empty t)) ∙ fold-roll-Stmt _ _ _ block_part_step stmt_step block_step _

pub stmt-Expression : (x : Assign) (t : Leaf) → stmt (s.Expression x t) ≡ syntax.Evaluate (assign x)
unfolding stmt stmt_step
stmt-Expression x t = ap stmt (sym (s.rolls-Expression x t)) ∙ fold-roll-Stmt _ _ _ block_part_step stmt_step block_step _

pub stmt-Block : (x : Block) → stmt (s.Block x) ≡ syntax.Block (block x)
unfolding stmt stmt_step block
stmt-Block x = ap stmt (sym (s.rolls-Block x)) ∙ fold-roll-Stmt _ _ _ block_part_step stmt_step block_step _

pub stmt-If : (t : Leaf) (o : Leaf) (x : Assign) (c : Leaf) (a : Stmt) → stmt (s.If t o x c a) ≡ syntax.If (assign x) (stmt a)
unfolding stmt stmt_step
stmt-If t o x c a = ap stmt (sym (s.rolls-If t o x c a)) ∙ fold-roll-Stmt _ _ _ block_part_step stmt_step block_step _

pub stmt-IfElse : (t : Leaf) (o : Leaf) (x : Assign) (c : Leaf) (a : Stmt) (e : Leaf) (b : Stmt) → stmt (s.IfElse t o x c a e b) ≡ syntax.IfElse (assign x) (stmt a) (stmt b)
unfolding stmt stmt_step
stmt-IfElse t o x c a e b = ap stmt (sym (s.rolls-IfElse t o x c a e b)) ∙ fold-roll-Stmt _ _ _ block_part_step stmt_step block_step _

pub stmt-While : (t : Leaf) (o : Leaf) (x : Assign) (c : Leaf) (a : Stmt) → stmt (s.While t o x c a) ≡ syntax.While (assign x) (stmt a)
unfolding stmt stmt_step
stmt-While t o x c a = ap stmt (sym (s.rolls-While t o x c a)) ∙ fold-roll-Stmt _ _ _ block_part_step stmt_step block_step _

pub stmt-Do : (t : Leaf) (a : Stmt) (w : Leaf) (o : Leaf) (x : Assign) (c : Leaf) (e : Leaf) → stmt (s.Do t a w o x c e) ≡ syntax.Do (stmt a) (assign x)
unfolding stmt stmt_step
stmt-Do t a w o x c e = ap stmt (sym (s.rolls-Do t a w o x c e)) ∙ fold-roll-Stmt _ _ _ block_part_step stmt_step block_step _

pub stmt-For : (t : Leaf) (o : Leaf) (f : ForFirst) (x : Option Assign) (e : Leaf) (y : Option Assign) (c : Leaf) (a : Stmt) → stmt (s.For t o f x e y c a) ≡ syntax.For (for_first f) (option_map assign x) (option_map assign y) (stmt a)
unfolding stmt stmt_step
stmt-For t o f x e y c a = ap stmt (sym (s.rolls-For t o f x e y c a)) ∙ fold-roll-Stmt _ _ _ block_part_step stmt_step block_step _

pub stmt-Break : (t : Leaf) (e : Leaf) → stmt (s.Break t e) ≡ syntax.Break t
unfolding stmt stmt_step
stmt-Break t e = ap stmt (sym (s.rolls-Break t e)) ∙ fold-roll-Stmt _ _ _ block_part_step stmt_step block_step _

pub stmt-Continue : (t : Leaf) (e : Leaf) → stmt (s.Continue t e) ≡ syntax.Continue t
unfolding stmt stmt_step
stmt-Continue t e = ap stmt (sym (s.rolls-Continue t e)) ∙ fold-roll-Stmt _ _ _ block_part_step stmt_step block_step _

pub stmt-Return : (t : Leaf) (x : Option Assign) (e : Leaf) → stmt (s.Return t x e) ≡ syntax.Return t (option_map assign x)
unfolding stmt stmt_step
stmt-Return t x e = ap stmt (sym (s.rolls-Return t x e)) ∙ fold-roll-Stmt _ _ _ block_part_step stmt_step block_step _

pub stmt-Ghost : (t : Leaf) → stmt (s.Ghost t) ≡ syntax.Ghost t
unfolding stmt stmt_step
stmt-Ghost t = ap stmt (sym (s.rolls-Ghost t)) ∙ fold-roll-Stmt _ _ _ block_part_step stmt_step block_step _

pub stmt-Assert : (t : Leaf) → stmt (s.Assert t) ≡ syntax.Assert t
unfolding stmt stmt_step
stmt-Assert t = ap stmt (sym (s.rolls-Assert t)) ∙ fold-roll-Stmt _ _ _ block_part_step stmt_step block_step _

pub block_part-Local : (x : Local) → block_part (p.Local x) ≡ syntax.Declare (local x)
unfolding block_part block_part_step
block_part-Local x = ap block_part (sym (p.rolls-Local x)) ∙ fold-roll-BlockPart _ _ _ block_part_step stmt_step block_step _

pub block_part-Stmt : (x : Stmt) → block_part (p.Stmt x) ≡ stmt x
unfolding block_part block_part_step stmt
block_part-Stmt x = ap block_part (sym (p.rolls-Stmt x)) ∙ fold-roll-BlockPart _ _ _ block_part_step stmt_step block_step _

pub block-is : (x : Block) → block x ≡ in_order (map block_part (out-Block x).parts)
unfolding block block_step block_part
block-is x = ap block (sym (roll-out-Block x)) ∙ fold-roll-Block _ _ _ block_part_step stmt_step block_step _

pub ruleset statements = (stmt-Empty, stmt-Expression, stmt-Block, stmt-If, stmt-IfElse, stmt-While, stmt-Do, stmt-For, stmt-Break, stmt-Continue, stmt-Return, stmt-Ghost, stmt-Assert, block_part-Local, block_part-Stmt, block-is)
