-- What each alternative of a statement and of a block writes, as one equation each, and cases on a tree.
use Rattle.std.proofs.Common.{◌≡◌, Bool, true, false, not, List, Option, refl, sym, ap, subst, ◌∙◌}
use Rattle.c_words.specs.declared.word.Word.{Word}
use Rattle.c_words.specs.declared.word.Word.TheVariants as w
use Rattle.c_words.specs.declared.word.Leaf.{Leaf}
use Rattle.c_grammar.specs.declared.expression.Assign.{Assign}
use Rattle.c_grammar.specs.declared.statement.Local.{Local}
use Rattle.c_grammar.specs.declared.statement.ForFirst.{ForFirst}
use Rattle.c_grammar.specs.declared.statement.BlockPart.TheOpen.{BlockPart-F, Stmt-F}
use Rattle.c_grammar.specs.declared.statement.Stmt.{Stmt, fold-roll-Stmt, out-Stmt, roll-Stmt, roll-out-Stmt}
use Rattle.c_grammar.specs.declared.statement.Block.{Block, fold-roll-Block, out-Block, roll-Block, roll-out-Block}
use Rattle.c_grammar.specs.declared.statement.BlockPart.{BlockPart, fold-roll-BlockPart, out-BlockPart, roll-BlockPart, roll-out-BlockPart}
use Rattle.c_grammar.specs.declared.statement.Stmt.TheVariants as s
use Rattle.c_grammar.specs.declared.statement.BlockPart.TheVariants as b
use Rattle.c_words.specs.Written.{Written, ◌then◌, one, nested, only, optional, run}
use Rattle.c_grammar.specs.Expressions.{assign}
use Rattle.c_grammar.specs.Statements.{local, for_first, Shape, head, stmt_step, block_part_step, block_step, shape, block, block_part, stmt, is_dangling}
use Rattle.c_grammar.proofs.ExpressionShapes.{run-map}
use Rattle.c_statements.specs.declared.head.Head.{Head}
use Rattle.c_statements.specs.declared.head.Control.{Control}

-- ---- statements

abbrev pub shaped : Written → Bool → Shape
shaped a d = record { written = a; dangling = d }

pub shape-Empty : (t : Leaf) → shape (s.Empty t) ≡ shaped (one w.Semicolon t) false
unfolding shape stmt_step
shape-Empty t = ap shape (sym (s.rolls-Empty t)) ∙ fold-roll-Stmt _ _ _ block_part_step stmt_step block_step (Stmt-F.Empty t)

pub shape-Expression : (e : Assign) (t : Leaf) → shape (s.Expression e t) ≡ shaped (assign e then one w.Semicolon t) false
unfolding shape stmt_step
shape-Expression e t = ap shape (sym (s.rolls-Expression e t)) ∙ fold-roll-Stmt _ _ _ block_part_step stmt_step block_step (Stmt-F.Expression e t)

pub shape-Block : (x : Block) → shape (s.Block x) ≡ shaped (block x) false
unfolding shape block stmt_step
shape-Block x = ap shape (sym (s.rolls-Block x)) ∙ fold-roll-Stmt _ _ _ block_part_step stmt_step block_step (Stmt-F.Block x)

pub shape-If : (i o : Leaf) (t : Assign) (c : Leaf) (body : Stmt) → shape (s.If i o t c body) ≡ shaped (head w.If i o (assign t) c then nested (stmt body)) true
unfolding shape stmt_step
shape-If i o t c body = ap shape (sym (s.rolls-If i o t c body)) ∙ fold-roll-Stmt _ _ _ block_part_step stmt_step block_step (Stmt-F.If i o t c body)

pub shape-IfElse : (i o : Leaf) (t : Assign) (c : Leaf) (body : Stmt) (e : Leaf) (rest : Stmt) → shape (s.IfElse i o t c body e rest)
    ≡ shaped (head w.If i o (assign t) c then nested (stmt body) then only (not (is_dangling body)) then one w.Else e then nested (stmt rest)) (is_dangling rest)
unfolding shape stmt_step
shape-IfElse i o t c body e rest =
    ap shape (sym (s.rolls-IfElse i o t c body e rest)) ∙ fold-roll-Stmt _ _ _ block_part_step stmt_step block_step (Stmt-F.IfElse i o t c body e rest)

pub shape-While : (i o : Leaf) (t : Assign) (c : Leaf) (body : Stmt) → shape (s.While i o t c body) ≡ shaped (head w.While i o (assign t) c then nested (stmt body)) (is_dangling body)
unfolding shape stmt_step
shape-While i o t c body = ap shape (sym (s.rolls-While i o t c body)) ∙ fold-roll-Stmt _ _ _ block_part_step stmt_step block_step (Stmt-F.While i o t c body)

pub shape-Do : (d : Leaf) (body : Stmt) (i o : Leaf) (t : Assign) (c z : Leaf) → shape (s.Do d body i o t c z)
    ≡ shaped (one w.Do d then nested (stmt body) then head w.While i o (assign t) c then one w.Semicolon z) false
unfolding shape stmt_step
shape-Do d body i o t c z = ap shape (sym (s.rolls-Do d body i o t c z)) ∙ fold-roll-Stmt _ _ _ block_part_step stmt_step block_step (Stmt-F.Do d body i o t c z)

-- what stands in the parentheses of a `for`
abbrev pub for_parts : ForFirst → Option Assign → Leaf → Option Assign → Written
for_parts start test z step = for_first start then optional assign test then one w.Semicolon z then optional assign step

pub shape-For : (i o : Leaf) (start : ForFirst) (test : Option Assign) (z : Leaf) (step : Option Assign) (c : Leaf) (body : Stmt) → shape (s.For i o start test z step c body)
    ≡ shaped (one w.For i then one w.LeftParen o then nested (for_parts start test z step) then one w.RightParen c then nested (stmt body)) (is_dangling body)
unfolding shape stmt_step
shape-For i o start test z step c body =
    ap shape (sym (s.rolls-For i o start test z step c body)) ∙ fold-roll-Stmt _ _ _ block_part_step stmt_step block_step (Stmt-F.For i o start test z step c body)

abbrev pub head_of : Word → Head → Written
head_of word a = head word a.first a.opening (assign a.test) a.closing

abbrev pub control_of : Control → Written
control_of a = one w.For a.first then one w.LeftParen a.opening then nested (for_parts a.start a.test a.semicolon a.step) then one w.RightParen a.closing

pub shape-Break : (i t : Leaf) → shape (s.Break i t) ≡ shaped (one w.Break i then one w.Semicolon t) false
unfolding shape stmt_step
shape-Break i t = ap shape (sym (s.rolls-Break i t)) ∙ fold-roll-Stmt _ _ _ block_part_step stmt_step block_step (Stmt-F.Break i t)

pub shape-Continue : (i t : Leaf) → shape (s.Continue i t) ≡ shaped (one w.Continue i then one w.Semicolon t) false
unfolding shape stmt_step
shape-Continue i t = ap shape (sym (s.rolls-Continue i t)) ∙ fold-roll-Stmt _ _ _ block_part_step stmt_step block_step (Stmt-F.Continue i t)

pub shape-Return : (i : Leaf) (value : Option Assign) (t : Leaf) → shape (s.Return i value t) ≡ shaped (one w.Return i then optional assign value then one w.Semicolon t) false
unfolding shape stmt_step
shape-Return i value t = ap shape (sym (s.rolls-Return i value t)) ∙ fold-roll-Stmt _ _ _ block_part_step stmt_step block_step (Stmt-F.Return i value t)

pub shape-Ghost : (t : Leaf) → shape (s.Ghost t) ≡ shaped (one w.Ghost t) false
unfolding shape stmt_step
shape-Ghost t = ap shape (sym (s.rolls-Ghost t)) ∙ fold-roll-Stmt _ _ _ block_part_step stmt_step block_step (Stmt-F.Ghost t)

pub shape-Assert : (t : Leaf) → shape (s.Assert t) ≡ shaped (one w.Assert t) false
unfolding shape stmt_step
shape-Assert t = ap shape (sym (s.rolls-Assert t)) ∙ fold-roll-Stmt _ _ _ block_part_step stmt_step block_step (Stmt-F.Assert t)

-- ---- blocks

pub block_part-Local : (x : Local) → block_part (b.Local x) ≡ local x
unfolding block_part block_part_step
block_part-Local x = ap block_part (sym (b.rolls-Local x)) ∙ fold-roll-BlockPart _ _ _ block_part_step stmt_step block_step (BlockPart-F.Local x)

pub block_part-Stmt : (x : Stmt) → block_part (b.Stmt x) ≡ stmt x
unfolding block_part shape block_part_step
block_part-Stmt x = ap block_part (sym (b.rolls-Stmt x)) ∙ fold-roll-BlockPart _ _ _ block_part_step stmt_step block_step (BlockPart-F.Stmt x)

abbrev pub nested_part : BlockPart → Written
nested_part p = nested (block_part p)

abbrev pub block_of : Leaf → List BlockPart → Leaf → Block
block_of o parts c = roll-Block (record { opening = o; parts = parts; closing = c })

pub block-is : (o : Leaf) (parts : List BlockPart) (c : Leaf) → block (block_of o parts c) ≡ one w.LeftBrace o then run nested_part parts then one w.RightBrace c
unfolding block block_part block_step
block-is o parts c = fold-roll-Block _ _ _ block_part_step stmt_step block_step (record { opening = o; parts = parts; closing = c })
    ∙ ap (λ m. one w.LeftBrace o then m then one w.RightBrace c) (run-map nested_part nested _ (λ a. refl) parts)

-- ---- cases

module _ (P : Stmt → Type 0) (empty : (t : Leaf) → P (s.Empty t)) (expression : (e : Assign) (t : Leaf) → P (s.Expression e t)) (of_block : (x : Block) → P (s.Block x))
    (of_if : (i o : Leaf) (t : Assign) (c : Leaf) (body : Stmt) → P (s.If i o t c body))
    (if_else : (i o : Leaf) (t : Assign) (c : Leaf) (body : Stmt) (e : Leaf) (rest : Stmt) → P (s.IfElse i o t c body e rest))
    (of_while : (i o : Leaf) (t : Assign) (c : Leaf) (body : Stmt) → P (s.While i o t c body))
    (of_do : (d : Leaf) (body : Stmt) (i o : Leaf) (t : Assign) (c z : Leaf) → P (s.Do d body i o t c z))
    (of_for : (i o : Leaf) (start : ForFirst) (test : Option Assign) (z : Leaf) (step : Option Assign) (c : Leaf) (body : Stmt) → P (s.For i o start test z step c body))
    (break : (i t : Leaf) → P (s.Break i t)) (continue : (i t : Leaf) → P (s.Continue i t)) (return : (i : Leaf) (value : Option Assign) (t : Leaf) → P (s.Return i value t))
    (ghost_code : (t : Leaf) → P (s.Ghost t)) (assertion : (t : Leaf) → P (s.Assert t)) where
  stmt_of : (y : Stmt-F BlockPart Stmt Block) → P (roll-Stmt y)
  stmt_of (Stmt-F.Empty t) = subst P (sym (s.rolls-Empty t)) (empty t)
  stmt_of (Stmt-F.Expression e t) = subst P (sym (s.rolls-Expression e t)) (expression e t)
  stmt_of (Stmt-F.Block x) = subst P (sym (s.rolls-Block x)) (of_block x)
  stmt_of (Stmt-F.If i o t c body) = subst P (sym (s.rolls-If i o t c body)) (of_if i o t c body)
  stmt_of (Stmt-F.IfElse i o t c body e rest) = subst P (sym (s.rolls-IfElse i o t c body e rest)) (if_else i o t c body e rest)
  stmt_of (Stmt-F.While i o t c body) = subst P (sym (s.rolls-While i o t c body)) (of_while i o t c body)
  stmt_of (Stmt-F.Do d body i o t c z) = subst P (sym (s.rolls-Do d body i o t c z)) (of_do d body i o t c z)
  stmt_of (Stmt-F.For i o start test z step c body) = subst P (sym (s.rolls-For i o start test z step c body)) (of_for i o start test z step c body)
  stmt_of (Stmt-F.Break i t) = subst P (sym (s.rolls-Break i t)) (break i t)
  stmt_of (Stmt-F.Continue i t) = subst P (sym (s.rolls-Continue i t)) (continue i t)
  stmt_of (Stmt-F.Return i value t) = subst P (sym (s.rolls-Return i value t)) (return i value t)
  stmt_of (Stmt-F.Ghost t) = subst P (sym (s.rolls-Ghost t)) (ghost_code t)
  stmt_of (Stmt-F.Assert t) = subst P (sym (s.rolls-Assert t)) (assertion t)

  pub stmt_cases : (x : Stmt) → P x
  stmt_cases x = subst P (roll-out-Stmt x) (stmt_of (out-Stmt x))

pub block_cases : (P : Block → Type 0) → ((o : Leaf) (parts : List BlockPart) (c : Leaf) → P (block_of o parts c)) → (x : Block) → P x
block_cases P f x = subst P (roll-out-Block x) (f (out-Block x).opening (out-Block x).parts (out-Block x).closing)

pub block_part_cases : (P : BlockPart → Type 0) → ((x : Local) → P (b.Local x)) → ((x : Stmt) → P (b.Stmt x)) → (x : BlockPart) → P x
block_part_cases P f1 f2 x = subst P (roll-out-BlockPart x) (of (out-BlockPart x))
  where
    of : (y : BlockPart-F BlockPart Stmt Block) → P (roll-BlockPart y)
    of (BlockPart-F.Local y) = subst P (sym (b.rolls-Local y)) (f1 y)
    of (BlockPart-F.Stmt y) = subst P (sym (b.rolls-Stmt y)) (f2 y)
