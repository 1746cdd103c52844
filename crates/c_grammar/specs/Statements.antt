-- The grammar of statements (C11 6.8): what each tree writes.
use Rattle.std.specs.Prelude.{ℕ, Bool, true, false, not, List, [], ◌∷◌, Option, Some, None}
use Rattle.c_words.specs.declared.word.Word.{Word}
use Rattle.c_words.specs.declared.word.Word.TheVariants as w
use Rattle.c_words.specs.declared.word.Leaf.{Leaf}
use Rattle.c_grammar.specs.declared.statement.Local.{Local}
use Rattle.c_grammar.specs.declared.statement.Local.TheVariants as l
use Rattle.c_grammar.specs.declared.statement.ForFirst.{ForFirst}
use Rattle.c_grammar.specs.declared.statement.ForFirst.TheVariants as f
use Rattle.c_grammar.specs.declared.statement.Stmt.{Stmt, fold-Stmt}
use Rattle.c_grammar.specs.declared.statement.BlockPart.TheOpen.{Block-F, BlockPart-F, Stmt-F}
use Rattle.c_grammar.specs.declared.statement.Block.{Block, fold-Block}
use Rattle.c_grammar.specs.declared.statement.BlockPart.{BlockPart, fold-BlockPart}
use Rattle.c_words.specs.Written.{Written, nothing, ◌then◌, one, nested, only, optional, run}
use Rattle.c_grammar.specs.Types.{base, consts}
use Rattle.c_grammar.specs.Expressions.{assign}
use Rattle.c_grammar.specs.Declarations.{all_declared}

unfoldable pub local : Local → Written
local (l.Variables cs x names semicolon) = consts cs then base x then all_declared names then one w.Semicolon semicolon
local (l.Registers register x names semicolon) = one w.Register register then base x then all_declared names then one w.Semicolon semicolon

unfoldable pub for_first : ForFirst → Written
for_first (f.Local a) = local a
for_first (f.Expression a semicolon) = optional assign a then one w.Semicolon semicolon

-- what a statement writes, and whether it ends in an `if` without `else`
pub record Shape : Type 0 where
  pub written : Written
  pub dangling : Bool

-- a statement that can't take an `else`
abbrev closed : Written → Shape
closed a = record { written = a; dangling = false }

-- a word, and a condition in parentheses
unfoldable pub head : Word → Leaf → Leaf → Written → Leaf → Written
head word first opening test closing = one word first then one w.LeftParen opening then nested test then one w.RightParen closing

unfoldable pub stmt_step : Stmt-F Written Shape Written → Shape
stmt_step (Stmt-F.Empty semicolon) = closed (one w.Semicolon semicolon)
stmt_step (Stmt-F.Expression value semicolon) = closed (assign value then one w.Semicolon semicolon)
stmt_step (Stmt-F.Block a) = closed a
stmt_step (Stmt-F.If first opening test closing body) = record {
  written = head w.If first opening (assign test) closing then nested body.written;
  dangling = true;
}
stmt_step (Stmt-F.IfElse first opening test closing body other rest) = record {
  written = head w.If first opening (assign test) closing then nested body.written then only (not body.dangling) then one w.Else other then nested rest.written;
  dangling = rest.dangling;
}
stmt_step (Stmt-F.While first opening test closing body) = record {
  written = head w.While first opening (assign test) closing then nested body.written;
  dangling = body.dangling;
}
stmt_step (Stmt-F.Do first body word opening test closing semicolon) =
    closed (one w.Do first then nested body.written then head w.While word opening (assign test) closing then one w.Semicolon semicolon)
stmt_step (Stmt-F.For first opening start test semicolon step closing body) = record {
  written = one w.For first then one w.LeftParen opening
      then nested (for_first start then optional assign test then one w.Semicolon semicolon then optional assign step)
      then one w.RightParen closing then nested body.written;
  dangling = body.dangling;
}
stmt_step (Stmt-F.Break first semicolon) = closed (one w.Break first then one w.Semicolon semicolon)
stmt_step (Stmt-F.Continue first semicolon) = closed (one w.Continue first then one w.Semicolon semicolon)
stmt_step (Stmt-F.Return first value semicolon) = closed (one w.Return first then optional assign value then one w.Semicolon semicolon)
stmt_step (Stmt-F.Ghost annotation) = closed (one w.Ghost annotation)
stmt_step (Stmt-F.Assert annotation) = closed (one w.Assert annotation)

unfoldable pub block_part_step : BlockPart-F Written Shape Written → Written
block_part_step (BlockPart-F.Local a) = local a
block_part_step (BlockPart-F.Stmt a) = a.written

-- braces nest each part that stands in them
unfoldable pub block_step : Block-F Written Shape Written → Written
block_step a = one w.LeftBrace a.opening then run nested a.parts then one w.RightBrace a.closing

unfoldable pub shape : Stmt → Shape
shape = fold-Stmt Written Shape Written block_part_step stmt_step block_step

unfoldable pub block : Block → Written
block = fold-Block Written Shape Written block_part_step stmt_step block_step

unfoldable pub block_part : BlockPart → Written
block_part = fold-BlockPart Written Shape Written block_part_step stmt_step block_step

abbrev pub stmt : Stmt → Written
stmt a = (shape a).written

abbrev pub is_dangling : Stmt → Bool
is_dangling a = (shape a).dangling
