-- Parts of blocks, and loops, step by step.
use Rattle.std.specs.Prelude.{Bool, true, List, [], ◌∷◌, ◌++◌, Option, Some, None, Ok}
use Rattle.c_grammar.specs.declared.statement.BlockPart.{BlockPart}
use Rattle.c_grammar.specs.declared.statement.BlockPart.TheVariants as p
use Rattle.c_grammar.specs.declared.statement.ForFirst.{ForFirst}
use Rattle.c_grammar.specs.declared.statement.ForFirst.TheVariants as f
use Rattle.step_meaning.specs.declared.value.CType.{CType}
use Rattle.step_meaning.specs.declared.expr.Expr.{Expr}
use Rattle.step_meaning.specs.declared.stmt.Stmt.{Stmt}
use Rattle.step_meaning.specs.declared.stmt.Stmt.TheVariants as core
use Rattle.typing_rules.specs.Checked.{Checked, ◌>>=◌}
use Rattle.typing_rules.specs.Environment.{Environment}
use Rattle.typing_rules.specs.Syntax.{Expression, Statement}
use Rattle.typing_rules.specs.TreesOfExpressions as expressions
use Rattle.typing_rules.specs.TreesOfDeclarations as trees
use Rattle.typing_rules.specs.Statements as rules
use Rattle.typing_rules.specs.Statements.{Frame, opened, closed}
use Rattle.typing_statements.specs.Making.{alone}

module _ (g : Environment) (r : CType) where
  -- what a part of a block makes: of a declaration several statements
  unfoldable pub part_made : Bool → BlockPart → Frame → Checked (List Stmt × Frame)
  part_made loop (p.Local l) f = rules.declare g r (trees.local l) f
  part_made loop (p.Stmt s) f = alone (rules.statement g r loop (trees.stmt s) f)

  -- a `for` without its first part
  unfoldable pub for_rest : Option Expression → Option Expression → Statement → Frame → Checked (Stmt × Frame)
  for_rest x step s f =
      rules.where_present g r (rules.test g r) x f >>= (λ a. rules.where_present g r (rules.value g r) step a.1 >>= (λ b. rules.statement g r true s b.1 >>= (λ c. Ok (core.For a.0 b.0 c.0, c.1))))

  -- as one statement
  abbrev pub with_rest : List Stmt → Checked (Stmt × Frame) → Checked (Stmt × Frame)
  with_rest before outcome = outcome >>= (λ a. Ok (core.Block (before ++ (a.0 ∷ [])), a.1))

  unfoldable pub for_value : Expression → Option Expression → Option Expression → Statement → Frame → Checked (Stmt × Frame)
  for_value e x step s f = rules.value g r e f >>= (λ v. with_rest (core.Eval v.0 ∷ []) (for_rest x step s v.1))

  unfoldable pub for_made : ForFirst → Option Expression → Option Expression → Statement → Frame → Checked (Stmt × Frame)
  for_made (f.Local l) x step s f = rules.declare g r (trees.local l) (opened f) >>= (λ b. with_rest b.0 (for_rest x step s b.1)) >>= (λ a. Ok (a.0, closed a.1))
  for_made (f.Expression None t) x step s f = for_rest x step s f
  for_made (f.Expression (Some e) t) x step s f = for_value (expressions.assign e) x step s f
