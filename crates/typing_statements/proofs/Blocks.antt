-- Blocks and loops, step by step.
use Rattle.std.proofs.Common.{◌≡◌, Bool, true, false, List, [], ◌∷◌, ◌++◌, map, Option, Some, None, Ok, Err, refl, sym, ap, subst, ◌∙◌}
use Rattle.std.specs.Option.{option_map}
use Rattle.c_words.specs.declared.word.Leaf.{Leaf}
use Rattle.c_grammar.specs.declared.expression.Assign.{Assign}
use Rattle.c_grammar.specs.declared.statement.Block.{Block, out-Block}
use Rattle.c_grammar.specs.declared.statement.BlockPart.{BlockPart}
use Rattle.c_grammar.specs.declared.statement.BlockPart.TheVariants as p
use Rattle.c_grammar.specs.declared.statement.ForFirst.{ForFirst}
use Rattle.c_grammar.specs.declared.statement.ForFirst.TheVariants as f
use Rattle.c_grammar.specs.declared.statement.Stmt.TheVariants as s
use Rattle.c_grammar.specs.declared.statement.BlockPart.TheOpen.{Stmt-F}
use Rattle.c_grammar.specs.declared.statement.Stmt.{Stmt as Tree, fold-roll-Stmt, out-Stmt, roll-out-Stmt}
use Rattle.step_meaning.specs.declared.value.CType.{CType}
use Rattle.step_meaning.specs.declared.expr.Expr.{Expr}
use Rattle.step_meaning.specs.declared.stmt.Stmt.{Stmt}
use Rattle.step_meaning.specs.declared.stmt.Stmt.TheVariants as core
use Rattle.typing_rules.specs.Checked.{Checked, ◌>>=◌}
use Rattle.typing_rules.specs.Environment.{Environment}
use Rattle.typing_rules.specs.Syntax as syntax
use Rattle.typing_rules.specs.Syntax.{Expression, Statement}
use Rattle.typing_rules.specs.TreesOfExpressions as expressions
use Rattle.typing_rules.specs.TreesOfDeclarations as trees
use Rattle.typing_rules.specs.TreesOfDeclarations.{block_part_step, stmt_step, block_step}
use Rattle.typing_rules.specs.Statements as rules
use Rattle.typing_rules.specs.Statements.{Frame, in_scope, opened, closed}
use Rattle.typing_rules.proofs.StatementAlternatives.{statements, stmt-For, block-is}
use Rattle.typing_statements.specs.Blocks.{part_made, for_rest, for_value, for_made, with_rest}
use Rattle.typing_statements.specs.Making.{behind, joined, alone}
use Rattle.typing_statements.proofs.Outcomes.{Made, alone_joined}

abbrev is_declaration : Statement → Bool
is_declaration (syntax.Declare l) = true
is_declaration _ = false

step_never : (o : Stmt-F Statement Statement syntax.Statements) → is_declaration (stmt_step o) ≡ false
unfolding stmt_step
step_never (Stmt-F.Empty t) = refl
step_never (Stmt-F.Expression x t) = refl
step_never (Stmt-F.Block x) = refl
step_never (Stmt-F.If t o x c a) = refl
step_never (Stmt-F.IfElse t o x c a e b) = refl
step_never (Stmt-F.While t o x c a) = refl
step_never (Stmt-F.Do t a w o x c e) = refl
step_never (Stmt-F.For t o i x e y c a) = refl
step_never (Stmt-F.Break t e) = refl
step_never (Stmt-F.Continue t e) = refl
step_never (Stmt-F.Return t x e) = refl
step_never (Stmt-F.Ghost t) = refl
step_never (Stmt-F.Assert t) = refl

-- a statement of a tree declares nothing
stmt_never : (x : Tree) → is_declaration (trees.stmt x) ≡ false
unfolding trees.stmt
stmt_never x = subst (λ y. is_declaration (trees.stmt y) ≡ false) (roll-out-Stmt x) (ap is_declaration (fold-roll-Stmt _ _ _ block_part_step stmt_step block_step (out-Stmt x)) ∙ step_never _)

module _ (g : Environment) (r : CType) where
  -- the parts of a block from this one on
  abbrev pub parts_made : Bool → List BlockPart → Frame → Made
  parts_made loop ps = rules.statements g r loop (trees.in_order (map trees.block_part ps))

  pub parts_end : (loop : Bool) (f : Frame) → parts_made loop [] f ≡ Ok ([], f)
  unfolding trees.in_order rules.statements
  parts_end loop f = refl

  next_statement : (loop : Bool) (s : Statement) (ss : syntax.Statements) (f : Frame) → is_declaration s ≡ false → rules.statements g r loop (syntax.Next s ss) f ≡ (rules.statement g r loop s f >>= (λ a. rules.statements g r loop ss a.1 >>= (λ q. Ok (a.0 ∷ q.0, q.1))))
  unfolding rules.statements
  next_statement loop syntax.Nothing ss f h = refl
  next_statement loop (syntax.Evaluate x) ss f h = refl
  next_statement loop (syntax.Block x) ss f h = refl
  next_statement loop (syntax.Declare l) ss f h = cc
  next_statement loop (syntax.If x s) ss f h = refl
  next_statement loop (syntax.IfElse x s e) ss f h = refl
  next_statement loop (syntax.While x s) ss f h = refl
  next_statement loop (syntax.Do s x) ss f h = refl
  next_statement loop (syntax.For i x step s) ss f h = refl
  next_statement loop (syntax.Break t) ss f h = refl
  next_statement loop (syntax.Continue t) ss f h = refl
  next_statement loop (syntax.Return t x) ss f h = refl
  next_statement loop (syntax.Ghost t) ss f h = refl
  next_statement loop (syntax.Assert t) ss f h = refl

  next_local : (loop : Bool) (l : syntax.Local) (ss : syntax.Statements) (f : Frame) → rules.statements g r loop (syntax.Next (syntax.Declare l) ss) f ≡ joined (rules.declare g r l f) (rules.statements g r loop ss)
  unfolding rules.statements joined behind
  next_local loop l ss f = refl

  pub parts_next : (loop : Bool) (x : BlockPart) (ps : List BlockPart) (f : Frame) → parts_made loop (x ∷ ps) f ≡ joined (part_made g r loop x f) (parts_made loop ps)
  unfolding trees.in_order part_made
  parts_next loop (p.Local l) ps f = simp statements (next_local loop (trees.local l) (trees.in_order (map trees.block_part ps)) f)
  parts_next loop (p.Stmt x) ps f = simp statements (next_statement loop (trees.stmt x) (trees.in_order (map trees.block_part ps)) f (stmt_never x) ∙ sym (alone_joined (rules.statement g r loop (trees.stmt x) f) (parts_made loop ps)))

-- ---- `for`

module _ (g : Environment) (r : CType) (x step : Option Expression) (s : Statement) where
  -- what comes after the first part, as one statement with it
  abbrev after_first : List Stmt → Frame → Checked (Stmt × Frame)
  after_first before f =
      rules.where_present g r (rules.test g r) x f >>= (λ a. rules.where_present g r (rules.value g r) step a.1 >>= (λ b. rules.statement g r true s b.1 >>= (λ c. Ok (core.Block (before ++ (core.For a.0 b.0 c.0 ∷ [])), c.1))))

  first_and_rest : (before : List Stmt) (f : Frame) → after_first before f ≡ with_rest g r before (for_rest g r x step s f)
  unfolding for_rest
  first_and_rest before f = tested (rules.where_present g r (rules.test g r) x f)
    where
      body : (a b : Option Expr) (m : Checked (Stmt × Frame)) → (m >>= (λ c. Ok (core.Block (before ++ (core.For a b c.0 ∷ [])), c.1))) ≡ with_rest g r before (m >>= (λ c. Ok (core.For a b c.0, c.1)))
      body a b (Ok c) = refl
      body a b (Err e) = refl

      stepped : (a : Option Expr) (m : Checked (Option Expr × Frame)) → (m >>= (λ b. rules.statement g r true s b.1 >>= (λ c. Ok (core.Block (before ++ (core.For a b.0 c.0 ∷ [])), c.1)))) ≡ with_rest g r before (m >>= (λ b. rules.statement g r true s b.1 >>= (λ c. Ok (core.For a b.0 c.0, c.1))))
      stepped a (Ok b) = body a b.0 (rules.statement g r true s b.1)
      stepped a (Err e) = refl

      tested : (m : Checked (Option Expr × Frame)) → (m >>= (λ a. rules.where_present g r (rules.value g r) step a.1 >>= (λ b. rules.statement g r true s b.1 >>= (λ c. Ok (core.Block (before ++ (core.For a.0 b.0 c.0 ∷ [])), c.1))))) ≡ with_rest g r before (m >>= (λ a. rules.where_present g r (rules.value g r) step a.1 >>= (λ b. rules.statement g r true s b.1 >>= (λ c. Ok (core.For a.0 b.0 c.0, c.1)))))
      tested (Ok a) = stepped a.0 (rules.where_present g r (rules.value g r) step a.1)
      tested (Err e) = refl

  abbrev evaluated : Expr × Frame → Made
  evaluated v = Ok (core.Eval v.0 ∷ [], v.1)

  value_first : (e : Expression) (f : Frame) → ((rules.value g r e f >>= evaluated) >>= (λ b. after_first b.0 b.1)) ≡ for_value g r e x step s f
  unfolding for_value
  value_first e f = by (rules.value g r e f)
    where
      by : (m : Checked (Expr × Frame)) → ((m >>= evaluated) >>= (λ b. after_first b.0 b.1)) ≡ (m >>= (λ v. with_rest g r (core.Eval v.0 ∷ []) (for_rest g r x step s v.1)))
      by (Ok v) = first_and_rest (core.Eval v.0 ∷ []) v.1
      by (Err e) = refl

  abbrev ended : Checked (Stmt × Frame) → Checked (Stmt × Frame)
  ended m = m >>= (λ a. Ok (a.0, closed a.1))

  local_first : (l : syntax.Local) (f : Frame) → ended (rules.declare g r l (opened f) >>= (λ b. after_first b.0 b.1)) ≡ ended (rules.declare g r l (opened f) >>= (λ b. with_rest g r b.0 (for_rest g r x step s b.1)))
  local_first l f = by (rules.declare g r l (opened f))
    where
      by : (m : Made) → ended (m >>= (λ b. after_first b.0 b.1)) ≡ ended (m >>= (λ b. with_rest g r b.0 (for_rest g r x step s b.1)))
      by (Ok b) = ap ended (first_and_rest b.0 b.1)
      by (Err e) = refl

  pub for_is : (loop : Bool) (first : ForFirst) (f : Frame) → rules.statement g r loop (syntax.For (trees.for_first first) x step s) f ≡ for_made g r first x step s f
  unfolding rules.statement in_scope trees.for_first for_made for_rest
  for_is loop (f.Local l) at = local_first (trees.local l) at
  for_is loop (f.Expression None t) at = refl
  for_is loop (f.Expression (Some e) t) at = value_first (expressions.assign e) at

module _ (g : Environment) (r : CType) (loop : Bool) (at : Frame) where
  pub for_of : (tree : Tree) (t o : Leaf) (first : ForFirst) (x : Option Assign) (e : Leaf) (y : Option Assign) (c : Leaf) (a b : Tree) → tree ≡ s.For t o first x e y c a → b ≡ a
      → rules.statement g r loop (trees.stmt tree) at ≡ for_made g r first (option_map expressions.assign x) (option_map expressions.assign y) (trees.stmt b) at
  for_of tree t o first x e y c a b h k =
      ap (λ z. rules.statement g r loop (trees.stmt z) at) h
      ∙ ap (λ z. rules.statement g r loop z at) (stmt-For t o first x e y c a)
      ∙ for_is g r (option_map expressions.assign x) (option_map expressions.assign y) (trees.stmt a) loop first at
      ∙ ap (λ z. for_made g r first (option_map expressions.assign x) (option_map expressions.assign y) (trees.stmt z) at) (sym k)

  pub parts_whole : (x : Block) → rules.statements g r loop (trees.block x) at ≡ parts_made g r loop (out-Block x).parts at
  parts_whole x = ap (λ ss. rules.statements g r loop ss at) (block-is x)
