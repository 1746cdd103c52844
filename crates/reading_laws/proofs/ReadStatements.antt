-- What a statement of a tree over a text says: it nests as little as its tree.
use Rattle.std.proofs.Common.{◌≡◌, ℕ, zero, suc, ◌+◌, ◌≤◌, max, Bool, not, List, [], ◌∷◌, map, Option, Some, None, refl, sym, ap, subst, ◌∙◌, arith}
use Rattle.std.specs.Option.{option_map}
use Rattle.c_words.specs.declared.word.Word.{Word}
use Rattle.c_words.specs.declared.word.Word.TheVariants as w
use Rattle.c_words.specs.declared.word.Leaf.{Leaf}
use Rattle.c_words.specs.Written.{Written, ◌then◌, one, nested, only, optional, run}
use Rattle.c_grammar.specs.declared.expression.Assign.{Assign}
use Rattle.c_grammar.specs.declared.statement.Local.{Local}
use Rattle.c_grammar.specs.declared.statement.Local.TheVariants as l
use Rattle.c_grammar.specs.declared.statement.ForFirst.{ForFirst}
use Rattle.c_grammar.specs.declared.statement.ForFirst.TheVariants as f
use Rattle.c_grammar.specs.declared.statement.Stmt.{Stmt}
use Rattle.c_grammar.specs.declared.statement.Block.{Block}
use Rattle.c_grammar.specs.declared.statement.BlockPart.{BlockPart}
use Rattle.c_grammar.specs.Types.{base, consts}
use Rattle.c_grammar.specs.Expressions as expressions
use Rattle.c_grammar.specs.Declarations.{all_declared}
use Rattle.c_grammar.specs.Statements as written
use Rattle.c_grammar.specs.Statements.{head}
use Rattle.c_statements.proofs.StatementShapes as shapes
use Rattle.c_statements.proofs.StatementShapes.{for_parts, nested_part, block_of}
use Rattle.step_meaning.specs.Sources.{in_branch}
use Rattle.typing_rules.specs.Syntax as syntax
use Rattle.typing_rules.specs.Syntax.{Expression, Statement, Nothing, Evaluate, Block as Blocks, Declare, If, IfElse, While, Do, For, Break, Continue, Return, Ghost, Assert, Statements, End, Next, NoFirst, FirstValue, FirstLocal}
use Rattle.typing_rules.specs.TreesOfExpressions as said
use Rattle.typing_rules.specs.TreesOfDeclarations as trees
use Rattle.typing_rules.specs.TreesOfDeclarations.{in_order}
use Rattle.typing_rules.proofs.StatementAlternatives as says
use Rattle.typing_laws.specs.ParsedSyntax.{IfThere, ExpressionParsed, LocalParsed, ForFirstParsed, StatementParsed, StatementsParsed}
use Rattle.typing_laws.specs.ShallowSyntax.{nest, turns, IsShallow, AllDeclaredShallow, declared_turns, ForFirstShallow, StatementShallow, StatementsShallow, if_there_turns, test_turns, with_first_turns, statement_turns, statements_turns}
use Rattle.reading_laws.proofs.ReadParts.{Reads, before, after, inner, deeper}
use Rattle.reading_laws.proofs.ReadExpressions.{four, Good, expressions_good}
use Rattle.reading_laws.proofs.ReadDeclarations.{carried, AllGoodDeclared, all_declared_good}

-- ---- numbers

-- what a statement that nests so deep comes to, in a loop whose turns end with so much
abbrev pub limit : ℕ → ℕ → ℕ
limit n last = max last (four n + 9) + (n + n + n)

-- what stands in a branch, one deeper
branch_limit : (m n last k : ℕ) → suc m ≤ n → k ≤ limit m last → in_branch k + 1 ≤ limit n last
branch_limit m n last k l h = omega arith

-- what stands in a loop of its own, one deeper
loop_limit : (m n last inside k : ℕ) → suc m ≤ n → inside ≤ four n + 1 → k ≤ limit m inside → in_branch k + 1 ≤ limit n last
loop_limit m n last inside k l i h = omega arith

low_limit : (n last k : ℕ) → k ≤ four n + 9 → k ≤ limit n last
low_limit n last k h = omega arith

-- ---- expressions where they may stand

pub record GoodThere (text : List ℕ) (n : ℕ) (x : Option Expression) : Type 0 where
  pub parsed : IfThere (ExpressionParsed text) x
  pub shallow : n ≤ 64 → IfThere IsShallow x
  pub turned : if_there_turns x ≤ four n + 5

pub record GoodLocal (text : List ℕ) (n : ℕ) (x : syntax.Local) : Type 0 where
  pub parsed : LocalParsed text x
  pub shallow : n ≤ 64 → AllDeclaredShallow x.declared
  pub turned : declared_turns x.declared ≤ four n + 5

record GoodFirst (text : List ℕ) (n : ℕ) (x : syntax.ForFirst) : Type 0 where
  parsed : ForFirstParsed text x
  shallow : n ≤ 64 → ForFirstShallow x
  turned : (k : ℕ) → with_first_turns x k ≤ suc (max (four n + 5) k)

within_limit : (a n : ℕ) → a ≤ n → n ≤ 64 → a ≤ 64
within_limit a n h k = omega arith

module _ (text : List ℕ) (n : ℕ) where
  shallow_good : (k : ℕ) (x : Expression) → Good text n k x → n ≤ 64 → IsShallow x
  shallow_good k x h l = within_limit (nest x) n h.nested l

  there_good : (x : Option Assign) → Reads text n (optional expressions.assign x) → GoodThere text n (option_map said.assign x)
  unfolding optional
  there_good None h = record { parsed = tt; shallow = λ l. tt; turned = omega arith }
  there_good (Some x) h =
      let k : Good text n 5 (said.assign x) = (expressions_good text n).assign x h in
      record { parsed = k.parsed; shallow = shallow_good 5 (said.assign x) k; turned = k.turned }

  local_good : (x : Local) → Reads text n (written.local x) → GoodLocal text n (trees.local x)
  unfolding written.local trees.local
  local_good (l.Variables cs x names semicolon) h =
      let k = all_declared_good text n names (before (all_declared names) _ (after (base x) _ (after (consts cs) _ h))) in
      record { parsed = k.parsed; shallow = k.shallow; turned = k.turned }
  local_good (l.Registers register x names semicolon) h =
      let k = all_declared_good text n names (before (all_declared names) _ (after (base x) _ (after (one w.Register register) _ h))) in
      record { parsed = k.parsed; shallow = k.shallow; turned = k.turned }

  first_good : (x : ForFirst) → Reads text n (written.for_first x) → GoodFirst text n (trees.for_first x)
  unfolding written.for_first trees.for_first optional
  first_good (f.Local x) h =
      let k = local_good x h in
      record { parsed = k.parsed; shallow = k.shallow; turned = λ j. let a : declared_turns (trees.local x).declared ≤ four n + 5 = k.turned in omega arith }
  first_good (f.Expression None semicolon) h = record { parsed = tt; shallow = λ l. tt; turned = λ j. omega arith }
  first_good (f.Expression (Some x) semicolon) h =
      let k : Good text n 5 (said.assign x) = (expressions_good text n).assign x (before (expressions.assign x) _ h) in
      record { parsed = k.parsed; shallow = shallow_good 5 (said.assign x) k; turned = λ j. let a : turns (said.assign x) ≤ four n + 5 = k.turned in omega arith }

-- ---- statements

pub record GoodStatement (text : List ℕ) (n : ℕ) (x : Statement) : Type 0 where
  pub parsed : StatementParsed text x
  pub shallow : n ≤ 64 → StatementShallow x
  pub turned : (last : ℕ) → statement_turns last x ≤ limit n last

pub record GoodBlock (text : List ℕ) (n : ℕ) (xs : Statements) : Type 0 where
  pub parsed : StatementsParsed text xs
  pub shallow : n ≤ 64 → StatementsShallow xs
  pub turned : (last : ℕ) → suc (statements_turns last xs) ≤ limit n last

record StatementsGood (text : List ℕ) (n : ℕ) : Type 0 where
  stmt : (x : Stmt) → Reads text n (written.stmt x) → GoodStatement text n (trees.stmt x)
  block : (x : Block) → Reads text n (written.block x) → GoodBlock text n (trees.block x)

next_turns : (last : ℕ) (x : Statement) (xs : Statements) → statements_turns last (Next x xs) ≤ max (statement_turns last x) (statements_turns last xs)
next_turns last Nothing xs = omega arith
next_turns last (Evaluate x) xs = omega arith
next_turns last (Blocks ss) xs = omega arith
next_turns last (Declare l) xs = omega arith
next_turns last (If x s) xs = omega arith
next_turns last (IfElse x s r) xs = omega arith
next_turns last (While x s) xs = omega arith
next_turns last (Do s x) xs = omega arith
next_turns last (For first x step s) xs = omega arith
next_turns last (Break t) xs = omega arith
next_turns last (Continue t) xs = omega arith
next_turns last (Return t x) xs = omega arith
next_turns last (Ghost t) xs = omega arith
next_turns last (Assert t) xs = omega arith

-- a test that stands one deeper, and what it comes to in a loop
record Tested (text : List ℕ) (n : ℕ) (x : Expression) : Type 0 where
  parsed : ExpressionParsed text x
  nested : suc (nest x) ≤ n
  turned : turns x ≤ four n + 1

module _ (text : List ℕ) (n : ℕ) where
  tested_below : (x : Expression) (m : ℕ) → suc m ≤ n → Good text m 5 x → Tested text n x
  tested_below x m l h = record {
    parsed = h.parsed;
    nested = let a : nest x ≤ m = h.nested in omega arith;
    turned = let a : turns x ≤ four m + 5 = h.turned in omega arith;
  }

  test_good : (x : Assign) → Reads text n (nested (expressions.assign x)) → Tested text n (said.assign x)
  test_good x h =
      let l : suc (expressions.assign x).nesting ≤ n = deeper (expressions.assign x) h in
      tested_below (said.assign x) (expressions.assign x).nesting l ((expressions_good text (expressions.assign x).nesting).assign x (inner (expressions.assign x) h))

  in_head : (word : Word) (i o : Leaf) (x : Assign) (c : Leaf) → Reads text n (head word i o (expressions.assign x) c) → Tested text n (said.assign x)
  unfolding head
  in_head word i o x c h = test_good x (before (nested (expressions.assign x)) _ (after (one w.LeftParen o) _ (after (one word i) _ h)))

  test_shallow : (x : Expression) → Tested text n x → n ≤ 64 → IsShallow x
  test_shallow x h l = let a : suc (nest x) ≤ n = h.nested in omega arith

  abbrev G : Statement → Type 0
  G x = GoodStatement text n x

  plain_good : (x : Statement) → StatementParsed text x → StatementShallow x → ((last : ℕ) → statement_turns last x ≤ max last 1) → G x
  plain_good x p s t = record { parsed = p; shallow = λ l. s; turned = λ last. let a : statement_turns last x ≤ max last 1 = t last in omega arith }

  evaluate_good : (x : Expression) → Good text n 5 x → G (Evaluate x)
  evaluate_good x h = record { parsed = h.parsed; shallow = shallow_good text n 5 x h; turned = λ last. low_limit n last (turns x) (let a : turns x ≤ four n + 5 = h.turned in omega arith) }

  return_good : (t : Leaf) (x : Option Expression) → GoodThere text n x → G (Return t x)
  return_good t x h = record { parsed = h.parsed; shallow = h.shallow; turned = λ last. low_limit n last (if_there_turns x) (let a : if_there_turns x ≤ four n + 5 = h.turned in omega arith) }

  block_good_of : (ss : Statements) → GoodBlock text n ss → G (Blocks ss)
  block_good_of ss h = record { parsed = h.parsed; shallow = h.shallow; turned = h.turned }

  declare_good : (x : syntax.Local) → GoodLocal text n x → G (Declare x)
  declare_good x h = record { parsed = h.parsed; shallow = h.shallow; turned = λ last. low_limit n last (suc (declared_turns x.declared)) (let a : declared_turns x.declared ≤ four n + 5 = h.turned in omega arith) }

  -- a statement that stands one deeper
  record Nested (x : Statement) : Type 0 where
    parsed : StatementParsed text x
    shallow : n ≤ 64 → StatementShallow x
    level : ℕ
    deep : suc level ≤ n
    turned : (last : ℕ) → statement_turns last x ≤ limit level last

  if_good : (x : Expression) (s : Statement) → Tested text n x → Nested s → G (If x s)
  if_good x s h k = record {
    parsed = (h.parsed, k.parsed);
    shallow = λ l. (test_shallow x h l, k.shallow l);
    turned = λ last.
        let a : turns x ≤ four n + 1 = h.turned in
        let b : max (statement_turns last s) 1 ≤ limit k.level last = let c : statement_turns last s ≤ limit k.level last = k.turned last in omega arith in
        let d : in_branch (max (statement_turns last s) 1) + 1 ≤ limit n last = branch_limit k.level n last (max (statement_turns last s) 1) k.deep b in
        omega arith;
  }

  if_else_good : (x : Expression) (s r : Statement) → Tested text n x → Nested s → Nested r → G (IfElse x s r)
  if_else_good x s r h k j = record {
    parsed = (h.parsed, k.parsed, j.parsed);
    shallow = λ l. (test_shallow x h l, k.shallow l, j.shallow l);
    turned = λ last.
        let a : turns x ≤ four n + 1 = h.turned in
        let b : in_branch (statement_turns last s) + 1 ≤ limit n last = branch_limit k.level n last (statement_turns last s) k.deep (k.turned last) in
        let c : in_branch (statement_turns last r) + 1 ≤ limit n last = branch_limit j.level n last (statement_turns last r) j.deep (j.turned last) in
        omega arith;
  }

  tested_turns : (x : Expression) → Tested text n x → 1 ≤ n → test_turns (Some x) ≤ four n + 1
  tested_turns x h l = let a : turns x ≤ four n + 1 = h.turned in omega arith

  while_good : (x : Expression) (s : Statement) → Tested text n x → Nested s → G (While x s)
  while_good x s h k = record {
    parsed = (h.parsed, k.parsed);
    shallow = λ l. (test_shallow x h l, k.shallow l);
    turned = λ last.
        let one_deep : suc k.level ≤ n = k.deep in
        let a : test_turns (Some x) ≤ four n + 1 = tested_turns x h (omega arith) in
        let b : in_branch (statement_turns 1 s) + 1 ≤ limit n last = loop_limit k.level n last 1 (statement_turns 1 s) k.deep (omega arith) (k.turned 1) in
        omega arith;
  }

  do_good : (s : Statement) (x : Expression) → Nested s → Tested text n x → G (Do s x)
  do_good s x k h = record {
    parsed = (k.parsed, h.parsed);
    shallow = λ l. (k.shallow l, test_shallow x h l);
    turned = λ last.
        let one_deep : suc k.level ≤ n = k.deep in
        let a : test_turns (Some x) ≤ four n + 1 = tested_turns x h (omega arith) in
        let b : in_branch (statement_turns (test_turns (Some x)) s) + 1 ≤ limit n last = loop_limit k.level n last (test_turns (Some x)) (statement_turns (test_turns (Some x)) s) k.deep a (k.turned (test_turns (Some x))) in
        omega arith;
  }

  test_there : (m : ℕ) → suc m ≤ n → (x : Option Expression) → GoodThere text m x → test_turns x ≤ four n + 1
  test_there m l None h = omega arith
  test_there m l (Some x) h = let a : turns x ≤ four m + 5 = h.turned in omega arith

  for_good : (i : syntax.ForFirst) (x step : Option Expression) (s : Statement) (m : ℕ) → suc m ≤ n → GoodFirst text m i → GoodThere text m x → GoodThere text m step → Nested s → G (For i x step s)
  for_good i x step s m l h j u k = record {
    parsed = (h.parsed, j.parsed, u.parsed, k.parsed);
    shallow = λ o. let below : m ≤ 64 = omega arith in (h.shallow below, j.shallow below, u.shallow below, k.shallow o);
    turned = λ last.
        let inside : ℕ = max (test_turns x) (max (if_there_turns step) (statement_turns (if_there_turns step) s)) in
        let a : test_turns x ≤ four n + 1 = test_there m l x j in
        let b : if_there_turns step ≤ four n + 1 = (let c : if_there_turns step ≤ four m + 5 = u.turned in omega arith) in
        let d : in_branch (statement_turns (if_there_turns step) s) + 1 ≤ limit n last = loop_limit k.level n last (if_there_turns step) (statement_turns (if_there_turns step) s) k.deep b (k.turned (if_there_turns step)) in
        let e : in_branch inside + 1 ≤ limit n last = omega arith in
        let g : with_first_turns i (in_branch inside) ≤ suc (max (four m + 5) (in_branch inside)) = h.turned (in_branch inside) in
        omega arith;
  }

  -- ---- trees

  module _ (less : (m : ℕ) → suc m ≤ n → StatementsGood text m) where
    nested_good : (x : Stmt) → Reads text n (nested (written.stmt x)) → Nested (trees.stmt x)
    nested_good x h =
        let l : suc (written.stmt x).nesting ≤ n = deeper (written.stmt x) h in
        let k : GoodStatement text (written.stmt x).nesting (trees.stmt x) = (less (written.stmt x).nesting l).stmt x (inner (written.stmt x) h) in
        record { parsed = k.parsed; shallow = λ o. k.shallow (omega arith); level = (written.stmt x).nesting; deep = l; turned = k.turned }

    -- a part of a block
    record Part (x : Statement) : Type 0 where
      parsed : StatementParsed text x
      shallow : n ≤ 64 → StatementShallow x
      turned : (last : ℕ) → suc (statement_turns last x) ≤ limit n last

    part_below : (x : Statement) (m : ℕ) → suc m ≤ n → GoodStatement text m x → Part x
    part_below x m l h = record { parsed = h.parsed; shallow = λ o. h.shallow (omega arith); turned = λ last. let a : statement_turns last x ≤ limit m last = h.turned last in omega arith }

    part_good : (x : BlockPart) → Reads text n (nested (written.block_part x)) → Part (trees.block_part x)
    part_good =
        shapes.block_part_cases (λ x. Reads text n (nested (written.block_part x)) → Part (trees.block_part x))
        (λ x. carried Part (ap nested (shapes.block_part-Local x)) (says.block_part-Local x) (λ h.
        let b : Written = written.local x in
        let l : suc b.nesting ≤ n = deeper b h in
        part_below (Declare (trees.local x)) b.nesting l (declare_below x b.nesting (inner b h))))
        (λ x. carried Part (ap nested (shapes.block_part-Stmt x)) (says.block_part-Stmt x) (λ h.
        let b : Written = written.stmt x in
        let l : suc b.nesting ≤ n = deeper b h in
        part_below (trees.stmt x) b.nesting l ((less b.nesting l).stmt x (inner b h))))
      where
        declare_below : (x : Local) (m : ℕ) → Reads text m (written.local x) → GoodStatement text m (Declare (trees.local x))
        declare_below x m h =
            let k : GoodLocal text m (trees.local x) = local_good text m x h in
            record { parsed = k.parsed; shallow = k.shallow; turned = λ last. low_limit m last (suc (declared_turns (trees.local x).declared)) (let a : declared_turns (trees.local x).declared ≤ four m + 5 = k.turned in omega arith) }

    parts_good : (ps : List BlockPart) → Reads text n (run nested_part ps) → GoodBlock text n (in_order (map trees.block_part ps))
    unfolding run in_order
    parts_good [] h = record { parsed = tt; shallow = λ l. tt; turned = λ last. omega arith }
    parts_good (p ∷ ps) h =
        let x : Part (trees.block_part p) = part_good p (before (nested_part p) _ h) in
        let xs : GoodBlock text n (in_order (map trees.block_part ps)) = parts_good ps (after (nested_part p) _ h) in
        record {
          parsed = (x.parsed, xs.parsed);
          shallow = λ l. (x.shallow l, xs.shallow l);
          turned = λ last.
              let a : suc (statement_turns last (trees.block_part p)) ≤ limit n last = x.turned last in
              let b : suc (statements_turns last (in_order (map trees.block_part ps))) ≤ limit n last = xs.turned last in
              let c : statements_turns last (Next (trees.block_part p) (in_order (map trees.block_part ps))) ≤ max (statement_turns last (trees.block_part p)) (statements_turns last (in_order (map trees.block_part ps))) = next_turns last (trees.block_part p) (in_order (map trees.block_part ps)) in
              omega arith;
        }

    block_good : (x : Block) → Reads text n (written.block x) → GoodBlock text n (trees.block x)
    block_good =
        shapes.block_cases (λ x. Reads text n (written.block x) → GoodBlock text n (trees.block x))
        (λ o ps c. carried (GoodBlock text n) (shapes.block-is o ps c) (says.block-is (block_of o ps c)) (λ h.
        parts_good ps (before (run nested_part ps) _ (after (one w.LeftBrace o) _ h))))

    stmt_good : (x : Stmt) → Reads text n (written.stmt x) → G (trees.stmt x)
    stmt_good =
        shapes.stmt_cases (λ x. Reads text n (written.stmt x) → G (trees.stmt x))
        (λ t. carried G (ap (λ z. z.written) (shapes.shape-Empty t)) (says.stmt-Empty t) (λ h. plain_good Nothing tt tt (λ last. omega arith)))
        (λ x t. carried G (ap (λ z. z.written) (shapes.shape-Expression x t)) (says.stmt-Expression x t) (λ h. evaluate_good (said.assign x) ((expressions_good text n).assign x (before (expressions.assign x) _ h))))
        (λ x. carried G (ap (λ z. z.written) (shapes.shape-Block x)) (says.stmt-Block x) (λ h. block_good_of (trees.block x) (block_good x h)))
        (λ i o x c s. carried G (ap (λ z. z.written) (shapes.shape-If i o x c s)) (says.stmt-If i o x c s) (λ h.
        if_good (said.assign x) (trees.stmt s) (in_head w.If i o x c (before (head w.If i o (expressions.assign x) c) _ h)) (nested_good s (after (head w.If i o (expressions.assign x) c) _ h))))
        (λ i o x c s e r. carried G (ap (λ z. z.written) (shapes.shape-IfElse i o x c s e r)) (says.stmt-IfElse i o x c s e r) (λ h.
        let rest = after (head w.If i o (expressions.assign x) c) _ h in
        if_else_good (said.assign x) (trees.stmt s) (trees.stmt r) (in_head w.If i o x c (before (head w.If i o (expressions.assign x) c) _ h)) (nested_good s (before (nested (written.stmt s)) _ rest))
        (nested_good r (after (one w.Else e) _ (after (only (not (written.is_dangling s))) _ (after (nested (written.stmt s)) _ rest))))))
        (λ i o x c s. carried G (ap (λ z. z.written) (shapes.shape-While i o x c s)) (says.stmt-While i o x c s) (λ h.
        while_good (said.assign x) (trees.stmt s) (in_head w.While i o x c (before (head w.While i o (expressions.assign x) c) _ h)) (nested_good s (after (head w.While i o (expressions.assign x) c) _ h))))
        (λ d s i o x c z. carried G (ap (λ z. z.written) (shapes.shape-Do d s i o x c z)) (says.stmt-Do d s i o x c z) (λ h.
        let rest = after (one w.Do d) _ h in
        do_good (trees.stmt s) (said.assign x) (nested_good s (before (nested (written.stmt s)) _ rest)) (in_head w.While i o x c (before (head w.While i o (expressions.assign x) c) _ (after (nested (written.stmt s)) _ rest)))))
        (λ i o start x z step c s. carried G (ap (λ z. z.written) (shapes.shape-For i o start x z step c s)) (says.stmt-For i o start x z step c s) (λ h.
        let b : Written = for_parts start x z step in
        let rest = after (one w.LeftParen o) _ (after (one w.For i) _ h) in
        let parts = before (nested b) _ rest in
        let l : suc b.nesting ≤ n = deeper b parts in
        let inside : Reads text b.nesting b = inner b parts in
        let tests = after (written.for_first start) _ inside in
        for_good (trees.for_first start) (option_map said.assign x) (option_map said.assign step) (trees.stmt s) b.nesting l
        (first_good text b.nesting start (before (written.for_first start) _ inside))
        (there_good text b.nesting x (before (optional expressions.assign x) _ tests))
        (there_good text b.nesting step (after (one w.Semicolon z) _ (after (optional expressions.assign x) _ tests)))
        (nested_good s (after (one w.RightParen c) _ (after (nested b) _ rest)))))
        (λ i t. carried G (ap (λ z. z.written) (shapes.shape-Break i t)) (says.stmt-Break i t) (λ h. plain_good (Break i) tt tt (λ last. omega arith)))
        (λ i t. carried G (ap (λ z. z.written) (shapes.shape-Continue i t)) (says.stmt-Continue i t) (λ h. plain_good (Continue i) tt tt (λ last. omega arith)))
        (λ i x t. carried G (ap (λ z. z.written) (shapes.shape-Return i x t)) (says.stmt-Return i x t) (λ h.
        return_good i (option_map said.assign x) (there_good text n x (before (optional expressions.assign x) _ (after (one w.Return i) _ h)))))
        (λ t. carried G (ap (λ z. z.written) (shapes.shape-Ghost t)) (says.stmt-Ghost t) (λ h. plain_good (Ghost t) tt tt (λ last. omega arith)))
        (λ t. carried G (ap (λ z. z.written) (shapes.shape-Assert t)) (says.stmt-Assert t) (λ h. plain_good (Assert t) tt tt (λ last. omega arith)))

    all_good : StatementsGood text n
    all_good = record { stmt = stmt_good; block = block_good }

statements_below : (text : List ℕ) (k n : ℕ) → suc n ≤ k → StatementsGood text n
statements_below text zero n l = absurd (omega arith)
statements_below text (suc k) n l = all_good text n (λ m i. statements_below text k m (omega arith))

pub block_is_good : (text : List ℕ) (n : ℕ) (x : Block) → Reads text n (written.block x) → GoodBlock text n (trees.block x)
block_is_good text n = (statements_below text (suc n) n (omega arith)).block
