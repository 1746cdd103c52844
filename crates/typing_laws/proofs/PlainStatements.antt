-- Statements of a source: no call is long, and they nest as little as the text says.
use Rattle.std.proofs.Common.{◌≡◌, ℕ, suc, ◌≤◌, max, Bool, true, not, List, [], ◌∷◌, ◌++◌, Option, Some, None, refl, arith}
use Rattle.c_words.specs.declared.word.Leaf.{Leaf}
use Rattle.c_words.specs.declared.word.Mode.TheVariants as mode
use Rattle.step_meaning.specs.declared.value.CType.{CType}
use Rattle.step_meaning.specs.declared.expr.Expr.{Expr}
use Rattle.step_meaning.specs.declared.stmt.Stmt.{Stmt}
use Rattle.step_meaning.specs.declared.stmt.Stmt.TheVariants as core
use Rattle.step_meaning.specs.declared.stmt.Stmt.TheBlock.{shape-the_row-Stmt-0, hidden-the_row-Stmt-0, shape-the_row-Stmt-1, hidden-the_row-Stmt-1}
use Rattle.step_meaning.specs.ExpressionTypes.{is_void}
use Rattle.step_meaning.specs.Sources.{are_bare, in_branch, branching, has_short_calls_if_any, all_calls_are_short, branching_if_any, test_branching, full_nesting, row_full_nesting}
use Rattle.step_meaning.proofs.Ranges.{and_true}
use Rattle.typing_rules.specs.declared.fault.TypeFault.TheVariants.{Mismatch, StrayJump}
use Rattle.typing_rules.specs.Checked.{unless}
use Rattle.typing_rules.specs.Checked.{◌>>=◌ as ◌then◌}
use Rattle.typing_rules.specs.Syntax.{Expression, Local, Statement, Nothing, Evaluate, Block, Declare, If, IfElse, While, Do, For, Break, Continue, Return, Ghost, Assert, Statements, End, Next, ForFirst, NoFirst, FirstValue, FirstLocal}
use Rattle.typing_rules.specs.Operands as operands
use Rattle.typing_rules.specs.Environment.{Environment, place_of}
use Rattle.typing_rules.specs.Expressions.{full}
use Rattle.typing_rules.specs.Statements.{Does, pure, ◌>>=◌, in_scope, declare, value, test, where_present, rule, jump, returned, first_part, scoped, with_first, statement, statements, checked}
use Rattle.typing_laws.specs.ParsedSyntax.{IfThere}
use Rattle.typing_laws.specs.ShallowSyntax.{turns, IsShallow, declared_turns, ForFirstShallow, StatementShallow, StatementsShallow, if_there_turns, test_turns, with_first_turns, statement_turns, statements_turns}
use Rattle.typing_laws.proofs.CheckedValues.{then_holds, then_known}
use Rattle.typing_laws.proofs.EachOf.{each_append}
use Rattle.typing_laws.proofs.PlainCores.{PlainCore, PlainValue, condition_plain}
use Rattle.typing_laws.proofs.PlainOperators.{fitted_plain}
use Rattle.typing_laws.proofs.PlainExpressions.{EnvironmentShallow, turns_positive, full_plain}
use Rattle.typing_laws.proofs.PlainDeclarations.{Plain, AllPlain, plain_weaker, all_weaker, empty_plain, Leaves, Has, then_has, pure_has, scope_has, checked_has, declare_has}
use denote.Hole.Carrier.{hidden}

-- ---- rows

all_bare : (b : ℕ → ℕ) (ss : List Stmt) → AllPlain b ss → are_bare (hidden-the_row-Stmt-0 ss) ≡ true
unfolding shape-the_row-Stmt-0 hidden-the_row-Stmt-0 hidden
all_bare b [] h = refl
all_bare b (s ∷ ss) h = and_true h.0.bare (all_bare b ss h.1)

all_short : (b : ℕ → ℕ) (ss : List Stmt) → AllPlain b ss → all_calls_are_short (hidden-the_row-Stmt-0 ss) ≡ true
unfolding shape-the_row-Stmt-0 hidden-the_row-Stmt-0 hidden
all_short b [] h = refl
all_short b (s ∷ ss) h = and_true h.0.short (all_short b ss h.1)

all_nested : (b : ℕ → ℕ) (l m : ℕ) → l ≤ m → 1 ≤ b m → (ss : List Stmt) → AllPlain b ss → row_full_nesting l (hidden-the_row-Stmt-0 ss) ≤ b m
unfolding shape-the_row-Stmt-0 hidden-the_row-Stmt-0 hidden
all_nested b l m i p [] h = p
all_nested b l m i p (s ∷ ss) h = both (full_nesting l s) (row_full_nesting l (hidden-the_row-Stmt-0 ss)) (b m) (h.0.nested l m i) (all_nested b l m i p ss h.1)
  where
    both : (x y z : ℕ) → x ≤ z → y ≤ z → max x y ≤ z
    both x y z h k = omega arith

-- ---- statements of parts that are so

block_plain : (b : ℕ → ℕ) (ss : List Stmt) → ((m : ℕ) → 1 ≤ b m) → AllPlain b ss → Plain (λ m. suc (b m)) (core.Block ss)
unfolding shape-the_row-Stmt-0 hidden-the_row-Stmt-0 hidden
block_plain b ss p h = record {
  bare = all_bare b ss h;
  short = all_short b ss h;
  nested = λ l m i. let k : row_full_nesting l (hidden-the_row-Stmt-0 ss) ≤ b m = all_nested b l m i (p m) ss h in omega arith;
}

if_plain : (n : ℕ) (b c : ℕ → ℕ) (x : Expr) (s r : Stmt) → PlainCore n x → Plain b s → Plain c r → Plain (λ m. max n (in_branch (max (b m) (c m)))) (core.If x s r)
unfolding shape-the_row-Stmt-1 hidden-the_row-Stmt-1 hidden
if_plain n b c x s r t h k = record {
  bare = and_true h.bare k.bare;
  short = and_true t.short (and_true h.short k.short);
  nested = λ l m i.
      let d : branching x ≤ n = t.turns in
      let e : full_nesting l s ≤ b m = h.nested l m i in
      let f : full_nesting l r ≤ c m = k.nested l m i in
      omega arith;
}

while_plain : (n : ℕ) (b : ℕ → ℕ) (x : Expr) (s : Stmt) → PlainCore n x → Plain b s → Plain (λ m. in_branch (max (max n (in_branch 1)) (b 1))) (core.While x s)
unfolding shape-the_row-Stmt-1 hidden-the_row-Stmt-1 hidden
while_plain n b x s t h = record {
  bare = h.bare;
  short = and_true t.short h.short;
  nested = λ l m i.
      let d : branching x ≤ n = t.turns in
      let e : full_nesting 1 s ≤ b 1 = h.nested 1 1 (omega arith) in
      omega arith;
}

do_plain : (n : ℕ) (b : ℕ → ℕ) (x : Expr) (s : Stmt) → PlainCore n x → Plain b s → Plain (λ m. in_branch (max (max n (in_branch 1)) (b (max n (in_branch 1))))) (core.Do s x)
unfolding shape-the_row-Stmt-1 hidden-the_row-Stmt-1 hidden
do_plain n b x s t h = record {
  bare = h.bare;
  short = and_true t.short h.short;
  nested = λ l m i.
      let d : branching x ≤ n = t.turns in
      let e : full_nesting (max (branching x) (in_branch 1)) s ≤ b (max n (in_branch 1)) = h.nested (max (branching x) (in_branch 1)) (max n (in_branch 1)) (omega arith) in
      omega arith;
}

-- a part that may be left out
record PlainTest (x : Option Expression) (o : Option Expr) : Type 0 where
  short : has_short_calls_if_any o ≡ true
  turned : test_branching o ≤ test_turns x

record PlainStep (x : Option Expression) (o : Option Expr) : Type 0 where
  short : has_short_calls_if_any o ≡ true
  turned : branching_if_any o ≤ if_there_turns x

for_plain : (x step : Option Expression) (b : ℕ → ℕ) (o p : Option Expr) (s : Stmt) → PlainTest x o → PlainStep step p → Plain b s
    → Plain (λ m. in_branch (max (test_turns x) (max (if_there_turns step) (b (if_there_turns step))))) (core.For o p s)
unfolding shape-the_row-Stmt-1 hidden-the_row-Stmt-1 hidden
for_plain x step b o p s t u h = record {
  bare = h.bare;
  short = and_true t.short (and_true u.short h.short);
  nested = λ l m i.
      let d : test_branching o ≤ test_turns x = t.turned in
      let f : branching_if_any p ≤ if_there_turns step = u.turned in
      let e : full_nesting (branching_if_any p) s ≤ b (if_there_turns step) = h.nested (branching_if_any p) (if_there_turns step) f in
      within (test_branching o) (test_turns x) (branching_if_any p) (if_there_turns step) (full_nesting (branching_if_any p) s) (b (if_there_turns step)) d f e;
}
  where
    within : (a b c d e f : ℕ) → a ≤ b → c ≤ d → e ≤ f → in_branch (max a (max c e)) ≤ in_branch (max b (max d f))
    within a b c d e f h j k = omega arith

-- ---- numbers

mutual
  statement_positive : (x : Statement) (l : ℕ) → 1 ≤ statement_turns l x
  statement_positive Nothing l = omega arith
  statement_positive (Evaluate x) l = turns_positive x
  statement_positive (Block ss) l = omega arith
  statement_positive (Declare d) l = omega arith
  statement_positive (If x s) l = omega arith
  statement_positive (IfElse x s r) l = omega arith
  statement_positive (While x s) l = omega arith
  statement_positive (Do s x) l = omega arith
  statement_positive (For first x step s) l = for_positive first _
    where
      for_positive : (x : ForFirst) (n : ℕ) → 1 ≤ with_first_turns x (in_branch n)
      for_positive NoFirst n = omega arith
      for_positive (FirstValue x) n = omega arith
      for_positive (FirstLocal l) n = omega arith
  statement_positive (Break t) l = omega arith
  statement_positive (Continue t) l = omega arith
  statement_positive (Return t None) l = omega arith
  statement_positive (Return t (Some x)) l = turns_positive x
  statement_positive (Ghost t) l = omega arith
  statement_positive (Assert t) l = omega arith

statements_positive : (xs : Statements) (l : ℕ) → 1 ≤ statements_turns l xs
statements_positive End l = omega arith
statements_positive (Next (Declare d) ss) l = let h : 1 ≤ statements_turns l ss = statements_positive ss l in omega arith
statements_positive (Next x ss) l = let h : 1 ≤ statements_turns l ss = statements_positive ss l in second (statement_turns l x) (statements_turns l ss) h
  where
    second : (a b : ℕ) → 1 ≤ b → 1 ≤ max a b
    second a b h = omega arith

-- ---- in a body

module _ (g : Environment) (result : CType) (s : EnvironmentShallow g) (source : g.mode ≡ mode.Source) where
  full_has : (x : Expression) → IsShallow x → Has (PlainValue 64 (turns x)) (checked g result (λ g. full g x))
  full_has x h = checked_has g result s source (PlainValue 64 (turns x)) (λ g. full g x) (λ y i j. full_plain y i j x 64 (turns x) (omega arith) h (omega arith))

  value_has : (x : Expression) → IsShallow x → Has (PlainCore (turns x)) (value g result x)
  value_has x h = then_has (PlainValue 64 (turns x)) (PlainCore (turns x)) (checked g result (λ g. full g x)) _ (full_has x h) (λ v k. pure_has (PlainCore (turns x)) v.expr k.core)

  test_has : (x : Expression) → IsShallow x → Has (PlainCore (turns x)) (test g result x)
  test_has x h =
      checked_has g result s source (PlainCore (turns x)) (λ g. full g x then operands.condition) (λ y i j.
      then_holds (PlainValue 64 (turns x)) (PlainCore (turns x)) (full y x) _ (full_plain y i j x 64 (turns x) (omega arith) h (omega arith)) (λ v k. condition_plain 64 (turns x) v k))

  tested : (x : Option Expression) → IfThere IsShallow x → Has (PlainTest x) (where_present g result (test g result) x)
  tested None h = pure_has (PlainTest None) None (record { short = refl; turned = omega arith })
  tested (Some x) h = then_has (PlainCore (turns x)) (PlainTest (Some x)) (test g result x) _ (test_has x h) (λ e k. pure_has (PlainTest (Some x)) (Some e) (record { short = k.short; turned = more (branching e) (turns x) k.turns }))
    where
      more : (a b : ℕ) → a ≤ b → max a (in_branch 1) ≤ max b (in_branch 1)
      more a b h = omega arith

  stepped : (x : Option Expression) → IfThere IsShallow x → Has (PlainStep x) (where_present g result (value g result) x)
  stepped None h = pure_has (PlainStep None) None (record { short = refl; turned = omega arith })
  stepped (Some x) h = then_has (PlainCore (turns x)) (PlainStep (Some x)) (value g result x) _ (value_has x h) (λ e k. pure_has (PlainStep (Some x)) (Some e) (record { short = k.short; turned = k.turns }))

  eval_plain : (n : ℕ) (x : Expr) → PlainCore n x → Plain (λ m. n) (core.Eval x)
  eval_plain n x h = record { bare = refl; short = h.short; nested = λ l m i. h.turns }

  -- ---- jumps

  rule_has : (broken : Bool) (t : Leaf) → Has (λ (u : Unit {0}). Unit {0}) (rule g result broken t)
  rule_has broken t f i = then_known (Leaves (λ (u : Unit {0}). Unit {0})) (unless broken (Mismatch (place_of t))) _ (λ u e. (tt, i))

  jump_has : (P : Stmt → Type 0) (loop : Bool) (t : Leaf) (x : Stmt) → P x → Has P (jump g result loop t x)
  jump_has P loop t x h f i = then_known (Leaves P) (unless (not loop) (StrayJump (place_of t))) _ (λ u e. (h, i))

  returned_has : (t : Leaf) (x : Option Expression) → IfThere IsShallow x → Has (Plain (λ m. if_there_turns x)) (returned g result t x)
  returned_has t None h =
      then_has (λ (u : Unit {0}). Unit {0}) (Plain (λ m. 1)) (rule g result (not (is_void result)) t) _ (rule_has (not (is_void result)) t) (λ u k.
      pure_has (Plain (λ m. 1)) (core.Return None) (record { bare = refl; short = refl; nested = λ l m i. omega arith }))
  returned_has t (Some x) h =
      then_has (PlainValue 64 (turns x)) (Plain (λ m. turns x)) (checked g result (λ g. full g x)) _ (full_has x h) (λ v k.
      then_has (λ (u : Unit {0}). Unit {0}) (Plain (λ m. turns x)) (rule g result (is_void result) t) _ (rule_has (is_void result) t) (λ u w.
      then_has (PlainCore (turns x)) (Plain (λ m. turns x)) (checked g result (λ g. operands.fitted v.first result v)) _
      (checked_has g result s source (PlainCore (turns x)) (λ g. operands.fitted v.first result v) (λ y i j. fitted_plain g.layouts 64 (turns x) (turns_positive x) v.first result v k.core)) (λ e i.
      pure_has (Plain (λ m. turns x)) (core.Return (Some e)) (record { bare = refl; short = i.short; nested = λ l m j. i.turns }))))

  -- ---- `for`

  -- how deep what stands before a loop nests
  abbrev first_turns : ForFirst → ℕ
  first_turns NoFirst = 1
  first_turns (FirstValue x) = turns x
  first_turns (FirstLocal l) = declared_turns l.declared

  first_has : (x : ForFirst) → ForFirstShallow x → Has (AllPlain (λ m. first_turns x)) (first_part g result x)
  first_has NoFirst h = pure_has (AllPlain (λ m. 1)) [] tt
  first_has (FirstValue x) h = then_has (PlainCore (turns x)) (AllPlain (λ m. turns x)) (value g result x) _ (value_has x h) (λ e k. pure_has (AllPlain (λ m. turns x)) (core.Eval e ∷ []) (eval_plain (turns x) e k, tt))
  first_has (FirstLocal l) h = declare_has g result s source l h

  scoped_has : (P : Stmt → Type 0) (x : ForFirst) (d : Does Stmt) → Has P d → Has P (scoped g result x d)
  scoped_has P NoFirst d h = h
  scoped_has P (FirstValue x) d h = h
  scoped_has P (FirstLocal l) d h = scope_has P d h

  after : (n k : ℕ) (ss : List Stmt) (x : Stmt) → 1 ≤ k → AllPlain (λ m. n) ss → Plain (λ m. k) x → Plain (λ m. suc (max n k)) (core.Block (ss ++ (x ∷ [])))
  after n k ss x p h j =
      block_plain (λ m. max n k) (ss ++ (x ∷ [])) (λ m. omega arith)
      (each_append (Plain (λ m. max n k)) ss (x ∷ []) (all_weaker (λ m. n) (λ m. max n k) ss (λ m. omega arith) h) (plain_weaker (λ m. k) (λ m. max n k) x (λ m. omega arith) j, tt))

  with_first_plain : (x : ForFirst) (k : ℕ) (ss : List Stmt) (a : Stmt) → 1 ≤ k → AllPlain (λ m. first_turns x) ss → Plain (λ m. k) a → Plain (λ m. with_first_turns x k) (with_first g result x ss a)
  with_first_plain NoFirst k ss a p h j = j
  with_first_plain (FirstValue x) k ss a p h j = after (turns x) k ss a p h j
  with_first_plain (FirstLocal l) k ss a p h j = after (declared_turns l.declared) k ss a p h j

  -- ---- statements

  abbrev S : Statement → Stmt → Type 0
  S x a = Plain (λ m. statement_turns m x) a

  abbrev Ss : Statements → List Stmt → Type 0
  Ss xs ss = AllPlain (λ m. statements_turns m xs) ss

  abbrev loop_turns : Option Expression → Option Expression → Statement → ℕ
  loop_turns x step a = in_branch (max (test_turns x) (max (if_there_turns step) (statement_turns (if_there_turns step) a)))

  one_then : (b c d : ℕ → ℕ) → ((m : ℕ) → b m ≤ d m) → ((m : ℕ) → c m ≤ d m) → (one : Does Stmt) (rest : Does (List Stmt)) → Has (Plain b) one → Has (AllPlain c) rest → Has (AllPlain d) (one >>= (λ a. rest >>= (λ more. pure (a ∷ more))))
  one_then b c d i j one rest h k =
      then_has (Plain b) (AllPlain d) one (λ a. rest >>= (λ more. pure (a ∷ more))) h (λ a l.
      then_has (AllPlain c) (AllPlain d) rest (λ more. pure (a ∷ more)) k (λ more q.
      pure_has (AllPlain d) (a ∷ more) (plain_weaker b d a i l, all_weaker c d more j q)))

  mutual
    unfolding statement

    pub statement_has : (x : Statement) → StatementShallow x → (loop : Bool) → Has (S x) (statement g result loop x)
    statement_has Nothing h loop = pure_has (S Nothing) core.Empty (empty_plain (λ m. 1) (λ m. omega arith))
    statement_has (Evaluate x) h loop = then_has (PlainCore (turns x)) (S (Evaluate x)) (value g result x) _ (value_has x h) (λ e k. pure_has (S (Evaluate x)) (core.Eval e) (eval_plain (turns x) e k))
    statement_has (Block ss) h loop =
        then_has (Ss ss) (S (Block ss)) (in_scope (statements g result loop ss)) _ (scope_has (Ss ss) (statements g result loop ss) (statements_have ss h loop)) (λ xs k.
        pure_has (S (Block ss)) (core.Block xs) (block_plain (λ m. statements_turns m ss) xs (statements_positive ss) k))
    statement_has (Declare l) h loop =
        then_has (AllPlain (λ m. declared_turns l.declared)) (S (Declare l)) (declare g result l) _ (declare_has g result s source l h) (λ xs k.
        pure_has (S (Declare l)) (core.Block xs) (block_plain (λ m. declared_turns l.declared) xs (λ m. declared_positive l) k))
      where
        declared_positive : (l : Local) → 1 ≤ declared_turns l.declared
        declared_positive l = positive_of l.declared
          where
            positive_of : (ds : List _) → 1 ≤ declared_turns ds
            positive_of [] = omega arith
            positive_of (d ∷ ds) = let h : 1 ≤ declared_turns ds = positive_of ds in omega arith
    statement_has (If x a) h loop =
        then_has (PlainCore (turns x)) (S (If x a)) (test g result x) _ (test_has x h.0) (λ e k.
        then_has (S a) (S (If x a)) (statement g result loop a) _ (statement_has a h.1 loop) (λ b j.
        pure_has (S (If x a)) (core.If e b core.Empty) (if_plain (turns x) (λ m. statement_turns m a) (λ m. 1) e b core.Empty k j (empty_plain (λ m. 1) (λ m. omega arith)))))
    statement_has (IfElse x a r) h loop =
        then_has (PlainCore (turns x)) (S (IfElse x a r)) (test g result x) _ (test_has x h.0) (λ e k.
        then_has (S a) (S (IfElse x a r)) (statement g result loop a) _ (statement_has a h.1 loop) (λ b j.
        then_has (S r) (S (IfElse x a r)) (statement g result loop r) _ (statement_has r h.2 loop) (λ c i.
        pure_has (S (IfElse x a r)) (core.If e b c) (if_plain (turns x) (λ m. statement_turns m a) (λ m. statement_turns m r) e b c k j i))))
    statement_has (While x a) h loop =
        then_has (PlainCore (turns x)) (S (While x a)) (test g result x) _ (test_has x h.0) (λ e k.
        then_has (S a) (S (While x a)) (statement g result true a) _ (statement_has a h.1 true) (λ b j.
        pure_has (S (While x a)) (core.While e b) (while_plain (turns x) (λ m. statement_turns m a) e b k j)))
    statement_has (Do a x) h loop =
        then_has (S a) (S (Do a x)) (statement g result true a) _ (statement_has a h.0 true) (λ b j.
        then_has (PlainCore (turns x)) (S (Do a x)) (test g result x) _ (test_has x h.1) (λ e k.
        pure_has (S (Do a x)) (core.Do b e) (do_plain (turns x) (λ m. statement_turns m a) e b k j)))
    statement_has (For first x step a) h loop =
        scoped_has (S (For first x step a)) first _
        (then_has (AllPlain (λ m. first_turns first)) (S (For first x step a)) (first_part g result first) _ (first_has first h.0) (λ before i.
        then_has (PlainTest x) (S (For first x step a)) (where_present g result (test g result) x) _ (tested x h.1) (λ e k.
        then_has (PlainStep step) (S (For first x step a)) (where_present g result (value g result) step) _ (stepped step h.2) (λ d l.
        then_has (S a) (S (For first x step a)) (statement g result true a) _ (statement_has a h.3 true) (λ b j.
        pure_has (S (For first x step a)) (with_first g result first before (core.For e d b))
        (with_first_plain first (loop_turns x step a) before (core.For e d b) (omega arith) i (for_plain x step (λ m. statement_turns m a) e d b k l j)))))))
    statement_has (Break t) h loop = jump_has (S (Break t)) loop t core.Break (record { bare = refl; short = refl; nested = λ l m i. omega arith })
    statement_has (Continue t) h loop = jump_has (S (Continue t)) loop t core.Continue (record { bare = refl; short = refl; nested = λ l m i. omega arith })
    statement_has (Return t x) h loop = returned_has t x h
    statement_has (Ghost t) h loop = pure_has (S (Ghost t)) core.Empty (empty_plain (λ m. 1) (λ m. omega arith))
    statement_has (Assert t) h loop = pure_has (S (Assert t)) core.Empty (empty_plain (λ m. 1) (λ m. omega arith))

    pub statements_have : (xs : Statements) → StatementsShallow xs → (loop : Bool) → Has (Ss xs) (statements g result loop xs)
    statements_have End h loop = pure_has (Ss End) [] tt
    statements_have (Next (Declare l) ss) h loop =
        then_has (AllPlain (λ m. declared_turns l.declared)) (Ss (Next (Declare l) ss)) (declare g result l) _ (declare_has g result s source l h.0) (λ xs k.
        then_has (Ss ss) (Ss (Next (Declare l) ss)) (statements g result loop ss) _ (statements_have ss h.1 loop) (λ more j.
        pure_has (Ss (Next (Declare l) ss)) (xs ++ more)
        (each_append (Plain (λ m. statements_turns m (Next (Declare l) ss))) xs more
        (all_weaker (λ m. declared_turns l.declared) (λ m. statements_turns m (Next (Declare l) ss)) xs (λ m. omega arith) k)
        (all_weaker (λ m. statements_turns m ss) (λ m. statements_turns m (Next (Declare l) ss)) more (λ m. omega arith) j))))
    statements_have (Next x ss) h loop =
        one_then (λ m. statement_turns m x) (λ m. statements_turns m ss) (λ m. statements_turns m (Next x ss)) (λ m. omega arith) (λ m. omega arith) (statement g result loop x) (statements g result loop ss)
        (statement_has x h.0 loop) (statements_have ss h.1 loop)
