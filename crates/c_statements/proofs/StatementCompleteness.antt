-- Statements and blocks at one level: a tree that stands there is what the parser gives.
use Rattle.std.proofs.Common.{◌≡◌, ℕ, zero, suc, Bool, true, false, ◌&&◌, ◌||◌, not, Option, Some, None, refl, sym, ap, subst, ◌∙◌, arith}
use Rattle.c_words.specs.declared.word.Word.{Word}
use Rattle.c_words.specs.declared.word.Word.TheVariants as w
use Rattle.c_words.specs.declared.word.Leaf.{Leaf}
use Rattle.c_grammar.specs.declared.expression.Assign.{Assign}
use Rattle.c_grammar.specs.declared.statement.ForFirst.{ForFirst}
use Rattle.c_grammar.specs.declared.statement.ForFirst.TheVariants as f
use Rattle.c_grammar.specs.declared.statement.Stmt.{Stmt}
use Rattle.c_grammar.specs.declared.statement.Stmt.TheVariants as s
use Rattle.c_grammar.specs.declared.statement.Block.{Block}
use Rattle.c_words.specs.Words.{same}
use Rattle.c_words.specs.Written.{Written, nothing, ◌then◌, one, one_of, nested, only, optional, run, Takes}
use Rattle.c_grammar.specs.Expressions.{assign}
use Rattle.c_grammar.specs.Statements.{for_first, head, shape, block, block_part, stmt, is_dangling}
use Rattle.c_words.specs.Parsing.{Leaves, Outcome, Parser, word_at, take_if, run_at}
use Rattle.c_words.proofs.Taking.{nothing-Takes, Takes-then, then-Takes, nested-Takes, same_is}
use Rattle.c_words.proofs.Reading.{gives_bind, choose, refuse_test, Complete, Ends, Starts, take_if-gives, take_if-word, at_one, word_is}
use Rattle.c_words.proofs.Runs.{run-Complete, CompleteBy}
use Rattle.c_expressions.specs.ExpressionReading.{begins_expression, goes_on_assign}
use Rattle.c_statements.specs.declared.head.Head.{Head}
use Rattle.c_statements.specs.declared.head.Control.{Control}
use Rattle.c_statements.specs.StatementReading as read
use Rattle.c_statements.specs.StatementReading.{begins_local, begins_stmt, begins_part, goes_on_stmt}
use Rattle.c_expressions.proofs.ExpressionLaws.{assign-Starts}
use Rattle.c_statements.proofs.Deep.{deep_gives}
use Rattle.c_statements.proofs.LocalLaws.{local-Complete, local-Starts, or_right}
use Rattle.c_statements.proofs.StatementShapes.{shaped, nested_part, head_of, control_of, shape-Empty, shape-Expression, shape-Block, shape-If, shape-IfElse, shape-While, shape-Do, shape-For, shape-Break, shape-Continue, shape-Return, shape-Ghost, shape-Assert, block_part-Local, block_part-Stmt, block-is, stmt_cases, block_cases, block_part_cases}

-- ---- parts that are left out before a word

pub unless-gives : {A : Type 0} (k : ℕ) (stop : Word) (part : Parser A) (f : A → Written) (goes_on begins : Word → Bool) → Complete k part f goes_on → Starts f begins
    → ((x : Word) → begins x ≡ true → same stop x ≡ false) → goes_on stop ≡ false
    → (ts : Leaves) (a : Option A) (rest : Leaves) → Takes k ts (optional f a) rest → same stop (word_at rest) ≡ true → read.unless stop part ts ≡ Some (a, rest)
unfolding read.unless optional
unless-gives k stop part f goes_on begins complete starts apart over ts None rest h there =
    rw (nothing-Takes h) (choose (same stop (word_at rest)) _ _ rest there)
unless-gives k stop part f goes_on begins complete starts apart over ts (Some x) rest h there =
    refuse_test (same stop (word_at ts)) _ _ ts (apart (word_at ts) (starts.word k ts x rest h))
    ∙ gives_bind _ (complete.gives ts x rest h (record { ends = ap goes_on (sym (same_is stop _ there)) ∙ over })) refl

pub up_to-gives : {A : Type 0} (k : ℕ) (stop : Word) (part : Parser A) (f : A → Written) (goes_on begins : Word → Bool) → Complete k part f goes_on → Starts f begins
    → ((x : Word) → begins x ≡ true → same stop x ≡ false) → goes_on stop ≡ false
    → (ts : Leaves) (a : Option A) (t : Leaf) (rest : Leaves) → Takes k ts (optional f a then one stop t) rest → read.up_to stop part ts ≡ Some ((a, t), rest)
unfolding read.up_to
up_to-gives k stop part f goes_on begins complete starts apart over ts a t rest h =
    let s = then-Takes h in
    gives_bind _ (unless-gives k stop part f goes_on begins complete starts apart over ts a s.mid s.first (take_if-word (same stop) t s.second))
    (gives_bind _ (take_if-gives (same stop) t s.second) refl)

-- ---- how statements and blocks begin

-- what a statement of this shape takes
shows : {k : ℕ} {ts rest : Leaves} (a : Stmt) {v : Written} {d : Bool} → shape a ≡ shaped v d → Takes k ts (stmt a) rest → Takes k ts v rest
shows {k} {ts} {rest} a e h = subst (λ v. Takes k ts v rest) (ap (λ x. x.written) e) h

pub block_word : {k : ℕ} {ts rest : Leaves} (a : Block) → Takes k ts (block a) rest → word_at ts ≡ w.LeftBrace
block_word {k} {ts} {rest} = block_cases (λ a. Takes k ts (block a) rest → word_at ts ≡ w.LeftBrace)
    (λ o parts c h. word_is w.LeftBrace o (then-Takes (subst (λ v. Takes k ts v rest) (block-is o parts c) h)).first)

expression_begins : (x : Word) → begins_expression x ≡ true → begins_stmt x ≡ true
expression_begins w.Semicolon h = refl
expression_begins w.LeftBrace h = refl
expression_begins w.If h = refl
expression_begins w.While h = refl
expression_begins w.Do h = refl
expression_begins w.For h = refl
expression_begins w.Break h = refl
expression_begins w.Continue h = refl
expression_begins w.Return h = refl
expression_begins w.Ghost h = refl
expression_begins w.Assert h = refl
expression_begins _ h = h

pub stmt-Starts : Starts stmt begins_stmt
unfolding head
stmt-Starts = record {
  word = λ k ts a rest. stmt_cases (λ a. Takes k ts (stmt a) rest → begins_stmt (word_at ts) ≡ true)
      (λ t h. rw (word_is w.Semicolon t (shows _ (shape-Empty t) h)) refl)
      (λ e t h. let s = then-Takes (shows _ (shape-Expression e t) h) in expression_begins _ (assign-Starts.word k ts e s.mid s.first))
      (λ x h. rw (block_word x (shows _ (shape-Block x) h)) refl)
      (λ i o t c body h. rw (word_is w.If i (then-Takes (then-Takes (shows _ (shape-If i o t c body) h)).first).first) refl)
      (λ i o t c body e r h. rw (word_is w.If i (then-Takes (then-Takes (shows _ (shape-IfElse i o t c body e r) h)).first).first) refl)
      (λ i o t c body h. rw (word_is w.While i (then-Takes (then-Takes (shows _ (shape-While i o t c body) h)).first).first) refl)
      (λ d body i o t c z h. rw (word_is w.Do d (then-Takes (shows _ (shape-Do d body i o t c z) h)).first) refl)
      (λ i o x t z p c body h. rw (word_is w.For i (then-Takes (shows _ (shape-For i o x t z p c body) h)).first) refl)
      (λ i t h. rw (word_is w.Break i (then-Takes (shows _ (shape-Break i t) h)).first) refl)
      (λ i t h. rw (word_is w.Continue i (then-Takes (shows _ (shape-Continue i t) h)).first) refl)
      (λ i v t h. rw (word_is w.Return i (then-Takes (shows _ (shape-Return i v t) h)).first) refl)
      (λ t h. rw (word_is w.Ghost t (shows _ (shape-Ghost t) h)) refl)
      (λ t h. rw (word_is w.Assert t (shows _ (shape-Assert t) h)) refl)
      a;
}

left_of : (a b : Bool) → a ≡ true → (a || b) ≡ true
left_of true b h = refl
left_of false b h = cc

block_part-Starts : Starts block_part begins_part
block_part-Starts = record {
  word = λ k ts a rest. block_part_cases (λ a. Takes k ts (block_part a) rest → begins_part (word_at ts) ≡ true)
      (λ x h. left_of _ _ (local-Starts.word k ts x rest (subst (λ v. Takes k ts v rest) (block_part-Local x) h)))
      (λ x h. or_right _ _ (stmt-Starts.word k ts x rest (subst (λ v. Takes k ts v rest) (block_part-Stmt x) h)))
      a;
}

nested-Starts : {A : Type 0} (f : A → Written) (test : Word → Bool) → Starts f test → Starts (λ a. nested (f a)) test
nested-Starts {A} f test starts = record { word = begins }
  where
    begins : (k : ℕ) (ts : Leaves) (a : A) (rest : Leaves) → Takes k ts (nested (f a)) rest → test (word_at ts) ≡ true
    begins zero ts a rest h = absurd (omega (arith, h.below))
    begins (suc k) ts a rest h = starts.word k ts a rest (nested-Takes h)

-- ---- words that are apart

stmt_not_local : (x : Word) → begins_stmt x ≡ true → begins_local x ≡ false
stmt_not_local w.Register h = cc
stmt_not_local w.Const h = cc
stmt_not_local w.Void h = cc
stmt_not_local w.Struct h = cc
stmt_not_local w.Char h = cc
stmt_not_local w.Signed h = cc
stmt_not_local w.Unsigned h = cc
stmt_not_local w.Short h = cc
stmt_not_local w.Int h = cc
stmt_not_local w.Long h = cc
stmt_not_local _ h = refl

part_not_else : (x : Word) → begins_part x ≡ true → same w.Else x ≡ false
part_not_else w.Else h = cc
part_not_else _ h = refl

expression_not_semicolon : (x : Word) → begins_expression x ≡ true → same w.Semicolon x ≡ false
expression_not_semicolon w.Semicolon h = cc
expression_not_semicolon _ h = refl

expression_not_paren : (x : Word) → begins_expression x ≡ true → same w.RightParen x ≡ false
expression_not_paren w.RightParen h = cc
expression_not_paren _ h = refl

no_else : (b : Bool) (x : Word) → same w.Else x ≡ false → (b && same w.Else x) ≡ false
no_else true x h = h
no_else false x h = refl

only-Takes : {k : ℕ} {ts rest : Leaves} (c : Bool) → Takes k ts (only c) rest → (ts ≡ rest) × (c ≡ true)
unfolding only nothing
only-Takes c h = (h.spelled, h.levelled)

-- nothing goes on with a statement of this shape
ended : {rest : Leaves} (a : Stmt) {v : Written} {d : Bool} → shape a ≡ shaped v d → Ends (goes_on_stmt a) rest → (d && same w.Else (word_at rest)) ≡ false
ended {rest} a e end = ap (λ x. x.dangling && same w.Else (word_at rest)) (sym e) ∙ end.ends

module _ (n : ℕ) (here inside : Parser Assign) (inner : Parser Stmt) (here_complete : Complete (suc n) here assign goes_on_assign)
    (inside_complete : Complete n inside assign goes_on_assign) (inner_complete : CompleteBy n inner stmt goes_on_stmt) where
  -- ---- blocks

  block_part-Complete : Complete n (read.block_part n here inside inner) block_part (same w.Else)
  unfolding read.block_part
  block_part-Complete = record {
    gives = λ ts a rest.
        block_part_cases (λ a. Takes n ts (block_part a) rest → Ends (same w.Else) rest → read.block_part n here inside inner ts ≡ Some (a, rest))
        (λ x h end.
        let l = subst (λ v. Takes n ts v rest) (block_part-Local x) h in
        choose (begins_local (word_at ts)) _ _ ts (local-Starts.word n ts x rest l) ∙ gives_bind _ ((local-Complete n).gives ts x rest l (record { ends = refl })) refl)
        (λ x h end.
        let s = subst (λ v. Takes n ts v rest) (block_part-Stmt x) h in
        refuse_test (begins_local (word_at ts)) _ _ ts (stmt_not_local (word_at ts) (stmt-Starts.word n ts x rest s))
        ∙ gives_bind _ (inner_complete.gives ts x rest s (record { ends = no_else (is_dangling x) _ end.ends })) refl)
        a;
  }

  parts-Complete : Complete (suc n) (run_at begins_part (read.block_part n here inside inner)) (run nested_part) (λ x. begins_part x || same w.Else x)
  parts-Complete = run-Complete begins_part (read.block_part n here inside inner) nested_part (suc n) (same w.Else)
      (record { gives = λ ts a rest h end. block_part-Complete.gives ts a rest (nested-Takes h) end }) (nested-Starts block_part begins_part block_part-Starts) part_not_else refl

  -- a block has an end of its own
  pub block-Complete : Complete (suc n) (read.block n here inside inner) block (λ x. false)
  unfolding read.block
  block-Complete = record {
    gives = λ ts a rest h end.
        block_cases (λ a. Takes (suc n) ts (block a) rest → read.block n here inside inner ts ≡ Some (a, rest))
        (λ o parts c h.
        let s = then-Takes (subst (λ v. Takes (suc n) ts v rest) (block-is o parts c) h) in
        let t = then-Takes s.second in
        gives_bind _ (take_if-gives (same w.LeftBrace) o s.first)
        (gives_bind _ (parts-Complete.gives s.mid parts t.mid t.first (at_one w.RightBrace c t.second refl))
        (gives_bind _ (take_if-gives (same w.RightBrace) c t.second) refl)))
        a h;
  }

  -- ---- statements

  head-gives : (word : Word) (a : Head) (ts rest : Leaves) → Takes (suc n) ts (head_of word a) rest → read.head n here inside inner word ts ≡ Some (a, rest)
  unfolding read.head head
  head-gives word x ts rest h =
      let a = then-Takes h in
      let b = then-Takes a.second in
      let d = then-Takes b.second in
      gives_bind _ (take_if-gives (same word) x.first a.first) (gives_bind _ (take_if-gives (same w.LeftParen) x.opening b.first)
      (gives_bind _ (inside_complete.gives b.mid x.test d.mid (nested-Takes d.first) (at_one w.RightParen x.closing d.second refl))
      (gives_bind _ (take_if-gives (same w.RightParen) x.closing d.second) refl)))

  -- the word that a statement begins with says which it is
  by_word : (x : Word) (ts : Leaves) {r : Outcome Stmt} → word_at ts ≡ x → read.stmt_by n here inside inner x ts ≡ r → read.stmt n here inside inner ts ≡ r
  unfolding read.stmt
  by_word x ts e h = ap (λ x. read.stmt_by n here inside inner x ts) e ∙ h

  by_expression : (x : Word) (ts : Leaves) → begins_expression x ≡ true → read.stmt_by n here inside inner x ts ≡ read.expression n here inside inner ts
  by_expression w.Semicolon ts h = cc
  by_expression w.LeftBrace ts h = cc
  by_expression w.If ts h = cc
  by_expression w.While ts h = cc
  by_expression w.Do ts h = cc
  by_expression w.For ts h = cc
  by_expression w.Break ts h = cc
  by_expression w.Continue ts h = cc
  by_expression w.Return ts h = cc
  by_expression w.Ghost ts h = cc
  by_expression w.Assert ts h = cc
  by_expression _ ts h = refl

  module _ (ts rest : Leaves) where
    Given : Stmt → Type 0
    Given a = Takes (suc n) ts (stmt a) rest → Ends (goes_on_stmt a) rest → read.stmt n here inside inner ts ≡ Some (a, rest)

    expression-given : (e : Assign) (t : Leaf) → Given (s.Expression e t)
    unfolding Given read.stmt read.expression
    expression-given e t h end =
        let s = then-Takes (shows _ (shape-Expression e t) h) in
        by_expression (word_at ts) ts (assign-Starts.word (suc n) ts e s.mid s.first)
        ∙ gives_bind _ (here_complete.gives ts e s.mid s.first (at_one w.Semicolon t s.second refl)) (gives_bind _ (take_if-gives (same w.Semicolon) t s.second) refl)

    if-given : (i o : Leaf) (t : Assign) (c : Leaf) (body : Stmt) → Given (s.If i o t c body)
    unfolding Given read.conditional head
    if-given i o t c body h end =
        let z = then-Takes (shows _ (shape-If i o t c body) h) in
        let inside_body = nested-Takes z.second in
        let shut : same w.Else (word_at rest) ≡ false = ended (s.If i o t c body) (shape-If i o t c body) end in
        by_word w.If ts (word_is w.If i (then-Takes z.first).first)
        (deep_gives n _ ts (omega (arith, inside_body.below))
        ∙ gives_bind _ (head-gives w.If (record { first = i; opening = o; test = t; closing = c }) ts z.mid z.first)
        (gives_bind _ (inner_complete.gives z.mid body rest inside_body (record { ends = no_else (is_dangling body) _ shut })) (refuse_test (same w.Else (word_at rest)) _ _ rest shut)))

    if_else-given : (i o : Leaf) (t : Assign) (c : Leaf) (body : Stmt) (e : Leaf) (r : Stmt) → Given (s.IfElse i o t c body e r)
    unfolding Given read.conditional read.otherwise head
    if_else-given i o t c body e r h end =
        let z = then-Takes (shows _ (shape-IfElse i o t c body e r) h) in
        let b = then-Takes z.second in
        let d = then-Takes b.second in
        let shut = only-Takes (not (is_dangling body)) d.first in
        let f = then-Takes d.second in
        let inside_body = nested-Takes b.first in
        let body_ends : goes_on_stmt body (word_at b.mid) ≡ false = not_first (is_dangling body) _ shut.1 in
        let last : goes_on_stmt r (word_at rest) ≡ false = ended (s.IfElse i o t c body e r) (shape-IfElse i o t c body e r) end in
        by_word w.If ts (word_is w.If i (then-Takes z.first).first)
        (deep_gives n _ ts (omega (arith, inside_body.below))
        ∙ gives_bind _ (head-gives w.If (record { first = i; opening = o; test = t; closing = c }) ts z.mid z.first)
        (gives_bind _ (inner_complete.gives z.mid body b.mid inside_body (record { ends = body_ends }))
        (choose (same w.Else (word_at b.mid)) _ _ b.mid (ap (λ l. same w.Else (word_at l)) shut.0 ∙ take_if-word (same w.Else) e f.first)
        ∙ gives_bind _ (ap (take_if (same w.Else)) shut.0 ∙ take_if-gives (same w.Else) e f.first)
        (gives_bind _ (inner_complete.gives f.mid r rest (nested-Takes f.second) (record { ends = last })) refl))))
      where
        not_first : (a b : Bool) → not a ≡ true → (a && b) ≡ false
        not_first true b h = cc
        not_first false b h = refl

    while-given : (i o : Leaf) (t : Assign) (c : Leaf) (body : Stmt) → Given (s.While i o t c body)
    unfolding Given read.while_loop head
    while-given i o t c body h end =
        let z = then-Takes (shows _ (shape-While i o t c body) h) in
        let inside_body = nested-Takes z.second in
        let last : goes_on_stmt body (word_at rest) ≡ false = ended (s.While i o t c body) (shape-While i o t c body) end in
        by_word w.While ts (word_is w.While i (then-Takes z.first).first)
        (deep_gives n _ ts (omega (arith, inside_body.below))
        ∙ gives_bind _ (head-gives w.While (record { first = i; opening = o; test = t; closing = c }) ts z.mid z.first)
        (gives_bind _ (inner_complete.gives z.mid body rest inside_body (record { ends = last })) refl))

    do-given : (d : Leaf) (body : Stmt) (i o : Leaf) (t : Assign) (c z : Leaf) → Given (s.Do d body i o t c z)
    unfolding Given read.do_loop head
    do-given d body i o t c z h end =
        let a = then-Takes (shows _ (shape-Do d body i o t c z) h) in
        let b = then-Takes a.second in
        let e = then-Takes b.second in
        let inside_body = nested-Takes b.first in
        let word = word_is w.While i (then-Takes e.first).first in
        by_word w.Do ts (word_is w.Do d a.first)
        (deep_gives n _ ts (omega (arith, inside_body.below))
        ∙ gives_bind _ (take_if-gives (same w.Do) d a.first)
        (gives_bind _ (inner_complete.gives a.mid body b.mid inside_body (record { ends = no_else (is_dangling body) _ (ap (same w.Else) word) }))
        (gives_bind _ (head-gives w.While (record { first = i; opening = o; test = t; closing = c }) b.mid e.mid e.first)
        (gives_bind _ (take_if-gives (same w.Semicolon) z e.second) refl))))

    block-given : (x : Block) → Given (s.Block x)
    unfolding Given
    block-given x h end =
        let b = shows _ (shape-Block x) h in
        by_word w.LeftBrace ts (block_word x b) (gives_bind _ (block-Complete.gives ts x rest b (record { ends = refl })) refl)

    return-given : (i : Leaf) (v : Option Assign) (t : Leaf) → Given (s.Return i v t)
    unfolding Given read.return_stmt
    return-given i v t h end =
        let a = then-Takes (shows _ (shape-Return i v t) h) in
        by_word w.Return ts (word_is w.Return i a.first)
        (gives_bind _ (take_if-gives (same w.Return) i a.first)
        (gives_bind _ (up_to-gives (suc n) w.Semicolon here assign goes_on_assign begins_expression here_complete assign-Starts expression_not_semicolon refl a.mid v t rest a.second) refl))

  -- what stands before the first `;` of a `for`, where it is no declaration
  value_begins : (v : Option Assign) (z : Leaf) {k : ℕ} {ts rest : Leaves} → Takes k ts (optional assign v then one w.Semicolon z) rest → begins_stmt (word_at ts) ≡ true
  unfolding optional
  value_begins None z h = let s = then-Takes h in rw (nothing-Takes s.first) (rw (word_is w.Semicolon z s.second) refl)
  value_begins (Some v) z {k} {ts} h = let s = then-Takes h in expression_begins _ (assign-Starts.word k ts v s.mid s.first)

  for_first-gives : (ts : Leaves) (a : ForFirst) (rest : Leaves) → Takes n ts (for_first a) rest → read.for_first n here inside inner ts ≡ Some (a, rest)
  unfolding read.for_first read.for_expression for_first
  for_first-gives ts (f.Local x) rest h =
      choose (begins_local (word_at ts)) _ _ ts (local-Starts.word n ts x rest h) ∙ gives_bind _ ((local-Complete n).gives ts x rest h (record { ends = refl })) refl
  for_first-gives ts (f.Expression v z) rest h =
      refuse_test (begins_local (word_at ts)) _ _ ts (stmt_not_local (word_at ts) (value_begins v z h))
      ∙ gives_bind _ (up_to-gives n w.Semicolon inside assign goes_on_assign begins_expression inside_complete assign-Starts expression_not_semicolon refl ts v z rest h) refl

  -- a leaf nests nothing
  narrower : (word : Word) (t : Leaf) {v : Written} {before ts rest : Leaves} → Takes n before v ts → Takes (suc n) ts (one word t) rest → Takes n ts (one word t) rest
  unfolding one_of
  narrower word t known h = record { spelled = h.spelled; levelled = h.levelled; below = omega (arith, known.below) }

  control-gives : (ts : Leaves) (x : Control) (rest : Leaves) → Takes (suc n) ts (control_of x) rest → read.control n here inside inner ts ≡ Some (x, rest)
  unfolding read.control
  control-gives ts x rest h =
      let a = then-Takes h in
      let b = then-Takes a.second in
      let d = then-Takes b.second in
      let q = then-Takes (nested-Takes d.first) in
      let r = then-Takes q.second in
      let z = then-Takes r.second in
      gives_bind _ (take_if-gives (same w.For) x.first a.first) (gives_bind _ (take_if-gives (same w.LeftParen) x.opening b.first)
      (gives_bind _ (for_first-gives b.mid x.start q.mid q.first)
      (gives_bind _ (up_to-gives n w.Semicolon inside assign goes_on_assign begins_expression inside_complete assign-Starts expression_not_semicolon refl
      q.mid x.test x.semicolon z.mid (Takes-then r.first z.first))
      (gives_bind _ (up_to-gives n w.RightParen inside assign goes_on_assign begins_expression inside_complete assign-Starts expression_not_paren refl
      z.mid x.step x.closing rest (Takes-then z.second (narrower w.RightParen x.closing z.second d.second))) refl))))

  for-given : (ts rest : Leaves) (i o : Leaf) (x : ForFirst) (t : Option Assign) (z : Leaf) (p : Option Assign) (c : Leaf) (body : Stmt) → Given ts rest (s.For i o x t z p c body)
  unfolding Given read.for_loop
  for-given ts rest i o x t z p c body h end =
      let a = then-Takes (shows _ (shape-For i o x t z p c body) h) in
      let b = then-Takes a.second in
      let d = then-Takes b.second in
      let e = then-Takes d.second in
      let inside_body = nested-Takes e.second in
      let last : goes_on_stmt body (word_at rest) ≡ false = ended (s.For i o x t z p c body) (shape-For i o x t z p c body) end in
      let front : Control = record { first = i; opening = o; start = x; test = t; semicolon = z; step = p; closing = c } in
      by_word w.For ts (word_is w.For i a.first)
      (deep_gives n _ ts (omega (arith, inside_body.below))
      ∙ gives_bind _ (control-gives ts front e.mid (Takes-then a.first (Takes-then b.first (Takes-then d.first e.first))))
      (gives_bind _ (inner_complete.gives e.mid body rest inside_body (record { ends = last })) refl))

  pub stmt-gives : (ts : Leaves) (a : Stmt) (rest : Leaves) → Takes (suc n) ts (stmt a) rest → Ends (goes_on_stmt a) rest → read.stmt n here inside inner ts ≡ Some (a, rest)
  unfolding Given read.break_stmt read.continue_stmt
  stmt-gives ts a rest = stmt_cases (Given ts rest)
      (λ t h end. let e = shows _ (shape-Empty t) h in by_word w.Semicolon ts (word_is w.Semicolon t e) (gives_bind _ (take_if-gives (same w.Semicolon) t e) refl))
      (expression-given ts rest)
      (block-given ts rest)
      (if-given ts rest)
      (if_else-given ts rest)
      (while-given ts rest)
      (do-given ts rest)
      (for-given ts rest)
      (λ i t h end.
      let e = then-Takes (shows _ (shape-Break i t) h) in
      by_word w.Break ts (word_is w.Break i e.first) (gives_bind _ (take_if-gives (same w.Break) i e.first) (gives_bind _ (take_if-gives (same w.Semicolon) t e.second) refl)))
      (λ i t h end.
      let e = then-Takes (shows _ (shape-Continue i t) h) in
      by_word w.Continue ts (word_is w.Continue i e.first) (gives_bind _ (take_if-gives (same w.Continue) i e.first) (gives_bind _ (take_if-gives (same w.Semicolon) t e.second) refl)))
      (return-given ts rest)
      (λ t h end. let e = shows _ (shape-Ghost t) h in by_word w.Ghost ts (word_is w.Ghost t e) (gives_bind _ (take_if-gives (same w.Ghost) t e) refl))
      (λ t h end. let e = shows _ (shape-Assert t) h in by_word w.Assert ts (word_is w.Assert t e) (gives_bind _ (take_if-gives (same w.Assert) t e) refl))
      a
