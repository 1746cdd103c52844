-- Statements and blocks at one level: what the parser gives stands there.
use Rattle.std.proofs.Common.{◌≡◌, ℕ, suc, ◌<◌, Bool, true, false, ◌&&◌, not, Option, Some, refl, sym, ap, ◌∙◌, ⊎_elim, arith}
use Rattle.c_words.specs.declared.word.Word.{Word}
use Rattle.c_words.specs.declared.word.Word.TheVariants as w
use Rattle.c_words.specs.declared.word.Leaf.{Leaf}
use Rattle.c_grammar.specs.declared.expression.Assign.{Assign}
use Rattle.c_grammar.specs.declared.statement.ForFirst.{ForFirst}
use Rattle.c_grammar.specs.declared.statement.Stmt.{Stmt}
use Rattle.c_words.specs.Words.{same}
use Rattle.c_words.specs.Written.{Written, nothing, ◌then◌, one, one_of, only, optional, run, Takes}
use Rattle.c_grammar.specs.Expressions.{assign}
use Rattle.c_grammar.specs.Statements.{for_first, head, shape, block, block_part, stmt, is_dangling}
use Rattle.c_words.specs.Parsing.{Leaves, Outcome, Parser, word_at, take_if, expect, run_at}
use Rattle.c_words.proofs.Taking.{Takes-nothing, Takes-then, then-Takes, Takes-nested}
use Rattle.c_words.proofs.Reading.{bind_ok, chosen, same_pair, Sound, take_if-takes, finish}
use Rattle.c_words.proofs.Runs.{run-Sound}
use Rattle.c_statements.specs.declared.head.Control.{Control}
use Rattle.c_statements.specs.StatementReading as read
use Rattle.c_statements.specs.StatementReading.{begins_local, begins_stmt, begins_part, goes_on_stmt}
use Rattle.c_statements.proofs.Deep.{deep-takes}
use Rattle.c_statements.proofs.LocalLaws.{local-Sound}
use Rattle.c_statements.proofs.StatementShapes.{shaped, for_parts, nested_part, head_of, control_of, shape-Empty, shape-Expression, shape-Block, shape-If, shape-IfElse, shape-While, shape-Do, shape-For, shape-Break, shape-Continue, shape-Return, shape-Ghost, shape-Assert, block_part-Local, block_part-Stmt, block-is}

-- ---- parts that are left out before a word

pub unless-takes : {A : Type 0} (k : ℕ) → 0 < k → (stop : Word) (part : Parser A) (f : A → Written) → Sound k part f
    → (ts : Leaves) (a : Option A) (rest : Leaves) → read.unless stop part ts ≡ Some (a, rest) → Takes k ts (optional f a) rest
unfolding read.unless optional
unless-takes k some stop part f sound ts a rest h = ⊎_elim
    (λ q. finish (optional f) refl q.1 (Takes-nothing k ts some))
    (λ q. let x = bind_ok (part ts) _ a rest q.1 in finish (optional f) refl x.second (sound.takes _ _ _ x.first))
    (chosen (same stop (word_at ts)) _ _ ts _ h)

up_to-takes : {A : Type 0} (k : ℕ) → 0 < k → (stop : Word) (part : Parser A) (f : A → Written) → Sound k part f
    → (ts : Leaves) (a : Option A × Leaf) (rest : Leaves) → read.up_to stop part ts ≡ Some (a, rest) → Takes k ts (optional f a.0 then one stop a.1) rest
unfolding read.up_to
up_to-takes k some stop part f sound ts a rest h =
    let v = bind_ok (read.unless stop part ts) _ a rest h in
    let z = bind_ok (expect stop v.mid) _ a rest v.second in
    finish (λ x. optional f x.0 then one stop x.1) refl z.second (Takes-then (unless-takes k some stop part f sound _ _ _ v.first) (take_if-takes k some _ _ _ _ z.first))

-- ---- soundness

-- an `else` that stands after what a parser gives is taken by the statement itself
pub record Greedy (p : Parser Stmt) : Type 0 where
  pub no_else : (ts : Leaves) (a : Stmt) (rest : Leaves) → p ts ≡ Some (a, rest) → goes_on_stmt a (word_at rest) ≡ false

-- what a parser of statements gives
pub record Stands (k : ℕ) (ts : Leaves) (a : Stmt) (rest : Leaves) : Type 0 where
  pub takes : Takes k ts (stmt a) rest
  pub no_else : goes_on_stmt a (word_at rest) ≡ false

-- the last step of a parser of statements
made : {k : ℕ} (t : Stmt) {v : Written} {d : Bool} {a : Stmt} {ts mid rest : Leaves} → shape t ≡ shaped v d → ◌≡◌ {A = Outcome Stmt} (Some (t, mid)) (Some (a, rest))
    → Takes k ts v mid → (d && same w.Else (word_at mid)) ≡ false → Stands k ts a rest
made t {d = d} {rest = rest} e h takes last =
    let q = same_pair h in
    record {
      takes = finish stmt (ap (λ x. x.written) e) h takes;
      no_else = ap (λ x. is_dangling x && same w.Else (word_at rest)) (sym q.0) ∙ ap (λ x. x.dangling && same w.Else (word_at rest)) e
          ∙ ap (λ r. d && same w.Else (word_at r)) (sym q.1) ∙ last;
    }

Takes-only : (k : ℕ) (ts : Leaves) (c : Bool) → 0 < k → c ≡ true → Takes k ts (only c) ts
unfolding only nothing
Takes-only k ts c some h = record { spelled = refl; levelled = h; below = omega arith }

module _ (n : ℕ) (here inside : Parser Assign) (inner : Parser Stmt) (here_sound : Sound (suc n) here assign) (inside_sound : Sound n inside assign)
    (inner_sound : Sound n inner stmt) (greedy : Greedy inner) where
  took : (test : Word → Bool) (ts : Leaves) (t : Leaf) (rest : Leaves) → take_if test ts ≡ Some (t, rest) → Takes (suc n) ts (one_of test t) rest
  took = take_if-takes (suc n) (omega arith)

  block_part-Sound : Sound n (read.block_part n here inside inner) block_part
  unfolding read.block_part
  block_part-Sound = record {
    takes = λ ts a rest h. ⊎_elim
        (λ q. let x = bind_ok (read.local n ts) _ a rest q.1 in finish block_part (block_part-Local x.value) x.second ((local-Sound n).takes _ _ _ x.first))
        (λ q. let x = bind_ok (inner ts) _ a rest q.1 in finish block_part (block_part-Stmt x.value) x.second (inner_sound.takes _ _ _ x.first))
        (chosen (begins_local (word_at ts)) _ _ ts _ h);
  }

  pub block-Sound : Sound (suc n) (read.block n here inside inner) block
  unfolding read.block
  block-Sound = record {
    takes = λ ts a rest h.
        let part = read.block_part n here inside inner in
        let parts_sound : Sound (suc n) (run_at begins_part part) (run nested_part) =
        run-Sound begins_part part nested_part (suc n) (record { takes = λ ts a rest h. Takes-nested (block_part-Sound.takes ts a rest h) }) (omega arith) in
        let o = bind_ok (expect w.LeftBrace ts) _ a rest h in
        let p = bind_ok (run_at begins_part part o.mid) _ a rest o.second in
        let c = bind_ok (expect w.RightBrace p.mid) _ a rest p.second in
        finish block (block-is o.value p.value c.value) c.second (Takes-then (took _ _ _ _ o.first) (Takes-then (parts_sound.takes _ _ _ p.first) (took _ _ _ _ c.first)));
  }

  -- ---- statements

  expression-stands : (ts : Leaves) (a : Stmt) (rest : Leaves) → read.expression n here inside inner ts ≡ Some (a, rest) → Stands (suc n) ts a rest
  unfolding read.expression
  expression-stands ts a rest h =
      let e = bind_ok (here ts) _ a rest h in
      let t = bind_ok (expect w.Semicolon e.mid) _ a rest e.second in
      made _ (shape-Expression e.value t.value) t.second (Takes-then (here_sound.takes _ _ _ e.first) (took _ _ _ _ t.first)) refl

  head-Sound : (word : Word) → Sound (suc n) (read.head n here inside inner word) (head_of word)
  unfolding read.head head
  head-Sound word = record {
    takes = λ ts a rest h.
        let i = bind_ok (expect word ts) _ a rest h in
        let o = bind_ok (expect w.LeftParen i.mid) _ a rest i.second in
        let t = bind_ok (inside o.mid) _ a rest o.second in
        let c = bind_ok (expect w.RightParen t.mid) _ a rest t.second in
        finish (head_of word) refl c.second
        (Takes-then (took _ _ _ _ i.first)
        (Takes-then (took _ _ _ _ o.first) (Takes-then (Takes-nested (inside_sound.takes _ _ _ t.first)) (took _ _ _ _ c.first))));
  }

  conditional-stands : (ts : Leaves) (a : Stmt) (rest : Leaves) → read.conditional n here inside inner ts ≡ Some (a, rest) → Stands (suc n) ts a rest
  unfolding read.conditional read.otherwise
  conditional-stands ts a rest h =
      let i = bind_ok (read.head n here inside inner w.If ts) _ a rest h in
      let b = bind_ok (inner i.mid) _ a rest i.second in
      let front = (head-Sound w.If).takes _ _ _ i.first in
      let body = Takes-nested (inner_sound.takes _ _ _ b.first) in
      ⊎_elim
      (λ q.
      let e = bind_ok (expect w.Else b.mid) _ a rest q.1 in
      let r = bind_ok (inner e.mid) _ a rest e.second in
      let shut : not (is_dangling b.value) ≡ true = not_first (is_dangling b.value) _ q.0 (greedy.no_else _ _ _ b.first) in
      made _ (shape-IfElse i.value.first i.value.opening i.value.test i.value.closing b.value e.value r.value) r.second
      (Takes-then front
      (Takes-then body (Takes-then (Takes-only (suc n) b.mid _ (omega arith) shut) (Takes-then (took _ _ _ _ e.first) (Takes-nested (inner_sound.takes _ _ _ r.first))))))
      (greedy.no_else _ _ _ r.first))
      (λ q. made _ (shape-If i.value.first i.value.opening i.value.test i.value.closing b.value) q.1 (Takes-then front body) q.0)
      (chosen (same w.Else (word_at b.mid)) _ _ b.mid _ b.second)
    where
      not_first : (a b : Bool) → b ≡ true → (a && b) ≡ false → not a ≡ true
      not_first true b e h = cc
      not_first false b e h = refl

  while-stands : (ts : Leaves) (a : Stmt) (rest : Leaves) → read.while_loop n here inside inner ts ≡ Some (a, rest) → Stands (suc n) ts a rest
  unfolding read.while_loop
  while-stands ts a rest h =
      let i = bind_ok (read.head n here inside inner w.While ts) _ a rest h in
      let b = bind_ok (inner i.mid) _ a rest i.second in
      made _ (shape-While i.value.first i.value.opening i.value.test i.value.closing b.value) b.second
      (Takes-then ((head-Sound w.While).takes _ _ _ i.first) (Takes-nested (inner_sound.takes _ _ _ b.first))) (greedy.no_else _ _ _ b.first)

  do-stands : (ts : Leaves) (a : Stmt) (rest : Leaves) → read.do_loop n here inside inner ts ≡ Some (a, rest) → Stands (suc n) ts a rest
  unfolding read.do_loop
  do-stands ts a rest h =
      let d = bind_ok (expect w.Do ts) _ a rest h in
      let b = bind_ok (inner d.mid) _ a rest d.second in
      let i = bind_ok (read.head n here inside inner w.While b.mid) _ a rest b.second in
      let z = bind_ok (expect w.Semicolon i.mid) _ a rest i.second in
      made _ (shape-Do d.value b.value i.value.first i.value.opening i.value.test i.value.closing z.value) z.second
      (Takes-then (took _ _ _ _ d.first) (Takes-then (Takes-nested (inner_sound.takes _ _ _ b.first)) (Takes-then ((head-Sound w.While).takes _ _ _ i.first) (took _ _ _ _ z.first)))) refl

  for_first-takes : 0 < n → (ts : Leaves) (a : ForFirst) (rest : Leaves) → read.for_first n here inside inner ts ≡ Some (a, rest) → Takes n ts (for_first a) rest
  unfolding read.for_first read.for_expression for_first
  for_first-takes some ts a rest h = ⊎_elim
      (λ q. let x = bind_ok (read.local n ts) _ a rest q.1 in finish for_first refl x.second ((local-Sound n).takes _ _ _ x.first))
      (λ q.
      let v = bind_ok (read.up_to w.Semicolon inside ts) _ a rest q.1 in
      finish for_first refl v.second (up_to-takes n some w.Semicolon inside assign inside_sound _ _ _ v.first))
      (chosen (begins_local (word_at ts)) _ _ ts _ h)

  -- what nests less than the one number nests less than the other
  wider : {ts rest : Leaves} {a : Written} → Takes n ts a rest → Takes (suc n) ts a rest
  wider h = record { spelled = h.spelled; levelled = h.levelled; below = omega (arith, h.below) }

  control-takes : 0 < n → (ts : Leaves) (a : Control) (rest : Leaves) → read.control n here inside inner ts ≡ Some (a, rest) → Takes (suc n) ts (control_of a) rest
  unfolding read.control
  control-takes some ts a rest h =
      let i = bind_ok (expect w.For ts) _ a rest h in
      let o = bind_ok (expect w.LeftParen i.mid) _ a rest i.second in
      let x = bind_ok (read.for_first n here inside inner o.mid) _ a rest o.second in
      let t = bind_ok (read.up_to w.Semicolon inside x.mid) _ a rest x.second in
      let p = bind_ok (read.up_to w.RightParen inside t.mid) _ a rest t.second in
      let test = then-Takes (up_to-takes n some w.Semicolon inside assign inside_sound _ _ _ t.first) in
      let step = then-Takes (up_to-takes n some w.RightParen inside assign inside_sound _ _ _ p.first) in
      let parts : Takes n o.mid (for_parts x.value t.value.0 t.value.1 p.value.0) step.mid =
      Takes-then (for_first-takes some _ _ _ x.first) (Takes-then test.first (Takes-then test.second step.first)) in
      finish control_of refl p.second (Takes-then (took _ _ _ _ i.first) (Takes-then (took _ _ _ _ o.first) (Takes-then (Takes-nested parts) (wider step.second))))

  for-stands : 0 < n → (ts : Leaves) (a : Stmt) (rest : Leaves) → read.for_loop n here inside inner ts ≡ Some (a, rest) → Stands (suc n) ts a rest
  unfolding read.for_loop
  for-stands some ts a rest h =
      let c = bind_ok (read.control n here inside inner ts) _ a rest h in
      let b = bind_ok (inner c.mid) _ a rest c.second in
      let x = c.value in
      let i = then-Takes (control-takes some _ _ _ c.first) in
      let o = then-Takes i.second in
      let p = then-Takes o.second in
      made _ (shape-For x.first x.opening x.start x.test x.semicolon x.step x.closing b.value) b.second
      (Takes-then i.first (Takes-then o.first (Takes-then p.first (Takes-then p.second (Takes-nested (inner_sound.takes _ _ _ b.first))))))
      (greedy.no_else _ _ _ b.first)

  break-stands : (ts : Leaves) (a : Stmt) (rest : Leaves) → read.break_stmt n here inside inner ts ≡ Some (a, rest) → Stands (suc n) ts a rest
  unfolding read.break_stmt
  break-stands ts a rest h =
      let i = bind_ok (expect w.Break ts) _ a rest h in
      let t = bind_ok (expect w.Semicolon i.mid) _ a rest i.second in
      made _ (shape-Break i.value t.value) t.second (Takes-then (took _ _ _ _ i.first) (took _ _ _ _ t.first)) refl

  continue-stands : (ts : Leaves) (a : Stmt) (rest : Leaves) → read.continue_stmt n here inside inner ts ≡ Some (a, rest) → Stands (suc n) ts a rest
  unfolding read.continue_stmt
  continue-stands ts a rest h =
      let i = bind_ok (expect w.Continue ts) _ a rest h in
      let t = bind_ok (expect w.Semicolon i.mid) _ a rest i.second in
      made _ (shape-Continue i.value t.value) t.second (Takes-then (took _ _ _ _ i.first) (took _ _ _ _ t.first)) refl

  return-stands : (ts : Leaves) (a : Stmt) (rest : Leaves) → read.return_stmt n here inside inner ts ≡ Some (a, rest) → Stands (suc n) ts a rest
  unfolding read.return_stmt
  return-stands ts a rest h =
      let i = bind_ok (expect w.Return ts) _ a rest h in
      let v = bind_ok (read.up_to w.Semicolon here i.mid) _ a rest i.second in
      made _ (shape-Return i.value v.value.0 v.value.1) v.second
      (Takes-then (took _ _ _ _ i.first) (up_to-takes (suc n) (omega arith) w.Semicolon here assign here_sound _ _ _ v.first)) refl

  stmt_by-stands : (x : Word) (ts : Leaves) (a : Stmt) (rest : Leaves) → read.stmt_by n here inside inner x ts ≡ Some (a, rest) → Stands (suc n) ts a rest
  stmt_by-stands w.Semicolon ts a rest h =
      let t = bind_ok (expect w.Semicolon ts) _ a rest h in
      made _ (shape-Empty t.value) t.second (took _ _ _ _ t.first) refl
  stmt_by-stands w.LeftBrace ts a rest h =
      let x = bind_ok (read.block n here inside inner ts) _ a rest h in
      made _ (shape-Block x.value) x.second (block-Sound.takes _ _ _ x.first) refl
  stmt_by-stands w.If ts a rest h = conditional-stands ts a rest (deep-takes n _ ts a rest h).1
  stmt_by-stands w.While ts a rest h = while-stands ts a rest (deep-takes n _ ts a rest h).1
  stmt_by-stands w.Do ts a rest h = do-stands ts a rest (deep-takes n _ ts a rest h).1
  stmt_by-stands w.For ts a rest h = let d = deep-takes n _ ts a rest h in for-stands d.0 ts a rest d.1
  stmt_by-stands w.Break ts a rest h = break-stands ts a rest h
  stmt_by-stands w.Continue ts a rest h = continue-stands ts a rest h
  stmt_by-stands w.Return ts a rest h = return-stands ts a rest h
  stmt_by-stands w.Ghost ts a rest h =
      let t = bind_ok (expect w.Ghost ts) _ a rest h in
      made _ (shape-Ghost t.value) t.second (took _ _ _ _ t.first) refl
  stmt_by-stands w.Assert ts a rest h =
      let t = bind_ok (expect w.Assert ts) _ a rest h in
      made _ (shape-Assert t.value) t.second (took _ _ _ _ t.first) refl
  stmt_by-stands _ ts a rest h = expression-stands ts a rest h

  pub stmt-stands : (ts : Leaves) (a : Stmt) (rest : Leaves) → read.stmt n here inside inner ts ≡ Some (a, rest) → Stands (suc n) ts a rest
  unfolding read.stmt
  stmt-stands ts a rest h = stmt_by-stands (word_at ts) ts a rest h
