-- Statements and blocks at all levels: the parser gives a tree exactly where one stands.
use Rattle.std.proofs.Common.{◌≡◌, ℕ, zero, suc, false, Option, Some, None, refl, arith}
use Rattle.c_words.specs.declared.word.Word.TheVariants as w
use Rattle.c_words.specs.Words.{same}
use Rattle.c_grammar.specs.Statements.{block, stmt}
use Rattle.c_words.proofs.Reading.{Sound, Complete, Starts}
use Rattle.c_words.proofs.Runs.{CompleteBy}
use Rattle.c_expressions.specs.ExpressionReading.{inner_at}
use Rattle.c_statements.specs.StatementReading.{stmt_at, block_at, goes_on_stmt}
use Rattle.c_expressions.proofs.ExpressionLaws.{exact}
use Rattle.c_statements.proofs.StatementSoundness.{Greedy, stmt-stands, block-Sound}
use Rattle.c_statements.proofs.StatementCompleteness.{block_word, stmt-gives, block-Complete}

-- ---- statements

pub record StmtExact (k : ℕ) : Type 0 where
  pub sound : Sound k (stmt_at k) stmt
  pub greedy : Greedy (stmt_at k)
  pub complete : CompleteBy k (stmt_at k) stmt goes_on_stmt

none_some : {X : Type 0} {x : X} → ◌≡◌ {A = Option X} None (Some x) → ⊥
none_some h = cc

pub stmt_exact : (k : ℕ) → StmtExact k
unfolding stmt_at
stmt_exact zero = record {
  sound = record { takes = λ ts a rest h. absurd (none_some h) };
  greedy = record { no_else = λ ts a rest h. absurd (none_some h) };
  complete = record { gives = λ ts a rest h end. absurd (omega (arith, h.below)) };
}
stmt_exact (suc n) =
    let inner = stmt_exact n in
    let here = exact (suc n) in
    let inside = exact n in
    let stands = stmt-stands n (inner_at (suc n)).assign (inner_at n).assign (stmt_at n) here.assign_sound inside.assign_sound inner.sound inner.greedy in
    record {
      sound = record { takes = λ ts a rest h. (stands ts a rest h).takes };
      greedy = record { no_else = λ ts a rest h. (stands ts a rest h).no_else };
      complete = record {
        gives = stmt-gives n (inner_at (suc n)).assign (inner_at n).assign (stmt_at n) here.assign_complete inside.assign_complete inner.complete;
      };
    }

-- ---- blocks

pub record BlockExact (k : ℕ) : Type 0 where
  pub sound : Sound k (block_at k) block
  pub complete : Complete k (block_at k) block (λ x. false)

pub block_exact : (k : ℕ) → BlockExact k
unfolding block_at
block_exact zero = record {
  sound = record { takes = λ ts a rest h. absurd (none_some h) };
  complete = record { gives = λ ts a rest h end. absurd (omega (arith, h.below)) };
}
block_exact (suc n) =
    let inner = stmt_exact n in
    let here = exact (suc n) in
    let inside = exact n in
    record {
      sound = block-Sound n (inner_at (suc n)).assign (inner_at n).assign (stmt_at n) here.assign_sound inside.assign_sound inner.sound inner.greedy;
      complete = block-Complete n (inner_at (suc n)).assign (inner_at n).assign (stmt_at n) here.assign_complete inside.assign_complete inner.complete;
    }

pub block-Starts : Starts block (same w.LeftBrace)
block-Starts = record { word = λ k ts a rest h. rw (block_word a h) refl }
