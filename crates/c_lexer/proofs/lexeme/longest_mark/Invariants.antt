use Rattle.std.proofs.Common.{◌≡◌, ℕ, ◌≤◌, true, length, take}
use Rattle.c_lexer.specs.Lexemes.{is_mark}
use Rattle.c_lexer.proofs.lexeme.longest_mark.Given as goal

abbrev pub invariant-loop-len : goal.invariant-loop-len
invariant-loop-len l = record {
  within : l.len ≤ length l.text;
  longest : (m : ℕ) → m ≤ length l.text → is_mark l.profile (take m l.text) ≡ true → m ≤ l.len;
}

abbrev pub decreases-loop-len : goal.decreases-loop-len
decreases-loop-len l = l.len
