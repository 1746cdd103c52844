-- A statement that is spelled and fits is read, whatever follows it.
use Rattle.std.proofs.Common.{◌≡◌, ℕ, true, List, ◌++◌, length, Some, refl, ℤ, pos, negsuc, ◌≤ℤ◌, arith}
use Rattle.std.specs.Fmt.{signed_decimal}
use Rattle.std.proofs.lemmas.Int.{ints}
use Rattle.c_words.specs.declared.word.Mode.{Mode}
use Rattle.c_words.specs.declared.word.Mode.TheVariants as mode
use Rattle.c_parser.specs.declared.first_form.tree.FirstStmt.{FirstStmt}
use Rattle.c_parser.specs.declared.first_form.tree.FirstStmt.TheVariants as stmt
use Rattle.c_parser.specs.FirstForm.Spelling.{Word, statement_words}
use Rattle.c_parser.specs.FirstForm.Texts.{StatementFits}
use Rattle.c_parser.specs.FirstForm.FixedWords.{is_fixed}
use Rattle.c_parser.specs.FirstForm.Reading.{Left, take_word, is_at, expect, expect_all, name, number, number_of, variable, assignment, call, named_statement, assertion, empty_statement, woven_statement, statement, next_statement, body_goes_on}
use Rattle.c_parser.proofs.FirstForm.Taking.{before, gives_bind, spend-gives}
use Rattle.c_parser.proofs.FirstForm.NumberFacts.{number_of-decimal}
use Rattle.c_parser.proofs.FirstForm.NameLaws.{AreDistinct, variable_of-at, function_of-at}

module _ (globals functions : List (List ℕ)) (distinct : AreDistinct (globals ++ functions)) where
  abbrev from_words : List Word → ℕ → Left
  from_words ws n = record { words = ws; budget = n }

  small_number : (n : ℤ) → pos 0 ≤ℤ n → n ≤ℤ pos 2147483647 → number_of (signed_decimal n) ≡ Some n
  small_number (pos m) low high = number_of-decimal m (omega (arith, ints))
  small_number (negsuc m) low high = absurd (omega (arith, ints))

  pub statement-gives : (m : Mode) (a : FirstStmt) (ws : List Word) (n : ℕ) → StatementFits m (length globals) (length functions) a
      → statement m (length globals) (globals ++ functions) (from_words (statement_words globals functions a ++ ws) n) ≡ Some (a, from_words ws n)
  unfolding statement named_statement assignment call woven_statement empty_statement assertion variable number name expect_all expect take_word is_at is_fixed
  statement-gives m (stmt.Assign i k) ws n fits =
      let at = variable_of-at globals functions distinct i fits.0 in
      let value = small_number k fits.1 fits.2 in
      rw (at, value) refl
  statement-gives m (stmt.Call f) ws n fits = let at = function_of-at globals functions distinct f fits in rw at refl
  statement-gives mode.Woven stmt.Empty ws n fits = refl
  statement-gives mode.Source stmt.Empty ws n fits = cc
  statement-gives mode.Woven (stmt.Assert y x) ws n fits =
      let left = variable_of-at globals functions distinct y fits.1 in
      let right = variable_of-at globals functions distinct x fits.2 in
      rw (left, right) refl
  statement-gives mode.Source (stmt.Assert y x) ws n fits = let no_mode : mode.Source ≡ mode.Woven = fits.0 in cc

  pub next_statement-gives : (m : Mode) (found : List FirstStmt) (a : FirstStmt) (rest : Left) → StatementFits m (length globals) (length functions) a
      → next_statement m (length globals) (globals ++ functions) found (before (statement_words globals functions a) 1 rest) ≡ Some (a, rest)
  unfolding next_statement
  next_statement-gives m found a rest fits = gives_bind _ (spend-gives (statement_words globals functions a ++ rest.words) rest.budget) (statement-gives m a rest.words rest.budget fits)

  pub statement-begins : (m : Mode) (a : FirstStmt) (ws : List Word) → body_goes_on (statement_words globals functions a ++ ws) ≡ true
  unfolding body_goes_on is_at is_fixed
  statement-begins m (stmt.Assign i k) ws = refl
  statement-begins m (stmt.Call f) ws = refl
  statement-begins m stmt.Empty ws = refl
  statement-begins m (stmt.Assert y x) ws = refl
