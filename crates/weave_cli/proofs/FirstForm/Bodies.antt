-- Statements, bodies and functions read as the words that the program writes.
use Rattle.std.proofs.Common.{◌≡◌, ℕ, zero, suc, ◌<◌, ◌≤◌, true, List, [], ◌∷◌, ◌++◌, length, get_or, sym, subst, append_assoc, arith}
use Rattle.std.specs.Prelude.{codes}
use Rattle.std.specs.List.{AllByRecursion, flat_map}
use Rattle.std.proofs.lemmas.List.{length-map}
use Rattle.std.proofs.lemmas.Option.{unwrap_or-slice_get}
use Rattle.c_words.specs.declared.word.Mode.{Mode}
use Rattle.c_parser.specs.declared.first_form.tree.FirstStmt.{FirstStmt}
use Rattle.c_parser.specs.declared.first_form.tree.FirstStmt.TheVariants as stmt
use Rattle.c_parser.specs.FirstForm.Program.{Function, Program}
use Rattle.c_parser.specs.FirstForm.Spelling.{Word, name_at, names_of, declaration_words, statement_words}
use Rattle.c_parser.specs.FirstForm.Texts.{is_name, StatementFits}
use Rattle.weave_cli.specs.FirstForm.Layout.{declarations_text, statement_text, body_text}
use Rattle.weave_cli.proofs.FirstForm.Lexing.{Lexes, lexes_as}
use Rattle.weave_cli.proofs.FirstForm.Numerals.{signed_is_decimal}
use Rattle.weave_cli.proofs.FirstForm.Pieces.{reshaped, declaration_reads, assignment_reads, call_reads, empty_reads, assertion_reads}

abbrev pub AreNames : List (List ℕ) → Type 0
AreNames names = AllByRecursion (λ x. is_name x ≡ true) names

get_or-all : {X : Type 0} (P : X → Type 0) (d : X) (xs : List X) (i : ℕ) → AllByRecursion P xs → i < length xs → P (get_or xs i d)
get_or-all P d [] i h below = absurd (omega arith)
get_or-all P d (x ∷ xs) zero h below = h.0
get_or-all P d (x ∷ xs) (suc i) h below = get_or-all P d xs i h.1 (omega arith)

name_at-is_name : (names : List (List ℕ)) (i : ℕ) → AreNames names → i < length names → is_name (name_at names i) ≡ true
name_at-is_name names i h below = subst (λ x. is_name x ≡ true) (sym (unwrap_or-slice_get names i [])) (get_or-all (λ x. is_name x ≡ true) [] names i h below)

pub declarations_read : {rest : List ℕ} {words : List Word} (xs : List (List ℕ)) → AreNames xs → Lexes rest words → Lexes (declarations_text xs ++ rest) (flat_map declaration_words xs ++ words)
declarations_read [] h l = l
declarations_read {rest = rest} {words = words} (x ∷ xs) h l =
    lexes_as (sym (append_assoc (declaration_words x) (flat_map declaration_words xs) words))
    (reshaped (append_assoc (codes "int " ++ (x ++ codes ";\n")) (declarations_text xs) rest) (declaration_reads x h.0 (declarations_read xs h.1 l)))

-- ---- statements, where the program's variables and functions have names
module _ (p : Program) (globals_named : AreNames p.globals) (functions_named : AreNames (names_of p.functions)) where
  variable_named : (x : ℕ) → x < length p.globals → is_name (name_at p.globals x) ≡ true
  variable_named x below = name_at-is_name p.globals x globals_named below

  function_named : (f : ℕ) → f < length p.functions → is_name (name_at (names_of p.functions) f) ≡ true
  function_named f below = let e = length-map p.functions (λ (g : Function). g.name) in name_at-is_name (names_of p.functions) f functions_named (omega arith)

  abbrev words_at : FirstStmt → List Word
  words_at s = statement_words p.globals (names_of p.functions) s

  pub statement_reads : {rest : List ℕ} {words : List Word} (m : Mode) (earlier : ℕ) (s : FirstStmt) → StatementFits m (length p.globals) earlier s → earlier ≤ length p.functions → Lexes rest words
      → Lexes (statement_text p s ++ rest) (words_at s ++ words)
  statement_reads m earlier (stmt.Assign x n) fit le l = assignment_reads (name_at p.globals x) n (variable_named x fit.0) (signed_is_decimal n fit.1 fit.2) l
  statement_reads m earlier (stmt.Call f) fit le l = call_reads (name_at (names_of p.functions) f) (function_named f (omega arith)) l
  statement_reads m earlier stmt.Empty fit le l = empty_reads l
  statement_reads m earlier (stmt.Assert y x) fit le l = assertion_reads (name_at p.globals y) (name_at p.globals x) (variable_named y fit.1) (variable_named x fit.2) l

  pub body_reads : {rest : List ℕ} {words : List Word} (m : Mode) (earlier : ℕ) (body : List FirstStmt) → AllByRecursion (StatementFits m (length p.globals) earlier) body → earlier ≤ length p.functions → Lexes rest words
      → Lexes (body_text p body ++ rest) (flat_map words_at body ++ words)
  body_reads m earlier [] fit le l = l
  body_reads {rest = rest} {words = words} m earlier (s ∷ body) fit le l =
      lexes_as (sym (append_assoc (words_at s) (flat_map words_at body) words))
      (reshaped (append_assoc (statement_text p s) (body_text p body) rest) (statement_reads m earlier s fit.0 le (body_reads m earlier body fit.1 le l)))
