-- Functions read as the words that the program writes.
use Rattle.std.proofs.Common.{◌≡◌, ℕ, ◌+◌, ◌≤◌, true, List, [], ◌∷◌, ◌++◌, length, refl, sym, ap, append_assoc, arith}
use Rattle.std.specs.Prelude.{codes}
use Rattle.std.specs.List.{AllByRecursion, flat_map}
use Rattle.c_lexer.specs.Bytes.{is_keyword, keywords}
use Rattle.c_lexer.specs.FirstForm.Tokens.{is_decimal}
use Rattle.c_lexer.proofs.TokenLemmas.{lead}
use Rattle.c_words.specs.declared.word.Mode.{Mode}
use Rattle.c_parser.specs.declared.first_form.tree.FirstStmt.{FirstStmt}
use Rattle.c_parser.specs.FirstForm.Program.{Function, Program}
use Rattle.c_parser.specs.FirstForm.Spelling.{Word, named, keyword, mark, number, names_of, statement_words, function_words, main_words, functions_words}
use Rattle.c_parser.specs.FirstForm.Texts.{is_name, StatementFits, BodiesFit}
use Rattle.weave_cli.specs.FirstForm.Layout.{body_text, function_text, main_text, functions_text}
use Rattle.weave_cli.proofs.FirstForm.Lexing.{Lexes, lexes_as, skip}
use Rattle.weave_cli.proofs.FirstForm.Runs.{take_name, take_keyword, take_number}
use Rattle.weave_cli.proofs.FirstForm.Marks.{take_mark}
use Rattle.weave_cli.proofs.FirstForm.Pieces.{reshaped}
use Rattle.weave_cli.proofs.FirstForm.Bodies.{AreNames, body_reads}

-- `(void) {`
parameters_read : {rest : List ℕ} {words : List Word} → Lexes rest words
    → Lexes (codes "(void) {\n" ++ rest) (mark (codes "(") ∷ keyword (codes "void") ∷ mark (codes ")") ∷ mark (codes "{") ∷ words)
unfolding is_keyword keywords lead
parameters_read l = take_mark 40 refl refl (take_keyword (codes "void") refl (take_mark 41 refl refl (skip 32 refl (take_mark 123 refl refl (skip 10 refl l)))) refl)

void_reads : {rest : List ℕ} {words : List Word} (f : List ℕ) → is_name f ≡ true → Lexes rest words
    → Lexes (codes "\nvoid " ++ (f ++ (codes "(void) {\n" ++ rest)))
    (keyword (codes "void") ∷ named f ∷ mark (codes "(") ∷ keyword (codes "void") ∷ mark (codes ")") ∷ mark (codes "{") ∷ words)
unfolding is_keyword keywords
void_reads f h l = skip 10 refl (take_keyword (codes "void") refl (skip 32 refl (take_name f h (parameters_read l) refl)) refl)

int_reads : {rest : List ℕ} {words : List Word} (f : List ℕ) → is_name f ≡ true → Lexes rest words
    → Lexes (codes "\nint " ++ (f ++ (codes "(void) {\n" ++ rest)))
    (keyword (codes "int") ∷ named f ∷ mark (codes "(") ∷ keyword (codes "void") ∷ mark (codes ")") ∷ mark (codes "{") ∷ words)
unfolding is_keyword keywords
int_reads f h l = skip 10 refl (take_keyword (codes "int") refl (skip 32 refl (take_name f h (parameters_read l) refl)) refl)

end_reads : {rest : List ℕ} {words : List Word} → Lexes rest words → Lexes (codes "}\n" ++ rest) (mark (codes "}") ∷ words)
unfolding lead
end_reads l = take_mark 125 refl refl (skip 10 refl l)

return_reads : {rest : List ℕ} {words : List Word} → Lexes rest words
    → Lexes (codes "  return 0;\n}\n" ++ rest) (keyword (codes "return") ∷ number (codes "0") ∷ mark (codes ";") ∷ mark (codes "}") ∷ words)
unfolding is_keyword keywords lead is_decimal
return_reads l =
    skip 32 refl (skip 32 refl (take_keyword (codes "return") refl
    (skip 32 refl (take_number (codes "0") refl (take_mark 59 refl refl (skip 10 refl (end_reads l))) refl)) refl))

-- a head, a name, parameters, a body and an end
text_shape : (head f parameters body end rest : List ℕ) → head ++ f ++ parameters ++ body ++ end ++ rest ≡ head ++ (f ++ (parameters ++ (body ++ (end ++ rest))))
text_shape head f parameters body end rest = simp append_assoc

module _ (p : Program) (globals_named : AreNames p.globals) (functions_named : AreNames (names_of p.functions)) (m : Mode) where
  abbrev words_in : List FirstStmt → List Word
  words_in body = flat_map (statement_words p.globals (names_of p.functions)) body

  function_reads : {rest : List ℕ} {words : List Word} (earlier : ℕ) (f : Function) → is_name f.name ≡ true → AllByRecursion (StatementFits m (length p.globals) earlier) f.body → earlier ≤ length p.functions
      → Lexes rest words → Lexes (function_text p f ++ rest) (function_words p.globals (names_of p.functions) f ++ words)
  function_reads {rest = rest} {words = words} earlier f h fit le l =
      lexes_as (ap (λ ws. keyword (codes "void") ∷ named f.name ∷ mark (codes "(") ∷ keyword (codes "void") ∷ mark (codes ")") ∷ mark (codes "{") ∷ ws) (sym (append_assoc (words_in f.body) (mark (codes "}") ∷ []) words)))
      (reshaped (text_shape (codes "\nvoid ") f.name (codes "(void) {\n") (body_text p f.body) (codes "}\n") rest)
      (void_reads f.name h (body_reads p globals_named functions_named m earlier f.body fit le (end_reads l))))

  main_reads : {rest : List ℕ} {words : List Word} (earlier : ℕ) (f : Function) → is_name f.name ≡ true → AllByRecursion (StatementFits m (length p.globals) earlier) f.body → earlier ≤ length p.functions
      → Lexes rest words → Lexes (main_text p f ++ rest) (main_words p.globals (names_of p.functions) f ++ words)
  main_reads {rest = rest} {words = words} earlier f h fit le l =
      lexes_as (ap (λ ws. keyword (codes "int") ∷ named f.name ∷ mark (codes "(") ∷ keyword (codes "void") ∷ mark (codes ")") ∷ mark (codes "{") ∷ ws)
      (sym (append_assoc (words_in f.body) (keyword (codes "return") ∷ number (codes "0") ∷ mark (codes ";") ∷ mark (codes "}") ∷ []) words)))
      (reshaped (text_shape (codes "\nint ") f.name (codes "(void) {\n") (body_text p f.body) (codes "  return 0;\n}\n") rest)
      (int_reads f.name h (body_reads p globals_named functions_named m earlier f.body fit le (return_reads l))))

  pub functions_read : {rest : List ℕ} {words : List Word} (earlier : ℕ) (fs : List Function) → AreNames (names_of fs) → BodiesFit m (length p.globals) earlier fs → earlier + length fs ≤ length p.functions
      → Lexes rest words → Lexes (functions_text p fs ++ rest) (functions_words p.globals (names_of p.functions) fs ++ words)
  functions_read earlier [] h fit le l = l
  functions_read earlier (f ∷ []) h fit le l = main_reads earlier f h.0 fit.0 (omega arith) l
  functions_read {rest = rest} {words = words} earlier (f ∷ g ∷ fs) h fit le l =
      lexes_as (sym (append_assoc (function_words p.globals (names_of p.functions) f) (functions_words p.globals (names_of p.functions) (g ∷ fs)) words))
      (reshaped (append_assoc (function_text p f) (functions_text p (g ∷ fs)) rest)
      (function_reads earlier f h.0 fit.0 (omega arith) (functions_read (earlier + 1) (g ∷ fs) h.1 fit.1 (omega arith) l)))
