-- The pieces of a program's text read as the words that the program writes.
use Rattle.std.proofs.Common.{◌≡◌, ℕ, ℤ, true, List, ◌∷◌, ◌++◌, refl, sym, ap, subst, append_assoc}
use Rattle.std.specs.Prelude.{codes}
use Rattle.std.specs.Fmt.{signed_decimal}
use Rattle.c_lexer.specs.Bytes.{is_keyword, keywords}
use Rattle.c_lexer.specs.FirstForm.Tokens.{is_token, is_decimal}
use Rattle.c_lexer.specs.Spellings.{is_identifier}
use Rattle.c_lexer.proofs.TokenLemmas.{lead}
use Rattle.c_parser.specs.FirstForm.Spelling.{Word, named, mark, backslash, number, declaration_words}
use Rattle.c_parser.specs.FirstForm.Texts.{is_name}
use Rattle.weave_cli.specs.FirstForm.Layout.{declaration_text, assignment_text, call_text, assertion_head, assertion_text}
use Rattle.weave_cli.proofs.FirstForm.Lexing.{Lexes, skip}
use Rattle.weave_cli.proofs.FirstForm.Runs.{take_name, take_keyword, take_backslash, take_number}
use Rattle.weave_cli.proofs.FirstForm.Marks.{take_mark, take_opening, take_closing}

-- the text in another shape
pub reshaped : {text other : List ℕ} {words : List Word} → other ≡ text → Lexes text words → Lexes other words
reshaped {words = words} e l = subst (λ t. Lexes t words) (sym e) l

pub declaration_reads : {rest : List ℕ} {words : List Word} (x : List ℕ) → is_name x ≡ true → Lexes rest words → Lexes (declaration_text x ++ rest) (declaration_words x ++ words)
unfolding is_keyword keywords lead
declaration_reads {rest = rest} x h l =
    reshaped (ap (λ t. codes "int " ++ t) (append_assoc x (codes ";\n") rest))
    (take_keyword (codes "int") refl (skip 32 refl (take_name x h (take_mark 59 refl refl (skip 10 refl l)) refl)) refl)

assignment_shape : (x : List ℕ) (n : ℤ) (rest : List ℕ) → assignment_text x n ++ rest ≡ codes "  " ++ (x ++ (codes " = " ++ (signed_decimal n ++ (codes ";\n" ++ rest))))
assignment_shape x n rest = simp append_assoc

pub assignment_reads : {rest : List ℕ} {words : List Word} (x : List ℕ) (n : ℤ) → is_name x ≡ true → is_decimal (signed_decimal n) ≡ true → Lexes rest words
    → Lexes (assignment_text x n ++ rest) (named x ∷ mark (codes "=") ∷ number (signed_decimal n) ∷ mark (codes ";") ∷ words)
unfolding lead
assignment_reads {rest = rest} x n h d l =
    reshaped (assignment_shape x n rest)
    (skip 32 refl (skip 32 refl (take_name x h (skip 32 refl (take_mark 61 refl refl (skip 32 refl (take_number (signed_decimal n) d (take_mark 59 refl refl (skip 10 refl l)) refl)))) refl)))

pub call_reads : {rest : List ℕ} {words : List Word} (f : List ℕ) → is_name f ≡ true → Lexes rest words
    → Lexes (call_text f ++ rest) (named f ∷ mark (codes "(") ∷ mark (codes ")") ∷ mark (codes ";") ∷ words)
unfolding lead
call_reads {rest = rest} f h l =
    reshaped (ap (λ t. codes "  " ++ t) (append_assoc f (codes "();\n") rest))
    (skip 32 refl (skip 32 refl (take_name f h (take_mark 40 refl refl (take_mark 41 refl refl (take_mark 59 refl refl (skip 10 refl l)))) refl)))

pub empty_reads : {rest : List ℕ} {words : List Word} → Lexes rest words → Lexes (codes "  ;\n" ++ rest) (mark (codes ";") ∷ words)
unfolding lead
empty_reads l = skip 32 refl (skip 32 refl (take_mark 59 refl refl (skip 10 refl l)))

assertion_shape : (y x rest : List ℕ) → assertion_text y x ++ rest ≡ assertion_head ++ (y ++ (codes ", &" ++ (x ++ (codes "); */\n" ++ rest))))
assertion_shape y x rest = simp append_assoc

assertion_end : {rest : List ℕ} {words : List Word} (x : List ℕ) → is_name x ≡ true → Lexes rest words
    → Lexes (x ++ (codes "); */\n" ++ rest)) (named x ∷ mark (codes ")") ∷ mark (codes ";") ∷ mark (codes "*/") ∷ words)
unfolding lead
assertion_end x h l = take_name x h (take_mark 41 refl refl (take_mark 59 refl refl (skip 32 refl (take_closing (skip 10 refl l))))) refl

assertion_middle : {rest : List ℕ} {words : List Word} (y : List ℕ) → is_name y ≡ true → Lexes rest words
    → Lexes (y ++ (codes ", &" ++ rest)) (named y ∷ mark (codes ",") ∷ mark (codes "&") ∷ words)
unfolding lead
assertion_middle y h l = take_name y h (take_mark 44 refl refl (skip 32 refl (take_mark 38 refl refl l))) refl

-- `  /*@ assert weave_1: \separated(&`
assertion_begin : {rest : List ℕ} {words : List Word} → Lexes rest words
    → Lexes (assertion_head ++ rest)
    (mark (codes "/*@") ∷ named (codes "assert") ∷ named (codes "weave_1") ∷ mark (codes ":") ∷ backslash (codes "separated") ∷ mark (codes "(") ∷ mark (codes "&") ∷ words)
unfolding assertion_head lead is_token is_identifier is_keyword keywords
assertion_begin l =
    skip 32 refl (skip 32 refl (take_opening (skip 32 refl (take_name (codes "assert") refl
    (skip 32 refl (take_name (codes "weave_1") refl (take_mark 58 refl refl (skip 32 refl
    (take_backslash (codes "separated") refl (take_mark 40 refl refl (take_mark 38 refl refl l)) refl))) refl)) refl))))

pub assertion_reads : {rest : List ℕ} {words : List Word} (y x : List ℕ) → is_name y ≡ true → is_name x ≡ true → Lexes rest words
    → Lexes (assertion_text y x ++ rest)
    (mark (codes "/*@") ∷ named (codes "assert") ∷ named (codes "weave_1") ∷ mark (codes ":") ∷ backslash (codes "separated") ∷ mark (codes "(")
    ∷ mark (codes "&") ∷ named y ∷ mark (codes ",") ∷ mark (codes "&") ∷ named x
    ∷ mark (codes ")") ∷ mark (codes ";") ∷ mark (codes "*/") ∷ words)
assertion_reads {rest = rest} y x g h l = reshaped (assertion_shape y x rest) (assertion_begin (assertion_middle y g (assertion_end x h l)))
