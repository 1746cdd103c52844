-- The text of a program of the woven form stands for that program.
use Rattle.std.proofs.Common.{◌≡◌, ℕ, true, List, [], ◌∷◌, ◌++◌, length, Option, Some, None, refl, sym, ap, subst, ◌∙◌, append-nil, arith}
use Rattle.std.specs.Prelude.{codes}
use Rattle.std.specs.List.{AllByRecursion, flat_map}
use Rattle.std.proofs.lemmas.List.{map-append}
use Rattle.c_lexer.specs.Bytes.{is_keyword, keywords}
use Rattle.c_lexer.specs.FirstForm.Tokens.{is_token}
use Rattle.c_lexer.specs.Spellings.{is_identifier}
use Rattle.c_lexer.specs.Positions.{after}
use Rattle.c_lexer.proofs.ListLemmas.{left}
use Rattle.c_words.specs.declared.word.Mode.TheVariants as mode
use Rattle.c_parser.specs.FirstForm.Program.{Function, Property, Program}
use Rattle.c_parser.specs.FirstForm.Spelling.{names_of, declaration_words, optional_property_words, functions_words, program_words}
use Rattle.c_parser.specs.FirstForm.Texts.{is_name, is_free_name, PropertyFits, IsFirstForm, IsTextOf}
use Rattle.weave_cli.specs.FirstForm.Layout.{functions_text, program_text}
use Rattle.weave_cli.proofs.FirstForm.Lexing.{Lexes, LexedAfter, lexes_as, lexes_done}
use Rattle.weave_cli.proofs.FirstForm.Pieces.{reshaped}
use Rattle.weave_cli.proofs.FirstForm.Bodies.{AreNames, declarations_read}
use Rattle.weave_cli.proofs.FirstForm.Functions.{functions_read}

main_is_name : is_name (codes "main") ≡ true
unfolding is_token is_identifier is_keyword keywords
main_is_name = refl

AreNames-left : (xs ys : List (List ℕ)) → AllByRecursion (λ x. is_free_name x ≡ true) (xs ++ ys) → AreNames xs
AreNames-left [] ys h = tt
AreNames-left (x ∷ xs) ys h = (left (is_name x) _ h.0, AreNames-left xs ys h.1)

AreNames-right : (xs ys : List (List ℕ)) → AllByRecursion (λ x. is_free_name x ≡ true) (xs ++ ys) → AreNames ys
AreNames-right [] [] h = tt
AreNames-right [] (y ∷ ys) h = (left (is_name y) _ h.0, AreNames-right [] ys h.1)
AreNames-right (x ∷ xs) ys h = AreNames-right xs ys h.1

AreNames-push : (xs : List (List ℕ)) (y : List ℕ) → AreNames xs → is_name y ≡ true → AreNames (xs ++ y ∷ [])
AreNames-push [] y h i = (i, tt)
AreNames-push (x ∷ xs) y h i = (h.0, AreNames-push xs y h.1 i)

functions_are_named : (p : Program) (f : IsFirstForm mode.Woven p) → AreNames (names_of p.functions)
functions_are_named p f =
    subst AreNames (sym (ap names_of f.functions ∙ map-append (λ (g : Function). g.name) f.others (f.main ∷ [])))
    (AreNames-push (names_of f.others) f.main.name (AreNames-right p.globals (names_of f.others) f.free) (ap is_name f.main_name ∙ main_is_name))

no_property : (globals : List (List ℕ)) (o : Option Property) → PropertyFits mode.Woven (length globals) o → optional_property_words globals o ≡ []
no_property globals None h = refl
no_property globals (Some q) h = let e : mode.Woven ≡ mode.Source = h.0 in cc

pub program_lexes : (p : Program) → IsFirstForm mode.Woven p → Lexes (program_text p) (program_words p)
program_lexes p f =
    let named : AreNames p.globals = AreNames-left p.globals (names_of f.others) f.free in
    let functions : Lexes (functions_text p p.functions ++ []) (functions_words p.globals (names_of p.functions) p.functions ++ []) =
    functions_read p named (functions_are_named p f) mode.Woven 0 p.functions (functions_are_named p f) f.bodies (omega arith) lexes_done in
    let back : Lexes (functions_text p p.functions) (functions_words p.globals (names_of p.functions) p.functions) =
    lexes_as (append-nil (functions_words p.globals (names_of p.functions) p.functions)) (reshaped (sym (append-nil (functions_text p p.functions))) functions) in
    lexes_as (ap (λ ws. flat_map declaration_words p.globals ++ (ws ++ functions_words p.globals (names_of p.functions) p.functions)) (sym (no_property p.globals p.property f.property)))
    (declarations_read p.globals named back)

-- a text that reads as words has a list of tokens with these words
text_of : (text : List ℕ) (p : Program) → IsFirstForm mode.Woven p → LexedAfter [] text (program_words p) → IsTextOf mode.Woven text p
unfolding after
text_of text p f l = record { tokens = l.tokens; lexed = l.lexed; spelled = record { form = f; words = l.spelled } }

pub reads_back : (p : Program) → IsFirstForm mode.Woven p → IsTextOf mode.Woven (program_text p) p
reads_back p f = text_of (program_text p) p f ((program_lexes p f).lexed_after [])
