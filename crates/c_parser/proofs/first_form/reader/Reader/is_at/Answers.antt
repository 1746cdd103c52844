use Rattle.std.proofs.Common.{ap, ◌∙◌, refl, sym}
use Rattle.std.proofs.lemmas.Option.{slice_get_read, slice_get_past}
use Rattle.c_parser.specs.FirstForm.Reading as spec
use Rattle.c_parser.specs.FirstForm.FixedWords.{is_fixed}
use Rattle.c_parser.proofs.FirstForm.TokenFacts.{token_at_place}
use Rattle.c_parser.proofs.FirstForm.WordFacts.{is_at-token, is_at-past}
use Rattle.c_parser.proofs.first_form.reader.Reader.is_at.Goals as goal

pub lexeme_of-found-requires : goal.lexeme_of-found-requires
lexeme_of-found-requires c =
    let h = c.in-Some.ensures.lookup in
    token_at_place _ _ c.args.place _ c.self.invariant (slice_get_read _ _ c.args.place _ refl h.3.0 h.1)

pub returns-in-None : goal.returns-in-None
returns-in-None c =
    let h = c.in-None.ensures.lookup in
    sym (is_at-past c.self.inside.text.now c.self.inside.tokens.now c.args.place c.args.word (slice_get_past _ c.args.place h.3))
    ∙ ap (λ v. spec.is_at c.args.place c.args.word v.words) c.self.view_is

pub returns-in-Some : goal.returns-in-Some
returns-in-Some c =
    let h = c.in-Some.ensures.lookup in
    c.is.ensures ∙ ap (is_fixed c.args.word) c.lexeme_of-found.ensures
    ∙ sym (is_at-token c.self.inside.text.now c.self.inside.tokens.now c.args.place c.args.word _ (slice_get_read _ _ c.args.place _ refl h.3.0 h.1))
    ∙ ap (λ v. spec.is_at c.args.place c.args.word v.words) c.self.view_is
