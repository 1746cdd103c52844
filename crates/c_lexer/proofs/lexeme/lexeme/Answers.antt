use Rattle.std.proofs.Common.{sym, subst, ◌∙◌, arith}
use Rattle.std.proofs.lemmas.Bool.Decides.{nat_tests}
use Rattle.c_lexer.specs.Lexemes.{is_annotation, is_ya}
use Rattle.c_lexer.specs.Lexing.{IsLexeme}
use Rattle.c_lexer.proofs.ListLemmas.{left}
use Rattle.c_lexer.proofs.LeadLemmas.{IsMarkByte, marks_only, annotation_is, ya_is}
use Rattle.c_lexer.proofs.lexeme.lexeme.Goals as goal

pub mark-requires-clause-others : goal.mark-requires-clause-others
mark-requires-clause-others c =
    let first = c.byte_at-first.ensures in
    marks_only c.args.profile c.args.text.now
    (subst (IsMarkByte c.args.profile) first
    (record {
      letter = sym c.is_letter.ensures ∙ c.if-is_letter.false;
      digit = sym c.is_digit.ensures ∙ c.if-is_digit.false;
      quote = grind (arith, nat_tests);
      backslash = sym c.begins_backslash.ensures ∙ c.if-begins_backslash.false;
      directive = sym c.begins_directive.ensures ∙ c.if-begins_directive.false;
      string = sym c.begins_string.ensures ∙ c.if-begins_string.false;
    }))

pub returns-then-begins_string : goal.returns-then-begins_string
returns-then-begins_string c =
    subst (λ p. IsLexeme p c.args.text.now c.string.result) (sym (annotation_is c.args.profile (left (is_annotation c.args.profile) _ (sym c.begins_string.ensures ∙ c.if-begins_string.true)))) c.string.ensures

pub returns-then-begins_directive : goal.returns-then-begins_directive
returns-then-begins_directive c =
    subst (λ p. IsLexeme p c.args.text.now c.percent.result) (sym (ya_is c.args.profile (left (is_ya c.args.profile) _ (sym c.begins_directive.ensures ∙ c.if-begins_directive.true)))) c.percent.ensures
