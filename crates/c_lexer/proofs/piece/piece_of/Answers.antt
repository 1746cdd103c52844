use Rattle.std.proofs.Common.{◌≡◌, ◌<◌, ◌&&◌, ◌==◌, not, true, false, ℕ, ap, sym, ◌∙◌, arith}
use Rattle.std.proofs.lemmas.Bool.Decides.{nat_tests}
use Rattle.c_lexer.specs.Lexemes.{is_specification}
use Rattle.c_lexer.specs.Lexing.{is_blank_in}
use Rattle.c_lexer.proofs.OpeningLemmas as o
use Rattle.c_lexer.proofs.ListLemmas.{left}
use Rattle.c_lexer.proofs.piece.piece_of.Goals as goal

none : (n : ℕ) → (n == 0) ≡ true → n ≡ 0
none n h = grind (arith, nat_tests)

some : (n : ℕ) → (n == 0) ≡ false → 0 < n
some n h = grind (arith, nat_tests)

pub returns-then-is_empty-clause-stands : goal.returns-then-is_empty-clause-stands
returns-then-is_empty-clause-stands c = o.stands_end c.args.profile c.args.leads c.args.text.now (none _ (sym c.is_empty.ensures ∙ c.if-is_empty.true))

pub returns-then-is_blank_in-clause-stands : goal.returns-then-is_blank_in-clause-stands
returns-then-is_blank_in-clause-stands c =
    o.stands_blank c.args.profile c.args.leads c.args.text.now c.byte_at-first.result (some _ (sym c.is_empty.ensures ∙ c.if-is_empty.false))
    (ap (is_blank_in c.args.profile) (sym c.byte_at-first.ensures) ∙ sym c.is_blank_in.ensures ∙ c.if-is_blank_in.true) c.byte_at-first.ensures

pub returns-then-opens_block_comment-clause-stands : goal.returns-then-opens_block_comment-clause-stands
returns-then-opens_block_comment-clause-stands c =
    o.stands_block c.args.profile c.args.leads c.args.text.now c.block_comment.result (some _ (sym c.is_empty.ensures ∙ c.if-is_empty.false))
    (ap (is_blank_in c.args.profile) (sym c.byte_at-first.ensures) ∙ sym c.is_blank_in.ensures ∙ c.if-is_blank_in.false)
    (sym c.opens_block_comment.ensures ∙ c.if-opens_block_comment.true) c.block_comment.ensures

pub returns-then-opens_block_comment-clause-reaches : goal.returns-then-opens_block_comment-clause-reaches
returns-then-opens_block_comment-clause-reaches c = o.block_reaches c.args.profile c.args.text.now c.block_comment.result (some _ (sym c.is_empty.ensures ∙ c.if-is_empty.false)) c.block_comment.ensures

pub returns-then-opens_line_comment-clause-stands : goal.returns-then-opens_line_comment-clause-stands
returns-then-opens_line_comment-clause-stands c =
    o.stands_line c.args.profile c.args.leads c.args.text.now c.line_comment.result (some _ (sym c.is_empty.ensures ∙ c.if-is_empty.false))
    (ap (is_blank_in c.args.profile) (sym c.byte_at-first.ensures) ∙ sym c.is_blank_in.ensures ∙ c.if-is_blank_in.false)
    (sym c.opens_block_comment.ensures ∙ c.if-opens_block_comment.false) (sym c.opens_line_comment.ensures ∙ c.if-opens_line_comment.true) c.line_comment.ensures

pub returns-then-opens_line_comment-clause-reaches : goal.returns-then-opens_line_comment-clause-reaches
returns-then-opens_line_comment-clause-reaches c =
    o.line_reaches c.args.profile c.args.text.now c.line_comment.result (sym c.opens_line_comment.ensures ∙ c.if-opens_line_comment.true) c.line_comment.ensures

pub returns-then-opens_line_marker-clause-stands : goal.returns-then-opens_line_marker-clause-stands
returns-then-opens_line_marker-clause-stands c =
    o.stands_marker c.args.profile c.args.leads c.args.text.now c.line_marker.result (some _ (sym c.is_empty.ensures ∙ c.if-is_empty.false))
    (ap (is_blank_in c.args.profile) (sym c.byte_at-first.ensures) ∙ sym c.is_blank_in.ensures ∙ c.if-is_blank_in.false)
    (sym c.opens_block_comment.ensures ∙ c.if-opens_block_comment.false) (sym c.opens_line_comment.ensures ∙ c.if-opens_line_comment.false)
    (ap (λ b. b == 35 && (not (is_specification c.args.profile) && c.args.leads)) (sym c.byte_at-first.ensures) ∙ sym c.opens_line_marker.ensures ∙ c.if-opens_line_marker.true) c.line_marker.ensures

pub returns-then-opens_line_marker-clause-reaches : goal.returns-then-opens_line_marker-clause-reaches
returns-then-opens_line_marker-clause-reaches c =
    o.marker_reaches c.args.text.now c.line_marker.result
    (left _ _ (ap (λ b. b == 35 && (not (is_specification c.args.profile) && c.args.leads)) (sym c.byte_at-first.ensures) ∙ sym c.opens_line_marker.ensures ∙ c.if-opens_line_marker.true)) c.line_marker.ensures

pub returns-else-opens_line_marker-clause-stands : goal.returns-else-opens_line_marker-clause-stands
returns-else-opens_line_marker-clause-stands c =
    o.stands_lexeme c.args.profile c.args.leads c.args.text.now c.lexeme.result (some _ (sym c.is_empty.ensures ∙ c.if-is_empty.false))
    (ap (is_blank_in c.args.profile) (sym c.byte_at-first.ensures) ∙ sym c.is_blank_in.ensures ∙ c.if-is_blank_in.false)
    (sym c.opens_block_comment.ensures ∙ c.if-opens_block_comment.false) (sym c.opens_line_comment.ensures ∙ c.if-opens_line_comment.false)
    (ap (λ b. b == 35 && (not (is_specification c.args.profile) && c.args.leads)) (sym c.byte_at-first.ensures) ∙ sym c.opens_line_marker.ensures ∙ c.if-opens_line_marker.false) c.lexeme.ensures

pub returns-else-opens_line_marker-clause-reaches : goal.returns-else-opens_line_marker-clause-reaches
returns-else-opens_line_marker-clause-reaches c = o.lexeme_within c.args.profile c.args.text.now c.lexeme.result (some _ (sym c.is_empty.ensures ∙ c.if-is_empty.false)) c.lexeme.ensures
