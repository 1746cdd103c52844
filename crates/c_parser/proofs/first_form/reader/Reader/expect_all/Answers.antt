use Rattle.std.proofs.Common.{◌∙◌, rules, arith}
use Rattle.std.proofs.lemmas.Grind.{common_steps}
use Rattle.c_parser.specs.declared.first_form.fixed.Fixed.TheVariants as fixed
use Rattle.c_parser.proofs.FirstForm.WordFacts.{expect_all-more, expect_all-none}
use Rattle.c_parser.proofs.first_form.reader.Reader.expect_all.Goals as goal

pub returns-in_err-expect : goal.returns-in_err-expect
returns-in_err-expect c =
    let e = c.loop-word.invariant ∙ expect_all-more c.args.words.now c.loop-word.word-index fixed.Int c.loop-word.self c.loop-word-test.true in
    first_of (search rules, grind (arith, common_steps))

pub loop-word-preserved : goal.loop-word-preserved
loop-word-preserved c =
    let e = c.loop-word.invariant ∙ expect_all-more c.args.words.now c.loop-word.word-index fixed.Int c.loop-word.self c.loop-word-test.true in
    first_of (search rules, grind (arith, common_steps))

pub returns : goal.returns
returns c = c.loop-word.invariant ∙ expect_all-none c.args.words.now c.loop-word.word-index c.loop-word.self c.loop-word-test.false
