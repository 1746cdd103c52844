use Rattle.std.proofs.Common.{◌≡◌, [], ◌∙◌, sym, ap, arith}
use Rattle.std.specs.Str.{bytes_eq}
use Rattle.c_words.specs.declared.word.Word.TheVariants as w
use Rattle.c_words.proofs.WordTables.{entry_found, entry_passed, no_entry}
use Rattle.acsl_words.proofs.leaves.word_in.Goals as goal

pub returns-then-eq : goal.returns-then-eq
returns-then-eq c =
    let same = ap (bytes_eq c.args.bytes.now) (sym c.as_bytes.ensures.value) ∙ sym c.eq.ensures ∙ c.if-eq.true in
    sym (c.loop-spelling.invariant ∙ entry_found _ c.args.bytes.now c.args.table.now c.loop-spelling.spelling-index _ (omega (arith, c.loop-spelling-test.true)) same)

pub loop-spelling-preserved : goal.loop-spelling-preserved
loop-spelling-preserved c =
    let differ = ap (bytes_eq c.args.bytes.now) (sym c.as_bytes.ensures.value) ∙ sym c.eq.ensures ∙ c.if-eq.false in
    c.loop-spelling.invariant
    ∙ entry_passed _ c.args.bytes.now c.args.table.now c.loop-spelling.spelling-index (record { ref_ptr = (0, 0); now = [] }, w.Name) (omega (arith, c.loop-spelling-test.true)) differ

pub returns : goal.returns
returns c = sym (c.loop-spelling.invariant ∙ no_entry _ c.args.bytes.now c.args.table.now c.loop-spelling.spelling-index (omega (arith, c.loop-spelling-test.false)))
