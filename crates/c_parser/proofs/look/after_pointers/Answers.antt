use Rattle.std.proofs.Common.{◌≡◌, true, rules, arith, ◌∙◌, sym}
use Rattle.std.proofs.lemmas.Grind.{common_steps}
use Rattle.c_words.specs.Parsing.{word_at}
use Rattle.c_parser.specs.ItemReading.{skip, is_pointer}
use Rattle.c_parser.proofs.ItemWords.{skip_none, skip_some, skip_nil, after_shorter, pointer_not_end}
use Rattle.c_parser.proofs.look.after_pointers.Goals as goal

pub returns-then-not-is_pointer : goal.returns-then-not-is_pointer
returns-then-not-is_pointer c =
    let i = c.loop-turn.invariant in
    let e = skip_none c.loop-turn.ahead in
    first_of (search rules, grind (arith, common_steps))

pub loop-turn-preserved : goal.loop-turn-preserved
loop-turn-preserved c =
    let i = c.loop-turn.invariant in
    let p : is_pointer (word_at c.loop-turn.ahead) ≡ true = first_of (search rules, grind (arith, common_steps)) in
    let e = skip_some c.loop-turn.ahead p in
    let l = after_shorter c.loop-turn.ahead (pointer_not_end _ p) in
    first_of (search rules, grind (arith, common_steps))

pub returns : goal.returns
returns c =
    let i = c.loop-turn.invariant in
    let z = skip_nil c.loop-turn.ahead (omega (arith, i.1, c.loop-turn-test.false)) in
    sym z ∙ sym i.0
