use Rattle.std.proofs.Common.{rules, arith}
use Rattle.std.proofs.lemmas.Grind.{common_steps}
use Rattle.c_type_names.specs.TypeReading.{stars_from}
use Rattle.c_words.proofs.Turns.{one_more, no_more}
use Rattle.c_type_names.proofs.types.stars.Goals as goal

pub returns-then-not-same : goal.returns-then-not-same
unfolding stars_from
returns-then-not-same c =
    let e = one_more (λ n. stars_from n c.loop-turn.found c.loop-turn.tokens) _ c.loop-turn._turn c.loop-turn-test.true c.loop-turn.invariant in
    first_of (search rules, grind (arith, common_steps))

pub returns-in_err-next : goal.returns-in_err-next
unfolding stars_from
returns-in_err-next c =
    let e = one_more (λ n. stars_from n c.loop-turn.found c.loop-turn.tokens) _ c.loop-turn._turn c.loop-turn-test.true c.loop-turn.invariant in
    first_of (search rules, grind (arith, common_steps))

pub loop-turn-preserved : goal.loop-turn-preserved
unfolding stars_from
loop-turn-preserved c =
    let e = one_more (λ n. stars_from n c.loop-turn.found c.loop-turn.tokens) _ c.loop-turn._turn c.loop-turn-test.true c.loop-turn.invariant in
    first_of (search rules, grind (arith, common_steps))

pub returns : goal.returns
unfolding stars_from
returns c =
    let e = no_more (λ n. stars_from n c.loop-turn.found c.loop-turn.tokens) _ c.loop-turn._turn c.loop-turn-test.false c.loop-turn.invariant in
    first_of (search rules, grind (arith, common_steps))
