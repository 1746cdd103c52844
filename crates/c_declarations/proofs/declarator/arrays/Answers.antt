use Rattle.std.proofs.Common.{rules, arith}
use Rattle.std.proofs.lemmas.Grind.{common_steps}
use Rattle.c_expressions.specs.ExpressionReading.{inner_at}
use Rattle.c_words.proofs.Turns.{one_more, no_more}
use Rattle.c_declarations.specs.DeclaratorReading.{arrays_from}
use Rattle.c_declarations.proofs.declarator.arrays.Goals as goal

pub returns-then-not-nesting-inside : goal.returns-then-not-nesting-inside
unfolding arrays_from
returns-then-not-nesting-inside c =
    let e = one_more (λ n. arrays_from c.args.inside (inner_at c.args.inside).choice n c.loop-turn.found c.loop-turn.tokens) _ c.loop-turn._turn c.loop-turn-test.true c.loop-turn.invariant in
    first_of (search rules, grind (arith, common_steps))

pub returns-in_err-found : goal.returns-in_err-found
unfolding arrays_from
returns-in_err-found c =
    let e = one_more (λ n. arrays_from c.args.inside (inner_at c.args.inside).choice n c.loop-turn.found c.loop-turn.tokens) _ c.loop-turn._turn c.loop-turn-test.true c.loop-turn.invariant in
    first_of (search rules, grind (arith, common_steps))

pub loop-turn-preserved : goal.loop-turn-preserved
unfolding arrays_from
loop-turn-preserved c =
    let e = one_more (λ n. arrays_from c.args.inside (inner_at c.args.inside).choice n c.loop-turn.found c.loop-turn.tokens) _ c.loop-turn._turn c.loop-turn-test.true c.loop-turn.invariant in
    first_of (search rules, grind (arith, common_steps))

pub returns : goal.returns
unfolding arrays_from
returns c =
    let e = no_more (λ n. arrays_from c.args.inside (inner_at c.args.inside).choice n c.loop-turn.found c.loop-turn.tokens) _ c.loop-turn._turn c.loop-turn-test.false c.loop-turn.invariant in
    first_of (search rules, grind (arith, common_steps))
