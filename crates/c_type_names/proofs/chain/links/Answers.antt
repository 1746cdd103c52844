use Rattle.std.proofs.Common.{rules, arith}
use Rattle.std.proofs.lemmas.Grind.{common_steps}
use Rattle.c_words.specs.Operators.{has, continues}
use Rattle.c_words.specs.Parsing.{links_from}
use Rattle.c_words.proofs.Turns.{one_more, no_more}
use Rattle.c_type_names.proofs.chain.links.Goals as goal

pub returns-then-not-continues : goal.returns-then-not-continues
unfolding links_from
returns-then-not-continues g c =
    let e = one_more (λ n. links_from (continues c.args.operators) (has c.args.operators) (g.P.Operand.parser c.args.operand.now) n c.loop-turn.found.items c.loop-turn.tokens) _ c.loop-turn._turn c.loop-turn-test.true c.loop-turn.invariant.1 in
    first_of (search rules, grind (arith, common_steps))

pub returns-in_err-operator : goal.returns-in_err-operator
unfolding links_from
returns-in_err-operator g c =
    let e = one_more (λ n. links_from (continues c.args.operators) (has c.args.operators) (g.P.Operand.parser c.args.operand.now) n c.loop-turn.found.items c.loop-turn.tokens) _ c.loop-turn._turn c.loop-turn-test.true c.loop-turn.invariant.1 in
    first_of (search rules, grind (arith, common_steps))

pub returns-in_err-operand : goal.returns-in_err-operand
unfolding links_from
returns-in_err-operand g c =
    let e = one_more (λ n. links_from (continues c.args.operators) (has c.args.operators) (g.P.Operand.parser c.args.operand.now) n c.loop-turn.found.items c.loop-turn.tokens) _ c.loop-turn._turn c.loop-turn-test.true c.loop-turn.invariant.1 in
    first_of (search rules, grind (arith, common_steps))

pub loop-turn-preserved : goal.loop-turn-preserved
unfolding links_from
loop-turn-preserved g c =
    let e = one_more (λ n. links_from (continues c.args.operators) (has c.args.operators) (g.P.Operand.parser c.args.operand.now) n c.loop-turn.found.items c.loop-turn.tokens) _ c.loop-turn._turn c.loop-turn-test.true c.loop-turn.invariant.1 in
    (c.loop-turn.invariant.0, first_of (search rules, grind (arith, common_steps)))

pub returns : goal.returns
unfolding links_from
returns g c =
    let e = no_more (λ n. links_from (continues c.args.operators) (has c.args.operators) (g.P.Operand.parser c.args.operand.now) n c.loop-turn.found.items c.loop-turn.tokens) _ c.loop-turn._turn c.loop-turn-test.false c.loop-turn.invariant.1 in
    first_of (search rules, grind (arith, common_steps))
