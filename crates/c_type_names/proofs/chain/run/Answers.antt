use Rattle.std.proofs.Common.{rules, arith}
use Rattle.std.proofs.lemmas.Grind.{common_steps}
use Rattle.c_words.specs.Parsing.{run_from, run_at}
use Rattle.c_words.proofs.Turns.{one_more, no_more}
use Rattle.c_type_names.proofs.chain.run.Goals as goal

pub returns-then-not-begins : goal.returns-then-not-begins
unfolding run_from run_at
returns-then-not-begins g c =
    let e = one_more (λ n. run_from (g.P.Part.begins c.args.part.now) (g.P.Part.parser c.args.part.now) n c.loop-turn.found c.loop-turn.tokens) _ c.loop-turn._turn c.loop-turn-test.true c.loop-turn.invariant.1 in
    first_of (search rules, grind (arith, common_steps))

pub returns-in_err-next : goal.returns-in_err-next
unfolding run_from run_at
returns-in_err-next g c =
    let e = one_more (λ n. run_from (g.P.Part.begins c.args.part.now) (g.P.Part.parser c.args.part.now) n c.loop-turn.found c.loop-turn.tokens) _ c.loop-turn._turn c.loop-turn-test.true c.loop-turn.invariant.1 in
    first_of (search rules, grind (arith, common_steps))

pub loop-turn-preserved : goal.loop-turn-preserved
unfolding run_from run_at
loop-turn-preserved g c =
    let e = one_more (λ n. run_from (g.P.Part.begins c.args.part.now) (g.P.Part.parser c.args.part.now) n c.loop-turn.found c.loop-turn.tokens) _ c.loop-turn._turn c.loop-turn-test.true c.loop-turn.invariant.1 in
    (c.loop-turn.invariant.0, first_of (search rules, grind (arith, common_steps)))

pub returns : goal.returns
unfolding run_from run_at
returns g c =
    let e = no_more (λ n. run_from (g.P.Part.begins c.args.part.now) (g.P.Part.parser c.args.part.now) n c.loop-turn.found c.loop-turn.tokens) _ c.loop-turn._turn c.loop-turn-test.false c.loop-turn.invariant.1 in
    first_of (search rules, grind (arith, common_steps))
