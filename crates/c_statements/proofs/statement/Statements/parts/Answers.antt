use Rattle.std.proofs.Common.{rules, ◌≡◌, ◌∙◌, true, false, None, arith}
use Rattle.std.proofs.lemmas.Grind.{common_steps}
use Rattle.c_words.specs.Parsing.{word_at, run_at}
use Rattle.c_expressions.specs.ExpressionReading.{inner_at}
use Rattle.c_statements.specs.StatementReading as spec
use Rattle.c_statements.specs.StatementReading.{at_level, begins_part}
use Rattle.c_statements.proofs.Turns.{no_turn_left, turn_ends, turn_refused, turn_goes_on}
use Rattle.c_statements.proofs.statement.Statements.parts.Goals as goal

pub returns-then-not-begins_part : goal.returns-then-not-begins_part
unfolding run_at
returns-then-not-begins_part g c =
    let stop : begins_part (word_at c.loop-turn.tokens) ≡ false = grind (arith, common_steps) in
    c.loop-turn.invariant ∙ turn_ends begins_part (at_level spec.block_part c.args.self.now.here c.args.self.now.inside) _ _ _ _ c.loop-turn-test.true stop

pub returns-in_err-found : goal.returns-in_err-found
unfolding run_at spec.one_more
returns-in_err-found g c =
    let go : begins_part (word_at c.loop-turn.tokens) ≡ true = grind (arith, common_steps) in
    let refused = λ (none : spec.one_more c.args.self.now.inside (inner_at c.args.self.now.here).assign (inner_at c.args.self.now.inside).assign (spec.stmt_at c.args.self.now.inside) c.loop-turn.found c.loop-turn.tokens ≡ None).
    c.loop-turn.invariant
    ∙ turn_refused begins_part (at_level spec.block_part c.args.self.now.here c.args.self.now.inside) c.loop-turn._turn c.left-turn-end.result c.loop-turn.found c.loop-turn.tokens c.loop-turn-test.true go none in
    first_of (search rules, grind (arith, common_steps))

pub loop-turn-preserved : goal.loop-turn-preserved
unfolding spec.one_more
loop-turn-preserved g c =
    let go : begins_part (word_at c.loop-turn.tokens) ≡ true = grind (arith, common_steps) in
    c.loop-turn.invariant
    ∙ turn_goes_on begins_part (at_level spec.block_part c.args.self.now.here c.args.self.now.inside) _ _ _ _ _ _ c.loop-turn-test.true go c.in_ok-found.ensures

pub returns : goal.returns
unfolding run_at
returns g c = c.loop-turn.invariant ∙ no_turn_left begins_part (at_level spec.block_part c.args.self.now.here c.args.self.now.inside) _ _ _ _ c.loop-turn-test.false
