use Rattle.std.proofs.Common.{rules, arith}
use Rattle.std.specs.Str.{bytes_eq}
use Rattle.core_types.proofs.members.member_named.Goals as goal
use Rattle.core_types.proofs.MemberSteps.{position_at, position_nowhere}

pub returns-then-eq : goal.returns-then-eq
returns-then-eq c = position_at (λ d. bytes_eq c.args.name.now d.name) c.args.members.now c.loop-index.index c.index-members-index.result c.loop-index-test.true (λ k l. c.loop-index.invariant k c.index-members-index.result l) (search rules)

pub returns : goal.returns
returns c = position_nowhere (λ d. bytes_eq c.args.name.now d.name) c.args.members.now (λ k d l. c.loop-index.invariant k d (omega arith))
