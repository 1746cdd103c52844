use Rattle.typing_rules.specs.Assignments.{assigned, compound}
use Rattle.typing_rules.specs.Allocation.{operand_type}
use Rattle.typing_laws.specs.SmallTypes.{IsSmallOperand}
use Rattle.typing_laws.proofs.SmallRules.{assigned_small, compound_small}
use Rattle.typing_steps.proofs.Smallness.{moves, small_here, small_result}
use Rattle.typing_steps.proofs.rule.assigned_by.Goals as goal

pub compound-requires : goal.compound-requires
compound-requires c = moves c.args.known.now.layouts c.as_slice-layouts.result.now c.as_slice-layouts.ensures c.requires.known.structs (operand_type c.args.a) c.requires.small

pub returns-in-None-clause-small : goal.returns-in-None-clause-small
returns-in-None-clause-small c =
    let ls = c.args.known.now.layouts in
    let at = c.args.operator.now.token.place in
    small_result (IsSmallOperand ls) (assigned at c.args.a c.args.v) c.assigned.result c.assigned.ensures (assigned_small ls at c.args.a c.args.v c.requires.small)

pub returns-in-Some-clause-small : goal.returns-in-Some-clause-small
returns-in-Some-clause-small c =
    let ls = c.args.known.now.layouts in
    let at = c.args.operator.now.token.place in
    small_here ls c.as_slice-layouts.result.now c.as_slice-layouts.ensures (IsSmallOperand ls) (λ ks. compound ks at c.in-Some.op c.args.a c.args.v) c.compound.result c.compound.ensures
    (compound_small ls at c.in-Some.op c.args.a c.args.v c.requires.small)
