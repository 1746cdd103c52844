use Rattle.typing_rules.specs.Assignments.{stepped}
use Rattle.typing_rules.specs.Allocation.{operand_type}
use Rattle.typing_laws.specs.SmallTypes.{IsSmallOperand}
use Rattle.typing_laws.proofs.SmallRules.{stepped_small}
use Rattle.typing_steps.proofs.Smallness.{moves, small_here}
use Rattle.typing_steps.proofs.rule.stepped_by.Goals as goal

pub stepped-requires : goal.stepped-requires
stepped-requires c = moves c.args.known.now.layouts c.as_slice-layouts.result.now c.as_slice-layouts.ensures c.requires.known.structs (operand_type c.args.a) c.requires.small

pub returns-clause-small : goal.returns-clause-small
returns-clause-small c =
    let ls = c.args.known.now.layouts in
    small_here ls c.as_slice-layouts.result.now c.as_slice-layouts.ensures (IsSmallOperand ls) (λ ks. stepped ks c.args.at c.args.first c.args.op c.args.a c.args.answer) c.stepped.result c.stepped.ensures
    (stepped_small ls c.args.at c.args.first c.args.op c.args.a c.args.answer c.requires.small)
