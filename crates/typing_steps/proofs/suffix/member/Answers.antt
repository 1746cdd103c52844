use Rattle.typing_rules.specs.Subobjects.{dot}
use Rattle.typing_laws.specs.SmallTypes.{IsSmallOperand}
use Rattle.typing_laws.proofs.SmallRules.{dot_small}
use Rattle.typing_steps.proofs.Smallness.{offsets, small_here}
use Rattle.typing_steps.proofs.suffix.member.Goals as goal

pub dot-requires : goal.dot-requires
dot-requires c = offsets c.args.known.now.layouts c.as_slice-layouts.result.now c.as_slice-layouts.ensures c.requires.structs

pub returns-clause-small : goal.returns-clause-small
returns-clause-small c =
    let ls = c.args.known.now.layouts in
    let at = c.args.operator.now.token.place in
    let at_name = c.args.name.now.token.place in
    small_here ls c.as_slice-layouts.result.now c.as_slice-layouts.ensures (IsSmallOperand ls) (λ ks. dot ks at at_name c.bytes-bytes.result.now c.args.a) c.dot.result c.dot.ensures
    (dot_small ls c.requires.structs at at_name c.bytes-bytes.result.now c.args.a)
