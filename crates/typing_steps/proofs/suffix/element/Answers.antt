use Rattle.typing_rules.specs.Subobjects.{indexed}
use Rattle.typing_objects.specs.Parts.{base}
use Rattle.typing_laws.specs.SmallTypes.{IsSmallOperand}
use Rattle.typing_laws.proofs.SmallRules.{indexed_small}
use Rattle.typing_steps.proofs.Smallness.{steps, small_here}
use Rattle.typing_steps.proofs.suffix.element.Goals as goal

pub indexed-requires : goal.indexed-requires
indexed-requires c = steps c.args.known.now.layouts c.as_slice-layouts.result.now c.as_slice-layouts.ensures c.requires.known.structs c.args.base c.requires.small

pub returns-clause-small : goal.returns-clause-small
returns-clause-small c =
    let ls = c.args.known.now.layouts in
    let at = c.args.opening.now.token.place in
    small_here ls c.as_slice-layouts.result.now c.as_slice-layouts.ensures (IsSmallOperand ls) (λ ks. indexed ks at c.args.first (base c.args.base) c.args.index) c.indexed.result c.indexed.ensures
    (indexed_small ls at c.args.first (base c.args.base) c.args.index c.requires.small)
