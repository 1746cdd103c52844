use Rattle.std.proofs.Common.{subst}
use Rattle.typing_rules.specs.Checked.{Gives}
use Rattle.typing_rules.specs.Subobjects.{base_of}
use Rattle.typing_objects.specs.Parts.{base_result}
use Rattle.typing_laws.proofs.SmallRules.{base_small}
use Rattle.typing_steps.specs.Steps.{IsSmallBase}
use Rattle.typing_steps.proofs.Smallness.{small_base_result}
use Rattle.typing_steps.proofs.suffix.based.Goals as goal

pub returns-clause-small : goal.returns-clause-small
returns-clause-small c =
    let ls = c.args.known.now.layouts in
    small_base_result (IsSmallBase ls) (base_of ls c.args.a) c.base_of.result (subst (λ ks. Gives (base_of ks c.args.a) (base_result c.base_of.result)) c.as_slice.ensures c.base_of.ensures) (base_small ls c.args.a c.requires)
