use Rattle.std.proofs.Common.{refl}
use Rattle.weave_cli.specs.Answers.{no_memory}
use Rattle.weave_cli.proofs.tool.refuse.Goals as goal

pub returns-in-Err-clause-told : goal.returns-in-Err-clause-told
returns-in-Err-clause-told g c = no_memory refl
