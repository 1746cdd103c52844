use Rattle.std.proofs.Common.{refl}
use Rattle.weave_cli.specs.Answers.Answers.{memory}
use Rattle.weave_cli.proofs.process.answer.Goals as goal

pub returns-in-Err-clause-answers : goal.returns-in-Err-clause-answers
returns-in-Err-clause-answers g c = memory refl refl
