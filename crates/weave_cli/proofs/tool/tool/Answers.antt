use Rattle.std.proofs.Common.{refl, sym}
use Rattle.weave_cli.specs.Answers.{usage}
use Rattle.weave_cli.proofs.tool.tool.Goals as goal

pub returns-in-None-clause-answers : goal.returns-in-None-clause-answers
returns-in-None-clause-answers g c = usage (sym c.in-None.ensures) refl c.tell.ensures.told
