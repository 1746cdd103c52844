use Rattle.std.proofs.Common.{refl}
use Rattle.weave_cli.specs.Answers.{told, untold}
use Rattle.weave_cli.proofs.tool.tell.Goals as goal

pub returns-in-Ok-clause-told : goal.returns-in-Ok-clause-told
returns-in-Ok-clause-told g c = told c.in-Ok.ensures.put

pub returns-in-Err-clause-told : goal.returns-in-Err-clause-told
returns-in-Err-clause-told g c = untold (c.in-Err.ensures.cause.failed refl) c.in-Err.ensures.put
