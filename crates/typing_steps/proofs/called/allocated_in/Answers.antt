use Rattle.typing_objects.specs.Parts.{request}
use Rattle.typing_scopes.specs.Known.{known}
use Rattle.typing_steps.proofs.Smallness.{allocated_here}
use Rattle.typing_steps.proofs.called.allocated_in.Goals as goal

pub returns : goal.returns
returns c = allocated_here (known c.args.known.now) c.as_slice.result.now c.len.result c.args.name.now.token.place (request c.args.q) c.allocated.result c.as_slice.ensures c.len.ensures c.allocated.ensures
