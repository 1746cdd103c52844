use Rattle.typing_scopes.specs.Known.{program}
use Rattle.typing_scopes.proofs.FileScopes.{no_global}
use Rattle.typing_scopes.proofs.known.Known.add_global.Goals as goal

pub push-requires-clause-new : goal.push-requires-clause-new
push-requires-clause-new c = no_global (program c.args.self.now) c.args.name.now c.requires
