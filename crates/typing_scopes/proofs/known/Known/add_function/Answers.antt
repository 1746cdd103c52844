use Rattle.std.specs.Str.{bytes_eq}
use Rattle.typing_scopes.proofs.Scopes.{none_there}
use Rattle.typing_scopes.proofs.known.Known.add_function.Goals as goal

pub push-requires-clause-new : goal.push-requires-clause-new
push-requires-clause-new c = none_there (λ f. bytes_eq c.args.name.now f.name) c.args.self.now.functions c.requires.new
