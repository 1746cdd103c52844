use Rattle.std.proofs.Common.{ap, ◌∙◌}
use Rattle.typing_scopes.specs.Known.{state}
use Rattle.typing_scopes.proofs.FileScopes.{replaced-set}
use Rattle.typing_scopes.proofs.known.Known.set_function.Goals as goal

pub returns : goal.returns
returns c =
    let k = c.args.self.now in
    ap (λ fs. state (record k { functions = fs })) (c.set.ensures ∙ replaced-set c.args.number c.args.function k.functions c.requires.within)
