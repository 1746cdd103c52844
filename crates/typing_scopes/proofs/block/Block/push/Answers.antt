use Rattle.std.proofs.Common.{◌++◌, ◌∷◌, [], sym, ap, ap₂, ◌∙◌, is_some}
use Rattle.typing_rules.specs.Environment.{found_in}
use Rattle.typing_scopes.specs.Blocks.{local_entry, scope_of}
use Rattle.typing_scopes.proofs.Scopes.{scope_push, block_has}
use Rattle.typing_scopes.proofs.block.Block.push.Goals as goal

pub push-requires-2 : goal.push-requires-2
push-requires-2 c = sym (block_has c.self.inside.names c.self.inside.locals c.args.name.now c.self.invariant) ∙ (ap (λ s. is_some (found_in s c.args.name.now)) c.self.view_is ∙ c.requires)

pub returns-in-Ok-clause-ok : goal.returns-in-Ok-clause-ok
returns-in-Ok-clause-ok c =
    ap₂ scope_of c.in-Ok.ensures.ok c.in_ok-push.ensures.ok
    ∙ (scope_push c.self.inside.names c.self.inside.locals c.args.name.now c.args.local c.self.invariant
    ∙ ap (λ s. s ++ (c.args.name.now, local_entry c.args.local) ∷ []) c.self.view_is)
