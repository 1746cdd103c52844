use Rattle.std.proofs.Common.{map, get_or, sym, ap, ◌∙◌}
use Rattle.typing_scopes.proofs.FileScopes.{set_named}
use Rattle.typing_scopes.proofs.table.Table.set.Goals as goal

pub invariant_of-self : goal.invariant_of-self
invariant_of-self c = λ d.
    d.self.invariant ∙ sym (ap (map c.T.HasName.name) d.set.ensures ∙ set_named c.T.HasName.name d.self.inside.items d.args.number d.args.item (d.requires.named ∙ ap (λ xs. c.T.HasName.name (get_or xs d.args.number d.args.item)) (sym d.self.view_is)))
