use Rattle.std.proofs.Common.{position, ap, ◌∙◌}
use Rattle.std.specs.Str.{bytes_eq}
use Rattle.typing_scopes.proofs.NameLists.{position-map}
use Rattle.typing_scopes.proofs.table.Table.number.Goals as goal

pub returns-clause-number : goal.returns-clause-number
returns-clause-number c = λ d.
    d.number.ensures.number ∙ (ap (position (bytes_eq d.args.name.now)) d.self.invariant
    ∙ (position-map (bytes_eq d.args.name.now) c.T.HasName.name d.self.inside.items
    ∙ ap (position (λ x. bytes_eq d.args.name.now (c.T.HasName.name x))) d.self.view_is))
