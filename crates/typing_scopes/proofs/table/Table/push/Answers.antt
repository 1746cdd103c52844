use Rattle.std.proofs.Common.{ap, ◌∙◌}
use Rattle.std.specs.List.{list_any}
use Rattle.std.specs.Str.{bytes_eq}
use Rattle.typing_scopes.proofs.NameLists.{list_any-map}
use Rattle.typing_scopes.proofs.table.Table.push.Goals as goal

pub push-requires-2 : goal.push-requires-2
push-requires-2 c = λ d.
    ap (list_any (bytes_eq d.args.name.now)) d.self.invariant
    ∙ (list_any-map (bytes_eq d.args.name.now) c.T.HasName.name d.self.inside.items
    ∙ (ap (list_any (λ x. bytes_eq d.args.name.now (c.T.HasName.name x))) d.self.view_is ∙ d.requires.new))
