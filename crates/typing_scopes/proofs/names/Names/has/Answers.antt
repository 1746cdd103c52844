use Rattle.std.proofs.Common.{sym, ◌∙◌}
use Rattle.std.specs.Str.{bytes_eq}
use Rattle.typing_scopes.proofs.NameLists.{list_any-map}
use Rattle.typing_scopes.proofs.names.Names.has.Goals as goal

pub returns : goal.returns
returns c = rw (← c.self.view_is) (c.contains.ensures ∙ sym (list_any-map (bytes_eq c.args.name.now) (λ x. x.now) _))
