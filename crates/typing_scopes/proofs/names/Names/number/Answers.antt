use Rattle.std.proofs.Common.{sym, ◌∙◌}
use Rattle.std.specs.Str.{bytes_eq}
use Rattle.typing_scopes.proofs.NameLists.{position-map}
use Rattle.typing_scopes.proofs.names.Names.number.Goals as goal

pub returns-in-Some-clause-number : goal.returns-in-Some-clause-number
returns-in-Some-clause-number c = rw (← c.self.view_is) (c.in-Some.ensures.index ∙ sym (position-map (bytes_eq c.args.name.now) (λ x. x.now) _))

pub returns-in-None-clause-number : goal.returns-in-None-clause-number
returns-in-None-clause-number c = rw (← c.self.view_is) (c.in-None.ensures.index ∙ sym (position-map (bytes_eq c.args.name.now) (λ x. x.now) _))
