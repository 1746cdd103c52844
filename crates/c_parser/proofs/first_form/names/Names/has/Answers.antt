use Rattle.std.proofs.Common.{sym, ◌∙◌}
use Rattle.std.specs.Str.{bytes_eq}
use Rattle.c_parser.proofs.FirstForm.ListFacts.{list_any-map}
use Rattle.c_parser.proofs.first_form.names.Names.has.Goals as goal

pub returns : goal.returns
returns c = rw (← c.self.view_is) (c.contains.ensures ∙ sym (list_any-map (bytes_eq c.args.name.now) (λ x. x.now) _))
