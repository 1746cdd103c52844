use Rattle.std.specs.Str.{bytes_eq}
use Rattle.c_parser.proofs.FirstForm.ListFacts.{map-push_new}
use Rattle.c_parser.proofs.first_form.names.Names.push.Goals as goal

pub returns : goal.returns
returns c = map-push_new (λ x. x.now) (bytes_eq c.args.name.now) c.args.name _ _ _ c.self.view_is c.requires c.in_ok-insert.ensures.keys
