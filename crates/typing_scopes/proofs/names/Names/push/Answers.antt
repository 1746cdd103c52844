use Rattle.std.specs.Str.{bytes_eq}
use Rattle.typing_scopes.proofs.NameLists.{map-push_new}
use Rattle.typing_scopes.proofs.names.Names.push.Goals as goal
use Rattle.typing_scopes.proofs.names.Names.push.Goals.{in-Ok, in-Err}

pub returns-clause-ok : goal.returns-clause-ok
returns-clause-ok c = elim c.match-insert.branch [
  | in-Ok w ↦ rw w.result-is (map-push_new (λ x. x.now) (bytes_eq c.args.name.now) c.args.name _ _ _ c.self.view_is c.requires w.in-Ok.ensures.keys)
  | in-Err w ↦ rw w.result-is tt
]
