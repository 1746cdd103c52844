use Rattle.typing_rules.specs.Environment.{specified}
use Rattle.typing_scopes.proofs.known.Known.specified.Goals as goal

pub returns-in-Struct : goal.returns-in-Struct
unfolding specified
returns-in-Struct c = rw c.in-Struct.is c.tagged.ensures
