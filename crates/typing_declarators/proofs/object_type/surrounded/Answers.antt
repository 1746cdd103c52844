use Rattle.typing_declarators.proofs.TypeForms.{made_array}
use Rattle.typing_declarators.proofs.object_type.surrounded.Goals as goal

pub returns-in-Sized : goal.returns-in-Sized
returns-in-Sized c = made_array c.in-Sized.count c.args.t c.into_boxed-in-Sized.result c.args.layer c.type_part-in-Sized.result c.in-Sized.is c.into_boxed-in-Sized.ensures c.type_part-in-Sized.ensures
