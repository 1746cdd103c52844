use Rattle.c_types.proofs.StartLaws.{void_given}
use Rattle.c_types.proofs.library.void_pointer.Goals as goal

pub returns : goal.returns
returns c = void_given c.pointer.result c.pointer.ensures
