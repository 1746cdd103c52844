use Rattle.typing_laws.proofs.SmallOperands.{operands_small}
use Rattle.typing_laws.proofs.operands_are_small.Goals as goal

pub returns : goal.returns
returns c = operands_small
