use Rattle.run_memory.proofs.CountLaws.{chunks_counted}
use Rattle.run_memory.proofs.laws.chunks_counted.Goals as goal

pub returns : goal.returns
returns c = chunks_counted
