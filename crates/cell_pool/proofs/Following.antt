-- A walk along a chain, one chunk after another.
use Rattle.cell_pool.proofs.Chains.{chunk_after-none, chunk_after-more}

pub ruleset chunks_follow = (chunk_after-none, chunk_after-more)
