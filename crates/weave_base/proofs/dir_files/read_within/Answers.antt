-- What was read so far, and one chunk more.
use Rattle.std.proofs.Common.{arith}
use Rattle.weave_base.proofs.Chunks.{read_more, read_all, read_so_far}
use Rattle.weave_base.proofs.dir_files.read_within.Goals as goal

pub returns-then-count-eq0-clause-read : goal.returns-then-count-eq0-clause-read
returns-then-count-eq0-clause-read g c = λ bytes told.
    read_all bytes _ _ _ _ _ _ c.args.limit (c.chunks.invariant.read bytes told) c.in_ok-count.ensures.read c.if-count-eq0.true c.chunks.invariant.within

pub returns-then-limit-len-clause-read : goal.returns-then-limit-len-clause-read
returns-then-limit-len-clause-read g c = λ bytes told.
    let read = read_so_far bytes _ _ (read_more bytes _ _ _ _ _ _ (c.chunks.invariant.read bytes told) c.in_ok-count.ensures.read) in
    omega (arith, read)

pub chunks-preserved : goal.chunks-preserved
chunks-preserved g c = record {
  within = omega (arith, c.if-limit-len.false);
  read = λ bytes told. read_more bytes _ _ _ _ _ _ (c.chunks.invariant.read bytes told) c.in_ok-count.ensures.read;
}
