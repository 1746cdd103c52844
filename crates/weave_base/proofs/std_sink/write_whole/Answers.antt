-- What was written so far, and one write more.
use Rattle.std.proofs.Common.{arith}
use Rattle.std.proofs.lemmas.Bool.Decides.{nat_tests}
use Rattle.weave_base.proofs.Written.{put_whole, put_in_part, put_in_part_more, written_range}
use Rattle.weave_base.proofs.std_sink.write_whole.Goals as goal

pub loop-rest-preserved : goal.loop-rest-preserved
loop-rest-preserved g c = λ bytes told.
    written_range bytes _ c.loop-rest.rest.now _ _ c.in-Ok.count (c.loop-rest.invariant bytes told) c.in-Ok.ensures.bytes

pub returns-in-Ok-eq0 : goal.returns-in-Ok-eq0
returns-in-Ok-eq0 g c = λ bytes told.
    put_in_part_more bytes _ c.loop-rest.rest.now _ _ c.in-Ok-eq0.field-0 _ (c.loop-rest.invariant bytes told) c.in-Ok-eq0.ensures.bytes

pub returns-in-Err : goal.returns-in-Err
returns-in-Err g c = λ bytes told. put_in_part bytes _ _ _ _ _ (c.loop-rest.invariant bytes told) c.in-Err.ensures.bytes

pub returns : goal.returns
returns g c = λ bytes told. put_whole bytes _ _ _ (c.loop-rest.invariant bytes told) (grind (arith, nat_tests))
