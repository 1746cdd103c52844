use Rattle.std.proofs.Common.{◌∙◌, arith, get_or}
use Rattle.c_lexer.proofs.PositionLemmas.{step_by, after_drop}
use Rattle.c_lexer.proofs.position.Position.across.Goals as goal

pub loop-byte-preserved : goal.loop-byte-preserved
loop-byte-preserved c =
    let by = step_by c.loop-byte.position (get_or c.args.bytes.now c.loop-byte.byte-index 0) in
    rw c.after-position.ensures (record {
      offset = omega (arith, by.offset, c.loop-byte.invariant.offset);
      line = omega (arith, by.line, c.loop-byte.invariant.line);
      column = omega (arith, by.column, c.loop-byte.invariant.column);
      rest = after_drop c.loop-byte.position c.args.bytes.now c.loop-byte.byte-index c.loop-byte-test.true ∙ c.loop-byte.invariant.rest;
    })
