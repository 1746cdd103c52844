-- What the method's own clauses say gives what the trait asks.
use Rattle.weave_base.proofs.Writes.{written_is_put, written_has_cause}
use Rattle.weave_base.proofs.mem_sink.MemSinkSink.TheImpl.Goals as goal

pub put-tells : goal.put-tells
put-tells c =
    let sink = c.args.self.now in
    let piece = c.args.piece.now in
    record {
      put = λ bytes told. written_is_put sink _ bytes piece _ c.ensures.answer c.ensures.after told;
      cause = written_has_cause sink _ piece _ c.ensures.answer c.ensures.after;
    }
