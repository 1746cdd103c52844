-- The variables of the innermost activation end one by one, the last first.
use Rattle.std.proofs.Common.{◌≡◌, ◌+◌, ◌-◌, ◌∙◌, ap, sym, arith, length}
use Rattle.step_meaning.specs.Calls.{without_frame}
use Rattle.run_memory.specs.Storage.{Storage, with_locals, locals_in}
use Rattle.run_memory.proofs.OpenLaws.{all_locals, locals_left, fewer_locals, ended_anyway, still_inside}
use Rattle.run_memory.proofs.store.Store.close.Goals as goal

pub loop-i-init : goal.loop-i-init
loop-i-init c =
    let m = c.args.self.now.memory in
    let n : c.top_locals-count.result - 0 ≡ locals_in m.frames = let z : c.top_locals-count.result ≡ locals_in m.frames = c.top_locals-count.ensures in omega arith in (
      c.top_locals-count.ensures,
      sym (ap (λ k. record { memory = with_locals k m; chunk_limit = c.args.self.now.chunk_limit; call_limit = c.args.self.now.call_limit }) n
          ∙ ap (λ q. record { memory = q; chunk_limit = c.args.self.now.chunk_limit; call_limit = c.args.self.now.call_limit }) (all_locals m)),
    )

pub drop_local-requires : goal.drop_local-requires
drop_local-requires c =
    let m = c.args.self.now.memory in
    let k = c.top_locals-count.result - c.loop-i.i in
    let z : c.top_locals-count.result ≡ locals_in m.frames = c.top_locals-count.ensures in
    let f : locals_in c.loop-i.self.memory.frames ≡ c.top_locals-count.result - c.loop-i.i = ap (λ (s : Storage). locals_in s.memory.frames) c.loop-i.invariant.1 ∙ locals_left k m (omega arith) in
    record { some = omega arith }

pub loop-i-preserved : goal.loop-i-preserved
loop-i-preserved c =
    let m = c.args.self.now.memory in
    let k = c.top_locals-count.result - c.loop-i.i in
    let z : c.top_locals-count.result ≡ locals_in m.frames = c.top_locals-count.ensures in
    let l : locals_in (with_locals k m).frames ≡ k = locals_left k m (omega arith) in
    let n : locals_in (with_locals k m).frames - 1 ≡ c.top_locals-count.result - (c.loop-i.i + 1) = omega arith in (
      c.loop-i.invariant.0,
      c.drop_local.ensures
          ∙ ap (λ (s : Storage). record { memory = with_locals (locals_in s.memory.frames - 1) s.memory; chunk_limit = s.chunk_limit; call_limit = s.call_limit }) c.loop-i.invariant.1
          ∙ ap (λ j. record { memory = with_locals j (with_locals k m); chunk_limit = c.args.self.now.chunk_limit; call_limit = c.args.self.now.call_limit }) n
          ∙ ap (λ q. record { memory = q; chunk_limit = c.args.self.now.chunk_limit; call_limit = c.args.self.now.call_limit }) (fewer_locals (c.top_locals-count.result - (c.loop-i.i + 1)) k m (omega arith)),
    )

pub end_frame-requires-clause-inside : goal.end_frame-requires-clause-inside
end_frame-requires-clause-inside c =
    let m = c.args.self.now.memory in
    let f : length c.loop-i.self.memory.frames ≡ length m.frames = ap (λ (s : Storage). length s.memory.frames) c.loop-i.invariant.1 ∙ still_inside (c.top_locals-count.result - c.loop-i.i) m in
    omega arith

pub end_frame-requires-clause-none : goal.end_frame-requires-clause-none
end_frame-requires-clause-none c =
    let m = c.args.self.now.memory in
    let k = c.top_locals-count.result - c.loop-i.i in
    let z : c.top_locals-count.result ≡ locals_in m.frames = c.top_locals-count.ensures in
    let f : locals_in c.loop-i.self.memory.frames ≡ c.top_locals-count.result - c.loop-i.i = ap (λ (s : Storage). locals_in s.memory.frames) c.loop-i.invariant.1 ∙ locals_left k m (omega arith) in
    omega arith

pub returns : goal.returns
returns c =
    let m = c.args.self.now.memory in
    c.end_frame.ensures
    ∙ ap (λ (s : Storage). record { memory = without_frame s.memory; chunk_limit = s.chunk_limit; call_limit = s.call_limit }) c.loop-i.invariant.1
    ∙ ap (λ q. record { memory = q; chunk_limit = c.args.self.now.chunk_limit; call_limit = c.args.self.now.call_limit }) (ended_anyway (c.top_locals-count.result - c.loop-i.i) m)
