-- The variables of an activation begin one by one.
use Rattle.std.proofs.Common.{◌∙◌, ap, arith, length, get_or}
use Rattle.std.specs.Prelude.{slice_get}
use Rattle.std.proofs.lemmas.List.{take_all}
use Rattle.step_meaning.specs.Calls.{with_frame}
use Rattle.step_meaning.specs.Limits.{chunks}
use Rattle.run_memory.specs.Storage.{Storage, with_local, first_local}
use Rattle.run_memory.proofs.OpenLaws.{all, all_length, with_more, room_for_more, numbered_at, variables_are}
use Rattle.run_memory.proofs.store.Store.begin.Goals as goal

pub loop-i-init : goal.loop-i-init
loop-i-init c = c.begin_frame.ensures

pub push_local-requires-clause-inside : goal.push_local-requires-clause-inside
push_local-requires-clause-inside c = let e = ap (λ (s : Storage). length s.memory.frames) c.loop-i.invariant in omega (arith, e)

pub push_local-requires-clause-room : goal.push_local-requires-clause-room
push_local-requires-clause-room c =
    let e1 = ap (λ (s : Storage). chunks s.memory) c.loop-i.invariant in
    let e2 = ap (λ (s : Storage). s.chunk_limit) c.loop-i.invariant in
    let r = room_for_more c.args.layouts.now c.args.self.now.memory c.args.activation c.loop-i.i c.args.variables.now c.args.arguments.now c.index-variables-i.result c.args.self.now.chunk_limit c.loop-i-test.true (let v = variables_are c.args.layouts.now c.args.activation c.args.variables.now c.args.arguments.now in omega (arith, v, c.requires.room)) in
    rw (e1, e2) r

pub push_local-requires-clause-numbered : goal.push_local-requires-clause-numbered
push_local-requires-clause-numbered c = rw c.argument_at.ensures (numbered_at c.args.arguments.now c.loop-i.i c.requires.numbered)

pub loop-i-preserved : goal.loop-i-preserved
loop-i-preserved c =
    let d = get_or c.args.variables.now c.loop-i.i c.index-variables-i.result in
    c.push_local.ensures
    ∙ ap (λ o. record { memory = with_local (first_local c.args.layouts.now d.ctype o) c.loop-i.self.memory; chunk_limit = c.loop-i.self.chunk_limit; call_limit = c.loop-i.self.call_limit }) c.argument_at.ensures
    ∙ ap (λ (s : Storage). record { memory = with_local (first_local c.args.layouts.now d.ctype (slice_get c.args.arguments.now c.loop-i.i)) s.memory; chunk_limit = s.chunk_limit; call_limit = s.call_limit }) c.loop-i.invariant
    ∙ ap (λ q. record { memory = q; chunk_limit = c.args.self.now.chunk_limit; call_limit = c.args.self.now.call_limit }) (with_more c.args.layouts.now c.args.self.now.memory c.args.activation c.loop-i.i c.args.variables.now c.args.arguments.now c.index-variables-i.result c.loop-i-test.true)

pub returns : goal.returns
returns c =
    let ls = c.args.variables.now in
    let bs = all c.args.layouts.now ls c.args.arguments.now in
    let n = all_length c.args.layouts.now ls c.args.arguments.now in
    c.loop-i.invariant
    ∙ ap (λ b. record { memory = with_frame (record { activation = c.args.activation; locals = b }) c.args.self.now.memory; chunk_limit = c.args.self.now.chunk_limit; call_limit = c.args.self.now.call_limit }) (take_all c.loop-i.i bs (omega arith))
