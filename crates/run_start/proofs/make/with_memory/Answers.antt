-- What was made runs.
use Rattle.std.proofs.Common.{◌≡◌, ◌≤◌, ◌∙◌, length, max, ap, subst, sym, arith}
use Rattle.step_meaning.specs.Runs.{start_ghosts}
use Rattle.run_memory.specs.Storage.{Storage}
use Rattle.run_state.specs.Machine.{Fixed, configuration_of}
use Rattle.run_turns.specs.Turns as turns
use Rattle.run_start.specs.Running.{Runs}
use Rattle.run_start.specs.Rooms.{fixed_at}
use Rattle.run_start.proofs.StartLaws.{start_runs}
use Rattle.run_start.proofs.make.with_memory.Goals as goal

pub returns-clause-runs : goal.returns-clause-runs
returns-clause-runs c =
    let q = c.args.core.now in
    let r = c.in_ok-memory.rooms in
    let m = c.in_ok-memory-3.memory in
    let g = c.in_ok-memory-3.ghosts in
    let kept : m ≡ c.args.memory = ap (λ (p : Storage × Storage). p.0) c.in_ok-memory-3.ensures.made.0 ∙ c.in_ok-memory-2.ensures.made.0 ∙ c.in_ok-memory.ensures.made.0 in
    let made : g ≡ record { memory = start_ghosts q; chunk_limit = max 1 (length q.ghosts); call_limit = c.args.calls } = ap (λ (p : Storage × Storage). p.1) c.in_ok-memory-3.ensures.made.0 ∙ c.in_ok-memory-2.ensures.made.1 in
    let few : length q.ghosts ≤ g.chunk_limit = rw made (omega arith) in
    let chunks : m.chunk_limit ≤ 1048576 = rw kept c.requires.limits.0 in
    let runs = start_runs q r m g c.args.calls c.requires.runnable c.requires.few c.in_ok-memory.ensures.made.1 chunks (ap (λ (s : Storage). s.call_limit) kept ∙ c.requires.limits.1) (ap (λ (s : Storage). s.call_limit) made) few in
    subst (λ (f : Fixed). Runs 0 f (configuration_of c.beginning.result)) (sym c.beginning.ensures.fixed)
    (subst (λ (n : turns.Configuration). Runs 0 (fixed_at q r m g c.args.calls) n) (sym c.beginning.ensures.started) runs)
