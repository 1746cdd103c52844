-- The store of the variables of file scope is the memory of the start.
use Rattle.std.proofs.Common.{◌≡◌, ℕ, ◌∙◌, List, ap, refl, length, None}
use Rattle.std.proofs.lemmas.List.{length-replicate}
use Rattle.step_meaning.specs.Runs.{global_blocks}
use Rattle.run_memory.specs.declared.cell.Held.TheVariants as held
use Rattle.run_memory.specs.Start.{start_blocks}
use Rattle.run_memory.proofs.GlobalSteps.{no_blocks}
use Rattle.run_memory.proofs.StartLaws.{built, storage_is}
use Rattle.run_memory.proofs.store.Store.build.Goals as goal

pub push_globals-requires-clause-start : goal.push_globals-requires-clause-start
push_globals-requires-clause-start c = rw (c.in_ok-pool.ensures, c.in_ok-globals.ensures) (no_blocks (record { held = held.Nothing; ctype = None }) c.args.chunks)

pub returns : goal.returns
returns c =
    let blocks : start_blocks c.initialise_all.new.pool c.push_globals.new.globals.0 ≡ global_blocks c.args.layouts.now c.args.variables.now c.args.initial.now =
    built c.push_globals.new.pool c.initialise_all.new.pool c.push_globals.new.globals.0 c.as_slice.result.now c.args.layouts.now c.args.layouts.now c.args.variables.now c.args.variables.now c.args.initial.now c.args.initial.now
    c.initialise_all.ensures.filled c.as_slice.ensures refl c.push_globals.ensures.pushed refl refl in
    let size : length c.initialise_all.new.pool.blocks ≡ c.args.chunks =
    c.initialise_all.ensures.size ∙ c.push_globals.ensures.size ∙ ap (λ p. length p.blocks) c.in_ok-pool.ensures ∙ length-replicate c.args.chunks None in
    storage_is c.initialise_all.new.pool c.push_globals.new.globals.0 c.in_ok-locals.locals.0 c.in_ok-activations.activations.0 c.in_ok-starts.starts.0 c.in_ok-numbers.numbers.0 c.in_ok-heap.heap.0 c.args.calls c.in_ok-activations.activations.1 c.args.chunks
    (global_blocks c.args.layouts.now c.args.variables.now c.args.initial.now)
    (ap (λ (x : List ℕ × ℕ). x.0) c.in_ok-locals.ensures) (ap (λ (x : List ℕ × ℕ). x.0) c.in_ok-activations.ensures) (ap (λ (x : List ℕ × ℕ). x.0) c.in_ok-starts.ensures) (ap (λ (x : List ℕ × ℕ). x.0) c.in_ok-numbers.ensures) (ap (λ (x : List ℕ × ℕ). x.0) c.in_ok-heap.ensures)
    (ap (λ (x : List ℕ × ℕ). x.1) c.in_ok-activations.ensures) blocks size
