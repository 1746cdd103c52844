-- Ghost variables start with 0 or null.
use Rattle.std.proofs.Common.{◌≡◌, List, [], ◌∷◌, map, ap, ◌∙◌, subst, IfOk}
use Rattle.step_meaning.specs.Memory.{Block}
use Rattle.step_meaning.specs.Runs.{global_blocks, ghost_block, ghost_start}
use Rattle.run_memory.specs.Storage.{Storage}
use Rattle.run_memory.proofs.StartLaws.{ghosts_filled, ghosts_initial}
use Rattle.run_memory.proofs.store.Store.make_ghosts.Goals as goal

pub build-requires-clause-sized : goal.build-requires-clause-sized
build-requires-clause-sized c = rw (c.as_slice.ensures, c.as_slice-variables.ensures) c.requires.sized

pub build-requires-clause-initial : goal.build-requires-clause-initial
build-requires-clause-initial c = rw (c.as_slice-2.ensures, c.in_ok-values.ensures) (ghosts_initial c.as_slice-variables.result.now)

pub returns : goal.returns
returns c =
    let q = c.args.core.now in
    let values : c.as_slice-2.result.now ≡ map (λ d. ghost_start d.ctype ∷ []) c.as_slice-variables.result.now = c.as_slice-2.ensures ∙ c.in_ok-values.ensures in
    let blocks : global_blocks c.as_slice.result.now c.as_slice-variables.result.now c.as_slice-2.result.now ≡ map (ghost_block q.layouts) q.ghosts =
    ap (global_blocks c.as_slice.result.now c.as_slice-variables.result.now) values
    ∙ ghosts_filled c.as_slice.result.now c.as_slice-variables.result.now
    ∙ ap (λ ls. map (ghost_block ls) c.as_slice-variables.result.now) c.as_slice.ensures
    ∙ ap (map (ghost_block q.layouts)) c.as_slice-variables.ensures in
    subst (λ (bs : List Block). IfOk c.build.result (λ (s : Storage). s ≡ record { memory = record { globals = bs; frames = []; heap = [] }; chunk_limit = c.args.chunks; call_limit = c.args.calls })) blocks c.build.ensures
