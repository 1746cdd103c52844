-- The chunks of a new activation and of the start.
use Rattle.std.proofs.Common.{◌≡◌, suc, List, [], ◌∷◌, length, map, refl, ap, ◌∙◌, arith}
use Rattle.std.specs.List.{sum_by}
use Rattle.std.proofs.lemmas.List.Sums.{sum_by-cons}
use Rattle.step_meaning.specs.declared.value.Value.{Value}
use Rattle.step_meaning.specs.declared.program.Layout.{Layout}
use Rattle.step_meaning.specs.declared.program.Declared.{Declared}
use Rattle.step_meaning.specs.Memory.{Block, empty_block, filled}
use Rattle.step_meaning.specs.Limits.{chunks_of, chunks_for}
use Rattle.step_meaning.specs.Runs.{global_blocks, ghost_block, ghost_start}
use Rattle.step_meaning.specs.Types.{object_cells}
use Rattle.run_memory.specs.Storage.{variables_chunks}
use Rattle.run_memory.specs.Laws.{ChunksCounted}
use Rattle.run_memory.proofs.TypeCells.{unset_length}
use Rattle.run_memory.proofs.OpenLaws.{variables_are}

filled_length : (b : Block) (vs : List Value) → length (filled b vs) ≡ length b
filled_length [] vs = refl
filled_length (s ∷ b) [] = refl
filled_length (s ∷ b) (v ∷ vs) = ap suc (filled_length b vs)

start_chunks : (layouts : List Layout) (ds : List Declared) (vss : List (List Value)) → sum_by chunks_of (global_blocks layouts ds vss) ≡ variables_chunks layouts ds
start_chunks layouts [] vss = refl
start_chunks layouts (d ∷ ds) [] =
    let c = sum_by-cons chunks_of (empty_block layouts d) (global_blocks layouts ds []) in
    let e = sum_by-cons (λ (d : Declared). chunks_for (length (object_cells layouts d.ctype))) d ds in
    let w = start_chunks layouts ds [] in
    let s : chunks_of (empty_block layouts d) ≡ chunks_for (length (object_cells layouts d.ctype)) = ap chunks_for (unset_length (object_cells layouts d.ctype)) in
    omega (arith, c, e, w, s)
start_chunks layouts (d ∷ ds) (vs ∷ vss) =
    let c = sum_by-cons chunks_of (filled (empty_block layouts d) vs) (global_blocks layouts ds vss) in
    let e = sum_by-cons (λ (d : Declared). chunks_for (length (object_cells layouts d.ctype))) d ds in
    let w = start_chunks layouts ds vss in
    let s : chunks_of (filled (empty_block layouts d) vs) ≡ chunks_for (length (object_cells layouts d.ctype)) = ap chunks_for (filled_length (empty_block layouts d) vs ∙ unset_length (object_cells layouts d.ctype)) in
    omega (arith, c, e, w, s)

ghost_chunks : (layouts : List Layout) (ds : List Declared) → sum_by chunks_of (map (ghost_block layouts) ds) ≡ variables_chunks layouts ds
ghost_chunks layouts [] = refl
ghost_chunks layouts (d ∷ ds) =
    let c = sum_by-cons chunks_of (ghost_block layouts d) (map (ghost_block layouts) ds) in
    let e = sum_by-cons (λ (d : Declared). chunks_for (length (object_cells layouts d.ctype))) d ds in
    let w = ghost_chunks layouts ds in
    let s : chunks_of (ghost_block layouts d) ≡ chunks_for (length (object_cells layouts d.ctype)) = ap chunks_for (filled_length (empty_block layouts d) (ghost_start d.ctype ∷ []) ∙ unset_length (object_cells layouts d.ctype)) in
    omega (arith, c, e, w, s)

pub chunks_counted : ChunksCounted
chunks_counted =
    record {
      of_frames = λ layouts f a vs. variables_are layouts a f.locals vs;
      of_start = λ q. let w = start_chunks q.layouts q.globals q.initial in omega (arith, w);
      of_ghosts = λ q. let w = ghost_chunks q.layouts q.ghosts in omega (arith, w);
    }
