-- Variables of file scope that begin, and what their cells start with.
use Rattle.std.proofs.Common.{◌≡◌, ℕ, zero, suc, ◌+◌, ◌-◌, ◌<◌, ◌≤◌, List, [], ◌∷◌, ◌++◌, length, map, take, drop, get_or, reverse, replicate, Option, Some, None, refl, sym, ap, ◌∙◌, inl, inr, arith, length-append}
use Rattle.std.specs.List.{sum_by}
use Rattle.std.proofs.lemmas.List.Sums.{sum_by_push}
use Rattle.step_meaning.specs.declared.value.NameKind.TheVariants as names
use Rattle.step_meaning.specs.declared.value.Name.{Name}
use Rattle.step_meaning.specs.declared.value.Cell.{Cell}
use Rattle.step_meaning.specs.Memory.{Block, Memory, at_block, set_cell}
use Rattle.step_meaning.specs.Limits.{chunks_of}
use Rattle.cell_pool.specs.Region as pool
use Rattle.run_memory.specs.declared.cell.PoolCell.{PoolCell}
use Rattle.run_memory.specs.Numbering.{name_number, IsNumbered}
use Rattle.run_memory.specs.Cells.{seen}
use Rattle.run_memory.specs.View.{name_in, name_at, blocks_at}
use Rattle.run_memory.specs.Inside.{global_at}
use Rattle.run_memory.specs.Filling.{with_held}
use Rattle.run_memory.specs.Start.{IsStart, start_blocks}
use Rattle.run_memory.proofs.RegionLaws.{free, chunks_taken}
use Rattle.run_memory.proofs.Seeing.{seen_live, seen_length}
use Rattle.run_memory.proofs.StoreReads.{write_law}
use Rattle.run_memory.proofs.FrameSteps.{taken_push, taken_held}
use Rattle.run_memory.proofs.StoreSteps.{few_blocks}

pub few_globals : (p : pool.Region PoolCell) (g : List ℕ) → IsStart p g → length g ≤ pool.live_chunks p
few_globals p g st = let f = few_blocks p g [] [] [] [] [] [] st in omega (arith, f)

pub global_numbered : (i : ℕ) → i < 4194304 → IsNumbered names.Global 0 i
global_numbered i h = record { in_memory = omega arith; activation_fits = omega arith; index_fits = h }

module _ (p p' : pool.Region PoolCell) (g : List ℕ) (st : IsStart p g) (s name : ℕ) (x : Block) (clear : get_or (seen p).blocks s free ≡ None) (within : s < length p.blocks) (is : name ≡ name_number names.Global 0 (length g))
    (taken : seen p' ≡ pool.with_block (seen p) s (Some (record { name = name; cells = x }))) where
  unnamed : name_at (seen p) s ≡ None
  unnamed = ap name_in clear

  inside : s < length (seen p).blocks
  inside = let l = seen_length p in omega arith

  pub global_blocks : start_blocks p' (g ++ s ∷ []) ≡ start_blocks p g ++ x ∷ []
  global_blocks = rw taken (taken_push (seen p) g [] [] [] [] [] [] s name x g global_at st.globals_held unnamed inside)

  pub global_chunks : pool.live_chunks p' ≡ pool.live_chunks p + chunks_of x
  global_chunks = sym (seen_live p') ∙ ap pool.live_chunks taken ∙ chunks_taken (seen p) s name x inside clear ∙ ap (λ k. k + chunks_of x) (seen_live p)

  pub global_store : length g < 4194304 → IsStart p' (g ++ s ∷ [])
  global_store few =
      let l = length-append g (s ∷ []) in
      rw taken
      (record {
        globals_held = taken_held (seen p) g [] [] [] [] [] [] s name x g global_at global_at st.globals_held unnamed inside (λ k h. refl) (sym is);
        few_globals = omega arith;
        locals_held = record { named = λ k h. absurd (omega arith) };
        few_locals = omega arith;
        as_many_names = refl;
        locals_named = λ k h. absurd (omega arith);
        opened = refl;
        heap_held = record { named = λ k h. absurd (omega arith) };
        as_many_numbers = refl;
        heap_rises = tt;
        heap_below = λ k h. absurd (omega arith);
        counted =
            let c3 = ap (sum_by chunks_of) (taken_push (seen p) g [] [] [] [] [] [] s name x g global_at st.globals_held unnamed inside) ∙ sum_by_push chunks_of (blocks_at (seen p) g) x in
            let c4 = chunks_taken (seen p) s name x inside clear in
            omega (arith, c3, c4, st.counted);
      })

pub initial_law : (p p' : pool.Region PoolCell) (g : List ℕ) (i o : ℕ) (c : Cell) → IsStart p g → i < length g → seen p' ≡ with_held (seen p) (get_or g i 0) (name_number names.Global 0 i) o c
    → (start_blocks p' g ≡ at_block (set_cell c o) i (start_blocks p g)) × IsStart p' g × (length p'.blocks ≡ length p.blocks)
initial_law p p' g i o c st h e =
    let n : Name = record { kind = names.Global; activation = 0; index = i } in
    let w = write_law p g [] [] [] [] [] [] st p' Rattle.std.proofs.Common.true n o (get_or g i 0) c (refl, h, refl) e in
    (ap (λ (m : Memory). m.globals) w.0, w.1, w.2)

-- ---- no variables

none_live : (n : ℕ) → sum_by pool.chunks_in (replicate n free) ≡ 0
none_live zero = refl
none_live (suc n) = let c = Rattle.std.proofs.lemmas.List.Sums.sum_by-cons pool.chunks_in free (replicate n free) in let w = none_live n in omega (arith, c, w)

seen_none : (n : ℕ) → map (Rattle.std.specs.Prelude.option_map Rattle.run_memory.specs.Cells.seen_block) (replicate n None) ≡ replicate n free
seen_none zero = refl
seen_none (suc n) = ap (λ r. free ∷ r) (seen_none n)

pub no_blocks : (blank : PoolCell) (n : ℕ) → IsStart (record { blank = blank; blocks = replicate n None }) []
no_blocks blank n =
    record {
      globals_held = record { named = λ k h. absurd (omega arith) };
      few_globals = omega arith;
      locals_held = record { named = λ k h. absurd (omega arith) };
      few_locals = omega arith;
      as_many_names = refl;
      locals_named = λ k h. absurd (omega arith);
      opened = refl;
      heap_held = record { named = λ k h. absurd (omega arith) };
      as_many_numbers = refl;
      heap_rises = tt;
      heap_below = λ k h. absurd (omega arith);
      counted = sym (ap (sum_by pool.chunks_in) (seen_none n) ∙ none_live n);
    }
