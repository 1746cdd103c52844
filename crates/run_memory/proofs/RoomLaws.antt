-- Chunks of variables.
use Rattle.std.proofs.Common.{◌≡◌, ℕ, ◌+◌, ◌/◌, ◌%◌, ◌<◌, ◌≤◌, min, List, length, take, get_or, sym, ap, ◌∙◌, arith}
use Rattle.std.proofs.lemmas.List.Sums.{sum_by_more, sum_by-take-le}
use Rattle.step_meaning.specs.declared.program.Layout.{Layout}
use Rattle.step_meaning.specs.declared.program.Declared.{Declared}
use Rattle.step_meaning.specs.Limits.{chunks_for}
use Rattle.step_meaning.specs.Types.{object_cells}
use Rattle.run_memory.specs.Storage.{variables_chunks}

pub chunks_once : (n k : ℕ) → 1 ≤ n → k ≡ n / 16 + min 1 (n % 16) → k ≡ chunks_for n
chunks_once n k h e = omega arith

pub one_more_variable : (ls : List Layout) (ds : List Declared) (i : ℕ) (d : Declared) (w : ℕ) → i < length ds → d ≡ get_or ds i d → w ≡ chunks_for (length (object_cells ls d.ctype))
    → (variables_chunks ls (take (i + 1) ds) ≡ variables_chunks ls (take i ds) + w) × (variables_chunks ls (take (i + 1) ds) ≤ variables_chunks ls ds)
one_more_variable ls ds i d w h e f = (
  sum_by_more (λ (d : Declared). chunks_for (length (object_cells ls d.ctype))) ds i d h
      ∙ ap (λ k. variables_chunks ls (take i ds) + k) (sym (f ∙ ap (λ x. chunks_for (length (object_cells ls x.ctype))) e)),
  sum_by-take-le (λ (d : Declared). chunks_for (length (object_cells ls d.ctype))) ds (i + 1),
)
