-- What each change of a store needs and comes to, over its lists.
use Rattle.std.proofs.Common.{◌≡◌, ℕ, suc, ◌+◌, ◌-◌, ◌<◌, ◌≤◌, List, [], ◌∷◌, ◌++◌, length, take, get_or, reverse, Option, refl, sym, ap, ◌∙◌, arith}
use Rattle.std.proofs.lemmas.List.{length-reverse, length-drop, take_more, take_all}
use Rattle.step_meaning.specs.declared.value.NameKind.TheVariants as names
use Rattle.step_meaning.specs.Memory.{Slot, Block, Frame}
use Rattle.step_meaning.specs.Limits.{chunks}
use Rattle.cell_pool.specs.Region as pool
use Rattle.run_memory.specs.declared.cell.PoolCell.{PoolCell}
use Rattle.run_memory.specs.Numbering.{IsNumbered}
use Rattle.run_memory.specs.Cells.{seen}
use Rattle.run_memory.specs.View.{blocks_at, frames_of, AreOpen, memory_of}
use Rattle.run_memory.specs.Inside.{IsStore}
use Rattle.run_memory.specs.Storage.{locals_in}
use Rattle.run_memory.proofs.Seeing.{seen_live, seen_length}
use Rattle.run_memory.proofs.ChunkLaws.{chunks_are, as_many_chunks}
use Rattle.run_memory.proofs.StoreLaws.{blocks_length}
use Rattle.run_memory.proofs.FrameSteps.{reverse_push}

open_lengths : (m l : ℕ) (ns bs : List ℕ) → AreOpen m l ns bs → length ns ≡ length bs
open_lengths m l [] [] o = refl
open_lengths m l [] (b ∷ bs) o = absurd o
open_lengths m l (n ∷ ns) [] o = absurd o
open_lengths m l (n ∷ ns) (b ∷ bs) o = ap suc (open_lengths n b ns bs o.2)

frames_length : (ns bs : List ℕ) (d : List Block) → length ns ≡ length bs → length (frames_of ns bs d) ≡ length ns
frames_length [] [] d e = refl
frames_length [] (b ∷ bs) d e = absurd (omega arith)
frames_length (n ∷ ns) [] d e = absurd (omega arith)
frames_length (n ∷ ns) (b ∷ bs) d e = ap suc (frames_length ns bs (take b d) (omega arith))

pub last_is : (xs : List ℕ) → 0 < length xs → xs ≡ take (length xs - 1) xs ++ get_or xs (length xs - 1) 0 ∷ []
last_is xs h =
    let n : length xs ≡ (length xs - 1) + 1 = omega arith in
    sym (take_all (length xs) xs (omega arith)) ∙ ap (λ k. take k xs) n ∙ take_more xs (length xs - 1) 0 (omega arith)

pub last_first : (xs : List ℕ) → 0 < length xs → reverse xs ≡ get_or xs (length xs - 1) 0 ∷ reverse (take (length xs - 1) xs)
last_first xs h = ap reverse (last_is xs h) ∙ reverse_push (take (length xs - 1) xs) (get_or xs (length xs - 1) 0)

pub counts : (r : pool.Region Slot) (g nm lo ac st nu he : List ℕ) → IsStore r g nm lo ac st nu he → (length st ≡ length ac) × (length (memory_of r g lo ac st nu he).frames ≡ length ac)
counts r g nm lo ac st nu he s =
    let e = open_lengths 1099511627776 (length lo) (reverse ac) (reverse st) s.opened in
    let a = length-reverse ac in
    let b = length-reverse st in
    let f = frames_length (reverse ac) (reverse st) (blocks_at r lo) e in
    (omega arith, omega arith)

-- the innermost activation
pub record IsTop (lo ac st : List ℕ) (a b : ℕ) (ns bs : List ℕ) : Type 0 where
  pub activations : reverse ac ≡ a ∷ ns
  pub starts : reverse st ≡ b ∷ bs
  pub below : a < 1099511627776
  pub within : b ≤ length lo

pub top : (r : pool.Region Slot) (g nm lo ac st nu he : List ℕ) → IsStore r g nm lo ac st nu he → 0 < length ac
    → IsTop lo ac st (get_or ac (length ac - 1) 0) (get_or st (length ac - 1) 0) (reverse (take (length ac - 1) ac)) (reverse (take (length ac - 1) st))
top r g nm lo ac st nu he s h =
    let n : length st ≡ length ac = (counts r g nm lo ac st nu he s).0 in
    let e = last_first ac h in
    let f : reverse st ≡ get_or st (length ac - 1) 0 ∷ reverse (take (length ac - 1) st) = last_first st (omega arith) ∙ ap (λ k. get_or st (k - 1) 0 ∷ reverse (take (k - 1) st)) n in
    let o : AreOpen 1099511627776 (length lo) (get_or ac (length ac - 1) 0 ∷ reverse (take (length ac - 1) ac)) (get_or st (length ac - 1) 0 ∷ reverse (take (length ac - 1) st)) = rw (e, f) at s.opened in
    record { activations = e; starts = f; below = o.0; within = o.1 }

pub top_count : (r : pool.Region Slot) (g nm lo ac st nu he : List ℕ) → IsStore r g nm lo ac st nu he → 0 < length ac → locals_in (memory_of r g lo ac st nu he).frames ≡ length lo - get_or st (length ac - 1) 0
top_count r g nm lo ac st nu he s h =
    let t = top r g nm lo ac st nu he s h in
    let d = length-drop (get_or st (length ac - 1) 0) (blocks_at r lo) in
    let e = blocks_length r lo in
    rw (t.activations, t.starts) (omega arith)

-- ---- chunks

pub room_is : (p : pool.Region PoolCell) (g nm lo ac st nu he : List ℕ) → IsStore (seen p) g nm lo ac st nu he → chunks (memory_of (seen p) g lo ac st nu he) ≡ pool.live_chunks p
room_is p g nm lo ac st nu he s = chunks_are (seen p) g nm lo ac st nu he s ∙ seen_live p

pub few_blocks : (p : pool.Region PoolCell) (g nm lo ac st nu he : List ℕ) → IsStore (seen p) g nm lo ac st nu he → length g + (length lo + length he) ≤ pool.live_chunks p
few_blocks p g nm lo ac st nu he s =
    let a = as_many_chunks (seen p) g in
    let b = as_many_chunks (seen p) lo in
    let c = as_many_chunks (seen p) he in
    let l = seen_live p in
    omega (arith, a, b, c, l, s.counted)

-- a change of one block keeps the number of chunks
pub same_blocks : (p p' : pool.Region PoolCell) (s : ℕ) (x : Option (pool.Block Slot)) → seen p' ≡ pool.with_block (seen p) s x → length p'.blocks ≡ length p.blocks
same_blocks p p' s x e = sym (seen_length p') ∙ ap (λ q. length q.blocks) e ∙ Rattle.std.proofs.lemmas.List.length-set (seen p).blocks s x ∙ seen_length p

pub local_numbered : (a b l : ℕ) → a < 1099511627776 → l ≤ 1048576 → IsNumbered names.Local a (l - b)
local_numbered a b l h k = record { in_memory = omega arith; activation_fits = h; index_fits = omega arith }

pub has_locals : (r : pool.Region Slot) (g nm lo ac st nu he : List ℕ) → IsStore r g nm lo ac st nu he → 0 < locals_in (memory_of r g lo ac st nu he).frames → 0 < length ac
has_locals r g nm lo ac st nu he s h = by (memory_of r g lo ac st nu he).frames h (counts r g nm lo ac st nu he s).1
  where
    by : (fs : List Frame) → 0 < locals_in fs → length fs ≡ length ac → 0 < length ac
    by [] h e = absurd (omega arith)
    by (f ∷ fs) h e = omega arith
