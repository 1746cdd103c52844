-- The end of an activation and of its last local, over the lists of a store.
use Rattle.std.proofs.Common.{◌≡◌, ℕ, ◌-◌, ◌<◌, ◌≤◌, List, [], ◌∷◌, ◌++◌, length, take, get_or, reverse, Option, Some, None, refl, sym, ap, subst, ◌∙◌, arith, length-append}
use Rattle.std.specs.Option.{IsSome}
use Rattle.step_meaning.specs.Memory.{Slot}
use Rattle.step_meaning.specs.Calls.{without_frame}
use Rattle.cell_pool.specs.Region as pool
use Rattle.run_memory.specs.declared.cell.PoolCell.{PoolCell}
use Rattle.run_memory.specs.Cells.{seen, seen_block}
use Rattle.run_memory.specs.View.{name_at, memory_of}
use Rattle.run_memory.specs.Inside.{IsStore}
use Rattle.run_memory.specs.Storage.{locals_in, with_locals}
use Rattle.run_memory.proofs.RegionLaws.{free, block_named}
use Rattle.run_memory.proofs.Seeing.{seen_with_block}
use Rattle.run_memory.proofs.FrameSteps.{ended_frames, ended_store}
use Rattle.run_memory.proofs.LocalSteps.{last_name, last_number, dropped_frames, dropped_store}
use Rattle.run_memory.proofs.StoreSteps.{counts, last_is, IsTop, top, top_count}

pub end_law : (r : pool.Region Slot) (g nm lo ac st nu he : List ℕ) → IsStore r g nm lo ac st nu he → 0 < length ac → locals_in (memory_of r g lo ac st nu he).frames ≡ 0
    → (memory_of r g lo (take (length ac - 1) ac) (take (length st - 1) st) nu he ≡ without_frame (memory_of r g lo ac st nu he))
    × IsStore r g nm lo (take (length ac - 1) ac) (take (length st - 1) st) nu he
end_law r g nm lo ac st nu he s h none =
    let n : length st ≡ length ac = (counts r g nm lo ac st nu he s).0 in
    let t = top r g nm lo ac st nu he s h in
    let c = top_count r g nm lo ac st nu he s h in
    let b : get_or st (length st - 1) 0 ≡ length lo = let e : get_or st (length st - 1) 0 ≡ get_or st (length ac - 1) 0 = ap (λ k. get_or st (k - 1) 0) n in omega (arith, t.within, c, none, e) in
    let e1 : ac ≡ take (length ac - 1) ac ++ get_or ac (length ac - 1) 0 ∷ [] = last_is ac h in
    let e2 : st ≡ take (length st - 1) st ++ get_or st (length st - 1) 0 ∷ [] = last_is st (omega arith) in (
      ended_frames r g nm lo (take (length ac - 1) ac) (take (length st - 1) st) nu he (get_or ac (length ac - 1) 0) (get_or st (length st - 1) 0) b
          ∙ ap (λ x. without_frame (memory_of r g lo x (take (length st - 1) st ++ get_or st (length st - 1) 0 ∷ []) nu he)) (sym e1)
          ∙ ap (λ x. without_frame (memory_of r g lo ac x nu he)) (sym e2),
      ended_store r g nm lo (take (length ac - 1) ac) (take (length st - 1) st) nu he (get_or ac (length ac - 1) 0) (get_or st (length st - 1) 0) b
          (subst (λ x. IsStore r g nm lo x (take (length st - 1) st ++ get_or st (length st - 1) 0 ∷ []) nu he) e1 (subst (λ x. IsStore r g nm lo ac x nu he) e2 s)),
    )

-- the last local is the innermost activation's
last_within : (r : pool.Region Slot) (g nm lo ac st nu he : List ℕ) (s m : ℕ) → IsStore r g (nm ++ m ∷ []) (lo ++ s ∷ []) ac st nu he → 0 < length ac → 0 < locals_in (memory_of r g (lo ++ s ∷ []) ac st nu he).frames → get_or st (length ac - 1) 0 ≤ length lo
last_within r g nm lo ac st nu he s m k h some =
    let c = top_count r g (nm ++ m ∷ []) (lo ++ s ∷ []) ac st nu he k h in
    let l = length-append lo (s ∷ []) in
    omega (arith, c, some, l)

pub drop_name : (p : pool.Region PoolCell) (g nm lo ac st nu he : List ℕ) (s m : ℕ) → IsStore (seen p) g (nm ++ m ∷ []) (lo ++ s ∷ []) ac st nu he → 0 < length ac → 0 < locals_in (memory_of (seen p) g (lo ++ s ∷ []) ac st nu he).frames
    → name_at (seen p) s ≡ Some m
drop_name p g nm lo ac st nu he s m k h some =
    let t = top (seen p) g (nm ++ m ∷ []) (lo ++ s ∷ []) ac st nu he k h in
    let w = last_within (seen p) g nm lo ac st nu he s m k h some in
    last_name (seen p) g nm lo ac st nu he (get_or ac (length ac - 1) 0) (get_or st (length ac - 1) 0) (reverse (take (length ac - 1) ac)) (reverse (take (length ac - 1) st)) t.activations t.starts s m k w
    ∙ ap Some (sym (last_number (seen p) g nm lo ac st nu he (get_or ac (length ac - 1) 0) (get_or st (length ac - 1) 0) (reverse (take (length ac - 1) ac)) (reverse (take (length ac - 1) st)) t.activations t.starts s m k w))

some_seen : (x : Option (pool.Block PoolCell)) → IsSome (Rattle.std.specs.Prelude.option_map seen_block x) → IsSome x
some_seen None h = h
some_seen (Some b) h = refl

pub live_from_seen : (p : pool.Region PoolCell) (s m : ℕ) → name_at (seen p) s ≡ Some m → IsSome (pool.block_of p s m)
live_from_seen p s m e =
    let z : Rattle.std.specs.Prelude.option_map seen_block (pool.block_of p s m) ≡ Some (record { name = m; cells = Rattle.run_memory.specs.View.cells_at (seen p) s }) = sym (Rattle.run_memory.proofs.Seeing.seen_block_of p s m) ∙ block_named (seen p) s m e in
    some_seen (pool.block_of p s m) (ap Rattle.std.specs.Option.is_some z)

pub drop_law : (p p' : pool.Region PoolCell) (g nm lo ac st nu he : List ℕ) (s m : ℕ) → IsStore (seen p) g (nm ++ m ∷ []) (lo ++ s ∷ []) ac st nu he → 0 < length ac → 0 < locals_in (memory_of (seen p) g (lo ++ s ∷ []) ac st nu he).frames
    → p' ≡ pool.with_block p s None
    → (memory_of (seen p') g lo ac st nu he ≡ with_locals (locals_in (memory_of (seen p) g (lo ++ s ∷ []) ac st nu he).frames - 1) (memory_of (seen p) g (lo ++ s ∷ []) ac st nu he))
    × IsStore (seen p') g nm lo ac st nu he
drop_law p p' g nm lo ac st nu he s m k h some e =
    let t = top (seen p) g (nm ++ m ∷ []) (lo ++ s ∷ []) ac st nu he k h in
    let w = last_within (seen p) g nm lo ac st nu he s m k h some in
    let is : seen p' ≡ pool.with_block (seen p) s free = ap seen e ∙ seen_with_block p s None in
    let c = top_count (seen p) g (nm ++ m ∷ []) (lo ++ s ∷ []) ac st nu he k h in
    let l = length-append lo (s ∷ []) in
    let n : locals_in (memory_of (seen p) g (lo ++ s ∷ []) ac st nu he).frames - 1 ≡ length lo - get_or st (length ac - 1) 0 = omega (arith, c, l, w) in (
      ap (λ q. memory_of q g lo ac st nu he) is
          ∙ dropped_frames (seen p) g nm lo ac st nu he (get_or ac (length ac - 1) 0) (get_or st (length ac - 1) 0) (reverse (take (length ac - 1) ac)) (reverse (take (length ac - 1) st)) t.activations t.starts s m k w
          ∙ ap (λ j. with_locals j (memory_of (seen p) g (lo ++ s ∷ []) ac st nu he)) (sym n),
      rw is (dropped_store (seen p) g nm lo ac st nu he (get_or ac (length ac - 1) 0) (get_or st (length ac - 1) 0) (reverse (take (length ac - 1) ac)) (reverse (take (length ac - 1) st)) t.activations t.starts s m k w),
    )

pub no_locals : (r : pool.Region Slot) (g nm lo ac st nu he : List ℕ) → IsStore r g nm lo ac st nu he → 0 < locals_in (memory_of r g lo ac st nu he).frames → 0 < length lo
no_locals r g nm lo ac st nu he s h = let c = top_count r g nm lo ac st nu he s (Rattle.run_memory.proofs.StoreSteps.has_locals r g nm lo ac st nu he s h) in omega (arith, c, h)

module _ (p : pool.Region PoolCell) (g named locals ac st nu he nm lo : List ℕ) (s m : ℕ) (k : IsStore (seen p) g named locals ac st nu he) (e : named ≡ nm ++ m ∷ []) (f : locals ≡ lo ++ s ∷ []) (some : 0 < locals_in (memory_of (seen p) g locals ac st nu he).frames) where
  k' : IsStore (seen p) g (nm ++ m ∷ []) (lo ++ s ∷ []) ac st nu he
  k' = subst (λ x. IsStore (seen p) g (nm ++ m ∷ []) x ac st nu he) f (subst (λ x. IsStore (seen p) g x locals ac st nu he) e k)

  some' : 0 < locals_in (memory_of (seen p) g (lo ++ s ∷ []) ac st nu he).frames
  some' = subst (λ x. 0 < locals_in (memory_of (seen p) g x ac st nu he).frames) f some

  opened : 0 < length ac
  opened = Rattle.run_memory.proofs.StoreSteps.has_locals (seen p) g named locals ac st nu he k some

  pub dropped_live : IsSome (pool.block_of p s m)
  dropped_live = live_from_seen p s m (drop_name p g nm lo ac st nu he s m k' opened some')

  pub dropped_law : (p' : pool.Region PoolCell) → p' ≡ pool.with_block p s None
      → (memory_of (seen p') g lo ac st nu he ≡ with_locals (locals_in (memory_of (seen p) g locals ac st nu he).frames - 1) (memory_of (seen p) g locals ac st nu he))
      × IsStore (seen p') g nm lo ac st nu he
  dropped_law p' q =
      let law = drop_law p p' g nm lo ac st nu he s m k' opened some' q in
      (law.0 ∙ ap (λ x. with_locals (locals_in (memory_of (seen p) g x ac st nu he).frames - 1) (memory_of (seen p) g x ac st nu he)) (sym f), law.1)
