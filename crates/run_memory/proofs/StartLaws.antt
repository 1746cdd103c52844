-- The initial values of variables of file scope, one after the other.
use Rattle.std.proofs.Common.{◌≡◌, ◌⊎◌, ℕ, zero, suc, ◌+◌, ◌<◌, ◌≤◌, List, [], ◌∷◌, length, map, take, get_or, refl, sym, ap, ◌∙◌, inl, inr, arith}
use Rattle.std.specs.List.{AllByRecursion}
use Rattle.step_meaning.specs.declared.value.Value.{Value}
use Rattle.step_meaning.specs.declared.value.CType.{CType}
use Rattle.step_meaning.specs.declared.value.CType.TheVariants as type
use Rattle.step_meaning.specs.declared.value.Cell.TheVariants.{Holds}
use Rattle.step_meaning.specs.declared.program.Layout.{Layout}
use Rattle.step_meaning.specs.declared.program.Declared.{Declared}
use Rattle.step_meaning.specs.Memory.{Block, at_block, set_cell, filled, empty_block}
use Rattle.step_meaning.specs.Runs.{global_blocks, ghost_block, ghost_start}
use Rattle.run_memory.specs.Cells.{ValueIsNumbered}
use Rattle.cell_pool.specs.Region.{Region}
use Rattle.run_memory.specs.declared.cell.PoolCell.{PoolCell}
use Rattle.run_memory.specs.Storage.{Storage, AreInitial, storage_of}
use Rattle.run_memory.specs.Start.{start_blocks, all_filled}
use Rattle.run_memory.proofs.Taking.{filled_none}

at_block_same : (f g : Block → Block) (i : ℕ) (bs : List Block) → ((b : Block) → f b ≡ g b) → at_block f i bs ≡ at_block g i bs
at_block_same f g i [] h = refl
at_block_same f g zero (b ∷ bs) h = ap (λ c. c ∷ bs) (h b)
at_block_same f g (suc i) (b ∷ bs) h = ap (λ r. b ∷ r) (at_block_same f g i bs h)

at_block_twice : (f g : Block → Block) (i : ℕ) (bs : List Block) → at_block f i (at_block g i bs) ≡ at_block (λ b. f (g b)) i bs
at_block_twice f g i [] = refl
at_block_twice f g zero (b ∷ bs) = refl
at_block_twice f g (suc i) (b ∷ bs) = ap (λ r. b ∷ r) (at_block_twice f g i bs)

at_block_none : (f : Block → Block) (i : ℕ) (bs : List Block) → ((b : Block) → f b ≡ b) → at_block f i bs ≡ bs
at_block_none f i [] h = refl
at_block_none f zero (b ∷ bs) h = ap (λ c. c ∷ bs) (h b)
at_block_none f (suc i) (b ∷ bs) h = ap (λ r. b ∷ r) (at_block_none f i bs h)

filled_step : (b : Block) (vs : List Value) (j : ℕ) (d : Value) → j < length vs → set_cell (Holds (get_or vs j d)) j (filled b (take j vs)) ≡ filled b (take (j + 1) vs)
filled_step b [] j d h = absurd (omega arith)
filled_step [] (v ∷ vs) j d h = refl
filled_step (s ∷ b) (v ∷ vs) zero d h = ap (λ r. record s { cell = Holds v } ∷ r) (sym (filled_none b))
filled_step (s ∷ b) (v ∷ vs) (suc j) d h = let e : suc j + 1 ≡ suc (j + 1) = omega arith in rw e (ap (λ r. record s { cell = Holds v } ∷ r) (filled_step b vs j d (omega arith)))

pub none_filled : (i : ℕ) (vs : List Value) (bs : List Block) → at_block (λ b. filled b (take 0 vs)) i bs ≡ bs
none_filled i vs bs = at_block_none (λ b. filled b (take 0 vs)) i bs (λ b. filled_none b)

pub more_filled : (i j : ℕ) (vs : List Value) (v : Value) (bs cs ds : List Block) → j < length vs → v ≡ get_or vs j v → cs ≡ at_block (λ b. filled b (take j vs)) i bs → ds ≡ at_block (set_cell (Holds v) j) i cs
    → ds ≡ at_block (λ b. filled b (take (j + 1) vs)) i bs
more_filled i j vs v bs cs ds h e f g =
    g ∙ ap (at_block (set_cell (Holds v) j) i) f
    ∙ at_block_twice (set_cell (Holds v) j) (λ b. filled b (take j vs)) i bs
    ∙ at_block_same (λ b. set_cell (Holds v) j (filled b (take j vs))) (λ b. filled b (take (j + 1) vs)) i bs (λ b. ap (λ w. set_cell (Holds w) j (filled b (take j vs))) e ∙ filled_step b vs j v h)

pub value_numbered : (vs : List Value) (j : ℕ) (v : Value) → AreInitial vs → j < length vs → v ≡ get_or vs j v → ValueIsNumbered v
value_numbered vs j v h q e = rw e (by vs j h.numbered q)
  where
    by : (ws : List Value) (k : ℕ) → AllByRecursion ValueIsNumbered ws → k < length ws → ValueIsNumbered (get_or ws k v)
    by [] k h q = absurd (omega arith)
    by (w ∷ ws) zero h q = h.0
    by (w ∷ ws) (suc k) h q = by ws k h.1 (omega arith)

-- ---- all variables

pub all_none : (bs : List Block) (vss : List (List Value)) → all_filled bs (take 0 vss) ≡ bs
all_none [] vss = refl
all_none (b ∷ bs) vss = ap (λ r. b ∷ r) (all_none bs vss)

no_values : (bs : List Block) → all_filled bs [] ≡ bs
no_values [] = refl
no_values (b ∷ bs) = ap (λ r. b ∷ r) (no_values bs)

all_step : (bs : List Block) (vss : List (List Value)) (i : ℕ) (d : List Value) → i < length vss → at_block (λ b. filled b (get_or vss i d)) i (all_filled bs (take i vss)) ≡ all_filled bs (take (i + 1) vss)
all_step bs [] i d h = absurd (omega arith)
all_step [] (vs ∷ vss) i d h = refl
all_step (b ∷ bs) (vs ∷ vss) zero d h = refl
all_step (b ∷ bs) (vs ∷ vss) (suc i) d h = let e : suc i + 1 ≡ suc (i + 1) = omega arith in rw e (ap (λ r. filled b vs ∷ r) (all_step bs vss i d (omega arith)))

pub all_more : (bs cs ds : List Block) (vss : List (List Value)) (i : ℕ) (vs : List Value) → i < length vss → vs ≡ get_or vss i vs → cs ≡ all_filled bs (take i vss) → ds ≡ at_block (λ b. filled b vs) i cs → ds ≡ all_filled bs (take (i + 1) vss)
all_more bs cs ds vss i vs h e f g = g ∙ ap (at_block (λ b. filled b vs) i) f ∙ ap (λ ws. at_block (λ b. filled b ws) i (all_filled bs (take i vss))) e ∙ all_step bs vss i vs h

pub all_done : (bs : List Block) (vss : List (List Value)) (n : ℕ) → (length bs ≤ n) ⊎ (length vss ≤ n) → all_filled bs (take n vss) ≡ all_filled bs vss
all_done [] vss n h = refl
all_done (b ∷ bs) [] zero h = refl
all_done (b ∷ bs) [] (suc n) h = refl
all_done (b ∷ bs) (vs ∷ vss) zero h = elim h [ inl p ↦ absurd (omega arith) | inr p ↦ absurd (omega arith) ]
all_done (b ∷ bs) (vs ∷ vss) (suc n) h = ap (λ r. filled b vs ∷ r) (all_done bs vss n (elim h [ inl p ↦ inl (omega arith) | inr p ↦ inr (omega arith) ]))

pub initial_at : (vss : List (List Value)) (i : ℕ) (vs : List Value) → AllByRecursion AreInitial vss → i < length vss → vs ≡ get_or vss i vs → AreInitial vs
initial_at vss i vs h q e = rw e (by vss i h q)
  where
    by : (wss : List (List Value)) (k : ℕ) → AllByRecursion AreInitial wss → k < length wss → AreInitial (get_or wss k vs)
    by [] k h q = absurd (omega arith)
    by (w ∷ ws) zero h q = h.0
    by (w ∷ ws) (suc k) h q = by ws k h.1 (omega arith)

pub start_is : (layouts : List Layout) (ds : List Declared) (vss : List (List Value)) → all_filled (map (empty_block layouts) ds) vss ≡ global_blocks layouts ds vss
start_is layouts [] vss = refl
start_is layouts (d ∷ ds) [] = ap (λ r. empty_block layouts d ∷ r) (start_is layouts ds [])
start_is layouts (d ∷ ds) (vs ∷ vss) = ap (λ r. filled (empty_block layouts d) vs ∷ r) (start_is layouts ds vss)

pub built : (p1 p2 : Region PoolCell) (g g' : List ℕ) (ls ls' : List Layout) (ds ds' : List Declared) (vss vss' : List (List Value))
    → start_blocks p2 g' ≡ all_filled (start_blocks p1 g') vss' → g' ≡ g → vss' ≡ vss → start_blocks p1 g ≡ map (empty_block ls') ds' → ls' ≡ ls → ds' ≡ ds
    → start_blocks p2 g ≡ global_blocks ls ds vss
built p1 p2 g g' ls ls' ds ds' vss vss' e f h i j k =
    ap (start_blocks p2) (sym f) ∙ e
    ∙ ap (λ x. all_filled (start_blocks p1 x) vss') f
    ∙ ap (all_filled (start_blocks p1 g)) h
    ∙ ap (λ bs. all_filled bs vss) (i ∙ ap (λ l. map (empty_block l) ds') j ∙ ap (map (empty_block ls)) k)
    ∙ start_is ls ds vss

pub start_storage : (bs cs : List Block) (n m calls : ℕ) → bs ≡ cs → n ≡ m
    → ◌≡◌ {A = Storage} (record { memory = record { globals = bs; frames = []; heap = [] }; chunk_limit = n; call_limit = calls }) (record { memory = record { globals = cs; frames = []; heap = [] }; chunk_limit = m; call_limit = calls })
start_storage bs cs n m calls e f = rw (e, f) refl

pub storage_is : (p : Region PoolCell) (g lo ac st nu he : List ℕ) (calls k n : ℕ) (cs : List Block) → lo ≡ [] → ac ≡ [] → st ≡ [] → nu ≡ [] → he ≡ [] → k ≡ calls → start_blocks p g ≡ cs → length p.blocks ≡ n
    → storage_of p g lo ac st nu he k ≡ record { memory = record { globals = cs; frames = []; heap = [] }; chunk_limit = n; call_limit = calls }
storage_is p g lo ac st nu he calls k n cs a b c d e f h i = rw (b, d, f) (start_storage (start_blocks p g) cs (length p.blocks) n calls h i)

-- ---- ghost variables

pub ghosts_filled : (layouts : List Layout) (ds : List Declared) → global_blocks layouts ds (map (λ d. ghost_start d.ctype ∷ []) ds) ≡ map (ghost_block layouts) ds
ghosts_filled layouts [] = refl
ghosts_filled layouts (d ∷ ds) = ap (λ r. ghost_block layouts d ∷ r) (ghosts_filled layouts ds)

ghost_numbered : (t : CType) → ValueIsNumbered (ghost_start t)
ghost_numbered (type.Int k) = tt
ghost_numbered type.Void = tt
ghost_numbered (type.Pointer' b t) = tt
ghost_numbered (type.Array' b t n) = tt
ghost_numbered (type.Struct n) = tt

pub ghosts_initial : (ds : List Declared) → AllByRecursion AreInitial (map (λ d. ghost_start d.ctype ∷ []) ds)
ghosts_initial [] = tt
ghosts_initial (d ∷ ds) = (record { few = omega arith; numbered = (ghost_numbered d.ctype, tt) }, ghosts_initial ds)
