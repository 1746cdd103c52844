-- The cells of a type by its parts, cells that are written one after the other, and why the taking apart ends.
use Rattle.std.proofs.Common.{◌≡◌, ℕ, zero, suc, ◌+◌, ◌*◌, ◌<◌, ◌≤◌, List, [], ◌∷◌, ◌++◌, length, take, drop, set, get_or, Option, Some, None, refl, sym, ap, ◌∙◌, arith, length-append}
use Rattle.std.specs.Prelude.{flat_map}
use Rattle.std.proofs.lemmas.List.{map-append, append_assoc, append-nil, set-set, set-get_or, get_or-set_same}
use Rattle.step_meaning.specs.declared.value.CType.{CType}
use Rattle.step_meaning.specs.declared.value.CType.TheVariants.{Pointer, Array, Struct}
use Rattle.step_meaning.specs.declared.value.CType.TheBlock.{shape-the_row-CType-0, hidden-the_row-CType-0}
use denote.Hole.Carrier.{hidden}
use Rattle.step_meaning.specs.declared.program.Layout.{Layout}
use Rattle.step_meaning.specs.declared.program.Declared.{Declared}
use Rattle.step_meaning.specs.Memory.{Slot, Block, unset_cells}
use Rattle.step_meaning.specs.Types.{times, object_cells}
use Rattle.step_meaning.specs.TermSizes.{type_depth}
use Rattle.core_types.specs.Counts.{depths, bulk}
use Rattle.step_meaning.proofs.StructCells.{struct_at, struct_past}
use Rattle.cell_pool.specs.Region as pool
use Rattle.run_memory.specs.View.{name_at, cells_at}
use Rattle.run_memory.specs.Filling.{written_from}
use Rattle.run_memory.proofs.RegionLaws.{free, block_named, cell_named, named_within}

-- ---- types

pub array_cells : (ls : List Layout) (t : CType) (n : ℕ) → object_cells ls (Array t n) ≡ times n (object_cells ls t)
unfolding shape-the_row-CType-0 hidden-the_row-CType-0 hidden
array_cells ls t n = refl

pub pointer_cells : (ls : List Layout) (t : CType) → object_cells ls (Pointer t) ≡ Pointer t ∷ []
unfolding shape-the_row-CType-0 hidden-the_row-CType-0 hidden
pointer_cells ls t = refl

pub array_depth : (t : CType) (n : ℕ) → type_depth (Array t n) ≡ suc (type_depth t)
unfolding shape-the_row-CType-0 hidden-the_row-CType-0 hidden
array_depth t n = refl

pub times_more : (n : ℕ) (xs : List CType) → times (n + 1) xs ≡ times n xs ++ xs
times_more zero xs = append-nil xs
times_more (suc n) xs = let e : suc n + 1 ≡ suc (n + 1) = omega arith in rw e (ap (λ r. xs ++ r) (times_more n xs) ∙ sym (append_assoc xs (times n xs) xs))

pub times_length : (n : ℕ) (xs : List CType) → length (times n xs) ≡ n * length xs
times_length zero xs = omega arith
times_length (suc n) xs = length-append xs (times n xs) ∙ ap (λ k. length xs + k) (times_length n xs) ∙ grind arith

split_at : (ls : List Layout) (n : ℕ) (d : Layout) → n < length ls → ls ≡ take n ls ++ get_or ls n d ∷ drop (suc n) ls
split_at [] n d h = absurd (omega arith)
split_at (l ∷ ls) zero d h = refl
split_at (l ∷ ls) (suc n) d h = ap (λ r. l ∷ r) (split_at ls n d (omega arith))

taken : (ls : List Layout) (n : ℕ) → n < length ls → length (take n ls) ≡ n
taken [] n h = absurd (omega arith)
taken (l ∷ ls) zero h = refl
taken (l ∷ ls) (suc n) h = ap suc (taken ls n (omega arith))

pub struct_cells : (ls : List Layout) (n : ℕ) (d : Layout) → n < length ls
    → object_cells ls (Struct n) ≡ flat_map (λ m. object_cells (take n ls) m.ctype) (get_or ls n d).members
struct_cells ls n d h =
    ap (λ x. object_cells x (Struct n)) (split_at ls n d h)
    ∙ ap (λ k. object_cells (take n ls ++ get_or ls n d ∷ drop (suc n) ls) (Struct k)) (sym (taken ls n h))
    ∙ struct_at (take n ls) (get_or ls n d) (drop (suc n) ls)

pub no_struct : (ls : List Layout) (n : ℕ) → length ls ≤ n → object_cells ls (Struct n) ≡ []
no_struct ls n h = struct_past ls n (omega arith)

-- ---- what falls

pub part_of_bulk : (ls : List Layout) (n : ℕ) (d : Layout) → n < length ls → depths (get_or ls n d).members + bulk (take n ls) < bulk ls
part_of_bulk [] n d h = absurd (omega arith)
part_of_bulk (l ∷ ls) zero d h = omega arith
part_of_bulk (l ∷ ls) (suc n) d h = let i = part_of_bulk ls n d (omega arith) in omega (arith, i)

pub depth_at : (ds : List Declared) (i : ℕ) (d : Declared) → i < length ds → type_depth (get_or ds i d).ctype ≤ depths ds
depth_at [] i d h = absurd (omega arith)
depth_at (x ∷ ds) zero d h = omega arith
depth_at (x ∷ ds) (suc i) d h = let w = depth_at ds i d (omega arith) in omega (arith, w)

-- ---- cells that are written

pub unset-append : (ts us : List CType) → unset_cells (ts ++ us) ≡ unset_cells ts ++ unset_cells us
unset-append ts us = map-append (λ t. record { declared = t; cell = Rattle.step_meaning.specs.declared.value.Cell.TheVariants.Nothing }) ts us

pub unset_length : (ts : List CType) → length (unset_cells ts) ≡ length ts
unset_length [] = refl
unset_length (t ∷ ts) = ap suc (unset_length ts)

pub written-append : (r : pool.Region Slot) (s n o : ℕ) (xs ys : List Slot) → written_from r s n o (xs ++ ys) ≡ written_from (written_from r s n o xs) s n (o + length xs) ys
written-append r s n o [] ys = let e : o + 0 ≡ o = omega arith in rw e refl
written-append r s n o (x ∷ xs) ys = written-append (pool.with_cell r s n o x) s n (suc o) xs ys ∙ ap (λ k. written_from (written_from (pool.with_cell r s n o x) s n (suc o) xs) s n k ys) (omega arith)

-- one more part
pub written_more : (r r' r'' : pool.Region Slot) (s n o k : ℕ) (ts us : List CType) → r' ≡ written_from r s n o (unset_cells ts) → k ≡ o + length ts → r'' ≡ written_from r' s n k (unset_cells us) → r'' ≡ written_from r s n o (unset_cells (ts ++ us))
written_more r r' r'' s n o k ts us e f g =
    g
    ∙ ap (λ q. written_from q s n k (unset_cells us)) e
    ∙ ap (λ j. written_from (written_from r s n o (unset_cells ts)) s n j (unset_cells us)) (f ∙ ap (λ j. o + j) (sym (unset_length ts)))
    ∙ sym (written-append r s n o (unset_cells ts) (unset_cells us))
    ∙ ap (written_from r s n o) (sym (unset-append ts us))

-- ---- a whole block that is written

split_cells : (pre : List Slot) (t : Slot) (rest : List Slot) (c : Slot) → set (pre ++ t ∷ rest) (length pre) c ≡ (pre ++ c ∷ []) ++ rest
split_cells [] t rest c = refl
split_cells (x ∷ pre) t rest c = ap (λ r. x ∷ r) (split_cells pre t rest c)

get_split : (pre : List Slot) (t : Slot) (rest : List Slot) → Rattle.std.specs.Prelude.slice_get (pre ++ t ∷ rest) (length pre) ≡ Some t
get_split [] t rest = refl
get_split (x ∷ pre) t rest = get_split pre t rest

put_named : (r : pool.Region Slot) (s m o : ℕ) (c t : Slot) → name_at r s ≡ Some m → Rattle.std.specs.Prelude.slice_get (cells_at r s) o ≡ Some t
    → pool.with_cell r s m o c ≡ pool.with_block r s (Some (record { name = m; cells = set (cells_at r s) o c }))
put_named r s m o c t e f =
    let g : pool.cell_of r s m o ≡ Some t = cell_named r s m o e ∙ f in
    rw (g, block_named r s m e) refl

pub named_put : (r : pool.Region Slot) (s m : ℕ) (cells : Block) → s < length r.blocks → (name_at (pool.with_block r s (Some (record { name = m; cells = cells }))) s ≡ Some m) × (cells_at (pool.with_block r s (Some (record { name = m; cells = cells }))) s ≡ cells)
named_put r s m cells l =
    let e = get_or-set_same r.blocks s (Some (record { name = m; cells = cells })) free l in
    (ap Rattle.run_memory.specs.View.name_in e, ap Rattle.run_memory.specs.View.cells_in e)

pub put_twice : (r : pool.Region Slot) (s : ℕ) (x y : Option (pool.Block Slot)) → pool.with_block (pool.with_block r s x) s y ≡ pool.with_block r s y
put_twice r s x y = ap (λ bs. record { blank = r.blank; blocks = bs }) (set-set r.blocks s x y)

pub stays : (r : pool.Region Slot) (s m : ℕ) (cells : Block) → name_at r s ≡ Some m → cells_at r s ≡ cells → r ≡ pool.with_block r s (Some (record { name = m; cells = cells }))
stays r s m cells e f =
    ap (λ bs. record { blank = r.blank; blocks = bs }) (sym (set-get_or r.blocks s free) ∙ ap (λ x. set r.blocks s x) (block_is (get_or r.blocks s free) e f))
  where
    block_is : (x : Option (pool.Block Slot)) → Rattle.run_memory.specs.View.name_in x ≡ Some m → Rattle.run_memory.specs.View.cells_in x ≡ cells → x ≡ Some (record { name = m; cells = cells })
    block_is None e f = let g : None ≡ Some m = e in absurd (cc)
    block_is (Some b) e f = let g : b.name ≡ m = cc in ap (λ n. Some (record { name = n; cells = b.cells })) g ∙ ap (λ c. Some (record { name = m; cells = c })) f

pub written_whole : (r : pool.Region Slot) (s m : ℕ) (pre rest cs : List Slot) → name_at r s ≡ Some m → cells_at r s ≡ pre ++ rest → length rest ≡ length cs
    → written_from r s m (length pre) cs ≡ pool.with_block r s (Some (record { name = m; cells = pre ++ cs }))
written_whole r s m pre [] [] e f g = stays r s m (pre ++ []) e f
written_whole r s m pre [] (c ∷ cs) e f g = absurd (omega arith)
written_whole r s m pre (t ∷ rest) [] e f g = absurd (omega arith)
written_whole r s m pre (t ∷ rest) (c ∷ cs) e f g =
    let put : pool.with_cell r s m (length pre) c ≡ pool.with_block r s (Some (record { name = m; cells = (pre ++ c ∷ []) ++ rest })) =
    put_named r s m (length pre) c t e (ap (λ b. Rattle.std.specs.Prelude.slice_get b (length pre)) f ∙ get_split pre t rest)
    ∙ ap (λ b. pool.with_block r s (Some (record { name = m; cells = b }))) (ap (λ b. set b (length pre) c) f ∙ split_cells pre t rest c) in
    let now = named_put r s m ((pre ++ c ∷ []) ++ rest) (named_within r s m e) in
    let longer : suc (length pre) ≡ length (pre ++ c ∷ []) = let a = length-append pre (c ∷ []) in omega arith in
    ap (λ q. written_from q s m (suc (length pre)) cs) put
    ∙ ap (λ o. written_from (pool.with_block r s (Some (record { name = m; cells = (pre ++ c ∷ []) ++ rest }))) s m o cs) longer
    ∙ written_whole (pool.with_block r s (Some (record { name = m; cells = (pre ++ c ∷ []) ++ rest }))) s m (pre ++ c ∷ []) rest cs now.0 now.1 (omega arith)
    ∙ put_twice r s (Some (record { name = m; cells = (pre ++ c ∷ []) ++ rest })) (Some (record { name = m; cells = (pre ++ c ∷ []) ++ cs }))
    ∙ ap (λ b. pool.with_block r s (Some (record { name = m; cells = b }))) (append_assoc pre (c ∷ []) cs)

-- ---- what the code on the cells of a new block comes to

pub array_length : (ls : List Layout) (t : CType) (n : ℕ) → length (object_cells ls (Array t n)) ≡ n * length (object_cells ls t)
array_length ls t n = ap length (array_cells ls t n) ∙ times_length n (object_cells ls t)

abbrev pub members_cells : List Layout → List Declared → List CType
members_cells ls ds = flat_map (λ d. object_cells ls d.ctype) ds

pub members_more : (ls : List Layout) (ds : List Declared) (i : ℕ) (d : Declared) → i < length ds → members_cells ls (take (i + 1) ds) ≡ members_cells ls (take i ds) ++ object_cells ls (get_or ds i d).ctype
members_more ls [] i d h = absurd (omega arith)
members_more ls (x ∷ ds) zero d h = append-nil (object_cells ls x.ctype)
members_more ls (x ∷ ds) (suc i) d h =
    let e : suc i + 1 ≡ suc (i + 1) = omega arith in
    rw e (ap (λ r. object_cells ls x.ctype ++ r) (members_more ls ds i d (omega arith)) ∙ sym (append_assoc (object_cells ls x.ctype) (members_cells ls (take i ds)) (object_cells ls (get_or ds i d).ctype)))

pub members_room : (ls : List Layout) (ds : List Declared) (i : ℕ) (d : Declared) → i < length ds → length (members_cells ls (take i ds)) + length (object_cells ls (get_or ds i d).ctype) ≤ length (members_cells ls ds)
members_room ls [] i d h = absurd (omega arith)
members_room ls (x ∷ ds) zero d h = let a = length-append (object_cells ls x.ctype) (members_cells ls ds) in omega arith
members_room ls (x ∷ ds) (suc i) d h =
    let a = length-append (object_cells ls x.ctype) (members_cells ls ds) in
    let b = length-append (object_cells ls x.ctype) (members_cells ls (take i ds)) in
    let w = members_room ls ds i d (omega arith) in
    omega (arith, a, b, w)

pub array_room : (i n k : ℕ) → i < n → i * k + k ≤ n * k
array_room i n k h = let w = Rattle.std.proofs.lemmas.Nat.mul-le (suc i) k n k h (omega arith) in let e : suc i * k ≡ i * k + k = grind arith in omega arith

pub array_next : (i k : ℕ) → (i + 1) * k ≡ i * k + k
array_next i k = grind arith

-- what is no more than 65,536 in all is no more alone
pub few_cells : (n k : ℕ) → 1 ≤ n * k → n * k ≤ 65536 → (k ≤ 65536) × (n ≤ 65536)
few_cells zero k h q = absurd (omega arith)
few_cells (suc n) zero h q = absurd (omega arith)
few_cells (suc n) (suc k) h q =
    let a = Rattle.std.proofs.lemmas.Nat.mul-le 1 (suc k) (suc n) (suc k) (omega arith) (omega arith) in
    let b = Rattle.std.proofs.lemmas.Nat.mul-le (suc n) 1 (suc n) (suc k) (omega arith) (omega arith) in
    (omega arith, omega arith)
