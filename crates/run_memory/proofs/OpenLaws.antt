-- An activation that begins and ends variable by variable.
use Rattle.std.proofs.Common.{◌≡◌, ℕ, zero, suc, ◌+◌, ◌<◌, ◌≤◌, List, [], ◌∷◌, ◌++◌, length, map, take, get_or, Option, Some, None, refl, sym, ap, ◌∙◌, arith}
use Rattle.std.specs.Prelude.{slice_get}
use Rattle.std.specs.List.{sum_by, AllByRecursion}
use Rattle.std.proofs.lemmas.List.{take_all, take-take, take_more, length-take}
use Rattle.std.proofs.lemmas.List.Sums.{sum_by-cons, sum_by_more, sum_by-take-le}
use Rattle.step_meaning.specs.declared.value.Value.{Value}
use Rattle.step_meaning.specs.declared.program.Layout.{Layout}
use Rattle.step_meaning.specs.declared.program.Declared.{Declared}
use Rattle.step_meaning.specs.Memory.{Block, Frame, Memory, empty_block, filled, unset_cells}
use Rattle.step_meaning.specs.Calls.{with_frame, without_frame, with_arguments}
use Rattle.step_meaning.specs.Limits.{chunks, chunks_of, chunks_for, frame_chunks}
use Rattle.step_meaning.specs.Types.{object_cells}
use Rattle.run_memory.specs.Cells.{ValueIsNumbered, ArgumentIsNumbered}
use Rattle.run_memory.specs.Storage.{with_local, with_locals, keep_locals, first_local, locals_in, IsBlockSized, variables_chunks}
use Rattle.run_memory.proofs.TypeCells.{unset_length}

-- ---- the end

keep_all : (fs : List Frame) → keep_locals (locals_in fs) fs ≡ fs
keep_all [] = refl
keep_all (f ∷ fs) = ap (λ b. record { activation = f.activation; locals = b } ∷ fs) (take_all (length f.locals) f.locals (omega arith))

pub all_locals : (m : Memory) → with_locals (locals_in m.frames) m ≡ m
all_locals m = ap (λ fs. record m { frames = fs }) (keep_all m.frames)

pub locals_left : (k : ℕ) (m : Memory) → k ≤ locals_in m.frames → locals_in (with_locals k m).frames ≡ k
locals_left k m h = by m.frames h
  where
    by : (fs : List Frame) → k ≤ locals_in fs → locals_in (keep_locals k fs) ≡ k
    by [] h = omega arith
    by (f ∷ fs) h = let l = length-take k f.locals in omega arith

keep_fewer : (j k : ℕ) (fs : List Frame) → j ≤ k → keep_locals j (keep_locals k fs) ≡ keep_locals j fs
keep_fewer j k [] h = refl
keep_fewer j k (f ∷ fs) h = ap (λ b. record { activation = f.activation; locals = b } ∷ fs) (take-take j k f.locals h)

pub fewer_locals : (j k : ℕ) (m : Memory) → j ≤ k → with_locals j (with_locals k m) ≡ with_locals j m
fewer_locals j k m h = ap (λ fs. record m { frames = fs }) (keep_fewer j k m.frames h)

pub ended_anyway : (k : ℕ) (m : Memory) → without_frame (with_locals k m) ≡ without_frame m
ended_anyway k m = by m.frames
  where
    by : (fs : List Frame) → ◌≡◌ {A = Memory} (record m { frames = Rattle.std.specs.Prelude.drop 1 (keep_locals k fs) }) (record m { frames = Rattle.std.specs.Prelude.drop 1 fs })
    by [] = refl
    by (f ∷ fs) = refl

pub still_inside : (k : ℕ) (m : Memory) → length (with_locals k m).frames ≡ length m.frames
still_inside k m = by m.frames
  where
    by : (fs : List Frame) → length (keep_locals k fs) ≡ length fs
    by [] = refl
    by (f ∷ fs) = refl

-- ---- the beginning

module _ (layouts : List Layout) where
  abbrev pub all : List Declared → List Value → List Block
  all ds vs = with_arguments (map (empty_block layouts) ds) vs

  pub all_length : (ds : List Declared) (vs : List Value) → length (all ds vs) ≡ length ds
  all_length [] [] = refl
  all_length [] (v ∷ vs) = refl
  all_length (d ∷ ds) [] = ap suc (all_length ds [])
  all_length (d ∷ ds) (v ∷ vs) = ap suc (all_length ds vs)

  pub all_at : (ds : List Declared) (vs : List Value) (i : ℕ) (d : Declared) → i < length ds → get_or (all ds vs) i [] ≡ first_local layouts (get_or ds i d).ctype (slice_get vs i)
  all_at [] vs i d h = absurd (omega arith)
  all_at (x ∷ ds) [] zero d h = refl
  all_at (x ∷ ds) [] (suc i) d h = all_at ds [] i d (omega arith)
  all_at (x ∷ ds) (v ∷ vs) zero d h = refl
  all_at (x ∷ ds) (v ∷ vs) (suc i) d h = all_at ds vs i d (omega arith)

  pub first_length : (t : Rattle.step_meaning.specs.declared.value.CType.CType) (o : Option Value) → length (first_local layouts t o) ≡ length (object_cells layouts t)
  first_length t None = unset_length (object_cells layouts t)
  first_length t (Some v) = filled_length (unset_cells (object_cells layouts t)) v ∙ unset_length (object_cells layouts t)
    where
      none_length : (b : Block) → length (filled b []) ≡ length b
      none_length [] = refl
      none_length (s ∷ b) = refl

      filled_length : (b : Block) (v : Value) → length (filled b (v ∷ [])) ≡ length b
      filled_length [] v = refl
      filled_length (s ∷ b) v = ap suc (none_length b)

  pub with_more : (m : Memory) (a i : ℕ) (ds : List Declared) (vs : List Value) (d : Declared) → i < length ds
      → with_local (first_local layouts (get_or ds i d).ctype (slice_get vs i)) (with_frame (record { activation = a; locals = take i (all ds vs) }) m) ≡ with_frame (record { activation = a; locals = take (i + 1) (all ds vs) }) m
  with_more m a i ds vs d h =
      ap (λ b. with_frame (record { activation = a; locals = b }) m)
      (ap (λ b. take i (all ds vs) ++ b ∷ []) (sym (all_at ds vs i d h)) ∙ sym (take_more (all ds vs) i [] (let n = all_length ds vs in omega arith)))

  -- the chunks so far with those of the next variable
  pub room_for_more : (m : Memory) (a i : ℕ) (ds : List Declared) (vs : List Value) (d : Declared) (limit : ℕ) → i < length ds → chunks m + frame_chunks (record { activation = a; locals = all ds vs }) ≤ limit
      → chunks (with_frame (record { activation = a; locals = take i (all ds vs) }) m) + chunks_for (length (object_cells layouts (get_or ds i d).ctype)) ≤ limit
  room_for_more m a i ds vs d limit h room =
      let n = all_length ds vs in
      let c = sum_by-cons frame_chunks (record { activation = a; locals = take i (all ds vs) }) m.frames in
      let s = sum_by_more chunks_of (all ds vs) i [] (omega arith) in
      let t = sum_by-take-le chunks_of (all ds vs) (i + 1) in
      let l : chunks_of (get_or (all ds vs) i []) ≡ chunks_for (length (object_cells layouts (get_or ds i d).ctype)) = ap chunks_of (all_at ds vs i d h) ∙ ap chunks_for (first_length (get_or ds i d).ctype (slice_get vs i)) in
      omega (arith, c, s, t, l)

pub sized_at : (layouts : List Layout) (ds : List Declared) (i : ℕ) (d : Declared) → AllByRecursion (λ d. IsBlockSized layouts d.ctype) ds → i < length ds → IsBlockSized layouts (get_or ds i d).ctype
sized_at layouts [] i d h q = absurd (omega arith)
sized_at layouts (x ∷ ds) zero d h q = h.0
sized_at layouts (x ∷ ds) (suc i) d h q = sized_at layouts ds i d h.1 (omega arith)

pub numbered_at : (vs : List Value) (i : ℕ) → AllByRecursion ValueIsNumbered vs → ArgumentIsNumbered (slice_get vs i)
numbered_at [] i h = tt
numbered_at (v ∷ vs) zero h = h.0
numbered_at (v ∷ vs) (suc i) h = numbered_at vs i h.1

-- the chunks of a frame are those of its variables, whatever their arguments
pub variables_are : (layouts : List Layout) (a : ℕ) (ds : List Declared) (vs : List Value) → frame_chunks (record { activation = a; locals = all layouts ds vs }) ≡ variables_chunks layouts ds
variables_are layouts a ds vs = by ds vs
  where
    same : (d : Declared) (o : Option Value) → chunks_of (first_local layouts d.ctype o) ≡ chunks_for (length (object_cells layouts d.ctype))
    same d o = ap chunks_for (first_length layouts d.ctype o)

    by : (ds : List Declared) (vs : List Value) → sum_by chunks_of (all layouts ds vs) ≡ variables_chunks layouts ds
    by [] [] = refl
    by [] (v ∷ vs) = refl
    by (d ∷ ds) [] =
        let c = sum_by-cons chunks_of (first_local layouts d.ctype None) (all layouts ds []) in
        let e = sum_by-cons (λ (d : Declared). chunks_for (length (object_cells layouts d.ctype))) d ds in
        let w = by ds [] in
        let s = same d None in
        omega (arith, c, e, w, s)
    by (d ∷ ds) (v ∷ vs) =
        let c = sum_by-cons chunks_of (first_local layouts d.ctype (Some v)) (all layouts ds vs) in
        let e = sum_by-cons (λ (d : Declared). chunks_for (length (object_cells layouts d.ctype))) d ds in
        let w = by ds vs in
        let s = same d (Some v) in
        omega (arith, c, e, w, s)
