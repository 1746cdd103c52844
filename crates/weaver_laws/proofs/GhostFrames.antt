-- The ghost variables of the woven program as a function of those of the fold: those of file scope, the frame of the running activation, and frames of outer ones.
use Rattle.std.specs.List.{AllByRecursion}
use Rattle.std.proofs.Common.{◌≡◌, ℕ, zero, suc, ◌^◌, Bool, true, false, cond, ◌==◌, List, [], ◌∷◌, map, slice_get, Option, Some, None, refl, sym, subst, ap, ◌∙◌}
use Rattle.std.proofs.Math.Dec.{eqb_refl, T}
use Rattle.std.proofs.lemmas.Bool.{eqb-true}
use Rattle.std.specs.Prelude.{pos, negsuc, nat_lt, is_some, option_map, option_and_then}
use Rattle.step_meaning.specs.declared.value.CType.{CType}
use Rattle.step_meaning.specs.declared.value.CType.TheVariants as type
use Rattle.step_meaning.specs.declared.value.NameKind.{NameKind}
use Rattle.step_meaning.specs.declared.value.NameKind.TheVariants as names
use Rattle.step_meaning.specs.declared.value.Value.TheVariants as value
use Rattle.step_meaning.specs.declared.value.Cell.{Cell}
use Rattle.step_meaning.specs.declared.value.Cell.TheVariants.{Nothing, Holds}
use Rattle.step_meaning.specs.declared.program.HookPlace.{HookPlace}
use Rattle.step_meaning.specs.Numbers.{is_in_range}
use Rattle.step_meaning.specs.Memory.{Memory, Frame, Block, frame_block, frame_of, set_cell, at_block, at_frame}
use Rattle.step_meaning.specs.Terms.{TermValue, Number, NullPointer, PointerInto, scalar_value}
use Rattle.step_meaning.specs.Ghosts.{in_ghost, ghost_cell, declared_in, ghost_type, ghost_put}
use Rattle.step_meaning.specs.Fit.{is_enter_place, MaySet}
use Rattle.weaver_laws.proofs.InsideMemories.{CellInside, BlockInside, FrameInside, MemoryInside, TermInside}

-- ---- the woven program's ghost variables: those of file scope, the frame of the running activation, and frames of outer ones

abbrev pub own_frame : ℕ → Option Frame → Frame
own_frame a (Some f) = f
own_frame a None = record { activation = a; locals = [] }

abbrev pub image : ℕ → List Frame → Memory → Memory
image a outer g = record g { frames = own_frame a (frame_of a g.frames) ∷ outer }

pub number_same : (n : ℕ) → (n == n) ≡ true
number_same n = told (n == n) (eqb_refl n)
  where
    told : (b : Bool) → T b → b ≡ true
    told true h = refl
    told false h = absurd h

none_is_not : {A P : Type 0} (x : A) → None ≡ Some x → P
none_is_not x e = cc

some_same : {A : Type 0} (x y : A) → Some x ≡ Some y → x ≡ y
some_same x y e = cc

pub found_activation : (a : ℕ) (fs : List Frame) (f : Frame) → frame_of a fs ≡ Some f → (f.activation == a) ≡ true
found_activation a [] f e = none_is_not f e
found_activation a (x ∷ fs) f e = by (λ e. found_activation a fs f e) (x.activation == a) refl e
  where
    by : (frame_of a fs ≡ Some f → (f.activation == a) ≡ true) → (b : Bool) → (x.activation == a) ≡ b → cond b (Some x) (frame_of a fs) ≡ Some f → (f.activation == a) ≡ true
    by rest true s e = subst (λ (y : Frame). (y.activation == a) ≡ true) (some_same x f e) s
    by rest false s e = rest e

own_activation : (a : ℕ) (fs : List Frame) → ((own_frame a (frame_of a fs)).activation == a) ≡ true
own_activation a fs = by (frame_of a fs) refl
  where
    by : (o : Option Frame) → frame_of a fs ≡ o → ((own_frame a o).activation == a) ≡ true
    by (Some f) e = found_activation a fs f e
    by None e = number_same a

chosen : {A : Type 0} (b : Bool) (x y : A) → b ≡ true → cond b x y ≡ x
chosen true x y e = refl
chosen false x y e = absurd (no e)
  where
    no : false ≡ true → ⊥
    no e = cc

own_block : (a i : ℕ) (o : Option Frame) → slice_get (own_frame a o).locals i ≡ option_and_then (λ (f : Frame). slice_get f.locals i) o
own_block a i (Some f) = refl
own_block a i None = refl

-- the variables of the running activation
pub image_block : (a : ℕ) (outer : List Frame) (g : Memory) (i : ℕ) → frame_block (image a outer g) a i ≡ frame_block g a i
image_block a outer g i =
    let f = own_frame a (frame_of a g.frames) in
    ap (λ (o : Option Frame). option_and_then (λ (f : Frame). slice_get f.locals i) o) (chosen (f.activation == a) (Some f) (frame_of a outer) (own_activation a g.frames))
    ∙ own_block a i (frame_of a g.frames)

pub frame_after : (fn : List Block → List Block) (a b : ℕ) (fs : List Frame) → (b == a) ≡ false → frame_of b (at_frame fn a fs) ≡ frame_of b fs
frame_after fn a b [] e = refl
frame_after fn a b (x ∷ fs) e = by (frame_after fn a b fs e) (x.activation == a) refl
  where
    apart : (x.activation == a) ≡ true → (x.activation == b) ≡ false
    apart s = of (x.activation == b) refl
      where
        of : (c : Bool) → (x.activation == b) ≡ c → (x.activation == b) ≡ false
        of true k = absurd (no (sym (subst (λ n. (n == a) ≡ false) (sym (eqb-true x.activation b k)) e) ∙ s))
          where
            no : false ≡ true → ⊥
            no e = cc
        of false k = k

    by : frame_of b (at_frame fn a fs) ≡ frame_of b fs → (c : Bool) → (x.activation == a) ≡ c → frame_of b (cond c (record x { locals = fn x.locals } ∷ fs) (x ∷ at_frame fn a fs)) ≡ cond (x.activation == b) (Some x) (frame_of b fs)
    by rest true s = rw (apart s) refl
    by rest false s = ap (λ o. cond (x.activation == b) (Some x) o) rest

abbrev pub with_locals : (List Block → List Block) → Frame → Frame
with_locals fn f = record f { locals = fn f.locals }

pub own_frame_after : (fn : List Block → List Block) (a : ℕ) (fs : List Frame) → frame_of a (at_frame fn a fs) ≡ option_map (with_locals fn) (frame_of a fs)
own_frame_after fn a [] = refl
own_frame_after fn a (x ∷ fs) = by (own_frame_after fn a fs) (x.activation == a) refl
  where
    by : frame_of a (at_frame fn a fs) ≡ option_map (with_locals fn) (frame_of a fs) → (c : Bool) → (x.activation == a) ≡ c → frame_of a (cond c (record x { locals = fn x.locals } ∷ fs) (x ∷ at_frame fn a fs)) ≡ option_map (with_locals fn) (cond c (Some x) (frame_of a fs))
    by rest true s = chosen (x.activation == a) (Some (with_locals fn x)) (frame_of a fs) s
    by rest false s = otherwise (x.activation == a) (Some x) (frame_of a (at_frame fn a fs)) s ∙ rest
      where
        otherwise : {A : Type 0} (b : Bool) (x y : A) → b ≡ false → cond b x y ≡ y
        otherwise false x y e = refl
        otherwise true x y e = absurd (no e)
          where
            no : true ≡ false → ⊥
            no e = cc

own_changed : (fn : List Block → List Block) (a : ℕ) (o : Option Frame) → fn [] ≡ [] → own_frame a (option_map (with_locals fn) o) ≡ with_locals fn (own_frame a o)
own_changed fn a (Some f) e = refl
own_changed fn a None e = ap (λ (bs : List Block). let f : Frame = record { activation = a; locals = bs } in f) (sym e)

-- a ghost variable is set on both
pub image_put : (a : ℕ) (outer : List Frame) (g : Memory) (k : NameKind) (i : ℕ) (c : Cell) → image a outer (ghost_put g k a i c) ≡ ghost_put (image a outer g) k a i c
image_put a outer g names.Global i c = refl
image_put a outer g names.Local i c = refl
image_put a outer g names.Heap i c = refl
image_put a outer g names.Register i c = refl
image_put a outer g names.GhostGlobal i c = refl
image_put a outer g names.GhostLocal i c =
    let fn = at_block (set_cell c 0) i in
    let f = own_frame a (frame_of a g.frames) in
    ap (λ (fs : List Frame). let m : Memory = record g { frames = fs } in m)
    (ap (λ (o : Option Frame). own_frame a o ∷ outer) (own_frame_after fn a g.frames)
    ∙ (ap (λ (f : Frame). f ∷ outer) (own_changed fn a (frame_of a g.frames) refl)
    ∙ sym (chosen (f.activation == a) (with_locals fn f ∷ outer) (f ∷ at_frame fn a outer) (own_activation a g.frames))))

pub image_type : (a : ℕ) (outer : List Frame) (g : Memory) (k : NameKind) (i : ℕ) → ghost_type g k a i ≡ ghost_type (image a outer g) k a i
image_type a outer g names.Global i = refl
image_type a outer g names.Local i = refl
image_type a outer g names.Heap i = refl
image_type a outer g names.Register i = refl
image_type a outer g names.GhostGlobal i = refl
image_type a outer g names.GhostLocal i = ap declared_in (sym (image_block a outer g i))

-- ---- what a ghost variable holds points into the program

cell_inside : (b : Block) (o : ℕ) (c : Cell) → CellInside c → BlockInside b → BlockInside (set_cell c o b)
cell_inside [] o c h k = tt
cell_inside (s ∷ b) zero c h k = (h, k.1)
cell_inside (s ∷ b) (suc o) c h k = (k.0, cell_inside b o c h k.1)

blocks_inside : (bs : List Block) (i : ℕ) (c : Cell) → CellInside c → AllByRecursion BlockInside bs → AllByRecursion BlockInside (at_block (set_cell c 0) i bs)
blocks_inside [] i c h k = tt
blocks_inside (b ∷ bs) zero c h k = (cell_inside b 0 c h k.0, k.1)
blocks_inside (b ∷ bs) (suc i) c h k = (k.0, blocks_inside bs i c h k.1)

frames_inside : (fs : List Frame) (a i : ℕ) (c : Cell) → CellInside c → AllByRecursion FrameInside fs → AllByRecursion FrameInside (at_frame (at_block (set_cell c 0) i) a fs)
frames_inside [] a i c h k = tt
frames_inside (f ∷ fs) a i c h k = by (frames_inside fs a i c h k.1) (f.activation == a)
  where
    by : AllByRecursion FrameInside (at_frame (at_block (set_cell c 0) i) a fs) → (b : Bool) → AllByRecursion FrameInside (cond b (record f { locals = at_block (set_cell c 0) i f.locals } ∷ fs) (f ∷ at_frame (at_block (set_cell c 0) i) a fs))
    by rest true = (blocks_inside f.locals i c h k.0, k.1)
    by rest false = (k.0, rest)

pub inside_put : (g : Memory) (k : NameKind) (a i : ℕ) (c : Cell) → CellInside c → MemoryInside g → MemoryInside (ghost_put g k a i c)
inside_put g names.Global a i c h k = k
inside_put g names.Local a i c h k = k
inside_put g names.Heap a i c h k = k
inside_put g names.Register a i c h k = k
inside_put g names.GhostGlobal a i c h k = record { globals = blocks_inside g.globals i c h k.globals; frames = k.frames; heap = k.heap }
inside_put g names.GhostLocal a i c h k = record { globals = k.globals; frames = frames_inside g.frames a i c h k.frames; heap = k.heap }

pub new_inside : (u : CType) (v : Option TermValue) → TermInside v → CellInside (ghost_cell u (option_and_then scalar_value v))
new_inside u None h = tt
new_inside u (Some (Number z)) h = integer u
  where
    integer : (u : CType) → CellInside (in_ghost u (value.Int z))
    integer (type.Int k) = by (is_in_range k z)
      where
        by : (b : Bool) → CellInside (cond b (Holds (value.Int z)) Nothing)
        by true = tt
        by false = tt
    integer type.Void = tt
    integer (type.Pointer' b t) = tt
    integer (type.Array' b t n) = tt
    integer (type.Struct n) = tt
new_inside u (Some NullPointer) h = null u
  where
    null : (u : CType) → CellInside (in_ghost u value.Null)
    null (type.Int k) = tt
    null type.Void = tt
    null (type.Pointer' b t) = tt
    null (type.Array' b t n) = tt
    null (type.Struct n) = tt
new_inside u (Some (PointerInto n (negsuc o))) h = tt
new_inside u (Some (PointerInto n (pos o))) h = by (nat_lt o (2 ^ 32))
  where
    pointer : (u : CType) → CellInside (in_ghost u (value.Pointer n o))
    pointer (type.Int k) = tt
    pointer type.Void = tt
    pointer (type.Pointer' b t) = h
    pointer (type.Array' b t n) = tt
    pointer (type.Struct n) = tt

    by : (b : Bool) → CellInside (ghost_cell u (cond b (Some (value.Pointer n o)) None))
    by true = pointer u
    by false = tt

-- ---- what ghost code of an activation leaves as it is

pub record OthersUnchanged (a : ℕ) (g g' : Memory) : Type 0 where
  pub frames : (b : ℕ) → (b == a) ≡ false → frame_of b g'.frames ≡ frame_of b g.frames
  pub own : is_some (frame_of a g'.frames) ≡ is_some (frame_of a g.frames)
  pub order : map (λ (f : Frame). f.activation) g'.frames ≡ map (λ (f : Frame). f.activation) g.frames

pub others_same : (a : ℕ) (g : Memory) → OthersUnchanged a g g
others_same a g = record { frames = λ b e. refl; own = refl; order = refl }

pub others_then : (a : ℕ) (g h k : Memory) → OthersUnchanged a g h → OthersUnchanged a h k → OthersUnchanged a g k
others_then a g h k x y = record { frames = λ b e. y.frames b e ∙ x.frames b e; own = y.own ∙ x.own; order = y.order ∙ x.order }

order_after : (fn : List Block → List Block) (a : ℕ) (fs : List Frame) → map (λ (f : Frame). f.activation) (at_frame fn a fs) ≡ map (λ (f : Frame). f.activation) fs
order_after fn a [] = refl
order_after fn a (x ∷ fs) = by (order_after fn a fs) (x.activation == a)
  where
    by : map (λ (f : Frame). f.activation) (at_frame fn a fs) ≡ map (λ (f : Frame). f.activation) fs → (c : Bool) → map (λ (f : Frame). f.activation) (cond c (record x { locals = fn x.locals } ∷ fs) (x ∷ at_frame fn a fs)) ≡ x.activation ∷ map (λ (f : Frame). f.activation) fs
    by rest true = refl
    by rest false = ap (λ ns. x.activation ∷ ns) rest

some_kept : (fn : List Block → List Block) (o : Option Frame) → is_some (option_map (with_locals fn) o) ≡ is_some o
some_kept fn None = refl
some_kept fn (Some f) = refl

pub others_put : (a : ℕ) (g : Memory) (k : NameKind) (i : ℕ) (c : Cell) → OthersUnchanged a g (ghost_put g k a i c)
others_put a g names.Global i c = others_same a g
others_put a g names.Local i c = others_same a g
others_put a g names.Heap i c = others_same a g
others_put a g names.Register i c = others_same a g
others_put a g names.GhostGlobal i c = record { frames = λ b e. refl; own = refl; order = refl }
others_put a g names.GhostLocal i c =
    let fn = at_block (set_cell c 0) i in
    record { frames = λ b e. frame_after fn a b g.frames e; own = ap is_some (own_frame_after fn a g.frames) ∙ some_kept fn (frame_of a g.frames); order = order_after fn a g.frames }

-- at other places than Enter no save is set
pub frames_put : (at : HookPlace) (g : Memory) (k : NameKind) (a i : ℕ) (c : Cell) → is_enter_place at ≡ false → MaySet at k → (ghost_put g k a i c).frames ≡ g.frames
frames_put at g names.Global a i c e h = refl
frames_put at g names.Local a i c e h = refl
frames_put at g names.Heap a i c e h = refl
frames_put at g names.Register a i c e h = refl
frames_put at g names.GhostGlobal a i c e h = refl
frames_put at g names.GhostLocal a i c e h = absurd (no (sym e ∙ h))
  where
    no : false ≡ true → ⊥
    no e = cc
