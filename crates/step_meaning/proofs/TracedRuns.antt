-- The steps of a run of a well-formed program are traced: each step fits, and the steps nest as calls do.
use Rattle.std.proofs.Common.{◌≡◌, ◌≢◌, ◌==◌, ℕ, zero, suc, ◌<◌, Bool, true, false, cond, List, [], ◌∷◌, map, length, drop, Option, Some, None, All, refl, sym, ap, subst, ◌∙◌, ⊎_elim, ne_eqb, arith}
use Rattle.std.specs.Prelude.{◌↔◌, slice_get, option_and_then, option_map, IsTrue, AllPairs}
use Rattle.std.proofs.lemmas.Bool.{eqb-true}
use Rattle.std.proofs.lemmas.List.{length-map}
use Rattle.std.proofs.lemmas.List.Elements.{All-nil, All-cons, All-from_recursion}
use Rattle.std.proofs.lemmas.List.Kept.{AllPairs-cons}
use Rattle.step_meaning.specs.declared.value.CType.{CType}
use Rattle.step_meaning.specs.declared.value.CType.TheVariants as type
use Rattle.step_meaning.specs.declared.value.Value.{Value}
use Rattle.step_meaning.specs.declared.value.Value.TheVariants as value
use Rattle.step_meaning.specs.declared.value.Cell.TheVariants.{Holds}
use Rattle.step_meaning.specs.declared.value.Action.{Action}
use Rattle.step_meaning.specs.declared.value.Action.TheVariants as act
use Rattle.step_meaning.specs.declared.program.Core.{Core}
use Rattle.step_meaning.specs.declared.program.Function.{Function}
use Rattle.step_meaning.specs.Memory.{Memory, Frame, HeapBlock, Block, empty_block, frame_of}
use Rattle.step_meaning.specs.Steps.{Step, steps}
use Rattle.step_meaning.specs.State.{Here}
use Rattle.step_meaning.specs.Runs.{run}
use Rattle.step_meaning.specs.Limits.{is_enter}
use Rattle.step_meaning.specs.ExpressionTypes.{parameter_types}
use Rattle.step_meaning.specs.Traced.{PointsIntoProgram, IsPointer, HaveTypes, SlotTyped, BlocksTyped, NamesOwn, PointsOnlyIntoProgram, AccessesPointer, IsFunctionOf, ResultHasType, ActionHasTypes, contents, ParametersHold, IsStepOf, At, IsTraced}
use Rattle.step_meaning.specs.TracedRuns.{cells_declared, cells_of_each, EachHasVariables, WellFormedTraced}
use Rattle.step_meaning.proofs.Ranges.{false_is_not_true}
use Rattle.step_meaning.proofs.ValuesInside.{none_is}
use Rattle.step_meaning.proofs.TypedMemory.{Each, get_fits, is_empty, is_empty_map, drop_map, number_same, BlockFits, Shape, shape_of, FrameFits, HeapFits, heap_numbers}
use Rattle.step_meaning.proofs.StepsFit.{IsAddress, InCells, HoldArguments, InnermostHolds, ReturnFits, ActionFits, StepFits}
use Rattle.step_meaning.proofs.TypedRuns.{some_fits, run_steps_fit}
use Rattle.step_meaning.proofs.Falling.{Falls, falls_more}
use Rattle.step_meaning.proofs.Nesting.{maker, numbers, frame_numbers, local_cells, shape_for, shapes, frame_shapes, numbers_of_shapes, open_at, IsNext, Nest}
use Rattle.step_meaning.proofs.NestingRuns.{run_nests}
use Rattle.step_meaning.proofs.NestingLists.{same_some, Descends, by_sort, descends_in, descends_out, nested_known, first_number}

-- ---- memories

blocks_typed : (bs : List Block) → Each BlockFits bs → BlocksTyped bs
blocks_typed [] h = All-nil (All SlotTyped)
blocks_typed (b ∷ bs) h = All-cons (All SlotTyped) b bs (All-from_recursion SlotTyped b h.0.0) (blocks_typed bs h.1)

frames_typed : (fs : List Frame) → Each FrameFits fs → All (λ f. BlocksTyped f.locals) fs
frames_typed [] h = All-nil (λ f. BlocksTyped f.locals)
frames_typed (f ∷ fs) h = All-cons (λ f. BlocksTyped f.locals) f fs (blocks_typed f.locals h.0) (frames_typed fs h.1)

-- frames with falling numbers are of different activations
others : (f : Frame) (fs : List Frame) (n : ℕ) → n < suc f.activation → Falls (map (λ f. f.activation) fs) n → All (λ g. f.activation ≢ g.activation) fs
others f [] n l h = All-nil (λ g. f.activation ≢ g.activation)
others f (g ∷ fs) n l h = All-cons (λ g. f.activation ≢ g.activation) g fs (let m : g.activation < n = h.0 in omega arith) (others f fs g.activation (let m : g.activation < n = h.0 in omega arith) h.1)

one_frame_each : (fs : List Frame) (n : ℕ) → Falls (map (λ f. f.activation) fs) n → AllPairs (λ f g. f.activation ≢ g.activation) fs
one_frame_each [] n h = λ i j d l m. absurd (omega arith)
one_frame_each (f ∷ fs) n h = AllPairs-cons (λ f g. f.activation ≢ g.activation) f fs (others f fs f.activation (omega arith) h.1) (one_frame_each fs f.activation h.1)

heap_typed : (bs : List HeapBlock) → Each HeapFits bs → All (λ b. All SlotTyped b.cells) bs
heap_typed [] h = All-nil (λ b. All SlotTyped b.cells)
heap_typed (b ∷ bs) h = All-cons (λ b. All SlotTyped b.cells) b bs (All-from_recursion SlotTyped b.cells h.0.0) (heap_typed bs h.1)

other_blocks : (b : HeapBlock) (bs : List HeapBlock) (n : ℕ) → n < suc b.number → Falls (heap_numbers bs) n → All (λ c. b.number ≢ c.number) bs
other_blocks b [] n l h = All-nil (λ c. b.number ≢ c.number)
other_blocks b (c ∷ bs) n l h = All-cons (λ c. b.number ≢ c.number) c bs (let m : c.number < n = h.0 in omega arith) (other_blocks b bs c.number (let m : c.number < n = h.0 in omega arith) h.1)

one_block_each : (bs : List HeapBlock) (n : ℕ) → Falls (heap_numbers bs) n → AllPairs (λ b c. b.number ≢ c.number) bs
one_block_each [] n h = λ i j d l m. absurd (omega arith)
one_block_each (b ∷ bs) n h = AllPairs-cons (λ b c. b.number ≢ c.number) b bs (other_blocks b bs b.number (omega arith) h.1) (one_block_each bs b.number h.1)

-- ---- where a step stands

-- what is known of a step by its place among the others
record IsPlaced (q : Core) (s : Step) : Type 0 where
  function : (f : Function) × IsFunctionOf q s.function f
  names_own : NamesOwn s.action s.function
  falling : (n : ℕ) × Falls (frame_numbers s.memory) n
  innermost : (outer : List Shape) × (frame_shapes s.memory ≡ (shape_for q (maker s) ∷ outer))

falls_at : (a : Action) (h : Here) (hs : List Here) (n : ℕ) → (IsTrue (is_enter a) → h.activation ≡ n) → Descends hs n → Descends (open_at a h hs) (suc n)
falls_at (act.Enter g vs) h hs n e d = descends_in hs n h (e refl) d
falls_at _ h hs n e d = falls_more (numbers hs) n (suc n) (omega arith) d

placed : (q : Core) (hs : List Here) (n : ℕ) (s : Step) → Descends hs n → IsNext q hs n s → IsPlaced q s
placed q hs n s d h = record {
  function = h.function;
  names_own = h.names_own;
  falling = (suc n, subst (λ ns. Falls ns (suc n)) (sym (numbers_of_shapes q s.memory.frames (open_at s.action (maker s) hs) h.frames)) (falls_at s.action (maker s) hs n (λ e. (h.is_new e).0) d));
  innermost = (shapes q h.innermost.0, h.frames ∙ ap (λ hs. shapes q hs) h.innermost.1);
}

all_placed : (q : Core) (hs : List Here) (n : ℕ) (ss : List Step) → Descends hs n → Nest q hs n ss → Each (IsPlaced q) ss
all_placed q hs n [] d h = tt
all_placed q hs n (s ∷ ss) d h = (
  placed q hs n s d h.0,
  by_sort q hs n s h.0 (λ before after made. Descends before n → Nest q after made ss → Each (IsPlaced q) ss)
      (λ enter no_return number first d k. all_placed q (maker s ∷ hs) (suc n) ss (descends_in hs n (maker s) number d) k)
      (λ no_enter no_return outer d k. all_placed q (maker s ∷ outer) n ss d k)
      (λ no_enter outer d k. all_placed q outer n ss (descends_out (maker s) outer n d) k)
      d h.1,
)

-- ---- activation 0 is that of `main`

abbrev IsMain : Core → Here → Type 0
IsMain q h = (h.function == q.start) ≡ (h.activation == 0)

-- where an Enter has one frame, no activation is open before it
one_frame : (fs : List Frame) (h : Here) (hs : List Here) → map (λ f. f.activation) fs ≡ numbers (h ∷ hs) → is_empty (drop 1 fs) ≡ is_empty hs
one_frame fs h hs e = sym (is_empty_map (λ f. f.activation) (drop 1 fs)) ∙ (ap is_empty (drop_map (λ f. f.activation) fs ∙ ap (λ ns. drop 1 ns) e) ∙ is_empty_map (λ h. h.activation) hs)

none_made : (hs : List Here) (n : ℕ) → Descends hs n → (hs ≡ [] → n ≡ 0) → is_empty hs ≡ (n == 0)
none_made [] n d first = subst (λ n. true ≡ (n == 0)) (sym (first refl)) refl
none_made (h ∷ hs) n d first = sym (ne_eqb n 0 (let l : h.activation < n = d.0 in omega arith))

enters_main : (q : Core) (h : Here) (hs : List Here) (frames : List Frame) (a : Action) → IsTrue (is_enter a) → ActionFits q frames a → NamesOwn a h.function → map (λ f. f.activation) frames ≡ numbers (open_at a h hs) → (h.function == q.start) ≡ is_empty hs
enters_main q h hs frames (act.Enter g vs) e x o m = ap (λ g. g == q.start) (sym o) ∙ (x.main_alone ∙ one_frame frames h hs m)
enters_main q h hs frames _ e x o m = false_is_not_true e

all_main : (q : Core) (hs : List Here) (n : ℕ) (ss : List Step) → Descends hs n → Each (IsMain q) hs → Nest q hs n ss → Each (StepFits q) ss → Each (λ s. IsMain q (maker s)) ss
all_main q hs n [] d m h k = tt
all_main q hs n (s ∷ ss) d m h k =
    by_sort q hs n s h.0 (λ before after made. Descends before n → Each (IsMain q) before → IsNext q before n s → Nest q after made ss → Each (λ s. IsMain q (maker s)) (s ∷ ss))
    (λ enter no_return number first d m next t. let own = enters_own enter number first d next in (own, all_main q (maker s ∷ hs) (suc n) ss (descends_in hs n (maker s) number d) (own, m) t k.1))
    (λ no_enter no_return outer d m next t. (m.0, all_main q (maker s ∷ outer) n ss d m t k.1))
    (λ no_enter outer d m next t. (m.0, all_main q outer n ss (descends_out (maker s) outer n d) m.1 t k.1))
    d m h.0 h.1
  where
    enters_own : IsTrue (is_enter s.action) → s.activation ≡ n → (hs ≡ [] → n ≡ 0) → Descends hs n → IsNext q hs n s → IsMain q (maker s)
    enters_own enter number first d next = enters_main q (maker s) hs s.memory.frames s.action enter k.0.action next.names_own (numbers_of_shapes q s.memory.frames (open_at s.action (maker s) hs) next.frames) ∙ (none_made hs n d first ∙ ap (λ n. n == 0) (sym number))

alone : (q : Core) (s : Step) → IsMain q (maker s) → (s.activation ≡ 0) ↔ (s.function ≡ q.start)
alone q s h = (λ e. eqb-true s.function q.start (h ∙ (ap (λ n. n == 0) e ∙ number_same 0)), λ e. eqb-true s.activation 0 (sym h ∙ (ap (λ g. g == q.start) e ∙ number_same q.start)))

-- ---- actions

address_points : (p : Value) → IsAddress p → PointsIntoProgram p
address_points (value.Int z) h = absurd h
address_points value.Null h = tt
address_points (value.Pointer n o) h = h.1

address_pointer : (p : Value) → IsAddress p → IsPointer p
address_pointer (value.Int z) h = h
address_pointer value.Null h = tt
address_pointer (value.Pointer n o) h = h.0

arguments_point : (ts : List CType) (vs : List Value) → InCells ts vs → All PointsIntoProgram vs
arguments_point ts [] h = All-nil PointsIntoProgram
arguments_point [] (v ∷ vs) h = absurd h
arguments_point (t ∷ ts) (v ∷ vs) h = All-cons PointsIntoProgram v vs h.0.1 (arguments_point ts vs h.1)

arguments_typed : (ts : List CType) (vs : List Value) → InCells ts vs → HaveTypes ts vs
arguments_typed [] [] h = tt
arguments_typed (t ∷ ts) (v ∷ vs) h = (h.0.0, arguments_typed ts vs h.1)
arguments_typed [] (v ∷ vs) h = h
arguments_typed (t ∷ ts) [] h = h

result_points : (t : CType) (v : Value) → ReturnFits t (Some v) → PointsIntoProgram v
result_points type.Void v h = absurd h
result_points (type.Int k) v h = h.1
result_points (type.Pointer' b t) v h = h.1
result_points (type.Array' b t n) v h = h.1
result_points (type.Struct n) v h = h.1

result_typed : (t : CType) (v : Option Value) → ReturnFits t v → ResultHasType t v
result_typed type.Void None h = tt
result_typed type.Void (Some v) h = h
result_typed (type.Int k) None h = h
result_typed (type.Int k) (Some v) h = h.0
result_typed (type.Pointer' b t) None h = h
result_typed (type.Pointer' b t) (Some v) h = h.0
result_typed (type.Array' b t n) None h = h
result_typed (type.Array' b t n) (Some v) h = h.0
result_typed (type.Struct n) None h = h
result_typed (type.Struct n) (Some v) h = h.0

points_inside : (q : Core) (frames : List Frame) (a : Action) → ActionFits q frames a → PointsOnlyIntoProgram a
points_inside q frames (act.Enter g vs) h = arguments_point (parameter_types h.function) vs h.arguments
points_inside q frames (act.Return g None) h = tt
points_inside q frames (act.Return g (Some v)) h = result_points h.function.result v h.result
points_inside q frames (act.Read p) h = address_points p h
points_inside q frames (act.Write p v) h = address_points p h
points_inside q frames (act.Malloc n p k) h = address_points p h
points_inside q frames (act.Free p) h = address_points p h
points_inside q frames _ h = tt

accesses_pointer : (q : Core) (frames : List Frame) (a : Action) → ActionFits q frames a → AccessesPointer a
accesses_pointer q frames (act.Read p) h = address_pointer p h
accesses_pointer q frames (act.Write p v) h = address_pointer p h
accesses_pointer q frames (act.Malloc n p k) h = address_pointer p h
accesses_pointer q frames (act.Free p) h = address_pointer p h
accesses_pointer q frames _ h = tt

one_function : (q : Core) (g k : ℕ) (f h : Function) → slice_get q.functions g ≡ Some f → slice_get q.functions k ≡ Some h → g ≡ k → f ≡ h
one_function q g k f h a b e = same_some f h (sym a ∙ (ap (slice_get q.functions) e ∙ b))

has_types : (q : Core) (frames : List Frame) (g : ℕ) (f : Function) → slice_get q.functions g ≡ Some f → (a : Action) → NamesOwn a g → ActionFits q frames a → ActionHasTypes f a
has_types q frames g f found (act.Enter k vs) o h = subst (λ f. HaveTypes (parameter_types f) vs) (one_function q k g h.function f h.found found o) (arguments_typed (parameter_types h.function) vs h.arguments)
has_types q frames g f found (act.Return k v) o h = subst (λ f. ResultHasType f.result v) (one_function q k g h.function f h.found found o) (result_typed h.function.result v h.result)
has_types q frames g f found _ o h = tt

-- ---- the own frame

-- the innermost frame is that of the activation with the first number
own_frame : (fs : List Frame) (s : Shape) (ss : List Shape) → map shape_of fs ≡ (s ∷ ss) → (r : Frame) × (frame_of s.activation fs ≡ Some r) × (map cells_declared r.locals ≡ s.cells) × ((vs : List Value) → InnermostHolds fs vs → HoldArguments r.locals vs)
own_frame [] s ss e = absurd (no e)
  where
    no : [] ≡ (s ∷ ss) → ⊥
    no e = cc
own_frame (r ∷ rs) s ss e = (r, found (r.activation == s.activation) (subst (λ n. (n == s.activation) ≡ true) (sym (ap (λ (x : Shape). x.activation) same)) (number_same s.activation)), ap (λ (x : Shape). x.cells) same, λ vs h. h)
  where
    head : List Shape → Shape
    head [] = s
    head (x ∷ xs) = x

    same : shape_of r ≡ s
    same = ap head e

    found : (b : Bool) → b ≡ true → cond b (Some r) (frame_of s.activation rs) ≡ Some r
    found true e = refl
    found false e = false_is_not_true e

own_variables : (q : Core) (s : Step) → IsPlaced q s → (f : Function) × (r : Frame) × (slice_get q.functions s.function ≡ Some f) × (frame_of s.activation s.memory.frames ≡ Some r) × (map cells_declared r.locals ≡ cells_of_each q.layouts f.locals)
own_variables q s p = let o = own_frame s.memory.frames (shape_for q (maker s)) p.innermost.0 p.innermost.1 in (p.function.0, o.0, p.function.1.0, o.1, o.2 ∙ ap (λ (f : Option Function). local_cells q f) p.function.1.0)

held_at : (bs : List Block) (vs : List Value) → HoldArguments bs vs → (i : ℕ) (v : Value) → slice_get vs i ≡ Some v → option_map contents (slice_get bs i) ≡ Some (Holds v ∷ [])
held_at bs [] h i v e = none_is v e
held_at [] (w ∷ vs) h i v e = absurd h
held_at (b ∷ bs) (w ∷ vs) h zero v e = ap Some (h.0 ∙ ap (λ x. Holds x ∷ []) (same_some w v e))
held_at (b ∷ bs) (w ∷ vs) h (suc i) v e = held_at bs vs h.1 i v e

parameters_hold : (q : Core) (memory : Memory) (s : Shape) (ss : List Shape) (a : Action) → map shape_of memory.frames ≡ (s ∷ ss) → ActionFits q memory.frames a → ParametersHold a s.activation memory
parameters_hold q memory s ss (act.Enter g vs) e h = let o = own_frame memory.frames s ss e in λ i v f. ap (λ (r : Option Frame). option_map contents (option_and_then (λ f. slice_get f.locals i) r)) o.1 ∙ held_at o.0.locals vs (o.3 vs h.hold) i v f
parameters_hold q memory s ss _ e h = tt

-- ---- steps and runs

globals_there : (q : Core) (s : Step) → StepFits q s → length s.memory.globals ≡ length q.globals
globals_there q s h = sym (length-map s.memory.globals cells_declared) ∙ (ap length h.globals_declared ∙ length-map q.globals (λ d. cells_declared (empty_block q.layouts d)))

step_of : (q : Core) (s : Step) → StepFits q s → IsPlaced q s → IsStepOf q s
step_of q s h p = record {
  memory = record { globals = globals_there q s h; globals_typed = blocks_typed s.memory.globals h.globals_fit; locals_typed = frames_typed s.memory.frames h.locals_fit; heap_typed = heap_typed s.memory.heap h.heap_fit; one_frame_each = one_frame_each s.memory.frames p.falling.0 p.falling.1; one_block_each = one_block_each s.memory.heap h.heap_falls.0 h.heap_falls.1 };
  own_function = p.names_own;
  pointers = points_inside q s.memory.frames s.action h.action;
  accesses = accesses_pointer q s.memory.frames s.action h.action;
  executed = (p.function.0, p.function.1, has_types q s.memory.frames s.function p.function.0 p.function.1.0 s.action p.names_own h.action);
  parameters_hold = parameters_hold q s.memory (shape_for q (maker s)) p.innermost.0 s.action p.innermost.1 h.action;
}

element : (P : Step → Type 0) (ss : List Step) → Each P ss → (i : ℕ) (s : Step) → At ss i s → P s
element P ss h i s e = some_fits P (slice_get ss i) s e (get_fits P ss i h)

pub well_formed_traced : WellFormedTraced
well_formed_traced q h input k = (by (steps (run q input k)) (run_steps_fit q h input k) (run_nests q input k), variables (steps (run q input k)) (run_steps_fit q h input k) (run_nests q input k))
  where
    variables : (ss : List Step) → Each (StepFits q) ss → Nest q [] 0 ss → EachHasVariables q ss
    variables ss fits nest i s e = record {
      globals = (element (StepFits q) ss fits i s e).globals_declared;
      own_frame = own_variables q s (element (IsPlaced q) ss (all_placed q [] 0 ss tt nest) i s e);
    }

    by : (ss : List Step) → Each (StepFits q) ss → Nest q [] 0 ss → IsTraced q ss
    by ss fits nest = let r = nested_known q [] 0 ss tt nest in record {
      each = λ i s e. step_of q s (element (StepFits q) ss fits i s e) (element (IsPlaced q) ss (all_placed q [] 0 ss tt nest) i s e);
      first = first_number q ss nest;
      main_alone = λ i s e. alone q s (element (λ s. IsMain q (maker s)) ss (all_main q [] 0 ss tt tt nest fits) i s e);
      one_function = r.1.one_function;
      entered = λ i s e. ⊎_elim (λ o. absurd o) (λ x. x) (r.0.entered i s e);
      enters_first = r.1.enters_first;
      returns_last = r.1.returns_last;
      main_ends = r.1.main_ends;
    }
