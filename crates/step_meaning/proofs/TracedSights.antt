-- Each step of a traced list gives a view whose cells, parameters and result hold values of their types.
use Rattle.std.proofs.Common.{◌≡◌, ℕ, zero, suc, Bool, true, false, cond, ◌&&◌, ◌==◌, List, [], ◌∷◌, slice_get, Option, Some, None, All, refl, sym, subst, ap, ◌∙◌}
use Rattle.std.specs.Prelude.{IsTrue}
use Rattle.std.proofs.lemmas.Bool.{eqb-true}
use Rattle.std.proofs.lemmas.List.Elements.{All-nil, All-head, All-tail}
use Rattle.step_meaning.specs.declared.value.IntKind.{IntKind}
use Rattle.step_meaning.specs.declared.value.IntKind.TheVariants as kind
use Rattle.step_meaning.specs.declared.value.CType.{CType, end_of-CType, more_of-CType}
use Rattle.step_meaning.specs.declared.value.CType.TheVariants as type
use Rattle.step_meaning.specs.declared.value.NameKind.{NameKind}
use Rattle.step_meaning.specs.declared.value.NameKind.TheVariants as names
use Rattle.step_meaning.specs.declared.value.Name.{Name}
use Rattle.step_meaning.specs.declared.value.Value.{Value}
use Rattle.step_meaning.specs.declared.value.Value.TheVariants as value
use Rattle.step_meaning.specs.declared.value.Cell.TheVariants.{Holds}
use Rattle.step_meaning.specs.declared.value.Action.{Action}
use Rattle.step_meaning.specs.declared.value.Action.TheVariants as act
use Rattle.step_meaning.specs.declared.predicate.Event.{Event}
use Rattle.step_meaning.specs.declared.predicate.Event.TheVariants as event
use Rattle.step_meaning.specs.declared.program.Core.{Core}
use Rattle.step_meaning.specs.declared.program.Function.{Function}
use Rattle.step_meaning.specs.Numbers.{is_in_range}
use Rattle.step_meaning.specs.Types.{kind_number, same_type}
use Rattle.step_meaning.specs.Memory.{Memory, Frame, Slot, Block, typed, slot_at, file_block, HeapBlock, frame_of, frame_block, block_of, heap_block, block, block_in}
use Rattle.step_meaning.specs.Steps.{Step}
use Rattle.step_meaning.specs.Limits.{is_enter}
use Rattle.step_meaning.specs.Views.{no_memory, visible_block}
use Rattle.step_meaning.specs.StepViews.{accessed_by, event_of, arguments_of, result_of, enter_memory, sight_of}
use Rattle.step_meaning.specs.ExpressionTypes.{parameter_types}
use Rattle.step_meaning.specs.Traced.{HasType, HaveTypes, IsPointer, CellHasType, SlotTyped, BlocksTyped, NamesOwn, AccessesPointer, ResultHasType, ActionHasTypes, IsStepOf, At, IsTraced}
use Rattle.step_meaning.specs.Settings.{Setting}
use Rattle.step_meaning.specs.Allowances.{Allowed, type_of_parameter, type_of_result}
use Rattle.step_meaning.specs.FitsBounded.{IsTypedSight, AllowsOwnTypes, TracedSightsTyped}
use Rattle.step_meaning.proofs.ValuesInside.{some_is, none_is, some_of_bind, some_of_map, by_cases}

pub element_of_all : {A : Type 0} (P : A → Type 0) (xs : List A) (i : ℕ) (x : A) → All P xs → slice_get xs i ≡ Some x → P x
element_of_all P [] i x h e = none_is x e
element_of_all P (y ∷ xs) zero x h e = subst P (some_is y x e) (All-head P y xs h)
element_of_all P (y ∷ xs) (suc i) x h e = element_of_all P xs i x (All-tail P y xs h) e

true_is_not : {P : Type 0} → false ≡ true → P
true_is_not e = cc

-- ---- equal types have the same values

abbrev kind_at : ℕ → IntKind
kind_at zero = kind.Char
kind_at (suc zero) = kind.SChar
kind_at (suc (suc zero)) = kind.UChar
kind_at (suc (suc (suc zero))) = kind.Short
kind_at (suc (suc (suc (suc zero)))) = kind.UShort
kind_at (suc (suc (suc (suc (suc zero))))) = kind.Int
kind_at (suc (suc (suc (suc (suc (suc zero)))))) = kind.UInt
kind_at (suc (suc (suc (suc (suc (suc (suc zero))))))) = kind.Long
kind_at (suc (suc (suc (suc (suc (suc (suc (suc n)))))))) = kind.ULong

kind_back : (k : IntKind) → kind_at (kind_number k) ≡ k
kind_back kind.Char = refl
kind_back kind.SChar = refl
kind_back kind.UChar = refl
kind_back kind.Short = refl
kind_back kind.UShort = refl
kind_back kind.Int = refl
kind_back kind.UInt = refl
kind_back kind.Long = refl
kind_back kind.ULong = refl

pub same_kind_number : (k l : IntKind) → (kind_number k == kind_number l) ≡ true → k ≡ l
same_kind_number k l e = sym (kind_back k) ∙ ap kind_at (eqb-true (kind_number k) (kind_number l) e) ∙ kind_back l

pub retyped : (u w : CType) (v : Value) → same_type u w ≡ true → HasType u v → HasType w v
retyped type.Void w v e h = absurd h
retyped (type.Array' b t n) w v e h = absurd h
retyped (type.Struct n) w v e h = absurd h
retyped (type.Int k) w value.Null e h = absurd h
retyped (type.Int k) w (value.Pointer n o) e h = absurd h
retyped (type.Int k) (type.Int l) (value.Int z) e h = subst (λ m. IsTrue (is_in_range m z)) (same_kind_number k l e) h
retyped (type.Int k) type.Void (value.Int z) e h = true_is_not e
retyped (type.Int k) (type.Pointer' b t) (value.Int z) e h = true_is_not e
retyped (type.Int k) (type.Array' b t n) (value.Int z) e h = true_is_not e
retyped (type.Int k) (type.Struct n) (value.Int z) e h = true_is_not e
retyped (type.Pointer' b t) w (value.Int z) e h = absurd h
retyped (type.Pointer' b (more_of-CType t end_of-CType)) (type.Pointer' c u) value.Null e h = tt
retyped (type.Pointer' b (more_of-CType t end_of-CType)) (type.Pointer' c u) (value.Pointer n o) e h = h
retyped (type.Pointer' b (more_of-CType t end_of-CType)) type.Void value.Null e h = true_is_not e
retyped (type.Pointer' b (more_of-CType t end_of-CType)) (type.Int l) value.Null e h = true_is_not e
retyped (type.Pointer' b (more_of-CType t end_of-CType)) (type.Array' c u m) value.Null e h = true_is_not e
retyped (type.Pointer' b (more_of-CType t end_of-CType)) (type.Struct m) value.Null e h = true_is_not e
retyped (type.Pointer' b (more_of-CType t end_of-CType)) type.Void (value.Pointer n o) e h = true_is_not e
retyped (type.Pointer' b (more_of-CType t end_of-CType)) (type.Int l) (value.Pointer n o) e h = true_is_not e
retyped (type.Pointer' b (more_of-CType t end_of-CType)) (type.Array' c u m) (value.Pointer n o) e h = true_is_not e
retyped (type.Pointer' b (more_of-CType t end_of-CType)) (type.Struct m) (value.Pointer n o) e h = true_is_not e

-- ---- reads

pub slot_read : (o : Option Slot) (w : CType) (v : Value) → ((x : Slot) → o ≡ Some x → SlotTyped x) → typed o w ≡ Some (Holds v) → HasType w v
slot_read None w v h e = none_is (Holds v) e
slot_read (Some x) w v h e = by (same_type x.declared w) refl e
  where
    by : (b : Bool) → same_type x.declared w ≡ b → cond b (Some x.cell) None ≡ Some (Holds v) → HasType w v
    by true s f = retyped x.declared w v s (subst (CellHasType x.declared) (some_is x.cell (Holds v) f) (h x refl)).0
    by false s f = none_is (Holds v) f

pub block_read : (b : Option Block) (o : ℕ) (w : CType) (v : Value) → ((x : Block) → b ≡ Some x → All SlotTyped x) → typed (slot_at b o) w ≡ Some (Holds v) → HasType w v
block_read b o w v h e = slot_read (slot_at b o) w v (λ x f. let m = some_of_bind (λ b. slice_get b o) b x f in element_of_all SlotTyped m.0 o x (h m.0 m.1) m.2) e

-- ---- memories

pub record MemoryTyped (memory : Memory) : Type 0 where
  pub globals : BlocksTyped memory.globals
  pub locals : All (λ f. BlocksTyped f.locals) memory.frames
  pub heap : All (λ b. All SlotTyped b.cells) memory.heap

pub file_typed : (memory : Memory) (a i : ℕ) (b : Block) → MemoryTyped memory → file_block memory a i ≡ Some b → All SlotTyped b
file_typed memory zero i b h e = element_of_all (All SlotTyped) memory.globals i b h.globals e
file_typed memory (suc a) i b h e = none_is b e

pub frame_of_all : (P : Frame → Type 0) (fs : List Frame) (a : ℕ) (f : Frame) → All P fs → frame_of a fs ≡ Some f → P f
frame_of_all P [] a f h e = none_is f e
frame_of_all P (x ∷ fs) a f h e = by_cases (Some x) (frame_of a fs) f (P f) (x.activation == a) (λ e. subst P (some_is x f e) (All-head P x fs h)) (frame_of_all P fs a f (All-tail P x fs h)) e

pub frame_typed : (memory : Memory) (a i : ℕ) (b : Block) → MemoryTyped memory → frame_block memory a i ≡ Some b → All SlotTyped b
frame_typed memory a i b h e =
    let m = some_of_bind (λ f. slice_get f.locals i) (frame_of a memory.frames) b e in
    element_of_all (All SlotTyped) m.0.locals i b (frame_of_all (λ f. BlocksTyped f.locals) memory.frames a m.0 h.locals m.1) m.2

block_of_all : (P : HeapBlock → Type 0) (bs : List HeapBlock) (n : ℕ) (c : Block) → All P bs → block_of n bs ≡ Some c → (b : HeapBlock) × (b.cells ≡ c) × P b
block_of_all P [] n c h e = none_is c e
block_of_all P (b ∷ bs) n c h e = by_cases (Some b.cells) (block_of n bs) c ((b : HeapBlock) × (b.cells ≡ c) × P b) (b.number == n) (λ e. (b, some_is b.cells c e, All-head P b bs h)) (block_of_all P bs n c (All-tail P b bs h)) e

pub heap_typed : (memory : Memory) (n i : ℕ) (b : Block) → MemoryTyped memory → heap_block memory n i ≡ Some b → All SlotTyped b
heap_typed memory n zero b h e = let m = block_of_all (λ b. All SlotTyped b.cells) memory.heap n b h.heap e in subst (λ c. All SlotTyped c) m.1 m.2
heap_typed memory n (suc i) b h e = none_is b e

pub block_typed : (memory : Memory) (k : NameKind) (a i : ℕ) (b : Block) → MemoryTyped memory → block_in memory k a i ≡ Some b → All SlotTyped b
block_typed memory names.Global a i b h e = file_typed memory a i b h e
block_typed memory names.Local a i b h e = frame_typed memory a i b h e
block_typed memory names.Heap a i b h e = heap_typed memory a i b h e
block_typed memory names.Register a i b h e = none_is b e
block_typed memory names.GhostGlobal a i b h e = none_is b e
block_typed memory names.GhostLocal a i b h e = none_is b e

pub none_typed : MemoryTyped no_memory
none_typed = record { globals = All-nil (All SlotTyped); locals = All-nil (λ f. BlocksTyped f.locals); heap = All-nil (λ b. All SlotTyped b.cells) }

pub step_typed : (q : Core) (s : Step) → IsStepOf q s → MemoryTyped s.memory
step_typed q s h = record { globals = h.memory.globals_typed; locals = h.memory.locals_typed; heap = h.memory.heap_typed }

either_typed : (b : Bool) (m n : Memory) → MemoryTyped m → MemoryTyped n → MemoryTyped (cond b m n)
either_typed true m n h k = h
either_typed false m n h k = k

pub enter_typed : (ss : List Step) (a : ℕ) → ((i : ℕ) (s : Step) → At ss i s → MemoryTyped s.memory) → MemoryTyped (enter_memory ss a)
enter_typed [] a h = none_typed
enter_typed (s ∷ ss) a h = either_typed (is_enter s.action && s.activation == a) s.memory (enter_memory ss a) (h zero s refl) (enter_typed ss a (λ i t. h (suc i) t))

-- ---- events

abbrev enters : Event → Option ℕ
enters (event.Enter f) = Some f
enters _ = None

abbrev returns : Event → Option ℕ
returns (event.Return f) = Some f
returns _ = None

typed_at : (ts : List CType) (vs : List Value) (i : ℕ) (u : CType) (v : Value) → HaveTypes ts vs → slice_get ts i ≡ Some u → slice_get vs i ≡ Some v → HasType u v
typed_at [] vs i u v h e f = none_is u e
typed_at (t ∷ ts) [] i u v h e f = absurd h
typed_at (t ∷ ts) (w ∷ vs) zero u v h e f = subst (λ x. HasType x v) (some_is t u e) (subst (HasType t) (some_is w v f) h.0)
typed_at (t ∷ ts) (w ∷ vs) (suc i) u v h e f = typed_at ts vs i u v h.1 e f

parameter_typed : (q : Core) (c : Action) (g : ℕ) (fn : Function) → NamesOwn c g → slice_get q.functions g ≡ Some fn → ActionHasTypes fn c
    → (f i : ℕ) (u : CType) (v : Value) → enters (event_of c) ≡ Some f → slice_get (arguments_of c) i ≡ Some v → type_of_parameter q f i ≡ Some u → HasType u v
parameter_typed q (act.Enter h vs) g fn own found has f i u v e w p =
    let m = some_of_bind (λ fn. slice_get (parameter_types fn) i) (slice_get q.functions f) u p in
    let same = some_is fn m.0 (sym found ∙ ap (slice_get q.functions) (sym own ∙ some_is h f e) ∙ m.1) in
    typed_at (parameter_types fn) vs i u v has (subst (λ x. slice_get (parameter_types x) i ≡ Some u) (sym same) m.2) w
parameter_typed q (act.Return h r) g fn own found has f i u v e w p = none_is f e
parameter_typed q (act.Call h) g fn own found has f i u v e w p = none_is f e
parameter_typed q (act.Read x) g fn own found has f i u v e w p = none_is f e
parameter_typed q (act.Write x y) g fn own found has f i u v e w p = none_is f e
parameter_typed q act.Input g fn own found has f i u v e w p = none_is f e
parameter_typed q (act.Output b) g fn own found has f i u v e w p = none_is f e
parameter_typed q (act.Malloc n x k) g fn own found has f i u v e w p = none_is f e
parameter_typed q (act.Free x) g fn own found has f i u v e w p = none_is f e
parameter_typed q act.Turn g fn own found has f i u v e w p = none_is f e
parameter_typed q (act.Halt x) g fn own found has f i u v e w p = none_is f e

some_result : (t : CType) (v : Value) → ResultHasType t (Some v) → HasType t v
some_result type.Void v h = absurd h
some_result (type.Int k) v h = h
some_result (type.Pointer' b t) v h = h
some_result (type.Array' b t n) v h = h
some_result (type.Struct n) v h = h

result_typed : (q : Core) (c : Action) (g : ℕ) (fn : Function) → NamesOwn c g → slice_get q.functions g ≡ Some fn → ActionHasTypes fn c
    → (f : ℕ) (u : CType) (v : Value) → returns (event_of c) ≡ Some f → result_of c ≡ Some v → type_of_result q f ≡ Some u → HasType u v
result_typed q (act.Return h r) g fn own found has f u v e w p =
    let m = some_of_map (λ fn. fn.result) (slice_get q.functions f) u p in
    let same = some_is fn m.0 (sym found ∙ ap (slice_get q.functions) (sym own ∙ some_is h f e) ∙ m.1) in
    subst (λ t. HasType t v) (ap (λ fn. fn.result) same ∙ m.2) (some_result fn.result v (subst (ResultHasType fn.result) w has))
result_typed q (act.Enter h vs) g fn own found has f u v e w p = none_is f e
result_typed q (act.Call h) g fn own found has f u v e w p = none_is f e
result_typed q (act.Read x) g fn own found has f u v e w p = none_is f e
result_typed q (act.Write x y) g fn own found has f u v e w p = none_is f e
result_typed q act.Input g fn own found has f u v e w p = none_is f e
result_typed q (act.Output b) g fn own found has f u v e w p = none_is f e
result_typed q (act.Malloc n x k) g fn own found has f u v e w p = none_is f e
result_typed q (act.Free x) g fn own found has f u v e w p = none_is f e
result_typed q act.Turn g fn own found has f u v e w p = none_is f e
result_typed q (act.Halt x) g fn own found has f u v e w p = none_is f e

access_typed : (c : Action) (v : Value) → AccessesPointer c → accessed_by c ≡ Some v → IsPointer v
access_typed (act.Read p) v h e = subst IsPointer (some_is p v e) h
access_typed (act.Write p w) v h e = subst IsPointer (some_is p v e) h
access_typed (act.Enter g vs) v h e = none_is v e
access_typed (act.Return g r) v h e = none_is v e
access_typed (act.Call g) v h e = none_is v e
access_typed act.Input v h e = none_is v e
access_typed (act.Output b) v h e = none_is v e
access_typed (act.Malloc n p k) v h e = none_is v e
access_typed (act.Free p) v h e = none_is v e
access_typed act.Turn v h e = none_is v e
access_typed (act.Halt f) v h e = none_is v e

-- ---- the view of a step

module _ (q : Core) (ss : List Step) (traced : IsTraced q ss) (s : Step) (step : IsStepOf q s) where
  visible_typed : (k : NameKind) (n : Name) (b : Block) → visible_block (sight_of q ss s) k n ≡ Some b → All SlotTyped b
  visible_typed names.Global n b e = block_typed s.memory n.kind n.activation n.index b (step_typed q s step) e
  visible_typed names.Local n b e = block_typed s.memory n.kind n.activation n.index b (step_typed q s step) e
  visible_typed names.Heap n b e = block_typed s.memory n.kind n.activation n.index b (step_typed q s step) e
  visible_typed names.Register n b e = by_cases None None b (All SlotTyped b) (n.activation == s.activation) (λ e. none_is b e) (λ e. none_is b e) e
  visible_typed names.GhostGlobal n b e = file_typed no_memory n.activation n.index b none_typed e
  visible_typed names.GhostLocal n b e = frame_typed no_memory n.activation n.index b none_typed e

  pub view_typed : (g : Setting) (a : Allowed) → q.layouts ≡ g.layouts → AllowsOwnTypes q a → IsTypedSight g a (sight_of q ss s)
  view_typed g a same own =
      record {
        layouts = same;
        cells = λ n o u v e. block_read (visible_block (sight_of q ss s) n.kind n) o u v (visible_typed n.kind n) e;
        cells_at_enter = λ n o u v e. block_read (block (enter_memory ss s.activation) n) o u v (λ b. block_typed (enter_memory ss s.activation) n.kind n.activation n.index b (enter_typed ss s.activation (λ i t f. step_typed q t (traced.each i t f)))) e;
        access = λ v e. access_typed s.action v step.accesses e;
        parameters = λ f i u v e w p. parameter_typed q s.action s.function step.executed.0 step.own_function step.executed.1.0 step.executed.2 f i u v (ap enters e) w (own.parameters f i u p);
        result = λ f u v e w p. result_typed q s.action s.function step.executed.0 step.own_function step.executed.1.0 step.executed.2 f u v (ap returns e) w (own.result f u p);
      }

pub traced_sights_typed : TracedSightsTyped
traced_sights_typed = record { sights = λ q ss traced i s at g a same own. view_typed q ss traced s (traced.each i s at) g a same own }
