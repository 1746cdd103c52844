-- What a turn makes is what was to be done: one line for each form.
use Rattle.std.proofs.Common.{◌≡◌, ℕ, Bool, true, false, cond, List, [], ◌∷◌, Option, Some, None, Result, Ok, Err, refl, ap}
use Rattle.std.specs.Prelude.{ℤ, take, drop}
use Rattle.step_meaning.specs.declared.value.CType.{CType}
use Rattle.step_meaning.specs.declared.value.CType.TheVariants as type
use Rattle.step_meaning.specs.declared.value.Value.{Value}
use Rattle.step_meaning.specs.declared.value.Cell.{Cell}
use Rattle.step_meaning.specs.declared.value.Cell.TheVariants.{Nothing, Holds}
use Rattle.step_meaning.specs.declared.value.Action.{Action}
use Rattle.step_meaning.specs.declared.value.Action.TheVariants as act
use Rattle.step_meaning.specs.declared.value.RunFault.{RunFault}
use Rattle.step_meaning.specs.declared.value.IntKind.{IntKind}
use Rattle.step_meaning.specs.declared.expr.Side.{Side}
use Rattle.step_meaning.specs.declared.expr.Side.TheVariants.{PointerFirst, PointerLast, Minus}
use Rattle.step_meaning.specs.declared.expr.UpdateOp.{UpdateOp}
use Rattle.step_meaning.specs.declared.expr.UpdateOp.TheVariants.{Integer, Forward, Backward}
use Rattle.step_meaning.specs.declared.expr.Answer.{Answer}
use Rattle.step_meaning.specs.declared.expr.Expr.{Expr, Row_of-Expr, end_of-Expr, more_of-Expr, items-the_row-Expr}
use Rattle.step_meaning.specs.declared.expr.Expr.TheVariants.{Literal, Null, Load, Address, Convert', Unary', Binary', Compare', Move', Difference', Not', Both', Either', Choose', Assign', Update', Invoke', GetChar, PutChar', Malloc', Free', Discard', Own, Deref', Member', Index'}
use Rattle.step_meaning.specs.declared.expr.Place_.{Place_, end_of-Place_, more_of-Place_}
use Rattle.step_meaning.specs.declared.stmt.Stmt.{Stmt, Row_of-Stmt, end_of-Stmt, more_of-Stmt, items-the_row-Stmt}
use Rattle.step_meaning.specs.declared.stmt.Stmt.TheVariants as st
use Rattle.step_meaning.specs.declared.program.Core.{Core}
use Rattle.step_meaning.specs.Names.{truth}
use Rattle.step_meaning.specs.Memory.{Memory, Block, reached, freed}
use Rattle.step_meaning.specs.Steps.{Trace, Then}
use Rattle.step_meaning.specs.State.{State, Registers, Here, Lvalue, InRegister, At, register_at}
use Rattle.step_meaning.specs.Flow.{resting, Resting, RestingCall, step_by}
use Rattle.step_meaning.specs.Accesses.{checked, as_int, as_truth, load, store, move_elements, object_after, converted_to, answer}
use Rattle.step_meaning.specs.Allocation.{allocate_block, release_to, release}
use Rattle.step_meaning.specs.Expressions as ex
use Rattle.step_meaning.specs.Statements as sm
use Rattle.step_meaning.specs.Statements.{Completion, Next, Broken, Continued, Returned}
use Rattle.run_turns.specs.Pending as pending
use Rattle.run_turns.specs.Turns as turns
use Rattle.run_turns.specs.Turns.{Configuration, Turn, state_of, rest_of, moved, makes, ready}

-- a step, or none
abbrev pub stepped : Option Action → Here → Memory → Trace → Trace
stepped None here memory t = t
stepped (Some a) here memory t = Then (step_by here a memory) t

-- but for a loop that goes on
abbrev pub IsSettled : pending.Passing → Completion → Type 0
IsSettled (pending.Again s) Next = ⊥
IsSettled (pending.Again s) Continued = ⊥
IsSettled (pending.Again s) Broken = Unit {0}
IsSettled (pending.Again s) (Returned v) = Unit {0}
IsSettled (pending.Rest ss) l = Unit {0}
IsSettled (pending.TurnEnd s) l = Unit {0}

module _ (q : Core) (call : ℕ → List Value → RestingCall) (k : ℕ) where
  -- what follows a value, an lvalue, a completion
  abbrev after_value : {A : Type 0} → (A → State → Registers → Trace) → Resting A → Configuration → List ℕ → Trace
  after_value next d m input = d next (state_of m input) m.context.registers

  abbrev values : Configuration → Value → State → Registers → Trace
  values m = pending.value_to (pending.resume q call k m.work) m.context

  abbrev lvalues : Configuration → Lvalue → State → Registers → Trace
  lvalues m = pending.lvalue_to (pending.resume q call k m.work) m.context

  abbrev completions : Configuration → Completion → State → Registers → Trace
  completions m = pending.completion_to (pending.resume q call k m.work) m.context

  abbrev IsValue : Resting Value → Configuration → Turn → Type 0
  IsValue d m t = (input : List ℕ) → d (values m) (state_of m input) m.context.registers ≡ stepped t.step m.context.here m.memory (rest_of q call k t.after input)

  abbrev IsLvalue : Resting Lvalue → Configuration → Turn → Type 0
  IsLvalue d m t = (input : List ℕ) → d (lvalues m) (state_of m input) m.context.registers ≡ stepped t.step m.context.here m.memory (rest_of q call k t.after input)

  abbrev IsLeft : Resting Completion → Configuration → Turn → Type 0
  IsLeft d m t = (input : List ℕ) → d (completions m) (state_of m input) m.context.registers ≡ stepped t.step m.context.here m.memory (rest_of q call k t.after input)

  -- ---- choices

  choose : (b : Bool) {A : Type 0} (d e : Resting A) (next : A → State → Registers → Trace) (s : State) (r : Registers) (m n : Configuration) (input : List ℕ) → d next s r ≡ rest_of q call k m input → e next s r ≡ rest_of q call k n input → cond b d e next s r ≡ rest_of q call k (cond b m n) input
  choose true d e next s r m n input h g = h
  choose false d e next s r m n input h g = g

  finish : (c : Result ℤ RunFault) (m : Configuration) → IsValue (as_int resting (checked resting m.context.here c)) m (moved (turns.finished c m))
  finish (Ok z) m input = refl
  finish (Err f) m input = refl

  decide : (c : Result Bool RunFault) (m : Configuration) → IsValue (as_truth resting (checked resting m.context.here c)) m (moved (turns.decided c m))
  decide (Ok z) m input = refl
  decide (Err f) m input = refl

  -- ---- parts that wait for nothing

  row_items : (here : Here) (n : _) (r : Row_of-Expr n) → ex.all resting q.layouts call here r ≡ pending.all_of q call k here (items-the_row-Expr n r)
  row_items here n end_of-Expr = refl
  row_items here n (more_of-Expr e r) = ap (λ d. resting.bind (ex.eval resting q.layouts call here e) (λ v. resting.bind d (λ vs. resting.pure (v ∷ vs)))) (row_items here _ r)

  statements : (here : Here) (n : _) (r : Row_of-Stmt n) → sm.exec_row resting q.layouts call here k r ≡ sm.exec_all resting q.layouts call here k (items-the_row-Stmt n r)
  statements here n end_of-Stmt = refl
  statements here n (more_of-Stmt e r) = ap (λ d. resting.bind (sm.exec resting q.layouts call here k e) (sm.on_next resting d)) (statements here _ r)

  pub evaluates : (e : Expr) (m : Configuration) → IsValue (ex.eval resting q.layouts call m.context.here e) m (moved (turns.evaluated e (ready m)))
  evaluates (Literal j z) m input = refl
  evaluates Null m input = refl
  evaluates (Load p t) m input = refl
  evaluates (Address p t) m input = refl
  evaluates (Convert' j b (more_of-Expr e end_of-Expr)) m input = refl
  evaluates (Unary' o j b (more_of-Expr e end_of-Expr)) m input = refl
  evaluates (Binary' o j b (more_of-Expr e end_of-Expr) c (more_of-Expr f end_of-Expr)) m input = refl
  evaluates (Compare' o b (more_of-Expr e end_of-Expr) c (more_of-Expr f end_of-Expr)) m input = refl
  evaluates (Move' b (more_of-Expr e end_of-Expr) c (more_of-Expr f end_of-Expr) size side) m input = refl
  evaluates (Difference' b (more_of-Expr e end_of-Expr) c (more_of-Expr f end_of-Expr) unit) m input = refl
  evaluates (Not' b (more_of-Expr e end_of-Expr)) m input = refl
  evaluates (Both' b (more_of-Expr e end_of-Expr) c (more_of-Expr f end_of-Expr)) m input = refl
  evaluates (Either' b (more_of-Expr e end_of-Expr) c (more_of-Expr f end_of-Expr)) m input = refl
  evaluates (Choose' b (more_of-Expr e end_of-Expr) c (more_of-Expr f end_of-Expr) d (more_of-Expr g end_of-Expr)) m input = refl
  evaluates (Assign' p t b (more_of-Expr e end_of-Expr)) m input = refl
  evaluates (Update' p t o b (more_of-Expr e end_of-Expr) w) m input = refl
  evaluates (Invoke' f b es) m input = ap (λ d. resting.bind d (λ vs. resting.bind (resting.emit m.context.here (act.Call f)) (λ u. resting.through (call f vs))) (values m) (state_of m input) m.context.registers) (row_items m.context.here _ es)
  evaluates GetChar m input = refl
  evaluates (Malloc' b (more_of-Expr e end_of-Expr) t) m input = refl
  evaluates (Free' b (more_of-Expr e end_of-Expr)) m input = refl
  evaluates (PutChar' b (more_of-Expr e end_of-Expr)) m input = refl
  evaluates (Discard' b (more_of-Expr e end_of-Expr)) m input = refl

  pub locates : (p : Place_) (m : Configuration) → IsLvalue (ex.place resting q.layouts call m.context.here p) m (moved (turns.located p (ready m)))
  locates (Own v) m input = refl
  locates (Deref' b (more_of-Expr e end_of-Expr)) m input = refl
  locates (Member' b (more_of-Place_ p end_of-Place_) o) m input = refl
  locates (Index' b (more_of-Place_ p end_of-Place_) c (more_of-Expr e end_of-Expr) size) m input = refl

  pub executes : (s : Stmt) (m : Configuration) → IsLeft (sm.exec resting q.layouts call m.context.here k s) m (moved (turns.executed s (ready m)))
  executes st.Empty m input = refl
  executes (st.Eval e) m input = refl
  executes (st.Init v o t e) m input = refl
  executes (st.Block' b ss) m input = ap (λ d. d (completions m) (state_of m input) m.context.registers) (statements m.context.here _ ss)
  executes (st.If' e b (more_of-Stmt s end_of-Stmt) c (more_of-Stmt u end_of-Stmt)) m input = refl
  executes (st.While' e b (more_of-Stmt s end_of-Stmt)) m input = refl
  executes (st.Do' b (more_of-Stmt s end_of-Stmt) e) m input = refl
  executes (st.For' test step b (more_of-Stmt s end_of-Stmt)) m input = refl
  executes st.Break m input = refl
  executes st.Continue m input = refl
  executes (st.Return None) m input = refl
  executes (st.Return (Some e)) m input = refl
  executes (st.Ghost g) m input = refl
  executes (st.Assert v j r) m input = refl

  -- ---- accesses

  holds_value : (c : Option Cell) (m : Configuration) (here : Here) → IsValue (Rattle.step_meaning.specs.Accesses.held resting m.context.here c) m (moved (turns.holding c m))
  holds_value None m here input = refl
  holds_value (Some Nothing) m here input = refl
  holds_value (Some (Holds v)) m here input = refl

  pub loads : (t : CType) (l : Lvalue) (m : Configuration) → IsValue (load resting m.context.here t l) m (turns.loaded t l m)
  loads t (InRegister i) m input = elim (register_at m.context.registers i t) as (λ c. Rattle.step_meaning.specs.Accesses.held_register resting m.context.here c (values m) (state_of m input) m.context.registers ≡ rest_of q call k (turns.holding c m) input) [ None ↦ refl | Some c ↦ elim c as (λ c. Rattle.step_meaning.specs.Accesses.held_register resting m.context.here (Some c) (values m) (state_of m input) m.context.registers ≡ rest_of q call k (turns.holding (Some c) m) input) [ Nothing ↦ refl | Holds v ↦ refl ] ]
  loads t (At p) m input = ap (Then (step_by m.context.here (act.Read p) m.memory)) (holds_value (reached m.memory p t) m m.context.here input)

  writes : (p v : Value) (c : Option Cell) (m : Configuration) → IsValue (Rattle.step_meaning.specs.Accesses.write_at resting m.context.here p v c) m (moved (turns.written p v c m))
  writes p v None m input = refl
  writes p v (Some c) m input = refl

  pub keeps : (t : CType) (l : Lvalue) (v : Value) (m : Configuration) → IsValue (store resting m.context.here t l v) m (turns.kept t l v m)
  keeps t (InRegister i) v m input = elim (register_at m.context.registers i t) as (λ c. Rattle.step_meaning.specs.Accesses.write_register resting m.context.here i v c (values m) (state_of m input) m.context.registers ≡ rest_of q call k (turns.written_register i v c m) input) [ None ↦ refl | Some c ↦ refl ]
  keeps t (At p) v m input = ap (Then (step_by m.context.here (act.Write p v) m.memory)) (writes p v (reached m.memory p t) m input)

  -- ---- pointers

  points : (c : Result Value RunFault) (m : Configuration) → IsValue (checked resting m.context.here c) m (moved (turns.pointing c m))
  points (Ok p) m input = refl
  points (Err f) m input = refl

  moves : (size : ℕ) (side : Side) (v w : Value) (m : Configuration) → IsValue (move_elements resting m.context.here side size v w) m (moved (turns.pointing (turns.elements_moved m.memory side size v w) m))
  moves size PointerFirst v w m input = points _ m input
  moves size PointerLast v w m input = points _ m input
  moves size Minus v w m input = points _ m input

  finds : (c : Result Value RunFault) (m : Configuration) → IsLvalue (resting.bind (checked resting m.context.here c) (λ p. resting.pure (At p))) m (moved (turns.designated_by c m))
  finds (Ok p) m input = refl
  finds (Err f) m input = refl

  finds_after : (l : Lvalue) (by : ℤ) (m : Configuration) → IsLvalue (object_after resting m.context.here l by) m (moved (turns.object_after l by m))
  finds_after (InRegister i) by m input = refl
  finds_after (At p) by m input = finds _ m input

  pub selects : (x : pending.Selection) (l : Lvalue) (m : Configuration) → IsLvalue (pending.selected q call k m.context.here x l) m (moved (turns.selected x l (ready m)))
  selects (pending.MemberAt o) l m input = finds_after l _ (ready m) input
  selects (pending.ElementAt e size) l m input = refl

  pub designates : (x : pending.Designation) (v : Value) (m : Configuration) → IsLvalue (pending.designation q call k m.context.here x v) m (moved (turns.designating x v (ready m)))
  designates pending.Dereference v m input = refl
  designates (pending.ElementNow l size) v m input = finds_after l _ (ready m) input

  -- ---- compound assignments

  abbrev update_to : Here → CType → Answer → Lvalue → Value → Resting Value → Resting Value
  update_to here t w l old d = resting.bind d (λ new. resting.bind (store resting here t l new) (λ written. resting.pure (answer w old new)))

  updates_integer : (c : Result ℤ RunFault) (j : IntKind) (t : CType) (w : Answer) (l : Lvalue) (old : Value) (m : Configuration) →
      IsValue (update_to m.context.here t w l old (as_int resting (resting.bind (checked resting m.context.here c) (λ z. resting.pure (converted_to j t z))))) m (moved (turns.updating t w l old (turns.new_integer j t c) m))
  updates_integer (Ok z) j t w l old m input = refl
  updates_integer (Err f) j t w l old m input = refl

  updates_pointer : (c : Result Value RunFault) (t : CType) (w : Answer) (l : Lvalue) (old : Value) (m : Configuration) → IsValue (update_to m.context.here t w l old (checked resting m.context.here c)) m (moved (turns.updating t w l old c m))
  updates_pointer (Ok p) t w l old m input = refl
  updates_pointer (Err f) t w l old m input = refl

  updates : (t : CType) (o : UpdateOp) (w : Answer) (l : Lvalue) (old v : Value) (m : Configuration) → IsValue (pending.update_at q call k m.context.here t o w l old v) m (moved (turns.updating t w l old (turns.new_value m.memory t o old v) m))
  updates t (Integer o j) w l old v m input = updates_integer _ j t w l old m input
  updates t (Forward size) w l old v m input = updates_pointer _ t w l old m input
  updates t (Backward size) w l old v m input = updates_pointer _ t w l old m input

  -- ---- the heap

  allocates : (count : ℕ) (b : Option Block) (m : Configuration) → IsValue (allocate_block resting m.context.here count b) m (turns.allocated_block count b m)
  allocates count None m input = refl
  allocates count (Some b) m input = refl

  releases_to : (o : Option Memory) (m : Configuration) → IsValue (release_to resting m.context.here o) m (moved (turns.released o m))
  releases_to None m input = refl
  releases_to (Some memory) m input = refl

  releases : (v : Value) (m : Configuration) → IsValue (release resting m.context.here v) m (makes (act.Free v) (turns.released (freed m.memory v) m))
  releases v m input = ap (Then (step_by m.context.here (act.Free v) m.memory)) (releases_to (freed m.memory v) m input)

  -- ---- parts that wait for a value

  chosen : (b : Bool) (f g : Expr) (m : Configuration) → IsValue (cond b (ex.eval resting q.layouts call m.context.here f) (ex.eval resting q.layouts call m.context.here g)) m (moved (turns.pushed (pending.Evaluate (cond b f g)) (ready m)))
  chosen true f g m input = refl
  chosen false f g m input = refl

  pub operates : (o : pending.Operand) (v : Value) (m : Configuration) → IsValue (pending.operand q call k m.context.here o v) m (turns.operated q o v m)
  operates (pending.Convert j) v m input = refl
  operates (pending.Unary o j) v m input = finish _ m input
  operates (pending.BinaryRight o j f) v m input = refl
  operates (pending.BinaryNow o j w) v m input = finish _ m input
  operates (pending.CompareRight o f) v m input = refl
  operates (pending.CompareNow o w) v m input = decide _ m input
  operates pending.Negated v m input = refl
  operates (pending.BothRight f) v m input = choose (truth v) _ _ _ _ _ _ _ input refl refl
  operates (pending.EitherRight f) v m input = choose (truth v) _ _ _ _ _ _ _ input refl refl
  operates pending.Truth v m input = refl
  operates (pending.Choose f g) v m input = chosen (truth v) f g m input
  operates pending.Discard v m input = refl
  operates (pending.MoveRight size side f) v m input = refl
  operates (pending.MoveNow size side v) w m input = moves size side v w m input
  operates (pending.DifferenceRight unit f) v m input = refl
  operates (pending.DifferenceNow unit v) w m input = finish _ m input
  operates (pending.UpdateRight t o e w l) old m input = refl
  operates (pending.UpdateNow t o w l old) v m input = updates t o w l old v m input
  operates (pending.Instead v) w m input = refl
  operates (pending.Allocate t) v m input = allocates _ _ m input
  operates pending.Release v m input = releases v m input
  operates (pending.Store t l) v m input = keeps t l v m input

  pub accesses : (a : pending.Access) (l : Lvalue) (m : Configuration) → IsValue (pending.accessed q call k m.context.here a l) m (turns.accessed a l m)
  accesses (pending.LoadAt t) l m input = loads t l m input
  accesses pending.AddressOf (At p) m input = refl
  accesses pending.AddressOf (InRegister i) m input = refl
  accesses (pending.AssignRight t e) l m input = refl
  accesses (pending.UpdateOld t o e w) l m input = loads t l (turns.pushed (pending.Operate (pending.UpdateRight t o e w l)) m) input

  branched : (b : Bool) (s u : Stmt) (m : Configuration) → IsLeft (cond b (sm.exec resting q.layouts call m.context.here k s) (sm.exec resting q.layouts call m.context.here k u)) m (moved (turns.pushed (pending.Execute (cond b s u)) (ready m)))
  branched true s u m input = refl
  branched false s u m input = refl

  pub concludes : (x : Stmt) (v : Value) (m : Configuration) → IsLeft (pending.concluded q call k m.context.here x v) m (moved (turns.concluded x v m))
  concludes (st.Init x o t e) v m input = refl
  concludes (st.If' e b (more_of-Stmt s end_of-Stmt) c (more_of-Stmt u end_of-Stmt)) v m input = branched (truth v) s u m input
  concludes (st.While' e b (more_of-Stmt s end_of-Stmt)) v m input = choose (truth v) _ _ _ _ _ _ _ input refl refl
  concludes (st.Do' b (more_of-Stmt s end_of-Stmt) e) v m input = choose (truth v) _ _ _ _ _ _ _ input refl refl
  concludes (st.For' test step b (more_of-Stmt s end_of-Stmt)) v m input = choose (truth v) _ _ _ _ _ _ _ input refl refl
  concludes (st.Return e) v m input = refl
  concludes st.Empty v m input = refl
  concludes (st.Eval e) v m input = refl
  concludes (st.Block' b ss) v m input = refl
  concludes st.Break v m input = refl
  concludes st.Continue v m input = refl
  concludes (st.Ghost g) v m input = refl
  concludes (st.Assert v' j r) v m input = refl

  -- ---- parts that wait until a statement is left

  rests : (ss : List Stmt) (l : Completion) (m : Configuration) → IsLeft (sm.on_next resting (sm.exec_all resting q.layouts call m.context.here k ss) l) m (moved (turns.on_next (turns.next_of ss (ready m)) l m))
  rests [] Next m input = refl
  rests (s ∷ ss) Next m input = refl
  rests ss Broken m input = refl
  rests ss Continued m input = refl
  rests ss (Returned v) m input = refl

  ends_turn : (s : Stmt) (m : Configuration) → IsLeft (pending.turn_ended q call k m.context.here s) m (moved (turns.ending s m))
  ends_turn (st.Do' b (more_of-Stmt s end_of-Stmt) e) m input = refl
  ends_turn (st.For' test None b (more_of-Stmt s end_of-Stmt)) m input = refl
  ends_turn (st.For' test (Some e) b (more_of-Stmt s end_of-Stmt)) m input = refl
  ends_turn st.Empty m input = refl
  ends_turn (st.Eval e) m input = refl
  ends_turn (st.Init x o t e) m input = refl
  ends_turn (st.Block' b ss) m input = refl
  ends_turn (st.If' e b r c r') m input = refl
  ends_turn (st.While' e b r) m input = refl
  ends_turn st.Break m input = refl
  ends_turn st.Continue m input = refl
  ends_turn (st.Return e) m input = refl
  ends_turn (st.Ghost g) m input = refl
  ends_turn (st.Assert v' j r) m input = refl

  ends : (s : Stmt) (l : Completion) (m : Configuration) → IsLeft (sm.at_turn_end resting (pending.turn_ended q call k m.context.here s) l) m (moved (turns.at_turn_end (turns.ending s m) l m))
  ends s Next m input = ends_turn s m input
  ends s Continued m input = ends_turn s m input
  ends s Broken m input = refl
  ends s (Returned v) m input = refl

  pub passes : (x : pending.Passing) (l : Completion) → IsSettled x l → (m : Configuration) → IsLeft (pending.passed q call k m.context.here x l) m (turns.passed x l m)
  passes (pending.Rest ss) l h m input = rests ss l m input
  passes (pending.Again s) Next h m input = absurd h
  passes (pending.Again s) Continued h m input = absurd h
  passes (pending.Again s) Broken h m input = refl
  passes (pending.Again s) (Returned v) h m input = refl
  passes (pending.TurnEnd s) l h m input = ends s l m input

  -- ---- calls

  pub argues : (f : ℕ) (es : List Expr) (n : ℕ) (m : Configuration) (input : List ℕ) →
      pending.called q call k m.context.here f es (pending.reversed_onto (take n m.context.arguments)) (pending.value_to (pending.resume q call k m.work) (record m.context { arguments = drop n m.context.arguments })) (state_of m input) m.context.registers
      ≡ stepped (turns.arguing f es n (ready m)).step m.context.here m.memory (rest_of q call k (turns.arguing f es n (ready m)).after input)
  argues f [] n m input = refl
  argues f (e ∷ es) n m input = refl

  -- the end of an activation, once it is known what is given back
  abbrev closing : ℕ → Resting (Option Value) → Configuration → List ℕ → Trace
  closing g d m input = resting.bind d (λ v. resting.bind (resting.emit m.context.here (act.Return g v)) (λ u. resting.bind (Rattle.step_meaning.specs.Calls.close_frame resting) (λ u. resting.pure (Rattle.step_meaning.specs.Calls.value_or_zero v)))) (λ v s r. pending.resume q call k m.work (pending.Gave v) (pending.back_to m.context.callers m.context) s) (state_of m input) m.context.registers

  returns : (g : ℕ) (t : CType) (v : Option Value) (m : Configuration) (input : List ℕ) → closing g (Rattle.step_meaning.specs.Calls.returned resting t v) m input ≡ stepped (turns.returned g t v m).step m.context.here m.memory (rest_of q call k (turns.returned g t v m).after input)
  returns g type.Void None m input = refl
  returns g type.Void (Some v) m input = refl
  returns g (type.Int j) None m input = refl
  returns g (type.Int j) (Some v) m input = refl
  returns g (type.Pointer' b j) None m input = refl
  returns g (type.Pointer' b j) (Some v) m input = refl
  returns g (type.Array' b j n) None m input = refl
  returns g (type.Array' b j n) (Some v) m input = refl
  returns g (type.Struct j) None m input = refl
  returns g (type.Struct j) (Some v) m input = refl

  falls_off : (g : ℕ) (b : Bool) (t : CType) (m : Configuration) (input : List ℕ) → closing g (Rattle.step_meaning.specs.Calls.fallen_off resting m.context.here b t) m input ≡ stepped (turns.fallen_off g b t m).step m.context.here m.memory (rest_of q call k (turns.fallen_off g b t m).after input)
  falls_off g true t m input = refl
  falls_off g false type.Void m input = refl
  falls_off g false (type.Int j) m input = refl
  falls_off g false (type.Pointer' b j) m input = refl
  falls_off g false (type.Array' b j n) m input = refl
  falls_off g false (type.Struct j) m input = refl

  pub gives_back : (g : ℕ) (b : Bool) (t : CType) (l : Completion) (m : Configuration) (input : List ℕ) → closing g (Rattle.step_meaning.specs.Calls.given_back resting m.context.here b t l) m input ≡ stepped (turns.given_back g b t l m).step m.context.here m.memory (rest_of q call k (turns.given_back g b t l m).after input)
  gives_back g b t Next m input = falls_off g b t m input
  gives_back g b t Broken m input = refl
  gives_back g b t Continued m input = refl
  gives_back g b t (Returned v) m input = returns g t v m input
