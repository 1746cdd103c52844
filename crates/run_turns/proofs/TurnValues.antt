-- A property of values stays with a machine's values from turn to turn.
use Rattle.std.proofs.Common.{◌≡◌, ℕ, Bool, true, false, cond, List, [], ◌∷◌, Option, Some, None, Result, Ok, Err, refl, sym, subst}
use Rattle.std.specs.Prelude.{ℤ, pos, ◌*◌, ◌==◌, IsTrue, is_some}
use Rattle.std.specs.List.{AllByRecursion}
use Rattle.step_meaning.specs.declared.value.CType.{CType}
use Rattle.step_meaning.specs.declared.value.CType.TheVariants as type
use Rattle.step_meaning.specs.declared.value.Value.{Value}
use Rattle.step_meaning.specs.declared.value.Value.TheVariants as value
use Rattle.step_meaning.specs.declared.value.Cell.{Cell}
use Rattle.step_meaning.specs.declared.value.Cell.TheVariants.{Nothing, Holds}
use Rattle.step_meaning.specs.declared.value.RunFault.{RunFault}
use Rattle.step_meaning.specs.declared.expr.Side.{Side}
use Rattle.step_meaning.specs.declared.expr.Side.TheVariants.{PointerFirst, PointerLast, Minus}
use Rattle.step_meaning.specs.declared.expr.UpdateOp.{UpdateOp}
use Rattle.step_meaning.specs.declared.expr.UpdateOp.TheVariants.{Integer, Forward, Backward}
use Rattle.step_meaning.specs.declared.expr.Answer.{Answer}
use Rattle.step_meaning.specs.declared.expr.Answer.TheVariants.{Before, After}
use Rattle.step_meaning.specs.declared.expr.Variable.{Variable}
use Rattle.step_meaning.specs.declared.expr.Expr.{Expr, end_of-Expr, more_of-Expr}
use Rattle.step_meaning.specs.declared.expr.Expr.TheVariants.{Literal, Null, Load, Address, Convert', Unary', Binary', Compare', Move', Difference', Not', Both', Either', Choose', Assign', Update', Invoke', GetChar, PutChar', Malloc', Free', Discard', Own, Deref', Member', Index'}
use Rattle.step_meaning.specs.declared.expr.Place_.{Place_, end_of-Place_, more_of-Place_}
use Rattle.step_meaning.specs.declared.stmt.Stmt.{Stmt, end_of-Stmt, more_of-Stmt}
use Rattle.step_meaning.specs.declared.stmt.Stmt.TheVariants as st
use Rattle.step_meaning.specs.declared.program.Core.{Core}
use Rattle.step_meaning.specs.declared.program.Function.{Function}
use Rattle.step_meaning.specs.Numbers.{low_bits}
use Rattle.step_meaning.specs.Names.{truth, integer}
use Rattle.step_meaning.specs.Memory.{Memory, Block, room_at}
use Rattle.step_meaning.specs.Accesses.{answer}
use Rattle.step_meaning.specs.Allocation.{block_for, block_where, block_pointer, is_block_size}
use Rattle.step_meaning.specs.Types.{times, object_cells}
use Rattle.step_meaning.specs.TypeRules.{cells}
use Rattle.step_meaning.specs.State.{Lvalue, InRegister, At, designated}
use Rattle.step_meaning.specs.Statements.{Completion, Next, Broken, Continued, Returned}
use Rattle.step_meaning.specs.Calls.{value_or_zero}
use Rattle.run_turns.specs.Pending as pending
use Rattle.run_turns.specs.Turns as turns
use Rattle.run_turns.specs.Turns.{Configuration, ready, telling, turn_at}
use Rattle.run_turns.specs.Typed.{ConclusionTakes, IsTypablePlace, Takes}
use Rattle.run_turns.proofs.CallsTyped.{IsInner}
use Rattle.run_turns.specs.Values.{LvalueHas, OptionHas, CompletionHas, ToldHas, OperandHas, DesignationHas, PartHas, CellHas, BlockHas, MemoryHas, RegistersHave, KeptHas, StateHas}
use Rattle.run_turns.proofs.ValuesHeld.{IgnoresOffsets, OkHas, WhereSome, truth_has, moved_has, stored_has, reached_has, register_has, set_register_has, unset_has, freed_has, tail_has}

module _ (P : Value → Type 0) (closed : IgnoresOffsets P) where
  abbrev Kept : Configuration → Type 0
  Kept m = KeptHas P m.context.arguments m.context.registers m.context.callers m.memory

  abbrev Works : Configuration → Type 0
  Works m = AllByRecursion (PartHas P) m.work

  -- ---- results

  finished_has : (c : Result ℤ RunFault) (m : Configuration) → Works m → Kept m → StateHas P (turns.finished c m)
  finished_has (Ok z) m w k = (closed.integers z, w, k)
  finished_has (Err x) m w k = (tt, (tt, w), k)

  decided_has : (c : Result Bool RunFault) (m : Configuration) → Works m → Kept m → StateHas P (turns.decided c m)
  decided_has (Ok b) m w k = (truth_has P closed b, w, k)
  decided_has (Err x) m w k = (tt, (tt, w), k)

  pointing_has : (c : Result Value RunFault) (m : Configuration) → OkHas P closed c → Works m → Kept m → StateHas P (turns.pointing c m)
  pointing_has (Ok p) m h w k = (h, w, k)
  pointing_has (Err x) m h w k = (tt, (tt, w), k)

  designated_has : (c : Result Value RunFault) (m : Configuration) → OkHas P closed c → Works m → Kept m → StateHas P (turns.designated_by c m)
  designated_has (Ok p) m h w k = (h, w, k)
  designated_has (Err x) m h w k = (tt, (tt, w), k)

  object_has : (l : Lvalue) (by : ℤ) (m : Configuration) → ToldHas P m.told → LvalueHas P l → Works m → Kept m → StateHas P (turns.object_after l by m)
  object_has (At p) by m t h w k = designated_has _ m (moved_has P closed p (room_at m.memory p) by h) w k
  object_has (InRegister r) by m t h w k = (t, (tt, w), k)

  holding_has : (c : Option Cell) (m : Configuration) → WhereSome (CellHas P) c → Works m → Kept m → StateHas P (turns.holding c m)
  holding_has None m h w k = (tt, (tt, w), k)
  holding_has (Some Nothing) m h w k = (tt, (tt, w), k)
  holding_has (Some (Holds v)) m h w k = (h, w, k)

  loaded_has : (t : CType) (l : Lvalue) (m : Configuration) → Works m → Kept m → StateHas P (turns.loaded t l m).after
  loaded_has t (InRegister i) m w k = holding_has _ m (register_has P closed m.context.registers i t k.registers_have) w k
  loaded_has t (At p) m w k = holding_has _ m (reached_has P closed m.memory p t k.memory_has) w k

  written_has : (p v : Value) (c : Option Cell) (m : Configuration) → P v → Works m → Kept m → StateHas P (turns.written p v c m)
  written_has p v None m h w k = (tt, (tt, w), k)
  written_has p v (Some c) m h w k = (h, w, record { arguments_have = k.arguments_have; registers_have = k.registers_have; callers_have = k.callers_have; memory_has = stored_has P closed m.memory p v h k.memory_has })

  written_register_has : (i : ℕ) (v : Value) (c : Option Cell) (m : Configuration) → P v → Works m → Kept m → StateHas P (turns.written_register i v c m)
  written_register_has i v None m h w k = (tt, (tt, w), k)
  written_register_has i v (Some c) m h w k = (h, w, record { arguments_have = k.arguments_have; registers_have = set_register_has P closed m.context.registers i v h k.registers_have; callers_have = k.callers_have; memory_has = k.memory_has })

  kept_has : (t : CType) (l : Lvalue) (v : Value) (m : Configuration) → P v → Works m → Kept m → StateHas P (turns.kept t l v m).after
  kept_has t (InRegister i) v m h w k = written_register_has i v _ m h w k
  kept_has t (At p) v m h w k = written_has p v _ m h w k

  answer_has : (w : Answer) (old new : Value) → P old → P new → P (answer w old new)
  answer_has Before old new h g = h
  answer_has After old new h g = g

  updating_has : (t : CType) (a : Answer) (l : Lvalue) (old : Value) (c : Result Value RunFault) (m : Configuration) → LvalueHas P l → P old → OkHas P closed c → Works m → Kept m → StateHas P (turns.updating t a l old c m)
  updating_has t a l old (Ok new) m p h g w k = (g, (p, (answer_has a old new h g, w)), k)
  updating_has t a l old (Err x) m p h g w k = (tt, (tt, w), k)

  new_integer_has : (j : _) (t : CType) (c : Result ℤ RunFault) → OkHas P closed (turns.new_integer j t c)
  new_integer_has j t (Ok z) = closed.integers _
  new_integer_has j t (Err x) = tt

  new_value_has : (memory : Memory) (t : CType) (o : UpdateOp) (old v : Value) → P old → OkHas P closed (turns.new_value memory t o old v)
  new_value_has memory t (Integer o j) old v h = new_integer_has j t _
  new_value_has memory t (Forward size) old v h = moved_has P closed old (room_at memory old) _ h
  new_value_has memory t (Backward size) old v h = moved_has P closed old (room_at memory old) _ h

  elements_have : (memory : Memory) (size : ℕ) (side : Side) (v w : Value) → P v → P w → OkHas P closed (turns.elements_moved memory side size v w)
  elements_have memory size PointerFirst v w h g = moved_has P closed v (room_at memory v) _ h
  elements_have memory size PointerLast v w h g = moved_has P closed w (room_at memory w) _ g
  elements_have memory size Minus v w h g = moved_has P closed v (room_at memory v) _ h

  -- ---- the heap

  allocated_has : (count : ℕ) (b : Option Block) (m : Configuration) → P (block_pointer m.allocated) → WhereSome (BlockHas P) b → Works m → Kept m → StateHas P (turns.allocated_block count b m).after
  allocated_has count None m f h w k = (closed.null, w, k)
  allocated_has count (Some b) m f h w k = (f, w, record { arguments_have = k.arguments_have; registers_have = k.registers_have; callers_have = k.callers_have; memory_has = (k.memory_has.0, k.memory_has.1, (h, k.memory_has.2)) })

  new_block_has : (q : Core) (t : CType) (count : ℕ) → WhereSome (BlockHas P) (block_for q.layouts t count)
  new_block_has q t count = by (is_block_size (count * cells q.layouts t))
    where
      by : (c : Bool) → WhereSome (BlockHas P) (block_where c count (object_cells q.layouts t))
      by true = unset_has P closed (times count (object_cells q.layouts t))
      by false = tt

  released_has : (o : Option Memory) (m : Configuration) → WhereSome (MemoryHas P) o → Works m → Kept m → StateHas P (turns.released o m)
  released_has None m h w k = (tt, (tt, w), k)
  released_has (Some memory) m h w k = (closed.integers (pos 0), w, record { arguments_have = k.arguments_have; registers_have = k.registers_have; callers_have = k.callers_have; memory_has = h })

  -- ---- parts

  evaluated_has : (e : Expr) (m : Configuration) → Works m → Kept m → StateHas P (turns.evaluated e (ready m))
  evaluated_has (Literal j z) m w k = (closed.integers z, w, k)
  evaluated_has Null m w k = (closed.null, w, k)
  evaluated_has (Load p t) m w k = (tt, (tt, (tt, w)), k)
  evaluated_has (Address p t) m w k = (tt, (tt, (tt, w)), k)
  evaluated_has (Convert' j b (more_of-Expr e end_of-Expr)) m w k = (tt, (tt, (tt, w)), k)
  evaluated_has (Unary' o j b (more_of-Expr e end_of-Expr)) m w k = (tt, (tt, (tt, w)), k)
  evaluated_has (Binary' o j b (more_of-Expr e end_of-Expr) c (more_of-Expr g end_of-Expr)) m w k = (tt, (tt, (tt, w)), k)
  evaluated_has (Compare' o b (more_of-Expr e end_of-Expr) c (more_of-Expr g end_of-Expr)) m w k = (tt, (tt, (tt, w)), k)
  evaluated_has (Move' b (more_of-Expr e end_of-Expr) c (more_of-Expr g end_of-Expr) size side) m w k = (tt, (tt, (tt, w)), k)
  evaluated_has (Difference' b (more_of-Expr e end_of-Expr) c (more_of-Expr g end_of-Expr) unit) m w k = (tt, (tt, (tt, w)), k)
  evaluated_has (Not' b (more_of-Expr e end_of-Expr)) m w k = (tt, (tt, (tt, w)), k)
  evaluated_has (Both' b (more_of-Expr e end_of-Expr) c (more_of-Expr g end_of-Expr)) m w k = (tt, (tt, (tt, w)), k)
  evaluated_has (Either' b (more_of-Expr e end_of-Expr) c (more_of-Expr g end_of-Expr)) m w k = (tt, (tt, (tt, w)), k)
  evaluated_has (Choose' b (more_of-Expr e end_of-Expr) c (more_of-Expr g end_of-Expr) d (more_of-Expr i end_of-Expr)) m w k = (tt, (tt, (tt, w)), k)
  evaluated_has (Assign' p t b (more_of-Expr e end_of-Expr)) m w k = (tt, (tt, (tt, w)), k)
  evaluated_has (Update' p t u b (more_of-Expr e end_of-Expr) a) m w k = (tt, (tt, (tt, w)), k)
  evaluated_has (Invoke' g b es) m w k = (tt, (tt, w), k)
  evaluated_has GetChar m w k = (tt, (tt, w), k)
  evaluated_has (PutChar' b (more_of-Expr e end_of-Expr)) m w k = (tt, (tt, (tt, w)), k)
  evaluated_has (Malloc' b (more_of-Expr e end_of-Expr) t) m w k = (tt, (tt, (tt, w)), k)
  evaluated_has (Free' b (more_of-Expr e end_of-Expr)) m w k = (tt, (tt, (tt, w)), k)
  evaluated_has (Discard' b (more_of-Expr e end_of-Expr)) m w k = (tt, (tt, (tt, w)), k)

  -- the variables that code names have the property in this activation
  abbrev pub OwnHave : Core → Function → ℕ → Type 0
  OwnHave q f activation = (v : Variable) (o : ℕ) → IsTrue (is_some (Rattle.step_meaning.specs.Settings.variable_type (Rattle.step_meaning.specs.Settings.code_setting q f) v)) → LvalueHas P (designated activation v o)

  located_has : (q : Core) (f : Function) (p : Place_) (m : Configuration) → OwnHave q f m.context.here.activation → IsTypablePlace q f p → Works m → Kept m → StateHas P (turns.located p (ready m))
  located_has q f (Own v) m own t w k = (own v 0 t, w, k)
  located_has q f (Deref' b (more_of-Expr e end_of-Expr)) m own t w k = (tt, (tt, (tt, w)), k)
  located_has q f (Member' b (more_of-Place_ p end_of-Place_) o) m own t w k = (tt, (tt, (tt, w)), k)
  located_has q f (Index' b (more_of-Place_ p end_of-Place_) c (more_of-Expr e end_of-Expr) size) m own t w k = (tt, (tt, (tt, w)), k)

  answering_has : (e : Option Expr) (m : Configuration) → Works m → Kept m → StateHas P (turns.answering e (ready m))
  answering_has None m w k = (tt, w, k)
  answering_has (Some e) m w k = (tt, (tt, (tt, w)), k)

  executed_has : (x : Stmt) (m : Configuration) → Works m → Kept m → StateHas P (turns.executed x (ready m))
  executed_has st.Empty m w k = (tt, w, k)
  executed_has (st.Eval e) m w k = (tt, (tt, (tt, w)), k)
  executed_has (st.Init x o t e) m w k = (tt, (tt, (tt, w)), k)
  executed_has (st.Block' b ss) m w k = (tt, (tt, w), k)
  executed_has (st.If' e b (more_of-Stmt a end_of-Stmt) c (more_of-Stmt u end_of-Stmt)) m w k = (tt, (tt, (tt, w)), k)
  executed_has (st.While' e b (more_of-Stmt a end_of-Stmt)) m w k = (tt, (tt, w), k)
  executed_has (st.Do' b (more_of-Stmt a end_of-Stmt) e) m w k = (tt, (tt, w), k)
  executed_has (st.For' test step b (more_of-Stmt a end_of-Stmt)) m w k = (tt, (tt, w), k)
  executed_has st.Break m w k = (tt, w, k)
  executed_has st.Continue m w k = (tt, w, k)
  executed_has (st.Return e) m w k = answering_has e m w k
  executed_has (st.Ghost g) m w k = (tt, (tt, w), k)
  executed_has (st.Assert v j r) m w k = (tt, (tt, w), k)

  one_has : (b : Bool) (x y : Configuration) → StateHas P x → StateHas P y → StateHas P (cond b x y)
  one_has true x y h g = h
  one_has false x y h g = g

  operated_has : (q : Core) (o : pending.Operand) (v : Value) (m : Configuration) → P (block_pointer m.allocated) → P v → OperandHas P o → Works m → Kept m → StateHas P (turns.operated q o v m).after
  operated_has q (pending.Convert j) v m f h g w k = (closed.integers _, w, k)
  operated_has q (pending.Unary o j) v m f h g w k = finished_has _ m w k
  operated_has q (pending.BinaryRight o j e) v m f h g w k = (tt, (tt, (h, w)), k)
  operated_has q (pending.BinaryNow o j a) v m f h g w k = finished_has _ m w k
  operated_has q (pending.CompareRight o e) v m f h g w k = (tt, (tt, (h, w)), k)
  operated_has q (pending.CompareNow o a) v m f h g w k = decided_has _ m w k
  operated_has q pending.Negated v m f h g w k = (truth_has P closed _, w, k)
  operated_has q (pending.BothRight e) v m f h g w k = one_has (truth v) _ _ (tt, (tt, (tt, w)), k) (truth_has P closed false, w, k)
  operated_has q (pending.EitherRight e) v m f h g w k = one_has (truth v) _ _ (truth_has P closed true, w, k) (tt, (tt, (tt, w)), k)
  operated_has q pending.Truth v m f h g w k = (truth_has P closed _, w, k)
  operated_has q (pending.Choose e i) v m f h g w k = (tt, (tt, w), k)
  operated_has q pending.Discard v m f h g w k = (closed.integers (pos 0), w, k)
  operated_has q (pending.MoveRight size side e) v m f h g w k = (tt, (tt, (h, w)), k)
  operated_has q (pending.MoveNow size side a) v m f h g w k = pointing_has _ m (elements_have m.memory size side a v g h) w k
  operated_has q (pending.DifferenceRight unit e) v m f h g w k = (tt, (tt, (h, w)), k)
  operated_has q (pending.DifferenceNow unit a) v m f h g w k = finished_has _ m w k
  operated_has q (pending.Store t l) v m f h g w k = kept_has t l v m h w k
  operated_has q (pending.UpdateRight t o e a l) v m f h g w k = (tt, (tt, ((g, h), w)), k)
  operated_has q (pending.UpdateNow t o a l old) v m f h g w k = updating_has t a l old _ m g.0 g.1 (new_value_has m.memory t o old v g.1) w k
  operated_has q (pending.Instead a) v m f h g w k = (g, w, k)
  operated_has q (pending.Allocate t) v m f h g w k = allocated_has _ _ m f (new_block_has q t (low_bits 64 (integer v))) w k
  operated_has q pending.Release v m f h g w k = released_has _ m (freed_has P closed m.memory v k.memory_has) w k

  accessed_has : (a : pending.Access) (l : Lvalue) (m : Configuration) → ToldHas P m.told → LvalueHas P l → Works m → Kept m → StateHas P (turns.accessed a l m).after
  accessed_has (pending.LoadAt t) l m u h w k = loaded_has t l m w k
  accessed_has pending.AddressOf (At p) m u h w k = (h, w, k)
  accessed_has pending.AddressOf (InRegister i) m u h w k = (u, (tt, w), k)
  accessed_has (pending.AssignRight t e) l m u h w k = (tt, (tt, (h, w)), k)
  accessed_has (pending.UpdateOld t o e a) l m u h w k = loaded_has t l (turns.pushed (pending.Operate (pending.UpdateRight t o e a l)) m) (h, w) k

  selected_has : (x : pending.Selection) (l : Lvalue) (m : Configuration) → ToldHas P m.told → LvalueHas P l → Works m → Kept m → StateHas P (turns.selected x l m)
  selected_has (pending.MemberAt o) l m u h w k = object_has l _ m u h w k
  selected_has (pending.ElementAt e size) l m u h w k = (tt, (tt, (h, w)), k)

  designating_has : (x : pending.Designation) (v : Value) (m : Configuration) → ToldHas P m.told → P v → DesignationHas P x → Works m → Kept m → StateHas P (turns.designating x v m)
  designating_has pending.Dereference v m u h g w k = (h, w, k)
  designating_has (pending.ElementNow l size) v m u h g w k = object_has l _ m u g w k

  concluded_has : (q : Core) (f : Function) (x : Stmt) (v : Value) (m : Configuration) → ((y : Variable) (o : ℕ) (t : CType) (e : Expr) → x ≡ st.Init y o t e → LvalueHas P (designated m.context.here.activation y o)) → P v → Works m → Kept m → StateHas P (turns.concluded x v m)
  concluded_has q f (st.Init x o t e) v m own h w k = (h, (own x o t e refl, (tt, w)), k)
  concluded_has q f (st.If' e b (more_of-Stmt a end_of-Stmt) c (more_of-Stmt u end_of-Stmt)) v m own h w k = (tt, (tt, w), k)
  concluded_has q f (st.While' e b (more_of-Stmt a end_of-Stmt)) v m own h w k = one_has (truth v) _ _ (tt, (tt, w), k) (tt, w, k)
  concluded_has q f (st.Do' b (more_of-Stmt a end_of-Stmt) e) v m own h w k = one_has (truth v) _ _ (tt, w, k) (tt, w, k)
  concluded_has q f (st.For' test step b (more_of-Stmt a end_of-Stmt)) v m own h w k = one_has (truth v) _ _ (tt, (tt, (tt, w)), k) (tt, w, k)
  concluded_has q f (st.Return e) v m own h w k = (h, w, k)
  concluded_has q f st.Empty v m own h w k = (tt, w, k)
  concluded_has q f (st.Eval e) v m own h w k = (tt, w, k)
  concluded_has q f (st.Block' b ss) v m own h w k = (tt, w, k)
  concluded_has q f st.Break v m own h w k = (tt, w, k)
  concluded_has q f st.Continue v m own h w k = (tt, w, k)
  concluded_has q f (st.Ghost g) v m own h w k = (tt, w, k)
  concluded_has q f (st.Assert y j r) v m own h w k = (tt, w, k)

  next_has : (ss : List Stmt) (l : Completion) (m : Configuration) → CompletionHas P l → Works m → Kept m → StateHas P (turns.on_next (turns.next_of ss (ready m)) l m)
  next_has [] Next m h w k = (tt, w, k)
  next_has (s ∷ ss) Next m h w k = (tt, (tt, (tt, w)), k)
  next_has ss Broken m h w k = (tt, w, k)
  next_has ss Continued m h w k = (tt, w, k)
  next_has ss (Returned v) m h w k = (h, w, k)

  turning_has : (x : Stmt) (m : Configuration) → Works m → Kept m → StateHas P (turns.turning x (turns.pushed (pending.Pass (pending.Again x)) (ready m)))
  turning_has (st.While' e b (more_of-Stmt a end_of-Stmt)) m w k = (tt, (tt, (tt, (tt, w))), k)
  turning_has (st.Do' b (more_of-Stmt a end_of-Stmt) e) m w k = (tt, (tt, (tt, (tt, w))), k)
  turning_has (st.For' None step b (more_of-Stmt a end_of-Stmt)) m w k = (tt, (tt, (tt, (tt, w))), k)
  turning_has (st.For' (Some e) step b (more_of-Stmt a end_of-Stmt)) m w k = (tt, (tt, (tt, (tt, w))), k)
  turning_has st.Empty m w k = (tt, (tt, (tt, w)), k)
  turning_has (st.Eval _) m w k = (tt, (tt, (tt, w)), k)
  turning_has (st.Init _ _ _ _) m w k = (tt, (tt, (tt, w)), k)
  turning_has (st.Block' _ _) m w k = (tt, (tt, (tt, w)), k)
  turning_has (st.If' _ _ _ _ _) m w k = (tt, (tt, (tt, w)), k)
  turning_has st.Break m w k = (tt, (tt, (tt, w)), k)
  turning_has st.Continue m w k = (tt, (tt, (tt, w)), k)
  turning_has (st.Return _) m w k = (tt, (tt, (tt, w)), k)
  turning_has (st.Ghost _) m w k = (tt, (tt, (tt, w)), k)
  turning_has (st.Assert _ _ _) m w k = (tt, (tt, (tt, w)), k)

  stepping_has : (step : Option Expr) (m : Configuration) → Works m → Kept m → StateHas P (turns.stepping step m)
  stepping_has None m w k = (tt, w, k)
  stepping_has (Some e) m w k = (tt, (tt, (tt, w)), k)

  ending_has : (x : Stmt) (m : Configuration) → Works m → Kept m → StateHas P (turns.ending x m)
  ending_has (st.Do' b (more_of-Stmt a end_of-Stmt) e) m w k = (tt, (tt, (tt, w)), k)
  ending_has (st.For' test step b (more_of-Stmt a end_of-Stmt)) m w k = stepping_has step m w k
  ending_has st.Empty m w k = (tt, w, k)
  ending_has (st.Eval e) m w k = (tt, w, k)
  ending_has (st.Init x o t e) m w k = (tt, w, k)
  ending_has (st.Block' b ss) m w k = (tt, w, k)
  ending_has (st.If' e b r c r') m w k = (tt, w, k)
  ending_has (st.While' e b r) m w k = (tt, w, k)
  ending_has st.Break m w k = (tt, w, k)
  ending_has st.Continue m w k = (tt, w, k)
  ending_has (st.Return e) m w k = (tt, w, k)
  ending_has (st.Ghost g) m w k = (tt, w, k)
  ending_has (st.Assert v j r) m w k = (tt, w, k)

  passed_has : (x : pending.Passing) (l : Completion) (m : Configuration) → CompletionHas P l → Works m → Kept m → StateHas P (turns.passed x l m).after
  passed_has (pending.Rest ss) l m h w k = next_has ss l m h w k
  passed_has (pending.Again x) Next m h w k = turning_has x m w k
  passed_has (pending.Again x) Continued m h w k = turning_has x m w k
  passed_has (pending.Again x) Broken m h w k = (tt, w, k)
  passed_has (pending.Again x) (Returned v) m h w k = (h, w, k)
  passed_has (pending.TurnEnd x) Next m h w k = ending_has x m w k
  passed_has (pending.TurnEnd x) Continued m h w k = ending_has x m w k
  passed_has (pending.TurnEnd x) Broken m h w k = (tt, w, k)
  passed_has (pending.TurnEnd x) (Returned v) m h w k = (h, w, k)

  -- ---- calls

  arguing_has : (g : ℕ) (es : List Expr) (n : ℕ) (m : Configuration) → Works m → Kept m → StateHas P (turns.arguing g es n (ready m)).after
  arguing_has g [] n m w k = (tt, (tt, w), k)
  arguing_has g (e ∷ es) n m w k = (tt, (tt, (tt, w)), k)

  argued_has : (g : ℕ) (es : List Expr) (n : ℕ) (v : Value) (m : Configuration) → P v → Works m → Kept m → StateHas P (turns.argued g es n v m)
  argued_has g es n v m h w k = (tt, (tt, w), record { arguments_have = (h, k.arguments_have); registers_have = k.registers_have; callers_have = k.callers_have; memory_has = k.memory_has })

  zero_has : (v : Option Value) → OptionHas P v → P (value_or_zero v)
  zero_has None h = closed.integers (pos 0)
  zero_has (Some v) h = h

  closed_has : (g : ℕ) (v : Option Value) (m : Configuration) → OptionHas P v → Works m → Kept m → StateHas P (turns.closed g v m).after
  closed_has g v m h w k = by m.context.callers k.callers_have
    where
      after : List pending.Caller → Configuration
      after cs = turns.giving (value_or_zero v) (record m { context = pending.back_to cs m.context; memory = Rattle.step_meaning.specs.Calls.without_frame m.memory; ghosts = Rattle.step_meaning.specs.Calls.without_frame m.ghosts })

      by : (cs : List pending.Caller) → AllByRecursion (λ c. RegistersHave P c.registers) cs → StateHas P (after cs)
      by [] h' = (zero_has v h, w, record { arguments_have = k.arguments_have; registers_have = k.registers_have; callers_have = k.callers_have; memory_has = tail_has P closed m.memory k.memory_has })
      by (c ∷ cs) h' = (zero_has v h, w, record { arguments_have = k.arguments_have; registers_have = h'.0; callers_have = h'.1; memory_has = tail_has P closed m.memory k.memory_has })

  returned_has : (g : ℕ) (t : CType) (v : Option Value) (m : Configuration) → ToldHas P m.told → OptionHas P v → Works m → Kept m → StateHas P (turns.returned g t v m).after
  returned_has g type.Void None m u h w k = closed_has g None m h w k
  returned_has g type.Void (Some v) m u h w k = (u, (tt, w), k)
  returned_has g (type.Int j) None m u h w k = (u, (tt, w), k)
  returned_has g (type.Int j) (Some v) m u h w k = closed_has g (Some v) m h w k
  returned_has g (type.Pointer' b j) None m u h w k = (u, (tt, w), k)
  returned_has g (type.Pointer' b j) (Some v) m u h w k = closed_has g (Some v) m h w k
  returned_has g (type.Array' b j n) None m u h w k = (u, (tt, w), k)
  returned_has g (type.Array' b j n) (Some v) m u h w k = closed_has g (Some v) m h w k
  returned_has g (type.Struct j) None m u h w k = (u, (tt, w), k)
  returned_has g (type.Struct j) (Some v) m u h w k = closed_has g (Some v) m h w k

  fallen_off_has : (g : ℕ) (b : Bool) (t : CType) (m : Configuration) → Works m → Kept m → StateHas P (turns.fallen_off g b t m).after
  fallen_off_has g true t m w k = closed_has g (Some (value.Int (pos 0))) m (closed.integers (pos 0)) w k
  fallen_off_has g false type.Void m w k = closed_has g None m tt w k
  fallen_off_has g false (type.Int j) m w k = (tt, (tt, w), k)
  fallen_off_has g false (type.Pointer' b j) m w k = (tt, (tt, w), k)
  fallen_off_has g false (type.Array' b j n) m w k = (tt, (tt, w), k)
  fallen_off_has g false (type.Struct j) m w k = (tt, (tt, w), k)

  given_back_has : (g : ℕ) (b : Bool) (t : CType) (l : Completion) (m : Configuration) → ToldHas P m.told → CompletionHas P l → Works m → Kept m → StateHas P (turns.given_back g b t l m).after
  given_back_has g b t (Returned v) m u h w k = returned_has g t v m u h w k
  given_back_has g b t Next m u h w k = fallen_off_has g b t m w k
  given_back_has g b t Broken m u h w k = (u, (tt, w), k)
  given_back_has g b t Continued m u h w k = (u, (tt, w), k)

  -- ---- the turn, for a typed machine

  module _ (q : Core) (h : Rattle.step_meaning.specs.WellFormed.IsWellFormed q) (f : Function) (fs : List Function) (activation : ℕ) (own : OwnHave q f activation) where
    abbrev pub InitHave : Stmt → Type 0
    InitHave x = (y : Variable) (o : ℕ) (t : CType) (e : Expr) → x ≡ st.Init y o t e → LvalueHas P (designated activation y o)

    -- the variable of an initialiser is the function's own
    pub inits : (takes : Completion → Type 0) (x : Stmt) (v : Value) → ConclusionTakes q f takes x v → InitHave x
    inits takes (st.Init z i u d) v c y o t e r =
        let same : z ≡ y = cc in
        own y o (subst (λ n. IsTrue (is_some (Rattle.step_meaning.specs.Settings.variable_type (Rattle.step_meaning.specs.Settings.code_setting q f) n))) same c.3)
    inits takes st.Empty v c y o t e r = cc
    inits takes (st.Eval d) v c y o t e r = cc
    inits takes (st.Block' b ss) v c y o t e r = cc
    inits takes (st.If' d b n c' n') v c y o t e r = cc
    inits takes (st.While' d b n) v c y o t e r = cc
    inits takes (st.Do' b n d) v c y o t e r = cc
    inits takes (st.For' test step b n) v c y o t e r = cc
    inits takes st.Break v c y o t e r = cc
    inits takes st.Continue v c y o t e r = cc
    inits takes (st.Return d) v c y o t e r = cc
    inits takes (st.Ghost g) v c y o t e r = cc
    inits takes (st.Assert w k p) v c y o t e r = cc

    pub turn_values : (p : pending.Pending) (t : pending.Told) → IsInner q h f fs p → (m : Configuration) → m.context.here.activation ≡ activation → P (block_pointer m.allocated) → ((x : Stmt) → p ≡ pending.Conclude x → InitHave x) → Takes q (f ∷ fs) m.context.arguments (p ∷ m.work) t → ToldHas P t → PartHas P p → Works m → Kept m → StateHas P (turn_at q p t (telling t m)).after
    turn_values (pending.Evaluate x) (pending.Gave v) i m at fresh init c u a w k = absurd c
    turn_values (pending.Evaluate x) (pending.Found l) i m at fresh init c u a w k = absurd c
    turn_values (pending.Evaluate x) (pending.Left Next) i m at fresh init c u a w k = evaluated_has x m w k
    turn_values (pending.Evaluate x) (pending.Left Broken) i m at fresh init c u a w k = absurd c
    turn_values (pending.Evaluate x) (pending.Left Continued) i m at fresh init c u a w k = absurd c
    turn_values (pending.Evaluate x) (pending.Left (Returned v)) i m at fresh init c u a w k = absurd c
    turn_values (pending.Locate p) (pending.Gave v) i m at fresh init c u a w k = absurd c
    turn_values (pending.Locate p) (pending.Found l) i m at fresh init c u a w k = absurd c
    turn_values (pending.Locate p) (pending.Left Next) i m at fresh init c u a w k = located_has q f p m (subst (OwnHave q f) (sym at) own) c.0 w k
    turn_values (pending.Locate p) (pending.Left Broken) i m at fresh init c u a w k = absurd c
    turn_values (pending.Locate p) (pending.Left Continued) i m at fresh init c u a w k = absurd c
    turn_values (pending.Locate p) (pending.Left (Returned v)) i m at fresh init c u a w k = absurd c
    turn_values (pending.Execute x) (pending.Gave v) i m at fresh init c u a w k = absurd c
    turn_values (pending.Execute x) (pending.Found l) i m at fresh init c u a w k = absurd c
    turn_values (pending.Execute x) (pending.Left Next) i m at fresh init c u a w k = executed_has x m w k
    turn_values (pending.Execute x) (pending.Left Broken) i m at fresh init c u a w k = absurd c
    turn_values (pending.Execute x) (pending.Left Continued) i m at fresh init c u a w k = absurd c
    turn_values (pending.Execute x) (pending.Left (Returned v)) i m at fresh init c u a w k = absurd c
    turn_values (pending.Operate o) (pending.Gave v) i m at fresh init c u a w k = operated_has q o v (telling (pending.Gave v) m) fresh u a w k
    turn_values (pending.Operate o) (pending.Found l) i m at fresh init c u a w k = absurd c
    turn_values (pending.Operate o) (pending.Left Next) i m at fresh init c u a w k = absurd c
    turn_values (pending.Operate o) (pending.Left Broken) i m at fresh init c u a w k = absurd c
    turn_values (pending.Operate o) (pending.Left Continued) i m at fresh init c u a w k = absurd c
    turn_values (pending.Operate o) (pending.Left (Returned v)) i m at fresh init c u a w k = absurd c
    turn_values (pending.Accessed a') (pending.Gave v) i m at fresh init c u a w k = absurd c
    turn_values (pending.Accessed a') (pending.Found l) i m at fresh init c u a w k = accessed_has a' l (telling (pending.Found l) m) u u w k
    turn_values (pending.Accessed a') (pending.Left Next) i m at fresh init c u a w k = absurd c
    turn_values (pending.Accessed a') (pending.Left Broken) i m at fresh init c u a w k = absurd c
    turn_values (pending.Accessed a') (pending.Left Continued) i m at fresh init c u a w k = absurd c
    turn_values (pending.Accessed a') (pending.Left (Returned v)) i m at fresh init c u a w k = absurd c
    turn_values (pending.Select x) (pending.Gave v) i m at fresh init c u a w k = absurd c
    turn_values (pending.Select x) (pending.Found l) i m at fresh init c u a w k = selected_has x l (ready m) tt u w k
    turn_values (pending.Select x) (pending.Left Next) i m at fresh init c u a w k = absurd c
    turn_values (pending.Select x) (pending.Left Broken) i m at fresh init c u a w k = absurd c
    turn_values (pending.Select x) (pending.Left Continued) i m at fresh init c u a w k = absurd c
    turn_values (pending.Select x) (pending.Left (Returned v)) i m at fresh init c u a w k = absurd c
    turn_values (pending.Designate x) (pending.Gave v) i m at fresh init c u a w k = designating_has x v (ready m) tt u a w k
    turn_values (pending.Designate x) (pending.Found l) i m at fresh init c u a w k = absurd c
    turn_values (pending.Designate x) (pending.Left Next) i m at fresh init c u a w k = absurd c
    turn_values (pending.Designate x) (pending.Left Broken) i m at fresh init c u a w k = absurd c
    turn_values (pending.Designate x) (pending.Left Continued) i m at fresh init c u a w k = absurd c
    turn_values (pending.Designate x) (pending.Left (Returned v)) i m at fresh init c u a w k = absurd c
    turn_values (pending.Conclude x) (pending.Gave v) i m at fresh init c u a w k = concluded_has q f x v (telling (pending.Gave v) m) (subst (λ n. (y : Variable) (o : ℕ) (t : CType) (e : Expr) → x ≡ st.Init y o t e → LvalueHas P (designated n y o)) (sym at) (init x refl)) u w k
    turn_values (pending.Conclude x) (pending.Found l) i m at fresh init c u a w k = absurd c
    turn_values (pending.Conclude x) (pending.Left Next) i m at fresh init c u a w k = absurd c
    turn_values (pending.Conclude x) (pending.Left Broken) i m at fresh init c u a w k = absurd c
    turn_values (pending.Conclude x) (pending.Left Continued) i m at fresh init c u a w k = absurd c
    turn_values (pending.Conclude x) (pending.Left (Returned v)) i m at fresh init c u a w k = absurd c
    turn_values pending.Ignore (pending.Gave v) i m at fresh init c u a w k = (tt, w, k)
    turn_values pending.Ignore (pending.Found l) i m at fresh init c u a w k = absurd c
    turn_values pending.Ignore (pending.Left Next) i m at fresh init c u a w k = absurd c
    turn_values pending.Ignore (pending.Left Broken) i m at fresh init c u a w k = absurd c
    turn_values pending.Ignore (pending.Left Continued) i m at fresh init c u a w k = absurd c
    turn_values pending.Ignore (pending.Left (Returned v)) i m at fresh init c u a w k = absurd c
    turn_values (pending.Pass x) (pending.Gave v) i m at fresh init c u a w k = absurd c
    turn_values (pending.Pass x) (pending.Found l) i m at fresh init c u a w k = absurd c
    turn_values (pending.Pass x) (pending.Left Next) i m at fresh init c u a w k = passed_has x Next (telling (pending.Left Next) m) u w k
    turn_values (pending.Pass x) (pending.Left Broken) i m at fresh init c u a w k = passed_has x Broken (telling (pending.Left Broken) m) u w k
    turn_values (pending.Pass x) (pending.Left Continued) i m at fresh init c u a w k = passed_has x Continued (telling (pending.Left Continued) m) u w k
    turn_values (pending.Pass x) (pending.Left (Returned v)) i m at fresh init c u a w k = passed_has x (Returned v) (telling (pending.Left (Returned v)) m) u w k
    turn_values pending.Input (pending.Gave v) i m at fresh init c u a w k = absurd i
    turn_values pending.Input (pending.Found l) i m at fresh init c u a w k = absurd i
    turn_values pending.Input (pending.Left Next) i m at fresh init c u a w k = absurd i
    turn_values pending.Input (pending.Left Broken) i m at fresh init c u a w k = absurd i
    turn_values pending.Input (pending.Left Continued) i m at fresh init c u a w k = absurd i
    turn_values pending.Input (pending.Left (Returned v)) i m at fresh init c u a w k = absurd i
    turn_values pending.Output (pending.Gave v) i m at fresh init c u a w k = (closed.integers _, w, k)
    turn_values pending.Output (pending.Found l) i m at fresh init c u a w k = absurd c
    turn_values pending.Output (pending.Left Next) i m at fresh init c u a w k = absurd c
    turn_values pending.Output (pending.Left Broken) i m at fresh init c u a w k = absurd c
    turn_values pending.Output (pending.Left Continued) i m at fresh init c u a w k = absurd c
    turn_values pending.Output (pending.Left (Returned v)) i m at fresh init c u a w k = absurd c
    turn_values (pending.Arguments g es n) (pending.Gave v) i m at fresh init c u a w k = absurd c
    turn_values (pending.Arguments g es n) (pending.Found l) i m at fresh init c u a w k = absurd c
    turn_values (pending.Arguments g es n) (pending.Left Next) i m at fresh init c u a w k = arguing_has g es n m w k
    turn_values (pending.Arguments g es n) (pending.Left Broken) i m at fresh init c u a w k = absurd c
    turn_values (pending.Arguments g es n) (pending.Left Continued) i m at fresh init c u a w k = absurd c
    turn_values (pending.Arguments g es n) (pending.Left (Returned v)) i m at fresh init c u a w k = absurd c
    turn_values (pending.Argument g es n) (pending.Gave v) i m at fresh init c u a w k = argued_has g es n v (telling (pending.Gave v) m) u w k
    turn_values (pending.Argument g es n) (pending.Found l) i m at fresh init c u a w k = absurd c
    turn_values (pending.Argument g es n) (pending.Left Next) i m at fresh init c u a w k = absurd c
    turn_values (pending.Argument g es n) (pending.Left Broken) i m at fresh init c u a w k = absurd c
    turn_values (pending.Argument g es n) (pending.Left Continued) i m at fresh init c u a w k = absurd c
    turn_values (pending.Argument g es n) (pending.Left (Returned v)) i m at fresh init c u a w k = absurd c
    turn_values (pending.Enter g n) (pending.Gave v) i m at fresh init c u a w k = absurd i
    turn_values (pending.Enter g n) (pending.Found l) i m at fresh init c u a w k = absurd i
    turn_values (pending.Enter g n) (pending.Left Next) i m at fresh init c u a w k = absurd i
    turn_values (pending.Enter g n) (pending.Left Broken) i m at fresh init c u a w k = absurd i
    turn_values (pending.Enter g n) (pending.Left Continued) i m at fresh init c u a w k = absurd i
    turn_values (pending.Enter g n) (pending.Left (Returned v)) i m at fresh init c u a w k = absurd i
    turn_values (pending.Leave g t) (pending.Gave v) i m at fresh init c u a w k = absurd c
    turn_values (pending.Leave g t) (pending.Found l) i m at fresh init c u a w k = absurd c
    turn_values (pending.Leave g t) (pending.Left Next) i m at fresh init c u a w k = given_back_has g (g == q.start) t Next (telling (pending.Left Next) m) u u w k
    turn_values (pending.Leave g t) (pending.Left Broken) i m at fresh init c u a w k = given_back_has g (g == q.start) t Broken (telling (pending.Left Broken) m) u u w k
    turn_values (pending.Leave g t) (pending.Left Continued) i m at fresh init c u a w k = given_back_has g (g == q.start) t Continued (telling (pending.Left Continued) m) u u w k
    turn_values (pending.Leave g t) (pending.Left (Returned v)) i m at fresh init c u a w k = given_back_has g (g == q.start) t (Returned v) (telling (pending.Left (Returned v)) m) u u w k
    turn_values (pending.Halt x) (pending.Gave v) i m at fresh init c u a w k = absurd i
    turn_values (pending.Halt x) (pending.Found l) i m at fresh init c u a w k = absurd i
    turn_values (pending.Halt x) (pending.Left Next) i m at fresh init c u a w k = absurd i
    turn_values (pending.Halt x) (pending.Left Broken) i m at fresh init c u a w k = absurd i
    turn_values (pending.Halt x) (pending.Left Continued) i m at fresh init c u a w k = absurd i
    turn_values (pending.Halt x) (pending.Left (Returned v)) i m at fresh init c u a w k = absurd i
    turn_values (pending.Over x) (pending.Gave v) i m at fresh init c u a w k = absurd c
    turn_values (pending.Over x) (pending.Found l) i m at fresh init c u a w k = absurd c
    turn_values (pending.Over x) (pending.Left Next) i m at fresh init c u a w k = absurd c
    turn_values (pending.Over x) (pending.Left Broken) i m at fresh init c u a w k = absurd c
    turn_values (pending.Over x) (pending.Left Continued) i m at fresh init c u a w k = absurd c
    turn_values (pending.Over x) (pending.Left (Returned v)) i m at fresh init c u a w k = absurd c
