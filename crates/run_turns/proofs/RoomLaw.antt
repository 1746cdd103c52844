-- A turn leaves what is on the stack with the room that it needs.
use Rattle.std.proofs.Common.{◌≡◌, ℕ, suc, ◌+◌, ◌*◌, ◌≤◌, max, Bool, true, false, cond, List, [], ◌∷◌, length, drop, Option, Some, None, Result, Ok, Err, refl, sym, ap, subst, arith}
use Rattle.std.specs.Prelude.{ℤ, pos}
use Rattle.step_meaning.specs.declared.value.CType.{CType}
use Rattle.step_meaning.specs.declared.value.CType.TheVariants as type
use Rattle.step_meaning.specs.declared.expr.Answer.{Answer}
use Rattle.step_meaning.specs.declared.program.Core.{Core}
use Rattle.step_meaning.specs.Memory.{Memory, Block}
use Rattle.step_meaning.specs.declared.value.Value.{Value}
use Rattle.step_meaning.specs.declared.value.Value.TheVariants as value
use Rattle.step_meaning.specs.declared.value.Cell.{Cell}
use Rattle.step_meaning.specs.declared.value.Cell.TheVariants.{Nothing, Holds}
use Rattle.step_meaning.specs.declared.value.RunFault.{RunFault}
use Rattle.step_meaning.specs.declared.expr.Expr.{Expr, Row_of-Expr, end_of-Expr, more_of-Expr, items-the_row-Expr}
use Rattle.step_meaning.specs.declared.expr.Expr.TheVariants.{Literal, Null, Load, Address, Convert', Unary', Binary', Compare', Move', Difference', Not', Both', Either', Choose', Assign', Update', Invoke', GetChar, PutChar', Malloc', Free', Discard', Own, Deref', Member', Index'}
use Rattle.step_meaning.specs.declared.expr.Place_.{Place_, end_of-Place_, more_of-Place_}
use Rattle.step_meaning.specs.declared.stmt.Stmt.{Stmt, Row_of-Stmt, end_of-Stmt, more_of-Stmt, items-the_row-Stmt}
use Rattle.step_meaning.specs.declared.stmt.Stmt.TheVariants as st
use Rattle.step_meaning.specs.Names.{truth}
use Rattle.step_meaning.specs.State.{Lvalue, InRegister, At}
use Rattle.step_meaning.specs.Statements.{Completion, Next, Broken, Continued, Returned}
use Rattle.run_turns.specs.Pending as pending
use Rattle.run_turns.specs.Turns as turns
use Rattle.run_turns.specs.Turns.{Configuration}
use Rattle.run_turns.specs.Room.{depth, depth_place, depth_row, depth_all, height, height_row, height_all, depth_if_any, need, need_of_end, need_of_passing, open_ends, arguments_below, Roomy}
use Rattle.std.proofs.lemmas.List.{length-drop}
use Rattle.step_meaning.specs.declared.program.Function.{Function}
use Rattle.run_turns.proofs.Steps.{IsLoop}

mutual
  deep : (e : Expr) → 3 ≤ depth e
  deep (Literal k z) = omega arith
  deep Null = omega arith
  deep (Load p t) = omega (arith, deep_place p)
  deep (Address p t) = omega (arith, deep_place p)
  deep (Convert' k b (more_of-Expr e end_of-Expr)) = omega (arith, deep e)
  deep (Unary' o k b (more_of-Expr e end_of-Expr)) = omega (arith, deep e)
  deep (Binary' o k b (more_of-Expr e end_of-Expr) c (more_of-Expr f end_of-Expr)) = omega (arith, deep e)
  deep (Compare' o b (more_of-Expr e end_of-Expr) c (more_of-Expr f end_of-Expr)) = omega (arith, deep e)
  deep (Move' b (more_of-Expr e end_of-Expr) c (more_of-Expr f end_of-Expr) size side) = omega (arith, deep e)
  deep (Difference' b (more_of-Expr e end_of-Expr) c (more_of-Expr f end_of-Expr) unit) = omega (arith, deep e)
  deep (Not' b (more_of-Expr e end_of-Expr)) = omega (arith, deep e)
  deep (Both' b (more_of-Expr e end_of-Expr) c (more_of-Expr f end_of-Expr)) = omega (arith, deep e)
  deep (Either' b (more_of-Expr e end_of-Expr) c (more_of-Expr f end_of-Expr)) = omega (arith, deep e)
  deep (Choose' b (more_of-Expr e end_of-Expr) c (more_of-Expr f end_of-Expr) d (more_of-Expr g end_of-Expr)) = omega (arith, deep e)
  deep (Assign' p t b (more_of-Expr e end_of-Expr)) = omega (arith, deep e)
  deep (Update' p t o b (more_of-Expr e end_of-Expr) w) = omega (arith, deep e)
  deep (Invoke' f b es) = deep_row es
  deep GetChar = omega arith
  deep (PutChar' b (more_of-Expr e end_of-Expr)) = omega (arith, deep e)
  deep (Malloc' b (more_of-Expr e end_of-Expr) t) = omega (arith, deep e)
  deep (Free' b (more_of-Expr e end_of-Expr)) = omega (arith, deep e)
  deep (Discard' b (more_of-Expr e end_of-Expr)) = omega (arith, deep e)

  deep_place : (p : Place_) → 3 ≤ depth_place p
  deep_place (Own v) = omega arith
  deep_place (Deref' b (more_of-Expr e end_of-Expr)) = omega (arith, deep e)
  deep_place (Member' b (more_of-Place_ p end_of-Place_) o) = omega (arith, deep_place p)
  deep_place (Index' b (more_of-Place_ p end_of-Place_) c (more_of-Expr e end_of-Expr) size) = omega (arith, deep e)

  deep_row : {n : _} (r : Row_of-Expr n) → 3 ≤ depth_row r
  deep_row end_of-Expr = omega arith
  deep_row (more_of-Expr e more) = omega (arith, deep_row more)

deep_if_any : (e : Option Expr) → 3 ≤ depth_if_any e
deep_if_any None = omega arith
deep_if_any (Some e) = omega (arith, deep e)

deep_all : (es : List Expr) → 3 ≤ depth_all es
deep_all [] = omega arith
deep_all (e ∷ es) = omega (arith, deep e)

row_depth : (n : _) (r : Row_of-Expr n) → depth_all (items-the_row-Expr n r) ≡ depth_row r
row_depth n end_of-Expr = refl
row_depth n (more_of-Expr e r) = ap (λ d. max (depth e + 1) (d + 1)) (row_depth _ r)

row_height : (n : _) (r : Row_of-Stmt n) → height_all (items-the_row-Stmt n r) ≡ height_row r
row_height n end_of-Stmt = refl
row_height n (more_of-Stmt s r) = ap (λ d. max (height s + 1) d) (row_height _ r)

module _ (room : ℕ) where
  -- the stack of a machine has the room that it needs
  abbrev pub HasRoom : Configuration → Type 0
  HasRoom m = Roomy room m.work m.context.arguments

  -- the machine's state before a turn that began with a part of this need on top, with these arguments below its own
  abbrev pub FitsAbove : List Value → ℕ → Configuration → Type 0
  FitsAbove vs n m = (length m.work + length m.context.arguments + n ≤ room * suc (open_ends m.work)) × Roomy room m.work vs

  abbrev pub Fits : ℕ → Configuration → Type 0
  Fits n m = FitsAbove m.context.arguments n m

  pub evaluated_fits : (e : Expr) (m : Configuration) → Fits (depth e) m → HasRoom (turns.evaluated e m)
  evaluated_fits (Literal k z) m h = h.1
  evaluated_fits Null m h = h.1
  evaluated_fits (Load p t) m h = (omega (arith, h.0), (omega (arith, h.0, deep_place p), h.1))
  evaluated_fits (Address p t) m h = (omega (arith, h.0), (omega (arith, h.0, deep_place p), h.1))
  evaluated_fits (Convert' k b (more_of-Expr e end_of-Expr)) m h = (omega (arith, h.0), (omega (arith, h.0, deep e), h.1))
  evaluated_fits (Unary' o k b (more_of-Expr e end_of-Expr)) m h = (omega (arith, h.0), (omega (arith, h.0, deep e), h.1))
  evaluated_fits (Binary' o k b (more_of-Expr e end_of-Expr) c (more_of-Expr f end_of-Expr)) m h = (omega (arith, h.0), (omega (arith, h.0), h.1))
  evaluated_fits (Compare' o b (more_of-Expr e end_of-Expr) c (more_of-Expr f end_of-Expr)) m h = (omega (arith, h.0), (omega (arith, h.0), h.1))
  evaluated_fits (Move' b (more_of-Expr e end_of-Expr) c (more_of-Expr f end_of-Expr) size side) m h = (omega (arith, h.0), (omega (arith, h.0), h.1))
  evaluated_fits (Difference' b (more_of-Expr e end_of-Expr) c (more_of-Expr f end_of-Expr) unit) m h = (omega (arith, h.0), (omega (arith, h.0), h.1))
  evaluated_fits (Not' b (more_of-Expr e end_of-Expr)) m h = (omega (arith, h.0), (omega (arith, h.0, deep e), h.1))
  evaluated_fits (Both' b (more_of-Expr e end_of-Expr) c (more_of-Expr f end_of-Expr)) m h = (omega (arith, h.0), (omega (arith, h.0), h.1))
  evaluated_fits (Either' b (more_of-Expr e end_of-Expr) c (more_of-Expr f end_of-Expr)) m h = (omega (arith, h.0), (omega (arith, h.0), h.1))
  evaluated_fits (Choose' b (more_of-Expr e end_of-Expr) c (more_of-Expr f end_of-Expr) d (more_of-Expr g end_of-Expr)) m h = (omega (arith, h.0), (omega (arith, h.0), h.1))
  evaluated_fits (Assign' p t b (more_of-Expr e end_of-Expr)) m h = (omega (arith, h.0), (omega (arith, h.0), h.1))
  evaluated_fits (Update' p t o b (more_of-Expr e end_of-Expr) w) m h = (omega (arith, h.0), (omega (arith, h.0), h.1))
  evaluated_fits (Invoke' f b es) m h = (omega (arith, h.0, row_depth _ es), h.1)
  evaluated_fits GetChar m h = (omega (arith, h.0), h.1)
  evaluated_fits (PutChar' b (more_of-Expr e end_of-Expr)) m h = (omega (arith, h.0), (omega (arith, h.0, deep e), h.1))
  evaluated_fits (Malloc' b (more_of-Expr e end_of-Expr) t) m h = (omega (arith, h.0), (omega (arith, h.0, deep e), h.1))
  evaluated_fits (Free' b (more_of-Expr e end_of-Expr)) m h = (omega (arith, h.0), (omega (arith, h.0, deep e), h.1))
  evaluated_fits (Discard' b (more_of-Expr e end_of-Expr)) m h = (omega (arith, h.0), (omega (arith, h.0, deep e), h.1))

  halted_fits : (f : RunFault) (m : Configuration) → Fits 3 m → HasRoom (turns.halted f m)
  halted_fits f m h = (h.0, h.1)

  finished_fits : (r : Result ℤ RunFault) (m : Configuration) → Fits 3 m → HasRoom (turns.finished r m)
  finished_fits (Ok z) m h = h.1
  finished_fits (Err f) m h = (h.0, h.1)

  decided_fits : (r : Result Bool RunFault) (m : Configuration) → Fits 3 m → HasRoom (turns.decided r m)
  decided_fits (Ok z) m h = h.1
  decided_fits (Err f) m h = (h.0, h.1)

  both_fit : (b : Bool) (m n : Configuration) → HasRoom m → HasRoom n → HasRoom (cond b m n)
  both_fit true m n h g = h
  both_fit false m n h g = g

  chosen_fits : (b : Bool) (f g : Expr) (m : Configuration) → Fits (max (depth f) (depth g)) m → HasRoom (turns.pushed (pending.Evaluate (cond b f g)) (turns.ready m))
  chosen_fits true f g m h = (omega (arith, h.0), h.1)
  chosen_fits false f g m h = (omega (arith, h.0), h.1)

  holding_fits : (c : Option Cell) (m : Configuration) → Fits 3 m → HasRoom (turns.holding c m)
  holding_fits None m h = (h.0, h.1)
  holding_fits (Some Nothing) m h = (h.0, h.1)
  holding_fits (Some (Holds v)) m h = h.1

  written_fits : (p v : Value) (c : Option Cell) (m : Configuration) → Fits 3 m → HasRoom (turns.written p v c m)
  written_fits p v None m h = (h.0, h.1)
  written_fits p v (Some c) m h = h.1

  written_register_fits : (i : ℕ) (v : Value) (c : Option Cell) (m : Configuration) → Fits 3 m → HasRoom (turns.written_register i v c m)
  written_register_fits i v None m h = (h.0, h.1)
  written_register_fits i v (Some c) m h = h.1

  kept_fits : (t : CType) (l : Lvalue) (v : Value) (m : Configuration) → Fits 3 m → HasRoom (turns.kept t l v m).after
  kept_fits t (InRegister i) v m h = written_register_fits i v _ m h
  kept_fits t (At p) v m h = written_fits p v _ m h

  pointing_fits : (r : Result Value RunFault) (m : Configuration) → Fits 3 m → HasRoom (turns.pointing r m)
  pointing_fits (Ok p) m h = h.1
  pointing_fits (Err f) m h = (h.0, h.1)

  designated_fits : (r : Result Value RunFault) (m : Configuration) → Fits 3 m → HasRoom (turns.designated_by r m)
  designated_fits (Ok p) m h = h.1
  designated_fits (Err f) m h = (h.0, h.1)

  object_fits : (l : Lvalue) (by : ℤ) (m : Configuration) → Fits 3 m → HasRoom (turns.object_after l by m)
  object_fits (InRegister i) by m h = (h.0, h.1)
  object_fits (At p) by m h = designated_fits _ m h

  updating_fits : (t : CType) (w : Answer) (l : Lvalue) (old : Value) (r : Result Value RunFault) (m : Configuration) → Fits 4 m → HasRoom (turns.updating t w l old r m)
  updating_fits t w l old (Ok v) m h = (omega (arith, h.0), (omega (arith, h.0), h.1))
  updating_fits t w l old (Err f) m h = (omega (arith, h.0), h.1)

  allocated_fits : (count : ℕ) (b : Option Block) (m : Configuration) → Fits 3 m → HasRoom (turns.allocated_block count b m).after
  allocated_fits count None m h = h.1
  allocated_fits count (Some b) m h = h.1

  released_fits : (o : Option Memory) (m : Configuration) → Fits 3 m → HasRoom (turns.released o m)
  released_fits None m h = (h.0, h.1)
  released_fits (Some memory) m h = h.1

  loaded_fits : (t : CType) (l : Lvalue) (m : Configuration) → Fits 3 m → HasRoom (turns.loaded t l m).after
  loaded_fits t (InRegister i) m h = holding_fits _ m h
  loaded_fits t (At p) m h = holding_fits _ m h

  pub located_fits : (p : Place_) (m : Configuration) → Fits (depth_place p) m → HasRoom (turns.located p m)
  located_fits (Own v) m h = h.1
  located_fits (Deref' b (more_of-Expr e end_of-Expr)) m h = (omega (arith, h.0), (omega (arith, h.0, deep e), h.1))
  located_fits (Member' b (more_of-Place_ p end_of-Place_) o) m h = (omega (arith, h.0), (omega (arith, h.0, deep_place p), h.1))
  located_fits (Index' b (more_of-Place_ p end_of-Place_) c (more_of-Expr e end_of-Expr) size) m h = (omega (arith, h.0), (omega (arith, h.0), h.1))

  -- ---- parts that wait for a value or an lvalue

  pub operated_fits : (q : Core) (o : pending.Operand) (v : Value) (m : Configuration) → Fits (need (pending.Operate o)) m → HasRoom (turns.operated q o v m).after
  operated_fits q (pending.Convert j) v m h = h.1
  operated_fits q (pending.Unary o j) v m h = finished_fits _ m h
  operated_fits q (pending.BinaryRight o j f) v m h = (omega (arith, h.0), (omega (arith, h.0, deep f), h.1))
  operated_fits q (pending.BinaryNow o j w) v m h = finished_fits _ m h
  operated_fits q (pending.CompareRight o f) v m h = (omega (arith, h.0), (omega (arith, h.0, deep f), h.1))
  operated_fits q (pending.CompareNow o w) v m h = decided_fits _ m h
  operated_fits q pending.Negated v m h = h.1
  operated_fits q (pending.BothRight f) v m h = both_fit (truth v) _ _ (omega (arith, h.0), (omega (arith, h.0, deep f), h.1)) h.1
  operated_fits q (pending.EitherRight f) v m h = both_fit (truth v) _ _ h.1 (omega (arith, h.0), (omega (arith, h.0, deep f), h.1))
  operated_fits q pending.Truth v m h = h.1
  operated_fits q (pending.Choose f g) v m h = chosen_fits (truth v) f g m h
  operated_fits q pending.Discard v m h = h.1
  operated_fits q (pending.MoveRight size side f) v m h = (omega (arith, h.0), (omega (arith, h.0, deep f), h.1))
  operated_fits q (pending.MoveNow size side w) v m h = pointing_fits _ m h
  operated_fits q (pending.DifferenceRight unit f) v m h = (omega (arith, h.0), (omega (arith, h.0, deep f), h.1))
  operated_fits q (pending.DifferenceNow unit w) v m h = finished_fits _ m h
  operated_fits q (pending.Store t l) v m h = kept_fits t l v m h
  operated_fits q (pending.UpdateRight t o e w l) v m h = (omega (arith, h.0), (omega (arith, h.0, deep e), h.1))
  operated_fits q (pending.UpdateNow t o w l old) v m h = updating_fits t w l old _ m h
  operated_fits q (pending.Instead w) v m h = h.1
  operated_fits q (pending.Allocate t) v m h = allocated_fits _ _ m h
  operated_fits q pending.Release v m h = released_fits _ m h

  pub accessed_fits : (a : pending.Access) (l : Lvalue) (m : Configuration) → Fits (need (pending.Accessed a)) m → HasRoom (turns.accessed a l m).after
  accessed_fits (pending.LoadAt t) l m h = loaded_fits t l m h
  accessed_fits pending.AddressOf (At p) m h = h.1
  accessed_fits pending.AddressOf (InRegister i) m h = (h.0, h.1)
  accessed_fits (pending.AssignRight t e) l m h = (omega (arith, h.0), (omega (arith, h.0, deep e), h.1))
  accessed_fits (pending.UpdateOld t o e w) l m h = loaded_fits t l (turns.pushed (pending.Operate (pending.UpdateRight t o e w l)) m) (omega (arith, h.0, deep e), (omega (arith, h.0), h.1))

  pub selected_fits : (x : pending.Selection) (l : Lvalue) (m : Configuration) → Fits (need (pending.Select x)) m → HasRoom (turns.selected x l m)
  selected_fits (pending.MemberAt o) l m h = object_fits l _ m h
  selected_fits (pending.ElementAt e size) l m h = (omega (arith, h.0), (omega (arith, h.0, deep e), h.1))

  pub designating_fits : (x : pending.Designation) (v : Value) (m : Configuration) → Fits 3 m → HasRoom (turns.designating x v m)
  designating_fits pending.Dereference v m h = h.1
  designating_fits (pending.ElementNow l size) v m h = object_fits l _ m h

  -- ---- statements

  answering_fits : (e : Option Expr) (m : Configuration) → Fits (depth_if_any e) m → HasRoom (turns.answering e m)
  answering_fits None m h = h.1
  answering_fits (Some e) m h = (omega (arith, h.0), (omega (arith, h.0, deep e), h.1))

  pub executed_fits : (s : Stmt) (m : Configuration) → Fits (height s) m → HasRoom (turns.executed s m)
  executed_fits st.Empty m h = h.1
  executed_fits (st.Eval e) m h = (omega (arith, h.0), (omega (arith, h.0, deep e), h.1))
  executed_fits (st.Init x o t e) m h = (omega (arith, h.0), (omega (arith, h.0, deep e), h.1))
  executed_fits (st.Block' b ss) m h = (omega (arith, h.0, row_height _ ss), h.1)
  executed_fits (st.If' e b (more_of-Stmt s end_of-Stmt) c (more_of-Stmt u end_of-Stmt)) m h = (omega (arith, h.0), (omega (arith, h.0), h.1))
  executed_fits (st.While' e b (more_of-Stmt s end_of-Stmt)) m h = (h.0, h.1)
  executed_fits (st.Do' b (more_of-Stmt s end_of-Stmt) e) m h = (h.0, h.1)
  executed_fits (st.For' test step b (more_of-Stmt s end_of-Stmt)) m h = (h.0, h.1)
  executed_fits st.Break m h = h.1
  executed_fits st.Continue m h = h.1
  executed_fits (st.Return e) m h = answering_fits e m h
  executed_fits (st.Ghost g) m h = (h.0, h.1)
  executed_fits (st.Assert v k r) m h = (h.0, h.1)

  branched_fits : (b : Bool) (s u : Stmt) (m : Configuration) → Fits (max (height s) (height u)) m → HasRoom (turns.pushed (pending.Execute (cond b s u)) m)
  branched_fits true s u m h = (omega (arith, h.0), h.1)
  branched_fits false s u m h = (omega (arith, h.0), h.1)

  pub concluded_fits : (s : Stmt) (v : Value) (m : Configuration) → Fits (need (pending.Conclude s)) m → HasRoom (turns.concluded s v m)
  concluded_fits (st.Init x o t e) v m h = (omega (arith, h.0), (omega (arith, h.0), h.1))
  concluded_fits (st.If' e b (more_of-Stmt s end_of-Stmt) c (more_of-Stmt u end_of-Stmt)) v m h = branched_fits (truth v) s u (turns.ready m) h
  concluded_fits (st.While' e b (more_of-Stmt s end_of-Stmt)) v m h = both_fit (truth v) _ _ (omega (arith, h.0), h.1) h.1
  concluded_fits (st.Do' b (more_of-Stmt s end_of-Stmt) e) v m h = both_fit (truth v) _ _ h.1 h.1
  concluded_fits (st.For' test step b (more_of-Stmt s end_of-Stmt)) v m h = both_fit (truth v) _ _ (omega (arith, h.0), (omega (arith, h.0), h.1)) h.1
  concluded_fits (st.Return e) v m h = h.1
  concluded_fits st.Empty v m h = h.1
  concluded_fits (st.Eval e) v m h = h.1
  concluded_fits (st.Block' b ss) v m h = h.1
  concluded_fits st.Break v m h = h.1
  concluded_fits st.Continue v m h = h.1
  concluded_fits (st.Ghost g) v m h = h.1
  concluded_fits (st.Assert w k r) v m h = h.1

  next_fits : (ss : List Stmt) (m : Configuration) → Fits (height_all ss) m → HasRoom (turns.next_of ss m)
  next_fits [] m h = h.1
  next_fits (s ∷ ss) m h = (omega (arith, h.0), (omega (arith, h.0), h.1))

  on_next_fits : (ss : List Stmt) (l : Completion) (m : Configuration) → Fits (height_all ss) m → HasRoom (turns.on_next (turns.next_of ss (turns.ready m)) l m)
  on_next_fits ss Next m h = next_fits ss (turns.ready m) h
  on_next_fits ss Broken m h = h.1
  on_next_fits ss Continued m h = h.1
  on_next_fits ss (Returned v) m h = h.1

  stepping_fits : (e : Option Expr) (m : Configuration) → Fits (depth_if_any e) m → HasRoom (turns.stepping e m)
  stepping_fits None m h = h.1
  stepping_fits (Some e) m h = (omega (arith, h.0), (omega (arith, h.0, deep e), h.1))

  ending_fits : (s : Stmt) (m : Configuration) → Fits (need_of_end s) m → HasRoom (turns.ending s m)
  ending_fits (st.Do' b (more_of-Stmt s end_of-Stmt) e) m h = (omega (arith, h.0), (omega (arith, h.0, deep e), h.1))
  ending_fits (st.For' test step b (more_of-Stmt s end_of-Stmt)) m h = stepping_fits step m h
  ending_fits st.Empty m h = h.1
  ending_fits (st.Eval e) m h = h.1
  ending_fits (st.Init x o t e) m h = h.1
  ending_fits (st.Block' b ss) m h = h.1
  ending_fits (st.If' e b r c r') m h = h.1
  ending_fits (st.While' e b r) m h = h.1
  ending_fits st.Break m h = h.1
  ending_fits st.Continue m h = h.1
  ending_fits (st.Return e) m h = h.1
  ending_fits (st.Ghost g) m h = h.1
  ending_fits (st.Assert v k r) m h = h.1

  turn_end_fits : (s : Stmt) (l : Completion) (m : Configuration) → Fits (need_of_end s) m → HasRoom (turns.at_turn_end (turns.ending s m) l m)
  turn_end_fits s Next m h = ending_fits s m h
  turn_end_fits s Continued m h = ending_fits s m h
  turn_end_fits s Broken m h = h.1
  turn_end_fits s (Returned v) m h = h.1

  -- a loop's turn, above the loop itself
  turning_fits : (s : Stmt) (m : Configuration) → IsLoop s → Fits (height s) m → HasRoom (turns.turning s (turns.pushed (pending.Pass (pending.Again s)) m))
  turning_fits (st.While' e b (more_of-Stmt s end_of-Stmt)) m is h = (omega (arith, h.0), (omega (arith, h.0), (h.0, h.1)))
  turning_fits (st.Do' b (more_of-Stmt s end_of-Stmt) e) m is h = (omega (arith, h.0), (omega (arith, h.0), (h.0, h.1)))
  turning_fits (st.For' None step b (more_of-Stmt s end_of-Stmt)) m is h = (omega (arith, h.0), (omega (arith, h.0), (h.0, h.1)))
  turning_fits (st.For' (Some e) step b (more_of-Stmt s end_of-Stmt)) m is h = (omega (arith, h.0), (omega (arith, h.0), (h.0, h.1)))
  turning_fits st.Empty m is h = absurd is
  turning_fits (st.Eval _) m is h = absurd is
  turning_fits (st.Init _ _ _ _) m is h = absurd is
  turning_fits (st.Block' _ _) m is h = absurd is
  turning_fits (st.If' _ _ _ _ _) m is h = absurd is
  turning_fits st.Break m is h = absurd is
  turning_fits st.Continue m is h = absurd is
  turning_fits (st.Return _) m is h = absurd is
  turning_fits (st.Ghost _) m is h = absurd is
  turning_fits (st.Assert _ _ _) m is h = absurd is

  -- a loop that is passed is one
  abbrev pub LoopsAlone : pending.Passing → Type 0
  LoopsAlone (pending.Again s) = IsLoop s
  LoopsAlone _ = Unit {0}

  pub passed_fits : (x : pending.Passing) (l : Completion) (m : Configuration) → LoopsAlone x → Fits (need (pending.Pass x)) m → HasRoom (turns.passed x l m).after
  passed_fits (pending.Rest ss) l m is h = on_next_fits ss l m h
  passed_fits (pending.Again s) Next m is h = turning_fits s (turns.ready m) is h
  passed_fits (pending.Again s) Continued m is h = turning_fits s (turns.ready m) is h
  passed_fits (pending.Again s) Broken m is h = h.1
  passed_fits (pending.Again s) (Returned v) m is h = h.1
  passed_fits (pending.TurnEnd s) l m is h = turn_end_fits s l m h

  -- ---- calls

  pub arguing_fits : (f : ℕ) (es : List Expr) (n : ℕ) (m : Configuration) → FitsAbove (drop n m.context.arguments) (depth_all es) m → HasRoom (turns.arguing f es n m).after
  arguing_fits f [] n m h = (h.0, h.1)
  arguing_fits f (e ∷ es) n m h = (omega (arith, h.0), (omega (arith, h.0), h.1))

  pub argued_fits : (f : ℕ) (es : List Expr) (n : ℕ) (v : Value) (m : Configuration) → FitsAbove (drop n m.context.arguments) (depth_all es + 1) m → HasRoom (turns.argued f es n v m)
  argued_fits f es n v m h = (omega (arith, h.0), h.1)

  back_arguments : (rs : List pending.Caller) (c : pending.Context) → (pending.back_to rs c).arguments ≡ c.arguments
  back_arguments [] c = refl
  back_arguments (r ∷ rs) c = refl

  closed_fits : (g : ℕ) (v : Option Value) (m : Configuration) → HasRoom m → HasRoom (turns.closed g v m).after
  closed_fits g v m h = subst (λ vs. Roomy room m.work vs) (sym (back_arguments m.context.callers m.context)) h

  returned_fits : (g : ℕ) (t : CType) (v : Option Value) (m : Configuration) → Fits 3 m → HasRoom (turns.returned g t v m).after
  returned_fits g type.Void None m h = closed_fits g None m h.1
  returned_fits g type.Void (Some v) m h = (h.0, h.1)
  returned_fits g (type.Int j) None m h = (h.0, h.1)
  returned_fits g (type.Int j) (Some v) m h = closed_fits g (Some v) m h.1
  returned_fits g (type.Pointer' b j) None m h = (h.0, h.1)
  returned_fits g (type.Pointer' b j) (Some v) m h = closed_fits g (Some v) m h.1
  returned_fits g (type.Array' b j n) None m h = (h.0, h.1)
  returned_fits g (type.Array' b j n) (Some v) m h = closed_fits g (Some v) m h.1
  returned_fits g (type.Struct j) None m h = (h.0, h.1)
  returned_fits g (type.Struct j) (Some v) m h = closed_fits g (Some v) m h.1

  fallen_off_fits : (g : ℕ) (b : Bool) (t : CType) (m : Configuration) → Fits 3 m → HasRoom (turns.fallen_off g b t m).after
  fallen_off_fits g true t m h = closed_fits g (Some (value.Int (pos 0))) m h.1
  fallen_off_fits g false type.Void m h = closed_fits g None m h.1
  fallen_off_fits g false (type.Int j) m h = (h.0, h.1)
  fallen_off_fits g false (type.Pointer' b j) m h = (h.0, h.1)
  fallen_off_fits g false (type.Array' b j n) m h = (h.0, h.1)
  fallen_off_fits g false (type.Struct j) m h = (h.0, h.1)

  pub given_back_fits : (g : ℕ) (b : Bool) (t : CType) (l : Completion) (m : Configuration) → Fits 3 m → HasRoom (turns.given_back g b t l m).after
  given_back_fits g b t (Returned v) m h = returned_fits g t v m h
  given_back_fits g b t Next m h = fallen_off_fits g b t m h
  given_back_fits g b t Broken m h = (h.0, h.1)
  given_back_fits g b t Continued m h = (h.0, h.1)

  -- an activation whose body has the room of one
  pub entered_fits : (q : Core) (g : ℕ) (f : Function) (body : List Stmt) (n : ℕ) (m : Configuration) → height_all body ≤ room → FitsAbove (drop n m.context.arguments) 3 m → HasRoom (turns.entered q g f body n m)
  entered_fits q g f body n m k h =
      let d = length-drop n m.context.arguments in
      (omega (arith, h.0, d), (omega (arith, h.0, d), h.1))

-- ---- each part needs some room

mutual
  high : (s : Stmt) → 3 ≤ height s
  high st.Empty = omega arith
  high (st.Eval e) = omega (arith, deep e)
  high (st.Init v o t e) = omega arith
  high (st.Block' b ss) = high_row ss
  high (st.If' e b (more_of-Stmt s end_of-Stmt) c (more_of-Stmt u end_of-Stmt)) = omega (arith, high s)
  high (st.While' e b (more_of-Stmt s end_of-Stmt)) = omega (arith, high s)
  high (st.Do' b (more_of-Stmt s end_of-Stmt) e) = omega (arith, high s)
  high (st.For' test step b (more_of-Stmt s end_of-Stmt)) = omega (arith, high s)
  high st.Break = omega arith
  high st.Continue = omega arith
  high (st.Return e) = deep_if_any e
  high (st.Ghost g) = omega arith
  high (st.Assert v k r) = omega arith

  high_row : {n : _} (r : Row_of-Stmt n) → 3 ≤ height_row r
  high_row end_of-Stmt = omega arith
  high_row (more_of-Stmt s more) = omega (arith, high_row more)

high_all : (ss : List Stmt) → 3 ≤ height_all ss
high_all [] = omega arith
high_all (s ∷ ss) = omega (arith, high s)

operand_needs : (o : pending.Operand) → 3 ≤ need (pending.Operate o)
operand_needs (pending.BinaryRight o k f) = omega (arith, deep f)
operand_needs (pending.CompareRight o f) = omega (arith, deep f)
operand_needs (pending.BothRight f) = omega (arith, deep f)
operand_needs (pending.EitherRight f) = omega (arith, deep f)
operand_needs (pending.Choose f g) = omega (arith, deep f)
operand_needs (pending.MoveRight size side f) = omega (arith, deep f)
operand_needs (pending.DifferenceRight unit f) = omega (arith, deep f)
operand_needs (pending.UpdateRight t o e w l) = omega (arith, deep e)
operand_needs (pending.UpdateNow t o w l v) = omega arith
operand_needs (pending.Convert k) = omega arith
operand_needs (pending.Unary o k) = omega arith
operand_needs (pending.BinaryNow o k v) = omega arith
operand_needs (pending.CompareNow o v) = omega arith
operand_needs pending.Negated = omega arith
operand_needs pending.Truth = omega arith
operand_needs pending.Discard = omega arith
operand_needs (pending.MoveNow size side v) = omega arith
operand_needs (pending.DifferenceNow unit v) = omega arith
operand_needs (pending.Store t l) = omega arith
operand_needs (pending.Instead v) = omega arith
operand_needs (pending.Allocate t) = omega arith
operand_needs pending.Release = omega arith

access_needs : (a : pending.Access) → 3 ≤ need (pending.Accessed a)
access_needs (pending.LoadAt t) = omega arith
access_needs pending.AddressOf = omega arith
access_needs (pending.AssignRight t e) = omega (arith, deep e)
access_needs (pending.UpdateOld t o e w) = omega (arith, deep e)

selection_needs : (x : pending.Selection) → 3 ≤ need (pending.Select x)
selection_needs (pending.MemberAt o) = omega arith
selection_needs (pending.ElementAt e size) = omega (arith, deep e)

conclusion_needs : (s : Stmt) → 3 ≤ need (pending.Conclude s)
conclusion_needs (st.If' e b (more_of-Stmt s end_of-Stmt) c (more_of-Stmt u end_of-Stmt)) = omega (arith, high s)
conclusion_needs (st.While' e b (more_of-Stmt s end_of-Stmt)) = omega (arith, high s)
conclusion_needs (st.For' test step b (more_of-Stmt s end_of-Stmt)) = omega (arith, high s)
conclusion_needs (st.Init v o t e) = omega arith
conclusion_needs st.Empty = omega arith
conclusion_needs (st.Eval e) = omega arith
conclusion_needs (st.Block' b ss) = omega arith
conclusion_needs (st.Do' b s e) = omega arith
conclusion_needs st.Break = omega arith
conclusion_needs st.Continue = omega arith
conclusion_needs (st.Return e) = omega arith
conclusion_needs (st.Ghost g) = omega arith
conclusion_needs (st.Assert v k r) = omega arith

end_needs : (s : Stmt) → 3 ≤ need_of_end s
end_needs (st.Do' b (more_of-Stmt s end_of-Stmt) e) = omega (arith, deep e)
end_needs (st.For' test step b (more_of-Stmt s end_of-Stmt)) = deep_if_any step
end_needs st.Empty = omega arith
end_needs (st.Eval e) = omega arith
end_needs (st.Init v o t e) = omega arith
end_needs (st.Block' b ss) = omega arith
end_needs (st.If' e b s c u) = omega arith
end_needs (st.While' e b s) = omega arith
end_needs st.Break = omega arith
end_needs st.Continue = omega arith
end_needs (st.Return e) = omega arith
end_needs (st.Ghost g) = omega arith
end_needs (st.Assert v k r) = omega arith

passing_needs : (x : pending.Passing) → 3 ≤ need (pending.Pass x)
passing_needs (pending.Rest ss) = high_all ss
passing_needs (pending.Again s) = high s
passing_needs (pending.TurnEnd s) = end_needs s

pub needs_some : (p : pending.Pending) → 3 ≤ need p
needs_some (pending.Evaluate e) = deep e
needs_some (pending.Locate p) = deep_place p
needs_some (pending.Execute s) = high s
needs_some (pending.Operate o) = operand_needs o
needs_some (pending.Accessed a) = access_needs a
needs_some (pending.Select x) = selection_needs x
needs_some (pending.Designate x) = omega arith
needs_some (pending.Conclude s) = conclusion_needs s
needs_some pending.Ignore = omega arith
needs_some (pending.Pass x) = passing_needs x
needs_some pending.Input = omega arith
needs_some pending.Output = omega arith
needs_some (pending.Arguments f es n) = deep_all es
needs_some (pending.Argument f es n) = omega (arith, deep_all es)
needs_some (pending.Enter f n) = omega arith
needs_some (pending.Leave g t) = omega arith
needs_some (pending.Halt f) = omega arith
needs_some (pending.Over f) = omega arith
