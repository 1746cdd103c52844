-- A statement and its code: the same steps and the same way on.
use Rattle.std.proofs.lemmas.Bool.{le-leb}
use Rattle.std.proofs.Common.{◌≡◌, ℕ, zero, suc, ◌+◌, ◌*◌, Ok, Err, ◌<◌, ◌≤◌, Bool, true, false, cond, List, [], ◌∷◌, ◌++◌, Option, Some, None, refl, sym, ap, ◌∙◌, subst, arith, le_refl}
use Rattle.std.specs.Prelude.{pos, option_map}
use Rattle.step_meaning.specs.declared.value.CType.{CType}
use Rattle.step_meaning.specs.declared.value.NameKind.{NameKind}
use Rattle.step_meaning.specs.declared.value.NameKind.TheVariants as names
use Rattle.step_meaning.specs.declared.value.IntKind.TheVariants as kind
use Rattle.step_meaning.specs.declared.value.Name.{Name}
use Rattle.step_meaning.specs.declared.value.RunFault.TheVariants as fault
use Rattle.step_meaning.specs.declared.value.Value.{Value}
use Rattle.step_meaning.specs.declared.value.Value.TheVariants as value
use Rattle.step_meaning.specs.declared.value.Action.TheVariants as act
use Rattle.step_meaning.specs.declared.expr.Variable.{Variable}
use Rattle.step_meaning.specs.declared.expr.Expr.{Expr}
use Rattle.step_meaning.specs.declared.expr.Expr.TheVariants.{Address}
use Rattle.step_meaning.specs.declared.stmt.Stmt.{Stmt, Row_of-Stmt, end_of-Stmt, more_of-Stmt}
use Rattle.step_meaning.specs.declared.stmt.Stmt.TheVariants.{Empty, Eval, Init, Block, Block', If', While', Do', For', Break, Continue, Return, Ghost, Assert}
use Rattle.step_meaning.specs.declared.program.Core.{Core}
use Rattle.step_meaning.specs.TypeRules.{cells}
use Rattle.step_meaning.specs.Names.{truth, name_in, moved}
use Rattle.step_meaning.specs.Memory.{room}
use Rattle.step_meaning.specs.Settings.{Setting, variable_type}
use Rattle.step_meaning.specs.State.{Here, Registers, InRegister, At, designated}
use Rattle.step_meaning.specs.Flow.{direct, Direct, DirectCall, World, Gives, Done, Over, Stuck, onward, step_by}
use Rattle.step_meaning.specs.Accesses as acc
use Rattle.step_meaning.specs.Statements as sm
use Rattle.step_meaning.specs.Statements.{Completion, Next, Broken, Continued, Returned}
use Rattle.step_meaning.proofs.TypedMemory.{Shape}
use Rattle.normal_laws.specs.NormalForm.{Operand, Number, Held, Pointed, Is, Part, MemberAt, ElementAt, part_code, member, index, pointer_to, set_to, expression_of, place_of, one, assign, choice, forever, PlaceCode, expression_code, test_code, effect_code, init_code, statement_code, row_code, body_code, named_code, parts_code, cell_parts, or_void}
use Rattle.normal_laws.specs.SourceCode.{IsSourceKind, part_offset, parts_offset, IsSourceExpression, IsSourceExpressionIfAny, IsSourceStatement, AreSourceStatements, IsSourceBody, IsInitialised, IsLocal}
use Rattle.normal_laws.proofs.Registers.{AreAt, at_split}
use Rattle.normal_laws.proofs.Emission.{Stands, and_then, and_next, Makes, Ready, Framed, Keeps, Designates, makes_bind, stands_on, source_kind, run_join, block_run, operand, makes_weaken, keeps_all, copy_made}
use Rattle.normal_laws.proofs.Growth.{value_below, part_grows, parts_grow}
use Rattle.normal_laws.proofs.Forms.{CallsFit}
use Rattle.normal_laws.proofs.ExpressionsAgree.{expression_agrees, go, value_of, member_made, index_made, store_made}

abbrev turn_then : Gives Completion → (World → Registers → Gives Completion) → Gives Completion
turn_then t g = onward t (sm.after_turn direct g)

abbrev end_then : Gives Completion → (World → Registers → Gives Completion) → Gives Completion
end_then t g = onward t (sm.at_turn_end direct g)

-- the cells of locals are there while the activations are open that there are
abbrev pub HasRoom : List Shape → Setting → Here → Type 0
HasRoom S g here = (v : Variable) → IsLocal v.kind → (t : CType) → variable_type g v ≡ Some t → (w : World) → Framed [] S w → room w.memory (name_in here.activation v) ≡ Some (cells g.layouts t)

moved_inside : (n : Name) (o by size : ℕ) → o + by ≤ size → moved (value.Pointer n o) (Some size) (pos by) ≡ Ok (value.Pointer n (o + by))
moved_inside n o by size le = ap (λ b. cond b (Ok (value.Pointer n (o + by))) (Err fault.Pointer)) (le-leb (o + by) size le)

part_types : (D : List CType) (x : Part) (p : PlaceCode) → AreAt D (part_code x p).types → AreAt D p.types
part_types D (MemberAt o t) p at = (at_split D p.types (Is p.next (pointer_to t) ∷ []) at).0
part_types D (ElementAt i size t) p at = (at_split D p.types (Is p.next (pointer_to t) ∷ []) at).0

parts_types : (D : List CType) (xs : List Part) (p : PlaceCode) → AreAt D (parts_code xs p).types → AreAt D p.types
parts_types D [] p at = at
parts_types D (x ∷ xs) p at = part_types D x p (parts_types D xs (part_code x p) at)

local_kind : (v : Variable) → IsLocal v.kind → IsSourceKind v.kind
local_kind v h = by v.kind h
  where
    by : (k : NameKind) → IsLocal k → IsSourceKind k
    by names.Local h = tt
    by names.Global h = absurd h
    by names.Heap h = absurd h
    by names.Register h = absurd h
    by names.GhostGlobal h = absurd h
    by names.GhostLocal h = absurd h

module _ (D : List CType) (S : List Shape) (q : Core) (g : Setting) (call : ℕ → List Value → DirectCall) (fit : CallsFit q call) (here : Here) (bound : ℕ) where
  abbrev on : List Stmt → Direct Completion
  on = go D S q g call fit here bound

  abbrev exec : Stmt → Direct Completion
  exec = sm.exec direct q.layouts call here bound

  abbrev val : Expr → Direct Value
  val = value_of D S q g call fit here bound

  abbrev made : {A : Type 0} → (Registers → A → Type 0) → Registers → Gives A → Gives Completion → Type 0
  made H r o t = Makes D S 0 H r o t

  abbrev R : World → Registers → Type 0
  R w r = Ready D S w r

  -- the same world and way on; `before` has run at each `continue`
  abbrev pub Same : List Stmt → Gives Completion → Gives Completion → Type 0
  Same before (Done Next w s) t = (r : Registers) × (t ≡ Done Next w r) × R w r
  Same before (Done Broken w s) t = (r : Registers) × (t ≡ Done Broken w r) × R w r
  Same before (Done Continued w s) t = (r : Registers) × (t ≡ and_then (on before w r) (λ w r. Done Continued w r)) × R w r
  Same before (Done (Returned v) w s) t = (r : Registers) × (t ≡ Done (Returned v) w r) × R w r
  Same before (Over e l) t = t ≡ Over e l
  Same before (Stuck e l) t = ⊥

  -- what a turn of a loop makes of its body
  abbrev pub TurnSame : Gives Completion → Gives Completion → Type 0
  TurnSame (Done Next w s) t = (r : Registers) × ((go : World → Registers → Gives Completion) → turn_then t go ≡ go w r) × R w r
  TurnSame (Done Broken w s) t = (r : Registers) × ((go : World → Registers → Gives Completion) → turn_then t go ≡ Done Next w r) × R w r
  TurnSame (Done Continued w s) t = (r : Registers) × ((go : World → Registers → Gives Completion) → turn_then t go ≡ go w r) × R w r
  TurnSame (Done (Returned v) w s) t = (r : Registers) × ((go : World → Registers → Gives Completion) → turn_then t go ≡ Done (Returned v) w r) × R w r
  TurnSame (Over e l) t = (go : World → Registers → Gives Completion) → turn_then t go ≡ Over e l
  TurnSame (Stuck e l) t = ⊥

  -- the code at the end of a turn, which goes on or leaves the loop
  abbrev TailSame : Gives Completion → Gives Completion → Type 0
  TailSame (Done Next w s) t = (r : Registers) × (t ≡ Done Next w r) × R w r
  TailSame (Done Broken w s) t = (r : Registers) × (t ≡ Done Broken w r) × R w r
  TailSame (Done Continued w s) t = ⊥
  TailSame (Done (Returned v) w s) t = ⊥
  TailSame (Over e l) t = t ≡ Over e l
  TailSame (Stuck e l) t = ⊥

  continue_stays : (o : Gives Completion) (g : World → Registers → Gives Completion) → and_then (and_then o (λ w r. Done Continued w r)) g ≡ and_then o (λ w r. Done Continued w r)
  continue_stays (Done Next w r) g = refl
  continue_stays (Done Broken w r) g = refl
  continue_stays (Done Continued w r) g = refl
  continue_stays (Done (Returned v) w r) g = refl
  continue_stays (Over e l) g = refl
  continue_stays (Stuck e l) g = refl

  same_then : (before : List Stmt) (o t : Gives Completion) (f g : World → Registers → Gives Completion) → Same before o t → ((w : World) (s r : Registers) → R w r → Same before (f w s) (g w r)) → Same before (and_then o f) (and_then t g)
  same_then before (Done Next w s) t f g h go = rw h.1 (go w s h.0 h.2)
  same_then before (Done Broken w s) t f g h go = (h.0, ap (λ t. and_then t g) h.1, h.2)
  same_then before (Done Continued w s) t f g h go = (h.0, ap (λ t. and_then t g) h.1 ∙ continue_stays (on before w h.0) g, h.2)
  same_then before (Done (Returned v) w s) t f g h go = (h.0, ap (λ t. and_then t g) h.1, h.2)
  same_then before (Over e l) t f g h go = ap (λ t. and_then t g) h
  same_then before (Stuck e l) t f g h go = h

  same_bind : {A : Type 0} (before : List Stmt) (m : ℕ) (H : Registers → A → Type 0) (r : Registers) (o : Gives A) (t : Gives Completion) (f : A → World → Registers → Gives Completion) (g : World → Registers → Gives Completion)
      → Makes D S m H r o t → ((x : A) (w : World) (s r' : Registers) → H r' x → Keeps D S m r w r' → Same before (f x w s) (g w r')) → Same before (onward o f) (and_then t g)
  same_bind before m H r (Done x w s) t f g h go = rw h.1 (go x w s h.0 h.2 h.3)
  same_bind before m H r (Over e l) t f g h go = ap (λ t. and_then t g) h
  same_bind before m H r (Stuck e l) t f g h go = h

  same_value : {A : Type 0} (before : List Stmt) (m : ℕ) (H : Registers → A → Type 0) (r : Registers) (o : Gives A) (t : Gives Completion) → Makes D S m H r o t → Same before (onward o (λ x w s. Done Next w s)) t
  same_value before m H r (Done x w s) t h = (h.0, h.1, h.3.ready)
  same_value before m H r (Over e l) t h = h
  same_value before m H r (Stuck e l) t h = h

  same_one : (before : List Stmt) (o t : Gives Completion) → Same before o t → Same before o (and_then t (λ w r. Done Next w r))
  same_one before o t h = rw (and_next t) h

  turn_same : (o t : Gives Completion) → Same [] o t → TurnSame o t
  turn_same (Done Next w s) t h = (h.0, λ go. ap (λ t. turn_then t go) h.1, h.2)
  turn_same (Done Broken w s) t h = (h.0, λ go. ap (λ t. turn_then t go) h.1, h.2)
  turn_same (Done Continued w s) t h = (h.0, λ go. ap (λ t. turn_then t go) h.1, h.2)
  turn_same (Done (Returned v) w s) t h = (h.0, λ go. ap (λ t. turn_then t go) h.1, h.2)
  turn_same (Over e l) t h = λ go. ap (λ t. turn_then t go) h
  turn_same (Stuck e l) t h = h

  turns_step : (before : List Stmt) (o t : Gives Completion) (f g : World → Registers → Gives Completion) → TurnSame o t → ((w : World) (s r : Registers) → R w r → Same before (f w s) (g w r)) → Same before (turn_then o f) (turn_then t g)
  turns_step before (Done Next w s) t f g h go = rw (h.1 g) (go w s h.0 h.2)
  turns_step before (Done Broken w s) t f g h go = (h.0, h.1 g, h.2)
  turns_step before (Done Continued w s) t f g h go = rw (h.1 g) (go w s h.0 h.2)
  turns_step before (Done (Returned v) w s) t f g h go = (h.0, h.1 g, h.2)
  turns_step before (Over e l) t f g h go = h g
  turns_step before (Stuck e l) t f g h go = h

  pub turns_same : (before : List Stmt) (n : ℕ) (b c : World → Registers → Gives Completion) → ((w : World) (s r : Registers) → R w r → TurnSame (b w s) (c w r))
      → (w : World) (s r : Registers) → R w r → Same before (sm.turns direct here b n w s) (sm.turns direct here c n w r)
  turns_same before zero b c h w s r hs = refl
  turns_same before (suc n) b c h w s r hs =
      let v : World = record w { log = step_by here act.Turn w.memory ∷ w.log } in
      turns_step before (b v s) (c v r) (sm.turns direct here b n) (sm.turns direct here c n) (h v s r (record { shaped = hs.shaped; framed = hs.framed })) (turns_same before n b c h)

  -- ---- tests

  abbrev unless : Operand → List Stmt
  unless a = one (choice (expression_of a) [] (one Break))

  -- a test that leaves the loop, before the rest of a turn
  tested : (a : Operand) (x : Value) (w : World) (r : Registers) → Stands a r x → on (unless a) w r ≡ cond (truth x) (Done Next w r) (Done Broken w r)
  tested a x w r h =
      ap (λ o. and_then (onward o (λ v. cond (truth v) (exec (Block [])) (exec (Block (one Break))))) (λ w r. Done Next w r)) (operand D S q.layouts call here bound a w r x h) ∙ by (truth x)
    where
      by : (b : Bool) → and_then (cond b (exec (Block [])) (exec (Block (one Break))) w r) (λ w r. Done Next w r) ≡ cond b (Done Next w r) (Done Broken w r)
      by true = ap (λ t. and_then t (λ w r. Done Next w r)) (block_run D S q.layouts call here bound [] w r)
      by false = ap (λ t. and_then t (λ w r. Done Next w r)) (block_run D S q.layouts call here bound (one Break) w r)

  test_turn : (a : Operand) (r : Registers) (o : Gives Value) (t : Gives Completion) (f g : World → Registers → Gives Completion) → made (Stands a) r o t → ((w : World) (s r : Registers) → R w r → TurnSame (f w s) (g w r))
      → TurnSame (onward o (λ v. cond (truth v) f (λ w s. Done Broken w s))) (and_then (and_then t (on (unless a))) g)
  test_turn a r (Done x w s) t f g h go = rw h.1 (rw (tested a x w h.0 h.2) (by (truth x)))
    where
      by : (b : Bool) → TurnSame (cond {A = World → Registers → Gives Completion} b f (λ w s. Done Broken w s) w s) (and_then (cond b (Done Next w h.0) (Done Broken w h.0)) g)
      by true = go w s h.0 h.3.ready
      by false = (h.0, λ go. refl, h.3.ready)
  test_turn a r (Over e l) t f g h go = λ go'. ap (λ t. turn_then (and_then (and_then t (on (unless a))) g) go') h
  test_turn a r (Stuck e l) t f g h go = h

  test_tail : (a : Operand) (r : Registers) (o : Gives Value) (t : Gives Completion) → made (Stands a) r o t
      → TailSame (onward o (λ v. cond (truth v) (λ w s. Done Next w s) (λ w s. Done Broken w s))) (and_then t (on (unless a)))
  test_tail a r (Done x w s) t h = rw h.1 (rw (tested a x w h.0 h.2) (by (truth x)))
    where
      by : (b : Bool) → TailSame (cond {A = World → Registers → Gives Completion} b (λ w s. Done Next w s) (λ w s. Done Broken w s) w s) (cond b (Done Next w h.0) (Done Broken w h.0))
      by true = (h.0, refl, h.3.ready)
      by false = (h.0, refl, h.3.ready)
  test_tail a r (Over e l) t h = ap (λ t. and_then t (on (unless a))) h
  test_tail a r (Stuck e l) t h = h

  -- ---- what ends a turn

  tail_next : (o t : Gives Completion) → TailSame o t → TurnSame o t
  tail_next (Done Next w s) t h = (h.0, λ go. ap (λ t. turn_then t go) h.1, h.2)
  tail_next (Done Broken w s) t h = (h.0, λ go. ap (λ t. turn_then t go) h.1, h.2)
  tail_next (Done Continued w s) t h = absurd h
  tail_next (Done (Returned v) w s) t h = absurd h
  tail_next (Over e l) t h = λ go. ap (λ t. turn_then t go) h
  tail_next (Stuck e l) t h = h

  tail_continue : (o t : Gives Completion) (g : World → Registers → Gives Completion) → TailSame o t → TurnSame o (and_then (and_then t (λ w r. Done Continued w r)) g)
  tail_continue (Done Next w s) t g h = (h.0, λ go. ap (λ t. turn_then (and_then (and_then t (λ w r. Done Continued w r)) g) go) h.1, h.2)
  tail_continue (Done Broken w s) t g h = (h.0, λ go. ap (λ t. turn_then (and_then (and_then t (λ w r. Done Continued w r)) g) go) h.1, h.2)
  tail_continue (Done Continued w s) t g h = absurd h
  tail_continue (Done (Returned v) w s) t g h = absurd h
  tail_continue (Over e l) t g h = λ go. ap (λ t. turn_then (and_then (and_then t (λ w r. Done Continued w r)) g) go) h
  tail_continue (Stuck e l) t g h = h

  -- a body with the code at the end of a turn, which each `continue` has before it
  tail_turn : (tail : List Stmt) (o t : Gives Completion) (f : World → Registers → Gives Completion) → Same tail o t → ((w : World) (s r : Registers) → R w r → TailSame (f w s) (on tail w r)) → TurnSame (end_then o f) (and_then t (on tail))
  tail_turn tail (Done Next w s) t f h go = rw h.1 (tail_next (f w s) (on tail w h.0) (go w s h.0 h.2))
  tail_turn tail (Done Broken w s) t f h go = (h.0, λ go. ap (λ t. turn_then (and_then t (on tail)) go) h.1, h.2)
  tail_turn tail (Done Continued w s) t f h go = rw h.1 (tail_continue (f w s) (on tail w h.0) (on tail) (go w s h.0 h.2))
  tail_turn tail (Done (Returned v) w s) t f h go = (h.0, λ go. ap (λ t. turn_then (and_then t (on tail)) go) h.1, h.2)
  tail_turn tail (Over e l) t f h go = λ go. ap (λ t. turn_then (and_then t (on tail)) go) h
  tail_turn tail (Stuck e l) t f h go = h

  if_same : (before a b : List Stmt) (c : Bool) (o p : World → Registers → Gives Completion) (w : World) (s r : Registers) → Same before (o w s) (on a w r) → Same before (p w s) (on b w r)
      → Same before (cond c o p w s) (and_then (cond c (exec (Block a)) (exec (Block b)) w r) (λ w r. Done Next w r))
  if_same before a b true o p w s r ha hb = rw (block_run D S q.layouts call here bound a w r) (same_one before (o w s) (on a w r) ha)
  if_same before a b false o p w s r ha hb = rw (block_run D S q.layouts call here bound b w r) (same_one before (p w s) (on b w r) hb)

  -- nothing below register 0 is to stay
  lower : (e : Expr) → IsSourceExpression e → (k : ℕ) → AreAt D (expression_code q g e k).types → (w : World) (s r : Registers) → R w r → made (Stands (expression_code q g e k).value) r (val e w s) (on (expression_code q g e k).code w r)
  lower e p k at w s r hs = makes_weaken D S 0 k (Stands (expression_code q g e k).value) w r r (val e w s) (on (expression_code q g e k).code w r) (omega arith) (keeps_all D S 0 w r hs) (expression_agrees D S q g call fit here bound e p k at w s r hs)

  -- ---- loops

  abbrev joined : (a b : List Stmt) (w : World) (r : Registers) → on (a ++ b) w r ≡ and_then (on a w r) (on b)
  joined = run_join D S q.layouts call here bound

  -- the test, if there is one, and the rest of a turn
  first_part : (o : Option Expr) → IsSourceExpressionIfAny o → (k : ℕ) → AreAt D (test_code q g o k).types → (d : Direct Completion) (rest : List Stmt) → ((w : World) (s r : Registers) → R w r → TurnSame (d w s) (on rest w r))
      → (w : World) (s r : Registers) → R w r → TurnSame (sm.when_test direct (option_map val o) d w s) (on ((test_code q g o k).code ++ rest) w r)
  first_part None p k at d rest h w s r hs = h w s r hs
  first_part (Some e) p k at d rest h w s r hs =
      let c = expression_code q g e k in
      rw (joined (c.code ++ unless c.value) rest w r) (rw (joined c.code (unless c.value) w r)
      (test_turn c.value r (val e w s) (on c.code w r) d (on rest) (lower e p k at w s r hs) h))

  -- the step, if there is one
  step_part : (o : Option Expr) → IsSourceExpressionIfAny o → (k : ℕ) → AreAt D (effect_code q g o k).types → (w : World) (s r : Registers) → R w r → TailSame (sm.loop_step direct (option_map val o) w s) (on (effect_code q g o k).code w r)
  step_part None p k at w s r hs = (r, refl, hs)
  step_part (Some e) p k at w s r hs = by (val e w s) (lower e p k at w s r hs)
    where
      by : (o : Gives Value) → made (Stands (expression_code q g e k).value) r o (on (expression_code q g e k).code w r) → TailSame (onward o (λ v w s. Done Next w s)) (on (expression_code q g e k).code w r)
      by (Done x w s) h = (h.0, h.1, h.3.ready)
      by (Over e l) h = h
      by (Stuck e l) h = h

  -- a turn that `last` ends
  loop_same : (before : List Stmt) (o : Option Expr) → IsSourceExpressionIfAny o → (k : ℕ) → AreAt D (test_code q g o k).types → (s : Stmt) (d : Direct Completion) (body last : List Stmt)
      → ((w : World) (s r : Registers) → R w r → TailSame (d w s) (on last w r))
      → ((w : World) (t r : Registers) → R w r → Same last (exec s w t) (on body w r))
      → (w : World) (t r : Registers) → R w r
      → Same before (sm.turns direct here (sm.when_test direct (option_map val o) (direct.bind (exec s) (sm.at_turn_end direct d))) bound w t) (on (one (forever ((test_code q g o k).code ++ (body ++ last)))) w r)
  loop_same before o p k at s d body last hl hb w t r hs =
      let turn = sm.when_test direct (option_map val o) (direct.bind (exec s) (sm.at_turn_end direct d)) in
      let code = (test_code q g o k).code ++ (body ++ last) in
      let block = exec (Block code) in
      same_one before (sm.turns direct here turn bound w t) (sm.turns direct here block bound w r) (turns_same before bound turn block
      (λ w t r hs. rw (block_run D S q.layouts call here bound code w r)
      (first_part o p k at (direct.bind (exec s) (sm.at_turn_end direct d)) (body ++ last)
      (λ w t r hs. rw (joined body last w r) (tail_turn last (exec s w t) (on body w r) d (hb w t r hs) hl)) w t r hs)) w t r hs)

  -- the body of a `while` ends its turn
  while_same : (before : List Stmt) (e : Expr) → IsSourceExpression e → (k : ℕ) → AreAt D (test_code q g (Some e) k).types → (s : Stmt) (body : List Stmt)
      → ((w : World) (t r : Registers) → R w r → Same [] (exec s w t) (on body w r))
      → (w : World) (t r : Registers) → R w r
      → Same before (sm.turns direct here (sm.when_test direct (Some (val e)) (exec s)) bound w t) (on (one (forever ((test_code q g (Some e) k).code ++ (body ++ [])))) w r)
  while_same before e p k at s body hb w t r hs =
      let turn = sm.when_test direct (Some (val e)) (exec s) in
      let code = (test_code q g (Some e) k).code ++ (body ++ []) in
      let block = exec (Block code) in
      same_one before (sm.turns direct here turn bound w t) (sm.turns direct here block bound w r) (turns_same before bound turn block
      (λ w t r hs. rw (block_run D S q.layouts call here bound code w r)
      (first_part (Some e) p k at (exec s) (body ++ [])
      (λ w t r hs. rw (joined body [] w r) (rw (and_next (on body w r)) (turn_same (exec s w t) (on body w r) (hb w t r hs)))) w t r hs)) w t r hs)

  -- ---- a cell of a local

  local_designated : (v : Variable) (o : ℕ) → IsLocal v.kind → At (value.Pointer (name_in here.activation v) o) ≡ designated here.activation v o
  local_designated v o h = sym (source_kind D S q.layouts call here bound v.kind (InRegister v.index) (At (value.Pointer (name_in here.activation v) o)) (local_kind v h))

  module _ (n : Name) (size : ℕ) (w : World) (s : Registers) (there : room w.memory n ≡ Some size) (k : ℕ) (first : Registers) where
    abbrev Reached : PlaceCode → ℕ → Type 0
    Reached p o = Makes D S k (Designates D S q.layouts call here bound p.target) first (Done (At (value.Pointer n o)) w s) (on p.code w first)

    after : (o by : ℕ) → o + by ≤ size → acc.object_after direct here (At (value.Pointer n o)) (pos by) w s ≡ Done (At (value.Pointer n (o + by))) w s
    after o by le = ap (λ c. onward (acc.checked direct here c w s) (λ a w s. Done (At a) w s)) (ap (λ m. moved (value.Pointer n o) m (pos by)) there ∙ moved_inside n o by size le)

    part_reached : (x : Part) (p : PlaceCode) (o : ℕ) → k ≤ p.next → AreAt D (part_code x p).types → o + part_offset x ≤ size → Reached p o → Reached (part_code x p) (o + part_offset x)
    part_reached (MemberAt by t) p o le at inside h =
        let N = one (set_to p.next (pointer_to t) (Address (member (place_of p.target) by) t)) in
        let K = Designates D S q.layouts call here bound (Pointed (Held p.next (pointer_to t))) in
        rw (joined p.code N w first)
        (subst (λ d. Makes D S k K first d (and_then (on p.code w first) (on N))) (after o by inside)
        (makes_bind D S k p.next (Designates D S q.layouts call here bound p.target) K first (Done (At (value.Pointer n o)) w s) (λ l. acc.object_after direct here l (pos by)) (on p.code w first) (on N) le h
        (λ a w s r' st keep. member_made D S q g call fit here bound by p.target p.next p.next t (at_split D p.types (Is p.next (pointer_to t) ∷ []) at).1.0 a w s r' (le_refl p.next) keep.ready st)))
    part_reached (ElementAt i each t) p o le at inside h =
        let N = one (set_to p.next (pointer_to t) (Address (index (place_of p.target) (expression_of (Number kind.Int (pos i))) each) t)) in
        let K = Designates D S q.layouts call here bound (Pointed (Held p.next (pointer_to t))) in
        rw (joined p.code N w first)
        (subst (λ d. Makes D S k K first d (and_then (on p.code w first) (on N))) (after o (i * each) inside)
        (makes_bind D S k p.next (Designates D S q.layouts call here bound p.target) K first (Done (At (value.Pointer n o)) w s) (λ l. acc.object_after direct here l (pos (i * each))) (on p.code w first) (on N) le h
        (λ a w s r' st keep. index_made D S q g call fit here bound each p.target (Number kind.Int (pos i)) p.next p.next t (at_split D p.types (Is p.next (pointer_to t) ∷ []) at).1.0 a (value.Int (pos i)) w s r' (le_refl p.next) keep.ready st refl)))

    parts_reached : (xs : List Part) (p : PlaceCode) (o : ℕ) → k ≤ p.next → AreAt D (parts_code xs p).types → o + parts_offset xs ≤ size → Reached p o → Reached (parts_code xs p) (o + parts_offset xs)
    parts_reached [] p o le at inside h = subst (λ o. Reached p o) (omega arith) h
    parts_reached (x ∷ xs) p o le at inside h =
        let g = part_grows x p in
        subst (λ o. Reached (parts_code xs (part_code x p)) o) (omega arith)
        (parts_reached xs (part_code x p) (o + part_offset x) (omega arith) at (omega arith) (part_reached x p o le (parts_types D xs (part_code x p) at) (omega arith) h))

  -- ---- statements

  module _ (rooms : HasRoom S g here) (result : CType) where
    variable_type_known : (v : Variable) (o : ℕ) → IsInitialised g v o → (found : Option CType) → variable_type g v ≡ found → (t : CType) × (variable_type g v ≡ Some t)
    variable_type_known v o h (Some t) e = (t, e)
    variable_type_known v o h None e = let lt = subst (λ f. o < cells g.layouts (or_void f)) e h.inside in absurd (omega arith)

    room_there : (v : Variable) (o : ℕ) → IsInitialised g v o → (w : World) → Framed D S w → room w.memory (name_in here.activation v) ≡ Some (cells g.layouts (or_void (variable_type g v)))
    room_there v o h w f =
        let t = variable_type_known v o h (variable_type g v) refl in
        rooms v h.local t.0 t.1 w f ∙ ap (λ u. Some (cells g.layouts (or_void u))) (sym t.1)

    init_same : (before : List Stmt) (v : Variable) (o : ℕ) (t : CType) (e : Expr) → IsSourceExpression e → IsInitialised g v o → (k : ℕ) → AreAt D (init_code q g v o t (expression_code q g e k)).types → (w : World) (s r : Registers) → R w r
        → Same before (exec (Init v o t e) w s) (on (init_code q g v o t (expression_code q g e k)).code w r)
    init_same before v o t e p h k at w s r hs =
        let A = expression_code q g e k in
        let T = or_void (variable_type g v) in
        let n = name_in here.activation v in
        let P = parts_code (cell_parts g.layouts T o) (named_code v T A.next) in
        let X = one (assign (place_of P.target) t (expression_of A.value)) in
        let U = at_split D A.types P.types at in
        let grown = parts_grow (cell_parts g.layouts T o) (named_code v T A.next) in
        rw (joined A.code (P.code ++ X) w r)
        (same_bind before 0 (Stands A.value) r (val e w s) (on A.code w r) (λ x. direct.bind (acc.store direct here t (designated here.activation v o) x) (λ written. direct.pure Next)) (on (P.code ++ X)) (lower e p k U.0 w s r hs)
        (λ x w s r1 ha keep. rw (joined P.code X w r1)
        (same_value before 0 (Stands A.value) r1 (acc.store direct here t (designated here.activation v o) x w s) (and_then (on P.code w r1) (on X))
        (subst (λ l. Makes D S 0 (Stands A.value) r1 (acc.store direct here t l x w s) (and_then (on P.code w r1) (on X))) (local_designated v o h.local)
        (subst (λ i. Makes D S 0 (Stands A.value) r1 (acc.store direct here t (At (value.Pointer n i)) x w s) (and_then (on P.code w r1) (on X))) (reached v o h)
        (makes_weaken D S 0 A.next (Stands A.value) w r1 r1 _ _ (omega arith) (keeps_all D S 0 w r1 keep.ready)
        (makes_bind D S A.next A.next (Designates D S q.layouts call here bound P.target) (Stands A.value) r1 (Done (At (value.Pointer n (0 + parts_offset (cell_parts g.layouts T o)))) w s) (λ l. acc.store direct here t l x) (on P.code w r1) (on X) (le_refl A.next)
        (parts_reached n (cells g.layouts T) w s (room_there v o h w keep.ready.framed) A.next r1 (cell_parts g.layouts T o) (named_code v T A.next) 0 (le_refl A.next) U.1 (inside v o h T refl)
        (r1, refl, (refl, local_kind v h.local), keeps_all D S A.next w r1 keep.ready))
        (λ l w s r2 d keep2. let ha2 = stands_on D S A.next A.value w r1 r2 x (value_below q g e k) keep2 ha in
        store_made D S q g call fit here bound A.next (Stands A.value) P.target A.value t l x w s r2 keep2.ready d ha2 ha2))))))))
      where
        inside : (v : Variable) (o : ℕ) → IsInitialised g v o → (T : CType) → or_void (variable_type g v) ≡ T → 0 + parts_offset (cell_parts g.layouts (or_void (variable_type g v)) o) ≤ cells g.layouts (or_void (variable_type g v))
        inside v o h T e = let a = h.reached in let b = h.inside in omega arith

        reached : (v : Variable) (o : ℕ) → IsInitialised g v o → 0 + parts_offset (cell_parts g.layouts (or_void (variable_type g v)) o) ≡ o
        reached v o h = let a = h.reached in omega arith

    mutual
      pub statement_agrees : (st : Stmt) → IsSourceStatement g st → (before : List Stmt) (k : ℕ) → AreAt D (statement_code q g result before st k).types → (w : World) (s r : Registers) → R w r
          → Same before (exec st w s) (on (statement_code q g result before st k).code w r)
      statement_agrees Empty p before k at w s r hs = (r, refl, hs)
      statement_agrees (Eval e) p before k at w s r hs =
          same_value before 0 (Stands (expression_code q g e k).value) r (val e w s) (on (expression_code q g e k).code w r) (lower e p k at w s r hs)
      statement_agrees (Init v o t e) p before k at w s r hs = init_same before v o t e p.0 p.1 k at w s r hs
      statement_agrees (Block' b ss) p before k at w s r hs =
          rw (block_run D S q.layouts call here bound (row_code q g result before ss k).code w r) (same_one before (sm.exec_row direct q.layouts call here bound ss w s) (on (row_code q g result before ss k).code w r) (row_agrees ss p before k at w s r hs))
      statement_agrees (If' e x (more_of-Stmt a end_of-Stmt) y (more_of-Stmt b end_of-Stmt)) p before k at w s r hs =
          let c = expression_code q g e k in
          let A = statement_code q g result before a c.next in
          let B = statement_code q g result before b A.next in
          let T = at_split D c.types (A.types ++ B.types) at in
          let U = at_split D A.types B.types T.1 in
          rw (joined c.code (one (choice (expression_of c.value) A.code B.code)) w r)
          (same_bind before 0 (Stands c.value) r (val e w s) (on c.code w r) _ _ (lower e p.0 k T.0 w s r hs)
          (λ x w s r h keep. rw (operand D S q.layouts call here bound c.value w r x h)
          (if_same before A.code B.code (truth x) (exec a) (exec b) w s r (statement_agrees a p.1 before c.next U.0 w s r keep.ready) (statement_agrees b p.2 before A.next U.1 w s r keep.ready))))
      statement_agrees (While' e x (more_of-Stmt a end_of-Stmt)) p before k at w s r hs =
          let c = test_code q g (Some e) k in
          let A = statement_code q g result [] a c.next in
          let T = at_split D c.types A.types at in
          while_same before e p.0 k T.0 a A.code (λ w s r hs. statement_agrees a p.1 [] c.next T.1 w s r hs) w s r hs
      statement_agrees (Do' x (more_of-Stmt a end_of-Stmt) e) p before k at w s r hs =
          let c = test_code q g (Some e) k in
          let A = statement_code q g result c.code a c.next in
          let T = at_split D c.types A.types at in
          loop_same before None tt k tt a (sm.when_test direct (Some (val e)) (direct.pure Next)) A.code c.code
          (λ w s r hs. rw (joined (expression_code q g e k).code (unless (expression_code q g e k).value) w r)
          (test_tail (expression_code q g e k).value r (val e w s) (on (expression_code q g e k).code w r) (lower e p.0 k T.0 w s r hs)))
          (λ w s r hs. statement_agrees a p.1 c.code c.next T.1 w s r hs) w s r hs
      statement_agrees (For' test step x (more_of-Stmt a end_of-Stmt)) p before k at w s r hs =
          let c = test_code q g test k in
          let l = effect_code q g step c.next in
          let A = statement_code q g result l.code a l.next in
          let T = at_split D c.types (l.types ++ A.types) at in
          let U = at_split D l.types A.types T.1 in
          loop_same before test p.0 k T.0 a (sm.loop_step direct (option_map val step)) A.code l.code
          (λ w s r hs. step_part step p.1 c.next U.0 w s r hs)
          (λ w s r hs. statement_agrees a p.2 l.code l.next U.1 w s r hs) w s r hs
      statement_agrees (Return None) p before k at w s r hs = (r, refl, hs)
      statement_agrees (Return (Some e)) p before k at w s r hs =
          let c = expression_code q g e k in
          let i = c.next in
          let N = one (set_to i result (expression_of c.value)) in
          let X = one (Return (Some (expression_of (Held i result)))) in
          let U = at_split D c.types (Is i result ∷ []) at in
          rw (joined (c.code ++ N) X w r) (rw (joined c.code N w r)
          (same_bind before 0 (Stands (Held i result)) r (val e w s) (and_then (on c.code w r) (on N)) _ _
          (copy_made D S q.layouts call here bound 0 i result c.value r (val e w s) (on c.code w r) (omega arith) U.1.0 (lower e p k U.0 w s r hs))
          (λ x w s r h keep. rw (operand D S q.layouts call here bound (Held i result) w r x h) (r, refl, keep.ready))))
      statement_agrees Break p before k at w s r hs = (r, refl, hs)
      statement_agrees Continue p before k at w s r hs = (r, joined before (one Continue) w r, hs)
      statement_agrees (Ghost x) p before k at w s r hs = absurd p
      statement_agrees (Assert v j x) p before k at w s r hs = absurd p

      pub row_agrees : {n : _} (ss : Row_of-Stmt n) → AreSourceStatements g ss → (before : List Stmt) (k : ℕ) → AreAt D (row_code q g result before ss k).types → (w : World) (s r : Registers) → R w r
          → Same before (sm.exec_row direct q.layouts call here bound ss w s) (on (row_code q g result before ss k).code w r)
      row_agrees end_of-Stmt p before k at w s r hs = (r, refl, hs)
      row_agrees (more_of-Stmt st ss) p before k at w s r hs =
          let A = statement_code q g result before st k in
          let B = row_code q g result before ss A.next in
          let T = at_split D A.types B.types at in
          rw (joined A.code B.code w r)
          (same_then before (exec st w s) (on A.code w r) _ _ (statement_agrees st p.0 before k T.0 w s r hs) (λ w s r hs. row_agrees ss p.1 before A.next T.1 w s r hs))

    pub body_agrees : (ss : List Stmt) → IsSourceBody g ss → (k : ℕ) → AreAt D (body_code q g result ss k).types → (w : World) (s r : Registers) → R w r
        → Same [] (on ss w s) (on (body_code q g result ss k).code w r)
    body_agrees [] p k at w s r hs = (r, refl, hs)
    body_agrees (st ∷ ss) p k at w s r hs =
        let A = statement_code q g result [] st k in
        let B = body_code q g result ss A.next in
        let T = at_split D A.types B.types at in
        rw (joined A.code B.code w r)
        (same_then [] (exec st w s) (on A.code w r) _ _ (statement_agrees st p.0 [] k T.0 w s r hs) (λ w s r hs. body_agrees ss p.1 A.next T.1 w s r hs))
