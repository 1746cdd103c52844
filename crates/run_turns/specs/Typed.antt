-- What a machine of a well-formed program knows of its state between two turns: the part on top takes what was told, and each part takes what those above it may give.
-- The parts of an activation are typed in the code of its function; `Leave` stands between two activations.
use Rattle.std.specs.Prelude.{◌≡◌, ℕ, Bool, true, false, ◌==◌, ℤ, pos, List, [], ◌∷◌, take, drop, map, slice_get, Option, Some, None, is_some, IsTrue}
use Rattle.std.specs.List.{AllByRecursion}
use Rattle.step_meaning.specs.declared.value.IntKind.{IntKind}
use Rattle.step_meaning.specs.declared.value.IntKind.TheVariants as kind
use Rattle.step_meaning.specs.declared.value.CType.{CType}
use Rattle.step_meaning.specs.declared.value.CType.TheVariants as type
use Rattle.step_meaning.specs.declared.value.Value.{Value}
use Rattle.step_meaning.specs.declared.value.Value.TheVariants as value
use Rattle.step_meaning.specs.declared.expr.IntOp.{IntOp}
use Rattle.step_meaning.specs.declared.expr.Side.{Side}
use Rattle.step_meaning.specs.declared.expr.Side.TheVariants.{PointerFirst, PointerLast, Minus}
use Rattle.step_meaning.specs.declared.expr.UpdateOp.{UpdateOp}
use Rattle.step_meaning.specs.declared.expr.UpdateOp.TheVariants.{Integer, Forward, Backward}
use Rattle.step_meaning.specs.declared.expr.Expr.{Expr}
use Rattle.step_meaning.specs.declared.expr.Place_.{Place_}
use Rattle.step_meaning.specs.declared.stmt.Stmt.{Stmt, end_of-Stmt, more_of-Stmt}
use Rattle.step_meaning.specs.declared.stmt.Stmt.TheVariants as st
use Rattle.step_meaning.specs.declared.program.Core.{Core}
use Rattle.step_meaning.specs.declared.program.Function.{Function}
use Rattle.step_meaning.specs.Numbers.{is_right_operand}
use Rattle.step_meaning.specs.Names.{integer, of_truth}
use Rattle.step_meaning.specs.Conversions.{is_promoted}
use Rattle.step_meaning.specs.Library.{int}
use Rattle.step_meaning.specs.Settings.{Setting, code_setting, variable_type}
use Rattle.step_meaning.specs.Memory.{Memory}
use Rattle.step_meaning.specs.State.{Registers, Lvalue, InRegister, At, designated}
use Rattle.step_meaning.specs.Statements.{Completion, Next, Broken, Continued, Returned}
use Rattle.step_meaning.specs.ExpressionTypes.{type_of, type_of_place, is_null_constant, is_register, parameter_types, called, has_body}
use Rattle.step_meaning.specs.StatementRules.{StatementFits}
use Rattle.step_meaning.specs.WellFormed.{IsWellFormedFunction}
use Rattle.step_meaning.specs.Sources.{is_bare}
use Rattle.step_meaning.proofs.OperatorRanges.{InRange}
use Rattle.step_meaning.proofs.TypedMemory.{WhereSome, InCell, Shape, MemoryFits, HeapFalls, is_empty}
use Rattle.step_meaning.proofs.StepsFit.{IsAddress, InCells, global_cells}
use Rattle.step_meaning.proofs.Kept.{RegistersFit}
use Rattle.step_meaning.proofs.TypedAccesses.{IsPlace}
use Rattle.step_meaning.proofs.TypedOperators.{OfType}
use Rattle.step_meaning.proofs.TypedPlaces.{Designates}
use Rattle.step_meaning.proofs.TypedStatements.{CompletionFits}
use Rattle.run_turns.specs.Pending as pending
use Rattle.run_turns.specs.Turns.{Configuration}

-- ---- values

-- an integer of some kind
abbrev pub IsInteger : Value → Type 0
IsInteger v = (k : IntKind) × InCell (type.Int k) v

-- what takes each integer of the kind, each truth value, each address
abbrev pub TakesKind : IntKind → (Value → Type 0) → Type 0
TakesKind k takes = (z : ℤ) → InRange k z → takes (value.Int z)

abbrev pub TakesTruth : (Value → Type 0) → Type 0
TakesTruth takes = (b : Bool) → takes (of_truth b)

abbrev pub TakesAddress : (Value → Type 0) → Type 0
TakesAddress takes = (p : Value) → IsAddress p → takes p

abbrev pub TakesObject : (Lvalue → Type 0) → Type 0
TakesObject takes = (p : Value) → IsAddress p → takes (At p)

-- an object in memory
abbrev pub IsObject : Lvalue → Type 0
IsObject (At p) = IsAddress p
IsObject (InRegister i) = ⊥

-- operands as the operations take them
abbrev pub BinaryFits : IntOp → IntKind → Value → Value → Type 0
BinaryFits o k v w = IsTrue (is_promoted k) × InRange k (integer v) × IsTrue (is_right_operand o k (integer w))

abbrev pub MoveFits : Side → Value → Value → Type 0
MoveFits PointerFirst v w = IsAddress v × IsInteger w
MoveFits PointerLast v w = IsAddress w × IsInteger v
MoveFits Minus v w = IsAddress v × IsInteger w

abbrev pub DifferenceFits : Value → Value → Type 0
DifferenceFits v w = IsAddress v × IsAddress w

-- the right side of a compound assignment
abbrev pub UpdateFits : UpdateOp → Value → Type 0
UpdateFits (Integer o k) v = IsTrue (is_promoted k) × IsTrue (is_right_operand o k (integer v))
UpdateFits (Forward size) v = IsInteger v
UpdateFits (Backward size) v = IsInteger v

-- the place of a compound assignment, with its old value
abbrev pub UpdatedFits : CType → UpdateOp → Value → Type 0
UpdatedFits t (Integer o k) old = (l : IntKind) × (t ≡ type.Int l)
UpdatedFits t (Forward size) old = IsAddress old
UpdatedFits t (Backward size) old = IsAddress old

module _ (q : Core) where
  -- ---- what an expression of a function may give, and what an lvalue may designate

  abbrev pub IsTypable : Function → Expr → Type 0
  IsTypable f e = IsTrue (is_some (type_of q (code_setting q f) e))

  abbrev pub MayGive : Function → Expr → Value → Type 0
  MayGive f e v = WhereSome (λ t. OfType t v) (type_of q (code_setting q f) e) × (is_null_constant e ≡ true → v ≡ value.Null)

  abbrev pub IsTypablePlace : Function → Place_ → Type 0
  IsTypablePlace f p = IsTrue (is_some (type_of_place q (code_setting q f) p))

  abbrev pub MayDesignate : Function → Place_ → Lvalue → Type 0
  MayDesignate f p l = WhereSome (λ t. Designates (is_register p) t l) (type_of_place q (code_setting q f) p)

  abbrev pub MayGiveAll : Function → List Expr → List Value → Type 0
  MayGiveAll f [] [] = Unit {0}
  MayGiveAll f (e ∷ es) (v ∷ vs) = MayGive f e v × MayGiveAll f es vs
  MayGiveAll f _ _ = ⊥

  -- an expression whose values are taken
  abbrev pub Evaluates : Function → Expr → (Value → Type 0) → Type 0
  Evaluates f e takes = IsTypable f e × ((v : Value) → MayGive f e v → takes v)

  -- a statement of a function's code, which has no annotation
  abbrev pub IsCode : Function → Setting → Bool → Stmt → Type 0
  IsCode f noted loop s = StatementFits q f noted loop s × IsTrue (is_bare s)

  -- a statement whose completions are taken
  abbrev pub Executes : Function → Stmt → (Completion → Type 0) → Type 0
  Executes f s takes = (noted : Setting) × (loop : Bool) × IsCode f noted loop s × ((l : Completion) → CompletionFits f.result loop l → takes l)

  -- ---- what the parts of a function take, where what is below them takes this

  abbrev pub OperandTakes : Function → (Value → Type 0) → pending.Operand → Value → Type 0
  OperandTakes f takes (pending.Convert k) v = TakesKind k takes
  OperandTakes f takes (pending.Unary o k) v = IsTrue (is_promoted k) × InRange k (integer v) × TakesKind k takes
  OperandTakes f takes (pending.BinaryRight o k e) v = Evaluates f e (λ w. BinaryFits o k v w × TakesKind k takes)
  OperandTakes f takes (pending.BinaryNow o k v) w = BinaryFits o k v w × TakesKind k takes
  OperandTakes f takes (pending.CompareRight o e) v = Evaluates f e (λ w. TakesTruth takes)
  OperandTakes f takes (pending.CompareNow o v) w = TakesTruth takes
  OperandTakes f takes pending.Negated v = TakesTruth takes
  OperandTakes f takes (pending.BothRight e) v = Evaluates f e (λ w. TakesTruth takes) × TakesTruth takes
  OperandTakes f takes (pending.EitherRight e) v = Evaluates f e (λ w. TakesTruth takes) × TakesTruth takes
  OperandTakes f takes pending.Truth v = TakesTruth takes
  OperandTakes f takes (pending.Choose e g) v = Evaluates f e takes × Evaluates f g takes
  OperandTakes f takes pending.Discard v = takes (value.Int (pos 0))
  OperandTakes f takes (pending.MoveRight size side e) v = Evaluates f e (λ w. MoveFits side v w × TakesAddress takes)
  OperandTakes f takes (pending.MoveNow size side v) w = MoveFits side v w × TakesAddress takes
  OperandTakes f takes (pending.DifferenceRight unit e) v = Evaluates f e (λ w. DifferenceFits v w × TakesKind kind.Long takes)
  OperandTakes f takes (pending.DifferenceNow unit v) w = DifferenceFits v w × TakesKind kind.Long takes
  OperandTakes f takes (pending.Store t l) v = IsPlace l × InCell t v × takes v
  OperandTakes f takes (pending.UpdateRight t o e w l) old = IsPlace l × InCell t old × UpdatedFits t o old × Evaluates f e (UpdateFits o) × ((v : Value) → InCell t v → takes v)
  OperandTakes f takes (pending.UpdateNow t o w l old) v = IsPlace l × InCell t old × UpdatedFits t o old × UpdateFits o v × ((v : Value) → InCell t v → takes v)
  OperandTakes f takes (pending.Instead v) w = takes v
  OperandTakes f takes (pending.Allocate t) v = TakesAddress takes
  OperandTakes f takes pending.Release v = IsAddress v × takes (value.Int (pos 0))

  abbrev pub AccessTakes : Function → (Value → Type 0) → pending.Access → Lvalue → Type 0
  AccessTakes f takes (pending.LoadAt t) l = IsPlace l × ((v : Value) → InCell t v → takes v)
  AccessTakes f takes pending.AddressOf (At p) = takes p
  AccessTakes f takes pending.AddressOf (InRegister i) = ⊥
  AccessTakes f takes (pending.AssignRight t e) l = IsPlace l × Evaluates f e (λ v. InCell t v × takes v)
  AccessTakes f takes (pending.UpdateOld t o e w) l = IsPlace l × ((old : Value) → InCell t old → OperandTakes f takes (pending.UpdateRight t o e w l) old)

  abbrev pub SelectionTakes : Function → (Lvalue → Type 0) → pending.Selection → Lvalue → Type 0
  SelectionTakes f takes (pending.MemberAt o) l = IsObject l × TakesObject takes
  SelectionTakes f takes (pending.ElementAt e size) l = IsObject l × Evaluates f e IsInteger × TakesObject takes

  abbrev pub DesignationTakes : (Lvalue → Type 0) → pending.Designation → Value → Type 0
  DesignationTakes takes pending.Dereference v = takes (At v)
  DesignationTakes takes (pending.ElementNow l size) i = IsObject l × IsInteger i × TakesObject takes

  -- ---- statements

  abbrev pub IsLoop : Stmt → Type 0
  IsLoop (st.While' e b s) = Unit {0}
  IsLoop (st.Do' b s e) = Unit {0}
  IsLoop (st.For' test step b s) = Unit {0}
  IsLoop _ = ⊥

  abbrev pub EvaluatesAny : Function → Option Expr → Type 0
  EvaluatesAny f None = Unit {0}
  EvaluatesAny f (Some e) = IsTypable f e

  -- what ends a turn
  abbrev pub EndTakes : Function → (Completion → Type 0) → Stmt → Type 0
  EndTakes f takes (st.Do' b s e) = IsTypable f e × takes Next × takes Broken
  EndTakes f takes (st.For' test step b s) = EvaluatesAny f step × takes Next
  EndTakes f takes s = takes Next

  abbrev pub TurnEndTakes : Function → (Completion → Type 0) → Stmt → Completion → Type 0
  TurnEndTakes f takes s Next = EndTakes f takes s
  TurnEndTakes f takes s Continued = EndTakes f takes s
  TurnEndTakes f takes s Broken = takes Broken
  TurnEndTakes f takes s (Returned v) = takes (Returned v)

  abbrev pub LoopTakes : Function → (Completion → Type 0) → Stmt → Completion → Type 0
  LoopTakes f takes s Next = IsLoop s × Executes f s takes
  LoopTakes f takes s Continued = IsLoop s × Executes f s takes
  LoopTakes f takes s Broken = takes Next
  LoopTakes f takes s (Returned v) = takes (Returned v)

  abbrev pub RestTakes : Function → (Completion → Type 0) → List Stmt → Completion → Type 0
  RestTakes f takes ss Next = (noted : Setting) × (loop : Bool) × AllByRecursion (IsCode f noted loop) ss × ((l : Completion) → CompletionFits f.result loop l → takes l)
  RestTakes f takes ss l = takes l

  abbrev pub PassingTakes : Function → (Completion → Type 0) → pending.Passing → Completion → Type 0
  PassingTakes f takes (pending.Rest ss) l = RestTakes f takes ss l
  PassingTakes f takes (pending.Again s) l = LoopTakes f takes s l
  PassingTakes f takes (pending.TurnEnd s) l = TurnEndTakes f takes s l

  -- a body in a loop, whose completions are taken
  abbrev pub ExecutesInLoop : Function → Stmt → (Completion → Type 0) → Type 0
  ExecutesInLoop f s takes = (noted : Setting) × IsCode f noted true s × ((l : Completion) → CompletionFits f.result true l → takes l)

  abbrev pub ConclusionTakes : Function → (Completion → Type 0) → Stmt → Value → Type 0
  ConclusionTakes f takes (st.Init x o t e) v = ((activation : ℕ) → IsPlace (designated activation x o)) × InCell t v × takes Next × IsTrue (is_some (variable_type (code_setting q f) x))
  ConclusionTakes f takes (st.If' e b (more_of-Stmt s end_of-Stmt) c (more_of-Stmt u end_of-Stmt)) v = Executes f s takes × Executes f u takes
  ConclusionTakes f takes (st.While' e b (more_of-Stmt s end_of-Stmt)) v = ExecutesInLoop f s takes × takes Broken
  ConclusionTakes f takes (st.Do' b s e) v = takes Next × takes Broken
  ConclusionTakes f takes (st.For' test step b (more_of-Stmt s end_of-Stmt)) v = ExecutesInLoop f s (TurnEndTakes f takes (st.For' test step b (more_of-Stmt s end_of-Stmt))) × takes Broken
  ConclusionTakes f takes (st.Return e) v = takes (Returned (Some v))
  ConclusionTakes f takes s v = takes Next

  -- ---- calls

  -- the call, where these arguments are there with those that come
  abbrev pub CallTakes : Function → ℕ → List Expr → (List Value → List Value) → (Value → Type 0) → Type 0
  CallTakes f g es more takes =
      AllByRecursion (IsTypable f) es × (callee : Function) × (called q g ≡ Some callee)
      × ((vs : List Value) → MayGiveAll f es vs → InCells (parameter_types callee) (more vs)) × ((v : Value) → OfType callee.result v → takes v)

  -- the start of an activation, where so many are open
  abbrev pub EnterTakes : List Function → ℕ → List Value → (Value → Type 0) → Type 0
  EnterTakes fs g vs takes =
      (callee : Function) × (slice_get q.functions g ≡ Some callee) × IsTrue (has_body callee) × ((g == q.start) ≡ is_empty fs)
      × InCells (parameter_types callee) vs × ((v : Value) → OfType callee.result v → takes v)

  -- the end of an activation
  abbrev pub LeaveTakes : Function → ℕ → CType → Completion → (Value → Type 0) → Type 0
  LeaveTakes f g t l takes = (slice_get q.functions g ≡ Some f) × (t ≡ f.result) × CompletionFits f.result false l × ((v : Value) → OfType f.result v → takes v)

  -- ---- the stack, with the functions of the open activations, the innermost first, and the arguments evaluated so far

  abbrev mutual
    pub TakesValue : List Function → List Value → List pending.Pending → Value → Type 0
    TakesValue fs vs [] v = InCell int v
    TakesValue (f ∷ fs) vs (pending.Operate o ∷ ps) v = OperandTakes f (TakesValue (f ∷ fs) vs ps) o v
    TakesValue (f ∷ fs) vs (pending.Designate x ∷ ps) v = DesignationTakes (TakesLvalue (f ∷ fs) vs ps) x v
    TakesValue (f ∷ fs) vs (pending.Conclude s ∷ ps) v = ConclusionTakes f (TakesEnd (f ∷ fs) vs ps) s v
    TakesValue (f ∷ fs) vs (pending.Ignore ∷ ps) v = TakesEnd (f ∷ fs) vs ps Next
    TakesValue (f ∷ fs) vs (pending.Output ∷ ps) v = TakesKind kind.Int (TakesValue (f ∷ fs) vs ps)
    TakesValue (f ∷ fs) vs (pending.Argument g es n ∷ ps) v = CallTakes f g es (λ ws. pending.reversed_onto (take n vs) (v ∷ ws)) (TakesValue (f ∷ fs) (drop n vs) ps)
    TakesValue fs vs ps v = ⊥

    pub TakesLvalue : List Function → List Value → List pending.Pending → Lvalue → Type 0
    TakesLvalue (f ∷ fs) vs (pending.Accessed a ∷ ps) l = AccessTakes f (TakesValue (f ∷ fs) vs ps) a l
    TakesLvalue (f ∷ fs) vs (pending.Select x ∷ ps) l = SelectionTakes f (TakesLvalue (f ∷ fs) vs ps) x l
    TakesLvalue fs vs ps l = ⊥

    pub TakesEnd : List Function → List Value → List pending.Pending → Completion → Type 0
    TakesEnd (f ∷ fs) vs (pending.Evaluate e ∷ ps) Next = Evaluates f e (TakesValue (f ∷ fs) vs ps)
    TakesEnd (f ∷ fs) vs (pending.Locate p ∷ ps) Next = IsTypablePlace f p × ((l : Lvalue) → MayDesignate f p l → TakesLvalue (f ∷ fs) vs ps l)
    TakesEnd (f ∷ fs) vs (pending.Execute s ∷ ps) Next = Executes f s (TakesEnd (f ∷ fs) vs ps)
    TakesEnd (f ∷ fs) vs (pending.Pass x ∷ ps) l = PassingTakes f (TakesEnd (f ∷ fs) vs ps) x l
    TakesEnd (f ∷ fs) vs (pending.Input ∷ ps) Next = TakesKind kind.Int (TakesValue (f ∷ fs) vs ps)
    TakesEnd (f ∷ fs) vs (pending.Arguments g es n ∷ ps) Next = CallTakes f g es (pending.reversed_onto (take n vs)) (TakesValue (f ∷ fs) (drop n vs) ps)
    TakesEnd fs vs (pending.Enter g n ∷ ps) Next = EnterTakes fs g (pending.reversed_onto (take n vs) []) (TakesValue fs (drop n vs) ps)
    TakesEnd (f ∷ fs) vs (pending.Leave g t ∷ ps) l = LeaveTakes f g t l (TakesValue fs vs ps)
    TakesEnd fs vs (pending.Halt x ∷ ps) l = Unit {0}
    TakesEnd fs vs ps l = ⊥

  -- the part on top takes what was told
  abbrev pub Takes : List Function → List Value → List pending.Pending → pending.Told → Type 0
  Takes fs vs ps (pending.Gave v) = TakesValue fs vs ps v
  Takes fs vs ps (pending.Found l) = TakesLvalue fs vs ps l
  Takes fs vs ps (pending.Left l) = TakesEnd fs vs ps l

  -- ---- the state

  abbrev pub register_types : Function → List CType
  register_types f = map (λ d. d.ctype) f.registers

  -- registers hold values of their types, those of the callers too
  abbrev pub CallersFit : List Function → List pending.Caller → Type 0
  CallersFit [] cs = Unit {0}
  CallersFit (f ∷ fs) [] = ⊥
  CallersFit (f ∷ fs) (c ∷ cs) = RegistersFit (register_types f) c.registers × CallersFit fs cs

  abbrev pub AllRegistersFit : List Function → Registers → List pending.Caller → Type 0
  AllRegistersFit [] r cs = Unit {0}
  AllRegistersFit (f ∷ fs) r cs = RegistersFit (register_types f) r × CallersFit fs cs

  -- the memory and the registers, with these activations open
  pub record StateFits (fs : List Function) (memory : Memory) (allocated : ℕ) (registers : Registers) (callers : List pending.Caller) : Type 0 where
    pub shapes : List Shape
    pub memory_fits : MemoryFits (global_cells q) shapes memory
    pub heap_falls : HeapFalls memory allocated
    pub registers_fit : AllRegistersFit fs registers callers
    pub formed : AllByRecursion (IsWellFormedFunction q) fs

  abbrev pub IsTyped : List Function → Configuration → Type 0
  IsTyped fs m = StateFits fs m.memory m.allocated m.context.registers m.context.callers × Takes fs m.context.arguments m.work m.told
