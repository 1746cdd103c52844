-- What is ready stays ready.
use Rattle.std.proofs.Common.{◌≡◌, ℕ, List, [], ◌∷◌, ◌++◌, refl, sym, ap, subst}
use Rattle.std.specs.List.{AllByRecursion}
use Rattle.step_meaning.specs.declared.value.CType.{CType}
use Rattle.step_meaning.specs.declared.expr.Variable.{Variable}
use Rattle.step_meaning.specs.declared.program.Layout.{Layout}
use Rattle.typing_rules.specs.declared.operand.Entry.TheVariants as entry
use Rattle.typing_rules.specs.Environment.{Environment, Scope}
use Rattle.typing_rules.specs.Statements.{Frame, seen, with_name, opened, closed, tail}
use Rattle.typing_laws.specs.SmallTypes.{IsSmall, IsSmallType, IsSmallScope}
use Rattle.typing_declarators.specs.Types.{StructsHaveCells}
use Rattle.typing_scopes.specs.declared.known.Known.{Known}
use Rattle.typing_scopes.specs.Known.{known, state, frame}
use Rattle.typing_scopes.specs.States.{State, environment, no_frame, with_local}
use Rattle.typing_statements.specs.Points.{outside, around, frame_at, IsReady}

-- what a body sees at a point is what the code knows there
pub seen_at : (k : Known) (r : CType) → seen (around (outside k)) r (frame_at k) ≡ known k
unfolding outside around frame_at
seen_at k r = refl

module _ (ls : List Layout) where
  one_more : (s : Scope) (name : List ℕ) (v : Variable) (t : CType) → IsSmallType ls t → IsSmallScope ls s → IsSmallScope ls (s ++ ((name, entry.Variable v t) ∷ []))
  one_more [] name v t h tt = (h, tt)
  one_more (p ∷ s) name v t h (x, y) = (x, one_more s name v t h y)

  pub name_ready : (ss outer : List Scope) (name : List ℕ) (v : Variable) (t : CType) → IsSmallType ls t → AllByRecursion (IsSmallScope ls) (ss ++ outer) → AllByRecursion (IsSmallScope ls) (with_name name v t ss ++ outer)
  name_ready [] outer name v t h all = ((h, tt), all)
  name_ready (s ∷ ss) outer name v t h (x, y) = (one_more s name v t h x, y)

  pub tail_ready : (ss outer : List Scope) → AllByRecursion (IsSmallScope ls) (ss ++ outer) → AllByRecursion (IsSmallScope ls) (tail ss ++ outer)
  tail_ready [] outer all = all
  tail_ready (s ∷ ss) outer (x, y) = y

abbrev ReadyIn : State → Type 0
ReadyIn s = IsSmall (environment s) × StructsHaveCells (environment s).layouts

at_state : (k : Known) (s : State) → state k ≡ s → ReadyIn s → IsReady k
unfolding IsReady
at_state k s e h = subst ReadyIn (sym e) h

pub local_ready : (k k' : Known) (name : List ℕ) (t : CType) → IsReady k → IsSmallType (known k).layouts t → state k' ≡ record (state k) { frame = with_local name t (frame k) } → IsReady k'
unfolding IsReady
local_ready k k' name t (small, cells) h e = at_state k' (record (state k) { frame = with_local name t (frame k) }) e (record { structs = small.structs; names = name_ready (known k).layouts (frame k).scopes _ name _ t h small.names }, cells)

pub opened_ready : (k k' : Known) → IsReady k → state k' ≡ record (state k) { frame = opened (frame k) } → IsReady k'
unfolding IsReady
opened_ready k k' (small, cells) e = at_state k' (record (state k) { frame = opened (frame k) }) e (record { structs = small.structs; names = (tt, small.names) }, cells)

pub closed_ready : (k k' : Known) → IsReady k → state k' ≡ record (state k) { frame = closed (frame k) } → IsReady k'
unfolding IsReady
closed_ready k k' (small, cells) e = at_state k' (record (state k) { frame = closed (frame k) }) e (record { structs = small.structs; names = tail_ready (known k).layouts (frame k).scopes _ small.names }, cells)

pub outside_after : (k k' : Known) (f : Frame) → state k' ≡ record (state k) { frame = f } → outside k' ≡ outside k
unfolding outside
outside_after k k' f e = same (state k') e
  where
    same : (s : State) → s ≡ record (state k) { frame = f } → record s { frame = no_frame } ≡ record (state k) { frame = no_frame }
    same s h = rw h refl

pub frame_after : (k k' : Known) (f : Frame) → state k' ≡ record (state k) { frame = f } → frame_at k' ≡ f
unfolding frame_at
frame_after k k' f e = ap {A = State} (λ s. s.frame) e

pub small_at : (k : Known) → IsReady k → IsSmall (known k)
unfolding IsReady
small_at k h = h.0

pub cells_at : (k : Known) → IsReady k → StructsHaveCells (known k).layouts
unfolding IsReady
cells_at k h = h.1

pub frame_opened : (k k' : Known) → state k' ≡ record (state k) { frame = opened (frame k) } → frame_at k' ≡ opened (frame_at k)
unfolding frame_at
frame_opened k k' e = ap {A = State} (λ s. s.frame) e

pub frame_closed : (k k' : Known) → state k' ≡ record (state k) { frame = closed (frame k) } → frame_at k' ≡ closed (frame_at k)
unfolding frame_at
frame_closed k k' e = ap {A = State} (λ s. s.frame) e
