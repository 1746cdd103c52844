-- A point that fits in hooks fits among those of several hooks, joined: its code speaks of the same ghost variables by other numbers.
use Rattle.std.specs.List.{AllByRecursion}
use Rattle.std.proofs.Common.{◌≡◌, ℕ, zero, suc, List, [], ◌∷◌, ◌++◌, length, slice_get, Some, None, refl, sym, subst, ap, ◌∙◌, arith}
use Rattle.std.specs.Prelude.{◌+◌, ◌-◌, ◌<◌, ◌≤◌, replicate, option_map}
use Rattle.step_meaning.specs.declared.value.NameKind.{NameKind}
use Rattle.step_meaning.specs.declared.value.NameKind.TheVariants as names
use Rattle.step_meaning.specs.declared.expr.Variable.{Variable}
use Rattle.step_meaning.specs.declared.predicate.Term.{Term, end_of-Term, more_of-Term}
use Rattle.step_meaning.specs.declared.predicate.Term.TheVariants as t
use Rattle.step_meaning.specs.declared.predicate.TermPlace.{TermPlace, end_of-TermPlace, more_of-TermPlace}
use Rattle.step_meaning.specs.declared.predicate.TermPlace.TheVariants as p
use Rattle.step_meaning.specs.declared.predicate.Predicate.{Predicate, end_of-Predicate, more_of-Predicate}
use Rattle.step_meaning.specs.declared.predicate.Predicate.TheVariants.{True, False, Not', And', Or', Implies', Iff', Relation, Valid, Separated, Called, Event as IsEvent}
use Rattle.step_meaning.specs.declared.program.HookPlace.{HookPlace}
use Rattle.step_meaning.specs.declared.stmt.Stmt.{Stmt}
use Rattle.step_meaning.specs.declared.stmt.Stmt.TheVariants.{Ghost, Assert}
use Rattle.step_meaning.specs.declared.program.Core.{Core}
use Rattle.step_meaning.specs.declared.program.Declared.{Declared}
use Rattle.step_meaning.specs.declared.program.Hooks.{Hooks}
use Rattle.step_meaning.specs.declared.program.HookPoint.{HookPoint}
use Rattle.step_meaning.specs.declared.stmt.VerdictKind.TheVariants.{Safe}
use Rattle.step_meaning.specs.declared.stmt.GhostStmt.{GhostStmt, Row_of-GhostStmt, end_of-GhostStmt, more_of-GhostStmt}
use Rattle.step_meaning.specs.declared.stmt.GhostStmt.TheVariants.{Set, When'}
use Rattle.step_meaning.specs.declared.program.HookPlace.TheVariants as place
use Rattle.step_meaning.specs.Settings.{variable_type}
use Rattle.step_meaning.specs.TermParts.{Conditions, no_condition, EachInTerm, EachInPredicate, EachInGhost, EachInAllGhosts, EachInCode}
use Rattle.step_meaning.specs.Fold.{saves_of}
use Rattle.step_meaning.specs.Fit.{IsOwnMonitor, not_own, hook_setting, IsOwnNumber, IsOwnGhost, IsUsableKind, IsUsablePlace, IsUsableTerm, IsUsablePredicate, usable, MaySet, IsPartOfGhost, IsNoGhostAddress, no_past, IsNotAtPre, IsNoEvent, kept, IsKeptPlace, IsNotOfStep, IsNotOfCall, EachPart, IsOneAssertion, IsOneWhereChanged, IsShallow, IsSmallTerm, IsSmallPredicate, IsHookStatement, PointFits, PointFitsFor}
use Rattle.weaver_laws.specs.Joining.{shift_index, shift_variable, shift_term, shift_place, shift_predicate, shift_ghost, shift_ghosts, shift_code, shift_points}
use Rattle.weaver_laws.proofs.ShiftedParts.{code_fits}
use Rattle.weaver_laws.proofs.ShiftedSizes.{each_term, each_predicate, nodes_same, predicate_nodes_same, depth_same}

-- ---- all code

module _ (n : ℕ) (P Q : Variable → Term → Type 0) (R S : Predicate → Type 0) (on_set : (v : Variable) (e : Term) → P v e → Q (shift_variable n v) (shift_term n e)) (on_whole : (r : Predicate) → R r → S (shift_predicate n r)) where
  mutual
    each_ghost : (g : GhostStmt) → EachInGhost P R g → EachInGhost Q S (shift_ghost n g)
    each_ghost (Set v e) x = on_set v e x
    each_ghost (When' r b h d k) x = (on_whole r x.0, each_ghosts h x.1, each_ghosts k x.2)

    each_ghosts : {m : _} (gs : Row_of-GhostStmt m) → EachInAllGhosts P R gs → EachInAllGhosts Q S (shift_ghosts n gs)
    each_ghosts end_of-GhostStmt x = tt
    each_ghosts (more_of-GhostStmt g more) x = (each_ghost g x.0, each_ghosts more x.1)

  each_code : (c : List Stmt) → EachInCode P R c → EachInCode Q S (shift_code n c)
  each_code [] x = tt
  each_code (Ghost g ∷ c) x = (each_ghost g x.0, each_code c x.1)
  each_code (Assert k m r ∷ c) x = (on_whole r x.0, each_code c x.1)
  each_code (s ∷ c) x = each_code c x

-- conditions on all parts of all code
each_part : (n : ℕ) (c d : Conditions) → ((e : Term) → c.on_term e → d.on_term (shift_term n e)) → ((q : TermPlace) → c.on_place q → d.on_place (shift_place n q)) → ((r : Predicate) → c.on_predicate r → d.on_predicate (shift_predicate n r))
    → (code : List Stmt) → EachPart c code → EachPart d (shift_code n code)
each_part n c d x y z code = each_code n (λ v e. EachInTerm c e) (λ v e. EachInTerm d e) (EachInPredicate c) (EachInPredicate d) (λ v e. each_term n c d x y z e) (each_predicate n c d x y z) code

-- ---- the ghost variables of hooks among those of all

pub record Slots (h : Hooks) (before : ℕ → ℕ) (all : Hooks) : Type 0 where
  pub saves : (f i : ℕ) → i < length (saves_of h.points f) → slice_get (saves_of all.points f) (before f + i) ≡ slice_get (saves_of h.points f) i
  pub globals : (i : ℕ) → i < length h.globals → slice_get all.globals (h.first + i) ≡ slice_get h.globals i
  pub first : all.first ≡ 0

within : {A : Type 0} (xs ys : List A) (i k : ℕ) → i < length xs → slice_get ys k ≡ slice_get xs i → k < length ys
within [] ys i k l e = absurd (omega arith)
within (x ∷ xs) ys zero k l e = there ys k e
  where
    there : (ys : List _) (k : ℕ) → slice_get ys k ≡ Some x → k < length ys
    there [] k e = no e
      where
        no : None ≡ Some x → k < 0
        no e = cc
    there (y ∷ ys) zero e = omega arith
    there (y ∷ ys) (suc k) e = let l = there ys k e in omega arith
within (x ∷ xs) ys (suc i) k l e = within xs ys i k (omega arith) e

after_not_own : (n k : ℕ) (ds : List Declared) → slice_get (replicate n not_own ++ ds) (n + k) ≡ slice_get ds k
after_not_own zero k ds = let e : 0 + k ≡ k = omega arith in ap (λ i. slice_get ds i) e
after_not_own (suc n) k ds = let e : suc n + k ≡ suc (n + k) = omega arith in ap (λ i. slice_get (replicate (suc n) not_own ++ ds) i) e ∙ after_not_own n k ds

module _ (q : Core) (h : Hooks) (before : ℕ → ℕ) (all : Hooks) (slots : Slots h before all) (IsTheirs : ℕ → Type 0) (theirs : IsTheirs h.monitor) where
  own_number : (f : ℕ) (k : NameKind) (i : ℕ) → IsOwnNumber h f k i → IsOwnNumber all f k (shift_index (before f) k i)
  own_number f names.Global i x = x
  own_number f names.Local i x = x
  own_number f names.Heap i x = x
  own_number f names.Register i x = x
  own_number f names.GhostLocal i x = within (saves_of h.points f) (saves_of all.points f) i (before f + i) x (slots.saves f i x)
  own_number f names.GhostGlobal i x = (low, high)
    where
      low : all.first ≤ i
      low = let e = slots.first in omega arith

      high : i < all.first + length all.globals
      high =
          let a : h.first ≤ i = x.0 in
          let b : i < h.first + length h.globals = x.1 in
          let k = i - h.first in
          let c : k < length h.globals = omega arith in
          let l = within h.globals all.globals k (h.first + k) c (slots.globals k c) in
          let e = slots.first in
          omega arith

  usable_number : (f : ℕ) (k : NameKind) (i : ℕ) → IsUsableKind h f k i → IsUsableKind all f k (shift_index (before f) k i)
  usable_number f names.Global i x = tt
  usable_number f names.Local i x = x
  usable_number f names.Heap i x = x
  usable_number f names.Register i x = x
  usable_number f names.GhostLocal i x = own_number f names.GhostLocal i x
  usable_number f names.GhostGlobal i x = own_number f names.GhostGlobal i x

  types : (f : ℕ) (k : NameKind) (i : ℕ) → IsUsableKind h f k i → variable_type (hook_setting q all f) (record { kind = k; index = shift_index (before f) k i }) ≡ variable_type (hook_setting q h f) (record { kind = k; index = i })
  types f names.Global i x = refl
  types f names.Local i x = absurd x
  types f names.Heap i x = absurd x
  types f names.Register i x = absurd x
  types f names.GhostLocal i x = ap (λ o. option_map (λ (d : Declared). d.ctype) o) (slots.saves f i x)
  types f names.GhostGlobal i x = ap (λ o. option_map (λ (d : Declared). d.ctype) o) same
    where
      same : slice_get (replicate all.first not_own ++ all.globals) i ≡ slice_get (replicate h.first not_own ++ h.globals) i
      same =
          let a : h.first ≤ i = x.0 in
          let b : i < h.first + length h.globals = x.1 in
          let k = i - h.first in
          let e : h.first + k ≡ i = omega arith in
          let c : k < length h.globals = omega arith in
          subst (λ i. slice_get (replicate all.first not_own ++ all.globals) i ≡ slice_get (replicate h.first not_own ++ h.globals) i) e
          (ap (λ (n : ℕ). slice_get (replicate n not_own ++ all.globals) (h.first + k)) slots.first ∙ (slots.globals k c ∙ sym (after_not_own h.first k h.globals)))

  module _ (pt : HookPoint) (fits : PointFits q h pt) where
    abbrev n : ℕ
    n = before pt.function

    abbrev moved : HookPoint
    moved = record pt { code = shift_code n pt.code }

    part_of_ghost : (r : TermPlace) → IsPartOfGhost (shift_place n r) → IsPartOfGhost r
    part_of_ghost (p.Own v) x = x
    part_of_ghost (p.Deref' b (more_of-Term e end_of-Term)) x = x
    part_of_ghost (p.Member' b (more_of-TermPlace r end_of-TermPlace) o) x = part_of_ghost r x
    part_of_ghost (p.Index' b (more_of-TermPlace r end_of-TermPlace) c (more_of-Term e end_of-Term) size) x = part_of_ghost r x

    no_address : (e : Term) → IsNoGhostAddress e → IsNoGhostAddress (shift_term n e)
    no_address (t.Address r u) x = λ y. x (part_of_ghost r y)
    no_address (t.Load r u) x = tt
    no_address (t.Neg' b (more_of-Term e end_of-Term)) x = tt
    no_address (t.Arith' o b (more_of-Term e end_of-Term) k (more_of-Term f end_of-Term)) x = tt
    no_address (t.Move' b (more_of-Term e end_of-Term) k (more_of-Term f end_of-Term) size) x = tt
    no_address (t.AtPre r u) x = tt
    no_address (t.Int z) x = tt
    no_address t.Null x = tt
    no_address t.Accessed x = tt
    no_address (t.Parameter f i) x = tt
    no_address (t.Result f) x = tt

    usable_term : (e : Term) → IsUsableTerm pt e → IsUsableTerm moved (shift_term n e)
    usable_term (t.Address r u) x = tt
    usable_term (t.Load r u) x = tt
    usable_term (t.Neg' b (more_of-Term e end_of-Term)) x = tt
    usable_term (t.Arith' o b (more_of-Term e end_of-Term) k (more_of-Term f end_of-Term)) x = tt
    usable_term (t.Move' b (more_of-Term e end_of-Term) k (more_of-Term f end_of-Term) size) x = tt
    usable_term (t.AtPre r u) x = tt
    usable_term (t.Int z) x = tt
    usable_term t.Null x = tt
    usable_term t.Accessed x = x
    usable_term (t.Parameter f i) x = x
    usable_term (t.Result f) x = x

    usable_place : (r : TermPlace) → IsUsablePlace h pt.function r → IsUsablePlace all pt.function (shift_place n r)
    usable_place (p.Own v) x = usable_number pt.function v.kind v.index x
    usable_place (p.Deref' b (more_of-Term e end_of-Term)) x = tt
    usable_place (p.Member' b (more_of-TermPlace r end_of-TermPlace) o) x = tt
    usable_place (p.Index' b (more_of-TermPlace r end_of-TermPlace) c (more_of-Term e end_of-Term) size) x = tt

    usable_predicate : (r : Predicate) → IsUsablePredicate pt r → IsUsablePredicate moved (shift_predicate n r)
    usable_predicate True x = tt
    usable_predicate False x = tt
    usable_predicate (Not' b (more_of-Predicate r end_of-Predicate)) x = tt
    usable_predicate (And' b (more_of-Predicate s end_of-Predicate) k (more_of-Predicate r end_of-Predicate)) x = tt
    usable_predicate (Or' b (more_of-Predicate s end_of-Predicate) k (more_of-Predicate r end_of-Predicate)) x = tt
    usable_predicate (Implies' b (more_of-Predicate s end_of-Predicate) k (more_of-Predicate r end_of-Predicate)) x = tt
    usable_predicate (Iff' b (more_of-Predicate s end_of-Predicate) k (more_of-Predicate r end_of-Predicate)) x = tt
    usable_predicate (Relation o e f) x = tt
    usable_predicate (Valid l) x = tt
    usable_predicate (Separated ls) x = tt
    usable_predicate (Called g flag) x = x
    usable_predicate (IsEvent k g) x = tt

    not_pre : (e : Term) → IsNotAtPre e → IsNotAtPre (shift_term n e)
    not_pre (t.Address r u) x = tt
    not_pre (t.Load r u) x = tt
    not_pre (t.Neg' b (more_of-Term e end_of-Term)) x = tt
    not_pre (t.Arith' o b (more_of-Term e end_of-Term) k (more_of-Term f end_of-Term)) x = tt
    not_pre (t.Move' b (more_of-Term e end_of-Term) k (more_of-Term f end_of-Term) size) x = tt
    not_pre (t.AtPre r u) x = absurd x
    not_pre (t.Int z) x = tt
    not_pre t.Null x = tt
    not_pre t.Accessed x = tt
    not_pre (t.Parameter f i) x = tt
    not_pre (t.Result f) x = tt

    no_event : (r : Predicate) → IsNoEvent r → IsNoEvent (shift_predicate n r)
    no_event True x = tt
    no_event False x = tt
    no_event (Not' b (more_of-Predicate r end_of-Predicate)) x = tt
    no_event (And' b (more_of-Predicate s end_of-Predicate) k (more_of-Predicate r end_of-Predicate)) x = tt
    no_event (Or' b (more_of-Predicate s end_of-Predicate) k (more_of-Predicate r end_of-Predicate)) x = tt
    no_event (Implies' b (more_of-Predicate s end_of-Predicate) k (more_of-Predicate r end_of-Predicate)) x = tt
    no_event (Iff' b (more_of-Predicate s end_of-Predicate) k (more_of-Predicate r end_of-Predicate)) x = tt
    no_event (Relation o e f) x = tt
    no_event (Valid l) x = tt
    no_event (Separated ls) x = tt
    no_event (Called g flag) x = tt
    no_event (IsEvent k g) x = absurd x

    not_of_step : (e : Term) → IsNotOfStep e → IsNotOfStep (shift_term n e)
    not_of_step (t.Address r u) x = tt
    not_of_step (t.Load r u) x = tt
    not_of_step (t.Neg' b (more_of-Term e end_of-Term)) x = tt
    not_of_step (t.Arith' o b (more_of-Term e end_of-Term) k (more_of-Term f end_of-Term)) x = tt
    not_of_step (t.Move' b (more_of-Term e end_of-Term) k (more_of-Term f end_of-Term) size) x = tt
    not_of_step (t.AtPre r u) x = tt
    not_of_step (t.Int z) x = tt
    not_of_step t.Null x = tt
    not_of_step t.Accessed x = absurd x
    not_of_step (t.Parameter f i) x = absurd x
    not_of_step (t.Result f) x = absurd x

    not_of_call : (r : Predicate) → IsNotOfCall r → IsNotOfCall (shift_predicate n r)
    not_of_call True x = tt
    not_of_call False x = tt
    not_of_call (Not' b (more_of-Predicate r end_of-Predicate)) x = tt
    not_of_call (And' b (more_of-Predicate s end_of-Predicate) k (more_of-Predicate r end_of-Predicate)) x = tt
    not_of_call (Or' b (more_of-Predicate s end_of-Predicate) k (more_of-Predicate r end_of-Predicate)) x = tt
    not_of_call (Implies' b (more_of-Predicate s end_of-Predicate) k (more_of-Predicate r end_of-Predicate)) x = tt
    not_of_call (Iff' b (more_of-Predicate s end_of-Predicate) k (more_of-Predicate r end_of-Predicate)) x = tt
    not_of_call (Relation o e f) x = tt
    not_of_call (Valid l) x = tt
    not_of_call (Separated ls) x = tt
    not_of_call (Called g flag) x = absurd x
    not_of_call (IsEvent k g) x = tt

    kept_place : (r : TermPlace) → IsKeptPlace r → IsKeptPlace (shift_place n r)
    kept_place (p.Own v) x = x
    kept_place (p.Deref' b (more_of-Term e end_of-Term)) x = tt
    kept_place (p.Member' b (more_of-TermPlace r end_of-TermPlace) o) x = tt
    kept_place (p.Index' b (more_of-TermPlace r end_of-TermPlace) c (more_of-Term e end_of-Term) size) x = tt

    -- ---- statement by statement

    statements_of : (c : List Stmt) → AllByRecursion (IsHookStatement (IsOwnMonitor h)) c → AllByRecursion (IsHookStatement IsTheirs) (shift_code n c)
    statements_of [] x = tt
    statements_of (Ghost g ∷ c) x = (tt, statements_of c x.1)
    statements_of (Assert k m r ∷ c) x = (subst IsTheirs (sym x.0) theirs, statements_of c x.1)
    statements_of _ x = absurd x.0

    shallow : (c : List Stmt) → AllByRecursion IsShallow c → AllByRecursion IsShallow (shift_code n c)
    shallow [] x = tt
    shallow (Ghost g ∷ c) x = (subst (λ d. d ≤ 100) (sym (depth_same n g)) x.0, shallow c x.1)
    shallow (Assert k m r ∷ c) x = (tt, shallow c x.1)
    shallow (s ∷ c) x = (tt, shallow c x.1)

    one_assertion : (c : List Stmt) → IsOneAssertion c → IsOneAssertion (shift_code n c)
    one_assertion (Assert Safe m r ∷ []) x = each_predicate n kept kept not_of_step kept_place not_of_call r x
    one_assertion _ x = absurd x

    one_changed : (pl : HookPlace) (c : List Stmt) → IsOneWhereChanged pl c → IsOneWhereChanged pl (shift_code n c)
    one_changed place.Changed c x = one_assertion c x
    one_changed place.Enter c x = tt
    one_changed place.Return c x = tt
    one_changed place.Read c x = tt
    one_changed place.Write c x = tt
    one_changed place.Call c x = tt

    nothing_of : (r : Predicate) → Unit {0} → Unit {0}
    nothing_of r x = tt

    pub point_fits : PointFitsFor IsTheirs q all moved
    point_fits =
        record {
          function = fits.function;
          saves = fits.saves;
          statements = statements_of pt.code fits.statements;
          sets_own = each_code n (λ v e. IsOwnGhost h pt.function v) (λ v e. IsOwnGhost all pt.function v) (λ r. Unit {0}) (λ r. Unit {0}) (λ v e x. own_number pt.function v.kind v.index x) nothing_of pt.code fits.sets_own;
          saves_at_enter = each_code n (λ v e. MaySet pt.place v.kind) (λ v e. MaySet pt.place v.kind) (λ r. Unit {0}) (λ r. Unit {0}) (λ v e x. x) nothing_of pt.code fits.saves_at_enter;
          no_ghost_address = each_part n addresses addresses no_address (λ r x. tt) (λ r x. tt) pt.code fits.no_ghost_address;
          uses = each_part n (usable h pt) (usable all moved) usable_term usable_place usable_predicate pt.code fits.uses;
          changed = one_changed pt.place pt.code fits.changed;
          past = each_part n no_past no_past not_pre (λ r x. tt) no_event pt.code fits.past;
          depth = shallow pt.code fits.depth;
          size = each_code n (λ v e. IsSmallTerm e) (λ v e. IsSmallTerm e) IsSmallPredicate IsSmallPredicate (λ v e x. subst (λ k. k ≤ 900) (sym (nodes_same n 2 e)) x) (λ r x. subst (λ k. k ≤ 900) (sym (predicate_nodes_same n 2 r)) x) pt.code fits.size;
          fits = code_fits q h all pt n (λ k i x. types pt.function k i x) pt.code fits.uses fits.sets_own fits.fits;
        }
      where
        addresses : Conditions
        addresses = record no_condition { on_term = IsNoGhostAddress }

  pub points_fit : (pts : List HookPoint) → AllByRecursion (PointFits q h) pts → AllByRecursion (PointFitsFor IsTheirs q all) (shift_points before pts)
  points_fit [] x = tt
  points_fit (pt ∷ pts) x = (point_fits pt x.0, points_fit pts x.1)
