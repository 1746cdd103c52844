-- Hooks that fit a core: what a weaver asks of the code that it puts beside a program's steps.
use Rattle.std.specs.Prelude.{◌≡◌, ◌≢◌, ℕ, ◌+◌, ◌≤◌, ◌<◌, ◌^◌, nat_lt, Bool, true, false, ◌&&◌, if◌then◌else◌, ◌==◌, IsTrue, List, [], ◌∷◌, ◌++◌, length, replicate, None}
use Rattle.std.specs.List.{AllByRecursion, AllPairs, Contains}
use Rattle.step_meaning.specs.declared.value.CType.{CType, end_of-CType, more_of-CType}
use Rattle.step_meaning.specs.declared.value.CType.TheVariants as type
use Rattle.step_meaning.specs.declared.value.NameKind.{NameKind}
use Rattle.step_meaning.specs.declared.value.NameKind.TheVariants as names
use Rattle.step_meaning.specs.declared.expr.Variable.{Variable}
use Rattle.step_meaning.specs.declared.predicate.Term.{Term}
use Rattle.step_meaning.specs.declared.predicate.Term.TheVariants as t
use Rattle.step_meaning.specs.declared.predicate.TermPlace.{TermPlace, end_of-TermPlace, more_of-TermPlace}
use Rattle.step_meaning.specs.declared.predicate.TermPlace.TheVariants as p
use Rattle.step_meaning.specs.declared.predicate.Predicate.{Predicate}
use Rattle.step_meaning.specs.declared.predicate.Predicate.TheVariants.{Called, Event as IsEvent}
use Rattle.step_meaning.specs.declared.stmt.VerdictKind.TheVariants.{Safe}
use Rattle.step_meaning.specs.declared.stmt.Stmt.{Stmt}
use Rattle.step_meaning.specs.declared.stmt.Stmt.TheVariants.{Ghost, Assert}
use Rattle.step_meaning.specs.declared.program.Core.{Core}
use Rattle.step_meaning.specs.declared.program.Declared.{Declared}
use Rattle.step_meaning.specs.declared.program.Function.{Function}
use Rattle.step_meaning.specs.declared.program.Layout.{Layout}
use Rattle.step_meaning.specs.declared.program.Hooks.{Hooks}
use Rattle.step_meaning.specs.declared.program.HookPoint.{HookPoint}
use Rattle.step_meaning.specs.declared.program.HookPlace.{HookPlace}
use Rattle.step_meaning.specs.declared.program.HookPlace.TheVariants as place
use Rattle.step_meaning.specs.Settings.{Setting}
use Rattle.step_meaning.specs.Traced.{IsFunctionOf}
use Rattle.step_meaning.specs.TypeRules.{is_scalar, keeps_rules}
use Rattle.step_meaning.specs.TermSizes.{type_depth, ghost_depth, term_nodes_as_read, predicate_nodes_as_read}
use Rattle.step_meaning.specs.TermParts.{Conditions, no_condition, EachInTerm, EachInPredicate, EachInCode}
use Rattle.step_meaning.specs.Allowances.{Allowed, nothing_else, type_of_parameter, type_of_result}
use Rattle.step_meaning.specs.Annotations.{PredicateFits, GhostFits, IsGhostKind}
use Rattle.step_meaning.specs.Fold.{saves_of}

-- ---- ghost variables

-- a type names no structs but those with these layouts
abbrev pub NamesLayouts : List Layout → CType → Type 0
NamesLayouts layouts (type.Pointer' b (more_of-CType u end_of-CType)) = NamesLayouts layouts u
NamesLayouts layouts (type.Array' b (more_of-CType u end_of-CType) n) = NamesLayouts layouts u
NamesLayouts layouts (type.Struct n) = n < length layouts
NamesLayouts layouts _ = Unit {0}

-- a scalar whose type names the core's structs alone, keeps the rules on types, and nests at most 100 deep
pub record IsGhostOf (q : Core) (d : Declared) : Type 0 where
  pub scalar : IsTrue (is_scalar d.ctype)
  pub layouts : NamesLayouts q.layouts d.ctype
  pub rules : IsTrue (keeps_rules q.layouts d.ctype)
  pub depth : type_depth d.ctype ≤ 100

-- ---- places of points

abbrev pub is_enter_place : HookPlace → Bool
is_enter_place place.Enter = true
is_enter_place _ = false

abbrev pub is_return_place : HookPlace → Bool
is_return_place place.Return = true
is_return_place _ = false

abbrev pub is_access_place : HookPlace → Bool
is_access_place place.Read = true
is_access_place place.Write = true
is_access_place _ = false

abbrev pub is_call_place : HookPlace → Bool
is_call_place place.Call = true
is_call_place _ = false

-- ---- what the code of a point may speak of

-- stands for each ghost variable of file scope that is not the hooks' own; no term reads it
abbrev pub not_own : Declared
not_own = record { name = []; ctype = type.Void }

-- the variables: those of file scope, and the hooks' ghosts
abbrev pub hook_setting : Core → Hooks → ℕ → Setting
hook_setting q h f = record { layouts = q.layouts; globals = q.globals; locals = []; registers = []; file_ghosts = replicate h.first not_own ++ h.globals; ghosts = saves_of h.points f }

-- the accessed pointer at Read and Write, the called function at Call, the parameters of the point's function at Enter and its result at Return
abbrev pub hook_allowed : Core → HookPoint → Allowed
hook_allowed q pt =
    record nothing_else {
      accessed = is_access_place pt.place;
      called = λ g. is_call_place pt.place && nat_lt g (length q.functions);
      parameter_type = λ g i. if is_enter_place pt.place && g == pt.function then type_of_parameter q g i else None;
      result_type = λ g. if is_return_place pt.place && g == pt.function then type_of_result q g else None;
    }

-- ---- the code of a point

-- ghost statements, and assertions of these monitors
abbrev pub IsHookStatement : (ℕ → Type 0) → Stmt → Type 0
IsHookStatement IsTheirs (Ghost g) = Unit {0}
IsHookStatement IsTheirs (Assert k m r) = IsTheirs m
IsHookStatement IsTheirs _ = ⊥

-- the hooks' own ghosts: those of file scope from `first` on, and the saves of the point's function
abbrev pub IsOwnNumber : Hooks → ℕ → NameKind → ℕ → Type 0
IsOwnNumber h f names.GhostGlobal i = (h.first ≤ i) × (i < h.first + length h.globals)
IsOwnNumber h f names.GhostLocal i = i < length (saves_of h.points f)
IsOwnNumber h f _ i = ⊥

abbrev pub IsOwnGhost : Hooks → ℕ → Variable → Type 0
IsOwnGhost h f v = IsOwnNumber h f v.kind v.index

-- saves are set at Enter points alone
abbrev pub MaySet : HookPlace → NameKind → Type 0
MaySet at names.GhostLocal = IsTrue (is_enter_place at)
MaySet at _ = Unit {0}

-- the variable of which a place is a part
abbrev pub IsPartOfGhost : TermPlace → Type 0
IsPartOfGhost (p.Own v) = IsGhostKind v.kind
IsPartOfGhost (p.Member' b (more_of-TermPlace q end_of-TermPlace) o) = IsPartOfGhost q
IsPartOfGhost (p.Index' b (more_of-TermPlace q end_of-TermPlace) c i size) = IsPartOfGhost q
IsPartOfGhost _ = ⊥

abbrev pub IsNoGhostAddress : Term → Type 0
IsNoGhostAddress (t.Address q u) = IsPartOfGhost q → ⊥
IsNoGhostAddress e = Unit {0}

-- a variable of file scope, or one of the hooks' ghosts
abbrev pub IsUsableKind : Hooks → ℕ → NameKind → ℕ → Type 0
IsUsableKind h f names.Global i = Unit {0}
IsUsableKind h f k i = IsOwnNumber h f k i

abbrev pub IsUsablePlace : Hooks → ℕ → TermPlace → Type 0
IsUsablePlace h f (p.Own v) = IsUsableKind h f v.kind v.index
IsUsablePlace h f q = Unit {0}

-- the accessed pointer at Read and Write, the parameters of the point's function at Enter, its result at Return
abbrev pub IsUsableTerm : HookPoint → Term → Type 0
IsUsableTerm pt t.Accessed = IsTrue (is_access_place pt.place)
IsUsableTerm pt (t.Parameter g i) = IsTrue (is_enter_place pt.place) × (g ≡ pt.function)
IsUsableTerm pt (t.Result g) = IsTrue (is_return_place pt.place) × (g ≡ pt.function)
IsUsableTerm pt e = Unit {0}

-- the called function at Call
abbrev pub IsUsablePredicate : HookPoint → Predicate → Type 0
IsUsablePredicate pt (Called g flag) = IsTrue (is_call_place pt.place)
IsUsablePredicate pt r = Unit {0}

abbrev pub usable : Hooks → HookPoint → Conditions
usable h pt = record { on_term = IsUsableTerm pt; on_place = IsUsablePlace h pt.function; on_predicate = IsUsablePredicate pt }

-- no `\at(.., Pre)` and no event
abbrev pub IsNotAtPre : Term → Type 0
IsNotAtPre (t.AtPre q u) = ⊥
IsNotAtPre e = Unit {0}

abbrev pub IsNoEvent : Predicate → Type 0
IsNoEvent (IsEvent k f) = ⊥
IsNoEvent r = Unit {0}

abbrev pub no_past : Conditions
no_past = record no_condition { on_term = IsNotAtPre; on_predicate = IsNoEvent }

-- each term that is set, and each predicate, meets the conditions in all its parts
abbrev pub EachPart : Conditions → List Stmt → Type 0
EachPart c code = EachInCode (λ v e. EachInTerm c e) (EachInPredicate c) code

-- ---- a point that holds at every step of its function

-- a variable of file scope or a save
abbrev pub IsKept : NameKind → Type 0
IsKept names.Global = Unit {0}
IsKept names.GhostLocal = Unit {0}
IsKept _ = ⊥

abbrev pub IsKeptPlace : TermPlace → Type 0
IsKeptPlace (p.Own v) = IsKept v.kind
IsKeptPlace q = Unit {0}

-- nothing of the step itself
abbrev pub IsNotOfStep : Term → Type 0
IsNotOfStep t.Accessed = ⊥
IsNotOfStep (t.Parameter g i) = ⊥
IsNotOfStep (t.Result g) = ⊥
IsNotOfStep e = Unit {0}

abbrev pub IsNotOfCall : Predicate → Type 0
IsNotOfCall (Called g flag) = ⊥
IsNotOfCall r = Unit {0}

abbrev pub kept : Conditions
kept = record { on_term = IsNotOfStep; on_place = IsKeptPlace; on_predicate = IsNotOfCall }

-- one Safe assertion over variables of file scope and saves
abbrev pub IsOneAssertion : List Stmt → Type 0
IsOneAssertion (Assert Safe m r ∷ []) = EachInPredicate kept r
IsOneAssertion _ = ⊥

abbrev pub IsOneWhereChanged : HookPlace → List Stmt → Type 0
IsOneWhereChanged place.Changed code = IsOneAssertion code
IsOneWhereChanged _ code = Unit {0}

-- ---- sizes, kinds and intervals

-- ghost code nests at most 100 deep
abbrev pub IsShallow : Stmt → Type 0
IsShallow (Ghost g) = ghost_depth g ≤ 100
IsShallow s = Unit {0}

-- a predicate or a term that is set has at most 900 nodes, where the accessed pointer, a parameter and a result count as two each
abbrev pub IsSmallTerm : Term → Type 0
IsSmallTerm e = term_nodes_as_read e ≤ 900

abbrev pub IsSmallPredicate : Predicate → Type 0
IsSmallPredicate r = predicate_nodes_as_read r ≤ 900

abbrev pub HookStatementFits : Setting → Allowed → Stmt → Type 0
HookStatementFits g a (Ghost s) = GhostFits g a s
HookStatementFits g a (Assert k m r) = PredicateFits g a r
HookStatementFits g a s = Unit {0}

-- ---- hooks that fit

-- where assertions may be of these monitors
pub record PointFitsFor (IsTheirs : ℕ → Type 0) (q : Core) (h : Hooks) (pt : HookPoint) : Type 0 where
  -- the point names a function with a body
  pub function : (f : Function) × IsFunctionOf q pt.function f
  pub saves : AllByRecursion (IsGhostOf q) pt.saves
  pub statements : AllByRecursion (IsHookStatement IsTheirs) pt.code
  pub sets_own : EachInCode (λ v e. IsOwnGhost h pt.function v) (λ r. Unit {0}) pt.code
  pub saves_at_enter : EachInCode (λ v e. MaySet pt.place v.kind) (λ r. Unit {0}) pt.code
  pub no_ghost_address : EachPart (record no_condition { on_term = IsNoGhostAddress }) pt.code
  pub uses : EachPart (usable h pt) pt.code
  pub changed : IsOneWhereChanged pt.place pt.code
  pub past : EachPart no_past pt.code
  pub depth : AllByRecursion IsShallow pt.code
  pub size : EachInCode (λ v e. IsSmallTerm e) IsSmallPredicate pt.code
  -- kinds, integer constants and intervals
  pub fits : AllByRecursion (HookStatementFits (hook_setting q h pt.function) (hook_allowed q pt)) pt.code

-- where assertions may be of these monitors, and there are at most so many ghosts of file scope, and as many saves in a function
pub record FitsFor (IsTheirs : ℕ → Type 0) (most : ℕ) (q : Core) (h : Hooks) : Type 0 where
  pub globals : AllByRecursion (IsGhostOf q) h.globals
  pub few_globals : length h.globals ≤ most
  pub few_saves : (f : ℕ) → length (saves_of h.points f) ≤ most
  pub points : AllByRecursion (PointFitsFor IsTheirs q h) h.points

abbrev pub IsOwnMonitor : Hooks → ℕ → Type 0
IsOwnMonitor h m = m ≡ h.monitor

abbrev pub PointFits : Core → Hooks → HookPoint → Type 0
PointFits q h pt = PointFitsFor (IsOwnMonitor h) q h pt

-- assertions of the hooks' monitor, and at most 2 ^ 26 ghosts
abbrev pub Fit : Core → Hooks → Type 0
Fit q h = FitsFor (IsOwnMonitor h) (2 ^ 26) q h

-- ---- several hooks that are woven together

-- the ghosts of file scope are numbered one after another; hooks that have none may give any number as their first
abbrev pub AreNumberedFrom : ℕ → List Hooks → Type 0
AreNumberedFrom n [] = Unit {0}
AreNumberedFrom n (h ∷ hs) = (1 ≤ length h.globals → h.first ≡ n) × AreNumberedFrom (n + length h.globals) hs

-- the monitor of one of the hooks
abbrev pub IsMonitorOf : List Hooks → ℕ → Type 0
IsMonitorOf hs m = (h : Hooks) × Contains hs h × (m ≡ h.monitor)

pub record FitTogether (q : Core) (hs : List Hooks) : Type 0 where
  pub each : AllByRecursion (Fit q) hs
  pub from_one : AllByRecursion (λ h. (1 ≤ h.monitor) × (h.monitor ≤ 16)) hs
  pub distinct : AllPairs (λ h k. h.monitor ≢ k.monitor) hs
  pub numbered : AreNumberedFrom 0 hs
