-- Declarations of a source in a body: its locals have shallow types, and what gives them their values has short calls and nests as little as the text says.
use Rattle.std.proofs.Common.{◌≡◌, ℕ, suc, ◌+◌, ◌≤◌, true, false, not, List, [], ◌∷◌, ◌++◌, length, Option, Some, None, Ok, refl, ap, arith}
use Rattle.std.specs.Prelude.{pos, map, flat_map}
use Rattle.std.specs.List.{AllByRecursion}
use Rattle.c_lexer.specs.declared.token.Place.{Place}
use Rattle.c_words.specs.declared.word.Leaf.{Leaf}
use Rattle.c_words.specs.declared.word.Mode.TheVariants as mode
use Rattle.step_meaning.specs.declared.value.IntKind.TheVariants as kind
use Rattle.step_meaning.specs.declared.value.CType.{CType}
use Rattle.step_meaning.specs.declared.value.CType.TheVariants as type
use Rattle.step_meaning.specs.declared.expr.Variable.{Variable}
use Rattle.step_meaning.specs.declared.expr.Expr.{Expr}
use Rattle.step_meaning.specs.declared.expr.Expr.TheVariants as e
use Rattle.step_meaning.specs.declared.expr.Expr.TheBlock.{shape-the_row-Expr-0, hidden-the_row-Expr-0}
use Rattle.step_meaning.specs.declared.stmt.Stmt.{Stmt}
use Rattle.step_meaning.specs.declared.stmt.Stmt.TheVariants as core
use Rattle.step_meaning.specs.Conversions.{same_int_kind}
use Rattle.step_meaning.specs.TypeRules.{is_scalar}
use Rattle.step_meaning.specs.TermSizes.{type_depth}
use Rattle.step_meaning.specs.Types.{object_cells}
use Rattle.step_meaning.specs.Sources.{is_bare, calls_are_short, full_nesting}
use Rattle.typing_rules.specs.declared.fault.TypeFault.TheVariants.{BadInitialiser}
use Rattle.typing_rules.specs.Checked.{Checked, unless}
use Rattle.typing_rules.specs.Syntax.{Expression, Modifier, PointerTo, ArrayUnsized, ArrayOf, Initialiser, Initialisers, Value as OneValue, Braces, NoElement, Element, Declared, Local}
use Rattle.typing_rules.specs.Environment.{Environment, Scope, specified}
use Rattle.typing_rules.specs.Operands.{fitted}
use Rattle.typing_rules.specs.Expressions.{full}
use Rattle.typing_rules.specs.Declarations.{Layer, Pointing, Sized, size, layers, layered, count_of, declarable}
use Rattle.typing_rules.specs.Initialisers.{Cell, zero_of, local_cells, is_all_zero, all_alone, alone, zeros, parts}
use Rattle.typing_rules.specs.Initialisers as initialisers
use Rattle.typing_rules.specs.Statements.{Frame, Does, pure, ◌>>=◌, opened, tail, in_scope, with_name, declared_as, judged, init_statements, initialised, declare_one, declare_all, declare, checked, seen}
use Rattle.typing_laws.specs.SmallTypes.{WhereOk}
use Rattle.typing_laws.specs.ShallowSyntax.{InitialiserShallow, InitialisersShallow, DeclaredShallow, AllDeclaredShallow, initialiser_turns, initialisers_turns, there_turns, declared_turns}
use Rattle.typing_laws.specs.ParsedSyntax.{IfThere}
use Rattle.typing_laws.proofs.CheckedValues.{then_holds, then_known, if_holds}
use Rattle.typing_laws.proofs.EachOf.{each_append, each_weaker}
use Rattle.typing_laws.proofs.PlainCores.{PlainCore, PlainValue, null_plain}
use Rattle.typing_laws.proofs.PlainOperators.{fitted_plain}
use Rattle.typing_laws.proofs.PlainObjects.{IsShallowType}
use Rattle.typing_laws.proofs.PlainExpressions.{ScopeShallow, EnvironmentShallow, turns_positive, specified_deep, full_plain}
use denote.Hole.Carrier.{hidden}

-- ---- types

pub layers_counted : (g : Environment) (count : ℕ) (ms : List Modifier) → WhereOk (λ ls. length ls ≡ length ms) (layers g count ms)
unfolding layers
layers_counted g count [] = refl
layers_counted g count (PointerTo ∷ ms) = then_holds (λ ls. length ls ≡ length ms) (λ ls. length ls ≡ suc (length ms)) (layers g count ms) _ (layers_counted g count ms) (λ ls h. ap suc h)
layers_counted g count (ArrayUnsized ∷ ms) = then_holds (λ ls. length ls ≡ length ms) (λ ls. length ls ≡ suc (length ms)) (layers g count ms) _ (layers_counted g count ms) (λ ls h. ap suc h)
layers_counted g count (ArrayOf x ∷ ms) =
    then_known (λ ls. length ls ≡ suc (length ms)) (size g x) _ (λ n i.
    then_holds (λ ls. length ls ≡ length ms) (λ ls. length ls ≡ suc (length ms)) (layers g count ms) _ (layers_counted g count ms) (λ ls h. ap suc h))

pub layered_deep : (ls : List Layer) (t : CType) → type_depth (layered ls t) ≡ length ls + type_depth t
unfolding layered
layered_deep [] t = omega arith
layered_deep (Pointing ∷ ls) t = let h : type_depth (layered ls t) ≡ length ls + type_depth t = layered_deep ls t in omega arith
layered_deep (Sized n ∷ ls) t = let h : type_depth (layered ls t) ≡ length ls + type_depth t = layered_deep ls t in omega arith

pub declared_shallow : (ls : List Layer) (ms : List Modifier) (t : CType) → length ls ≡ length ms → length ms ≤ 64 → type_depth t ≡ 1 → IsShallowType 65 (layered ls t)
declared_shallow ls ms t h k d = let e : type_depth (layered ls t) ≡ length ls + type_depth t = layered_deep ls t in omega arith

-- ---- statements

-- no annotation, no call is long, and the statement nests as little as this says, in a loop whose turns end with statements that nest so deep
pub record Plain (b : ℕ → ℕ) (s : Stmt) : Type 0 where
  pub bare : is_bare s ≡ true
  pub short : calls_are_short s ≡ true
  pub nested : (l m : ℕ) → l ≤ m → full_nesting l s ≤ b m

abbrev pub AllPlain : (ℕ → ℕ) → List Stmt → Type 0
AllPlain b ss = AllByRecursion (Plain b) ss

pub plain_weaker : (b c : ℕ → ℕ) (s : Stmt) → ((m : ℕ) → b m ≤ c m) → Plain b s → Plain c s
plain_weaker b c s k h = record { bare = h.bare; short = h.short; nested = λ l m i. let x : full_nesting l s ≤ b m = h.nested l m i in let y : b m ≤ c m = k m in omega arith }

pub all_weaker : (b c : ℕ → ℕ) (ss : List Stmt) → ((m : ℕ) → b m ≤ c m) → AllPlain b ss → AllPlain c ss
all_weaker b c ss k h = each_weaker (Plain b) (Plain c) ss (λ s i. plain_weaker b c s k i) h

pub empty_plain : (b : ℕ → ℕ) → ((m : ℕ) → 1 ≤ b m) → Plain b core.Empty
empty_plain b k = record { bare = refl; short = refl; nested = λ l m i. k m }

-- ---- initialisers

mutual
  pub initialiser_positive : (x : Initialiser) → 1 ≤ initialiser_turns x
  initialiser_positive (OneValue x) = turns_positive x
  initialiser_positive (Braces t xs) = initialisers_positive xs

  initialisers_positive : (xs : Initialisers) → 1 ≤ initialisers_turns xs
  initialisers_positive NoElement = omega arith
  initialisers_positive (Element x xs) = let h : 1 ≤ initialiser_turns x = initialiser_positive x in omega arith

module _ (m : ℕ) (positive : 1 ≤ m) where
  abbrev CellPlain : Cell → Type 0
  CellPlain c = PlainCore m c.1

  abbrev pub CellsPlain : List Cell → Type 0
  CellsPlain cs = AllByRecursion CellPlain cs

  zero_plain : (t : CType) → PlainCore m (zero_of t)
  unfolding shape-the_row-Expr-0 hidden-the_row-Expr-0 hidden
  zero_plain (type.Int k) =
      if_holds (PlainCore m) (same_int_kind k kind.Int) (e.Literal kind.Int (pos 0)) (e.Convert k (e.Literal kind.Int (pos 0)))
      (λ i. record { short = refl; turns = positive }) (λ i. record { short = refl; turns = positive })
  zero_plain t = null_plain m positive

  zeros_of : (ts : List CType) → CellsPlain (map (λ t. (t, zero_of t)) ts)
  zeros_of [] = tt
  zeros_of (t ∷ ts) = (zero_plain t, zeros_of ts)

  module _ (g : Environment) (s : EnvironmentShallow g) (source : g.mode ≡ mode.Source) where
    abbrev given : Expression → Place → CType → Expr → Checked Cell
    given x at t y = Ok (t, y)

    abbrev filled : CType → Cell
    filled t = (t, zero_of t)

    zeros_plain : (t : CType) → CellsPlain (zeros g Cell given filled t)
    unfolding zeros
    zeros_plain t = zeros_of (object_cells g.layouts t)

    all_zeros_plain : (ts : List CType) → CellsPlain (flat_map (zeros g Cell given filled) ts)
    all_zeros_plain [] = tt
    all_zeros_plain (t ∷ ts) = each_append CellPlain (zeros g Cell given filled t) _ (zeros_plain t) (all_zeros_plain ts)

    mutual
      unfolding initialisers.cells

      pub cells_plain : (x : Initialiser) → InitialiserShallow x → initialiser_turns x ≤ m → (t : CType) → WhereOk CellsPlain (initialisers.cells g Cell given filled t x)
      cells_plain (OneValue x) h l t =
          then_holds (PlainValue 64 m) CellsPlain (full g x) _ (full_plain g s source x 64 m (omega arith) h l) (λ v i.
          then_known CellsPlain (unless (not (is_scalar t)) (BadInitialiser v.first)) _ (λ u j.
          then_holds (PlainCore m) CellsPlain (fitted v.first t v) _ (fitted_plain g.layouts 64 m positive v.first t v i.core) (λ y k. (k, tt))))
      cells_plain (Braces b xs) h l t =
          if_holds (WhereOk CellsPlain) (is_scalar t) _ _ (λ i. then_known CellsPlain (all_alone g Cell given filled xs) _ (λ u e. tt)) (λ i.
          if_holds (WhereOk CellsPlain) (is_all_zero g Cell given filled xs) _ _ (λ z. zeros_plain t) (λ z. elements_plain xs h l (parts g Cell given filled t)))

      elements_plain : (xs : Initialisers) → InitialisersShallow xs → initialisers_turns xs ≤ m → (ts : List CType) → WhereOk CellsPlain (initialisers.elements g Cell given filled ts xs)
      elements_plain NoElement h l ts = all_zeros_plain ts
      elements_plain (Element x xs) h l [] = then_known CellsPlain (alone g Cell given filled x) _ (λ u e. tt)
      elements_plain (Element x xs) h l (t ∷ ts) =
          then_holds CellsPlain CellsPlain (initialisers.cells g Cell given filled t x) _ (cells_plain x h.0 (omega arith) t) (λ a i.
          then_holds CellsPlain CellsPlain (initialisers.elements g Cell given filled ts xs) _ (elements_plain xs h.1 (omega arith) ts) (λ b j. each_append CellPlain a b i j))

-- ---- frames

pub record FrameShallow (f : Frame) : Type 0 where
  pub names : AllByRecursion ScopeShallow f.scopes
  pub locals : AllByRecursion (λ d. IsShallowType 65 d.ctype) f.locals

abbrev pub Leaves : {A : Type 0} → (A → Type 0) → A × Frame → Type 0
Leaves P r = P r.0 × FrameShallow r.1

abbrev pub Has : {A : Type 0} → (A → Type 0) → Does A → Type 0
Has P d = (f : Frame) → FrameShallow f → WhereOk (Leaves P) (d f)

pub then_has : {A B : Type 0} (P : A → Type 0) (Q : B → Type 0) (d : Does A) (k : A → Does B) → Has P d → ((a : A) → P a → Has Q (k a)) → Has Q (d >>= k)
then_has P Q d k h l f i = then_holds (Leaves P) (Leaves Q) (d f) (λ r. k r.0 r.1) (h f i) (λ r j. l r.0 j.0 r.1 j.1)

pub pure_has : {A : Type 0} (P : A → Type 0) (a : A) → P a → Has P (pure a)
pure_has P a h f i = (h, i)

tail_shallow : (ss : List Scope) → AllByRecursion ScopeShallow ss → AllByRecursion ScopeShallow (tail ss)
tail_shallow [] h = tt
tail_shallow (s ∷ ss) h = h.1

pub scope_has : {A : Type 0} (P : A → Type 0) (d : Does A) → Has P d → Has P (in_scope d)
unfolding in_scope
scope_has P d h f i =
    then_holds (Leaves P) (Leaves P) (d (opened f)) _ (h (opened f) (record { names = (tt, i.names); locals = i.locals }))
    (λ r j. (j.0, record { names = tail_shallow r.1.scopes j.1.names; locals = j.1.locals }))

named_shallow : (name : List ℕ) (v : Variable) (t : CType) (ss : List Scope) → IsShallowType 65 t → AllByRecursion ScopeShallow ss → AllByRecursion ScopeShallow (with_name name v t ss)
named_shallow name v t [] h k = ((h, tt), tt)
named_shallow name v t (s ∷ ss) h k = (each_append _ s _ k.0 (h, tt), k.1)

-- in a program at this point, and a function with this result
module _ (g : Environment) (result : CType) (s : EnvironmentShallow g) (source : g.mode ≡ mode.Source) where
  seen_shallow : (f : Frame) → FrameShallow f → EnvironmentShallow (seen g result f)
  seen_shallow f h = record { names = each_append ScopeShallow f.scopes g.scopes h.names s.names; members = s.members }

  pub checked_has : {A : Type 0} (P : A → Type 0) (c : Environment → Checked A) → ((x : Environment) → EnvironmentShallow x → x.mode ≡ mode.Source → WhereOk P (c x)) → Has P (checked g result c)
  checked_has P c h f i = then_holds P (Leaves P) (c (seen g result f)) _ (h (seen g result f) (seen_shallow f i) source) (λ a j. (j, i))

  declared_as_has : (name : Leaf) (t : CType) → IsShallowType 65 t → Has (λ (n : ℕ). Unit {0}) (declared_as g result name t)
  declared_as_has name t h f i = (tt, record { names = named_shallow _ _ t f.scopes h i.names; locals = each_append (λ d. IsShallowType 65 d.ctype) f.locals _ i.locals (h, tt) })

  judged_has : (name : Leaf) (t : CType) → Has (λ (u : Unit {0}). Unit {0}) (judged g result name t)
  judged_has name t f i = then_known (Leaves (λ (u : Unit {0}). Unit {0})) (declarable g _ _ _ false _ t) _ (λ u e. (tt, i))

  inits_plain : (m : ℕ) (p : 1 ≤ m) (n o : ℕ) (cs : List Cell) → CellsPlain m p cs → AllPlain (λ l. m) (init_statements g result n o cs)
  unfolding init_statements
  inits_plain m p n o [] h = tt
  inits_plain m p n o (c ∷ cs) h = (record { bare = refl; short = h.0.short; nested = λ l k i. h.0.turns }, inits_plain m p n (suc o) cs h.1)

  initialised_has : (n : ℕ) (t : CType) (x : Option Initialiser) → IfThere InitialiserShallow x → Has (AllPlain (λ l. there_turns x)) (initialised g result n t x)
  initialised_has n t None h = pure_has (AllPlain (λ l. 1)) (core.Empty ∷ []) (empty_plain (λ l. 1) (λ m. omega arith), tt)
  initialised_has n t (Some x) h =
      let p : 1 ≤ there_turns (Some x) = omega arith in
      then_has (CellsPlain (there_turns (Some x)) p) (AllPlain (λ l. there_turns (Some x))) (checked g result (λ g. local_cells g t x)) _
      (checked_has (CellsPlain (there_turns (Some x)) p) (λ g. local_cells g t x) (λ y i j. cells_plain (there_turns (Some x)) p y i j x h (omega arith) t))
      (λ cs k. pure_has (AllPlain (λ l. there_turns (Some x))) (init_statements g result n 0 cs) (inits_plain (there_turns (Some x)) p n 0 cs k))

  declare_one_has : (base : CType) (d : Declared) → type_depth base ≡ 1 → DeclaredShallow d → Has (AllPlain (λ l. there_turns d.initialiser)) (declare_one g result base d)
  unfolding declare_one
  declare_one_has base d b h =
      then_has (λ ls. length ls ≡ length d.declarator.modifiers) (AllPlain (λ l. there_turns d.initialiser)) (checked g result (λ g. layers g (count_of d.initialiser) d.declarator.modifiers)) _
      (checked_has (λ ls. length ls ≡ length d.declarator.modifiers) (λ g. layers g (count_of d.initialiser) d.declarator.modifiers) (λ y i j. layers_counted y (count_of d.initialiser) d.declarator.modifiers))
      (λ ls k.
      let t : CType = layered ls base in
      then_has (λ (u : Unit {0}). Unit {0}) (AllPlain (λ l. there_turns d.initialiser)) (judged g result d.declarator.name t) _ (judged_has d.declarator.name t) (λ u i.
      then_has (λ (n : ℕ). Unit {0}) (AllPlain (λ l. there_turns d.initialiser)) (declared_as g result d.declarator.name t) _ (declared_as_has d.declarator.name t (declared_shallow ls d.declarator.modifiers base k h.0 b)) (λ n i.
      initialised_has n t d.initialiser h.1)))

  declare_all_has : (base : CType) (ds : List Declared) → type_depth base ≡ 1 → AllDeclaredShallow ds → Has (AllPlain (λ l. declared_turns ds)) (declare_all g result base ds)
  unfolding declare_all
  declare_all_has base [] b h = pure_has (AllPlain (λ l. 1)) [] tt
  declare_all_has base (d ∷ ds) b h =
      then_has (AllPlain (λ l. there_turns d.initialiser)) (AllPlain (λ l. declared_turns (d ∷ ds))) (declare_one g result base d) _ (declare_one_has base d b h.0) (λ ss i.
      then_has (AllPlain (λ l. declared_turns ds)) (AllPlain (λ l. declared_turns (d ∷ ds))) (declare_all g result base ds) _ (declare_all_has base ds b h.1) (λ more j.
      pure_has (AllPlain (λ l. declared_turns (d ∷ ds))) (ss ++ more)
      (each_append (Plain (λ l. declared_turns (d ∷ ds))) ss more
      (all_weaker (λ l. there_turns d.initialiser) (λ l. declared_turns (d ∷ ds)) ss (λ m. omega arith) i) (all_weaker (λ l. declared_turns ds) (λ l. declared_turns (d ∷ ds)) more (λ m. omega arith) j))))

  pub declare_has : (l : Local) → AllDeclaredShallow l.declared → Has (AllPlain (λ m. declared_turns l.declared)) (declare g result l)
  unfolding declare
  declare_has l h =
      then_has (λ t. type_depth t ≡ 1) (AllPlain (λ m. declared_turns l.declared)) (checked g result (λ g. specified g l.specifier)) _
      (checked_has (λ t. type_depth t ≡ 1) (λ g. specified g l.specifier) (λ y i j. specified_deep y l.specifier)) (λ base b. declare_all_has base l.declared b h)
