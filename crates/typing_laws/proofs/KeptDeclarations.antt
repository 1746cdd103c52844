-- Declarations of a body: each name is a local of the function, and each initialiser gives statements that fit.
use Rattle.std.proofs.Common.{◌≡◌, ℕ, suc, ◌≤◌, Bool, true, false, not, List, [], ◌∷◌, ◌++◌, length, Option, Some, None, Ok, refl, sym, ap, subst, ◌∙◌, arith, append_assoc, length-append}
use Rattle.std.specs.Prelude.{pos, nat_le, slice_get, option_map, IsTrue, is_some}
use Rattle.std.specs.List.{AllByRecursion}
use Rattle.std.proofs.lemmas.Bool.{leb-true, le-leb}
use Rattle.c_words.specs.declared.word.Leaf.{Leaf}
use Rattle.step_meaning.specs.declared.value.IntKind.TheVariants as kind
use Rattle.step_meaning.specs.declared.value.CType.{CType, end_of-CType, more_of-CType}
use Rattle.step_meaning.specs.declared.value.CType.TheVariants as type
use Rattle.step_meaning.specs.declared.expr.Variable.{Variable}
use Rattle.step_meaning.specs.declared.expr.Expr.TheVariants as e
use Rattle.step_meaning.specs.declared.stmt.Stmt.{Stmt}
use Rattle.step_meaning.specs.declared.stmt.Stmt.TheVariants as core
use Rattle.step_meaning.specs.declared.program.Core.{Core}
use Rattle.step_meaning.specs.declared.program.Declared.{Declared as Named}
use Rattle.step_meaning.specs.declared.program.Function.{Function as CoreFunction}
use Rattle.step_meaning.specs.Settings.{Setting, variable_type}
use Rattle.step_meaning.specs.Types.{object_cells}
use Rattle.step_meaning.specs.TypeRules.{is_scalar, keeps_rules}
use Rattle.step_meaning.specs.Conversions.{same_int_kind}
use Rattle.step_meaning.specs.Identifiers.{is_name}
use Rattle.step_meaning.specs.ExpressionTypes.{type_of, has_this_type, is_taken_by}
use Rattle.step_meaning.specs.StatementRules.{own_code, cell_type, StatementFits}
use Rattle.step_meaning.specs.Sources.{is_bare}
use Rattle.step_meaning.proofs.Ranges.{and_true, false_is_not_true}
use Rattle.step_meaning.proofs.SameTypes.{same_itself, same_kind_equal}
use Rattle.step_meaning.proofs.LaterLayouts.{same_cells}
use Rattle.typing_rules.specs.declared.operand.Entry.{Entry}
use Rattle.typing_rules.specs.declared.operand.Entry.TheVariants as entry
use Rattle.typing_rules.specs.Syntax.{Initialiser, Declared, Local}
use Rattle.typing_rules.specs.Environment.{Scope, place_of, bytes_in, is_reserved, found_in, specified}
use Rattle.typing_rules.specs.Declarations.{layers, layered, count_of, is_complete, is_within_limit, is_complete_in}
use Rattle.typing_rules.specs.Initialisers.{Cell, zero_of, local_cells}
use Rattle.typing_rules.specs.Statements.{Frame, innermost, with_name, local_variable, declared_as, judged, init_statements, initialised, declare_one, declare_all, declare, checked, seen as seen_in_body}
use Rattle.typing_rules.specs.FileScope.{Program, seen_now}
use Rattle.typing_rules.proofs.ObjectTypes.{has_elements}
use Rattle.typing_rules.proofs.OperandsFit.{converted_fits}
use Rattle.typing_laws.specs.SmallTypes.{WhereOk}
use Rattle.typing_laws.specs.ParsedSyntax.{IsName, IfThere, InitialiserParsed, DeclaredParsed, AllDeclaredParsed, LocalParsed}
use Rattle.typing_laws.proofs.CheckedValues.{always, if_holds}
use Rattle.typing_laws.proofs.EachOf.{each_append, each_weaker}
use Rattle.typing_laws.proofs.DeclaredNames.{not_false, declared_then}
use Rattle.typing_laws.proofs.DeclaredTypes.{HaveSizes, layers_fit, layered_elements, specified_elements, declared_keeps, count_positive}
use Rattle.typing_laws.proofs.SmallPrograms.{tags_counted}
use Rattle.typing_laws.proofs.LaterStructs.{object_complete}
use Rattle.typing_laws.proofs.TypedCores.{taken_itself, taken_null}
use Rattle.typing_laws.proofs.TypedOperators.{IsTaken}
use Rattle.typing_laws.proofs.TypedExpressions.{Agrees}
use Rattle.typing_laws.proofs.FilledCells.{AreCells, cells_fit}
use Rattle.typing_laws.proofs.Completion.{IsRight, Completes, get_at, IsLocal, AreLocals, type_later, body_agrees}
use Rattle.typing_laws.proofs.KeptFrames.{Nothing, FrameRight, InView, After, Keeps, grows_itself, keeps_pure, keeps_then, keeps_weaker, keeps_checked}

local_later : (ds es : List Named) (c : ℕ) (x : Entry) → IsLocal ds c x → IsLocal (ds ++ es) c x
local_later ds es c (entry.Variable v t) h = (h.0, type_later ds es v.index t h.1, h.2)
local_later ds es c (entry.Function f r ts) h = h

locals_later : (ds es : List Named) (c : ℕ) (scopes : List Scope) → AreLocals ds c scopes → AreLocals (ds ++ es) c scopes
locals_later ds es c scopes h = each_weaker _ _ scopes (λ scope k. each_weaker (λ x. IsLocal ds c x.1) (λ x. IsLocal (ds ++ es) c x.1) scope (λ x i. local_later ds es c x.1 i) k) h

named_locals : (ds : List Named) (c : ℕ) (name : List ℕ) (v : Variable) (t : CType) (scopes : List Scope) → IsLocal ds c (entry.Variable v t) → AreLocals ds c scopes → AreLocals ds c (with_name name v t scopes)
named_locals ds c name v t [] h k = ((h, tt), tt)
named_locals ds c name v t (s ∷ ss) h k = (each_append (λ x. IsLocal ds c x.1) s _ k.0 (h, tt), k.1)

module _ (q : Core) (fn : CoreFunction) (noted : Setting) (p : Program) (right : IsRight p) (done : Completes q p) where
  abbrev pub own : Setting
  own = own_code q fn

  pub agrees_in : (f : Frame) → FrameRight p fn f → InView p fn f → Agrees q own (seen_in_body (seen_now p) fn.result f)
  agrees_in f h v = body_agrees q own p right done refl refl f fn.result v.more h.locals v.whole

  -- a statement that fits, and is no annotation
  pub record Fits (loop : Bool) (s : Stmt) : Type 0 where
    pub rules : StatementFits q fn noted loop s
    pub bare : is_bare s ≡ true

  abbrev pub AllFit : Bool → List Stmt → Type 0
  AllFit loop ss = AllByRecursion (Fits loop) ss

  -- ---- names

  abbrev IsLocalOf : CType → ℕ → Type 0
  IsLocalOf t n = variable_type own (local_variable (seen_now p) fn.result n) ≡ Some t

  abbrev IsNoParameter : ℕ → Type 0
  IsNoParameter n = nat_le fn.params n ≡ true

  declared_as_keeps : (name : Leaf) (t : CType) → keeps_rules p.layouts t ≡ true → IsName p.text name → Keeps p fn IsNoParameter (IsLocalOf t) (declared_as (seen_now p) fn.result name t)
  declared_as_keeps name t k i f h =
      let d : Named = record { name = bytes_in (seen_now p) name; ctype = t } in
      let found : option_map (λ d. d.ctype) (slice_get (f.locals ++ (d ∷ [])) (length f.locals)) ≡ Some t = ap (option_map (λ d. d.ctype)) (get_at f.locals d []) in
      record {
        right = record {
          locals = named_locals (f.locals ++ (d ∷ [])) (length p.layouts) d.name _ t f.scopes (refl, found, object_complete p.layouts (length p.layouts) t k) (locals_later f.locals (d ∷ []) (length p.layouts) f.scopes h.locals);
          keep = each_append (λ d. keeps_rules p.layouts d.ctype ≡ true) f.locals _ h.keep (k, tt);
          named = each_append (λ d. IsTrue (is_name d.name)) f.locals _ h.named (i, tt);
          parameters = longer fn.params f.locals (d ∷ []) h.parameters;
        };
        grows = record { more = d ∷ []; whole = refl };
        known = h.parameters;
        holds = λ v. ap (λ ds. option_map (λ d. d.ctype) (slice_get ds (length f.locals))) v.whole ∙ type_later (f.locals ++ (d ∷ [])) v.more (length f.locals) t found;
      }
    where
      longer : (n : ℕ) (xs ys : List Named) → nat_le n (length xs) ≡ true → nat_le n (length (xs ++ ys)) ≡ true
      longer n xs ys e = let l : n ≤ length xs = leb-true n (length xs) e in le-leb n (length (xs ++ ys)) (omega (arith, length-append xs ys))

  -- the type may be a local's: the rules on a declared name say so
  pub record MayBeLocal (t : CType) : Type 0 where
    pub complete : is_complete (length p.layouts) (length p.layouts) t ≡ true
    pub small : is_within_limit p.layouts t ≡ true

  judged_keeps : (name : Leaf) (t : CType) → Keeps p fn (λ (u : Unit {0}). MayBeLocal t) Nothing (judged (seen_now p) fn.result name t)
  judged_keeps name t f h =
      let bytes : List ℕ = bytes_in (seen_now p) name in
      declared_then (After p fn (λ (u : Unit {0}). MayBeLocal t) Nothing f) (seen_now p) (place_of name) (is_some (found_in (innermost f.scopes) bytes)) (not (is_complete_in (seen_now p) t)) false (is_reserved (seen_now p) bytes) t _ (λ k.
      record {
        right = h;
        grows = grows_itself p fn f;
        known = record { complete = subst (λ n. is_complete (length p.layouts) n t ≡ true) (tags_counted p) (not_false (is_complete_in (seen_now p) t) k.right); small = k.small };
        holds = λ v. tt;
      })

  -- ---- initialisers

  -- a cell that is given: its type, and what it takes
  abbrev CellFits : CType → Cell → Type 0
  CellFits t c = (c.0 ≡ t) × IsTaken q own p.layouts t c.1

  zero_taken : (t : CType) → is_scalar t ≡ true → IsTaken q own p.layouts t (zero_of t)
  zero_taken (type.Int k) i =
      taken_itself q own (type.Int k) (zero_of (type.Int k)) refl
      (if_holds (λ x. type_of q own x ≡ Some (type.Int k)) (same_int_kind k kind.Int) (e.Literal kind.Int (pos 0)) (e.Convert k (e.Literal kind.Int (pos 0)))
      (λ s. ap (λ k. Some (type.Int k)) (sym (same_kind_equal k kind.Int s))) (λ d. converted_fits q own k kind.Int (e.Literal kind.Int (pos 0)) d refl))
  zero_taken (type.Pointer' b (more_of-CType t end_of-CType)) i = taken_null q own t
  zero_taken type.Void i = false_is_not_true i
  zero_taken (type.Array' b t n) i = false_is_not_true i
  zero_taken (type.Struct n) i = false_is_not_true i

  abbrev CellsFit : CType → List Cell → Type 0
  CellsFit t cs = AreCells CellFits (object_cells p.layouts t) cs

  local_cells_fit : (f : Frame) → FrameRight p fn f → InView p fn f → (x : Initialiser) → InitialiserParsed p.text x → (t : CType) → keeps_rules p.layouts t ≡ true
      → WhereOk (CellsFit t) (local_cells (seen_in_body (seen_now p) fn.result f) t x)
  local_cells_fit f h v x c t k =
      cells_fit q own (seen_in_body (seen_now p) fn.result f) (agrees_in f h v) right.structs Cell (λ x at t y. Ok (t, y)) (λ t. (t, zero_of t)) CellFits
      (λ x at t y i j l. (refl, l)) (λ t i. (refl, zero_taken t i)) x c t k

  -- the statements of the cells from number o on of the local with number n
  inits_fit : (loop : Bool) (n : ℕ) (t : CType) → IsNoParameter n → IsLocalOf t n → (before types : List CType) (cs : List Cell) → object_cells q.layouts t ≡ before ++ types → AreCells CellFits types cs
      → AllFit loop (init_statements (seen_now p) fn.result n (length before) cs)
  unfolding init_statements
  inits_fit loop n t i l before [] [] w h = tt
  inits_fit loop n t i l before (u ∷ types) (c ∷ cs) w h =
      let cell : slice_get (object_cells q.layouts t) (length before) ≡ Some u = ap (λ ts. slice_get ts (length before)) w ∙ get_at before u types in
      let typed : has_this_type c.0 (cell_type q fn (variable_type own (local_variable (seen_now p) fn.result n)) (length before)) ≡ true = rw (l, cell, h.0.0, same_itself u) refl in
      let taken : is_taken_by c.0 c.1 (type_of q own c.1) ≡ true = subst (λ t. is_taken_by t c.1 (type_of q own c.1) ≡ true) (sym h.0.0) h.0.1 in (
        record { rules = and_true i (and_true typed taken); bare = refl },
        subst (λ o. AllFit loop (init_statements (seen_now p) fn.result n o cs)) (next before u) (inits_fit loop n t i l (before ++ (u ∷ [])) types cs (w ∙ sym (append_assoc before (u ∷ []) types)) h.1),
      )
    where
      next : (before : List CType) (u : CType) → length (before ++ (u ∷ [])) ≡ suc (length before)
      next before u = omega (arith, length-append before (u ∷ []))
  inits_fit loop n t i l before [] (c ∷ cs) w h = absurd h
  inits_fit loop n t i l before (u ∷ types) [] w h = absurd h

  -- the cells of the type are those that it has in the whole program
  cells_later : (t : CType) → keeps_rules p.layouts t ≡ true → object_cells q.layouts t ≡ object_cells p.layouts t
  cells_later t k = ap (λ ls. object_cells ls t) done.layouts ∙ same_cells p.layouts done.more_layouts (length p.layouts) t k

  initialised_keeps : (loop : Bool) (n : ℕ) (t : CType) (x : Option Initialiser) → keeps_rules p.layouts t ≡ true → IsNoParameter n → IfThere (InitialiserParsed p.text) x
      → Keeps p fn Nothing (λ ss. IsLocalOf t n → AllFit loop ss) (initialised (seen_now p) fn.result n t x)
  initialised_keeps loop n t None k i c = keeps_pure p fn Nothing (λ ss. IsLocalOf t n → AllFit loop ss) (core.Empty ∷ []) tt (λ l. (record { rules = tt; bare = refl }, tt))
  initialised_keeps loop n t (Some x) k i c =
      keeps_then p fn Nothing (CellsFit t) Nothing (λ ss. IsLocalOf t n → AllFit loop ss) (checked (seen_now p) fn.result (λ g. local_cells g t x)) _
      (keeps_checked p fn Nothing (CellsFit t) fn.result (λ g. local_cells g t x) (λ f h. always Nothing (local_cells (seen_in_body (seen_now p) fn.result f) t x) (λ cs. tt)) (λ f h v. local_cells_fit f h v x c t k))
      (λ cs u. keeps_pure p fn Nothing (λ ss. CellsFit t cs → IsLocalOf t n → AllFit loop ss) (init_statements (seen_now p) fn.result n 0 cs) tt (λ h l. inits_fit loop n t i l [] (object_cells p.layouts t) cs (cells_later t k) h))

  -- ---- declarations

  declare_one_keeps : (loop : Bool) (base : CType) (d : Declared) → has_elements base ≡ true → DeclaredParsed p.text d → Keeps p fn Nothing (AllFit loop) (declare_one (seen_now p) fn.result base d)
  unfolding declare_one
  declare_one_keeps loop base d b c =
      keeps_then p fn HaveSizes Nothing Nothing (AllFit loop) (checked (seen_now p) fn.result (λ g. layers g (count_of d.initialiser) d.declarator.modifiers)) _
      (keeps_checked p fn HaveSizes Nothing fn.result (λ g. layers g (count_of d.initialiser) d.declarator.modifiers)
      (λ f h. layers_fit (seen_in_body (seen_now p) fn.result f) (count_of d.initialiser) d.declarator.modifiers (count_positive p.text d.initialiser c.1))
      (λ f h v. always Nothing (layers (seen_in_body (seen_now p) fn.result f) (count_of d.initialiser) d.declarator.modifiers) (λ ls. tt)))
      (λ ls sizes.
      let t : CType = layered ls base in
      keeps_then p fn (λ (u : Unit {0}). MayBeLocal t) Nothing Nothing (λ ss. Nothing ls → AllFit loop ss) (judged (seen_now p) fn.result d.declarator.name t) _ (judged_keeps d.declarator.name t)
      (λ u may.
      let k : keeps_rules p.layouts t ≡ true = declared_keeps p.layouts (length p.layouts) t (layered_elements ls base sizes b) may.complete may.small in
      keeps_then p fn IsNoParameter (IsLocalOf t) Nothing (λ ss. Nothing u → Nothing ls → AllFit loop ss) (declared_as (seen_now p) fn.result d.declarator.name t) _ (declared_as_keeps d.declarator.name t k c.0)
      (λ n i. keeps_weaker p fn Nothing (λ ss. IsLocalOf t n → AllFit loop ss) Nothing (λ ss. IsLocalOf t n → Nothing u → Nothing ls → AllFit loop ss) (initialised (seen_now p) fn.result n t d.initialiser) (λ ss h. tt) (λ ss h l x y. h l)
      (initialised_keeps loop n t d.initialiser k i c.1))))

  declare_all_keeps : (loop : Bool) (base : CType) (ds : List Declared) → has_elements base ≡ true → AllDeclaredParsed p.text ds → Keeps p fn Nothing (AllFit loop) (declare_all (seen_now p) fn.result base ds)
  unfolding declare_all
  declare_all_keeps loop base [] b c = keeps_pure p fn Nothing (AllFit loop) [] tt tt
  declare_all_keeps loop base (d ∷ ds) b c =
      keeps_then p fn Nothing (AllFit loop) Nothing (AllFit loop) (declare_one (seen_now p) fn.result base d) _ (declare_one_keeps loop base d b c.0) (λ ss u.
      keeps_then p fn Nothing (AllFit loop) Nothing (λ xs. AllFit loop ss → AllFit loop xs) (declare_all (seen_now p) fn.result base ds) _ (declare_all_keeps loop base ds b c.1) (λ more w.
      keeps_pure p fn Nothing (λ xs. AllFit loop more → AllFit loop ss → AllFit loop xs) (ss ++ more) tt (λ h k. each_append (Fits loop) ss more k h)))

  pub declare_keeps : (loop : Bool) (l : Local) → LocalParsed p.text l → Keeps p fn Nothing (AllFit loop) (declare (seen_now p) fn.result l)
  unfolding declare
  declare_keeps loop l c =
      keeps_then p fn (λ t. has_elements t ≡ true) Nothing Nothing (AllFit loop) (checked (seen_now p) fn.result (λ g. specified g l.specifier)) _
      (keeps_checked p fn (λ t. has_elements t ≡ true) Nothing fn.result (λ g. specified g l.specifier)
      (λ f h. specified_elements (seen_in_body (seen_now p) fn.result f) l.specifier) (λ f h v. always Nothing (specified (seen_in_body (seen_now p) fn.result f) l.specifier) (λ t. tt)))
      (λ base b. keeps_weaker p fn Nothing (AllFit loop) Nothing (λ ss. Nothing base → AllFit loop ss) (declare_all (seen_now p) fn.result base l.declared) (λ ss h. tt) (λ ss h x. h) (declare_all_keeps loop base l.declared b c))
