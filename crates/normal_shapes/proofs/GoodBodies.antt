-- The statements of a normal form keep the rules on statements, are normal and small.
use Rattle.std.proofs.Common.{◌≡◌, ℕ, zero, suc, ◌<◌, Bool, true, false, length, List, [], ◌∷◌, ◌++◌, Option, Some, None, refl, sym, ap, subst, ◌∙◌, arith}
use Rattle.std.specs.Prelude.{pos, slice_get, nat_le}
use Rattle.std.specs.List.{list_all, AllByRecursion}
use Rattle.std.proofs.lemmas.Bool.{le-leb}
use denote.Hole.Carrier.{hidden}
use Rattle.step_meaning.specs.declared.value.IntKind.TheVariants as kind
use Rattle.step_meaning.specs.declared.value.CType.{CType}
use Rattle.step_meaning.specs.declared.value.CType.TheVariants as type
use Rattle.step_meaning.specs.declared.value.NameKind.TheVariants as names
use Rattle.step_meaning.specs.declared.expr.Variable.{Variable}
use Rattle.step_meaning.specs.declared.expr.Expr.{Expr}
use Rattle.step_meaning.specs.declared.expr.Expr.TheVariants.{Literal, Load}
use Rattle.step_meaning.specs.declared.stmt.Stmt.{Stmt, Row_of-Stmt, end_of-Stmt, more_of-Stmt}
use Rattle.step_meaning.specs.declared.stmt.Stmt.TheVariants.{Empty, Eval, Init, Block, Block', If', While', Do', For', Break, Continue, Return, Ghost, Assert}
use Rattle.step_meaning.specs.declared.stmt.Stmt.TheBlock.{shape-the_row-Stmt-0, hidden-the_row-Stmt-0}
use Rattle.step_meaning.specs.declared.program.Core.{Core}
use Rattle.step_meaning.specs.declared.program.Declared.{Declared}
use Rattle.step_meaning.specs.declared.program.Function.{Function}
use Rattle.step_meaning.specs.ExpressionTypes.{type_of, has_a_type, is_condition, has_this_type, has_scalar_type, is_void, gives, is_taken_by, type_of_member, type_of_element}
use Rattle.step_meaning.specs.Names.{same_kind}
use Rattle.step_meaning.specs.Normal.{is_normal, are_normal}
use Rattle.step_meaning.specs.Printable.{is_small_within, are_small_within}
use Rattle.step_meaning.specs.Settings.{Setting, setting_of, code_setting, variable_type}
use Rattle.step_meaning.specs.Sources.{is_bare, are_bare, has_short_calls, has_short_calls_if_any, calls_are_short, all_calls_are_short}
use Rattle.step_meaning.specs.StatementRules.{where_there, cell_type, is_initialised, may_return, StatementFits, RowFits}
use Rattle.step_meaning.specs.TypeRules.{is_scalar}
use Rattle.step_meaning.specs.Types.{where_true, object_cells}
use Rattle.step_meaning.specs.WellFormed.{IsWellFormed, IsWellFormedFunction}
use Rattle.step_meaning.proofs.Ranges.{false_is_not_true, and_true, left_of_and, right_of_and, natural_in_range}
use Rattle.normal_laws.specs.NormalForm.{Operand, Held, Number, Named, Pointed, Part, MemberAt, ElementAt, int, register, expression_of, place_of, or_void, one, set_to, choice, forever, member, index, pointer_to, truth_literal, Typed, Is, Code, PlaceCode, StatementCode, without_code, named_code, member_code, part_code, parts_code, cell_parts, expression_code, test_code, effect_code, return_code, init_code, if_code, loop_code, no_code, returning, last_code, statement_code, row_code, body_code, normal_function, normal_core}
use Rattle.normal_laws.proofs.Emitted.{Each, each_join}
use Rattle.normal_laws.proofs.CellParts.{Leads, cell_reached}
use Rattle.normal_laws.proofs.SourceCores.{cell_there}
use Rattle.normal_laws.proofs.SourceExpressions.{null_points, null_constant_is}
use Rattle.normal_laws.proofs.TypesOfParts.{none_is_not, some_is, this_type, scalar_type, some_type, taken_type}
use Rattle.normal_shapes.proofs.GoodTypes.{IsObject, IsValue, object_value, element_object, member_object}
use Rattle.normal_shapes.proofs.TypedOperands.{T, IsDeclared, OperandFits, operand_is, target_small, target_silent, operand_typed, operand_taken, scalar_not_void, target_typed, target_object}
use Rattle.normal_shapes.proofs.GoodStatements.{AreDeclared, declared_split, EachValue, value_join, operand_is_small, set_good, copy_good, store_good, taken_exactly, Allows, IsGoodCode, IsGoodPlace, then_one}
use Rattle.normal_shapes.proofs.GoodCalls.{KnowsSource}
use Rattle.normal_shapes.proofs.GoodExpressions.{good_expression, part_good}

-- ---- statements in the function f of the core q

module _ (q : Core) (f : Function) (noted : Setting) where
  pub record IsGoodStatement (loop : Bool) (s : Stmt) : Type 0 where
    pub fits : StatementFits q f noted loop s
    pub normal : is_normal s ≡ true
    pub small : is_small_within s ≡ true

  row_fits : (loop : Bool) (ss : List Stmt) → Each (IsGoodStatement loop) ss → RowFits q f noted loop (hidden-the_row-Stmt-0 ss)
  unfolding shape-the_row-Stmt-0 hidden-the_row-Stmt-0 hidden
  row_fits loop [] h = tt
  row_fits loop (s ∷ ss) h = (let x = h.0 in x.fits, row_fits loop ss h.1)

  row_normal : (loop : Bool) (ss : List Stmt) → Each (IsGoodStatement loop) ss → are_normal (hidden-the_row-Stmt-0 ss) ≡ true
  unfolding shape-the_row-Stmt-0 hidden-the_row-Stmt-0 hidden
  row_normal loop [] h = refl
  row_normal loop (s ∷ ss) h = let x = h.0 in and_true x.normal (row_normal loop ss h.1)

  row_small : (loop : Bool) (ss : List Stmt) → Each (IsGoodStatement loop) ss → are_small_within (hidden-the_row-Stmt-0 ss) ≡ true
  unfolding shape-the_row-Stmt-0 hidden-the_row-Stmt-0 hidden
  row_small loop [] h = refl
  row_small loop (s ∷ ss) h = let x = h.0 in and_true x.small (row_small loop ss h.1)

  pub block_good : (loop : Bool) (ss : List Stmt) → Each (IsGoodStatement loop) ss → IsGoodStatement loop (Block ss)
  block_good loop ss h = record { fits = row_fits loop ss h; normal = row_normal loop ss h; small = row_small loop ss h }

  pub forever_good : (loop : Bool) (ss : List Stmt) → Each (IsGoodStatement true) ss → IsGoodStatement loop (forever ss)
  forever_good loop ss h = record { fits = (refl, row_fits true ss h); normal = row_normal true ss h; small = row_small true ss h }

  pub break_good : IsGoodStatement true Break
  break_good = record { fits = refl; normal = refl; small = refl }

-- ---- the code of a source's function

module _ (source : Core) (i : ℕ) (f : Function) (ss : List Stmt) where
  abbrev pub normal : Core
  normal = normal_core source

  abbrev pub formed : Function
  formed = normal_function source i f (Some ss)

  abbrev pub g : Setting
  g = code_setting source f

  abbrev pub ds : List Declared
  ds = formed.registers

  abbrev pub Good : Bool → Stmt → Type 0
  Good loop s = IsGoodStatement normal formed (setting_of normal formed) loop s

  abbrev pub Declares : List Typed → Type 0
  Declares = AreDeclared normal g ds

  pub rules : (loop : Bool) → Allows normal g ds (Good loop)
  rules loop =
      record {
        evaluates = λ e k. record { fits = k.typed; normal = k.normal; small = k.small };
        chooses = λ a t h s x y gx gy.
            record {
              fits = (ap has_scalar_type (operand_typed normal g ds t a h (scalar_not_void normal g ds t s)) ∙ s, row_fits normal formed (setting_of normal formed) loop x gx, row_fits normal formed (setting_of normal formed) loop y gy);
              normal = and_true (operand_is a) (and_true (row_normal normal formed (setting_of normal formed) loop x gx) (row_normal normal formed (setting_of normal formed) loop y gy));
              small = and_true (operand_is_small normal g ds a) (and_true (row_small normal formed (setting_of normal formed) loop x gx) (row_small normal formed (setting_of normal formed) loop y gy));
            };
      }

  pub record IsGoodBody (loop : Bool) (A : StatementCode) : Type 0 where
    pub each : Each (Good loop) A.code
    pub types : EachValue normal g ds A.types

  module _ (knows : KnowsSource source g normal ds) (formed_source : IsWellFormed source) (fits : IsWellFormedFunction source f) (no_registers : f.registers ≡ []) where
    abbrev GoodCode : Bool → CType → Code → Type 0
    GoodCode loop = IsGoodCode normal g ds (Good loop) (rules loop)

    abbrev GoodPlace : Bool → CType → PlaceCode → Type 0
    GoodPlace loop = IsGoodPlace normal g ds (Good loop) (rules loop)

    value : (loop : Bool) (e : Expr) (t : CType) → type_of source g e ≡ Some t → has_short_calls e ≡ true → (m : ℕ) → Declares (expression_code source g e m).types → GoodCode loop t (expression_code source g e m)
    value loop e t h s m at = good_expression source g normal ds knows (Good loop) (rules loop) e t h s m at

    effect : (loop : Bool) (e : Expr) → has_a_type source g e ≡ true → has_short_calls e ≡ true → (m : ℕ) → Declares (expression_code source g e m).types → IsGoodBody loop (record { code = (expression_code source g e m).code; next = (expression_code source g e m).next; types = (expression_code source g e m).types })
    effect loop e h s m at = let t = some_type (type_of source g e) h in let x = value loop e t.0 t.1 s m at in record { each = x.each; types = x.types }

    -- what is taken stands for what was
    value_taken : (loop : Bool) (t : CType) (e : Expr) (m : ℕ) → gives source g t e ≡ true → has_short_calls e ≡ true → Declares (expression_code source g e m).types
        → (u : CType) × GoodCode loop u (expression_code source g e m) × (is_taken_by t (expression_of (expression_code source g e m).value) (T normal g ds (expression_of (expression_code source g e m).value)) ≡ true)
    value_taken loop t e m h s at =
        let u = taken_type t e (type_of source g e) (null_points source g e) h in
        let x = value loop e u.0 u.1 s m at in
        let A = expression_code source g e m in
        (u.0, x, operand_taken normal g ds t e (type_of source g e) A.value h (λ c. subst (λ e. (expression_code source g e m).value ≡ Rattle.normal_laws.specs.NormalForm.Nil) (sym (null_constant_is e c)) refl) (λ w k. subst (λ u. OperandFits normal g ds u A.value) (some_is (sym u.1 ∙ k)) x.value))

    -- ---- the parts of an object

    literal_typed : (n : ℕ) → n < 65536 → T normal g ds (Literal kind.Int (pos n)) ≡ Some int
    literal_typed n h = ap (λ b. where_true b int) (and_true (natural_in_range kind.Int n (omega arith)) (le-leb 0 n (omega arith)))

    part_made : (loop : Bool) (x : Part) (p : PlaceCode) (u : CType) → GoodPlace loop u p → Declares (part_code x p).types → (t : CType) → Leads source.layouts formed_source.structs u (x ∷ []) t → GoodPlace loop t (part_code x p)
    part_made loop (MemberAt o s) p u h at t l =
        let d = (declared_split normal g ds p.types (Is p.next (pointer_to s) ∷ []) at).1.0 in
        let z = target_small p.target in
        let n = z.nodes in
        let k = z.depth in
        subst (λ t. GoodPlace loop t (part_code (MemberAt o s) p)) l.2
        (part_good source g normal ds knows (Good loop) (rules loop) p u s s (member (place_of p.target) o) h refl (member_object source.layouts knows.structs knows.members u o s l.0) d
        (ap (type_of_member source.layouts o) (target_typed normal g ds u p.target h.target) ∙ l.0) (target_silent p.target) (omega arith) (omega arith) refl)
    part_made loop (ElementAt j size s) p u h at t l =
        let d = (declared_split normal g ds p.types (Is p.next (pointer_to s) ∷ []) at).1.0 in
        let z = target_small p.target in
        let n = z.nodes in
        let k = z.depth in
        subst (λ t. GoodPlace loop t (part_code (ElementAt j size s) p)) l.3
        (part_good source g normal ds knows (Good loop) (rules loop) p u s s (index (place_of p.target) (expression_of (Number kind.Int (pos j))) size) h refl (element_object source.layouts u size s (target_object normal g ds u p.target h.target) l.0) d
        (ap (λ a. type_of_element source.layouts size a (T normal g ds (Literal kind.Int (pos j)))) (target_typed normal g ds u p.target h.target)
        ∙ ap (type_of_element source.layouts size (Some u)) (literal_typed j l.2) ∙ l.0)
        (and_true (target_silent p.target) refl) (omega arith) (omega arith) refl)

    part_types : (x : Part) (p : PlaceCode) → Declares (part_code x p).types → Declares p.types
    part_types (MemberAt o t) p at = (declared_split normal g ds p.types (Is p.next (pointer_to t) ∷ []) at).0
    part_types (ElementAt j size t) p at = (declared_split normal g ds p.types (Is p.next (pointer_to t) ∷ []) at).0

    parts_types : (xs : List Part) (p : PlaceCode) → Declares (parts_code xs p).types → Declares p.types
    parts_types [] p at = at
    parts_types (x ∷ xs) p at = part_types x p (parts_types xs (part_code x p) at)

    parts_made : (loop : Bool) (xs : List Part) (p : PlaceCode) (u t : CType) → GoodPlace loop u p → Declares (parts_code xs p).types → Leads source.layouts formed_source.structs u xs t → GoodPlace loop t (parts_code xs p)
    parts_made loop [] p u t h at l = subst (λ t. GoodPlace loop t p) l h
    parts_made loop (MemberAt o s ∷ xs) p u t h at l =
        parts_made loop xs (part_code (MemberAt o s) p) s t (part_made loop (MemberAt o s) p u h (parts_types xs (part_code (MemberAt o s) p) at) s (l.0, l.1, refl)) at l.2
    parts_made loop (ElementAt j size s ∷ xs) p u t h at l =
        parts_made loop xs (part_code (ElementAt j size s) p) s t (part_made loop (ElementAt j size s) p u h (parts_types xs (part_code (ElementAt j size s) p) at) s (l.0, l.1, l.2, refl)) at l.3

    below : (ts : List CType) (o : ℕ) (t : CType) → slice_get ts o ≡ Some t → o < length ts
    below [] zero t e = none_is_not e
    below [] (suc o) t e = none_is_not e
    below (u ∷ ts) zero t e = omega arith
    below (u ∷ ts) (suc o) t e = let h = below ts o t e in omega arith

    init_good : (loop : Bool) (v : Variable) (o : ℕ) (t : CType) (e : Expr) → is_initialised source f v o t e ≡ true → has_short_calls e ≡ true → (m : ℕ) → Declares (init_code source g v o t (expression_code source g e m)).types → IsGoodBody loop (init_code source g v o t (expression_code source g e m))
    init_good loop v o t e h s m at =
        let k = left_of_and (same_kind v.kind names.Local) _ h in
        let r = right_of_and (nat_le f.params v.index) _ (right_of_and (same_kind v.kind names.Local) _ h) in
        let c = this_type t (cell_type source f (variable_type g v) o) (left_of_and (has_this_type t (cell_type source f (variable_type g v) o)) (gives source g t e) r) in
        let x = cell_there source formed_source f fits no_registers v o t k c in
        let A = expression_code source g e m in
        let U = or_void (variable_type g v) in
        let start = named_code v U A.next in
        let N = parts_code (cell_parts source.layouts U o) start in
        let d = declared_split normal g ds A.types N.types at in
        let y = value_taken loop t e m (right_of_and (has_this_type t (cell_type source f (variable_type g v) o)) (gives source g t e) r) s d.0 in
        let reach = cell_reached source.layouts formed_source.structs x.0 o x.2 (below (object_cells source.layouts x.0) o t x.3) in
        let first : GoodPlace loop x.0 start = record { each = tt; target = knows.variable v x.0 x.1; named = ap or_void x.1; types = tt } in
        let leads = subst (λ w. Leads source.layouts formed_source.structs x.0 (cell_parts source.layouts (or_void w) o) t) (sym x.1) (subst (λ w. Leads source.layouts formed_source.structs x.0 (cell_parts source.layouts x.0 o) w) (some_is (sym reach.found ∙ x.3)) reach.leads) in
        let z = parts_made loop (cell_parts source.layouts U o) start x.0 t first d.1 leads in
        record {
          each = each_join (Good loop) A.code _ y.1.each (then_one normal g ds (Good loop) (rules loop) N.code _ z.each (store_good normal g ds N.target t A.value z.target y.2));
          types = value_join normal g ds A.types N.types y.1.types z.types;
        }

    -- ---- tests, steps and returns

    test_good : (o : Option Expr) → where_there source f (is_condition source g) o ≡ true → has_short_calls_if_any o ≡ true → (m : ℕ) → Declares (test_code source g o m).types → IsGoodBody true (test_code source g o m)
    test_good None h s m at = record { each = tt; types = tt }
    test_good (Some e) h s m at =
        let t = scalar_type (type_of source g e) h in
        let x = value true e t.0 t.1 s m at in
        let A = expression_code source g e m in
        let r = rules true in
        record { each = each_join (Good true) A.code _ x.each (r.chooses A.value t.0 x.value t.2 [] (one Break) tt (break_good normal formed (setting_of normal formed), tt), tt); types = x.types }

    step_good : (loop : Bool) (o : Option Expr) → where_there source f (has_a_type source g) o ≡ true → has_short_calls_if_any o ≡ true → (m : ℕ) → Declares (effect_code source g o m).types → IsGoodBody loop (effect_code source g o m)
    step_good loop None h s m at = record { each = tt; types = tt }
    step_good loop (Some e) h s m at = effect loop e h s m at

    loop_good : (loop : Bool) (a b c : List Stmt) → Each (Good true) a → Each (Good true) b → Each (Good true) c → Each (Good loop) (one (forever (a ++ (b ++ c))))
    loop_good loop a b c x y z = (forever_good normal formed (setting_of normal formed) loop (a ++ (b ++ c)) (each_join (Good true) a (b ++ c) x (each_join (Good true) b c y z)), tt)

    return_nothing : (loop : Bool) (t : CType) → t ≡ f.result → may_return source f t None ≡ true → Good loop (Return None)
    return_nothing loop t e h = record { fits = subst (λ t. may_return normal formed t None ≡ true) e (by t h); normal = refl; small = refl }
      where
        by : (t : CType) → may_return source f t None ≡ true → may_return normal formed t None ≡ true
        by type.Void h = refl
        by (type.Int k) h = false_is_not_true h
        by (type.Pointer' b u) h = false_is_not_true h
        by (type.Array' b u n) h = false_is_not_true h
        by (type.Struct n) h = false_is_not_true h

    return_held : (loop : Bool) (t : CType) (j : ℕ) → t ≡ f.result → IsDeclared normal g ds j t → IsValue source.layouts t → Good loop (Return (Some (Load (register j) t)))
    return_held loop t j e d v =
        record {
          fits = subst (λ r. may_return normal formed r (Some (Load (register j) t)) ≡ true) e (by t v.scalar (taken_exactly normal g ds t (Load (register j) t) v.scalar (operand_typed normal g ds t (Held j t) (refl, d, v) (scalar_not_void normal g ds t v.scalar))));
          normal = refl;
          small = operand_is_small normal g ds (Held j t);
        }
      where
        by : (t : CType) → is_scalar t ≡ true → gives normal (code_setting normal formed) t (Load (register j) t) ≡ true → may_return normal formed t (Some (Load (register j) t)) ≡ true
        by (type.Int k) s h = h
        by (type.Pointer' b u) s h = h
        by type.Void s h = false_is_not_true s
        by (type.Array' b u n) s h = false_is_not_true s
        by (type.Struct n) s h = false_is_not_true s

    -- the result's type holds values where the function has one
    result_gives : (t : CType) (e : Expr) → may_return source f t (Some e) ≡ true → (gives source g t e ≡ true) × (is_void t ≡ false)
    result_gives type.Void e h = false_is_not_true h
    result_gives (type.Int k) e h = (h, refl)
    result_gives (type.Pointer' b u) e h = (h, refl)
    result_gives (type.Array' b u n) e h = (h, refl)
    result_gives (type.Struct n) e h = (h, refl)

    module _ (result : is_void f.result ≡ false → IsValue source.layouts f.result) (noted : Setting) where
      return_good : (loop : Bool) (e : Expr) → may_return source f f.result (Some e) ≡ true → has_short_calls e ≡ true → (m : ℕ) → Declares (return_code source g f.result (Some e) m).types → IsGoodBody loop (return_code source g f.result (Some e) m)
      return_good loop e h s m at =
          let r = result_gives f.result e h in
          let v = result r.1 in
          let A = expression_code source g e m in
          let d = declared_split normal g ds A.types (Is A.next f.result ∷ []) at in
          let x = value_taken loop f.result e m r.0 s d.0 in
          record {
            each = each_join (Good loop) _ _ (then_one normal g ds (Good loop) (rules loop) A.code _ x.1.each (copy_good normal g ds A.next f.result A.value d.1.0 x.2)) (return_held loop f.result A.next refl d.1.0 v, tt);
            types = value_join normal g ds A.types (Is A.next f.result ∷ []) x.1.types (v, tt);
          }

      mutual
        pub good_statement : (loop : Bool) (before : List Stmt) → Each (Good loop) before → (s : Stmt) → StatementFits source f noted loop s → calls_are_short s ≡ true → is_bare s ≡ true → (m : ℕ) → Declares (statement_code source g f.result before s m).types → IsGoodBody loop (statement_code source g f.result before s m)
        good_statement loop before b Empty h s w m at = record { each = tt; types = tt }
        good_statement loop before b (Eval e) h s w m at = effect loop e h s m at
        good_statement loop before b (Init v o t e) h s w m at = init_good loop v o t e h s m at
        good_statement loop before b (Block' x rs) h s w m at =
            let y = good_row loop before b rs h s w m at in
            record { each = (block_good normal formed (setting_of normal formed) loop (row_code source g f.result before rs m).code y.each, tt); types = y.types }
        good_statement loop before b (If' e x (more_of-Stmt c end_of-Stmt) y (more_of-Stmt d end_of-Stmt)) h s w m at =
            let t = scalar_type (type_of source g e) h.0 in
            let C = expression_code source g e m in
            let A = statement_code source g f.result before c C.next in
            let B = statement_code source g f.result before d A.next in
            let k = declared_split normal g ds C.types (A.types ++ B.types) at in
            let l = declared_split normal g ds A.types B.types k.1 in
            let z = value loop e t.0 t.1 (left_of_and _ _ s) m k.0 in
            let p = good_statement loop before b c h.1 (left_of_and _ _ (right_of_and _ _ s)) (left_of_and _ _ w) C.next l.0 in
            let r = good_statement loop before b d h.2 (right_of_and _ _ (right_of_and _ _ s)) (right_of_and _ _ w) A.next l.1 in
            let rule = rules loop in
            record {
              each = each_join (Good loop) C.code _ z.each (rule.chooses C.value t.0 z.value t.2 A.code B.code p.each r.each, tt);
              types = value_join normal g ds C.types (A.types ++ B.types) z.types (value_join normal g ds A.types B.types p.types r.types);
            }
        good_statement loop before b (While' e x (more_of-Stmt c end_of-Stmt)) h s w m at =
            let C = test_code source g (Some e) m in
            let A = statement_code source g f.result [] c C.next in
            let k = declared_split normal g ds C.types A.types at in
            let y = test_good (Some e) h.0 (left_of_and _ _ s) m k.0 in
            let z = good_statement true [] tt c h.1 (right_of_and _ _ s) w C.next k.1 in
            record { each = loop_good loop C.code A.code [] y.each z.each tt; types = value_join normal g ds C.types A.types y.types z.types }
        good_statement loop before b (Do' x (more_of-Stmt c end_of-Stmt) e) h s w m at =
            let C = test_code source g (Some e) m in
            let A = statement_code source g f.result C.code c C.next in
            let k = declared_split normal g ds C.types A.types at in
            let y = test_good (Some e) h.0 (left_of_and _ _ s) m k.0 in
            let z = good_statement true C.code y.each c h.1 (right_of_and _ _ s) w C.next k.1 in
            record { each = loop_good loop [] A.code C.code tt z.each y.each; types = value_join normal g ds C.types A.types y.types z.types }
        good_statement loop before b (For' test step x (more_of-Stmt c end_of-Stmt)) h s w m at =
            let C = test_code source g test m in
            let L = effect_code source g step C.next in
            let A = statement_code source g f.result L.code c L.next in
            let k = declared_split normal g ds C.types (L.types ++ A.types) at in
            let l = declared_split normal g ds L.types A.types k.1 in
            let y = test_good test (left_of_and (where_there source f (is_condition source g) test) (where_there source f (has_a_type source g) step) h.0) (left_of_and _ _ s) m k.0 in
            let z = step_good true step (right_of_and (where_there source f (is_condition source g) test) (where_there source f (has_a_type source g) step) h.0) (left_of_and _ _ (right_of_and _ _ s)) C.next l.0 in
            let p = good_statement true L.code z.each c h.1 (right_of_and _ _ (right_of_and _ _ s)) w L.next l.1 in
            record { each = loop_good loop C.code A.code L.code y.each p.each z.each; types = value_join normal g ds C.types (L.types ++ A.types) y.types (value_join normal g ds L.types A.types z.types p.types) }
        good_statement loop before b Break h s w m at = record { each = (record { fits = h; normal = refl; small = refl }, tt); types = tt }
        good_statement loop before b Continue h s w m at = record { each = each_join (Good loop) before (one Continue) b (record { fits = h; normal = refl; small = refl }, tt); types = tt }
        good_statement loop before b (Return None) h s w m at = record { each = (return_nothing loop f.result refl h, tt); types = tt }
        good_statement loop before b (Return (Some e)) h s w m at = return_good loop e h s m at
        good_statement loop before b (Ghost x) h s w m at = false_is_not_true w
        good_statement loop before b (Assert v k x) h s w m at = false_is_not_true w

        good_row : {n : _} (loop : Bool) (before : List Stmt) → Each (Good loop) before → (rs : Row_of-Stmt n) → RowFits source f noted loop rs → all_calls_are_short rs ≡ true → are_bare rs ≡ true → (m : ℕ) → Declares (row_code source g f.result before rs m).types → IsGoodBody loop (row_code source g f.result before rs m)
        good_row loop before b end_of-Stmt h s w m at = record { each = tt; types = tt }
        good_row loop before b (more_of-Stmt c rs) h s w m at =
            let A = statement_code source g f.result before c m in
            let B = row_code source g f.result before rs A.next in
            let k = declared_split normal g ds A.types B.types at in
            let x = good_statement loop before b c h.0 (left_of_and _ _ s) (left_of_and _ _ w) m k.0 in
            let y = good_row loop before b rs h.1 (right_of_and _ _ s) (right_of_and _ _ w) A.next k.1 in
            record { each = each_join (Good loop) A.code B.code x.each y.each; types = value_join normal g ds A.types B.types x.types y.types }

      pub good_body : (rs : List Stmt) → AllByRecursion (StatementFits source f noted false) rs → list_all calls_are_short rs ≡ true → list_all is_bare rs ≡ true → (m : ℕ) → Declares (body_code source g f.result rs m).types → IsGoodBody false (body_code source g f.result rs m)
      good_body [] h s w m at = record { each = tt; types = tt }
      good_body (c ∷ rs) h s w m at =
          let A = statement_code source g f.result [] c m in
          let B = body_code source g f.result rs A.next in
          let k = declared_split normal g ds A.types B.types at in
          let x = good_statement false [] tt c h.0 (left_of_and _ _ s) (left_of_and _ _ w) m k.0 in
          let y = good_body rs h.1 (right_of_and _ _ s) (right_of_and _ _ w) A.next k.1 in
          record { each = each_join (Good false) A.code B.code x.each y.each; types = value_join normal g ds A.types B.types x.types y.types }

      -- what the end of a body does
      pub last_good : (is_main : Bool) → (is_main ≡ true → f.result ≡ int) → (m : ℕ) → Declares (last_code is_main f.result m).types → IsGoodBody false (last_code is_main f.result m)
      last_good true e m at =
          let v = subst (IsValue source.layouts) (sym (e refl)) (Rattle.normal_shapes.proofs.GoodTypes.integer_value source.layouts kind.Int) in
          record {
            each = ((rules false).evaluates _ (set_good normal g ds m f.result (truth_literal 0) at.0 (taken_exactly normal g ds f.result (truth_literal 0) v.scalar (ap Some (sym (e refl)))) refl (omega arith) (omega arith) refl), (return_held false f.result m refl at.0 v, tt));
            types = (v, tt);
          }
      last_good false e m at = by f.result refl at
        where
          by : (t : CType) → t ≡ f.result → Declares (last_code false t m).types → IsGoodBody false (last_code false t m)
          by type.Void i at = record { each = (return_nothing false type.Void i refl, tt); types = tt }
          by (type.Int k) i at = record { each = tt; types = tt }
          by (type.Pointer' b u) i at = record { each = tt; types = tt }
          by (type.Array' b u n) i at = record { each = tt; types = tt }
          by (type.Struct n) i at = record { each = tt; types = tt }
