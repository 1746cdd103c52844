-- Calls of operands have types, are single calls and small.
use Rattle.std.proofs.Common.{◌≡◌, ℕ, suc, ◌*◌, ◌≤◌, true, false, map, length, List, [], ◌∷◌, ◌++◌, Some, refl, ap, ◌∙◌, arith}
use Rattle.std.specs.Prelude.{slice_get}
use denote.Hole.Carrier.{hidden}
use Rattle.step_meaning.specs.declared.value.CType.{CType}
use Rattle.step_meaning.specs.declared.value.CType.TheVariants as type
use Rattle.step_meaning.specs.declared.expr.Expr.{Expr}
use Rattle.step_meaning.specs.declared.expr.Expr.TheVariants.{Invoke}
use Rattle.step_meaning.specs.declared.expr.Expr.TheBlock.{shape-the_row-Expr-1, hidden-the_row-Expr-1}
use Rattle.step_meaning.specs.declared.stmt.Stmt.{Stmt}
use Rattle.step_meaning.specs.declared.program.Core.{Core}
use Rattle.step_meaning.specs.declared.program.Declared.{Declared}
use Rattle.step_meaning.specs.declared.program.Function.{Function}
use Rattle.step_meaning.specs.Settings.{Setting, variable_type}
use Rattle.step_meaning.specs.Types.{where_true}
use Rattle.step_meaning.specs.TypeRules.{are_layouts}
use Rattle.step_meaning.specs.ExpressionTypes.{is_void, is_taken_by, are_arguments, parameter_types, called, call_type}
use Rattle.step_meaning.specs.Normal.{are_operands}
use Rattle.step_meaning.specs.Sizes.{row_nodes, row_depth}
use Rattle.step_meaning.specs.Sources.{have_source_types}
use Rattle.step_meaning.proofs.Ranges.{and_true}
use Rattle.normal_laws.specs.NormalForm.{Operand, Target, Named, expression_of, one, Typed, Is, Code, Codes, invoke_code, result_type, Held}
use Rattle.normal_laws.proofs.Emitted.{Each}
use Rattle.normal_shapes.proofs.GoodTypes.{IsValue}
use Rattle.normal_shapes.proofs.TypedOperands.{T, own, IsDeclared, TargetFits, operand_is, operand_small}
use Rattle.normal_shapes.proofs.GoodStatements.{AreDeclared, declared_split, EachValue, value_join, set_good, call_good, taken_exactly, Allows, IsGoodCode, then_one}

-- ---- what is known of a source and the core of its normal form

module _ (source : Core) (g : Setting) (q : Core) (ds : List Declared) where
  -- a function that is called
  pub record HasCallee (n : ℕ) (f : Function) : Type 0 where
    pub other : Function
    pub found : called q n ≡ Some other
    pub parameters : parameter_types other ≡ parameter_types f
    pub result : other.result ≡ f.result
    pub code_result : result_type (slice_get source.functions n) ≡ f.result
    pub value : is_void f.result ≡ false → IsValue g.layouts f.result

  pub record KnowsSource : Type 0 where
    pub structs : are_layouts g.layouts ≡ true
    pub members : Rattle.std.specs.List.list_all (λ l. have_source_types l.members) g.layouts ≡ true
    pub variable : (v : _) (t : CType) → variable_type g v ≡ Some t → TargetFits q g ds t (Named v)
    pub callee : (n : ℕ) (f : Function) → called source n ≡ Some f → HasCallee n f

-- ---- rows of operands

module _ (q : Core) (g : Setting) (ds : List Declared) where
  abbrev pub AreTaken : List Operand → List CType → Type 0
  AreTaken [] [] = Unit {0}
  AreTaken [] (t ∷ ts) = ⊥
  AreTaken (a ∷ more) [] = ⊥
  AreTaken (a ∷ more) (t ∷ ts) = (is_taken_by t (expression_of a) (T q g ds (expression_of a)) ≡ true) × AreTaken more ts

  row_taken : (vs : List Operand) (ts : List CType) → AreTaken vs ts → are_arguments q (own q g ds) (hidden-the_row-Expr-1 (map expression_of vs)) ts ≡ true
  unfolding shape-the_row-Expr-1 hidden-the_row-Expr-1 hidden
  row_taken [] [] h = refl
  row_taken [] (t ∷ ts) h = absurd h
  row_taken (a ∷ vs) [] h = absurd h
  row_taken (a ∷ vs) (t ∷ ts) h = and_true h.0 (row_taken vs ts h.1)

  row_operands : (vs : List Operand) → are_operands (hidden-the_row-Expr-1 (map expression_of vs)) ≡ true
  unfolding shape-the_row-Expr-1 hidden-the_row-Expr-1 hidden
  row_operands [] = refl
  row_operands (a ∷ vs) = and_true (operand_is a) (row_operands vs)

  few_nodes : (vs : List Operand) → row_nodes (hidden-the_row-Expr-1 (map expression_of vs)) ≤ 2 * length vs
  unfolding shape-the_row-Expr-1 hidden-the_row-Expr-1 hidden
  few_nodes [] = omega arith
  few_nodes (a ∷ vs) = let s = operand_small a in let n = s.nodes in let more = few_nodes vs in omega arith

  low_depth : (vs : List Operand) → row_depth (hidden-the_row-Expr-1 (map expression_of vs)) ≤ 2
  unfolding shape-the_row-Expr-1 hidden-the_row-Expr-1 hidden
  low_depth [] = omega arith
  low_depth (a ∷ vs) = let s = operand_small a in let d = s.depth in let more = low_depth vs in omega arith

  module _ (S : Stmt → Type 0) (rules : Allows q g ds S) where
    pub record AreGoodCodes (count : ℕ) (ts : List CType) (E : Codes) : Type 0 where
      pub each : Each S E.code
      pub taken : AreTaken E.values ts
      pub types : EachValue q g ds E.types
      pub counted : length E.values ≡ count

    module _ (n count : ℕ) (few : count ≤ 598) (f : Function) (found : called q n ≡ Some f) (E : Codes) (good : AreGoodCodes count (parameter_types f) E) where
      abbrev invoked : Expr
      invoked = Invoke n (map expression_of E.values)

      invoked_typed : T q g ds invoked ≡ Some f.result
      invoked_typed =
          ap (λ o. call_type o (are_arguments q (own q g ds) (hidden-the_row-Expr-1 (map expression_of E.values)))) found
          ∙ ap (λ b. where_true b f.result) (row_taken E.values (parameter_types f) good.taken)

      into_good : (t : CType) → f.result ≡ t → IsValue g.layouts t → IsDeclared q g ds E.next t → IsGoodCode q g ds S rules t (record { code = E.code ++ one (Rattle.normal_laws.specs.NormalForm.set_to E.next t invoked); value = Held E.next t; next = suc E.next; types = E.types ++ (Is E.next t ∷ []) })
      into_good t e v d =
          let c = good.counted in
          let a = few_nodes E.values in
          let b = low_depth E.values in
          record {
            each = then_one q g ds S rules E.code _ good.each (set_good q g ds E.next t invoked d (taken_exactly q g ds t invoked v.scalar (invoked_typed ∙ ap Some e)) (row_operands E.values) (omega arith) (omega arith) refl);
            value = (refl, d, v);
            types = value_join q g ds E.types (Is E.next t ∷ []) good.types (v, tt);
          }

      alone_good : f.result ≡ type.Void → IsGoodCode q g ds S rules type.Void (invoke_code n type.Void E)
      alone_good e =
          let c = good.counted in
          let a = few_nodes E.values in
          let b = low_depth E.values in
          record {
            each = then_one q g ds S rules E.code _ good.each (call_good q g ds invoked f.result invoked_typed (row_operands E.values) (omega arith) (omega arith) refl);
            value = refl;
            types = good.types;
          }

      pub invoke_good : (t : CType) → f.result ≡ t → (is_void t ≡ false → IsValue g.layouts t) → AreDeclared q g ds (invoke_code n t E).types → IsGoodCode q g ds S rules t (invoke_code n t E)
      invoke_good type.Void e v at = alone_good e
      invoke_good (type.Int k) e v at = into_good (type.Int k) e (v refl) (declared_split q g ds E.types (Is E.next (type.Int k) ∷ []) at).1.0
      invoke_good (type.Pointer' b u) e v at = into_good (type.Pointer' b u) e (v refl) (declared_split q g ds E.types (Is E.next (type.Pointer' b u) ∷ []) at).1.0
      invoke_good (type.Array' b u m) e v at = into_good (type.Array' b u m) e (v refl) (declared_split q g ds E.types (Is E.next (type.Array' b u m) ∷ []) at).1.0
      invoke_good (type.Struct m) e v at = into_good (type.Struct m) e (v refl) (declared_split q g ds E.types (Is E.next (type.Struct m) ∷ []) at).1.0
