-- The normal form of a source's core is well formed and in normal form.
use Rattle.std.proofs.Common.{◌≡◌, ◌==◌, ℕ, zero, suc, ◌+◌, ◌≤◌, Bool, true, false, cond, ◌&&◌, ◌||◌, not, map, List, [], ◌∷◌, ◌++◌, Option, Some, None, refl, sym, ap, subst, ◌∙◌, arith}
use Rattle.std.specs.Prelude.{slice_get, is_some, nat_le, option_map, option_and_then, IsTrue, codes}
use Rattle.std.specs.List.{list_all, AllByRecursion}
use Rattle.std.proofs.lemmas.Bool.{leb-true}
use Rattle.step_meaning.specs.declared.value.CType.{CType, end_of-CType, more_of-CType}
use Rattle.step_meaning.specs.declared.value.CType.TheVariants as type
use Rattle.step_meaning.specs.declared.value.Value.{Value}
use Rattle.step_meaning.specs.declared.value.Value.TheVariants as value
use Rattle.step_meaning.specs.declared.value.NameKind.{NameKind}
use Rattle.step_meaning.specs.declared.value.NameKind.TheVariants as names
use Rattle.step_meaning.specs.declared.expr.Variable.{Variable}
use Rattle.step_meaning.specs.declared.stmt.Stmt.{Stmt}
use Rattle.step_meaning.specs.declared.stmt.Stmt.TheVariants.{Empty, Return}
use Rattle.step_meaning.specs.declared.program.Core.{Core}
use Rattle.step_meaning.specs.declared.program.Declared.{Declared}
use Rattle.step_meaning.specs.declared.program.Function.{Function}
use Rattle.step_meaning.specs.ExpressionTypes.{has_body, is_void, called, parameter_types}
use Rattle.step_meaning.specs.Identifiers.{is_name, are_distinct}
use Rattle.step_meaning.specs.InitialValues.{BeginsAt, IsInitialValue, AreInitialValues, AllInitialised}
use Rattle.step_meaning.specs.Library.{unsigned_long, void_pointer, is_function, is_library, is_allocation, is_malloc, is_free, but_allocation}
use Rattle.step_meaning.specs.Normal.{all_normal, ends_with_return, is_normal_body, are_normal_functions}
use Rattle.step_meaning.specs.Settings.{setting_of, code_setting, variable_type}
use Rattle.step_meaning.specs.Sources.{is_bare, calls_are_short, have_source_types, IsSourceFunction, IsSource}
use Rattle.step_meaning.specs.StatementRules.{AllFit, BodyFits}
use Rattle.step_meaning.specs.TermSizes.{type_depth}
use Rattle.step_meaning.specs.TypeRules.{is_scalar, is_scalar_type, is_result_type, is_spelled, keeps_rules}
use Rattle.step_meaning.specs.WellFormed.{OfBody, is_main, declared_names, IsWellFormedFunction, IsWellFormed}
use Rattle.step_meaning.proofs.FormedFunctions.{formed_function}
use Rattle.step_meaning.proofs.Ranges.{false_is_not_true, and_true, left_of_and, right_of_and}
use Rattle.step_meaning.proofs.TypedMemory.{WhereSome, get_fits}
use Rattle.normal_laws.specs.NormalForm.{int, result_type, Typed, Is, StatementCode, body_code, last_code, ended_body_code, declared_register, normal_body, normal_function, normal_functions, normal_core, Named}
use Rattle.normal_laws.proofs.Emitted.{Each, each_join}
use Rattle.normal_laws.proofs.Numbering.{declared_at}
use Rattle.normal_laws.proofs.ProgramsAgree.{normal_got}
use Rattle.normal_laws.proofs.Registers.{AreAt}
use Rattle.normal_laws.proofs.SourceCores.{source_core, begins_bare}
use Rattle.normal_laws.proofs.TypesOfParts.{none_is_not, some_is}
use Rattle.normal_shapes.specs.Form.{NormalIsFormed}
use Rattle.normal_shapes.proofs.GoodTypes.{IsObject, IsValue}
use Rattle.normal_shapes.proofs.TypedOperands.{TargetFits}
use Rattle.normal_shapes.proofs.GoodStatements.{AreDeclared, declared_split, EachValue, value_join}
use Rattle.normal_shapes.proofs.GoodCalls.{HasCallee, KnowsSource}
use Rattle.normal_shapes.proofs.GoodBodies.{Good, good_body, last_good}

-- ---- lists

got_both : (P Q : Declared → Bool) (ds : List Declared) (i : ℕ) (t : CType) → list_all P ds ≡ true → list_all Q ds ≡ true → option_map (λ d. d.ctype) (slice_get ds i) ≡ Some t → (d : Declared) × (P d ≡ true) × (Q d ≡ true) × (d.ctype ≡ t)
got_both P Q [] zero t h k e = none_is_not e
got_both P Q [] (suc i) t h k e = none_is_not e
got_both P Q (d ∷ ds) zero t h k e = (d, left_of_and _ _ h, left_of_and _ _ k, some_is e)
got_both P Q (d ∷ ds) (suc i) t h k e = got_both P Q ds i t (right_of_and _ _ h) (right_of_and _ _ k) e

nothing_there : (ds : List Declared) (i : ℕ) → ds ≡ [] → option_map (λ d. d.ctype) (slice_get ds i) ≡ None
nothing_there [] zero e = refl
nothing_there [] (suc i) e = refl
nothing_there (d ∷ ds) i e = absurd (no e)
  where
    no : d ∷ ds ≡ [] → ⊥
    no e = cc

mapped_get : (ds : List Declared) (i : ℕ) → slice_get (map (λ d. d.ctype) ds) i ≡ option_map (λ d. d.ctype) (slice_get ds i)
mapped_get [] zero = refl
mapped_get [] (suc i) = refl
mapped_get (d ∷ ds) zero = refl
mapped_get (d ∷ ds) (suc i) = mapped_get ds i

-- ---- functions of a normal form

module _ (q : Core) where
  pub same_parameters : (i : ℕ) (f : Function) (b : Option (List Stmt)) → parameter_types (normal_function q i f b) ≡ parameter_types f
  same_parameters i f None = refl
  same_parameters i f (Some ss) = refl

  pub same_result : (i : ℕ) (f : Function) (b : Option (List Stmt)) → (normal_function q i f b).result ≡ f.result
  same_result i f None = refl
  same_result i f (Some ss) = refl

  same_function_test : (name : List ℕ) (t : CType) (ts : List CType) (i : ℕ) (f : Function) (b : Option (List Stmt)) → is_function name t ts (normal_function q i f b) ≡ is_function name t ts f
  same_function_test name t ts i f None = refl
  same_function_test name t ts i f (Some ss) = refl

  pub still_bodied : (i : ℕ) (f : Function) (b : Option (List Stmt)) → f.body ≡ b → has_body (normal_function q i f b) ≡ has_body f
  still_bodied i f None e = refl
  still_bodied i f (Some ss) e = ap is_some (sym e)

  -- a function without a body stays as it is
  bodiless_stays : (i : ℕ) (f : Function) (b : Option (List Stmt)) → f.body ≡ b → not (has_body f) ≡ true → normal_function q i f f.body ≡ f
  bodiless_stays i f None e h = ap (normal_function q i f) e
  bodiless_stays i f (Some ss) e h = false_is_not_true (sym (ap (λ b. not (is_some b)) e) ∙ h)

  library_stays : (name : List ℕ) (t : CType) (ts : List CType) (n : ℕ) (o : Option Function) → is_library name t ts o ≡ true → option_map (λ f. normal_function q n f f.body) o ≡ o
  library_stays name t ts n None h = refl
  library_stays name t ts n (Some f) h = ap Some (bodiless_stays n f f.body refl (right_of_and (is_function name t ts f) _ h))

  library_there : (name : List ℕ) (t : CType) (ts : List CType) (n : ℕ) → is_library name t ts (slice_get q.functions n) ≡ true → slice_get (normal_core q).functions n ≡ slice_get q.functions n
  library_there name t ts n h = normal_got q n ∙ library_stays name t ts n (slice_get q.functions n) h

  main_stays : (n : ℕ) (o : Option Function) → is_main o ≡ true → is_main (option_map (λ f. normal_function q n f f.body) o) ≡ true
  main_stays n None h = h
  main_stays n (Some f) h = and_true (same_function_test (codes "main") int [] n f f.body ∙ left_of_and _ (has_body f) h) (still_bodied n f f.body refl ∙ right_of_and (is_function (codes "main") int [] f) _ h)

  same_names : (i : ℕ) (fs : List Function) → map (λ f. f.name) (normal_functions q i fs) ≡ map (λ f. f.name) fs
  same_names i [] = refl
  same_names i (f ∷ fs) = ap (λ n. n ∷ map (λ f. f.name) (normal_functions q (suc i) fs)) (by f.body) ∙ ap (λ l. f.name ∷ l) (same_names (suc i) fs)
    where
      by : (b : Option (List Stmt)) → (normal_function q i f b).name ≡ f.name
      by None = refl
      by (Some ss) = refl

  -- ---- initial values

  begins : (o : Option Declared) (a : ℕ) (u : CType) → BeginsAt q o a u → BeginsAt (normal_core q) o a u
  begins None a u x = x
  begins (Some d) a u x = x

  initial_value : (i : ℕ) (u : CType) (v : Value) → IsInitialValue q i u v → IsInitialValue (normal_core q) i u v
  initial_value i (type.Int k) (value.Int z) x = x
  initial_value i (type.Pointer' b u) value.Null x = x
  initial_value i (type.Pointer' b (more_of-CType u end_of-CType)) (value.Pointer n o) x =
      record { file_scope = x.file_scope; no_activation = x.no_activation; no_later = x.no_later; part = begins (slice_get q.globals n.index) o u x.part }
  initial_value i _ _ x = absurd x

  initial_values : (i : ℕ) (us : List CType) (vs : List Value) → AreInitialValues q i us vs → AreInitialValues (normal_core q) i us vs
  initial_values i [] [] x = x
  initial_values i (u ∷ us) (v ∷ vs) x = (initial_value i u v x.0, initial_values i us vs x.1)
  initial_values i _ _ x = absurd x

  all_initial : (i : ℕ) (ds : List Declared) (vs : List (List Value)) → AllInitialised q i ds vs → AllInitialised (normal_core q) i ds vs
  all_initial i [] [] x = x
  all_initial i (d ∷ ds) (v ∷ vs) x = (initial_values i _ v x.0, all_initial (suc i) ds vs x.1)
  all_initial i _ _ x = absurd x

-- ---- bodies that end with a `return`

ends_after : (a : List Stmt) (s : Stmt) (b : List Stmt) → ends_with_return (s ∷ b) ≡ true → ends_with_return (a ++ (s ∷ b)) ≡ true
ends_after [] s b h = h
ends_after (x ∷ []) s b h = longer x s b h
  where
    longer : (x s : Stmt) (b : List Stmt) → ends_with_return (s ∷ b) ≡ true → ends_with_return (x ∷ (s ∷ b)) ≡ true
    longer (Return e) s b h = h
    longer _ s b h = h
ends_after (x ∷ (y ∷ a)) s b h = longer x y (a ++ (s ∷ b)) (ends_after (y ∷ a) s b h)
  where
    longer : (x s : Stmt) (b : List Stmt) → ends_with_return (s ∷ b) ≡ true → ends_with_return (x ∷ (s ∷ b)) ≡ true
    longer (Return e) s b h = h
    longer _ s b h = h

last_ends : (a : List Stmt) (is_main : Bool) (t : CType) (m : ℕ) → (is_main || is_void t) ≡ true → ends_with_return (a ++ (last_code is_main t m).code) ≡ true
last_ends a true t m h = ends_after a _ _ refl
last_ends a false type.Void m h = ends_after a _ _ refl
last_ends a false (type.Int k) m h = false_is_not_true h
last_ends a false (type.Pointer' b u) m h = false_is_not_true h
last_ends a false (type.Array' b u n) m h = false_is_not_true h
last_ends a false (type.Struct n) m h = false_is_not_true h

-- ---- one function of a source

module _ (q : Core) (h : IsSource q) where
  pub own : (i : ℕ) (f : Function) → slice_get q.functions i ≡ Some f → IsSourceFunction f
  own i f e = subst (WhereSome IsSourceFunction) e (get_fits IsSourceFunction q.functions i h.functions)

  object_of : (ds : List Declared) (i : ℕ) (t : CType) → list_all (λ d. keeps_rules q.layouts d.ctype) ds ≡ true → have_source_types ds ≡ true → option_map (λ d. d.ctype) (slice_get ds i) ≡ Some t → IsObject q.layouts t
  object_of ds i t k s e =
      let d = got_both (λ d. keeps_rules q.layouts d.ctype) (λ d. nat_le (type_depth d.ctype) 99) ds i t k s e in
      subst (IsObject q.layouts) d.3 (record { keeps = d.1; depth = leb-true (type_depth d.0.ctype) 99 d.2 })

  result_value : (f : Function) → is_result_type q.layouts f.result ≡ true → IsSourceFunction f → is_void f.result ≡ false → IsValue q.layouts f.result
  result_value f r s v = record { scalar = left_of_and _ _ (scalar f.result r v); keeps = right_of_and (is_scalar f.result) _ (scalar f.result r v); depth = let d : type_depth f.result ≤ 99 = leb-true (type_depth f.result) 99 (left_of_and _ _ s.types) in omega arith }
    where
      scalar : (t : CType) → is_result_type q.layouts t ≡ true → is_void t ≡ false → is_scalar_type q.layouts t ≡ true
      scalar type.Void r v = false_is_not_true (sym v)
      scalar (type.Int k) r v = left_of_and (is_scalar_type q.layouts (type.Int k)) (is_spelled (type.Int k)) r
      scalar (type.Pointer' b t) r v = left_of_and (is_scalar_type q.layouts (type.Pointer' b t)) (is_spelled (type.Pointer' b t)) r
      scalar (type.Array' b t n) r v = left_of_and (is_scalar_type q.layouts (type.Array' b t n)) (is_spelled (type.Array' b t n)) r
      scalar (type.Struct n) r v = left_of_and (is_scalar_type q.layouts (type.Struct n)) (is_spelled (type.Struct n)) r

  -- a function that is called
  called_function : (n : ℕ) (f : Function) (o : Option Function) → slice_get q.functions n ≡ o → option_and_then (λ f. cond (has_body f && not (n == q.start)) (Some f) None) o ≡ Some f → (slice_get q.functions n ≡ Some f) × ((has_body f && not (n == q.start)) ≡ true)
  called_function n f None e c = none_is_not c
  called_function n f (Some k) e c = by (has_body k && not (n == q.start)) refl c
    where
      by : (b : Bool) → (has_body k && not (n == q.start)) ≡ b → cond b (Some k) None ≡ Some f → (slice_get q.functions n ≡ Some f) × ((has_body f && not (n == q.start)) ≡ true)
      by true w c = (e ∙ c, subst (λ k. (has_body k && not (n == q.start)) ≡ true) (some_is c) w)
      by false w c = none_is_not c

  module _ (i : ℕ) (f : Function) (ss : List Stmt) (there : slice_get q.functions i ≡ Some f) (b : f.body ≡ Some ss) where
    abbrev formed : Function
    formed = normal_function q i f (Some ss)

    abbrev ds : List Declared
    ds = formed.registers

    bodied : has_body f ≡ true
    bodied = ap is_some b

    fits : IsWellFormedFunction q f
    fits = formed_function q h.well_formed i f there bodied

    callee : (n : ℕ) (k : Function) → called q n ≡ Some k → HasCallee q (code_setting q f) (normal_core q) ds n k
    callee n k c =
        let x = called_function n k (slice_get q.functions n) refl c in
        let body = left_of_and (has_body k) _ x.1 in
        let w = formed_function q h.well_formed n k x.0 body in
        record {
          other = normal_function q n k k.body;
          found = ap (option_and_then (λ f. cond (has_body f && not (n == q.start)) (Some f) None)) (normal_got q n ∙ ap (option_map (λ f. normal_function q n f f.body)) x.0)
              ∙ ap (λ b. cond b (Some (normal_function q n k k.body)) None) (and_true (still_bodied q n k k.body refl ∙ body) (right_of_and (has_body k) _ x.1));
          parameters = same_parameters q n k k.body;
          result = same_result q n k k.body;
          code_result = ap result_type x.0;
          value = result_value k w.result (own n k x.0);
        }

    variable : (v : Variable) (t : CType) → variable_type (code_setting q f) v ≡ Some t → TargetFits (normal_core q) (code_setting q f) ds t (Named v)
    variable v t e = by v.kind e
      where
        own_f : IsSourceFunction f
        own_f = own i f there

        by : (k : NameKind) → variable_type (code_setting q f) (record { kind = k; index = v.index }) ≡ Some t → TargetFits (normal_core q) (code_setting q f) ds t (Named (record { kind = k; index = v.index }))
        by names.Global e = (e, refl, object_of q.globals v.index t h.well_formed.globals h.global_types e)
        by names.Local e = (e, refl, object_of f.locals v.index t fits.locals (right_of_and _ _ own_f.types) e)
        by names.Heap e = none_is_not (sym (nothing_there [] v.index refl) ∙ e)
        by names.Register e = none_is_not (sym (nothing_there f.registers v.index own_f.registers) ∙ e)
        by names.GhostGlobal e = none_is_not (sym (nothing_there [] v.index refl) ∙ e)
        by names.GhostLocal e = none_is_not (sym (nothing_there [] v.index refl) ∙ e)

    knows : KnowsSource q (code_setting q f) (normal_core q) ds
    knows = record { structs = h.well_formed.structs; members = h.struct_types; variable = variable; callee = callee }

    all_declared : (ts : List Typed) → AreAt (map (λ d. d.ctype) ds) ts → AreDeclared (normal_core q) (code_setting q f) ds ts
    all_declared [] a = tt
    all_declared (Is j t ∷ ts) a = (sym (mapped_get ds j) ∙ a.0, all_declared ts a.1)

    main_result : (i == q.start) ≡ true → f.result ≡ int
    main_result e = let s = source_core q h in let c = s.functions i f there in c.main_result e

    pub each_good : Each (Good q i f ss false) (ended_body_code q (i == q.start) f ss).code × EachValue (normal_core q) (code_setting q f) ds (ended_body_code q (i == q.start) f ss).types
    each_good =
        let source = own i f there in
        let bare = subst (OfBody (λ ss. IsTrue (list_all is_bare ss))) b source.bare in
        let short = subst (OfBody (λ ss. IsTrue (list_all calls_are_short ss))) b source.short_calls in
        let fit = subst (AllFit q f (setting_of q f)) (begins_bare ss bare) (subst (OfBody (BodyFits q f)) b fits.body).1 in
        let B = body_code q (code_setting q f) f.result ss 0 in
        let L = last_code (i == q.start) f.result B.next in
        let d = declared_split (normal_core q) (code_setting q f) ds B.types L.types (all_declared (B.types ++ L.types) (declared_at q (i == q.start) f ss)) in
        let result = result_value f fits.result source in
        let x = good_body q i f ss knows h.well_formed fits source.registers result (setting_of q f) ss fit short bare 0 d.0 in
        let y = last_good q i f ss knows h.well_formed fits source.registers result (setting_of q f) (i == q.start) main_result B.next d.1 in
        (each_join (Good q i f ss false) B.code L.code x.each y.each, value_join (normal_core q) (code_setting q f) ds B.types L.types x.types y.types)

    registers_scalar : (ts : List Typed) → EachValue (normal_core q) (code_setting q f) ds ts → list_all (λ d. is_scalar_type q.layouts d.ctype) (map declared_register ts) ≡ true
    registers_scalar [] v = refl
    registers_scalar (Is j t ∷ ts) v = let x = v.0 in and_true (and_true x.scalar x.keeps) (registers_scalar ts v.1)

    all_fit : (rs : List Stmt) → Each (Good q i f ss false) rs → AllFit (normal_core q) formed (setting_of (normal_core q) formed) rs
    all_fit [] k = tt
    all_fit (s ∷ rs) k = (let x = k.0 in x.fits, all_fit rs k.1)

    every_normal : (rs : List Stmt) → Each (Good q i f ss false) rs → all_normal rs ≡ true
    every_normal [] k = refl
    every_normal (s ∷ rs) k = let x = k.0 in and_true x.normal (every_normal rs k.1)

    pub function_formed : IsWellFormedFunction (normal_core q) formed
    function_formed =
        record {
          result = fits.result;
          parameters_first = fits.parameters_first;
          parameters = fits.parameters;
          locals = fits.locals;
          registers = registers_scalar (ended_body_code q (i == q.start) f ss).types each_good.1;
          ghosts = fits.ghosts;
          body = (tt, (tt, all_fit (ended_body_code q (i == q.start) f ss).code each_good.0));
          names = subst (OfBody (λ ss. IsTrue (list_all is_name (declared_names f.locals)))) b fits.names;
        }

    pub body_normal : is_normal_body (normal_core q) i formed (Some (normal_body q i f ss)) ≡ true
    body_normal = and_true (every_normal (ended_body_code q (i == q.start) f ss).code each_good.0) (by (i == q.start || is_void f.result) refl)
      where
        B : StatementCode
        B = body_code q (code_setting q f) f.result ss 0

        by : (c : Bool) → (i == q.start || is_void f.result) ≡ c → (not c || ends_with_return (normal_body q i f ss)) ≡ true
        by true e = last_ends (Empty ∷ B.code) (i == q.start) f.result B.next e
        by false e = refl

  -- ---- all functions

  without_body : (f : Function) → f.body ≡ None → IsWellFormedFunction q f → IsWellFormedFunction (normal_core q) f
  without_body f b w =
      record {
        result = w.result;
        parameters_first = w.parameters_first;
        parameters = w.parameters;
        locals = w.locals;
        registers = w.registers;
        ghosts = w.ghosts;
        body = subst (OfBody (BodyFits (normal_core q) f)) (sym b) tt;
        names = w.names;
      }

  one_formed : (i : ℕ) (f : Function) → slice_get q.functions i ≡ Some f → IsWellFormedFunction q f → (b : Option (List Stmt)) → f.body ≡ b → IsWellFormedFunction (normal_core q) (normal_function q i f b)
  one_formed i f e w None b = without_body f b w
  one_formed i f e w (Some ss) b = function_formed i f ss e b

  one_normal : (i : ℕ) (f : Function) → slice_get q.functions i ≡ Some f → (b : Option (List Stmt)) → f.body ≡ b → is_normal_body (normal_core q) i (normal_function q i f b) (normal_function q i f b).body ≡ true
  one_normal i f e None b = subst (λ b. is_normal_body (normal_core q) i f b ≡ true) (sym b) refl
  one_normal i f e (Some ss) b = body_normal i f ss e b

  -- the functions from number i on
  abbrev pub AreThere : ℕ → List Function → Type 0
  AreThere i fs = (j : ℕ) (f : Function) → slice_get fs j ≡ Some f → slice_get q.functions (i + j) ≡ Some f

  pub first_there : (i : ℕ) (f : Function) (fs : List Function) → AreThere i (f ∷ fs) → slice_get q.functions i ≡ Some f
  first_there i f fs h = ap (slice_get q.functions) (from i) ∙ h zero f refl
    where
      from : (i : ℕ) → i ≡ i + 0
      from i = omega arith

  pub more_there : (i : ℕ) (f : Function) (fs : List Function) → AreThere i (f ∷ fs) → AreThere (suc i) fs
  more_there i f fs h j k e = ap (slice_get q.functions) (next i j) ∙ h (suc j) k e
    where
      next : (i j : ℕ) → suc i + j ≡ i + suc j
      next i j = omega arith

  all_formed : (i : ℕ) (fs : List Function) → AreThere i fs → AllByRecursion (IsWellFormedFunction q) fs → AllByRecursion (IsWellFormedFunction (normal_core q)) (normal_functions q i fs)
  all_formed i [] t w = tt
  all_formed i (f ∷ fs) t w = (one_formed i f (first_there i f fs t) w.0 f.body refl, all_formed (suc i) fs (more_there i f fs t) w.1)

  every_function_normal : (i : ℕ) (fs : List Function) → AreThere i fs → are_normal_functions (normal_core q) i (normal_functions q i fs) ≡ true
  every_function_normal i [] t = refl
  every_function_normal i (f ∷ fs) t = and_true (one_normal i f (first_there i f fs t) f.body refl) (every_function_normal (suc i) fs (more_there i f fs t))

  but_allocation_formed : (fs : List Function) → AreThere 0 fs → is_malloc (slice_get fs 2) ≡ true → is_free (slice_get fs 3) ≡ true → AllByRecursion (IsWellFormedFunction q) (but_allocation fs) → AllByRecursion (IsWellFormedFunction (normal_core q)) (but_allocation (normal_functions q 0 fs))
  but_allocation_formed [] t m r w = false_is_not_true m
  but_allocation_formed (a ∷ []) t m r w = false_is_not_true m
  but_allocation_formed (a ∷ b ∷ []) t m r w = false_is_not_true m
  but_allocation_formed (a ∷ b ∷ c ∷ []) t m r w = false_is_not_true r
  but_allocation_formed (a ∷ b ∷ c ∷ d ∷ fs) t m r w =
      let t1 = more_there 0 a (b ∷ c ∷ d ∷ fs) t in
      let t2 = more_there 1 b (c ∷ d ∷ fs) t1 in
      let t3 = more_there 2 c (d ∷ fs) t2 in
      let t4 = more_there 3 d fs t3 in (
        one_formed 0 a (first_there 0 a (b ∷ c ∷ d ∷ fs) t) w.0 a.body refl,
        (one_formed 1 b (first_there 1 b (c ∷ d ∷ fs) t1) w.1.0 b.body refl, all_formed 4 fs t4 w.1.1),
      )

  pub all_there : AreThere 0 q.functions
  all_there j f e = ap (slice_get q.functions) (from j) ∙ e
    where
      from : (j : ℕ) → 0 + j ≡ j
      from j = omega arith

  allocation_stays : (name : List ℕ) (t : CType) (ts : List CType) (n : ℕ) → is_allocation name t ts (slice_get q.functions n) ≡ true → is_allocation name t ts (slice_get (normal_core q).functions n) ≡ true
  allocation_stays name t ts n x = subst (λ o. is_allocation name t ts o ≡ true) (sym (library_there q name t ts n (left_of_and (is_library name t ts (slice_get q.functions n)) _ x))) x

  library_kept : (name : List ℕ) (t : CType) (ts : List CType) (n : ℕ) → is_library name t ts (slice_get q.functions n) ≡ true → is_library name t ts (slice_get (normal_core q).functions n) ≡ true
  library_kept name t ts n x = subst (λ o. is_library name t ts o ≡ true) (sym (library_there q name t ts n x)) x

  core_formed : IsWellFormed (normal_core q)
  core_formed =
      let w = h.well_formed in
      record {
        structs = w.structs;
        globals = w.globals;
        initial = all_initial q 0 q.globals q.initial w.initial;
        ghosts = w.ghosts;
        getchar = library_kept (codes "getchar") int [] 0 w.getchar;
        putchar = library_kept (codes "putchar") int (int ∷ []) 1 w.putchar;
        malloc = allocation_stays (codes "malloc") void_pointer (unsigned_long ∷ []) 2 w.malloc;
        free = allocation_stays (codes "free") type.Void (void_pointer ∷ []) 3 w.free;
        main = subst (λ o. is_main o ≡ true) (sym (normal_got q q.start)) (main_stays q q.start (slice_get q.functions q.start) w.main);
        functions = but_allocation_formed q.functions all_there w.malloc w.free w.functions;
        file_names = subst (λ l. list_all is_name (declared_names q.globals ++ l) ≡ true) (sym (same_names q 0 q.functions)) w.file_names;
        distinct_names = subst (λ l. are_distinct (declared_names q.globals ++ l) ≡ true) (sym (same_names q 0 q.functions)) w.distinct_names;
        tags = w.tags;
        distinct_tags = w.distinct_tags;
        member_names = w.member_names;
      }

pub normal_formed : NormalIsFormed
normal_formed q h = (core_formed q h, every_function_normal q h 0 q.functions (all_there q h))
