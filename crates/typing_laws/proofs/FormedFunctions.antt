-- Functions of a program are well formed in the core that it becomes.
use Rattle.std.proofs.Common.{◌≡◌, ℕ, suc, ◌≤◌, true, false, ◌&&◌, List, [], ◌∷◌, ◌++◌, map, take, length, Ok, refl, sym, ap, subst, ◌∙◌, arith, append_assoc, append-nil, length-append}
use Rattle.std.specs.Prelude.{option_map}
use Rattle.std.specs.List.{list_all, AllByRecursion}
use Rattle.std.proofs.lemmas.Bool.{le-leb}
use Rattle.std.proofs.lemmas.List.{length-map}
use Rattle.step_meaning.specs.declared.value.CType.{CType}
use Rattle.step_meaning.specs.declared.value.CType.TheVariants as type
use Rattle.step_meaning.specs.declared.value.NameKind.TheVariants as names
use Rattle.step_meaning.specs.declared.stmt.Stmt.{Stmt}
use Rattle.step_meaning.specs.declared.stmt.Stmt.TheVariants as core
use Rattle.step_meaning.specs.declared.program.Core.{Core}
use Rattle.step_meaning.specs.declared.program.Declared.{Declared as Named}
use Rattle.step_meaning.specs.declared.program.Function.{Function as CoreFunction}
use Rattle.step_meaning.specs.declared.program.Layout.{Layout}
use Rattle.step_meaning.specs.Settings.{setting_of, leading_setting}
use Rattle.step_meaning.specs.TypeRules.{is_spelled, keeps_rules, is_scalar_type, is_result_type}
use Rattle.step_meaning.specs.StatementRules.{StatementFits, BodyFits}
use Rattle.step_meaning.specs.StatementRules as rules
use Rattle.step_meaning.specs.Calls.{annotations, after_annotations}
use Rattle.step_meaning.specs.Identifiers.{is_name}
use Rattle.step_meaning.specs.WellFormed.{IsWellFormedFunction, declared_names}
use Rattle.step_meaning.proofs.Ranges.{false_is_not_true, and_true, left_of_and, right_of_and}
use Rattle.step_meaning.proofs.SameTypes.{same_type_equal}
use Rattle.step_meaning.proofs.LaterLayouts.{still_keeps}
use Rattle.typing_rules.specs.declared.operand.Entry.TheVariants as entry
use Rattle.typing_rules.specs.Syntax.{Statements}
use Rattle.typing_rules.specs.Statements.{Frame, statements}
use Rattle.typing_rules.specs.FileScope.{Program, seen_now}
use Rattle.typing_rules.specs.Functions.{declared_name, parameter_entries, parameter_scope, types_of, are_same, without_name, prototype, defined_function}
use Rattle.typing_laws.specs.ParsedSyntax.{StatementsParsed}
use Rattle.typing_laws.proofs.CheckedValues.{where_ok}
use Rattle.typing_laws.proofs.EachOf.{each_append, each_weaker}
use Rattle.typing_laws.proofs.SignatureTypes.{ResultRight, ParameterRight, ParametersRight, HaveNames}
use Rattle.typing_laws.proofs.LaterStructs.{object_complete}
use Rattle.typing_laws.proofs.Completion.{IsRight, Completes, get_at, IsLocal}
use Rattle.typing_laws.proofs.KeptFrames.{Nothing, FrameRight, After}
use Rattle.typing_laws.proofs.KeptDeclarations.{Fits, AllFit}
use Rattle.typing_laws.proofs.KeptStatements.{statements_keep}

-- ---- types of parameters

pub prototype_types : (ps : List Named) → map (λ d. d.ctype) (take (length ps) (map without_name ps)) ≡ types_of ps
prototype_types [] = refl
prototype_types (d ∷ ds) = ap (λ ts. d.ctype ∷ ts) (prototype_types ds)

pub first_types : (ps more : List Named) → map (λ d. d.ctype) (take (length ps) (ps ++ more)) ≡ types_of ps
first_types [] more = refl
first_types (d ∷ ds) more = ap (λ ts. d.ctype ∷ ts) (first_types ds more)

pub types_equal : (ts us : List CType) → are_same ts us ≡ true → ts ≡ us
types_equal [] [] e = refl
types_equal (t ∷ ts) (u ∷ us) e = ap (λ t. t ∷ ts) (same_type_equal t u (left_of_and _ _ e)) ∙ ap (λ ts. u ∷ ts) (types_equal ts us (right_of_and _ _ e))
types_equal [] (u ∷ us) e = false_is_not_true e
types_equal (t ∷ ts) [] e = false_is_not_true e

-- ---- types in the program

module _ (q : Core) (ls more : List Layout) (later : q.layouts ≡ ls ++ more) where
  pub keep_later : (t : CType) → keeps_rules ls t ≡ true → keeps_rules q.layouts t ≡ true
  keep_later t k = subst (λ all. keeps_rules all t ≡ true) (sym later) (still_keeps ls more (length ls) (length (ls ++ more)) t longer k)
    where
      longer : length ls ≤ length (ls ++ more)
      longer = omega (arith, length-append ls more)

  scalar_later : (t : CType) → (is_scalar_type ls t && is_spelled t) ≡ true → (is_scalar_type q.layouts t && is_spelled t) ≡ true
  scalar_later t e = and_true (and_true (left_of_and _ _ (left_of_and _ _ e)) (keep_later t (right_of_and _ _ (left_of_and _ _ e)))) (right_of_and _ _ e)

  result_later : (r : CType) → is_result_type ls r ≡ true → is_result_type q.layouts r ≡ true
  result_later type.Void e = refl
  result_later (type.Int k) e = scalar_later (type.Int k) e
  result_later (type.Pointer' b t) e = scalar_later (type.Pointer' b t) e
  result_later (type.Array' b t n) e = scalar_later (type.Array' b t n) e
  result_later (type.Struct n) e = scalar_later (type.Struct n) e

  parameters_later : (ps : List Named) → ParametersRight ls ps → list_all (is_scalar_type q.layouts) (types_of ps) ≡ true
  parameters_later [] h = refl
  parameters_later (d ∷ ds) h = and_true (and_true h.0.scalar (keep_later d.ctype h.0.keep)) (parameters_later ds h.1)

  nameless_later : (ps : List Named) → ParametersRight ls ps → list_all (λ d. keeps_rules q.layouts d.ctype) (map without_name ps) ≡ true
  nameless_later [] h = refl
  nameless_later (d ∷ ds) h = and_true (keep_later d.ctype h.0.keep) (nameless_later ds h.1)

  locals_later : (ds : List Named) → AllByRecursion (λ d. keeps_rules ls d.ctype ≡ true) ds → list_all (λ d. keeps_rules q.layouts d.ctype) ds ≡ true
  locals_later [] h = refl
  locals_later (d ∷ ds) h = and_true (keep_later d.ctype h.0) (locals_later ds h.1)

  -- ---- prototypes

  pub prototype_formed : (name : List ℕ) (r : CType) (ps : List Named) → ResultRight ls r → ParametersRight ls ps → IsWellFormedFunction q (prototype name r ps)
  prototype_formed name r ps a b = record {
    result = result_later r a.result;
    parameters_first = le-leb (length ps) (length (map without_name ps)) (same_length (length ps) (length (map without_name ps)) (length-map ps without_name));
    parameters = rw (prototype_types ps) (parameters_later ps b);
    locals = nameless_later ps b;
    registers = refl;
    ghosts = refl;
    body = tt;
    names = tt;
  }
    where
      same_length : (n m : ℕ) → m ≡ n → n ≤ m
      same_length n m e = omega arith

-- ---- parameters in a body

entries_local : (before ps : List Named) (ls : List Layout) → ParametersRight ls ps → AllByRecursion (λ x. IsLocal (before ++ ps) (length ls) x.1) (parameter_entries (length before) ps)
entries_local before [] ls h = tt
entries_local before (d ∷ ds) ls h =
    each_append (λ x. IsLocal (before ++ (d ∷ ds)) (length ls) x.1) (declared_name d.name _) _
    (named d.name)
    (subst (λ n. AllByRecursion (λ x. IsLocal (before ++ (d ∷ ds)) (length ls) x.1) (parameter_entries n ds)) (next before d)
    (subst (λ all. AllByRecursion (λ x. IsLocal all (length ls) x.1) (parameter_entries (length (before ++ (d ∷ []))) ds)) (append_assoc before (d ∷ []) ds) (entries_local (before ++ (d ∷ [])) ds ls h.1)))
  where
    next : (before : List Named) (d : Named) → length (before ++ (d ∷ [])) ≡ suc (length before)
    next before d = omega (arith, length-append before (d ∷ []))

    here : IsLocal (before ++ (d ∷ ds)) (length ls) (entry.Variable (record { kind = names.Local; index = length before }) d.ctype)
    here = (refl, ap (option_map (λ d. d.ctype)) (get_at before d ds), object_complete ls (length ls) d.ctype h.0.keep)

    named : (name : List ℕ) → AllByRecursion (λ x. IsLocal (before ++ (d ∷ ds)) (length ls) x.1) (declared_name name (entry.Variable (record { kind = names.Local; index = length before }) d.ctype))
    named [] = tt
    named (c ∷ cs) = (here, tt)

abbrev pub start_frame : List Named → Frame
start_frame ps = record { locals = ps; scopes = parameter_scope ps ∷ [] }

start_right : (p : Program) (fn : CoreFunction) (ps : List Named) → fn.params ≡ length ps → ParametersRight p.layouts ps → HaveNames ps → FrameRight p fn (start_frame ps)
start_right p fn ps e h i = record {
  locals = (entries_local [] ps p.layouts h, tt);
  keep = each_weaker (ParameterRight p.layouts) (λ d. keeps_rules p.layouts d.ctype ≡ true) ps (λ d k. k.keep) h;
  named = i;
  parameters = le-leb fn.params (length ps) (same fn.params (length ps) e);
}
  where
    same : (n m : ℕ) → n ≡ m → n ≤ m
    same n m e = omega arith

-- ---- bodies

module _ (p : Program) (right : IsRight p) (name : List ℕ) (r : CType) (ps : List Named) (a : ResultRight p.layouts r) (b : ParametersRight p.layouts ps) (i : HaveNames ps) (body : Statements) (parsed : StatementsParsed p.text body)
    (ss : List Stmt) (frame : Frame) (made : statements (seen_now p) r false body (start_frame ps) ≡ Ok (ss, frame)) where
  abbrev pub fn : CoreFunction
  fn = defined_function name r ps frame ss

  module _ (q : Core) (done : Completes q p) where
    abbrev F : List Stmt → Type 0
    F xs = AllFit q fn (setting_of q fn) p right done false xs

    after : After p fn Nothing F (start_frame ps) (ss, frame)
    after = where_ok (After p fn Nothing F (start_frame ps)) (statements (seen_now p) r false body (start_frame ps)) (ss, frame) made (statements_keep q fn (setting_of q fn) p right done body parsed false (start_frame ps) (start_right p fn ps refl b i))

    all_fit : F ss
    all_fit = after.holds (record { more = []; whole = sym (append-nil frame.locals) })

    no_annotations : (xs : List Stmt) → F xs → rules.AllFit q fn (leading_setting q fn) (annotations xs) × rules.AllFit q fn (setting_of q fn) (after_annotations xs)
    no_annotations [] h = (tt, tt)
    no_annotations (core.Ghost g ∷ xs) h = false_is_not_true h.0.bare
    no_annotations (core.Assert v k t ∷ xs) h = false_is_not_true h.0.bare
    no_annotations (x ∷ xs) h = (tt, each_weaker (Fits q fn (setting_of q fn) p right done false) (StatementFits q fn (setting_of q fn) false) (x ∷ xs) (λ x k. k.rules) h)

    names_hold : (ds : List Named) → HaveNames ds → list_all is_name (declared_names ds) ≡ true
    names_hold [] h = refl
    names_hold (d ∷ ds) h = and_true h.0 (names_hold ds h.1)

    pub defined_formed : IsWellFormedFunction q fn
    defined_formed = record {
      result = result_later q p.layouts done.more_layouts done.layouts r a.result;
      parameters_first = after.right.parameters;
      parameters = rw (ap (λ ds. map (λ d. d.ctype) (take (length ps) ds)) after.grows.whole ∙ first_types ps after.grows.more) (parameters_later q p.layouts done.more_layouts done.layouts ps b);
      locals = locals_later q p.layouts done.more_layouts done.layouts frame.locals after.right.keep;
      registers = refl;
      ghosts = refl;
      body = no_annotations ss all_fit;
      names = names_hold frame.locals after.right.named;
    }
