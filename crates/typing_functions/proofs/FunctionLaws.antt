-- Functions, step by step, and what each keeps.
use Rattle.std.proofs.Common.{◌≡◌, ℕ, zero, suc, ◌<◌, Bool, true, false, List, [], ◌∷◌, ◌++◌, map, get_or, length, Option, Some, None, Ok, Err, refl, sym, ap, subst, ◌∙◌, append-nil, arith}
use Rattle.std.specs.Prelude.{slice_get, is_some}
use Rattle.std.specs.List.{list_any, AllByRecursion}
use Rattle.std.specs.Str.{bytes_eq}
use Rattle.c_words.specs.declared.word.Leaf.{Leaf}
use Rattle.c_grammar.specs.declared.types.Specifier.{Specifier}
use Rattle.step_meaning.specs.declared.value.CType.{CType}
use Rattle.step_meaning.specs.declared.stmt.Stmt.{Stmt}
use Rattle.step_meaning.specs.declared.program.Declared.{Declared as Named}
use Rattle.step_meaning.specs.declared.program.Function.{Function as CoreFunction}
use Rattle.step_meaning.specs.Identifiers.{are_distinct}
use Rattle.typing_rules.specs.declared.fault.TypeFault.{TypeFault}
use Rattle.typing_rules.specs.Checked.{◌>>=◌}
use Rattle.typing_rules.specs.Syntax.{Spelled, Parameter, Statements}
use Rattle.typing_rules.specs.Environment.{spelled_type}
use Rattle.typing_rules.specs.Declarations.{is_within_limit}
use Rattle.typing_rules.specs.FileScope.{Program, tags as tags_of, seen_now, bytes}
use Rattle.typing_rules.specs.Functions.{parameter_scope, parameters, declares_allocation, declarable_function, function_number, with_function, defined_function, defined_as, replaced, function}
use Rattle.typing_rules.specs.Statements.{Frame, statements}
use Rattle.typing_laws.specs.SmallPrograms.{HasNoArray}
use Rattle.typing_laws.proofs.Completion.{bytes_same}
use Rattle.typing_laws.proofs.DistinctNames.{distinct_insert, replaced_names}
use Rattle.typing_laws.proofs.Positions.{FoundAt, found_at, none_passes}
use Rattle.typing_laws.proofs.SmallPrograms.{with_function_small, replaced_small}
use Rattle.typing_declarators.proofs.LayerLaws.{SameOutcome, same_Ok}
use Rattle.typing_scopes.specs.declared.known.Known.{Known}
use Rattle.typing_scopes.specs.Known.{program, frame, state}
use Rattle.typing_scopes.specs.States.{environment, no_frame}
use Rattle.typing_files.specs.Points.{IsSteady, IsAtFile}
use Rattle.typing_statements.specs.Points.{outside, around, frame_at, IsReady}
use Rattle.typing_functions.specs.Functions.{IsNamed, IsDeclared, number_of, with_declared, with_statements, with_body, declared_as, judged_as, function_of}
use Rattle.typing_functions.specs.Parameters.{IsInFunction}
use Rattle.typing_functions.proofs.ParameterScopes.{small_parameters, cells_parameters}

-- ---- functions of a program

new_among : (name : List ℕ) (fs : List CoreFunction) → AllByRecursion (λ f. bytes_eq name f.name ≡ false) fs → list_any (bytes_eq name) (map (λ f. f.name) fs) ≡ false
new_among name [] h = refl
new_among name (f ∷ fs) h = rw h.0 (new_among name fs h.1)

names_append : (fs : List CoreFunction) (f : CoreFunction) → map (λ f. f.name) (fs ++ (f ∷ [])) ≡ map (λ f. f.name) fs ++ (f.name ∷ [])
names_append [] f = refl
names_append (g ∷ fs) f = ap (λ ws. g.name ∷ ws) (names_append fs f)

names_one_more : (fs : List CoreFunction) (f : CoreFunction) → function_number fs f.name ≡ None → are_distinct (map (λ f. f.name) fs) ≡ true → are_distinct (map (λ f. f.name) (fs ++ (f ∷ []))) ≡ true
names_one_more fs f new h =
    let ws : List (List ℕ) = map (λ f. f.name) fs in
    let none : list_any (bytes_eq f.name) ws ≡ false = new_among f.name fs (none_passes (λ g. bytes_eq f.name g.name) fs new) in
    subst (λ ws. are_distinct ws ≡ true) (sym (names_append fs f)) (distinct_insert ws [] f.name (subst (λ xs. are_distinct xs ≡ true) (sym (append-nil ws)) h) (subst (λ xs. list_any (bytes_eq f.name) xs ≡ false) (sym (append-nil ws)) none))

pub prototype_steady : (p : Program) (name : List ℕ) (r : CType) (ps : List Named) → HasNoArray r → function_number p.functions name ≡ None → IsSteady p → IsSteady (with_function p name r ps None)
prototype_steady p name r ps a new h = record {
  small = with_function_small p name r ps None a h.small;
  structs = h.structs;
  globals = h.globals;
  names = names_one_more p.functions _ new h.names;
}

declared_there : (name : List ℕ) (fs : List CoreFunction) (n : ℕ) → IsNamed name (slice_get fs n) → (f : CoreFunction) × (slice_get fs n ≡ Some f) × (f.name ≡ name)
declared_there name [] n h = absurd h
declared_there name (f ∷ fs) zero h = (f, refl, h)
declared_there name (f ∷ fs) (suc n) h = declared_there name fs n h

pub replaced_steady : (p : Program) (n : ℕ) (name : List ℕ) (f : CoreFunction) → HasNoArray f.result → IsDeclared p n name → f.name ≡ name → IsSteady p → IsSteady (record p { functions = replaced n f p.functions })
replaced_steady p n name f a d e h =
    let there : (g : CoreFunction) × (slice_get p.functions n ≡ Some g) × (g.name ≡ name) = declared_there name p.functions n d in
    record {
      small = replaced_small p n f a h.small;
      structs = h.structs;
      globals = h.globals;
      names = subst (λ ws. are_distinct ws ≡ true) (sym (replaced_names n there.0 f p.functions there.1 (e ∙ sym there.2))) h.names;
    }

pub declared_within : (name : List ℕ) (fs : List CoreFunction) (n : ℕ) → IsNamed name (slice_get fs n) → n < length fs
declared_within name [] n h = absurd h
declared_within name (f ∷ fs) zero h = omega arith
declared_within name (f ∷ fs) (suc n) h = let k : n < length fs = declared_within name fs n h in omega arith

pub declared_named : (name : List ℕ) (fs : List CoreFunction) (n : ℕ) (f : CoreFunction) → IsNamed name (slice_get fs n) → f.name ≡ name → f.name ≡ (get_or fs n f).name
declared_named name [] n f h e = absurd h
declared_named name (g ∷ fs) zero f h e = e ∙ sym h
declared_named name (g ∷ fs) (suc n) f h e = declared_named name fs n f h e

pub number_named : (fs : List CoreFunction) (n : ℕ) (name : List ℕ) → function_number fs name ≡ Some n → IsNamed name (slice_get fs n)
number_named fs n name e =
    let found : FoundAt (λ f. bytes_eq name f.name) fs n = found_at (λ f. bytes_eq name f.name) fs n e in
    subst (IsNamed name) (sym found.there) (sym (bytes_same name found.element.name found.passes))

pub last_named : (fs : List CoreFunction) (f : CoreFunction) (n : ℕ) → n ≡ length fs → IsNamed f.name (slice_get (fs ++ (f ∷ [])) n)
last_named fs f n e = subst (λ n. IsNamed f.name (slice_get (fs ++ (f ∷ [])) n)) (sym e) (last fs f)
  where
    last : (fs : List CoreFunction) (f : CoreFunction) → IsNamed f.name (slice_get (fs ++ (f ∷ [])) (length fs))
    last [] f = refl
    last (g ∷ fs) f = last fs f

-- ---- points of a function

pub function_at : (k k' : Known) (p : Program) → state k' ≡ record (state k) { program = p } → tags_of p ≡ tags_of (program k) → p.layouts ≡ k.layouts → IsInFunction k → IsSteady p → IsInFunction k'
function_at k k' p e same layouts at steady = record {
  tags = ap (λ s. s.tags) e ∙ at.tags ∙ sym same ∙ ap (λ s. tags_of s.program) (sym e);
  frame = framed ∙ at.frame ∙ ap (λ ls. record { locals = ls; scopes = parameter_scope ls ∷ [] }) (sym locals);
  steady = subst IsSteady (ap (λ s. s.program) (sym e)) steady;
  small = subst (AllByRecursion (λ d. is_within_limit k'.layouts d.ctype ≡ true)) (sym locals) (subst (λ ls. AllByRecursion (λ d. is_within_limit ls d.ctype ≡ true) k.locals) (sym layouts ∙ ap (λ s. s.program.layouts) (sym e)) at.small);
}
  where
    framed : frame k' ≡ frame k
    framed = ap (λ s. s.frame) e

    locals : k'.locals ≡ k.locals
    locals = ap (λ f. f.locals) framed

pub ended_at : (k k' : Known) → state k' ≡ record (state k) { frame = no_frame } → k.tags ≡ tags_of (program k) → IsSteady (program k) → IsAtFile k'
ended_at k k' e tags steady = record {
  tags = ap (λ s. s.tags) e ∙ tags ∙ ap (λ s. tags_of s.program) (sym e);
  frame = ap (λ s. s.frame) e;
  steady = subst IsSteady (ap (λ s. s.program) (sym e)) steady;
}

-- ---- a body

module _ (k : Known) (at : IsInFunction k) where
  around_at : around (outside k) ≡ seen_now (program k)
  unfolding around outside
  around_at = ap (λ ts. environment (record { program = program k; tags = ts; frame = no_frame })) at.tags

  frame_there : frame_at k ≡ record { locals = k.locals; scopes = parameter_scope k.locals ∷ [] }
  unfolding frame_at
  frame_there = at.frame

  pub ready_at : IsReady k
  unfolding IsReady
  ready_at = (small_parameters k at, cells_parameters k at)

  statements_at : (r : CType) (body : Statements) → statements (around (outside k)) r false body (frame_at k) ≡ statements (seen_now (program k)) r false body (record { locals = k.locals; scopes = parameter_scope k.locals ∷ [] })
  statements_at r body = ap (λ g. statements g r false body (frame_at k)) around_at ∙ ap (statements (seen_now (program k)) r false body) frame_there

  pub body_broken : (n : ℕ) (name : List ℕ) (r : CType) (body : Statements) (e : TypeFault) → statements (around (outside k)) r false body (frame_at k) ≡ Err e → with_body (program k) n name r k.locals body ≡ Err e
  unfolding defined_as
  body_broken n name r body e h = ap (λ c. c >>= (λ done. Ok (record (program k) { functions = replaced n (defined_function name r k.locals done.1 done.0) (program k).functions }))) (sym (statements_at r body) ∙ h)

  pub body_made : (n : ℕ) (name : List ℕ) (r : CType) (body : Statements) (ss : List Stmt) (f : Frame) → statements (around (outside k)) r false body (frame_at k) ≡ Ok (ss, f) → with_body (program k) n name r k.locals body ≡ Ok (record (program k) { functions = replaced n (defined_function name r k.locals f ss) (program k).functions })
  unfolding defined_as
  body_made n name r body ss f h = ap (λ c. c >>= (λ done. Ok (record (program k) { functions = replaced n (defined_function name r k.locals done.1 done.0) (program k).functions }))) (sym (statements_at r body) ∙ h)

-- what stands outside of a body
pub outside_program : (k k' : Known) → outside k' ≡ outside k → program k' ≡ program k
unfolding outside
outside_program k k' e = ap (λ s. s.program) e

pub outside_tags : (k k' : Known) → outside k' ≡ outside k → k'.tags ≡ k.tags
unfolding outside
outside_tags k k' e = ap (λ s. s.tags) e

pub frame_is : (k : Known) → frame_at k ≡ frame k
unfolding frame_at
frame_is k = refl

-- ---- steps

pub judged_by : (t : Leaf) (r : CType) (ps : List Named) (body : Option Statements) (p : Program) → judged_as t r ps body p ≡ (declarable_function p t r ps (is_some body) >>= (λ u. declared_as t r ps body p))
unfolding judged_as
judged_by t r ps body p = refl

pub function_of_by : (t : Leaf) (r : CType) (xs : List Parameter) (body : Option Statements) (p : Program) → function_of t r xs body p ≡ (parameters p (declares_allocation (bytes p t) (is_some body)) [] xs >>= (λ ps. judged_as t r ps body p))
unfolding function_of
function_of_by t r xs body p = refl

pub function_by : (x : Spelled) (t : Leaf) (xs : List Parameter) (body : Option Statements) (p : Program) → function x t xs body p ≡ (spelled_type (seen_now p) x >>= (λ r. function_of t r xs body p))
unfolding function function_of judged_as declared_as
function_by x t xs body p = refl

bytes_kept : (p : Program) (t : Leaf) (name : List ℕ) (r : CType) (ps : List Named) (n : Option ℕ) → bytes (with_function p name r ps n) t ≡ bytes p t
bytes_kept p t name r ps None = refl
bytes_kept p t name r ps (Some n) = refl

pub declared_by : (t : Leaf) (r : CType) (ps qs : List Named) (n : ℕ) (body : Option Statements) (p q : Program) → q ≡ with_declared p t r ps → number_of p t ≡ n → qs ≡ ps → defined_as q n (bytes q t) r qs body ≡ declared_as t r ps body p
unfolding declared_as
declared_by t r ps qs n body p q e number same =
    let known : Program = with_declared p t r ps in
    ap (λ q. defined_as q n (bytes q t) r qs body) e
    ∙ ap (λ w. defined_as known n w r qs body) (bytes_kept p t (bytes p t) r ps (function_number p.functions (bytes p t)))
    ∙ ap (λ n. defined_as known n (bytes p t) r qs body) (sym number)
    ∙ ap (λ qs. defined_as known (number_of p t) (bytes p t) r qs body) same

pub parameters_begun : (p q : Program) (a b : Bool) (ps : List Named) (xs : List Parameter) → q ≡ p → b ≡ a → ps ≡ [] → parameters q b ps xs ≡ parameters p a [] xs
parameters_begun p q a b ps xs e f h = ap (λ q. parameters q b ps xs) e ∙ ap (λ b. parameters p b ps xs) f ∙ ap (λ ps. parameters p a ps xs) h

abbrev pub spelling : Specifier → ℕ → Spelled
spelling x n = record { specifier = x; stars = n }

-- the function that code makes of a body
pub made_function : (k k' : Known) (name bs : List ℕ) (r : CType) (n : ℕ) (locals : List Named) (ss : List Stmt) (f : CoreFunction) → bs ≡ name → n ≡ length k.locals → locals ≡ (frame k').locals → SameOutcome (Ok (with_statements bs r n locals ss)) (Ok f) → f ≡ defined_function name r k.locals (frame_at k') ss
unfolding frame_at
made_function k k' name bs r n locals ss f named counted same e =
    sym (same_Ok (with_statements bs r n locals ss) f e)
    ∙ ap (λ w. with_statements w r n locals ss) named
    ∙ ap (λ n. with_statements name r n locals ss) counted
    ∙ ap (λ ls. with_statements name r (length k.locals) ls ss) same
