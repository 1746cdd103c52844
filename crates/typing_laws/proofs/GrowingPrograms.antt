-- A program that grows by a declaration becomes what the grown one becomes.
use Rattle.std.proofs.Common.{◌≡◌, ℕ, zero, suc, List, [], ◌∷◌, ◌++◌, Option, Some, None, sym, subst, ◌∙◌, append_assoc}
use Rattle.std.specs.Prelude.{slice_get}
use Rattle.std.specs.List.{AllByRecursion}
use Rattle.step_meaning.specs.declared.value.CType.{CType}
use Rattle.step_meaning.specs.declared.value.Value.{Value}
use Rattle.step_meaning.specs.declared.program.Core.{Core}
use Rattle.step_meaning.specs.declared.program.Declared.{Declared as Named}
use Rattle.step_meaning.specs.declared.program.Function.{Function as CoreFunction}
use Rattle.step_meaning.specs.ExpressionTypes.{parameter_types}
use Rattle.step_meaning.specs.WellFormed.{IsWellFormedFunction}
use Rattle.step_meaning.specs.InitialValues.{AllInitialised}
use Rattle.step_meaning.proofs.TypedMemory.{WhereSome}
use Rattle.typing_rules.specs.FileScope.{Program, with_variable, with_values}
use Rattle.typing_rules.specs.Structs.{with_layout}
use Rattle.typing_rules.specs.Functions.{prototype, with_function, replaced}
use Rattle.typing_rules.specs.Programs.{library}
use Rattle.typing_laws.proofs.LaterStructs.{get_some}
use Rattle.typing_laws.proofs.CheckedValues.{where_some, some_known}
use Rattle.typing_laws.proofs.Completion.{IsRight, FunctionStays, Completes}

-- ---- what is kept of a program

-- what holds of it in the core that it becomes: the initial values, and each function but those of the library
pub record SoundIn (q : Core) (p : Program) (rest : List CoreFunction) : Type 0 where
  pub initial : AllInitialised q 0 p.globals p.initial
  pub functions : AllByRecursion (IsWellFormedFunction q) rest

pub record Good (p : Program) : Type 0 where
  pub right : IsRight p
  pub rest : List CoreFunction
  pub functions : p.functions ≡ library ++ rest
  pub sound : (q : Core) → Completes q p → SoundIn q p rest

-- what the later program becomes the earlier one becomes too
abbrev pub Leads : Program → Program → Type 0
Leads p p' = (q : Core) → Completes q p' → Completes q p

pub record Goes (p p' : Program) : Type 0 where
  pub good : Good p'
  pub leads : Leads p p'

-- ---- one declaration

pub variable_leads : (p : Program) (name : List ℕ) (t : CType) → Leads p (with_variable p name t)
variable_leads p name t q done = record {
  more_layouts = done.more_layouts;
  layouts = done.layouts;
  more_globals = record { name = name; ctype = t } ∷ done.more_globals;
  globals = done.globals ∙ append_assoc p.globals (record { name = name; ctype = t } ∷ []) done.more_globals;
  functions = done.functions;
  structs = done.structs;
  bodies = done.bodies;
  main = done.main;
  start = done.start;
  main_name = done.main_name;
}

pub values_lead : (p : Program) (vs : List Value) → Leads p (with_values p vs)
values_lead p vs q done = record {
  more_layouts = done.more_layouts;
  layouts = done.layouts;
  more_globals = done.more_globals;
  globals = done.globals;
  functions = done.functions;
  structs = done.structs;
  bodies = done.bodies;
  main = done.main;
  start = done.start;
  main_name = done.main_name;
}

pub layout_leads : (p : Program) (name : List ℕ) (ms : List Named) → Leads p (with_layout p name ms)
layout_leads p name ms q done = record {
  more_layouts = record { tag = name; members = ms } ∷ done.more_layouts;
  layouts = done.layouts ∙ append_assoc p.layouts (record { tag = name; members = ms } ∷ []) done.more_layouts;
  more_globals = done.more_globals;
  globals = done.globals;
  functions = done.functions;
  structs = done.structs;
  bodies = done.bodies;
  main = done.main;
  start = done.start;
  main_name = done.main_name;
}

-- functions of which each stays in its place, with its name and type
pub functions_lead : (p : Program) (fs : List CoreFunction) → ((q : Core) → ((n : ℕ) → WhereSome (FunctionStays q n) (slice_get fs n)) → (n : ℕ) → WhereSome (FunctionStays q n) (slice_get p.functions n)) → Leads p (record p { functions = fs })
functions_lead p fs stay q done = record {
  more_layouts = done.more_layouts;
  layouts = done.layouts;
  more_globals = done.more_globals;
  globals = done.globals;
  functions = stay q done.functions;
  structs = done.structs;
  bodies = done.bodies;
  main = done.main;
  start = done.start;
  main_name = done.main_name;
}

appended_stay : (q : Core) (fs : List CoreFunction) (f : CoreFunction) → ((n : ℕ) → WhereSome (FunctionStays q n) (slice_get (fs ++ (f ∷ [])) n)) → (n : ℕ) → WhereSome (FunctionStays q n) (slice_get fs n)
appended_stay q fs f h n = some_known (FunctionStays q n) (slice_get fs n) (λ g e. where_some (FunctionStays q n) (slice_get (fs ++ (f ∷ [])) n) g (get_some fs (f ∷ []) n g e) (h n))

pub prototype_leads : (p : Program) (name : List ℕ) (r : CType) (ps : List Named) (n : Option ℕ) → Leads p (with_function p name r ps n)
prototype_leads p name r ps None = functions_lead p (p.functions ++ (prototype name r ps ∷ [])) (λ q h. appended_stay q p.functions (prototype name r ps) h)
prototype_leads p name r ps (Some n) = λ q done. done

-- a function in place of another one of its name and type
pub record SameSignature (f g : CoreFunction) : Type 0 where
  pub name : g.name ≡ f.name
  pub result : g.result ≡ f.result
  pub parameters : parameter_types g ≡ parameter_types f

signature_stays : (q : Core) (n : ℕ) (f g : CoreFunction) → SameSignature f g → FunctionStays q n g → FunctionStays q n f
signature_stays q n f g s h = record { later = h.later; found = h.found; name = h.name ∙ s.name; result = h.result ∙ s.result; parameters = h.parameters ∙ s.parameters }

pub replaced_get : (n : ℕ) (g : CoreFunction) (fs : List CoreFunction) (i : ℕ) → (P : CoreFunction → Type 0) → (f : CoreFunction) → slice_get fs n ≡ Some f → (P g → P f) → WhereSome P (slice_get (replaced n g fs) i) → WhereSome P (slice_get fs i)
unfolding replaced
replaced_get n g [] i P f e k h = tt
replaced_get zero g (x ∷ fs) zero P f e k h = subst P (sym (same e)) (k h)
  where
    same : Some x ≡ Some f → x ≡ f
    same e = cc
replaced_get zero g (x ∷ fs) (suc i) P f e k h = h
replaced_get (suc n) g (x ∷ fs) zero P f e k h = h
replaced_get (suc n) g (x ∷ fs) (suc i) P f e k h = replaced_get n g fs i P f e k h

pub replaced_leads : (p : Program) (n : ℕ) (f g : CoreFunction) → slice_get p.functions n ≡ Some f → SameSignature f g → Leads p (record p { functions = replaced n g p.functions })
replaced_leads p n f g e s = functions_lead p (replaced n g p.functions) (λ q h i. replaced_get n g p.functions i (FunctionStays q i) f e (signature_stays q i f g s) (h i))
