-- A program up to some item, and the core that it becomes: what is declared stays in its place, and each function whose name has a body in the text has one.
use Rattle.std.proofs.Common.{◌≡◌, ℕ, zero, suc, Bool, true, false, List, [], ◌∷◌, ◌++◌, length, Option, Some, None, refl, sym, ap, subst, ◌∙◌, append_assoc}
use Rattle.std.specs.Prelude.{◌==◌, slice_get, codes, option_map}
use Rattle.std.specs.List.{AllByRecursion}
use Rattle.std.specs.Str.{bytes_eq}
use Rattle.std.proofs.lemmas.Bool.{eqb-true}
use Rattle.std.proofs.lemmas.Slice.Eq.{bytes_eq-Decides}
use Rattle.step_meaning.specs.declared.value.CType.{CType}
use Rattle.step_meaning.specs.declared.value.NameKind.TheVariants as names
use Rattle.step_meaning.specs.declared.program.Core.{Core}
use Rattle.step_meaning.specs.declared.program.Declared.{Declared as Named}
use Rattle.step_meaning.specs.declared.program.Function.{Function as CoreFunction}
use Rattle.step_meaning.specs.declared.program.Layout.{Layout}
use Rattle.step_meaning.specs.Settings.{Setting, variables}
use Rattle.step_meaning.specs.Names.{same_kind}
use Rattle.step_meaning.specs.TypeRules.{keeps_rules, are_layouts}
use Rattle.step_meaning.specs.ExpressionTypes.{parameter_types, has_body}
use Rattle.step_meaning.specs.Library.{int}
use Rattle.step_meaning.proofs.TypedMemory.{WhereSome, get_fits}
use Rattle.typing_rules.specs.declared.operand.Entry.{Entry}
use Rattle.typing_rules.specs.declared.operand.Entry.TheVariants as entry
use Rattle.typing_rules.specs.Environment.{Environment, Scope, contains, found_in, or_else, found}
use Rattle.typing_rules.specs.Declarations.{is_complete}
use Rattle.typing_rules.specs.Statements.{Frame, seen as seen_in_body}
use Rattle.typing_rules.specs.FileScope.{Program, numbered, variable_entry, function_entry, file_scope, seen_now}
use Rattle.typing_laws.proofs.CheckedValues.{where_some, if_holds}
use Rattle.typing_laws.proofs.EachOf.{each_append, each_weaker}
use Rattle.typing_laws.proofs.SmallPrograms.{tags_counted}
use Rattle.typing_laws.proofs.TypedValues.{is_value_type}
use Rattle.typing_laws.proofs.TypedExpressions.{FunctionFits, NameFits, Agrees}
use Rattle.typing_laws.proofs.LaterStructs.{object_complete, get_some, cells_stay, allocation_stays, members_stay}

-- ---- what a program keeps, whatever comes after it

-- `getchar` and `putchar` are the first functions
pub record IsLibrary (fs : List CoreFunction) : Type 0 where
  pub getchar : WhereSome (λ f. (f.result ≡ int) × (parameter_types f ≡ [])) (slice_get fs 0)
  pub putchar : WhereSome (λ f. (f.result ≡ int) × (parameter_types f ≡ int ∷ [])) (slice_get fs 1)

pub record IsRight (p : Program) : Type 0 where
  pub structs : are_layouts p.layouts ≡ true
  pub globals : AllByRecursion (λ d. keeps_rules p.layouts d.ctype ≡ true) p.globals
  pub results : AllByRecursion (λ f. is_value_type (length p.layouts) f.result ≡ true) p.functions
  pub library : IsLibrary p.functions

-- ---- the core that it becomes

-- the function with this number
pub record FunctionStays (q : Core) (n : ℕ) (f : CoreFunction) : Type 0 where
  pub later : CoreFunction
  pub found : slice_get q.functions n ≡ Some later
  pub name : later.name ≡ f.name
  pub result : later.result ≡ f.result
  pub parameters : parameter_types later ≡ parameter_types f

pub record Completes (q : Core) (p : Program) : Type 0 where
  pub more_layouts : List Layout
  pub layouts : q.layouts ≡ p.layouts ++ more_layouts
  pub more_globals : List Named
  pub globals : q.globals ≡ p.globals ++ more_globals
  pub functions : (n : ℕ) → WhereSome (FunctionStays q n) (slice_get p.functions n)
  pub structs : are_layouts q.layouts ≡ true
  -- what the whole text says: each function whose name has a body has it, and the start has the name `main`
  pub bodies : (n : ℕ) → WhereSome (λ f. contains p.bodies f.name ≡ true → has_body f ≡ true) (slice_get q.functions n)
  pub main : CoreFunction
  pub start : slice_get q.functions q.start ≡ Some main
  pub main_name : main.name ≡ codes "main"

-- ---- names

pub bytes_same : (a b : List ℕ) → bytes_eq a b ≡ true → a ≡ b
bytes_same a b e = (bytes_eq-Decides a b).0 e

pub bytes_itself : (a : List ℕ) → bytes_eq a a ≡ true
bytes_itself a = (bytes_eq-Decides a a).1 refl

pub get_at : {A : Type 0} (before : List A) (x : A) (xs : List A) → slice_get (before ++ (x ∷ xs)) (length before) ≡ Some x
get_at [] x xs = refl
get_at (y ∷ before) x xs = get_at before x xs

-- what holds of each element with its number
pub numbered_from : {A B : Type 0} (Q : B → Type 0) (f : ℕ → A → B) (before xs : List A) → ((i : ℕ) (x : A) → slice_get (before ++ xs) i ≡ Some x → Q (f i x)) → AllByRecursion Q (numbered f (length before) xs)
numbered_from Q f before [] k = tt
numbered_from Q f before (x ∷ xs) k = (
  k (length before) x (get_at before x xs),
  subst (λ n. AllByRecursion Q (numbered f n xs)) (next before x)
      (numbered_from Q f (before ++ (x ∷ [])) xs (λ i y e. k i y (subst (λ ys. slice_get ys i ≡ Some y) (append_assoc before (x ∷ []) xs) e))),
)
  where
    next : {A : Type 0} (before : List A) (x : A) → length (before ++ (x ∷ [])) ≡ suc (length before)
    next [] x = refl
    next (y ∷ before) x = ap suc (next before x)

-- a name that is found is the entry's
module _ (P : List ℕ → Entry → Type 0) (name : List ℕ) where
  abbrev OfEntry : List ℕ × Entry → Type 0
  OfEntry x = P x.0 x.1

  named_in : (scope : Scope) → AllByRecursion OfEntry scope → WhereSome (P name) (found_in scope name)
  unfolding found_in
  named_in [] h = tt
  named_in (x ∷ xs) h = if_holds (WhereSome (P name)) (bytes_eq x.0 name) (Some x.1) (found_in xs name) (λ e. subst (λ n. P n x.1) (bytes_same x.0 name e) h.0) (λ e. named_in xs h.1)

  either : (o o' : Option Entry) → WhereSome (P name) o → WhereSome (P name) o' → WhereSome (P name) (or_else o o')
  either None o' h k = k
  either (Some x) o' h k = h

  pub named_in_scopes : (scopes : List Scope) → AllByRecursion (AllByRecursion OfEntry) scopes → WhereSome (P name) (found scopes name)
  unfolding found
  named_in_scopes [] h = tt
  named_in_scopes (s ∷ ss) h = either (found_in s name) (found ss name) (named_in s h.0) (named_in_scopes ss h.1)

-- ---- locals

-- what a name of a body stands for: one of these locals, with its type
abbrev pub IsLocal : List Named → ℕ → Entry → Type 0
IsLocal locals c (entry.Variable v t) = (v.kind ≡ names.Local) × (option_map (λ d. d.ctype) (slice_get locals v.index) ≡ Some t) × (is_complete c c t ≡ true)
IsLocal locals c (entry.Function f r ts) = ⊥

abbrev pub AreLocals : List Named → ℕ → List Scope → Type 0
AreLocals locals c scopes = AllByRecursion (AllByRecursion (λ x. IsLocal locals c x.1)) scopes

pub type_later : (xs ys : List Named) (n : ℕ) (t : CType) → option_map (λ d. d.ctype) (slice_get xs n) ≡ Some t → option_map (λ d. d.ctype) (slice_get (xs ++ ys) n) ≡ Some t
type_later [] ys n t e = absurd (no e)
  where
    no : None ≡ Some t → ⊥
    no e = cc
type_later (x ∷ xs) ys zero t e = e
type_later (x ∷ xs) ys (suc n) t e = type_later xs ys n t e

-- ---- the environments of a program

module _ (q : Core) (s : Setting) (p : Program) (right : IsRight p) (done : Completes q p) (layouts : s.layouts ≡ q.layouts) (globals : s.globals ≡ q.globals) where
  abbrev pub view : List Scope → Environment
  view scopes = record (seen_now p) { scopes = scopes }

  module _ (scopes : List Scope) where
    abbrev Fits : List ℕ × Entry → Type 0
    Fits x = NameFits q s (view scopes) x.0 x.1

    global_fits : (i : ℕ) (d : Named) → slice_get p.globals i ≡ Some d → Fits (variable_entry i d)
    global_fits i d e =
        let there : slice_get s.globals i ≡ Some d = ap (λ ds. slice_get ds i) (globals ∙ done.globals) ∙ get_some p.globals done.more_globals i d e in
        let keeps : keeps_rules p.layouts d.ctype ≡ true = where_some (λ d. keeps_rules p.layouts d.ctype ≡ true) (slice_get p.globals i) d e (get_fits (λ d. keeps_rules p.layouts d.ctype ≡ true) p.globals i right.globals) in
        (ap (option_map (λ d. d.ctype)) there, object_complete p.layouts (length p.layouts) d.ctype keeps, refl)

    function_fits : (i : ℕ) (f : CoreFunction) → slice_get p.functions i ≡ Some f → Fits (function_entry i f)
    function_fits i f e = record {
      valued = where_some (λ f. is_value_type (length p.layouts) f.result ≡ true) (slice_get p.functions i) f e (get_fits (λ f. is_value_type (length p.layouts) f.result ≡ true) p.functions i right.results);
      getchar = λ z. where_some (λ f. (f.result ≡ int) × (parameter_types f ≡ [])) (slice_get p.functions 0) f (subst (λ n. slice_get p.functions n ≡ Some f) z e) right.library.getchar;
      putchar = λ z. where_some (λ f. (f.result ≡ int) × (parameter_types f ≡ int ∷ [])) (slice_get p.functions 1) f (subst (λ n. slice_get p.functions n ≡ Some f) z e) right.library.putchar;
      others = λ l b m. callable b m;
    }
      where
        stays : FunctionStays q i f
        stays = where_some (FunctionStays q i) (slice_get p.functions i) f e (done.functions i)

        has : contains p.bodies f.name ≡ true → has_body stays.later ≡ true
        has b = where_some (λ f. contains p.bodies f.name ≡ true → has_body f ≡ true) (slice_get q.functions i) stays.later stays.found (done.bodies i) (subst (λ n. contains p.bodies n ≡ true) (sym stays.name) b)

        same : {A : Type 0} {a b : A} → Some a ≡ Some b → a ≡ b
        same e = cc

        -- the start has another name
        no_start : bytes_eq f.name (codes "main") ≡ false → (b : Bool) → (i == q.start) ≡ b → b ≡ false
        no_start m false z = refl
        no_start m true z =
            let found : Some stays.later ≡ Some done.main = sym stays.found ∙ ap (λ n. slice_get q.functions n) (eqb-true i q.start z) ∙ done.start in
            let name : f.name ≡ codes "main" = sym stays.name ∙ ap (λ f. f.name) (same found) ∙ done.main_name in
            absurd (differ (sym m ∙ ap (λ n. bytes_eq n (codes "main")) name ∙ bytes_itself (codes "main")))
          where
            differ : false ≡ true → ⊥
            differ e = cc

        callable : contains p.bodies f.name ≡ true → bytes_eq f.name (codes "main") ≡ false → FunctionFits q s (view scopes) i f.result (parameter_types f)
        callable b m = record {
          function = stays.later;
          called = rw (stays.found, has b, no_start m (i == q.start) refl) refl;
          result = stays.result;
          parameters = stays.parameters;
        }

    file_scope_fits : AllByRecursion Fits (file_scope p)
    unfolding file_scope
    file_scope_fits =
        each_append Fits (numbered variable_entry 0 p.globals) (numbered function_entry 0 p.functions)
        (numbered_from Fits variable_entry [] p.globals global_fits) (numbered_from Fits function_entry [] p.functions function_fits)

    -- ---- what a body sees

    module _ (locals more : List Named) (in_view : s.locals ≡ locals ++ more) where
      local_fits : (name : List ℕ) (x : Entry) → IsLocal locals (length p.layouts) x → NameFits q s (view scopes) name x
      local_fits name (entry.Variable v t) h = (
        ap (λ k. option_map (λ d. d.ctype) (slice_get (variables s k) v.index)) h.0 ∙ ap (λ ds. option_map (λ d. d.ctype) (slice_get ds v.index)) in_view ∙ type_later locals more v.index t h.1,
        h.2,
        ap (λ k. same_kind k names.Register) h.0,
      )
      local_fits name (entry.Function f r ts) h = absurd h

  -- what a body sees agrees with the program, where its locals are the first of the function's
  pub body_agrees : (f : Frame) (result : CType) (more : List Named) → AreLocals f.locals (length p.layouts) f.scopes → s.locals ≡ f.locals ++ more → Agrees q s (seen_in_body (seen_now p) result f)
  body_agrees f result more h l =
      let g : Environment = seen_in_body (seen_now p) result f in
      let named : AllByRecursion (AllByRecursion (Fits g.scopes)) g.scopes =
      each_append (AllByRecursion (Fits g.scopes)) f.scopes (file_scope p ∷ [])
      (each_weaker (AllByRecursion (λ x. IsLocal f.locals (length p.layouts) x.1)) (AllByRecursion (Fits g.scopes)) f.scopes
      (λ scope k. each_weaker (λ x. IsLocal f.locals (length p.layouts) x.1) (Fits g.scopes) scope (λ x i. local_fits g.scopes f.locals more l x.0 x.1 i) k) h)
      (file_scope_fits g.scopes, tt) in
      record {
        names = λ name. named_in_scopes (NameFits q s g) name g.scopes named;
        cells = cells_stay q s p.layouts done.more_layouts (layouts ∙ done.layouts);
        members = members_stay q s p.layouts done.more_layouts (layouts ∙ done.layouts) right.structs (subst (λ ls. are_layouts ls ≡ true) (sym layouts) done.structs);
        allocation = allocation_stays q s p.layouts done.more_layouts (layouts ∙ done.layouts) g refl (tags_counted p);
      }

  -- and so does what file scope sees
  pub file_agrees : Agrees q s (seen_now p)
  file_agrees =
      let g : Environment = seen_now p in
      record {
        names = λ name. named_in_scopes (NameFits q s g) name g.scopes (file_scope_fits g.scopes, tt);
        cells = cells_stay q s p.layouts done.more_layouts (layouts ∙ done.layouts);
        members = members_stay q s p.layouts done.more_layouts (layouts ∙ done.layouts) right.structs (subst (λ ls. are_layouts ls ≡ true) (sym layouts) done.structs);
        allocation = allocation_stays q s p.layouts done.more_layouts (layouts ∙ done.layouts) g refl (tags_counted p);
      }
