-- The core of a parsed text that breaks no rule is well formed.
use Rattle.std.proofs.Common.{◌≡◌, ℕ, true, List, [], ◌∷◌, ◌++◌, map, Some, None, refl, sym, subst, append-nil}
use Rattle.std.specs.Prelude.{codes, slice_get}
use Rattle.std.specs.List.{list_all, AllByRecursion}
use Rattle.std.specs.Str.{bytes_eq}
use Rattle.step_meaning.specs.declared.program.Core.{Core}
use Rattle.step_meaning.specs.declared.program.Function.{Function as CoreFunction}
use Rattle.step_meaning.specs.TypeRules.{keeps_rules}
use Rattle.step_meaning.specs.ExpressionTypes.{has_body}
use Rattle.step_meaning.specs.Library.{int, is_library, is_malloc, is_free, but_allocation}
use Rattle.step_meaning.specs.Identifiers.{is_name}
use Rattle.step_meaning.specs.WellFormed.{IsWellFormed, IsWellFormedFunction, is_main, declared_names}
use Rattle.step_meaning.proofs.TypedMemory.{WhereSome, get_fits}
use Rattle.typing_rules.specs.declared.fault.TypeFault.TheVariants.{NoMain, TooLarge}
use Rattle.typing_rules.specs.Checked.{kept, unless}
use Rattle.typing_rules.specs.Syntax.{Item}
use Rattle.typing_rules.specs.Environment.{contains}
use Rattle.typing_rules.specs.FileScope.{Program}
use Rattle.typing_rules.specs.Functions.{function_number, prototype}
use Rattle.typing_rules.specs.Programs.{items, body_names, nameless, library, start, nowhere, is_too_large, core_of, main_of, whole, elaborated}
use Rattle.typing_laws.specs.SmallTypes.{WhereOk}
use Rattle.typing_laws.specs.Soundness.{CoresAreFormed}
use Rattle.typing_laws.proofs.CheckedValues.{then_holds, then_known, kept_holds, if_holds, where_ok, where_some, some_known}
use Rattle.typing_laws.proofs.EachOf.{each_all, all_append}
use Rattle.typing_laws.proofs.Positions.{FoundAt, found_at}
use Rattle.typing_laws.proofs.DistinctNames.{function_names}
use Rattle.typing_laws.proofs.FormedFunctions.{prototype_formed}
use Rattle.typing_laws.proofs.Completion.{FunctionStays, Completes, bytes_same, bytes_itself}
use Rattle.typing_laws.proofs.GrowingPrograms.{SoundIn}
use Rattle.typing_laws.proofs.DefinedPrograms.{MainRight, IfMain, IfDefined}
use Rattle.typing_laws.proofs.WholePrograms.{Whole, after_items, items_whole, all_done, start_whole}

-- the function that a program starts with
record StartsAt (p : Program) (n : ℕ) : Type 0 where
  function : CoreFunction
  there : slice_get p.functions n ≡ Some function
  named : function.name ≡ codes "main"
  counted : contains p.bodies (codes "main") ≡ true

main_found : (p : Program) → WhereSome (StartsAt p) (main_of p)
main_found p =
    if_holds (WhereSome (StartsAt p)) (contains p.bodies (codes "main")) (function_number p.functions (codes "main")) None
    (λ c. some_known (StartsAt p) (function_number p.functions (codes "main")) (λ n e.
    let at : FoundAt (λ f. bytes_eq (codes "main") f.name) p.functions n = found_at (λ f. bytes_eq (codes "main") f.name) p.functions n e in
    record { function = at.element; there = at.there; named = sym (bytes_same (codes "main") at.element.name at.passes); counted = c }))
    (λ c. tt)

module _ (text : List ℕ) (all : List Item) (p : Program) (h : Whole text (body_names text all) (after_items text (body_names text all) all []) p) (n : ℕ) (main : StartsAt p n) where
  abbrev q : Core
  q = core_of p n

  defined_at : (i : ℕ) (f : CoreFunction) → slice_get p.functions i ≡ Some f → contains p.bodies f.name ≡ true → has_body f ≡ true
  defined_at i f e b =
      where_some (IfDefined (after_items text (body_names text all) all [])) (slice_get p.functions i) f e (get_fits (IfDefined (after_items text (body_names text all) all [])) p.functions i h.defined.bodies)
      (all_done text (body_names text all) all [] f.name (subst (λ names. contains names f.name ≡ true) h.same_bodies b))

  completes : Completes q p
  completes = record {
    more_layouts = [];
    layouts = sym (append-nil p.layouts);
    more_globals = [];
    globals = sym (append-nil p.globals);
    functions = λ i. some_known (FunctionStays q i) (slice_get p.functions i) (λ f e. record { later = f; found = e; name = refl; result = refl; parameters = refl });
    structs = h.good.right.structs;
    bodies = λ i. some_known (λ f. contains p.bodies f.name ≡ true → has_body f ≡ true) (slice_get p.functions i) (defined_at i);
    main = main.function;
    start = main.there;
    main_name = main.named;
  }

  sound : SoundIn q p h.good.rest
  sound = h.good.sound q completes

  -- ---- the library

  of_library : (P : List CoreFunction → Type 0) → P (library ++ h.good.rest) → P p.functions
  of_library P k = subst P (sym h.good.functions) k

  getchar_formed : IsWellFormedFunction q (prototype (codes "getchar") int [])
  getchar_formed = prototype_formed q p.layouts [] (sym (append-nil p.layouts)) (codes "getchar") int [] (record { result = refl; valued = refl }) tt

  putchar_formed : IsWellFormedFunction q (prototype (codes "putchar") int (nameless int ∷ []))
  putchar_formed = prototype_formed q p.layouts [] (sym (append-nil p.layouts)) (codes "putchar") int (nameless int ∷ []) (record { result = refl; valued = refl }) (record { scalar = refl; keep = refl }, tt)

  -- ---- `main`

  main_right : MainRight main.function
  main_right = where_some IfMain (slice_get p.functions n) main.function main.there (get_fits IfMain p.functions n h.defined.mains) (subst (λ w. bytes_eq w (codes "main") ≡ true) (sym main.named) (bytes_itself (codes "main")))

  main_body : has_body main.function ≡ true
  main_body = defined_at n main.function main.there (subst (λ w. contains p.bodies w ≡ true) (sym main.named) main.counted)

  main_is_main : is_main (slice_get p.functions n) ≡ true
  main_is_main = rw (main.there, main.named, main_right.result, main_right.count, main_body) refl

  -- ---- names

  names_hold : {A : Type 0} (name_of : A → List ℕ) (xs : List A) → AllByRecursion (λ x. is_name (name_of x) ≡ true) xs → list_all is_name (map name_of xs) ≡ true
  names_hold name_of [] k = refl
  names_hold name_of (x ∷ xs) k = rw (k.0, names_hold name_of xs k.1) refl

  formed : IsWellFormed q
  formed = record {
    structs = h.good.right.structs;
    globals = each_all (λ d. keeps_rules p.layouts d.ctype) p.globals h.good.right.globals;
    initial = sound.initial;
    ghosts = refl;
    getchar = of_library (λ fs. is_library (codes "getchar") int [] (slice_get fs 0) ≡ true) refl;
    putchar = of_library (λ fs. is_library (codes "putchar") int (int ∷ []) (slice_get fs 1) ≡ true) refl;
    malloc = of_library (λ fs. is_malloc (slice_get fs 2) ≡ true) refl;
    free = of_library (λ fs. is_free (slice_get fs 3) ≡ true) refl;
    main = main_is_main;
    functions = of_library (λ fs. AllByRecursion (IsWellFormedFunction q) (but_allocation fs)) (getchar_formed, (putchar_formed, sound.functions));
    file_names = all_append is_name (declared_names p.globals) (function_names p.functions) (names_hold (λ d. d.name) p.globals h.named.globals) (names_hold (λ f. f.name) p.functions h.named.functions);
    distinct_names = h.named.distinct;
    tags = names_hold (λ l. l.tag) p.layouts h.named.tags;
    distinct_tags = h.named.distinct_tags;
    member_names = each_all _ p.layouts h.named.members;
  }

whole_formed : (text : List ℕ) (all : List Item) (p : Program) → Whole text (body_names text all) (after_items text (body_names text all) all []) p → WhereOk IsWellFormed (whole all p)
unfolding whole
whole_formed text all p h =
    then_holds (StartsAt p) IsWellFormed (kept (NoMain nowhere) (main_of p)) _ (kept_holds (StartsAt p) _ (main_of p) (main_found p)) (λ n main.
    then_known IsWellFormed (unless (is_too_large all p) (TooLarge nowhere)) _ (λ u e. formed text all p h n main))

pub cores_formed : CoresAreFormed
unfolding elaborated
cores_formed m text all q c e =
    where_ok IsWellFormed (elaborated m text all) q e
    (then_holds (Whole text (body_names text all) (after_items text (body_names text all) all [])) IsWellFormed (items all (start m text all)) _ (items_whole text (body_names text all) all [] (start m text all) c (start_whole m text all)) (λ p h. whole_formed text all p h))
