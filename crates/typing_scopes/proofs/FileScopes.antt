-- What names stand for at file scope.
use Rattle.std.proofs.Common.{◌≡◌, ℕ, ◌+◌, Bool, true, false, ◌||◌, List, [], ◌∷◌, length, ◌<◌, get_or, map, Option, Some, None, is_some, option_map, option_and_then, position, refl, sym, ap, ◌∙◌, set, zero, suc, zero-add}
use Rattle.std.specs.Prelude.{slice_get}
use Rattle.std.specs.List.{list_any}
use Rattle.std.specs.Str.{bytes_eq}
use Rattle.std.proofs.lemmas.List.{set_split}
use Rattle.step_meaning.specs.declared.program.Declared.{Declared as Named}
use Rattle.step_meaning.specs.declared.program.Function.{Function as CoreFunction}
use Rattle.typing_rules.specs.Environment.{found_in, or_else}
use Rattle.typing_rules.specs.FileScope.{Program, file_scope, numbered, variable_entry, function_entry, is_known}
use Rattle.typing_rules.specs.Functions.{replaced}
use Rattle.typing_scopes.specs.Found.{global_entry, file_function_entry}
use Rattle.typing_scopes.proofs.Scopes.{in_table, table_has, found_in-append, is_some-or_else}

pub in_globals : (ds : List Named) (q : List ℕ) → found_in (numbered variable_entry 0 ds) q ≡ option_and_then (global_entry ds) (position (λ d. bytes_eq q d.name) ds)
in_globals ds q = in_table variable_entry (λ d. d.name) (λ n d. refl) 0 ds q ∙ by (position (λ d. bytes_eq q d.name) ds)
  where
    by : (o : Option ℕ) → option_and_then (λ i. option_map (λ d. (variable_entry (0 + i) d).1) (slice_get ds i)) o ≡ option_and_then (global_entry ds) o
    by None = refl
    by (Some i) = ap (λ k. option_map (λ d. (variable_entry k d).1) (slice_get ds i)) (zero-add i)

pub in_functions : (fs : List CoreFunction) (q : List ℕ) → found_in (numbered function_entry 0 fs) q ≡ option_and_then (file_function_entry fs) (position (λ f. bytes_eq q f.name) fs)
in_functions fs q = in_table function_entry (λ f. f.name) (λ n f. refl) 0 fs q ∙ by (position (λ f. bytes_eq q f.name) fs)
  where
    by : (o : Option ℕ) → option_and_then (λ i. option_map (λ f. (function_entry (0 + i) f).1) (slice_get fs i)) o ≡ option_and_then (file_function_entry fs) o
    by None = refl
    by (Some i) = ap (λ k. option_map (λ f. (function_entry k f).1) (slice_get fs i)) (zero-add i)

pub in_file : (p : Program) (q : List ℕ)
    → found_in (file_scope p) q ≡ or_else (option_and_then (global_entry p.globals) (position (λ d. bytes_eq q d.name) p.globals)) (option_and_then (file_function_entry p.functions) (position (λ f. bytes_eq q f.name) p.functions))
unfolding file_scope
in_file p q = found_in-append (numbered variable_entry 0 p.globals) (numbered function_entry 0 p.functions) q ∙ rw (in_globals p.globals q, in_functions p.functions q) refl

pub known_in_file : (p : Program) (q : List ℕ) → is_known p q ≡ (list_any (λ d. bytes_eq q d.name) p.globals || list_any (λ f. bytes_eq q f.name) p.functions)
unfolding file_scope
known_in_file p q =
    ap is_some (found_in-append (numbered variable_entry 0 p.globals) (numbered function_entry 0 p.functions) q)
    ∙ is_some-or_else (found_in (numbered variable_entry 0 p.globals) q) (found_in (numbered function_entry 0 p.functions) q)
    ∙ rw (table_has variable_entry (λ d. d.name) (λ n d. refl) 0 p.globals q, table_has function_entry (λ f. f.name) (λ n f. refl) 0 p.functions q) refl

or_first : (a b : Bool) → (a || b) ≡ false → a ≡ false
or_first true b h = h
or_first false b h = refl

pub no_global : (p : Program) (q : List ℕ) → is_known p q ≡ false → list_any (λ d. bytes_eq q d.name) p.globals ≡ false
no_global p q h = or_first (list_any (λ d. bytes_eq q d.name) p.globals) (list_any (λ f. bytes_eq q f.name) p.functions) (sym (known_in_file p q) ∙ h)

pub replaced-set : {X : Type 0} (n : ℕ) (x : X) (xs : List X) → n < length xs → set xs n x ≡ replaced n x xs
unfolding replaced
replaced-set n x xs h = set_split xs n x h

-- an item in the place of one of the same name keeps all names
pub set_named : {X : Type 0} (name : X → List ℕ) (xs : List X) (i : ℕ) (y : X) → name y ≡ name (get_or xs i y) → map name (set xs i y) ≡ map name xs
set_named name [] i y h = refl
set_named name (x ∷ xs) zero y h = ap (λ n. n ∷ map name xs) h
set_named name (x ∷ xs) (suc i) y h = ap (λ ns. name x ∷ ns) (set_named name xs i y h)
