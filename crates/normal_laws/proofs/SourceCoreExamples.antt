-- The premise of the laws on runs holds of a program with a struct, a loop, a call and a null pointer, and of none whose code names a register.
use Rattle.std.proofs.Common.{None, List, [], ◌∷◌, ◌≡◌, refl, sym, subst, ◌&&◌}
use Rattle.std.specs.Prelude.{nat_le, IsTrue}
use Rattle.std.specs.List.{list_all}
use Rattle.step_meaning.specs.declared.stmt.Stmt.{Stmt}
use Rattle.step_meaning.specs.declared.program.Function.{Function}
use Rattle.step_meaning.specs.Sources.{is_bare, calls_are_short, full_nesting, have_source_types, IsSourceFunction, IsSource}
use Rattle.step_meaning.specs.TermSizes.{type_depth}
use Rattle.step_meaning.specs.WellFormed.{OfBody}
use Rattle.step_meaning.proofs.Examples.{int, load, return, program, function}
use Rattle.step_meaning.proofs.NormalExamples.{register}
use Rattle.step_meaning.proofs.WellFormedExamples.{getchar, putchar, malloc, free, add, main, adding, adding_well_formed}
use Rattle.normal_laws.specs.Agreement.{IsSourceCore}
use Rattle.normal_laws.proofs.SourceCores.{source_core}

without_body : (f : Function) → f.registers ≡ [] → f.ghosts ≡ [] → f.body ≡ None → IsTrue (nat_le (type_depth f.result) 99 && have_source_types f.locals) → IsSourceFunction f
without_body f r g b t = record { registers = r; ghosts = g; types = t; bare = nothing (λ ss. IsTrue (list_all is_bare ss)); short_calls = nothing (λ ss. IsTrue (list_all calls_are_short ss)); nesting = nothing (λ ss. IsTrue (list_all (λ s. nat_le (full_nesting 1 s) 500) ss)) }
  where
    nothing : (P : List Stmt → Type 0) → OfBody P f.body
    nothing P = subst (OfBody P) (sym b) tt

with_body : (f : Function) → IsTrue (nat_le (type_depth f.result) 99 && have_source_types f.locals) → f.registers ≡ [] → f.ghosts ≡ [] → OfBody (λ ss. IsTrue (list_all is_bare ss)) f.body → OfBody (λ ss. IsTrue (list_all calls_are_short ss)) f.body
    → OfBody (λ ss. IsTrue (list_all (λ s. nat_le (full_nesting 1 s) 500) ss)) f.body → IsSourceFunction f
with_body f t r g bare short nesting = record { registers = r; ghosts = g; types = t; bare = bare; short_calls = short; nesting = nesting }

pub adding_is_source : IsSource adding
adding_is_source = record {
  well_formed = adding_well_formed;
  ghosts = refl;
  struct_types = refl;
  global_types = refl;
  functions = (without_body getchar refl refl refl refl, (without_body putchar refl refl refl refl, (without_body malloc refl refl refl refl, (without_body free refl refl refl refl, (with_body add refl refl refl refl refl refl, (with_body main refl refl refl refl refl refl, tt))))));
}

adding_premise : IsSourceCore adding
adding_premise = source_core adding adding_is_source

-- int main(void) { return r; } with a register r
register_is_none : IsSourceCore (program [] [] (function int [] (return (load (register 0)) ∷ []) ∷ []) 4) → ⊥
register_is_none h = (h.functions 4 _ refl).body.0
