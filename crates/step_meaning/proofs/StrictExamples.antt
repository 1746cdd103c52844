-- A program that sets its register before it uses it, and one that doesn't.
use Rattle.std.proofs.Common.{◌≡◌, ℕ, zero, suc, true, false, List, [], ◌∷◌, Some, refl, ap, sym, ◌∙◌}
use Rattle.std.specs.Prelude.{pos}
use Rattle.step_meaning.specs.declared.value.NameKind.TheVariants as names
use Rattle.step_meaning.specs.declared.value.RunFault.TheVariants as fault
use Rattle.step_meaning.specs.declared.expr.Place_.{Place_}
use Rattle.step_meaning.specs.declared.expr.Expr.TheVariants as p
use Rattle.step_meaning.specs.declared.stmt.Stmt.{Stmt}
use Rattle.step_meaning.specs.declared.stmt.Stmt.TheVariants as s
use Rattle.step_meaning.specs.declared.program.Function.{Function}
use Rattle.step_meaning.specs.declared.program.Core.{Core}
use Rattle.step_meaning.specs.Steps.{Exit, Fault, end, steps}
use Rattle.step_meaning.specs.Runs.{run}
use Rattle.step_meaning.specs.Strict.{strict_run, SetsRegisters}
use Rattle.step_meaning.proofs.Examples.{int, declared, lit, load, assign, return, library, program, step_actions}

abbrev register : Place_
register = p.Own (record { kind = names.Register; index = 0 })

-- ---- int main(void) { register int r; .. return r; }

abbrev returns_register : List Stmt → Core
returns_register before = program [] [] (main ∷ []) 4
  where
    main : Function
    main = record { name = []; result = int; params = 0; locals = []; registers = declared int ∷ []; ghosts = []; body = Some before }

-- with `r = 1;` before it
abbrev set : Core
set = returns_register (s.Eval (assign register int (lit 1)) ∷ return (load register) ∷ [])

set_sets : SetsRegisters set
set_sets input zero = refl
set_sets input (suc k) = refl

-- without
abbrev unset : Core
unset = returns_register (return (load register) ∷ [])

unset_ends : end (run unset [] 5) ≡ Fault fault.Uninit
unset_ends = refl

strictly_without_halt : end (strict_run unset [] 5) ≡ Fault fault.Invalid
strictly_without_halt = refl

unset_does_not : SetsRegisters unset → ⊥
unset_does_not h = no (sym (ap end (h [] 5)))
  where
    no : Fault fault.Uninit ≡ Fault fault.Invalid → ⊥
    no e = cc
