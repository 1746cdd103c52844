-- Ghost code and ghost variables, computed on small programs: each core is what the text above it stands for.
use Rattle.std.proofs.Common.{◌≡◌, ℕ, zero, suc, true, false, refl, List, [], ◌∷◌}
use Rattle.std.specs.Prelude.{pos}
use Rattle.step_meaning.specs.declared.value.CType.{CType}
use Rattle.step_meaning.specs.declared.expr.CompareOp.TheVariants as comparing
use Rattle.step_meaning.specs.declared.predicate.Term.TheVariants as t
use Rattle.step_meaning.specs.declared.predicate.TermPlace.TheVariants as tp
use Rattle.step_meaning.specs.declared.predicate.Predicate.{Predicate}
use Rattle.step_meaning.specs.declared.predicate.Predicate.TheVariants as is
use Rattle.step_meaning.specs.declared.stmt.VerdictKind.TheVariants.{Safe}
use Rattle.step_meaning.specs.declared.stmt.GhostStmt.{GhostStmt, end_of-GhostStmt, more_of-GhostStmt}
use Rattle.step_meaning.specs.declared.stmt.GhostStmt.TheVariants as g
use Rattle.step_meaning.specs.declared.stmt.Stmt.{Stmt}
use Rattle.step_meaning.specs.declared.stmt.Stmt.TheVariants as s
use Rattle.step_meaning.specs.declared.program.Core.{Core}
use Rattle.step_meaning.specs.Steps.{items}
use Rattle.step_meaning.specs.Runs.{run}
use Rattle.step_meaning.specs.Printable.{is_small_ghost}
use Rattle.step_meaning.proofs.Examples.{int, pointer_to, declared, lit, return, function, program, ghost_variable, ghost_term, found}

-- a program whose one ghost variable of file scope has this type
abbrev with_ghost : CType → List Stmt → Core
with_ghost t body = record (program [] [] (function int [] (s.Empty ∷ body) ∷ []) 4) { ghosts = declared t ∷ [] }

abbrev set : ℕ → GhostStmt
set n = g.Set ghost_variable (t.Int (pos n))

-- /*@ ghost if (P) { __g = 1; } else { __g = 2; } */
abbrev either_set : Predicate → Stmt
either_set r = s.Ghost (g.When' r (tt ∷ []) (more_of-GhostStmt (set 1) end_of-GhostStmt) (tt ∷ []) (more_of-GhostStmt (set 2) end_of-GhostStmt))

-- /*@ assert weave_1: __g == n; */
abbrev asserted : ℕ → Stmt
asserted n = s.Assert Safe 1 (is.Relation comparing.Equal ghost_term (t.Int (pos n)))

ghost_else : found (items (run (with_ghost int (either_set is.False ∷ asserted 2 ∷ return (lit 0) ∷ [])) [] 9)) ≡ (true ∷ [])
ghost_else = refl

ghost_then : found (items (run (with_ghost int (either_set is.True ∷ asserted 2 ∷ asserted 1 ∷ return (lit 0) ∷ [])) [] 9)) ≡ (false ∷ true ∷ [])
ghost_then = refl

-- a ghost pointer of file scope starts with null, an integer with 0
ghost_pointer_null : found (items (run (with_ghost (pointer_to int) (s.Assert Safe 1 (is.Relation comparing.Equal (t.Load (tp.Own ghost_variable) (pointer_to int)) t.Null) ∷ return (lit 0) ∷ [])) [] 9)) ≡ (true ∷ [])
ghost_pointer_null = refl

ghost_integer_zero : found (items (run (with_ghost int (asserted 0 ∷ return (lit 0) ∷ [])) [] 9)) ≡ (true ∷ [])
ghost_integer_zero = refl

-- ---- nesting

abbrev nested_ghost : ℕ → GhostStmt
nested_ghost zero = g.When' is.True [] end_of-GhostStmt [] end_of-GhostStmt
nested_ghost (suc n) = g.When' is.True (tt ∷ []) (more_of-GhostStmt (nested_ghost n) end_of-GhostStmt) [] end_of-GhostStmt

hundred_deep : is_small_ghost (nested_ghost 99) ≡ true
hundred_deep = refl

hundred_one_deep : is_small_ghost (nested_ghost 100) ≡ false
hundred_one_deep = refl
