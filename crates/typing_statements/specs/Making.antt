-- What code makes by the rules of a body.
use Rattle.std.specs.Prelude.{◌≡◌, ◌≢◌, List, [], ◌∷◌, ◌++◌, Ok, Err}
use Rattle.step_meaning.specs.declared.stmt.Stmt.{Stmt}
use Rattle.typing_rules.specs.declared.fault.TypeFault.TheVariants as fault
use Rattle.typing_rules.specs.Checked.{Checked, ◌>>=◌}
use Rattle.typing_rules.specs.Statements.{Frame}

-- what a function ensures that makes the outcome and goes on after it, unless memory fails
abbrev pub Makes : {A : Type 0} → Checked (A × Frame) → Checked A → Frame → Type 0
Makes outcome (Ok a) after = outcome ≡ Ok (a, after)
Makes outcome (Err e) after = e ≢ fault.Memory → outcome ≡ Err e

-- these statements and then those of the outcome
unfoldable pub behind : List Stmt → Checked (List Stmt × Frame) → Checked (List Stmt × Frame)
behind old outcome = outcome >>= (λ r. Ok (old ++ r.0, r.1))

-- what a function ensures that adds the statements of the outcome to others, unless memory fails
abbrev pub MakesMore : Checked (List Stmt × Frame) → List Stmt → List Stmt → Checked (Unit {0}) → Frame → Type 0
MakesMore outcome old new (Ok u) after = behind old outcome ≡ Ok (new, after)
MakesMore outcome old new (Err e) after = e ≢ fault.Memory → outcome ≡ Err e

-- statements and then those of what goes on after them
unfoldable pub joined : Checked (List Stmt × Frame) → (Frame → Checked (List Stmt × Frame)) → Checked (List Stmt × Frame)
joined outcome more = outcome >>= (λ r. behind r.0 (more r.1))

-- a statement alone
unfoldable pub alone : Checked (Stmt × Frame) → Checked (List Stmt × Frame)
alone outcome = outcome >>= (λ r. Ok (r.0 ∷ [], r.1))
