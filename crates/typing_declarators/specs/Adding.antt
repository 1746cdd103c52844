-- What is added to a list, where no rule is broken.
use Rattle.std.specs.Prelude.{◌≡◌, ◌≢◌, List, ◌++◌, Ok, Err}
use Rattle.typing_rules.specs.declared.fault.TypeFault.TheVariants as fault
use Rattle.typing_rules.specs.Checked.{Checked, ◌>>=◌}

-- the list with what the outcome adds to it
unfoldable pub extended : {A : Type 0} → List A → Checked (List A) → Checked (List A)
extended old outcome = outcome >>= (λ xs. Ok (old ++ xs))

-- what a function ensures that adds the outcome to a list, unless memory fails. After an error the list is no longer used
abbrev pub Adds : {A : Type 0} → Checked (List A) → List A → List A → Checked (Unit {0}) → Type 0
Adds outcome old new (Ok u) = extended old outcome ≡ Ok new
Adds outcome old new (Err e) = e ≢ fault.Memory → outcome ≡ Err e
