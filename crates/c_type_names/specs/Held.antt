-- A step of a reader that hands back what it was given to hold.
use Rattle.std.specs.Prelude.{◌≡◌, Bool, if◌then◌else◌, Some, None, Result, Ok, Err}
use Rattle.c_words.specs.declared.fault.ParseFault.{ParseFault}
use Rattle.c_words.specs.declared.fault.ParseFault.TheVariants as fault
use Rattle.c_words.specs.Parsing.{Leaves, Outcome, Parser, pure, refuse}

abbrev pub ReadsAfter : {A B : Type 0} → B → Outcome A → Result (B × A) ParseFault → Leaves → Type 0
ReadsAfter held outcome (Ok p) new = (p.0 ≡ held) × (outcome ≡ Some (p.1, new))
ReadsAfter held outcome (Err (fault.Syntax place)) new = outcome ≡ None
ReadsAfter held outcome (Err fault.Memory) new = Unit {0}

abbrev pub pure_unless : {A : Type 0} → Bool → A → Parser A
pure_unless refused a = if refused then refuse else pure a
