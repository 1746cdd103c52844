-- A value, or the first broken rule with its place.
use Rattle.std.specs.Prelude.{◌≡◌, ◌≢◌, ℕ, Bool, if◌then◌else◌, Option, Some, None, Result, Ok, Err}
use Rattle.c_lexer.specs.declared.token.Place.{Place}
use Rattle.c_lexer.specs.declared.token.Refusal.{Refusal}
use Rattle.acsl_rules.specs.declared.fault.TermFault.{TermFault}
use Rattle.acsl_rules.specs.declared.fault.TermFault.TheVariants as fault

abbrev pub refused : ℕ → Place → Option Refusal
refused code place = Some (record { code = code; place = place })

-- the number of the fault and its place, and none for want of memory
abbrev pub refusal_of : TermFault → Option Refusal
refusal_of (fault.Syntax at) = refused 141 at
refusal_of (fault.Unknown at) = refused 142 at
refusal_of (fault.Kind at) = refused 143 at
refusal_of (fault.TooWide at) = refused 144 at
refusal_of (fault.BadMeta at) = refused 145 at
refusal_of (fault.BadAt at) = refused 146 at
refusal_of (fault.TooLong at) = refused 147 at
refusal_of fault.Memory = None

abbrev pub Checked : Type 0 → Type 0
Checked A = Result A TermFault

-- the second only where the first breaks no rule
infixl 10 ◌>>=◌
abbrev pub ◌>>=◌ : {A B : Type 0} → Checked A → (A → Checked B) → Checked B
(Ok a) >>= f = f a
(Err e) >>= f = Err e

-- what a function ensures: the outcome, unless memory fails
abbrev pub Gives : {A : Type 0} → Checked A → Checked A → Type 0
Gives outcome (Ok a) = outcome ≡ Ok a
Gives outcome (Err e) = e ≢ fault.Memory → outcome ≡ Err e

-- a rule that is kept where there is a value
unfoldable pub kept : {A : Type 0} → TermFault → Option A → Checked A
kept e None = Err e
kept e (Some a) = Ok a

-- a value, where the test holds
abbrev pub where_kept : {A : Type 0} → Bool → TermFault → A → Checked A
where_kept b e a = if b then Ok a else Err e
