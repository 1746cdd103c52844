-- A value, or the first broken rule with its place.
use Rattle.std.specs.Prelude.{◌≡◌, ◌≢◌, ℕ, Bool, List, [], ◌∷◌, if◌then◌else◌, Option, Some, None, Result, Ok, Err}
use Rattle.c_lexer.specs.declared.token.Place.{Place}
use Rattle.c_lexer.specs.declared.token.Refusal.{Refusal}
use Rattle.typing_rules.specs.declared.fault.TypeFault.{TypeFault}
use Rattle.typing_rules.specs.declared.fault.TypeFault.TheVariants as fault

-- ---- faults

abbrev pub refused : ℕ → Place → Option Refusal
refused code place = Some (record { code = code; place = place })

-- the number of the fault and its place, and none for want of memory
abbrev pub refusal_of : TypeFault → Option Refusal
refusal_of (fault.Unknown at) = refused 121 at
refusal_of (fault.Redeclared at) = refused 122 at
refusal_of (fault.Mismatch at) = refused 123 at
refusal_of (fault.NotPlace at) = refused 124 at
refusal_of (fault.ArgumentCount at) = refused 125 at
refusal_of (fault.NoBody at) = refused 126 at
refusal_of (fault.NoMain at) = refused 127 at
refusal_of (fault.MainCalled at) = refused 128 at
refusal_of (fault.StructValue at) = refused 129 at
refusal_of (fault.Reserved at) = refused 130 at
refusal_of (fault.TooLarge at) = refused 131 at
refusal_of (fault.BadInitialiser at) = refused 132 at
refusal_of (fault.StrayJump at) = refused 133 at
refusal_of fault.Memory = None

-- ---- values that are checked

abbrev pub Checked : Type 0 → Type 0
Checked A = Result A TypeFault

-- the second only where the first breaks no rule
infixl 10 ◌>>=◌
abbrev pub ◌>>=◌ : {A B : Type 0} → Checked A → (A → Checked B) → Checked B
(Ok a) >>= f = f a
(Err e) >>= f = Err e

-- what a function ensures: the outcome, unless memory fails
abbrev pub Gives : {A : Type 0} → Checked A → Checked A → Type 0
Gives outcome (Ok a) = outcome ≡ Ok a
Gives outcome (Err e) = e ≢ fault.Memory → outcome ≡ Err e

-- a rule that is kept where there is a value
unfoldable pub kept : {A : Type 0} → TypeFault → Option A → Checked A
kept e None = Err e
kept e (Some a) = Ok a

-- a rule that is broken where the test holds
unfoldable pub unless : Bool → TypeFault → Checked (Unit {0})
unless b e = if b then Err e else Ok tt

-- of the rules that one construct breaks, the one with the least number: they stand in the order of their numbers
unfoldable pub none_of : List (Bool × TypeFault) → Checked (Unit {0})
none_of [] = Ok tt
none_of (r ∷ rs) = if r.0 then Err r.1 else none_of rs
