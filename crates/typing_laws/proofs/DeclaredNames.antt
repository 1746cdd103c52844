-- What a declared name keeps, where no rule on it is broken.
use Rattle.std.proofs.Common.{◌≡◌, Bool, true, false, ◌&&◌, not, List, [], ◌∷◌, refl}
use Rattle.c_lexer.specs.declared.token.Place.{Place}
use Rattle.step_meaning.specs.declared.value.CType.{CType}
use Rattle.typing_rules.specs.declared.fault.TypeFault.{TypeFault}
use Rattle.typing_rules.specs.Checked.{Checked, ◌>>=◌, unless, none_of}
use Rattle.typing_rules.specs.Environment.{Environment}
use Rattle.typing_rules.specs.Declarations.{is_within_limit, is_struct, declarable}
use Rattle.typing_laws.specs.SmallTypes.{WhereOk}
use Rattle.typing_laws.proofs.CheckedValues.{then_holds}

pub not_false : (b : Bool) → not b ≡ false → b ≡ true
not_false true h = refl
not_false false h = absurd (cc h)

-- what holds where none of these rules is broken
abbrev pub IfNone : Type 0 → List (Bool × TypeFault) → Type 0
IfNone A rs = WhereOk (λ (u : Unit {0}). A) (none_of rs)

pub none_left : (A : Type 0) → A → IfNone A []
unfolding none_of
none_left A h = h

pub none_then : (A : Type 0) (b : Bool) (e : TypeFault) (rs : List (Bool × TypeFault)) → (b ≡ false → IfNone A rs) → IfNone A ((b, e) ∷ rs)
unfolding none_of
none_then A true e rs h = tt
none_then A false e rs h = h refl

pub unless_holds : (A : Type 0) (b : Bool) (e : TypeFault) → (b ≡ false → A) → WhereOk (λ (u : Unit {0}). A) (unless b e)
unfolding unless
unless_holds A true e h = tt
unless_holds A false e h = h refl

-- a name that may be declared
pub record MayBeDeclared (g : Environment) (again wrong is_value reserved : Bool) (t : CType) : Type 0 where
  pub new : again ≡ false
  pub right : wrong ≡ false
  pub value : (is_value && is_struct t) ≡ false
  pub own : reserved ≡ false
  pub small : is_within_limit g.layouts t ≡ true

pub declarable_holds : (g : Environment) (at : Place) (again wrong is_value reserved : Bool) (t : CType) → WhereOk (λ (u : Unit {0}). MayBeDeclared g again wrong is_value reserved t) (declarable g at again wrong is_value reserved t)
declarable_holds g at again wrong is_value reserved t =
    let A : Type 0 = MayBeDeclared g again wrong is_value reserved t in
    none_then A again _ _ (λ new.
    none_then A wrong _ _ (λ right.
    none_then A (is_value && is_struct t) _ _ (λ value.
    none_then A reserved _ _ (λ own.
    none_then A (not (is_within_limit g.layouts t)) _ _ (λ small.
    none_left A (record { new = new; right = right; value = value; own = own; small = not_false (is_within_limit g.layouts t) small }))))))

-- what comes after a name that is declared
pub declared_then : {A : Type 0} (P : A → Type 0) (g : Environment) (at : Place) (again wrong is_value reserved : Bool) (t : CType) (f : Unit {0} → Checked A)
    → (MayBeDeclared g again wrong is_value reserved t → WhereOk P (f tt)) → WhereOk P (declarable g at again wrong is_value reserved t >>= f)
declared_then P g at again wrong is_value reserved t f k =
    then_holds (λ (u : Unit {0}). MayBeDeclared g again wrong is_value reserved t) P (declarable g at again wrong is_value reserved t) f (declarable_holds g at again wrong is_value reserved t) (λ u h. k h)
