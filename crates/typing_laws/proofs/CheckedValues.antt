-- What holds of the value of one check after another.
use Rattle.std.proofs.Common.{◌≡◌, Bool, true, false, Option, Some, None, Ok, Err, refl, subst}
use Rattle.std.specs.Prelude.{if◌then◌else◌, option_and_then, option_map}
use Rattle.step_meaning.proofs.TypedMemory.{WhereSome}
use Rattle.typing_rules.specs.declared.fault.TypeFault.{TypeFault}
use Rattle.typing_rules.specs.Checked.{Checked, ◌>>=◌, kept}
use Rattle.typing_laws.specs.SmallTypes.{WhereOk}

pub then_holds : {A B : Type 0} (P : A → Type 0) (Q : B → Type 0) (c : Checked A) (f : A → Checked B) → WhereOk P c → ((a : A) → P a → WhereOk Q (f a)) → WhereOk Q (c >>= f)
then_holds P Q (Ok a) f h k = k a h
then_holds P Q (Err e) f h k = tt

-- where what comes first is known to have a value
pub then_known : {A B : Type 0} (Q : B → Type 0) (c : Checked A) (f : A → Checked B) → ((a : A) → c ≡ Ok a → WhereOk Q (f a)) → WhereOk Q (c >>= f)
then_known Q (Ok a) f k = k a refl
then_known Q (Err e) f k = tt

pub where_ok : {A : Type 0} (P : A → Type 0) (c : Checked A) (a : A) → c ≡ Ok a → WhereOk P c → P a
where_ok P c a e h = subst (WhereOk P) e h

-- whatever holds of each value
pub always : {A : Type 0} (P : A → Type 0) (c : Checked A) → ((a : A) → P a) → WhereOk P c
always P (Ok a) h = h a
always P (Err e) h = tt

pub weaker : {A : Type 0} (P Q : A → Type 0) (c : Checked A) → ((a : A) → P a → Q a) → WhereOk P c → WhereOk Q c
weaker P Q (Ok a) k h = k a h
weaker P Q (Err e) k h = tt

pub kept_holds : {A : Type 0} (P : A → Type 0) (e : TypeFault) (o : Option A) → WhereSome P o → WhereOk P (kept e o)
unfolding kept
kept_holds P e None h = tt
kept_holds P e (Some a) h = h

-- ---- choices

pub if_holds : {A : Type 0} (P : A → Type 0) (b : Bool) (x y : A) → (b ≡ true → P x) → (b ≡ false → P y) → P (if b then x else y)
if_holds P true x y h k = h refl
if_holds P false x y h k = k refl

-- ---- options

pub some_then : {A B : Type 0} (P : A → Type 0) (Q : B → Type 0) (f : A → Option B) (o : Option A) → WhereSome P o → ((a : A) → P a → WhereSome Q (f a)) → WhereSome Q (option_and_then f o)
some_then P Q f None h k = tt
some_then P Q f (Some a) h k = k a h

pub some_mapped : {A B : Type 0} (P : A → Type 0) (Q : B → Type 0) (f : A → B) (o : Option A) → WhereSome P o → ((a : A) → P a → Q (f a)) → WhereSome Q (option_map f o)
some_mapped P Q f None h k = tt
some_mapped P Q f (Some a) h k = k a h

pub some_known : {A : Type 0} (P : A → Type 0) (o : Option A) → ((a : A) → o ≡ Some a → P a) → WhereSome P o
some_known P None h = tt
some_known P (Some a) h = h a refl

pub where_some : {A : Type 0} (P : A → Type 0) (o : Option A) (a : A) → o ≡ Some a → WhereSome P o → P a
where_some P o a e h = subst (WhereSome P) e h
