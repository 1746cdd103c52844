-- Small facts on truth values and options.
use Rattle.std.proofs.Common.{◌≡◌, Bool, true, false, ◌&&◌, Some, refl}

pub some_is : {A : Type 0} (x y : A) → Some x ≡ Some y → x ≡ y
some_is x y e = cc

pub no_true : {A : Type 0} → false ≡ true → A
no_true e = cc

pub and_left : (a b : Bool) → (a && b) ≡ true → a ≡ true
and_left true b e = refl
and_left false b e = e

pub and_right : (a b : Bool) → (a && b) ≡ true → b ≡ true
and_right true b e = e
and_right false b e = no_true e
