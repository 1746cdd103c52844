-- Types that are the same are equal.
use Rattle.std.proofs.Common.{◌≡◌, ℕ, Bool, true, false, refl, sym, ap, ◌∙◌, List, [], ◌∷◌, Some}
use Rattle.std.specs.Prelude.{◌==◌, slice_get}
use Rattle.std.proofs.lemmas.Bool.{eqb-true}
use Rattle.std.proofs.Math.Dec.{eqb_refl, T}
use Rattle.step_meaning.specs.declared.value.IntKind.{IntKind}
use Rattle.step_meaning.specs.declared.value.IntKind.TheVariants as kind
use Rattle.step_meaning.specs.declared.value.CType.{CType, end_of-CType, more_of-CType}
use Rattle.step_meaning.specs.declared.value.CType.TheVariants.{Void, Int, Pointer', Array', Struct}
use Rattle.step_meaning.specs.Types.{kind_number, same_type}
use Rattle.step_meaning.proofs.Ranges.{and_true, left_of_and, right_of_and, false_is_not_true}

-- ---- kinds

-- the kinds in the order of their numbers
abbrev kinds : List IntKind
kinds = kind.Char ∷ kind.SChar ∷ kind.UChar ∷ kind.Short ∷ kind.UShort ∷ kind.Int ∷ kind.UInt ∷ kind.Long ∷ kind.ULong ∷ []

some_is : {A : Type 0} {a b : A} → Some a ≡ Some b → a ≡ b
some_is e = cc

kind_back : (k : IntKind) → slice_get kinds (kind_number k) ≡ Some k
kind_back kind.Char = refl
kind_back kind.SChar = refl
kind_back kind.UChar = refl
kind_back kind.Short = refl
kind_back kind.UShort = refl
kind_back kind.Int = refl
kind_back kind.UInt = refl
kind_back kind.Long = refl
kind_back kind.ULong = refl

pub same_kind_equal : (k l : IntKind) → (kind_number k == kind_number l) ≡ true → k ≡ l
same_kind_equal k l e = some_is (sym (kind_back k) ∙ ap (slice_get kinds) (eqb-true (kind_number k) (kind_number l) e) ∙ kind_back l)

-- ---- types

pub same_type_equal : (t u : CType) → same_type t u ≡ true → t ≡ u
same_type_equal Void Void e = refl
same_type_equal (Int k) (Int l) e = ap Int (same_kind_equal k l e)
same_type_equal (Pointer' p (more_of-CType t end_of-CType)) (Pointer' r (more_of-CType u end_of-CType)) e = ap (λ t. Pointer' p (more_of-CType t end_of-CType)) (same_type_equal t u e)
same_type_equal (Array' p (more_of-CType t end_of-CType) n) (Array' r (more_of-CType u end_of-CType) m) e =
    ap (λ t. Array' p (more_of-CType t end_of-CType) n) (same_type_equal t u (right_of_and (n == m) (same_type t u) e)) ∙ ap (λ n. Array' p (more_of-CType u end_of-CType) n) (eqb-true n m (left_of_and (n == m) (same_type t u) e))
same_type_equal (Struct n) (Struct m) e = ap Struct (eqb-true n m e)
same_type_equal _ _ e = false_is_not_true e

pub number_same : (n : ℕ) → (n == n) ≡ true
number_same n = told (n == n) (eqb_refl n)
  where
    told : (b : Bool) → T b → b ≡ true
    told true h = refl
    told false h = absurd h

pub same_itself : (t : CType) → same_type t t ≡ true
same_itself Void = refl
same_itself (Int k) = number_same (kind_number k)
same_itself (Pointer' b (more_of-CType t end_of-CType)) = same_itself t
same_itself (Array' b (more_of-CType t end_of-CType) n) = and_true (number_same n) (same_itself t)
same_itself (Struct n) = number_same n
