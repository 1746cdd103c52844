-- Ranges of cells: what code keeps of the cells that a location denotes (ACSL, memory locations).
use Rattle.std.specs.Prelude.{◌≡◌, ◌-◌, ◌^◌, ℕ, min, Bool, true, false, ◌&&◌, ℤ, pos, ◌+ℤ◌, ◌*ℤ◌, int_lt, List, [], ◌∷◌, length, Option, Some, None}
use Rattle.step_meaning.specs.declared.value.Name.{Name}
use Rattle.step_meaning.specs.Bounded.{IsWithin}
use Rattle.step_meaning.specs.Terms.{TermValue, Number, PointerInto}
use Rattle.step_meaning.specs.Predicates.{Denoted, when_defined, are_disjoint}
use Rattle.acsl_truth.specs.declared.ranges.Range.{Range}

-- the j offsets from a on and the k offsets from b on have one in common
abbrev pub do_meet : ℤ → ℕ → ℤ → ℕ → Bool
do_meet a j b k = (int_lt a (a +ℤ pos j) && int_lt b (b +ℤ pos k)) && (int_lt a (b +ℤ pos k) && int_lt b (a +ℤ pos j))

-- the number, where it has 128 bits, and else the greatest one that has
abbrev pub IsCapped : ℕ → ℕ → Type 0
IsCapped n k = k ≡ min n (2 ^ 128 - 1)

-- the cells are those of one variable or heap block, from an offset on
abbrev pub AreConsecutive : Name → ℤ → List Denoted → Type 0
AreConsecutive n o [] = Unit {0}
AreConsecutive n o (d ∷ ds) = (d.name ≡ n) × (d.offset ≡ o) × AreConsecutive n (o +ℤ pos 1) ds

-- the range is that of these cells
pub record IsRangeOf (r : Range) (ds : List Denoted) : Type 0 where
  pub consecutive : AreConsecutive r.name r.first ds
  pub counted : IsCapped (length ds) r.count
  pub begins : IsWithin r.first

-- the range is that of the cells of a location, and there is none where the location is undefined
abbrev pub Denotes : Option Range → Option (List Denoted) → Type 0
Denotes None None = Unit {0}
Denotes (Some r) (Some ds) = IsRangeOf r ds
Denotes _ _ = ⊥

-- the objects from number a on at a pointer begin within the limit
abbrev pub BeginsWithin : TermValue → ℤ → ℕ → Type 0
BeginsWithin (PointerInto n o) a size = IsWithin (a *ℤ pos size) × IsWithin (o +ℤ (a *ℤ pos size))
BeginsWithin _ a size = Unit {0}

abbrev pub StartsWithin : Option TermValue → Option TermValue → Option TermValue → ℕ → Type 0
StartsWithin (Some v) (Some (Number a)) (Some (Number b)) size = BeginsWithin v a size
StartsWithin _ _ _ size = Unit {0}

-- a location is defined and disjoint from each of the others, which are defined, too
abbrev pub is_apart_from_all : Option (List Denoted) → List (Option (List Denoted)) → Bool
is_apart_from_all None os = false
is_apart_from_all (Some cs) [] = true
is_apart_from_all (Some cs) (o ∷ os) = when_defined (are_disjoint cs) o && is_apart_from_all (Some cs) os
