-- Intervals of terms: an interval that holds each value that an integer term may have, and each offset in cells that a pointer term may have.
-- The interval of a variable is that of its type; that of an operation is computed from the ends of its operands' intervals.
-- The limit of every integer term, of every offset in cells and of each product of a number and a size is -(2 ^ 127 - 1) to 2 ^ 127 - 1.
use Rattle.std.specs.Prelude.{ℕ, ◌^◌, ◌-◌, ℤ, pos, ◌+ℤ◌, ◌-ℤ◌, ◌*ℤ◌, neg_ℤ, List, Option, Some, None}
use Rattle.std.specs.List.{AllByRecursion}
use Rattle.std.specs.Int.{int_min, int_max}
use Rattle.step_meaning.specs.declared.value.IntKind.{IntKind}
use Rattle.step_meaning.specs.declared.value.CType.{CType}
use Rattle.step_meaning.specs.declared.value.CType.TheVariants as type
use Rattle.step_meaning.specs.declared.expr.IntOp.{IntOp}
use Rattle.step_meaning.specs.declared.expr.IntOp.TheVariants as op
use Rattle.step_meaning.specs.declared.predicate.Term.{Term, end_of-Term, more_of-Term}
use Rattle.step_meaning.specs.declared.predicate.Term.TheVariants as t
use Rattle.step_meaning.specs.declared.predicate.TermPlace.{TermPlace, end_of-TermPlace, more_of-TermPlace}
use Rattle.step_meaning.specs.declared.predicate.TermPlace.TheVariants as p
use Rattle.step_meaning.specs.declared.predicate.Location.{Location}
use Rattle.step_meaning.specs.declared.predicate.Predicate.{Predicate, end_of-Predicate, more_of-Predicate}
use Rattle.step_meaning.specs.declared.predicate.Predicate.TheVariants.{Not', And', Or', Implies', Iff', Relation, Valid, Separated}
use Rattle.step_meaning.specs.declared.program.Layout.{Layout}
use Rattle.step_meaning.specs.Numbers.{least, greatest}
use Rattle.step_meaning.specs.Predicates.{denoted_size}
use Rattle.step_meaning.specs.Bounded.{IsWithin}
use Rattle.step_meaning.specs.Allowances.{Allowed}

-- the whole numbers from `low` to `high`
pub record Interval : Type 0 where
  pub low : ℤ
  pub high : ℤ

abbrev pub from_to : ℤ → ℤ → Interval
from_to a b = record { low = a; high = b }

abbrev pub alone : ℤ → Interval
alone z = from_to z z

abbrev pub IsLimited : Interval → Type 0
IsLimited i = IsWithin i.low × IsWithin i.high

-- ---- operations on ends

abbrev pub negated : Interval → Interval
negated i = from_to (neg_ℤ i.high) (neg_ℤ i.low)

abbrev pub sum : Interval → Interval → Interval
sum i j = from_to (i.low +ℤ j.low) (i.high +ℤ j.high)

abbrev pub difference : Interval → Interval → Interval
difference i j = from_to (i.low -ℤ j.high) (i.high -ℤ j.low)

abbrev pub product : Interval → Interval → Interval
product i j =
    from_to
    (int_min (int_min (i.low *ℤ j.low) (i.low *ℤ j.high)) (int_min (i.high *ℤ j.low) (i.high *ℤ j.high)))
    (int_max (int_max (i.low *ℤ j.low) (i.low *ℤ j.high)) (int_max (i.high *ℤ j.low) (i.high *ℤ j.high)))

-- the greatest magnitude
abbrev pub magnitude : Interval → ℤ
magnitude i = int_max (int_max i.low (neg_ℤ i.low)) (int_max i.high (neg_ℤ i.high))

-- a quotient and a remainder are no further from 0 than the dividend
abbrev pub around_zero : Interval → Interval
around_zero i = from_to (neg_ℤ (magnitude i)) (magnitude i)

abbrev pub operation : IntOp → Interval → Interval → Interval
operation op.Add i j = sum i j
operation op.Sub i j = difference i j
operation op.Mul i j = product i j
operation _ i j = around_zero i

-- so many objects of this size, for each number of the interval
abbrev pub times_size : Interval → ℕ → Interval
times_size i size = product i (alone (pos size))

-- ---- intervals of types

abbrev pub integers_of : IntKind → Interval
integers_of k = from_to (least k) (greatest k)

-- the offset of a pointer that is read, of an access, of a parameter or of a result
abbrev pub any_offset : Interval
any_offset = from_to (pos 0) (pos (2 ^ 32 - 1))

abbrev pub interval_of_type : CType → Interval
interval_of_type (type.Int k) = integers_of k
interval_of_type _ = any_offset

abbrev pub interval_if_any : Option CType → Interval
interval_if_any None = any_offset
interval_if_any (Some u) = interval_of_type u

-- ---- intervals of terms: of the integer, or of the pointer's offset

module _ (a : Allowed) where
  abbrev mutual
    pub interval : Term → Interval
    interval (t.Int z) = alone z
    interval t.Null = alone (pos 0)
    interval (t.Load q u) = interval_of_type u
    interval (t.Address q u) = interval_of_place q
    interval (t.Neg' b (more_of-Term e end_of-Term)) = negated (interval e)
    interval (t.Arith' o b (more_of-Term e end_of-Term) c (more_of-Term f end_of-Term)) = operation o (interval e) (interval f)
    interval (t.Move' b (more_of-Term e end_of-Term) c (more_of-Term f end_of-Term) size) = sum (interval e) (times_size (interval f) size)
    interval (t.AtPre q u) = interval_of_type u
    interval t.Accessed = any_offset
    interval (t.Parameter f i) = interval_if_any (a.parameter_type f i)
    interval (t.Result f) = interval_if_any (a.result_type f)

    -- of the offset of what a place designates
    pub interval_of_place : TermPlace → Interval
    interval_of_place (p.Own v) = alone (pos 0)
    interval_of_place (p.Deref' b (more_of-Term e end_of-Term)) = interval e
    interval_of_place (p.Member' b (more_of-TermPlace q end_of-TermPlace) o) = sum (interval_of_place q) (alone (pos o))
    interval_of_place (p.Index' b (more_of-TermPlace q end_of-TermPlace) c (more_of-Term e end_of-Term) size) = sum (interval_of_place q) (times_size (interval e) size)

  -- ---- the limit

  abbrev mutual
    -- the term, its parts and their products keep the limit
    pub TermLimited : Term → Type 0
    TermLimited (t.Load q u) = IsLimited (interval (t.Load q u)) × PlaceLimited q
    TermLimited (t.Address q u) = PlaceLimited q
    TermLimited (t.Neg' b (more_of-Term e end_of-Term)) = IsLimited (interval (t.Neg' b (more_of-Term e end_of-Term))) × TermLimited e
    TermLimited (t.Arith' o b (more_of-Term e end_of-Term) c (more_of-Term f end_of-Term)) =
        IsLimited (interval (t.Arith' o b (more_of-Term e end_of-Term) c (more_of-Term f end_of-Term))) × TermLimited e × TermLimited f
    TermLimited (t.Move' b (more_of-Term e end_of-Term) c (more_of-Term f end_of-Term) size) =
        IsLimited (interval (t.Move' b (more_of-Term e end_of-Term) c (more_of-Term f end_of-Term) size)) × IsLimited (times_size (interval f) size) × TermLimited e × TermLimited f
    TermLimited (t.AtPre q u) = IsLimited (interval (t.AtPre q u)) × PlaceLimited q
    TermLimited e = IsLimited (interval e)

    -- the offset of what a place designates, and the parts of the place
    pub PlaceLimited : TermPlace → Type 0
    PlaceLimited (p.Own v) = Unit {0}
    PlaceLimited (p.Deref' b (more_of-Term e end_of-Term)) = TermLimited e
    PlaceLimited (p.Member' b (more_of-TermPlace q end_of-TermPlace) o) = IsLimited (interval_of_place (p.Member' b (more_of-TermPlace q end_of-TermPlace) o)) × PlaceLimited q
    PlaceLimited (p.Index' b (more_of-TermPlace q end_of-TermPlace) c (more_of-Term e end_of-Term) size) =
        IsLimited (interval_of_place (p.Index' b (more_of-TermPlace q end_of-TermPlace) c (more_of-Term e end_of-Term) size)) × IsLimited (times_size (interval e) size) × PlaceLimited q × TermLimited e

  -- the cells of `p + (a .. b)` have the offsets of p plus a objects and plus b + 1 objects
  abbrev pub SpanLimited : Interval → Interval → Interval → ℕ → Type 0
  SpanLimited i from to size =
      let first = times_size from size in
      let past = times_size (sum to (alone (pos 1))) size in
      IsLimited first × IsLimited past × IsLimited (sum i first) × IsLimited (sum i past)

  -- the limit of a location's ends is that of a range alone
  abbrev pub RangeLimited : Interval → Option (Term × Term) → ℕ → Type 0
  RangeLimited i None size = Unit {0}
  RangeLimited i (Some e) size = TermLimited e.0 × TermLimited e.1 × SpanLimited i (interval e.0) (interval e.1) size

  abbrev pub LocationLimited : List Layout → Location → Type 0
  LocationLimited layouts l = TermLimited l.base × RangeLimited (interval l.base) l.span (denoted_size layouts l.ctype)

  -- each term and each location of the predicate keeps the limit
  abbrev mutual
    pub PredicateLimited : List Layout → Predicate → Type 0
    PredicateLimited layouts (Not' b (more_of-Predicate r end_of-Predicate)) = PredicateLimited layouts r
    PredicateLimited layouts (And' b (more_of-Predicate q end_of-Predicate) c (more_of-Predicate r end_of-Predicate)) = PredicateLimited layouts q × PredicateLimited layouts r
    PredicateLimited layouts (Or' b (more_of-Predicate q end_of-Predicate) c (more_of-Predicate r end_of-Predicate)) = PredicateLimited layouts q × PredicateLimited layouts r
    PredicateLimited layouts (Implies' b (more_of-Predicate q end_of-Predicate) c (more_of-Predicate r end_of-Predicate)) = PredicateLimited layouts q × PredicateLimited layouts r
    PredicateLimited layouts (Iff' b (more_of-Predicate q end_of-Predicate) c (more_of-Predicate r end_of-Predicate)) = PredicateLimited layouts q × PredicateLimited layouts r
    PredicateLimited layouts (Relation c e f) = TermLimited e × TermLimited f
    PredicateLimited layouts (Valid l) = LocationLimited layouts l
    PredicateLimited layouts (Separated ls) = AllByRecursion (LocationLimited layouts) ls
    PredicateLimited layouts _ = Unit {0}
