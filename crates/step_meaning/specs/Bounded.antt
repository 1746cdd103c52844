-- When a predicate or term is bounded in a view: each integer term in it that is defined there, and each offset in cells with the products that it is made of, lies from -(2 ^ 127 - 1) to 2 ^ 127 - 1.
-- The rules on predicates see to this for every text that is accepted; the evaluation of predicates relies on it.
use Rattle.std.specs.Prelude.{ℕ, ◌-◌, ◌^◌, ◌≤ℤ◌, ℤ, pos, ◌+ℤ◌, ◌*ℤ◌, neg_ℤ, All, Option, Some, None}
use Rattle.step_meaning.specs.declared.predicate.Term.{Term, end_of-Term, more_of-Term}
use Rattle.step_meaning.specs.declared.predicate.Term.TheVariants as t
use Rattle.step_meaning.specs.declared.predicate.TermPlace.{TermPlace, end_of-TermPlace, more_of-TermPlace}
use Rattle.step_meaning.specs.declared.predicate.TermPlace.TheVariants as p
use Rattle.step_meaning.specs.declared.predicate.Location.{Location}
use Rattle.step_meaning.specs.declared.predicate.Predicate.{Predicate, end_of-Predicate, more_of-Predicate}
use Rattle.step_meaning.specs.declared.predicate.Predicate.TheVariants.{Not', And', Or', Implies', Iff', Relation, Valid, Separated}
use Rattle.step_meaning.specs.Views.{Sight, Reads, now, at_enter}
use Rattle.step_meaning.specs.Terms.{TermValue, Number, NullPointer, PointerInto, value_by, place_by, value_of}
use Rattle.step_meaning.specs.Predicates.{denoted_size}

abbrev pub IsWithin : ℤ → Type 0
IsWithin z = (neg_ℤ (pos (2 ^ 127 - 1)) ≤ℤ z) × (z ≤ℤ pos (2 ^ 127 - 1))

-- an integer, or the offset of a pointer
abbrev pub IsValueWithin : TermValue → Type 0
IsValueWithin (Number z) = IsWithin z
IsValueWithin NullPointer = Unit {0}
IsValueWithin (PointerInto n o) = IsWithin o

abbrev pub WhereDefined : Option TermValue → Type 0
WhereDefined None = Unit {0}
WhereDefined (Some v) = IsValueWithin v

-- a number of elements of so many cells
abbrev pub IsProductWithin : Option TermValue → ℕ → Type 0
IsProductWithin (Some (Number i)) size = IsWithin (i *ℤ pos size)
IsProductWithin _ size = Unit {0}

module _ (s : Sight) where
  abbrev mutual
    -- the parts of a term, which reads a memory in this way
    pub PartsBounded : Term → Reads → Type 0
    PartsBounded (t.Load q u) reads = PlaceBounded q reads
    PartsBounded (t.Address q u) reads = PlaceBounded q reads
    PartsBounded (t.Neg' b (more_of-Term e end_of-Term)) reads = WhereDefined (value_by s e reads) × PartsBounded e reads
    PartsBounded (t.Arith' o b (more_of-Term e end_of-Term) c (more_of-Term f end_of-Term)) reads =
        (WhereDefined (value_by s e reads) × PartsBounded e reads) × (WhereDefined (value_by s f reads) × PartsBounded f reads)
    PartsBounded (t.Move' b (more_of-Term e end_of-Term) c (more_of-Term f end_of-Term) size) reads =
        (WhereDefined (value_by s e reads) × PartsBounded e reads) × (WhereDefined (value_by s f reads) × PartsBounded f reads) × IsProductWithin (value_by s f reads) size
    PartsBounded (t.AtPre q u) reads = PlaceBounded q (at_enter s)
    PartsBounded _ reads = Unit {0}

    -- the pointer to what a place designates, and the parts of the place
    pub PlaceBounded : TermPlace → Reads → Type 0
    PlaceBounded (p.Own v) reads = Unit {0}
    PlaceBounded (p.Deref' b (more_of-Term e end_of-Term)) reads = WhereDefined (value_by s e reads) × PartsBounded e reads
    PlaceBounded (p.Member' b (more_of-TermPlace q end_of-TermPlace) o) reads = WhereDefined (place_by s (p.Member' b (more_of-TermPlace q end_of-TermPlace) o) reads) × PlaceBounded q reads
    PlaceBounded (p.Index' b (more_of-TermPlace q end_of-TermPlace) c (more_of-Term e end_of-Term) size) reads =
        WhereDefined (place_by s (p.Index' b (more_of-TermPlace q end_of-TermPlace) c (more_of-Term e end_of-Term) size) reads)
        × PlaceBounded q reads × (WhereDefined (value_by s e reads) × PartsBounded e reads) × IsProductWithin (value_by s e reads) size

  -- a term with its parts
  abbrev pub TermBounded : Term → Reads → Type 0
  TermBounded e reads = WhereDefined (value_by s e reads) × PartsBounded e reads

  -- the cells of a location `p + (a .. b)` have the offsets from p plus a objects up to p plus b + 1 objects
  abbrev pub EndsWithin : Option TermValue → Option TermValue → Option TermValue → ℕ → Type 0
  EndsWithin (Some (PointerInto n o)) (Some (Number a)) (Some (Number b)) size =
      IsWithin (a *ℤ pos size) × IsWithin ((b +ℤ pos 1) *ℤ pos size) × IsWithin (o +ℤ (a *ℤ pos size)) × IsWithin (o +ℤ ((b +ℤ pos 1) *ℤ pos size))
  EndsWithin _ _ _ size = Unit {0}

  abbrev pub SpanBounded : Option TermValue → Option (Term × Term) → ℕ → Type 0
  SpanBounded base None size = Unit {0}
  SpanBounded base (Some e) size = TermBounded e.0 (now s) × TermBounded e.1 (now s) × EndsWithin base (value_of s e.0) (value_of s e.1) size

  abbrev pub LocationBounded : Location → Type 0
  LocationBounded l = TermBounded l.base (now s) × SpanBounded (value_of s l.base) l.span (denoted_size s.layouts l.ctype)

  abbrev mutual
    pub IsBounded : Predicate → Type 0
    IsBounded (Not' b (more_of-Predicate r end_of-Predicate)) = IsBounded r
    IsBounded (And' b (more_of-Predicate q end_of-Predicate) c (more_of-Predicate r end_of-Predicate)) = IsBounded q × IsBounded r
    IsBounded (Or' b (more_of-Predicate q end_of-Predicate) c (more_of-Predicate r end_of-Predicate)) = IsBounded q × IsBounded r
    IsBounded (Implies' b (more_of-Predicate q end_of-Predicate) c (more_of-Predicate r end_of-Predicate)) = IsBounded q × IsBounded r
    IsBounded (Iff' b (more_of-Predicate q end_of-Predicate) c (more_of-Predicate r end_of-Predicate)) = IsBounded q × IsBounded r
    IsBounded (Relation c e f) = TermBounded e (now s) × TermBounded f (now s)
    IsBounded (Valid l) = LocationBounded l
    IsBounded (Separated ls) = All LocationBounded ls
    IsBounded _ = Unit {0}
