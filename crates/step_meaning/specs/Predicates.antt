-- The truth of predicates (ACSL, predicates; memory locations; `\valid`, `\separated`).
-- A relation over an undefined term is false, `!=` included; the connectives are two-valued. Order of pointers to different variables, or of null and a pointer to a variable, is false.
use Rattle.std.specs.Prelude.{ℕ, zero, suc, nat_lt, ◌^◌, Bool, true, false, ◌&&◌, ◌||◌, not, cond, if◌then◌else◌, ◌==◌, ℤ, pos, negsuc, ◌+ℤ◌, ◌-ℤ◌, ◌*ℤ◌, List, [], ◌∷◌, ◌++◌, length, map, Option, Some, None, option_map, is_some}
use Rattle.step_meaning.specs.declared.value.CType.{CType}
use Rattle.step_meaning.specs.declared.value.CType.TheVariants.{Void}
use Rattle.step_meaning.specs.declared.value.Name.{Name}
use Rattle.step_meaning.specs.declared.expr.CompareOp.{CompareOp}
use Rattle.step_meaning.specs.declared.expr.CompareOp.TheVariants as comparing
use Rattle.step_meaning.specs.declared.predicate.Term.{Term}
use Rattle.step_meaning.specs.declared.predicate.Location.{Location}
use Rattle.step_meaning.specs.declared.predicate.EventKind.{EventKind}
use Rattle.step_meaning.specs.declared.predicate.EventKind.TheVariants as kind
use Rattle.step_meaning.specs.declared.predicate.Event.{Event}
use Rattle.step_meaning.specs.declared.predicate.Event.TheVariants as event
use Rattle.step_meaning.specs.declared.predicate.Predicate.{Predicate, end_of-Predicate, more_of-Predicate}
use Rattle.step_meaning.specs.declared.predicate.Predicate.TheVariants.{True, False, Not', And', Or', Implies', Iff', Relation, Valid, Separated, Called, Event as IsEvent}
use Rattle.step_meaning.specs.declared.program.Layout.{Layout}
use Rattle.step_meaning.specs.Numbers.{compared_integers}
use Rattle.step_meaning.specs.Names.{same_name}
use Rattle.step_meaning.specs.Types.{object_cells}
use Rattle.step_meaning.specs.Views.{Sight, now}
use Rattle.step_meaning.specs.Terms.{TermValue, Number, NullPointer, PointerInto, value_of}

-- ---- relations

abbrev pub is_unequal : CompareOp → Bool
is_unequal comparing.Unequal = true
is_unequal _ = false

-- the relation of two values: integers by their numbers, null and null as equal pointers, pointers into one variable by their offsets; all others are unequal and have no order
abbrev pub related_values : CompareOp → TermValue → TermValue → Bool
related_values c (Number a) (Number b) = compared_integers c a b
related_values c NullPointer NullPointer = compared_integers c (pos 0) (pos 0)
related_values c (PointerInto n o) (PointerInto m i) = if same_name n m then compared_integers c o i else is_unequal c
related_values c _ _ = is_unequal c

abbrev pub related : CompareOp → Option TermValue → Option TermValue → Bool
related c (Some a) (Some b) = related_values c a b
related c _ _ = false

-- ---- locations

-- a cell that a location denotes, and its scalar type in the object
pub record Denoted : Type 0 where
  pub name : Name
  pub offset : ℤ
  pub ctype : CType

-- the types of an object's cells; `void` stands for one cell of no known type
abbrev pub denoted_types : List Layout → CType → List CType
denoted_types layouts Void = Void ∷ []
denoted_types layouts u = object_cells layouts u

-- the cells of an object at a pointer, by which the pointer moves
abbrev pub denoted_size : List Layout → CType → ℕ
denoted_size layouts u = length (denoted_types layouts u)

-- the cells of an object with these cell types from an offset on
abbrev pub object_at : Name → ℤ → List CType → List Denoted
object_at n o [] = []
object_at n o (u ∷ us) = record { name = n; offset = o; ctype = u } ∷ object_at n (o +ℤ pos 1) us

-- so many such objects, one after the other
abbrev pub objects_at : Name → ℤ → List CType → ℕ → List Denoted
objects_at n o us zero = []
objects_at n o us (suc count) = object_at n o us ++ objects_at n (o +ℤ pos (length us)) us count

-- the number of whole numbers from a to b
abbrev pub count_from_to : ℤ → ℤ → ℕ
count_from_to a b = at_least_zero ((b -ℤ a) +ℤ pos 1)
  where
    at_least_zero : ℤ → ℕ
    at_least_zero (pos n) = n
    at_least_zero (negsuc n) = 0

-- the cells of the objects from a to b at a pointer, none where a is above b; null denotes no cells
abbrev pub objects_from : TermValue → ℤ → ℤ → List CType → Option (List Denoted)
objects_from (PointerInto n o) a b us = Some (objects_at n (o +ℤ (a *ℤ pos (length us))) us (count_from_to a b))
objects_from NullPointer a b us = Some []
objects_from (Number z) a b us = None

abbrev pub objects_between : Option TermValue → Option TermValue → Option TermValue → List CType → Option (List Denoted)
objects_between (Some base) (Some (Number a)) (Some (Number b)) us = objects_from base a b us
objects_between _ _ _ us = None

-- the cells that a location denotes, and none where one of its terms is undefined. Without a range it denotes the object pointed to
abbrev pub in_span : Sight → Option TermValue → Option (Term × Term) → List CType → Option (List Denoted)
in_span s base None us = objects_between base (Some (Number (pos 0))) (Some (Number (pos 0))) us
in_span s base (Some e) us = objects_between base (value_of s e.0) (value_of s e.1) us

abbrev pub denoted : Sight → Location → Option (List Denoted)
denoted s l = in_span s (value_of s l.base) l.span (denoted_types s.layouts l.ctype)

-- ---- `\separated`: the locations are defined and have no cell in common, pair by pair. Whether the cells are live doesn't matter

abbrev pub same_cell : Denoted → Denoted → Bool
same_cell c d = same_name c.name d.name && compared_integers comparing.Equal c.offset d.offset

abbrev pub is_among : Denoted → List Denoted → Bool
is_among c [] = false
is_among c (d ∷ ds) = same_cell c d || is_among c ds

abbrev pub are_disjoint : List Denoted → List Denoted → Bool
are_disjoint [] ds = true
are_disjoint (c ∷ cs) ds = not (is_among c ds) && are_disjoint cs ds

-- a location is disjoint from each of the others
abbrev pub is_disjoint_from_all : List Denoted → List (List Denoted) → Bool
is_disjoint_from_all cs [] = true
is_disjoint_from_all cs (ds ∷ more) = are_disjoint cs ds && is_disjoint_from_all cs more

-- each location is disjoint from each later one
abbrev pub are_disjoint_in_pairs : List (List Denoted) → Bool
are_disjoint_in_pairs [] = true
are_disjoint_in_pairs (cs ∷ more) = is_disjoint_from_all cs more && are_disjoint_in_pairs more

abbrev pub all_defined : {A : Type 0} → List (Option A) → Option (List A)
all_defined [] = Some []
all_defined (None ∷ os) = None
all_defined (Some a ∷ os) = option_map (λ more. a ∷ more) (all_defined os)

abbrev pub when_defined : {A : Type 0} → (A → Bool) → Option A → Bool
when_defined f None = false
when_defined f (Some a) = f a

-- ---- `\valid` and `\valid_read`: the location is defined, its pointer isn't null, and each cell may be accessed at its type

abbrev pub may_access_at : Sight → Name → ℤ → CType → Bool
may_access_at s n (pos o) u = nat_lt o (2 ^ 32) && is_some (now s n o u)
may_access_at s n (negsuc o) u = false

abbrev pub may_access_all : Sight → List Denoted → Bool
may_access_all s [] = true
may_access_all s (c ∷ cs) = may_access_at s c.name c.offset c.ctype && may_access_all s cs

abbrev pub is_null : Option TermValue → Bool
is_null (Some NullPointer) = true
is_null _ = false

abbrev pub is_valid : Sight → Location → Bool
is_valid s l = not (is_null (value_of s l.base)) && when_defined (may_access_all s) (denoted s l)

-- ---- the function called, and events

-- `\called == f`, or `\called != f` where the flag is false: both are false at a step that calls no function
abbrev pub is_called : ℕ → Bool → Option ℕ → Bool
is_called f flag None = false
is_called f flag (Some g) = cond flag (f == g) (not (f == g))

-- `CALL(f)` holds at an Enter of f, `RETURN(f)` at a Return of f, `COR(f)` at both
abbrev pub is_event : EventKind → ℕ → Event → Bool
is_event kind.Call f (event.Enter g) = f == g
is_event kind.Return f (event.Return g) = f == g
is_event kind.Either f (event.Enter g) = f == g
is_event kind.Either f (event.Return g) = f == g
is_event _ f _ = false

-- ---- predicates

module _ (s : Sight) where
  abbrev mutual
    pub holds : Predicate → Bool
    holds True = true
    holds False = false
    holds (Not' b (more_of-Predicate r end_of-Predicate)) = not (holds r)
    holds (And' b (more_of-Predicate q end_of-Predicate) c (more_of-Predicate r end_of-Predicate)) = holds q && holds r
    holds (Or' b (more_of-Predicate q end_of-Predicate) c (more_of-Predicate r end_of-Predicate)) = holds q || holds r
    holds (Implies' b (more_of-Predicate q end_of-Predicate) c (more_of-Predicate r end_of-Predicate)) = not (holds q) || holds r
    holds (Iff' b (more_of-Predicate q end_of-Predicate) c (more_of-Predicate r end_of-Predicate)) = cond (holds q) (holds r) (not (holds r))
    holds (Relation c e f) = related c (value_of s e) (value_of s f)
    holds (Valid l) = is_valid s l
    holds (Separated ls) = when_defined are_disjoint_in_pairs (all_defined (map (denoted s) ls))
    holds (Called f flag) = is_called f flag s.called
    holds (IsEvent k f) = is_event k f s.event
