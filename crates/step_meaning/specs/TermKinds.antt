-- Kinds of terms, places, locations and predicates (ACSL, terms; typing; memory locations): a term is an integer or a pointer to a type, and null is a pointer to any type.
-- A term or place that breaks a rule has no kind.
use Rattle.std.specs.Prelude.{◌≡◌, ◌⊎◌, ℕ, ◌≤◌, ◌^◌, nat_lt, Bool, true, false, not, ◌&&◌, ◌||◌, if◌then◌else◌, ◌==◌, ℤ, pos, negsuc, IsTrue, List, length, Option, Some, None, option_and_then}
use Rattle.std.specs.List.{AllByRecursion}
use Rattle.step_meaning.specs.declared.value.CType.{CType, end_of-CType, more_of-CType}
use Rattle.step_meaning.specs.declared.value.CType.TheVariants as type
use Rattle.step_meaning.specs.declared.value.NameKind.{NameKind}
use Rattle.step_meaning.specs.declared.value.NameKind.TheVariants as names
use Rattle.step_meaning.specs.declared.expr.IntOp.{IntOp}
use Rattle.step_meaning.specs.declared.expr.IntOp.TheVariants as op
use Rattle.step_meaning.specs.declared.expr.CompareOp.{CompareOp}
use Rattle.step_meaning.specs.declared.expr.CompareOp.TheVariants as comparing
use Rattle.step_meaning.specs.declared.predicate.Term.{Term, end_of-Term, more_of-Term}
use Rattle.step_meaning.specs.declared.predicate.Term.TheVariants as t
use Rattle.step_meaning.specs.declared.predicate.TermPlace.{TermPlace, end_of-TermPlace, more_of-TermPlace}
use Rattle.step_meaning.specs.declared.predicate.TermPlace.TheVariants as p
use Rattle.step_meaning.specs.declared.predicate.Location.{Location}
use Rattle.step_meaning.specs.declared.predicate.Predicate.{Predicate, end_of-Predicate, more_of-Predicate}
use Rattle.step_meaning.specs.declared.predicate.Predicate.TheVariants.{True, False, Not', And', Or', Implies', Iff', Relation, Valid, Separated, Called, Event as IsEvent}
use Rattle.step_meaning.specs.declared.program.Layout.{Layout}
use Rattle.step_meaning.specs.Names.{is_register_variable}
use Rattle.step_meaning.specs.Types.{same_type, where_true}
use Rattle.step_meaning.specs.TypeRules.{member_type, element_type}
use Rattle.step_meaning.specs.Predicates.{denoted_size}
use Rattle.step_meaning.specs.Settings.{Setting, variable_type}
use Rattle.step_meaning.specs.Allowances.{Allowed}

pub data Kind : Type 0 where
  Integer : Kind
  -- a pointer to an object of the type
  PointerTo : CType → Kind
  -- `\null`, and the literal 0 beside a pointer
  AnyNull : Kind
  -- `\written` or `\read`: the type of the object isn't known
  OfAccess : Kind

-- what is read or given as a value of this type: an integer or a pointer, and no array or struct
abbrev pub kind_of_type : CType → Option Kind
kind_of_type (type.Int k) = Some Integer
kind_of_type (type.Pointer' b (more_of-CType u end_of-CType)) = Some (PointerTo u)
kind_of_type _ = None

abbrev pub is_integer : Option Kind → Bool
is_integer (Some Integer) = true
is_integer _ = false

-- ---- objects

-- `[ ]` takes an array, whose elements have so many cells, and an integer (C11 6.5.2.1)
abbrev pub indexed_type : List Layout → ℕ → Option CType → Option Kind → Option CType
indexed_type layouts size a i = if is_integer i then option_and_then (λ u. element_type layouts u size) a else None

-- `*` takes a pointer to an object (C11 6.5.3.2), and no pointer to `void`
abbrev pub pointed_type : Kind → Option CType
pointed_type (PointerTo type.Void) = None
pointed_type (PointerTo u) = Some u
pointed_type _ = None

-- an address has the type of the place, or, of an array as a value, that of its first element (C11 6.3.2.1, 3)
abbrev pub is_address_type : CType → CType → Bool
is_address_type (type.Array' b (more_of-CType u end_of-CType) n) w = same_type (type.Array' b (more_of-CType u end_of-CType) n) w || same_type u w
is_address_type u w = same_type u w

-- ---- operators

-- `+`, `-`, `*`, `/` and `%` on integers; terms have no other operators
abbrev pub is_term_operator : IntOp → Bool
is_term_operator op.Add = true
is_term_operator op.Sub = true
is_term_operator op.Mul = true
is_term_operator op.Div = true
is_term_operator op.Rem = true
is_term_operator _ = false

abbrev pub kind_of_negation : Option Kind → Option Kind
kind_of_negation (Some Integer) = Some Integer
kind_of_negation _ = None

abbrev pub kind_of_operation : IntOp → Option Kind → Option Kind → Option Kind
kind_of_operation o (Some Integer) (Some Integer) = where_true (is_term_operator o) Integer
kind_of_operation o _ _ = None

-- a pointer plus an integer, in objects of so many cells; null stands for a pointer to `void`, whose objects have one
abbrev pub kind_of_move : List Layout → Option Kind → Option Kind → ℕ → Option Kind
kind_of_move layouts (Some (PointerTo u)) (Some Integer) size = where_true (denoted_size layouts u == size) (PointerTo u)
kind_of_move layouts (Some AnyNull) (Some Integer) size = where_true (denoted_size layouts type.Void == size) (PointerTo type.Void)
kind_of_move layouts _ _ size = None

-- an integer constant of a term: 0 to 2 ^ 64 - 1
abbrev pub is_constant : ℤ → Bool
is_constant (pos n) = nat_lt n (2 ^ 64)
is_constant (negsuc n) = false

-- a register has no address (C11 6.7.1, 6)
abbrev pub is_register_place : TermPlace → Bool
is_register_place (p.Own v) = is_register_variable v
is_register_place _ = false

-- a literal index of an array that is in its range
abbrev pub is_literal_index : Option CType → Term → Bool
is_literal_index (Some (type.Array' b u n)) (t.Int (pos i)) = nat_lt i n
is_literal_index _ e = false

abbrev pub is_file_variable : NameKind → Bool
is_file_variable names.Global = true
is_file_variable _ = false

-- ---- terms and places

module _ (g : Setting) (a : Allowed) where
  abbrev pub address_kind : Bool → Option CType → CType → Option Kind
  address_kind no_address (Some u) w = where_true (not no_address && is_address_type u w) (PointerTo w)
  address_kind no_address None w = None

  -- a read gives an integer or a pointer, of the place's type
  abbrev pub kind_of_read : Option CType → CType → Option Kind
  kind_of_read (Some u) w = if same_type u w then kind_of_type w else None
  kind_of_read None w = None

  abbrev mutual
    pub term_kind : Term → Option Kind
    term_kind (t.Int z) = where_true (is_constant z) Integer
    term_kind t.Null = Some AnyNull
    term_kind (t.Load q w) = kind_of_read (place_type q) w
    term_kind (t.Address q w) = address_kind (is_register_place q) (place_type q) w
    term_kind (t.Neg' b (more_of-Term e end_of-Term)) = kind_of_negation (term_kind e)
    term_kind (t.Arith' o b (more_of-Term e end_of-Term) c (more_of-Term f end_of-Term)) = kind_of_operation o (term_kind e) (term_kind f)
    term_kind (t.Move' b (more_of-Term e end_of-Term) c (more_of-Term f end_of-Term) size) = kind_of_move g.layouts (term_kind e) (term_kind f) size
    term_kind (t.AtPre q w) = if a.at_enter && is_fixed_place q then kind_of_read (place_type q) w else None
    term_kind t.Accessed = where_true a.accessed OfAccess
    term_kind (t.Parameter f i) = option_and_then kind_of_type (a.parameter_type f i)
    term_kind (t.Result f) = option_and_then kind_of_type (a.result_type f)

    -- the type of what a place designates
    pub place_type : TermPlace → Option CType
    place_type (p.Own v) = variable_type g v
    place_type (p.Deref' b (more_of-Term e end_of-Term)) = option_and_then pointed_type (term_kind e)
    place_type (p.Member' b (more_of-TermPlace q end_of-TermPlace) o) = option_and_then (λ u. member_type g.layouts u o) (place_type q)
    place_type (p.Index' b (more_of-TermPlace q end_of-TermPlace) c (more_of-Term e end_of-Term) size) = indexed_type g.layouts size (place_type q) (term_kind e)

    -- the inside of `\at(.., Pre)`: a variable of file scope with members and literal indices in range
    pub is_fixed_place : TermPlace → Bool
    is_fixed_place (p.Own v) = is_file_variable v.kind
    is_fixed_place (p.Member' b (more_of-TermPlace q end_of-TermPlace) o) = is_fixed_place q
    is_fixed_place (p.Index' b (more_of-TermPlace q end_of-TermPlace) c (more_of-Term e end_of-Term) size) = is_fixed_place q && is_literal_index (place_type q) e
    is_fixed_place _ = false

  -- ---- relations

  abbrev pub is_pointer : Kind → Bool
  is_pointer Integer = false
  is_pointer _ = true

  -- `==` and `!=` take two integers or two pointers, to whatever types
  abbrev pub may_equal : Kind → Kind → Bool
  may_equal Integer Integer = true
  may_equal k l = is_pointer k && is_pointer l

  -- `<` and the like take two integers, or two pointers to one type; the literal 0 is of any
  abbrev pub may_order : Kind → Kind → Bool
  may_order Integer Integer = true
  may_order (PointerTo u) (PointerTo w) = same_type u w
  may_order (PointerTo u) AnyNull = true
  may_order AnyNull (PointerTo w) = true
  may_order AnyNull AnyNull = true
  may_order _ _ = false

  abbrev pub may_relate : CompareOp → Kind → Kind → Bool
  may_relate comparing.Equal k l = may_equal k l
  may_relate comparing.Unequal k l = may_equal k l
  may_relate _ k l = may_order k l

  abbrev pub RelationFits : CompareOp → Option Kind → Option Kind → Type 0
  RelationFits c (Some k) (Some l) = IsTrue (may_relate c k l)
  RelationFits c _ _ = ⊥

  -- ---- locations: the objects of its type at a pointer

  -- the type of the objects; `void` where it isn't known
  abbrev pub IsObjectType : Option Kind → CType → Type 0
  IsObjectType (Some (PointerTo u)) w = IsTrue (same_type u w)
  IsObjectType (Some AnyNull) w = IsTrue (same_type type.Void w)
  IsObjectType _ w = ⊥

  abbrev pub IsIntegerTerm : Term → Type 0
  IsIntegerTerm e = term_kind e ≡ Some Integer

  -- the ends of a range are integers
  abbrev pub RangeFits : Option (Term × Term) → Type 0
  RangeFits None = Unit {0}
  RangeFits (Some e) = IsIntegerTerm e.0 × IsIntegerTerm e.1

  abbrev pub LocationFits : Location → Type 0
  LocationFits l = IsObjectType (term_kind l.base) l.ctype × RangeFits l.span

  abbrev pub IsWholeAccess : Location → Type 0
  IsWholeAccess l = (term_kind l.base ≡ Some OfAccess) × (l.ctype ≡ type.Void) × (l.span ≡ None)

  -- a location of `\separated` may be `\written` or `\read` too, without a range
  abbrev pub SeparableFits : Location → Type 0
  SeparableFits l = LocationFits l ⊎ IsWholeAccess l

  -- ---- predicates

  abbrev mutual
    pub PredicateKinds : Predicate → Type 0
    PredicateKinds True = Unit {0}
    PredicateKinds False = Unit {0}
    PredicateKinds (Not' b (more_of-Predicate r end_of-Predicate)) = PredicateKinds r
    PredicateKinds (And' b (more_of-Predicate q end_of-Predicate) c (more_of-Predicate r end_of-Predicate)) = PredicateKinds q × PredicateKinds r
    PredicateKinds (Or' b (more_of-Predicate q end_of-Predicate) c (more_of-Predicate r end_of-Predicate)) = PredicateKinds q × PredicateKinds r
    PredicateKinds (Implies' b (more_of-Predicate q end_of-Predicate) c (more_of-Predicate r end_of-Predicate)) = PredicateKinds q × PredicateKinds r
    PredicateKinds (Iff' b (more_of-Predicate q end_of-Predicate) c (more_of-Predicate r end_of-Predicate)) = PredicateKinds q × PredicateKinds r
    PredicateKinds (Relation c e f) = RelationFits c (term_kind e) (term_kind f)
    PredicateKinds (Valid l) = LocationFits l
    -- two locations or more
    PredicateKinds (Separated ls) = (2 ≤ length ls) × AllByRecursion SeparableFits ls
    PredicateKinds (Called f flag) = IsTrue (a.called f)
    PredicateKinds (IsEvent k f) = IsTrue (a.event f)
