-- The rules on terms, locations and predicates, each on the parts that it is made of (ACSL, terms; predicates; memory locations; `\at`; MetAcsl, meta variables; Aoraï manual, Ya).
use Rattle.std.specs.Prelude.{ℕ, ◌^◌, ◌==◌, nat_lt, Bool, true, false, not, ◌&&◌, ◌||◌, if◌then◌else◌, ℤ, pos, List, [], ◌∷◌, take, sum_by, position, slice_get, codes, Option, Some, None, option_map, option_and_then, Ok, Err}
use Rattle.std.specs.Str.{bytes_eq}
use Rattle.c_lexer.specs.declared.token.Place.{Place}
use Rattle.c_lexer.specs.Numbers.{number_value}
use Rattle.c_lexer.specs.Lexemes.{character_value}
use Rattle.c_words.specs.declared.word.Word.{Word}
use Rattle.c_words.specs.declared.word.Word.TheVariants as w
use Rattle.c_words.specs.declared.word.Leaf.{Leaf}
use Rattle.c_words.specs.Words.{bytes_of}
use Rattle.step_meaning.specs.declared.value.CType.{CType, end_of-CType, more_of-CType}
use Rattle.step_meaning.specs.declared.value.CType.TheVariants as type
use Rattle.step_meaning.specs.declared.value.NameKind.{NameKind}
use Rattle.step_meaning.specs.declared.value.NameKind.TheVariants as names
use Rattle.step_meaning.specs.declared.expr.IntOp.{IntOp}
use Rattle.step_meaning.specs.declared.expr.IntOp.TheVariants as op
use Rattle.step_meaning.specs.declared.expr.CompareOp.{CompareOp}
use Rattle.step_meaning.specs.declared.expr.CompareOp.TheVariants as comparing
use Rattle.step_meaning.specs.declared.predicate.Term.{Term, end_of-Term, more_of-Term}
use Rattle.step_meaning.specs.declared.predicate.Term.TheVariants as t
use Rattle.step_meaning.specs.declared.predicate.TermPlace.{TermPlace, end_of-TermPlace, more_of-TermPlace}
use Rattle.step_meaning.specs.declared.predicate.TermPlace.TheVariants as p
use Rattle.step_meaning.specs.declared.predicate.Location.{Location}
use Rattle.step_meaning.specs.declared.predicate.EventKind.{EventKind}
use Rattle.step_meaning.specs.declared.predicate.EventKind.TheVariants as event
use Rattle.step_meaning.specs.declared.predicate.Predicate.{Predicate}
use Rattle.step_meaning.specs.declared.predicate.Predicate.TheVariants as q
use Rattle.step_meaning.specs.declared.program.Core.{Core}
use Rattle.step_meaning.specs.declared.program.Declared.{Declared}
use Rattle.step_meaning.specs.declared.program.Function.{Function}
use Rattle.step_meaning.specs.declared.program.Layout.{Layout}
use Rattle.step_meaning.specs.Names.{is_register_variable}
use Rattle.step_meaning.specs.Types.{same_type}
use Rattle.step_meaning.specs.TypeRules.{cells}
use Rattle.step_meaning.specs.ExpressionTypes.{is_void}
use Rattle.step_meaning.specs.Predicates.{denoted_size}
use Rattle.step_meaning.specs.Intervals.{Interval, alone, from_to, any_offset, interval_of_type, negated, sum, times_size, operation}
use Rattle.acsl_rules.specs.declared.fault.TermFault.TheVariants as fault
use Rattle.acsl_rules.specs.declared.scope.Context.{Context}
use Rattle.acsl_rules.specs.declared.scope.Context.TheVariants as context
use Rattle.acsl_rules.specs.declared.scope.ScopeKind.{ScopeKind}
use Rattle.acsl_rules.specs.declared.scope.ScopeKind.TheVariants as in_
use Rattle.acsl_rules.specs.declared.scope.Entry.{Entry}
use Rattle.acsl_rules.specs.Checked.{Checked, ◌>>=◌, kept, where_kept}
use Rattle.acsl_rules.specs.Parts.{What, Lvalue, AnInteger, APointer, AnAccess, TheCalled, AFunction, AnAddress, Part, part, made_with, limited, is_limited, held, value}

-- what is known where a term or predicate stands
pub record Known : Type 0 where
  pub text : List ℕ
  pub kind : ScopeKind
  pub entries : List Entry
  pub core : Core

abbrev pub place_of : Leaf → Place
place_of l = l.token.place

abbrev pub bytes_in : Known → Leaf → List ℕ
bytes_in s l = bytes_of s.text l.token

-- ---- names and constants

abbrev pub function_number : Known → Leaf → Option ℕ
function_number s l = position (λ f. bytes_eq (bytes_in s l) f.name) s.core.functions

abbrev pub variable_part : Place → Option Entry → Option ℕ → Checked Part
variable_part at (Some e) f = Ok (part at (Lvalue (p.Own e.variable) e.ctype (alone (pos 0))))
variable_part at None (Some f) = Ok (part at (AFunction f))
variable_part at None None = Err (fault.Unknown at)

-- a variable in scope, or else a function
abbrev pub named : Known → Leaf → Checked Part
named s l = variable_part (place_of l) (option_and_then (λ i. slice_get s.entries i) (position (λ e. bytes_eq (bytes_in s l) e.name) s.entries)) (function_number s l)

abbrev pub integer_constant : Place → Bool → ℕ → Part
integer_constant at is_zero n = part at (AnInteger (t.Int (pos n)) is_zero (alone (pos n)))

abbrev pub is_writing : ScopeKind → Bool
is_writing (in_.Meta context.Writing) = true
is_writing _ = false

abbrev pub is_reading : ScopeKind → Bool
is_reading (in_.Meta context.Reading) = true
is_reading _ = false

abbrev pub is_calling : ScopeKind → Bool
is_calling (in_.Meta context.Calling) = true
is_calling _ = false

-- a meta variable has a value in its own context alone
abbrev pub meta_variable : Bool → Place → What → Checked Part
meta_variable is_there at what = where_kept is_there (fault.BadMeta at) (part at what)

abbrev pub constant_by : Known → Word → Place → List ℕ → Checked Part
constant_by s w.Number at bytes = Ok (integer_constant at (bytes_eq bytes (codes "0")) (number_value bytes))
constant_by s w.Character at bytes = Ok (integer_constant at false (character_value bytes))
constant_by s w.SlashWritten at bytes = meta_variable (is_writing s.kind) at AnAccess
constant_by s w.SlashRead at bytes = meta_variable (is_reading s.kind) at AnAccess
constant_by s w.SlashCalled at bytes = meta_variable (is_calling s.kind) at TheCalled
-- `\null`
constant_by s _ at bytes = Ok (part at (APointer t.Null type.Void (alone (pos 0))))

abbrev pub constant : Known → Leaf → Checked Part
constant s l = constant_by s l.word (place_of l) (bytes_in s l)

-- ---- events

abbrev pub is_ya : ScopeKind → Bool
is_ya in_.Ya = true
is_ya _ = false

-- what an event carries, as a value of this type
abbrev pub carried : Place → Term → CType → Checked Part
carried at e (type.Int k) = Ok (part at (AnInteger e false (interval_of_type (type.Int k))))
carried at e (type.Pointer' b (more_of-CType u end_of-CType)) = Ok (part at (APointer e u any_offset))
carried at e u = Err (fault.Kind at)

abbrev pub carried_result : Place → Place → ℕ → CType → Checked Part
carried_result at at_word n type.Void = Err (fault.Unknown at_word)
carried_result at at_word n u = carried at (t.Result n) u

abbrev pub carried_parameter : Known → Place → Leaf → ℕ → Function → Checked Part
carried_parameter s at x n f = do
  i ← kept (fault.Unknown (place_of x)) (position (λ d. bytes_eq (bytes_in s x) d.name) (take f.params f.locals))
  d ← kept (fault.Unknown (place_of x)) (slice_get f.locals i)
  carried at (t.Parameter n i) d.ctype

abbrev pub carried_by : Known → Place → Leaf → Word → ℕ → Function → Checked Part
carried_by s at x w.SlashResult n f = carried_result at (place_of x) n f.result
carried_by s at x _ n f = carried_parameter s at x n f

-- the function with this name, in Ya; elsewhere there are no events
abbrev pub event_function : Known → Place → Leaf → Checked ℕ
event_function s first name = if is_ya s.kind then kept (fault.Unknown (place_of name)) (function_number s name) else Err (fault.Unknown first)

-- `f().x` and `f().\result`
abbrev pub event_value : Known → Leaf → Leaf → Checked Part
event_value s name x = do
  n ← event_function s (place_of name) name
  f ← kept (fault.Unknown (place_of name)) (slice_get s.core.functions n)
  carried_by s (place_of name) x x.word n f

abbrev pub event_kind : Word → EventKind
event_kind w.CallEvent = event.Call
event_kind w.ReturnEvent = event.Return
event_kind _ = event.Either

abbrev pub event_of : Known → Leaf → Leaf → Checked Predicate
event_of s sign name = do
  n ← event_function s (place_of sign) name
  Ok (q.Event (event_kind sign.word) n)

-- ---- `\at`

-- the integer or pointer at an lvalue, as the Enter step saw it
abbrev pub at_enter : Place → Place → Bool → What → Checked Part
at_enter at first labelled (Lvalue place (type.Int k) i) = where_kept (not labelled) (fault.BadAt at) (part at (AnInteger (t.AtPre place (type.Int k)) false (interval_of_type (type.Int k))))
at_enter at first labelled (Lvalue place (type.Pointer' b (more_of-CType u end_of-CType)) i) =
    where_kept (not labelled) (fault.BadAt at) (part at (APointer (t.AtPre place (type.Pointer' b (more_of-CType u end_of-CType))) u any_offset))
at_enter at first labelled (Lvalue place (type.Array' b u n) i) = Err (fault.BadAt at)
at_enter at first labelled (Lvalue place u i) = Err (fault.Kind first)
at_enter at first labelled (AFunction n) = Err (fault.Kind first)
at_enter at first labelled (AnAddress n) = Err (fault.Kind first)
at_enter at first labelled AnAccess = Err (fault.Kind at)
at_enter at first labelled TheCalled = Err (fault.Kind at)
at_enter at first labelled (AnInteger e z i) = Err (fault.BadAt at)
at_enter at first labelled (APointer e u i) = Err (fault.BadAt at)

abbrev pub has_labels : ScopeKind → Bool
has_labels (in_.Meta c) = true
has_labels _ = false

abbrev pub at_label : Place → Word → Part → Checked Part
at_label at w.PreLabel a = at_enter at a.first a.labelled a.what
at_label at _ a = Ok (part at a.what)

-- `\at(t, Pre)`, of a place in which no other `\at` stands, and `\at(t, Here)`, which is t; in meta-properties alone
abbrev pub at : Known → Leaf → Leaf → Part → Checked Part
at s sign label a = if has_labels s.kind then made_with true (at_label (place_of sign) label.word a) else Err (fault.BadAt (place_of sign))

-- ---- members and elements

-- the member at this offset, of this type
abbrev pub member_at : Place → TermPlace → Interval → CType → ℕ → Checked Part
member_at first place i u o = held first o (tt {0}) >>= (λ v. limited first (sum i (alone (pos o))) (part first (Lvalue (p.Member place o) u (sum i (alone (pos o))))))

abbrev pub member_found : Known → Place → Place → TermPlace → Interval → List Declared → Option ℕ → Checked Part
member_found s first at_name place i ds None = Err (fault.Unknown at_name)
member_found s first at_name place i ds (Some n) = do
  d ← kept (fault.Unknown at_name) (slice_get ds n)
  member_at first place i d.ctype (sum_by (λ d. cells s.core.layouts d.ctype) (take n ds))

-- a member of the object at the place, whose type is a struct
abbrev pub of_struct : Known → Place → Place → Leaf → TermPlace → Interval → CType → Checked Part
of_struct s at first name place i (type.Struct n) = do
  l ← kept (fault.Unknown (place_of name)) (slice_get s.core.layouts n)
  member_found s first (place_of name) place i l.members (position (λ d. bytes_eq (bytes_in s name) d.name) l.members)
of_struct s at first name place i u = Err (fault.Kind at)

abbrev pub member_of : Known → Leaf → Leaf → Part → What → Checked Part
member_of s dot name a (Lvalue place u i) = of_struct s (place_of dot) a.first name place i u
member_of s dot name a (AFunction n) = Err (fault.Kind a.first)
member_of s dot name a (AnAddress n) = Err (fault.Kind a.first)
member_of s dot name a _ = Err (fault.Kind (place_of dot))

abbrev pub member : Known → Leaf → Leaf → Part → Checked Part
member s dot name a = made_with a.labelled (member_of s dot name a a.what)

abbrev pub arrow_of : Known → Leaf → Leaf → Part → What → Checked Part
arrow_of s sign name a (APointer e u i) = of_struct s (place_of sign) a.first name (p.Deref e) i u
arrow_of s sign name a _ = Err (fault.Kind (place_of sign))

-- a->name, after the value of a
abbrev pub arrow : Known → Leaf → Leaf → Part → Checked Part
arrow s sign name a = made_with a.labelled (value a >>= (λ v. arrow_of s sign name v v.what))

-- so many objects on, each of so many cells: the product and the sum keep the limit
abbrev pub moved_by : {A : Type 0} → Place → Interval → Interval → ℕ → A → Checked A
moved_by first i j size a = held first size (tt {0}) >>= (λ u. where_kept (is_limited (times_size j size) && is_limited (sum i (times_size j size))) (fault.TooWide first) a)

abbrev pub element_of : Known → Place → Part → What → What → Checked Part
element_of s at a (Lvalue place (type.Array' b (more_of-CType u end_of-CType) n) i) (AnInteger e z j) =
    let size = cells s.core.layouts u in
    moved_by a.first i j size (part a.first (Lvalue (p.Index place e size) u (sum i (times_size j size))))
element_of s at a (APointer f u i) (AnInteger e z j) =
    if is_void u then Err (fault.Kind at) else (let size = cells s.core.layouts u in moved_by a.first i j size (part a.first (Lvalue (p.Deref (t.Move f e size)) u (sum i (times_size j size)))))
element_of s at a _ _ = Err (fault.Kind at)

-- a[i], after what stands before the bracket and the value inside
abbrev pub element : Known → Leaf → Part → Part → Checked Part
element s opening a i = made_with (a.labelled || i.labelled) (element_of s (place_of opening) a a.what i.what)

-- ---- prefix operators

abbrev pub negation_of : Place → What → Checked Part
negation_of at (AnInteger e z i) = limited at (negated i) (part at (AnInteger (t.Neg e) false (negated i)))
negation_of at _ = Err (fault.Kind at)

abbrev pub dereference_of : Place → What → Checked Part
dereference_of at (APointer e u i) = if is_void u then Err (fault.Kind at) else Ok (part at (Lvalue (p.Deref e) u i))
dereference_of at _ = Err (fault.Kind at)

abbrev pub is_register : TermPlace → Bool
is_register (p.Own v) = is_register_variable v
is_register _ = false

abbrev pub address_of : Place → What → Checked Part
address_of at (Lvalue place u i) = where_kept (not (is_register place)) (fault.Kind at) (part at (APointer (t.Address place u) u i))
address_of at (AFunction n) = Ok (part at (AnAddress n))
address_of at _ = Err (fault.Kind at)

abbrev pub prefix_by : Word → Place → Part → Checked Part
prefix_by w.Ampersand at a = address_of at a.what
prefix_by w.Star at a = value a >>= (λ v. dereference_of at v.what)
prefix_by _ at a = value a >>= (λ v. negation_of at v.what)

abbrev pub prefix : Leaf → Part → Checked Part
prefix sign a = made_with a.labelled (prefix_by sign.word (place_of sign) a)

-- ---- operators between two values

abbrev pub operator_of : Word → IntOp
operator_of w.Plus = op.Add
operator_of w.Minus = op.Sub
operator_of w.Star = op.Mul
operator_of w.Slash = op.Div
operator_of _ = op.Rem

abbrev pub integers : Place → IntOp → Term → Interval → Term → Interval → Checked Part
integers first o e i f j = limited first (operation o i j) (part first (AnInteger (t.Arith o e f) false (operation o i j)))

abbrev pub operated_by : Known → Leaf → Place → Word → What → What → Checked Part
operated_by s sign first word (AnInteger e y i) (AnInteger f z j) = integers first (operator_of word) e i f j
operated_by s sign first w.Plus (APointer e u i) (AnInteger f z j) =
    let size = denoted_size s.core.layouts u in
    moved_by first i j size (part first (APointer (t.Move e f size) u (sum i (times_size j size))))
operated_by s sign first word _ _ = Err (fault.Kind (place_of sign))

abbrev pub operated : Known → Leaf → Part → Part → Checked Part
operated s sign a b = made_with (a.labelled || b.labelled) (operated_by s sign a.first sign.word a.what b.what)

-- ---- relations

abbrev pub relation_of : Word → CompareOp
relation_of w.EqualEqual = comparing.Equal
relation_of w.NotEqual = comparing.Unequal
relation_of w.Less = comparing.Less
relation_of w.LessEqual = comparing.LessEqual
relation_of w.Greater = comparing.Greater
relation_of _ = comparing.GreaterEqual

abbrev pub is_equality : Word → Bool
is_equality w.EqualEqual = true
is_equality w.NotEqual = true
is_equality _ = false

abbrev pub is_equal : Word → Bool
is_equal w.EqualEqual = true
is_equal _ = false

-- the literal `0` beside a pointer is null
abbrev pub beside_pointer : Place → Word → Term → Bool → Term → Checked Predicate
beside_pointer at word e true f = Ok (q.Relation (relation_of word) e f)
beside_pointer at word e false f = Err (fault.Kind at)

abbrev pub related_by : Place → Part → Part → Word → What → What → Checked Predicate
related_by at a b word TheCalled (AFunction n) = where_kept (is_equality word) (fault.Kind b.first) (q.Called n (is_equal word))
related_by at a b word TheCalled (AnAddress n) = where_kept (is_equality word) (fault.Kind b.first) (q.Called n (is_equal word))
related_by at a b word (AFunction n) TheCalled = where_kept (is_equality word) (fault.Kind a.first) (q.Called n (is_equal word))
related_by at a b word (AnAddress n) TheCalled = where_kept (is_equality word) (fault.Kind a.first) (q.Called n (is_equal word))
related_by at a b word (AFunction n) _ = Err (fault.Kind a.first)
related_by at a b word (AnAddress n) _ = Err (fault.Kind a.first)
related_by at a b word _ (AFunction n) = Err (fault.Kind b.first)
related_by at a b word _ (AnAddress n) = Err (fault.Kind b.first)
related_by at a b word (AnInteger e y i) (AnInteger f z j) = Ok (q.Relation (relation_of word) e f)
related_by at a b word (APointer e u i) (APointer f v j) = where_kept (is_equality word || same_type u v) (fault.Kind at) (q.Relation (relation_of word) e f)
related_by at a b word (APointer e u i) (AnInteger f z j) = where_kept z (fault.Kind at) (q.Relation (relation_of word) e t.Null)
related_by at a b word (AnInteger e y i) (APointer f v j) = where_kept y (fault.Kind at) (q.Relation (relation_of word) t.Null f)
related_by at a b word AnAccess AnAccess = where_kept (is_equality word) (fault.Kind at) (q.Relation (relation_of word) t.Accessed t.Accessed)
related_by at a b word AnAccess (APointer f v j) = where_kept (is_equality word) (fault.Kind at) (q.Relation (relation_of word) t.Accessed f)
related_by at a b word (APointer e u i) AnAccess = where_kept (is_equality word) (fault.Kind at) (q.Relation (relation_of word) e t.Accessed)
related_by at a b word AnAccess (AnInteger f z j) = where_kept (is_equality word && z) (fault.Kind at) (q.Relation (relation_of word) t.Accessed t.Null)
related_by at a b word (AnInteger e y i) AnAccess = where_kept (is_equality word && y) (fault.Kind at) (q.Relation (relation_of word) t.Null t.Accessed)
related_by at a b word _ _ = Err (fault.Kind at)

abbrev pub related : Leaf → Part → Part → Checked Predicate
related o a b = related_by (place_of o) a b o.word a.what b.what

-- ---- locations

-- a location, and the place of its first token
pub record Located : Type 0 where
  pub first : Place
  pub location : Location

abbrev pub located : Place → Term → CType → Option (Term × Term) → Located
located first e u span = record { first = first; location = record { base = e; ctype = u; span = span } }

abbrev pub object_of : Place → What → Checked Located
object_of first (APointer e u i) = Ok (located first e u None)
object_of first AnAccess = Ok (located first t.Accessed type.Void None)
object_of first w = Err (fault.Kind first)

-- one object, after the value
abbrev pub object : Part → Checked Located
object a = value a >>= (λ v. object_of v.first v.what)

abbrev pub is_access : Term → Bool
is_access t.Accessed = true
is_access _ = false

-- an access may stand in `\separated` alone
abbrev pub valid : Located → Checked Predicate
valid l = where_kept (not (is_access l.location.base)) (fault.Kind l.first) (q.Valid l.location)

-- the ends keep the limit: the offsets of a objects and of b + 1 objects on, and their products
abbrev pub is_span_limited : Interval → Interval → Interval → ℕ → Bool
is_span_limited i from to size =
    let first = times_size from size in
    let past = times_size (sum to (alone (pos 1))) size in
    is_limited first && (is_limited past && (is_limited (sum i first) && is_limited (sum i past)))

abbrev pub objects_of : Known → Place → What → What → What → Checked Located
objects_of s first (APointer e u i) (AnInteger a y j) (AnInteger b z k) =
    let size = denoted_size s.core.layouts u in
    held first size (tt {0}) >>= (λ v. where_kept (is_span_limited i j k size) (fault.TooWide first) (located first e u (Some (a, b))))
objects_of s first _ _ _ = Err (fault.Kind first)

-- `p + (a .. b)`, after the three values
abbrev pub objects : Known → Part → Part → Part → Checked Located
objects s v a b = objects_of s v.first v.what a.what b.what
