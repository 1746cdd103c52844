-- Each declaration keeps the types of a program small, so that each environment of its text is small.
use Rattle.std.proofs.Common.{◌≡◌, ℕ, zero, suc, ◌+◌, ◌≤◌, Bool, true, false, ◌||◌, not, List, [], ◌∷◌, ◌++◌, take, length, sum_by, Option, Some, None, refl, sym, ap, subst, ◌∙◌, arith, append_assoc, append-nil, length-append}
use Rattle.std.specs.Prelude.{nat_le, is_some}
use Rattle.std.specs.List.{list_all, AllByRecursion}
use Rattle.std.proofs.lemmas.List.{length-map}
use Rattle.c_words.specs.declared.word.Leaf.{Leaf}
use Rattle.c_words.specs.declared.word.Mode.{Mode}
use Rattle.c_grammar.specs.declared.types.Specifier.{Specifier}
use Rattle.c_grammar.specs.declared.types.Specifier.TheVariants as sp
use Rattle.step_meaning.specs.declared.value.CType.{CType}
use Rattle.step_meaning.specs.declared.value.CType.TheVariants as type
use Rattle.step_meaning.specs.declared.value.Value.{Value}
use Rattle.step_meaning.specs.declared.expr.Variable.{Variable}
use Rattle.step_meaning.specs.declared.program.Declared.{Declared as Named}
use Rattle.step_meaning.specs.declared.program.Layout.{Layout}
use Rattle.step_meaning.specs.declared.program.Function.{Function as CoreFunction}
use Rattle.step_meaning.specs.TypeRules.{cells, most_cells}
use Rattle.step_meaning.specs.ExpressionTypes.{pointer_to}
use Rattle.step_meaning.specs.Library.{int}
use Rattle.step_meaning.proofs.Ranges.{and_true, left_of_and, right_of_and}
use Rattle.typing_rules.specs.declared.operand.Entry.{Entry}
use Rattle.typing_rules.specs.declared.fault.TypeFault.TheVariants.{TooLarge}
use Rattle.typing_rules.specs.Checked.{kept, unless}
use Rattle.typing_rules.specs.Syntax.{Spelled, Declarator, Members, Declared, Parameter, Statements, Item, Struct, Variables, Function, Meta, GhostVariable}
use Rattle.typing_rules.specs.Environment.{Environment, Scope, place_of, bytes_in, is_reserved, specified, with_stars, spelled_type}
use Rattle.typing_rules.specs.Declarations.{layers, layered, count_of, is_complete, is_within_limit, is_complete_in}
use Rattle.typing_rules.specs.Statements.{Frame, seen as seen_in_body, with_name, tail, statements}
use Rattle.typing_rules.specs.FileScope.{Program, variable_entry, function_entry, file_scope, tags, seen, seen_now, bytes, is_known, is_main_name, first_values, with_variable, with_values, variable, variables}
use Rattle.typing_rules.specs.Structs.{has_member, member, member_list, all_members, tag_declarable, with_layout, structure}
use Rattle.typing_rules.specs.Functions.{adjusted, name_of, is_repeated, place_of_parameter, is_wrong_parameter, declared_name, parameter_entries, parameter_scope, with_parameters, parameter, parameters, declares_allocation, declarable_function, defined_function, function_number, with_function, replaced, defined_as, function}
use Rattle.typing_rules.specs.Programs.{item, items, start}
use Rattle.typing_laws.specs.SmallTypes.{WhereOk, IsSmallType, IsSmallEntry, IsSmallScope, IsSmall}
use Rattle.typing_laws.specs.SmallPrograms.{is_small_object, is_small_struct, are_small_structs, HasNoArray, IsSmallProgram, IsSmallFrame, ProgramsAreSmall}
use Rattle.typing_laws.proofs.CheckedValues.{then_holds, then_known, where_ok}
use Rattle.typing_laws.proofs.LaterTypes.{still_complete, still_within}
use Rattle.typing_laws.proofs.SmallStructs.{structs_are_small}
use Rattle.typing_laws.proofs.DeclaredNames.{not_false, declared_then, unless_holds}
use Rattle.typing_laws.proofs.EachOf.{each_append, each_take, each_drop, each_weaker, each_numbered, all_append}

-- ---- types that are spelled

stars_small : (n : ℕ) (t : CType) → HasNoArray t → HasNoArray (with_stars n t)
unfolding with_stars is_within_limit
stars_small zero t h = h
stars_small (suc n) t h = stars_small n (pointer_to t) h

specified_small : (g : Environment) (x : Specifier) → WhereOk HasNoArray (specified g x)
unfolding specified is_within_limit
specified_small g (sp.Integer x) = λ ls. refl
specified_small g (sp.Void t) = λ ls. refl
specified_small g (sp.Struct t tag) = then_known HasNoArray (kept _ _) _ (λ n e. λ ls. refl)

pub spelled_small : (g : Environment) (x : Spelled) → WhereOk HasNoArray (spelled_type g x)
unfolding spelled_type
spelled_small g x = then_holds HasNoArray HasNoArray (specified g x.specifier) _ (specified_small g x.specifier) (λ t h. stars_small x.stars t h)

-- ---- environments

-- each struct has a tag
pub tags_counted : (p : Program) → length (tags p) ≡ length p.layouts
tags_counted p = length-map p.layouts (λ l. l.tag)

small_object_type : (ls : List Layout) (known : ℕ) (t : CType) → is_small_object ls known t ≡ true → IsSmallType ls t
small_object_type ls known t h = right_of_and _ _ h

file_scope_small : (p : Program) → IsSmallProgram p → IsSmallScope p.layouts (file_scope p)
unfolding file_scope
file_scope_small p h =
    each_append _ _ _
    (each_numbered (λ d. is_small_object p.layouts (length p.layouts) d.ctype ≡ true) (λ e. IsSmallEntry p.layouts e.1) variable_entry 0 p.globals (λ i d k. small_object_type p.layouts (length p.layouts) d.ctype k) h.globals)
    (each_numbered (λ f. HasNoArray f.result) (λ e. IsSmallEntry p.layouts e.1) function_entry 0 p.functions (λ i f k. k p.layouts) h.results)

pub seen_small : (p : Program) → IsSmallProgram p → (ts : List (List ℕ)) → IsSmall (seen p ts)
seen_small p h ts = record { structs = structs_are_small p.layouts h.structs; names = (file_scope_small p h, tt) }

pub body_small : (p : Program) → IsSmallProgram p → (f : Frame) → IsSmallFrame p.layouts f → IsSmall (seen_in_body (seen_now p) int f)
body_small p h f k = record { structs = structs_are_small p.layouts h.structs; names = each_append (IsSmallScope p.layouts) f.scopes (file_scope p ∷ []) k (file_scope_small p h, tt) }

-- ---- names in a body

module _ (ls : List Layout) where
  pub name_small : (name : List ℕ) (v : Variable) (t : CType) (scopes : List Scope) → IsSmallType ls t → AllByRecursion (IsSmallScope ls) scopes → AllByRecursion (IsSmallScope ls) (with_name name v t scopes)
  name_small name v t [] h k = ((h, tt), tt)
  name_small name v t (s ∷ ss) h k = (each_append _ s _ k.0 (h, tt), k.1)

  pub tail_small : (scopes : List Scope) → AllByRecursion (IsSmallScope ls) scopes → AllByRecursion (IsSmallScope ls) (tail scopes)
  tail_small [] k = tt
  tail_small (s ∷ ss) k = k.1

  declared_name_small : (name : List ℕ) (x : Entry) → IsSmallEntry ls x → IsSmallScope ls (declared_name name x)
  declared_name_small [] x h = tt
  declared_name_small (c ∷ cs) x h = (h, tt)

  parameter_entries_small : (n : ℕ) (ps : List Named) → AllByRecursion (λ d. IsSmallType ls d.ctype) ps → IsSmallScope ls (parameter_entries n ps)
  parameter_entries_small n [] h = tt
  parameter_entries_small n (d ∷ ds) h = each_append _ (declared_name d.name _) _ (declared_name_small d.name _ h.0) (parameter_entries_small (suc n) ds h.1)

  pub parameter_scope_small : (ps : List Named) → AllByRecursion (λ d. IsSmallType ls d.ctype) ps → IsSmallScope ls (parameter_scope ps)
  parameter_scope_small ps h = parameter_entries_small 0 ps h

-- ---- variables of file scope

pub with_variable_small : (p : Program) (name : List ℕ) (t : CType) → is_complete_in (seen_now p) t ≡ true → is_within_limit p.layouts t ≡ true → IsSmallProgram p → IsSmallProgram (with_variable p name t)
with_variable_small p name t c w h = record {
  structs = h.structs;
  globals = each_append (λ d. is_small_object p.layouts (length p.layouts) d.ctype ≡ true) p.globals _ h.globals (and_true (subst (λ k. is_complete (length p.layouts) k t ≡ true) (tags_counted p) c) w, tt);
  results = h.results;
}

pub with_values_small : (p : Program) (vs : List Value) → IsSmallProgram p → IsSmallProgram (with_values p vs)
with_values_small p vs h = record { structs = h.structs; globals = h.globals; results = h.results }

pub right_of_or : (a b : Bool) → (a || not b) ≡ false → b ≡ true
right_of_or false b e = not_false b e
right_of_or true b e = absurd (cc e)

pub variable_small : (base : CType) (d : Declared) (p : Program) → IsSmallProgram p → WhereOk IsSmallProgram (variable base d p)
unfolding variable
variable_small base d p h =
    then_known IsSmallProgram (layers (seen_now p) (count_of d.initialiser) d.declarator.modifiers) _ (λ ls e.
    let name : List ℕ = bytes p d.declarator.name in
    let t : CType = layered ls base in
    declared_then IsSmallProgram (seen_now p) (place_of d.declarator.name) (is_known p name) (is_main_name name || not (is_complete_in (seen_now p) t)) false (is_reserved (seen_now p) name) t _ (λ k.
    then_known IsSmallProgram (first_values (with_variable p name t) t d.initialiser) _ (λ vs i.
    with_values_small (with_variable p name t) vs (with_variable_small p name t (right_of_or (is_main_name name) (is_complete_in (seen_now p) t) k.right) k.small h))))

pub variables_small : (base : CType) (ds : List Declared) (p : Program) → IsSmallProgram p → WhereOk IsSmallProgram (variables base ds p)
unfolding variables
variables_small base [] p h = h
variables_small base (d ∷ ds) p h = then_holds IsSmallProgram IsSmallProgram (variable base d p) _ (variable_small base d p h) (λ p' h'. variables_small base ds p' h')

-- ---- structs

-- the members so far of a struct after these
abbrev AreSmallMembers : List Layout → List Named → Type 0
AreSmallMembers ls ms = list_all (λ d. is_small_object ls (suc (length ls)) d.ctype) ms ≡ true

member_small : (g : Environment) (base : CType) (ms : List Named) (d : Declarator) → length g.tags ≡ suc (length g.layouts) → AreSmallMembers g.layouts ms → WhereOk (AreSmallMembers g.layouts) (member g base ms d)
unfolding member
member_small g base ms d n h =
    then_known (AreSmallMembers g.layouts) (layers g 1 d.modifiers) _ (λ ls e.
    let name : List ℕ = bytes_in g d.name in
    let t : CType = layered ls base in
    declared_then (AreSmallMembers g.layouts) g (place_of d.name) (has_member g ms name) (not (is_complete_in g t)) false (is_reserved g name) t _ (λ k.
    all_append (λ d. is_small_object g.layouts (suc (length g.layouts)) d.ctype) ms _ h
    (and_true (and_true (subst (λ k. is_complete (length g.layouts) k t ≡ true) n (not_false (is_complete_in g t) k.right)) k.small) refl)))

member_list_small : (g : Environment) (base : CType) (ms : List Named) (ds : List Declarator) → length g.tags ≡ suc (length g.layouts) → AreSmallMembers g.layouts ms → WhereOk (AreSmallMembers g.layouts) (member_list g base ms ds)
unfolding member_list
member_list_small g base ms [] n h = h
member_list_small g base ms (d ∷ ds) n h = then_holds (AreSmallMembers g.layouts) (AreSmallMembers g.layouts) (member g base ms d) _ (member_small g base ms d n h) (λ more k. member_list_small g base more ds n k)

all_members_small : (g : Environment) (ms : List Named) (xs : List Members) → length g.tags ≡ suc (length g.layouts) → AreSmallMembers g.layouts ms → WhereOk (AreSmallMembers g.layouts) (all_members g ms xs)
unfolding all_members
all_members_small g ms [] n h = h
all_members_small g ms (x ∷ xs) n h =
    then_known (AreSmallMembers g.layouts) (specified g x.specifier) _ (λ base e.
    then_holds (AreSmallMembers g.layouts) (AreSmallMembers g.layouts) (member_list g base ms x.declarators) _ (member_list_small g base ms x.declarators n h) (λ more k. all_members_small g more xs n k))

structs_append : (before ls : List Layout) (l : Layout) → are_small_structs before ls ≡ true → is_small_struct (before ++ ls) l ≡ true → are_small_structs before (ls ++ (l ∷ [])) ≡ true
structs_append before [] l h k = and_true (subst (λ all. is_small_struct all l ≡ true) (append-nil before) k) refl
structs_append before (x ∷ xs) l h k =
    and_true (left_of_and _ _ h) (structs_append (before ++ (x ∷ [])) xs l (right_of_and _ _ h) (subst (λ all. is_small_struct all l ≡ true) (sym (append_assoc before (x ∷ []) xs)) k))

object_later : (ls : List Layout) (l : Layout) (t : CType) → is_small_object ls (length ls) t ≡ true → is_small_object (ls ++ (l ∷ [])) (length (ls ++ (l ∷ []))) t ≡ true
object_later ls l t h =
    let more : length ls ≤ length (ls ++ (l ∷ [])) = omega (arith, length-append ls (l ∷ [])) in
    and_true (still_complete (length ls) (length (ls ++ (l ∷ []))) (length ls) (length (ls ++ (l ∷ []))) t more more (left_of_and _ _ h)) (still_within ls (l ∷ []) (length ls) t (left_of_and _ _ h) (right_of_and _ _ h))

pub with_layout_small : (p : Program) (name : List ℕ) (ms : List Named) → AreSmallMembers p.layouts ms → nat_le (sum_by (λ d. cells p.layouts d.ctype) ms) most_cells ≡ true → IsSmallProgram p → IsSmallProgram (with_layout p name ms)
with_layout_small p name ms m l h = record {
  structs = structs_append [] p.layouts (record { tag = name; members = ms }) h.structs (and_true m l);
  globals = each_weaker (λ d. is_small_object p.layouts (length p.layouts) d.ctype ≡ true) _ p.globals (λ d k. object_later p.layouts (record { tag = name; members = ms }) d.ctype k) h.globals;
  results = h.results;
}

pub structure_small : (tag : Leaf) (ms : List Members) (p : Program) → IsSmallProgram p → WhereOk IsSmallProgram (structure tag ms p)
unfolding structure
structure_small tag ms p h =
    let g : Environment = seen p (tags p ++ (bytes p tag ∷ [])) in
    let n : length g.tags ≡ suc (length g.layouts) = length-append (tags p) (bytes p tag ∷ []) ∙ ap (λ k. k + 1) (tags_counted p) ∙ omega arith in
    then_known IsSmallProgram (tag_declarable p tag) _ (λ u e.
    then_holds (AreSmallMembers p.layouts) IsSmallProgram (all_members g [] ms) _ (all_members_small g [] ms n refl) (λ members k.
    then_holds (λ (u : Unit {0}). nat_le (sum_by (λ d. cells p.layouts d.ctype) members) most_cells ≡ true) IsSmallProgram
    (unless (not (nat_le (sum_by (λ d. cells p.layouts d.ctype) members) most_cells)) (TooLarge (place_of tag))) _
    (unless_holds (nat_le (sum_by (λ d. cells p.layouts d.ctype) members) most_cells ≡ true) _ _ (not_false (nat_le (sum_by (λ d. cells p.layouts d.ctype) members) most_cells)))
    (λ u l. with_layout_small p (bytes p tag) members k l h)))

-- ---- functions

abbrev AreSmallParameters : List Layout → List Named → Type 0
AreSmallParameters ls ps = AllByRecursion (λ d. IsSmallType ls d.ctype) ps

parameter_small : (p : Program) (allocation : Bool) (ps : List Named) (x : Parameter) → AreSmallParameters p.layouts ps → WhereOk (AreSmallParameters p.layouts) (parameter p allocation ps x)
unfolding parameter
parameter_small p allocation ps x h =
    let Q : List Named → Type 0 = AreSmallParameters p.layouts in
    then_known Q (specified (seen_now p) x.specifier) _ (λ base e.
    then_known Q (layers (with_parameters (seen_now p) ps) 1 x.modifiers) _ (λ ls i.
    let name : List ℕ = name_of p x.name in
    let t : CType = layered ls base in
    declared_then Q (seen_now p) (place_of_parameter x) (is_repeated ps name) (is_wrong_parameter (seen_now p) allocation t) true (is_reserved (seen_now p) name) (adjusted t) _ (λ k.
    each_append (λ d. IsSmallType p.layouts d.ctype) ps _ h (k.small, tt))))

pub parameters_small : (p : Program) (allocation : Bool) (ps : List Named) (xs : List Parameter) → AreSmallParameters p.layouts ps → WhereOk (AreSmallParameters p.layouts) (parameters p allocation ps xs)
unfolding parameters
parameters_small p allocation ps [] h = h
parameters_small p allocation ps (x ∷ xs) h = then_holds (AreSmallParameters p.layouts) (AreSmallParameters p.layouts) (parameter p allocation ps x) _ (parameter_small p allocation ps x h) (λ qs k. parameters_small p allocation qs xs k)

pub with_function_small : (p : Program) (name : List ℕ) (r : CType) (ps : List Named) (n : Option ℕ) → HasNoArray r → IsSmallProgram p → IsSmallProgram (with_function p name r ps n)
with_function_small p name r ps None a h = record { structs = h.structs; globals = h.globals; results = each_append (λ f. HasNoArray f.result) p.functions _ h.results (a, tt) }
with_function_small p name r ps (Some n) a h = h

pub replaced_small : (p : Program) (n : ℕ) (f : CoreFunction) → HasNoArray f.result → IsSmallProgram p → IsSmallProgram (record p { functions = replaced n f p.functions })
unfolding replaced
replaced_small p n f a h = record {
  structs = h.structs;
  globals = h.globals;
  results = each_append (λ f. HasNoArray f.result) (take n p.functions) _ (each_take (λ f. HasNoArray f.result) n p.functions h.results) (a, each_drop (λ f. HasNoArray f.result) (suc n) p.functions h.results);
}

defined_small : (p : Program) (n : ℕ) (name : List ℕ) (r : CType) (ps : List Named) (body : Option Statements) → HasNoArray r → IsSmallProgram p → WhereOk IsSmallProgram (defined_as p n name r ps body)
unfolding defined_as
defined_small p n name r ps None a h = h
defined_small p n name r ps (Some body) a h =
    then_known IsSmallProgram (statements (seen_now p) r false body (record { locals = ps; scopes = parameter_scope ps ∷ [] })) _ (λ done e. replaced_small p n (defined_function name r ps done.1 done.0) a h)

pub function_small : (result : Spelled) (t : Leaf) (xs : List Parameter) (body : Option Statements) (p : Program) → IsSmallProgram p → WhereOk IsSmallProgram (function result t xs body p)
unfolding function
function_small result t xs body p h =
    then_holds HasNoArray IsSmallProgram (spelled_type (seen_now p) result) _ (spelled_small (seen_now p) result) (λ r a.
    then_known IsSmallProgram (parameters p (declares_allocation (bytes p t) (is_some body)) [] xs) _ (λ ps e.
    then_known IsSmallProgram (declarable_function p t r ps (is_some body)) _ (λ u i.
    defined_small (with_function p (bytes p t) r ps (function_number p.functions (bytes p t))) _ (bytes p t) r ps body a
    (with_function_small p (bytes p t) r ps (function_number p.functions (bytes p t)) a h))))

-- ---- items

pub item_small : (x : Item) (p : Program) → IsSmallProgram p → WhereOk IsSmallProgram (item x p)
unfolding item
item_small (Struct tag ms ds) p h = then_holds IsSmallProgram IsSmallProgram (structure tag ms p) _ (structure_small tag ms p h) (λ p' h'. variables_small (type.Struct (length p.layouts)) ds p' h')
item_small (Variables x ds) p h = then_known IsSmallProgram (specified (seen_now p) x) _ (λ base e. variables_small base ds p h)
item_small (Function r t xs body) p h = function_small r t xs body p h
item_small (Meta t) p h = h
item_small (GhostVariable t) p h = h

pub items_small : (xs : List Item) (p : Program) → IsSmallProgram p → WhereOk IsSmallProgram (items xs p)
unfolding items
items_small [] p h = h
items_small (x ∷ xs) p h = then_holds IsSmallProgram IsSmallProgram (item x p) _ (item_small x p h) (λ p' h'. items_small xs p' h')

pub start_small : (m : Mode) (text : List ℕ) (all : List Item) → IsSmallProgram (start m text all)
unfolding is_within_limit
start_small m text all = record { structs = refl; globals = tt; results = ((λ ls. refl), ((λ ls. refl), ((λ ls. refl), ((λ ls. refl), tt)))) }

pub programs_small : ProgramsAreSmall
programs_small m text all xs p e = seen_small p (where_ok IsSmallProgram (items xs (start m text all)) p e (items_small xs (start m text all) (start_small m text all))) (tags p)
