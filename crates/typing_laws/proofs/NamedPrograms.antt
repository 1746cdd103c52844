-- Names of a program are identifiers and distinct, and so are tags and the members of each struct.
use Rattle.std.proofs.Common.{◌≡◌, ℕ, true, false, ◌||◌, not, List, [], ◌∷◌, ◌++◌, map, Option, Some, None, refl, sym, ap, subst, ◌∙◌, append-nil, append_assoc}
use Rattle.std.specs.Prelude.{slice_get, nat_le, sum_by, IsTrue}
use Rattle.std.specs.List.{list_all, AllByRecursion}
use Rattle.std.specs.Str.{bytes_eq}
use Rattle.c_words.specs.declared.word.Leaf.{Leaf}
use Rattle.step_meaning.specs.declared.value.CType.{CType}
use Rattle.step_meaning.specs.declared.program.Declared.{Declared as Named}
use Rattle.step_meaning.specs.declared.program.Function.{Function as CoreFunction}
use Rattle.step_meaning.specs.declared.program.Layout.{Layout}
use Rattle.step_meaning.specs.TypeRules.{cells, most_cells}
use Rattle.step_meaning.specs.Identifiers.{is_name, are_distinct}
use Rattle.step_meaning.specs.WellFormed.{declared_names, are_member_names}
use Rattle.step_meaning.proofs.Ranges.{and_true}
use Rattle.typing_rules.specs.declared.fault.TypeFault.TheVariants.{TooLarge}
use Rattle.typing_rules.specs.Checked.{unless}
use Rattle.typing_rules.specs.Syntax.{Spelled, Declarator, Members, Declared, Parameter, Statements}
use Rattle.typing_rules.specs.Environment.{Environment, place_of, bytes_in, contains, is_reserved, specified}
use Rattle.typing_rules.specs.Declarations.{layers, layered, count_of, is_complete_in}
use Rattle.typing_rules.specs.FileScope.{Program, numbered, variable_entry, function_entry, file_scope, tags, seen, seen_now, bytes, is_known, is_main_name, first_values, with_variable, variable, variables}
use Rattle.typing_rules.specs.Structs.{has_member, member, member_list, all_members, tag_declarable, structure}
use Rattle.typing_rules.specs.Functions.{function_number, is_variable, replaced, function}
use Rattle.typing_laws.specs.SmallTypes.{WhereOk}
use Rattle.typing_laws.specs.ParsedSyntax.{IsName, DeclaredParsed, AllDeclaredParsed, MembersParsed}
use Rattle.typing_laws.proofs.CheckedValues.{then_holds, then_known, where_ok}
use Rattle.typing_laws.proofs.EachOf.{each_append, each_first, each_last, all_append}
use Rattle.typing_laws.proofs.DeclaredNames.{declared_then, none_then, none_left}
use Rattle.typing_laws.proofs.Positions.{none_passes, any_none}
use Rattle.typing_laws.proofs.DistinctNames.{differ_turned, IsNew, new_append, distinct_insert, unknown, new_of_entries, function_names, replaced_names, each_name}
use Rattle.typing_laws.proofs.FunctionSteps.{function_steps}
use Rattle.typing_laws.proofs.GoodVariables.{variable_text}

pub record HasNames (p : Program) : Type 0 where
  pub globals : AllByRecursion (λ d. IsTrue (is_name d.name)) p.globals
  pub functions : AllByRecursion (λ f. IsTrue (is_name f.name)) p.functions
  pub distinct : are_distinct (declared_names p.globals ++ function_names p.functions) ≡ true
  pub tags : AllByRecursion (λ l. IsTrue (is_name l.tag)) p.layouts
  pub distinct_tags : are_distinct (map (λ l. l.tag) p.layouts) ≡ true
  pub members : AllByRecursion (λ l. are_member_names l ≡ true) p.layouts

-- ---- variables

declared_append : (ds : List Named) (d : Named) → declared_names (ds ++ (d ∷ [])) ≡ declared_names ds ++ (d.name ∷ [])
declared_append [] d = refl
declared_append (x ∷ ds) d = ap (λ ws. x.name ∷ ws) (declared_append ds d)

known_new : (p : Program) (name : List ℕ) → is_known p name ≡ false → IsNew name (declared_names p.globals ++ function_names p.functions)
unfolding file_scope
known_new p name e =
    let none : AllByRecursion (λ x. bytes_eq x.0 name ≡ false) (numbered variable_entry 0 p.globals ++ numbered function_entry 0 p.functions) = unknown (file_scope p) name e in
    new_append name (declared_names p.globals) (function_names p.functions)
    (new_of_entries variable_entry (λ d. d.name) (λ n d. refl) name 0 p.globals (each_first (λ x. bytes_eq x.0 name ≡ false) (numbered variable_entry 0 p.globals) _ none))
    (new_of_entries function_entry (λ f. f.name) (λ n f. refl) name 0 p.functions (each_last (λ x. bytes_eq x.0 name ≡ false) (numbered variable_entry 0 p.globals) _ none))

with_variable_named : (p : Program) (name : List ℕ) (t : CType) → IsTrue (is_name name) → is_known p name ≡ false → HasNames p → HasNames (with_variable p name t)
with_variable_named p name t i e h = record {
  globals = each_append (λ d. IsTrue (is_name d.name)) p.globals _ h.globals (i, tt);
  functions = h.functions;
  distinct =
      subst (λ ws. are_distinct ws ≡ true) (sym (append_assoc (declared_names p.globals) (name ∷ []) (function_names p.functions)) ∙ ap (λ ws. ws ++ function_names p.functions) (sym (declared_append p.globals (record { name = name; ctype = t }))))
      (distinct_insert (declared_names p.globals) (function_names p.functions) name h.distinct (known_new p name e));
  tags = h.tags;
  distinct_tags = h.distinct_tags;
  members = h.members;
}

variable_named : (base : CType) (d : Declared) (p : Program) → DeclaredParsed p.text d → HasNames p → WhereOk HasNames (variable base d p)
unfolding variable
variable_named base d p c h =
    then_known HasNames (layers (seen_now p) (count_of d.initialiser) d.declarator.modifiers) _ (λ ls e.
    let name : List ℕ = bytes p d.declarator.name in
    let t : CType = layered ls base in
    declared_then HasNames (seen_now p) (place_of d.declarator.name) (is_known p name) (is_main_name name || not (is_complete_in (seen_now p) t)) false (is_reserved (seen_now p) name) t _ (λ may.
    then_known HasNames (first_values (with_variable p name t) t d.initialiser) _ (λ vs i.
    let named : HasNames (with_variable p name t) = with_variable_named p name t c.0 may.new h in
    record { globals = named.globals; functions = named.functions; distinct = named.distinct; tags = named.tags; distinct_tags = named.distinct_tags; members = named.members })))

pub variables_named : (base : CType) (ds : List Declared) (p : Program) → AllDeclaredParsed p.text ds → HasNames p → WhereOk HasNames (variables base ds p)
unfolding variables
variables_named base [] p c h = h
variables_named base (d ∷ ds) p c h =
    then_known HasNames (variable base d p) _ (λ p' e.
    let same : p'.text ≡ p.text = where_ok (λ p'. p'.text ≡ p.text) (variable base d p) p' e (variable_text base d p) in
    variables_named base ds p' (subst (λ text. AllDeclaredParsed text ds) (sym same) c.1) (where_ok HasNames (variable base d p) p' e (variable_named base d p c.0 h)))

-- ---- structs

-- members so far
record MembersNamed (ms : List Named) : Type 0 where
  names : list_all is_name (declared_names ms) ≡ true
  distinct : are_distinct (declared_names ms) ≡ true

new_of_each : {A : Type 0} (name_of : A → List ℕ) (name : List ℕ) (xs : List A) → AllByRecursion (λ x. bytes_eq (name_of x) name ≡ false) xs → IsNew name (map name_of xs)
new_of_each name_of name [] h = refl
new_of_each name_of name (x ∷ xs) h = rw (differ_turned (name_of x) name h.0, new_of_each name_of name xs h.1) refl

module _ (g : Environment) where
  member_named : (base : CType) (ms : List Named) (d : Declarator) → IsName g.text d.name → MembersNamed ms → WhereOk MembersNamed (member g base ms d)
  unfolding member
  member_named base ms d i h =
      then_known MembersNamed (layers g 1 d.modifiers) _ (λ ls e.
      let name : List ℕ = bytes_in g d.name in
      let t : CType = layered ls base in
      declared_then MembersNamed g (place_of d.name) (has_member g ms name) (not (is_complete_in g t)) false (is_reserved g name) t _ (λ may.
      let new : IsNew name (declared_names ms) = new_of_each (λ m. m.name) name ms (any_none (λ m. bytes_eq m.name name) ms may.new) in
      let names : declared_names (ms ++ (record { name = name; ctype = t } ∷ [])) ≡ declared_names ms ++ (name ∷ []) = declared_append ms (record { name = name; ctype = t }) in
      record {
        names = subst (λ ws. list_all is_name ws ≡ true) (sym names) (all_append is_name (declared_names ms) (name ∷ []) h.names (and_true i refl));
        distinct = subst (λ ws. are_distinct ws ≡ true) (sym names) (distinct_insert (declared_names ms) [] name (subst (λ ws. are_distinct ws ≡ true) (sym (append-nil (declared_names ms))) h.distinct) (subst (IsNew name) (sym (append-nil (declared_names ms))) new));
      }))

  member_list_named : (base : CType) (ms : List Named) (ds : List Declarator) → AllByRecursion (λ d. IsName g.text d.name) ds → MembersNamed ms → WhereOk MembersNamed (member_list g base ms ds)
  unfolding member_list
  member_list_named base ms [] i h = h
  member_list_named base ms (d ∷ ds) i h = then_holds MembersNamed MembersNamed (member g base ms d) _ (member_named base ms d i.0 h) (λ more k. member_list_named base more ds i.1 k)

  all_members_named : (ms : List Named) (xs : List Members) → AllByRecursion (MembersParsed g.text) xs → MembersNamed ms → WhereOk MembersNamed (all_members g ms xs)
  unfolding all_members
  all_members_named ms [] i h = h
  all_members_named ms (x ∷ xs) i h =
      then_known MembersNamed (specified g x.specifier) _ (λ base e.
      then_holds MembersNamed MembersNamed (member_list g base ms x.declarators) _ (member_list_named base ms x.declarators i.0 h) (λ more k. all_members_named more xs i.1 k))

tags_append : (ls : List Layout) (l : Layout) → map (λ l. l.tag) (ls ++ (l ∷ [])) ≡ map (λ l. l.tag) ls ++ (l.tag ∷ [])
tags_append [] l = refl
tags_append (x ∷ ls) l = ap (λ ws. x.tag ∷ ws) (tags_append ls l)

tag_new : (p : Program) (tag : Leaf) → WhereOk (λ (u : Unit {0}). contains (tags p) (bytes p tag) ≡ false) (tag_declarable p tag)
tag_new p tag =
    none_then (contains (tags p) (bytes p tag) ≡ false) (contains (tags p) (bytes p tag)) _ _ (λ new.
    none_then (contains (tags p) (bytes p tag) ≡ false) (is_reserved (seen_now p) (bytes p tag)) _ _ (λ own. none_left (contains (tags p) (bytes p tag) ≡ false) new))

pub structure_named : (tag : Leaf) (ms : List Members) (p : Program) → IsName p.text tag → AllByRecursion (MembersParsed p.text) ms → HasNames p → WhereOk HasNames (structure tag ms p)
unfolding structure
structure_named tag ms p i c h =
    then_holds (λ (u : Unit {0}). contains (tags p) (bytes p tag) ≡ false) HasNames (tag_declarable p tag) _ (tag_new p tag) (λ u new.
    then_holds MembersNamed HasNames (all_members (seen p (tags p ++ (bytes p tag ∷ []))) [] ms) _ (all_members_named (seen p (tags p ++ (bytes p tag ∷ []))) [] ms c (record { names = refl; distinct = refl })) (λ members k.
    then_known HasNames (unless (not (nat_le (sum_by (λ d. cells p.layouts d.ctype) members) most_cells)) (TooLarge (place_of tag))) _ (λ u e.
    record {
      globals = h.globals;
      functions = h.functions;
      distinct = h.distinct;
      tags = each_append (λ l. IsTrue (is_name l.tag)) p.layouts _ h.tags (i, tt);
      distinct_tags =
          subst (λ ws. are_distinct ws ≡ true) (sym (tags_append p.layouts (record { tag = bytes p tag; members = members })))
          (distinct_insert (tags p) [] (bytes p tag) (subst (λ ws. are_distinct ws ≡ true) (sym (append-nil (tags p))) h.distinct_tags) (subst (IsNew (bytes p tag)) (sym (append-nil (tags p))) new));
      members = each_append (λ l. are_member_names l ≡ true) p.layouts _ h.members (and_true k.names k.distinct, tt);
    })))

-- ---- functions

functions_append : (fs : List CoreFunction) (f : CoreFunction) → function_names (fs ++ (f ∷ [])) ≡ function_names fs ++ (f.name ∷ [])
functions_append [] f = refl
functions_append (x ∷ fs) f = ap (λ ws. x.name ∷ ws) (functions_append fs f)

pub no_function : (fs : List CoreFunction) (name : List ℕ) → function_number fs name ≡ None → IsNew name (function_names fs)
no_function fs name e = from fs (none_passes (λ f. bytes_eq name f.name) fs e)
  where
    from : (fs : List CoreFunction) → AllByRecursion (λ f. bytes_eq name f.name ≡ false) fs → IsNew name (function_names fs)
    from [] h = refl
    from (f ∷ fs) h = rw (h.0, from fs h.1) refl

prototype_named : (p : Program) (name : List ℕ) (r : CType) (ps : List Named) (f : CoreFunction) → f.name ≡ name → IsTrue (is_name name) → is_variable p name ≡ false → function_number p.functions name ≡ None → HasNames p → HasNames (record p { functions = p.functions ++ (f ∷ []) })
prototype_named p name r ps f same i v e h =
    let new : IsNew name (declared_names p.globals ++ function_names p.functions) = new_append name (declared_names p.globals) (function_names p.functions) (new_of_each (λ d. d.name) name p.globals (any_none (λ d. bytes_eq d.name name) p.globals v)) (no_function p.functions name e) in
    let all : List (List ℕ) = declared_names p.globals ++ function_names p.functions in
    record {
      globals = h.globals;
      functions = each_append (λ f. IsTrue (is_name f.name)) p.functions _ h.functions (subst (λ w. IsTrue (is_name w)) (sym same) i, tt);
      distinct =
          subst (λ ws. are_distinct ws ≡ true) (append_assoc (declared_names p.globals) (function_names p.functions) (name ∷ []) ∙ ap (λ ws. declared_names p.globals ++ ws) (ap (λ w. function_names p.functions ++ (w ∷ [])) (sym same) ∙ sym (functions_append p.functions f)))
          (distinct_insert all [] name (subst (λ ws. are_distinct ws ≡ true) (sym (append-nil all)) h.distinct) (subst (IsNew name) (sym (append-nil all)) new));
      tags = h.tags;
      distinct_tags = h.distinct_tags;
      members = h.members;
    }

each_of_names : (fs gs : List CoreFunction) → function_names gs ≡ function_names fs → AllByRecursion (λ f. IsTrue (is_name f.name)) fs → AllByRecursion (λ f. IsTrue (is_name f.name)) gs
each_of_names fs gs e h = back gs (subst (AllByRecursion (λ w. IsTrue (is_name w))) (sym e) (each_name (λ w. IsTrue (is_name w)) (λ f. f.name) fs h))
  where
    back : (gs : List CoreFunction) → AllByRecursion (λ w. IsTrue (is_name w)) (function_names gs) → AllByRecursion (λ f. IsTrue (is_name f.name)) gs
    back [] h = tt
    back (g ∷ gs) h = (h.0, back gs h.1)

replaced_named : (p : Program) (n : ℕ) (f g : CoreFunction) → slice_get p.functions n ≡ Some f → g.name ≡ f.name → HasNames p → HasNames (record p { functions = replaced n g p.functions })
replaced_named p n f g e s h =
    let same : function_names (replaced n g p.functions) ≡ function_names p.functions = replaced_names n f g p.functions e s in
    record {
      globals = h.globals;
      functions = each_of_names p.functions (replaced n g p.functions) same h.functions;
      distinct = subst (λ ws. are_distinct (declared_names p.globals ++ ws) ≡ true) (sym same) h.distinct;
      tags = h.tags;
      distinct_tags = h.distinct_tags;
      members = h.members;
    }

pub function_named : (result : Spelled) (t : Leaf) (xs : List Parameter) (body : Option Statements) (p : Program) → IsName p.text t → HasNames p → WhereOk HasNames (function result t xs body p)
function_named result t xs body p i h =
    function_steps HasNames result t xs p body (record {
      same = λ e. h;
      more = λ f r ps d may e. prototype_named p (bytes p t) r ps f d.name i may.no_variable e h;
      instead = λ n f g r ps there named d may e. replaced_named p n f g there (d.name ∙ sym named) h;
    })
