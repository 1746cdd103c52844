-- A program of a source has shallow types, and its functions have no annotations, short calls and statements that nest little.
use Rattle.std.proofs.Common.{◌≡◌, ℕ, suc, ◌≤◌, Bool, true, false, List, [], ◌∷◌, ◌++◌, map, length, Option, Some, None, refl, arith}
use Rattle.std.specs.Prelude.{is_some}
use Rattle.std.specs.List.{AllByRecursion}
use Rattle.c_words.specs.declared.word.Leaf.{Leaf}
use Rattle.c_words.specs.declared.word.Mode.TheVariants as mode
use Rattle.step_meaning.specs.declared.value.CType.{CType, end_of-CType, more_of-CType}
use Rattle.step_meaning.specs.declared.value.CType.TheVariants as type
use Rattle.step_meaning.specs.declared.value.NameKind.TheVariants as names
use Rattle.step_meaning.specs.declared.stmt.Stmt.{Stmt}
use Rattle.step_meaning.specs.declared.program.Declared.{Declared as Named}
use Rattle.step_meaning.specs.declared.program.Function.{Function as CoreFunction}
use Rattle.step_meaning.specs.TermSizes.{type_depth}
use Rattle.step_meaning.specs.Sources.{is_bare, calls_are_short, full_nesting}
use Rattle.typing_rules.specs.declared.fault.TypeFault.TheVariants.{TooLarge}
use Rattle.typing_rules.specs.declared.operand.Entry.TheVariants as entry
use Rattle.typing_rules.specs.Checked.{unless}
use Rattle.typing_rules.specs.Syntax.{Spelled, Declarator, Declared, Members, Parameter, Statements, Item, Struct, Variables, Function, Meta, GhostVariable}
use Rattle.typing_rules.specs.Environment.{Environment, place_of, specified, spelled_type}
use Rattle.typing_rules.specs.Declarations.{layers, layered, count_of, declarable}
use Rattle.typing_rules.specs.Statements.{statements}
use Rattle.typing_rules.specs.FileScope.{Program, seen, seen_now, tags, bytes, file_scope, variable_entry, function_entry, numbered, first_values, with_variable, variable, variables}
use Rattle.typing_rules.specs.Structs.{member, member_list, all_members, tag_declarable, structure}
use Rattle.typing_rules.specs.Functions.{declares_allocation, adjusted, declared_name, parameter_entries, parameter_scope, with_parameters, parameter, parameters, function_number, declarable_function, without_name, prototype, defined_function, with_function, number_or, defined_as, function}
use Rattle.typing_rules.specs.Programs.{item, items, library, nameless}
use Rattle.typing_laws.specs.SmallTypes.{WhereOk}
use Rattle.typing_laws.specs.ShallowSyntax.{DeclaratorShallow, DeclaredShallow, AllDeclaredShallow, statements_turns, BodyShallow, ItemShallow, ItemsShallow}
use Rattle.typing_laws.proofs.CheckedValues.{then_holds, then_known}
use Rattle.typing_laws.proofs.EachOf.{each_append, each_weaker, each_numbered}
use Rattle.typing_laws.proofs.DefinedPrograms.{each_instead}
use Rattle.typing_laws.proofs.PlainObjects.{IsShallowType, ShallowMembers}
use Rattle.typing_laws.proofs.PlainExpressions.{EntryShallow, ScopeShallow, EnvironmentShallow, specified_deep, spelled_deep}
use Rattle.typing_laws.proofs.PlainDeclarations.{layers_counted, declared_shallow, Plain, AllPlain, Leaves}
use Rattle.typing_laws.proofs.PlainStatements.{statements_have}

-- ---- what is kept of a program

abbrev pub NamedShallow : List Named → Type 0
NamedShallow ds = AllByRecursion (λ d. IsShallowType 65 d.ctype) ds

pub record PlainStatement (s : Stmt) : Type 0 where
  pub bare : is_bare s ≡ true
  pub short : calls_are_short s ≡ true
  pub nested : full_nesting 1 s ≤ 500

abbrev pub PlainBody : Option (List Stmt) → Type 0
PlainBody None = Unit {0}
PlainBody (Some ss) = AllByRecursion PlainStatement ss

pub record PlainFunction (f : CoreFunction) : Type 0 where
  pub registers : f.registers ≡ []
  pub ghosts : f.ghosts ≡ []
  pub result : IsShallowType 66 f.result
  pub locals : NamedShallow f.locals
  pub body : PlainBody f.body

pub record PlainProgram (p : Program) : Type 0 where
  pub source : p.mode ≡ mode.Source
  pub members : ShallowMembers p.layouts
  pub globals : NamedShallow p.globals
  pub functions : AllByRecursion PlainFunction p.functions

file_shallow : (p : Program) → PlainProgram p → ScopeShallow (file_scope p)
unfolding file_scope
file_shallow p h =
    each_append (λ x. EntryShallow x.1) (numbered variable_entry 0 p.globals) _
    (each_numbered (λ d. IsShallowType 65 d.ctype) (λ x. EntryShallow x.1) variable_entry 0 p.globals (λ i d k. k) h.globals)
    (each_numbered PlainFunction (λ x. EntryShallow x.1) function_entry 0 p.functions (λ i f k. k.result) h.functions)

seen_shallow : (p : Program) (ts : List (List ℕ)) → PlainProgram p → EnvironmentShallow (seen p ts)
seen_shallow p ts h = record { names = (file_shallow p h, tt); members = h.members }

-- ---- variables

with_variable_plain : (p : Program) (name : List ℕ) (t : CType) → IsShallowType 65 t → PlainProgram p → PlainProgram (with_variable p name t)
with_variable_plain p name t l h = record { source = h.source; members = h.members; globals = each_append (λ d. IsShallowType 65 d.ctype) p.globals _ h.globals (l, tt); functions = h.functions }

variable_plain : (base : CType) (d : Declared) (p : Program) → type_depth base ≡ 1 → DeclaredShallow d → PlainProgram p → WhereOk PlainProgram (variable base d p)
unfolding variable
variable_plain base d p b c h =
    then_holds (λ ls. length ls ≡ length d.declarator.modifiers) PlainProgram (layers (seen_now p) (count_of d.initialiser) d.declarator.modifiers) _ (layers_counted (seen_now p) (count_of d.initialiser) d.declarator.modifiers) (λ ls k.
    then_known PlainProgram (declarable (seen_now p) _ _ _ false _ (layered ls base)) _ (λ u e.
    then_known PlainProgram (first_values (with_variable p (bytes p d.declarator.name) (layered ls base)) (layered ls base) d.initialiser) _ (λ vs i.
    let q : PlainProgram (with_variable p (bytes p d.declarator.name) (layered ls base)) = with_variable_plain p (bytes p d.declarator.name) (layered ls base) (declared_shallow ls d.declarator.modifiers base k c.0 b) h in
    record { source = q.source; members = q.members; globals = q.globals; functions = q.functions })))

variables_plain : (base : CType) (ds : List Declared) (p : Program) → type_depth base ≡ 1 → AllDeclaredShallow ds → PlainProgram p → WhereOk PlainProgram (variables base ds p)
unfolding variables
variables_plain base [] p b c h = h
variables_plain base (d ∷ ds) p b c h = then_holds PlainProgram PlainProgram (variable base d p) _ (variable_plain base d p b c.0 h) (λ p' k. variables_plain base ds p' b c.1 k)

-- ---- structs

module _ (g : Environment) where
  member_plain : (base : CType) (ms : List Named) (d : Declarator) → type_depth base ≡ 1 → DeclaratorShallow d → NamedShallow ms → WhereOk NamedShallow (member g base ms d)
  unfolding member
  member_plain base ms d b c h =
      then_holds (λ ls. length ls ≡ length d.modifiers) NamedShallow (layers g 1 d.modifiers) _ (layers_counted g 1 d.modifiers) (λ ls k.
      then_known NamedShallow (declarable g _ _ _ false _ (layered ls base)) _ (λ u e.
      each_append (λ d. IsShallowType 65 d.ctype) ms _ h (declared_shallow ls d.modifiers base k c b, tt)))

  member_list_plain : (base : CType) (ms : List Named) (ds : List Declarator) → type_depth base ≡ 1 → AllByRecursion DeclaratorShallow ds → NamedShallow ms → WhereOk NamedShallow (member_list g base ms ds)
  unfolding member_list
  member_list_plain base ms [] b c h = h
  member_list_plain base ms (d ∷ ds) b c h = then_holds NamedShallow NamedShallow (member g base ms d) _ (member_plain base ms d b c.0 h) (λ more k. member_list_plain base more ds b c.1 k)

  all_members_plain : (ms : List Named) (xs : List Members) → AllByRecursion (λ x. AllByRecursion DeclaratorShallow x.declarators) xs → NamedShallow ms → WhereOk NamedShallow (all_members g ms xs)
  unfolding all_members
  all_members_plain ms [] c h = h
  all_members_plain ms (x ∷ xs) c h =
      then_holds (λ t. type_depth t ≡ 1) NamedShallow (specified g x.specifier) _ (specified_deep g x.specifier) (λ base b.
      then_holds NamedShallow NamedShallow (member_list g base ms x.declarators) _ (member_list_plain base ms x.declarators b c.0 h) (λ more k. all_members_plain more xs c.1 k))

structure_plain : (tag : Leaf) (ms : List Members) (p : Program) → AllByRecursion (λ x. AllByRecursion DeclaratorShallow x.declarators) ms → PlainProgram p → WhereOk PlainProgram (structure tag ms p)
unfolding structure
structure_plain tag ms p c h =
    let g : Environment = seen p (tags p ++ (bytes p tag ∷ [])) in
    then_known PlainProgram (tag_declarable p tag) _ (λ u e.
    then_holds NamedShallow PlainProgram (all_members g [] ms) _ (all_members_plain g [] ms c tt) (λ members k.
    then_known PlainProgram (unless _ (TooLarge (place_of tag))) _ (λ u i.
    record { source = h.source; members = each_append (λ l. NamedShallow l.members) p.layouts _ h.members (k, tt); globals = h.globals; functions = h.functions })))

-- ---- parameters

adjusted_shallow : (t : CType) → IsShallowType 65 t → IsShallowType 65 (adjusted t)
adjusted_shallow (type.Array' b (more_of-CType t end_of-CType) n) h = h
adjusted_shallow type.Void h = h
adjusted_shallow (type.Int k) h = h
adjusted_shallow (type.Pointer' b t) h = h
adjusted_shallow (type.Struct n) h = h

entries_shallow : (n : ℕ) (ps : List Named) → NamedShallow ps → ScopeShallow (parameter_entries n ps)
entries_shallow n [] h = tt
entries_shallow n (d ∷ ds) h = each_append (λ x. EntryShallow x.1) (declared_name d.name _) _ (one d.name) (entries_shallow (suc n) ds h.1)
  where
    one : (name : List ℕ) → ScopeShallow (declared_name name (entry.Variable (record { kind = names.Local; index = n }) d.ctype))
    one [] = tt
    one (c ∷ cs) = (h.0, tt)

parameter_plain : (p : Program) (allocation : Bool) (ps : List Named) (x : Parameter) → length x.modifiers ≤ 64 → NamedShallow ps → WhereOk NamedShallow (parameter p allocation ps x)
unfolding parameter
parameter_plain p allocation ps x c h =
    then_holds (λ t. type_depth t ≡ 1) NamedShallow (specified (seen_now p) x.specifier) _ (specified_deep (seen_now p) x.specifier) (λ base b.
    then_holds (λ ls. length ls ≡ length x.modifiers) NamedShallow (layers (with_parameters (seen_now p) ps) 1 x.modifiers) _ (layers_counted (with_parameters (seen_now p) ps) 1 x.modifiers) (λ ls k.
    then_known NamedShallow (declarable (seen_now p) _ _ _ true _ (adjusted (layered ls base))) _ (λ u e.
    each_append (λ d. IsShallowType 65 d.ctype) ps _ h (adjusted_shallow (layered ls base) (declared_shallow ls x.modifiers base k c b), tt))))

parameters_plain : (p : Program) (allocation : Bool) (ps : List Named) (xs : List Parameter) → AllByRecursion (λ x. length x.modifiers ≤ 64) xs → NamedShallow ps → WhereOk NamedShallow (parameters p allocation ps xs)
unfolding parameters
parameters_plain p allocation ps [] c h = h
parameters_plain p allocation ps (x ∷ xs) c h = then_holds NamedShallow NamedShallow (parameter p allocation ps x) _ (parameter_plain p allocation ps x c.0 h) (λ qs k. parameters_plain p allocation qs xs c.1 k)

-- ---- functions

nameless_shallow : (ps : List Named) → NamedShallow ps → NamedShallow (map without_name ps)
nameless_shallow [] h = tt
nameless_shallow (d ∷ ds) h = (h.0, nameless_shallow ds h.1)

prototype_plain : (name : List ℕ) (r : CType) (ps : List Named) → IsShallowType 66 r → NamedShallow ps → PlainFunction (prototype name r ps)
prototype_plain name r ps l h = record { registers = refl; ghosts = refl; result = l; locals = nameless_shallow ps h; body = tt }

with_function_plain : (p : Program) (name : List ℕ) (r : CType) (ps : List Named) (n : Option ℕ) → IsShallowType 66 r → NamedShallow ps → PlainProgram p → PlainProgram (with_function p name r ps n)
with_function_plain p name r ps None l k h = record { source = h.source; members = h.members; globals = h.globals; functions = each_append PlainFunction p.functions _ h.functions (prototype_plain name r ps l k, tt) }
with_function_plain p name r ps (Some n) l k h = h

defined_plain : (p : Program) (n : ℕ) (name : List ℕ) (r : CType) (ps : List Named) (body : Option Statements) → BodyShallow body → IsShallowType 66 r → NamedShallow ps → PlainProgram p → WhereOk PlainProgram (defined_as p n name r ps body)
unfolding defined_as
defined_plain p n name r ps None c l k h = h
defined_plain p n name r ps (Some body) c l k h =
    then_holds (Leaves (AllPlain (λ m. statements_turns m body))) PlainProgram (statements (seen_now p) r false body (record { locals = ps; scopes = parameter_scope ps ∷ [] })) _
    (statements_have (seen_now p) r (seen_shallow p (tags p) h) h.source body c.0 false (record { locals = ps; scopes = parameter_scope ps ∷ [] }) (record { names = (entries_shallow 0 ps k, tt); locals = k })) (λ done d.
    record {
      source = h.source;
      members = h.members;
      globals = h.globals;
      functions =
          each_instead PlainFunction n (defined_function name r ps done.1 done.0) p.functions
          (record { registers = refl; ghosts = refl; result = l; locals = d.1.locals; body = each_weaker (Plain (λ m. statements_turns m body)) PlainStatement done.0 (λ s i. whole s i) d.0 }) h.functions;
    })
  where
    whole : (s : Stmt) → Plain (λ m. statements_turns m body) s → PlainStatement s
    whole s i = record { bare = i.bare; short = i.short; nested = let a : full_nesting 1 s ≤ statements_turns 1 body = i.nested 1 1 (omega arith) in let b : statements_turns 1 body ≤ 500 = c.1 in omega arith }

function_plain : (result : Spelled) (t : Leaf) (xs : List Parameter) (body : Option Statements) (p : Program) → ItemShallow (Function result t xs body) → PlainProgram p → WhereOk PlainProgram (function result t xs body p)
unfolding function
function_plain result t xs body p c h =
    then_holds (λ (r : CType). type_depth r ≡ suc result.stars) PlainProgram (spelled_type (seen_now p) result) _ (spelled_deep (seen_now p) result) (λ r e.
    then_holds NamedShallow PlainProgram (parameters p (declares_allocation (bytes p t) (is_some body)) [] xs) _ (parameters_plain p (declares_allocation (bytes p t) (is_some body)) [] xs c.1 tt) (λ ps k.
    then_known PlainProgram (declarable_function p t r ps (is_some body)) _ (λ u i.
    let l : IsShallowType 66 r = below (type_depth r) result.stars e c.0 in
    let number : Option ℕ = function_number p.functions (bytes p t) in
    defined_plain (with_function p (bytes p t) r ps number) (number_or number (length p.functions)) (bytes p t) r ps body c.2 l k (with_function_plain p (bytes p t) r ps number l k h))))
  where
    below : (d s : ℕ) → d ≡ suc s → s ≤ 65 → d ≤ 66
    below d s e l = omega arith

-- ---- items

item_plain : (x : Item) (p : Program) → ItemShallow x → PlainProgram p → WhereOk PlainProgram (item x p)
unfolding item
item_plain (Struct tag ms ds) p c h = then_holds PlainProgram PlainProgram (structure tag ms p) _ (structure_plain tag ms p c.0 h) (λ p' k. variables_plain (type.Struct (length p.layouts)) ds p' refl c.1 k)
item_plain (Variables x ds) p c h = then_holds (λ t. type_depth t ≡ 1) PlainProgram (specified (seen_now p) x) _ (specified_deep (seen_now p) x) (λ base b. variables_plain base ds p b c h)
item_plain (Function r t xs body) p c h = function_plain r t xs body p c h
item_plain (Meta t) p c h = h
item_plain (GhostVariable t) p c h = h

pub items_plain : (xs : List Item) (p : Program) → ItemsShallow xs → PlainProgram p → WhereOk PlainProgram (items xs p)
unfolding items
items_plain [] p c h = h
items_plain (x ∷ xs) p c h = then_holds PlainProgram PlainProgram (item x p) _ (item_plain x p c.0 h) (λ p' k. items_plain xs p' c.1 k)

pub library_plain : AllByRecursion PlainFunction library
library_plain = (
  prototype_plain _ _ [] (omega arith) tt,
  (
    prototype_plain _ _ (nameless _ ∷ []) (omega arith) (omega arith, tt),
    (
      prototype_plain _ _ (nameless _ ∷ []) (omega arith) (omega arith, tt),
      (prototype_plain _ _ (nameless _ ∷ []) (omega arith) (omega arith, tt), tt),
    ),
  ),
)
