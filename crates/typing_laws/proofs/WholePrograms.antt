-- All items of a text keep a program whole: it is good, its names are distinct, and each function that has a body so far has it.
use Rattle.std.proofs.Common.{◌≡◌, ℕ, Bool, true, false, ◌||◌, not, List, [], ◌∷◌, ◌++◌, length, Option, Some, None, Ok, Err, refl, sym, subst, ◌∙◌}
use Rattle.std.specs.Prelude.{is_some, sum_by, nat_le}
use Rattle.std.specs.Str.{bytes_eq}
use Rattle.c_words.specs.declared.word.Leaf.{Leaf}
use Rattle.c_words.specs.declared.word.Mode.{Mode}
use Rattle.c_words.specs.Words as words
use Rattle.step_meaning.specs.declared.value.CType.{CType}
use Rattle.step_meaning.specs.declared.value.CType.TheVariants as type
use Rattle.step_meaning.specs.TypeRules.{cells, most_cells}
use Rattle.step_meaning.specs.Identifiers.{keywords, is_keyword}
use Rattle.step_meaning.proofs.Ranges.{false_is_not_true}
use Rattle.typing_rules.specs.declared.fault.TypeFault.TheVariants.{TooLarge}
use Rattle.typing_rules.specs.Checked.{Checked, unless}
use Rattle.typing_rules.specs.Syntax.{Spelled, Declared, Members, Parameter, Statements, Item, Struct, Variables, Function, Meta, GhostVariable}
use Rattle.typing_rules.specs.Environment.{contains, place_of, specified}
use Rattle.typing_rules.specs.Environment.{is_reserved}
use Rattle.typing_rules.specs.Declarations.{layers, layered, count_of, is_complete_in}
use Rattle.typing_rules.specs.FileScope.{Program, seen, seen_now, tags, bytes, is_known, is_main_name, first_values, with_variable, variable, variables}
use Rattle.typing_laws.proofs.DeclaredNames.{declared_then}
use Rattle.typing_rules.specs.Structs.{all_members, tag_declarable, structure}
use Rattle.typing_rules.specs.Functions.{function}
use Rattle.typing_rules.specs.Programs.{item, items, body_names, library, start}
use Rattle.typing_rules.proofs.ObjectTypes.{has_elements}
use Rattle.typing_laws.specs.SmallTypes.{WhereOk}
use Rattle.typing_laws.specs.ParsedSyntax.{AllDeclaredParsed, ItemParsed, ItemsParsed}
use Rattle.typing_laws.proofs.CheckedValues.{then_holds, then_known, weaker}
use Rattle.typing_laws.proofs.DeclaredTypes.{specified_elements}
use Rattle.typing_laws.proofs.GrowingPrograms.{Good, Goes}
use Rattle.typing_laws.proofs.GoodVariables.{variables_good}
use Rattle.typing_laws.proofs.GoodStructs.{structure_good}
use Rattle.typing_laws.proofs.GoodFunctions.{library_of, function_good}
use Rattle.typing_laws.proofs.FunctionSteps.{function_steps}
use Rattle.typing_laws.proofs.NamedPrograms.{HasNames, variables_named, structure_named, function_named}
use Rattle.typing_laws.proofs.DefinedPrograms.{Defined, with_defined, function_defined}

-- ---- what no item changes

pub record SameText (p p' : Program) : Type 0 where
  pub text : p'.text ≡ p.text
  pub bodies : p'.bodies ≡ p.bodies

same_itself : (p : Program) → SameText p p
same_itself p = record { text = refl; bodies = refl }

same_on : (p p' p'' : Program) → SameText p p' → SameText p' p'' → SameText p p''
same_on p p' p'' a b = record { text = b.text ∙ a.text; bodies = b.bodies ∙ a.bodies }

-- a declaration of variables changes no function either
record SameFunctions (p p' : Program) : Type 0 where
  same : SameText p p'
  functions : p'.functions ≡ p.functions

variable_same : (base : CType) (d : Declared) (p : Program) → WhereOk (SameFunctions p) (variable base d p)
unfolding variable
variable_same base d p =
    then_known (SameFunctions p) (layers (seen_now p) (count_of d.initialiser) d.declarator.modifiers) _ (λ ls e.
    let name : List ℕ = bytes p d.declarator.name in
    let t : CType = layered ls base in
    declared_then (SameFunctions p) (seen_now p) (place_of d.declarator.name) (is_known p name) (is_main_name name || not (is_complete_in (seen_now p) t)) false (is_reserved (seen_now p) name) t _ (λ may.
    then_known (SameFunctions p) (first_values (with_variable p name t) t d.initialiser) _ (λ vs i. record { same = record { text = refl; bodies = refl }; functions = refl })))

variables_same : (base : CType) (ds : List Declared) (p : Program) → WhereOk (SameFunctions p) (variables base ds p)
unfolding variables
variables_same base [] p = record { same = same_itself p; functions = refl }
variables_same base (d ∷ ds) p =
    then_holds (SameFunctions p) (SameFunctions p) (variable base d p) _ (variable_same base d p) (λ p' a.
    weaker (SameFunctions p') (SameFunctions p) (variables base ds p') (λ p'' b. record { same = same_on p p' p'' a.same b.same; functions = b.functions ∙ a.functions }) (variables_same base ds p'))

structure_same : (tag : Leaf) (ms : List Members) (p : Program) → WhereOk (SameFunctions p) (structure tag ms p)
unfolding structure
structure_same tag ms p =
    then_known (SameFunctions p) (tag_declarable p tag) _ (λ u e.
    then_known (SameFunctions p) (all_members (seen p (tags p ++ (bytes p tag ∷ []))) [] ms) _ (λ members i.
    then_known (SameFunctions p) (unless (not (nat_le (sum_by (λ d. cells p.layouts d.ctype) members) most_cells)) (TooLarge (place_of tag))) _ (λ u j. record { same = record { text = refl; bodies = refl }; functions = refl })))

function_same : (result : Spelled) (t : Leaf) (xs : List Parameter) (body : Option Statements) (p : Program) → WhereOk (SameText p) (function result t xs body p)
function_same result t xs body p =
    function_steps (SameText p) result t xs p body (record {
      same = λ e. same_itself p;
      more = λ f r ps d may e. record { text = refl; bodies = refl };
      instead = λ n f g r ps there named d may e. record { text = refl; bodies = refl };
    })

-- ---- whole programs

-- of this text, with these names that have bodies in it, of which those so far are done
pub record Whole (text : List ℕ) (names done : List (List ℕ)) (p : Program) : Type 0 where
  pub good : Good p
  pub named : HasNames p
  pub defined : Defined done p.functions
  pub same_text : p.text ≡ text
  pub same_bodies : p.bodies ≡ names

abbrev pub after_item : List ℕ → Item → List (List ℕ) → List (List ℕ)
after_item text (Function r t ps body) done = with_defined (is_some body) (words.bytes_of text t.token) done
after_item text _ done = done

module _ (text : List ℕ) (names : List (List ℕ)) where
  declared_whole : (base : CType) (ds : List Declared) (done : List (List ℕ)) (p : Program) → has_elements base ≡ true → AllDeclaredParsed text ds → Whole text names done p → WhereOk (Whole text names done) (variables base ds p)
  declared_whole base ds done p b c h =
      let c' : AllDeclaredParsed p.text ds = subst (λ text. AllDeclaredParsed text ds) (sym h.same_text) c in
      all_of (Goes p) HasNames (SameFunctions p) (Whole text names done) (variables base ds p) (variables_good base ds p b c' h.good) (variables_named base ds p c' h.named) (variables_same base ds p)
      (λ p' g n s. record { good = g.good; named = n; defined = subst (Defined done) (sym s.functions) h.defined; same_text = s.same.text ∙ h.same_text; same_bodies = s.same.bodies ∙ h.same_bodies })
    where
      all_of : {A : Type 0} (P Q R S : A → Type 0) (c : Checked A) → WhereOk P c → WhereOk Q c → WhereOk R c → ((a : A) → P a → Q a → R a → S a) → WhereOk S c
      all_of P Q R S (Ok a) h i j k = k a h i j
      all_of P Q R S (Err e) h i j k = tt

  struct_whole : (tag : Leaf) (ms : List Members) (done : List (List ℕ)) (p : Program) → ItemParsed text (Struct tag ms []) → Whole text names done p → WhereOk (Whole text names done) (structure tag ms p)
  struct_whole tag ms done p c h =
      all_of (Goes p) HasNames (SameFunctions p) (Whole text names done) (structure tag ms p)
      (structure_good tag ms p (c' h.same_text c).1 h.good) (structure_named tag ms p (c' h.same_text c).0 (c' h.same_text c).2 h.named) (structure_same tag ms p)
      (λ p' g n s. record { good = g.good; named = n; defined = subst (Defined done) (sym s.functions) h.defined; same_text = s.same.text ∙ h.same_text; same_bodies = s.same.bodies ∙ h.same_bodies })
    where
      all_of : {A : Type 0} (P Q R S : A → Type 0) (c : Checked A) → WhereOk P c → WhereOk Q c → WhereOk R c → ((a : A) → P a → Q a → R a → S a) → WhereOk S c
      all_of P Q R S (Ok a) h i j k = k a h i j
      all_of P Q R S (Err e) h i j k = tt

      c' : p.text ≡ text → ItemParsed text (Struct tag ms []) → ItemParsed p.text (Struct tag ms [])
      c' e c = subst (λ text. ItemParsed text (Struct tag ms [])) (sym e) c

  function_whole : (result : Spelled) (t : Leaf) (xs : List Parameter) (body : Option Statements) (done : List (List ℕ)) (p : Program) → ItemParsed text (Function result t xs body) → Whole text names done p
      → WhereOk (Whole text names (with_defined (is_some body) (words.bytes_of text t.token) done)) (function result t xs body p)
  function_whole result t xs body done p c h =
      all_of (Goes p) HasNames (λ p'. Defined (with_defined (is_some body) (bytes p t) done) p'.functions) (SameText p) (Whole text names (with_defined (is_some body) (words.bytes_of text t.token) done)) (function result t xs body p)
      (function_good result t xs body p (c' h.same_text c).1 h.good) (function_named result t xs body p (c' h.same_text c).0 h.named) (function_defined result t xs body p done h.named h.defined) (function_same result t xs body p)
      (λ p' g n d s. record { good = g.good; named = n; defined = subst (λ text. Defined (with_defined (is_some body) (words.bytes_of text t.token) done) p'.functions) h.same_text d; same_text = s.text ∙ h.same_text; same_bodies = s.bodies ∙ h.same_bodies })
    where
      all_of : {A : Type 0} (P Q R S T : A → Type 0) (c : Checked A) → WhereOk P c → WhereOk Q c → WhereOk R c → WhereOk S c → ((a : A) → P a → Q a → R a → S a → T a) → WhereOk T c
      all_of P Q R S T (Ok a) h i j k l = l a h i j k
      all_of P Q R S T (Err e) h i j k l = tt

      c' : p.text ≡ text → ItemParsed text (Function result t xs body) → ItemParsed p.text (Function result t xs body)
      c' e c = subst (λ text. ItemParsed text (Function result t xs body)) (sym e) c

  item_whole : (x : Item) (done : List (List ℕ)) (p : Program) → ItemParsed text x → Whole text names done p → WhereOk (Whole text names (after_item text x done)) (item x p)
  unfolding item
  item_whole (Struct tag ms ds) done p c h =
      then_holds (Whole text names done) (Whole text names done) (structure tag ms p) _ (struct_whole tag ms done p (c.0, c.1, c.2, tt) h) (λ p' h'. declared_whole (type.Struct (length p.layouts)) ds done p' refl c.3 h')
  item_whole (Variables x ds) done p c h = then_holds (λ t. has_elements t ≡ true) (Whole text names done) (specified (seen_now p) x) _ (specified_elements (seen_now p) x) (λ base b. declared_whole base ds done p b c h)
  item_whole (Function r t xs body) done p c h = function_whole r t xs body done p c h
  item_whole (Meta t) done p c h = h
  item_whole (GhostVariable t) done p c h = h

  -- the names that have bodies after these items
  abbrev pub after_items : List Item → List (List ℕ) → List (List ℕ)
  after_items [] done = done
  after_items (x ∷ xs) done = after_items xs (after_item text x done)

  pub items_whole : (xs : List Item) (done : List (List ℕ)) (p : Program) → ItemsParsed text xs → Whole text names done p → WhereOk (Whole text names (after_items xs done)) (items xs p)
  unfolding items
  items_whole [] done p c h = h
  items_whole (x ∷ xs) done p c h = then_holds (Whole text names (after_item text x done)) (Whole text names (after_items (x ∷ xs) done)) (item x p) _ (item_whole x done p c.0 h) (λ p' h'. items_whole xs (after_item text x done) p' c.1 h')

  -- ---- all names with bodies are done in the end

  -- among the names that are done, or those of these items
  abbrev IsAmong : List (List ℕ) → List Item → List ℕ → Type 0
  IsAmong done xs name = (contains done name || contains (body_names text xs) name) ≡ true

  moved : (a b c : Bool) → (a || (b || c)) ≡ true → ((b || a) || c) ≡ true
  moved true true c h = refl
  moved true false c h = refl
  moved false true c h = refl
  moved false false c h = h

  no_more : (a : Bool) → (a || false) ≡ true → a ≡ true
  no_more true h = refl
  no_more false h = h

  pub all_done : (xs : List Item) (done : List (List ℕ)) (name : List ℕ) → IsAmong done xs name → contains (after_items xs done) name ≡ true
  all_done [] done name h = no_more (contains done name) h
  all_done (Function r t ps (Some b) ∷ xs) done name h =
      all_done xs (words.bytes_of text t.token ∷ done) name (moved (contains done name) (bytes_eq name (words.bytes_of text t.token)) (contains (body_names text xs) name) h)
  all_done (Function r t ps None ∷ xs) done name h = all_done xs done name h
  all_done (Struct tag ms ds ∷ xs) done name h = all_done xs done name h
  all_done (Variables x ds ∷ xs) done name h = all_done xs done name h
  all_done (Meta t ∷ xs) done name h = all_done xs done name h
  all_done (GhostVariable t ∷ xs) done name h = all_done xs done name h

-- ---- the start of a text

pub start_whole : (m : Mode) (text : List ℕ) (all : List Item) → Whole text (body_names text all) [] (start m text all)
unfolding keywords is_keyword
start_whole m text all = record {
  good = record {
    right = record { structs = refl; globals = tt; results = (refl, (refl, (refl, (refl, tt)))); library = library_of library [] refl };
    rest = [];
    functions = refl;
    sound = λ q done. record { initial = tt; functions = tt };
  };
  named = record { globals = tt; functions = (refl, (refl, (refl, (refl, tt)))); distinct = refl; tags = tt; distinct_tags = refl; members = tt };
  defined = record {
    bodies = ((λ e. false_is_not_true e), ((λ e. false_is_not_true e), ((λ e. false_is_not_true e), ((λ e. false_is_not_true e), tt))));
    there = tt;
    mains = ((λ e. false_is_not_true e), ((λ e. false_is_not_true e), ((λ e. false_is_not_true e), ((λ e. false_is_not_true e), tt))));
  };
  same_text = refl;
  same_bodies = refl;
}
