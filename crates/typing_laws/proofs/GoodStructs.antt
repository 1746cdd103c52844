-- Definitions of structs keep a program good.
use Rattle.std.proofs.Common.{◌≡◌, ℕ, suc, ◌+◌, ◌≤◌, true, false, not, List, [], ◌∷◌, ◌++◌, length, sum_by, refl, sym, ap, subst, ◌∙◌, arith, append_assoc, append-nil, length-append}
use Rattle.std.specs.Prelude.{nat_le}
use Rattle.std.specs.List.{list_all}
use Rattle.std.proofs.lemmas.Bool.{le-leb}
use Rattle.c_words.specs.declared.word.Leaf.{Leaf}
use Rattle.step_meaning.specs.declared.value.CType.{CType, end_of-CType, more_of-CType}
use Rattle.step_meaning.specs.declared.value.CType.TheVariants as type
use Rattle.step_meaning.specs.declared.program.Declared.{Declared as Named}
use Rattle.step_meaning.specs.declared.program.Layout.{Layout}
use Rattle.step_meaning.specs.TypeRules.{cells, most_cells, is_object_type, keeps_rules, is_layout_after, are_layouts_after}
use Rattle.step_meaning.proofs.Ranges.{false_is_not_true, and_true, left_of_and, right_of_and}
use Rattle.step_meaning.proofs.LaterLayouts.{still_keeps}
use Rattle.typing_rules.specs.declared.fault.TypeFault.TheVariants.{TooLarge}
use Rattle.typing_rules.specs.Checked.{unless}
use Rattle.typing_rules.specs.Syntax.{Declarator, Members}
use Rattle.typing_rules.specs.Environment.{Environment, place_of, bytes_in, is_reserved, specified}
use Rattle.typing_rules.specs.Declarations.{layers, layered, is_complete, is_complete_in}
use Rattle.typing_rules.specs.FileScope.{Program, tags, seen, bytes}
use Rattle.typing_rules.specs.Structs.{has_member, member, member_list, all_members, tag_declarable, with_layout, structure}
use Rattle.typing_rules.proofs.ObjectTypes.{has_elements}
use Rattle.typing_laws.specs.SmallTypes.{WhereOk}
use Rattle.typing_laws.specs.ParsedSyntax.{DeclaresSome, HasMember}
use Rattle.typing_laws.proofs.CheckedValues.{then_holds, then_known}
use Rattle.typing_laws.proofs.EachOf.{each_weaker, all_append}
use Rattle.typing_laws.proofs.DeclaredNames.{not_false, declared_then, unless_holds}
use Rattle.typing_laws.proofs.DeclaredTypes.{HaveSizes, layers_fit, layered_elements, specified_elements, declared_keeps}
use Rattle.typing_laws.proofs.LaterTypes.{still_complete}
use Rattle.typing_laws.proofs.SmallPrograms.{tags_counted}
use Rattle.typing_laws.proofs.TypedValues.{is_value_type}
use Rattle.typing_laws.proofs.GrowingPrograms.{Good, Goes, layout_leads}

-- ---- members

-- members of a struct after these, so many or more
record MembersRight (ls : List Layout) (n : ℕ) (ms : List Named) : Type 0 where
  keep : list_all (λ d. is_object_type ls (suc (length ls)) d.ctype) ms ≡ true
  count : n ≤ length ms

fewer : (ls : List Layout) (n m : ℕ) (ms : List Named) → m ≤ n → MembersRight ls n ms → MembersRight ls m ms
fewer ls n m ms l h = record { keep = h.keep; count = let c : n ≤ length ms = h.count in omega arith }

-- in an environment where the struct's own tag is known besides
module _ (g : Environment) (known : length g.tags ≡ suc (length g.layouts)) where
  abbrev R : ℕ → List Named → Type 0
  R n ms = MembersRight g.layouts n ms

  member_right : (base : CType) (n : ℕ) (ms : List Named) (d : Declarator) → has_elements base ≡ true → R n ms → WhereOk (R (suc n)) (member g base ms d)
  unfolding member
  member_right base n ms d b h =
      then_holds HaveSizes (R (suc n)) (layers g 1 d.modifiers) _ (layers_fit g 1 d.modifiers refl) (λ ls sizes.
      let name : List ℕ = bytes_in g d.name in
      let t : CType = layered ls base in
      declared_then (R (suc n)) g (place_of d.name) (has_member g ms name) (not (is_complete_in g t)) false (is_reserved g name) t _ (λ may.
      let complete : is_complete (length g.layouts) (suc (length g.layouts)) t ≡ true = subst (λ k. is_complete (length g.layouts) k t ≡ true) known (not_false (is_complete_in g t) may.right) in
      record {
        keep = all_append (λ d. is_object_type g.layouts (suc (length g.layouts)) d.ctype) ms _ h.keep (and_true (declared_keeps g.layouts (suc (length g.layouts)) t (layered_elements ls base sizes b) complete may.small) refl);
        count = longer ms (record { name = name; ctype = t }) n h.count;
      }))
    where
      longer : (ms : List Named) (d : Named) (n : ℕ) → n ≤ length ms → suc n ≤ length (ms ++ (d ∷ []))
      longer ms d n l = omega (arith, length-append ms (d ∷ []))

  member_list_right : (base : CType) (n : ℕ) (ms : List Named) (ds : List Declarator) → has_elements base ≡ true → R n ms → WhereOk (R n) (member_list g base ms ds)
  unfolding member_list
  member_list_right base n ms [] b h = h
  member_list_right base n ms (d ∷ ds) b h =
      then_holds (R (suc n)) (R n) (member g base ms d) _ (member_right base n ms d b h) (λ more k. member_list_right base n more ds b (fewer g.layouts (suc n) n more (omega arith) k))

  some_member_right : (base : CType) (ms : List Named) (ds : List Declarator) → has_elements base ≡ true → DeclaresSome [] ds → R 0 ms → WhereOk (R 1) (member_list g base ms ds)
  unfolding member_list
  some_member_right base ms [] b c h = absurd c
  some_member_right base ms (d ∷ ds) b c h = then_holds (R 1) (R 1) (member g base ms d) _ (member_right base 0 ms d b h) (λ more k. member_list_right base 1 more ds b k)

  all_members_right : (n : ℕ) (ms : List Named) (xs : List Members) → R n ms → WhereOk (R n) (all_members g ms xs)
  unfolding all_members
  all_members_right n ms [] h = h
  all_members_right n ms (x ∷ xs) h =
      then_holds (λ t. has_elements t ≡ true) (R n) (specified g x.specifier) _ (specified_elements g x.specifier) (λ base b.
      then_holds (R n) (R n) (member_list g base ms x.declarators) _ (member_list_right base n ms x.declarators b h) (λ more k. all_members_right n more xs k))

  some_members_right : (xs : List Members) → HasMember [] xs → WhereOk (R 1) (all_members g [] xs)
  unfolding all_members
  some_members_right [] c = absurd c
  some_members_right (x ∷ xs) c =
      then_holds (λ t. has_elements t ≡ true) (R 1) (specified g x.specifier) _ (specified_elements g x.specifier) (λ base b.
      then_holds (R 1) (R 1) (member_list g base [] x.declarators) _ (some_member_right base [] x.declarators b c (record { keep = refl; count = omega arith })) (λ more k. all_members_right 1 more xs k))

-- ---- one more struct

layouts_append : (before ls : List Layout) (l : Layout) → are_layouts_after before ls ≡ true → is_layout_after (before ++ ls) l ≡ true → are_layouts_after before (ls ++ (l ∷ [])) ≡ true
layouts_append before [] l h k = and_true (subst (λ all. is_layout_after all l ≡ true) (append-nil before) k) refl
layouts_append before (x ∷ xs) l h k =
    and_true (left_of_and _ _ h) (layouts_append (before ++ (x ∷ [])) xs l (right_of_and _ _ h) (subst (λ all. is_layout_after all l ≡ true) (sym (append_assoc before (x ∷ []) xs)) k))

pub value_later : (c c' : ℕ) (t : CType) → c ≤ c' → is_value_type c t ≡ true → is_value_type c' t ≡ true
value_later c c' type.Void l e = refl
value_later c c' (type.Int k) l e = refl
value_later c c' (type.Pointer' b (more_of-CType type.Void end_of-CType)) l e = refl
value_later c c' (type.Pointer' b (more_of-CType (type.Int k) end_of-CType)) l e = still_complete c c' c c' (type.Int k) l l e
value_later c c' (type.Pointer' b (more_of-CType (type.Pointer' d t) end_of-CType)) l e = still_complete c c' c c' (type.Pointer' d t) l l e
value_later c c' (type.Pointer' b (more_of-CType (type.Array' d t n) end_of-CType)) l e = still_complete c c' c c' (type.Array' d t n) l l e
value_later c c' (type.Pointer' b (more_of-CType (type.Struct n) end_of-CType)) l e = still_complete c c' c c' (type.Struct n) l l e
value_later c c' (type.Array' b t n) l e = false_is_not_true e
value_later c c' (type.Struct n) l e = false_is_not_true e

with_layout_good : (p : Program) (name : List ℕ) (ms : List Named) → MembersRight p.layouts 1 ms → nat_le (sum_by (λ d. cells p.layouts d.ctype) ms) most_cells ≡ true → Good p → Goes p (with_layout p name ms)
with_layout_good p name ms m small h =
    let l : Layout = record { tag = name; members = ms } in
    let longer : length p.layouts ≤ length (p.layouts ++ (l ∷ [])) = omega (arith, length-append p.layouts (l ∷ [])) in
    record {
      good = record {
        right = record {
          structs = layouts_append [] p.layouts l h.right.structs (and_true (le-leb 1 (length ms) m.count) (and_true m.keep small));
          globals = each_weaker (λ d. keeps_rules p.layouts d.ctype ≡ true) (λ d. keeps_rules (p.layouts ++ (l ∷ [])) d.ctype ≡ true) p.globals (λ d k. still_keeps p.layouts (l ∷ []) (length p.layouts) (length (p.layouts ++ (l ∷ []))) d.ctype longer k) h.right.globals;
          results = each_weaker (λ f. is_value_type (length p.layouts) f.result ≡ true) (λ f. is_value_type (length (p.layouts ++ (l ∷ []))) f.result ≡ true) p.functions (λ f k. value_later (length p.layouts) (length (p.layouts ++ (l ∷ []))) f.result longer k) h.right.results;
          library = h.right.library;
        };
        rest = h.rest;
        functions = h.functions;
        sound = λ q done. let earlier = h.sound q (layout_leads p name ms q done) in record { initial = earlier.initial; functions = earlier.functions };
      };
      leads = layout_leads p name ms;
    }

pub structure_good : (tag : Leaf) (ms : List Members) (p : Program) → HasMember p.text ms → Good p → WhereOk (Goes p) (structure tag ms p)
unfolding structure
structure_good tag ms p c h =
    let g : Environment = seen p (tags p ++ (bytes p tag ∷ [])) in
    let n : length g.tags ≡ suc (length g.layouts) = length-append (tags p) (bytes p tag ∷ []) ∙ ap (λ k. k + 1) (tags_counted p) ∙ omega arith in
    then_known (Goes p) (tag_declarable p tag) _ (λ u e.
    then_holds (MembersRight p.layouts 1) (Goes p) (all_members g [] ms) _ (some_members_right g n ms c) (λ members k.
    then_holds (λ (u : Unit {0}). nat_le (sum_by (λ d. cells p.layouts d.ctype) members) most_cells ≡ true) (Goes p)
    (unless (not (nat_le (sum_by (λ d. cells p.layouts d.ctype) members) most_cells)) (TooLarge (place_of tag))) _
    (unless_holds (nat_le (sum_by (λ d. cells p.layouts d.ctype) members) most_cells ≡ true) _ _ (not_false (nat_le (sum_by (λ d. cells p.layouts d.ctype) members) most_cells)))
    (λ u l. with_layout_good p (bytes p tag) members k l h)))
