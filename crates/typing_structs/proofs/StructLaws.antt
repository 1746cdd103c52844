-- Structs keep a program steady.
use Rattle.std.proofs.Common.{◌≡◌, ◌≢◌, ℕ, suc, ◌+◌, ◌-◌, ◌≤◌, Bool, true, false, not, List, [], ◌∷◌, ◌++◌, length, sum_by, Ok, Err, refl, sym, ap, subst, ◌∙◌, arith, append_assoc, append-nil, length-append}
use Rattle.std.specs.Prelude.{nat_le}
use Rattle.std.specs.List.{list_all}
use Rattle.std.proofs.lemmas.Bool.{le-leb, leb-true}
use Rattle.std.proofs.lemmas.List.{map-append}
use Rattle.c_words.specs.declared.word.Leaf.{Leaf}
use Rattle.step_meaning.specs.declared.value.CType.{CType}
use Rattle.step_meaning.specs.declared.program.Declared.{Declared as Named}
use Rattle.step_meaning.specs.declared.program.Layout.{Layout}
use Rattle.step_meaning.specs.TypeRules.{cells, most_cells, is_object_type, keeps_rules, is_layout_after, are_layouts_after}
use Rattle.step_meaning.proofs.Ranges.{and_true, left_of_and, right_of_and}
use Rattle.step_meaning.proofs.LaterLayouts.{still_keeps}
use Rattle.typing_rules.specs.declared.fault.TypeFault.{TypeFault}
use Rattle.typing_rules.specs.declared.fault.TypeFault.TheVariants.{TooLarge}
use Rattle.typing_rules.specs.Checked.{◌>>=◌, unless}
use Rattle.typing_rules.specs.Syntax.{Declarator, Members}
use Rattle.typing_rules.specs.Environment.{Environment, place_of, bytes_in, contains, is_reserved, specified}
use Rattle.typing_rules.specs.Declarations.{layers, layered, is_complete, is_complete_in}
use Rattle.typing_rules.specs.FileScope.{Program, tags, seen, seen_now, bytes}
use Rattle.typing_rules.specs.Structs.{has_member, member, member_list, all_members, tag_declarable, with_layout, structure}
use Rattle.typing_rules.proofs.ObjectTypes.{has_elements}
use Rattle.typing_laws.specs.SmallTypes.{WhereOk, IsSmall}
use Rattle.typing_laws.specs.SmallPrograms.{is_small_object}
use Rattle.typing_laws.proofs.CheckedValues.{then_holds, where_ok}
use Rattle.typing_laws.proofs.EachOf.{each_weaker, all_append}
use Rattle.typing_laws.proofs.DeclaredNames.{not_false, none_left, none_then, unless_holds, declared_then}
use Rattle.typing_laws.proofs.DeclaredTypes.{HaveSizes, layers_fit, layered_elements, specified_elements, declared_keeps}
use Rattle.typing_laws.proofs.SmallPrograms.{tags_counted, seen_small, with_layout_small}
use Rattle.typing_declarators.specs.Types.{StructsHaveCells}
use Rattle.typing_scopes.specs.declared.known.Known.{Known}
use Rattle.typing_scopes.specs.Known.{program, known, state}
use Rattle.typing_scopes.specs.States.{environment}
use Rattle.typing_files.specs.Points.{IsSteady, IsAtFile}
use Rattle.typing_files.proofs.Points.{cells_there}
use Rattle.typing_structs.specs.Structs.{within, limited, IsInStruct}

-- ---- members

-- members of a struct after these
record MembersKeep (ls : List Layout) (ms : List Named) : Type 0 where
  keep : list_all (λ d. is_object_type ls (suc (length ls)) d.ctype) ms ≡ true
  small : list_all (λ d. is_small_object ls (suc (length ls)) d.ctype) ms ≡ true

-- in an environment where the struct's own tag is known besides
module _ (g : Environment) (known : length g.tags ≡ suc (length g.layouts)) where
  abbrev K : List Named → Type 0
  K ms = MembersKeep g.layouts ms

  member_keeps : (base : CType) (ms : List Named) (d : Declarator) → has_elements base ≡ true → K ms → WhereOk K (member g base ms d)
  unfolding member
  member_keeps base ms d b h =
      then_holds HaveSizes K (layers g 1 d.modifiers) _ (layers_fit g 1 d.modifiers refl) (λ ls sizes.
      let name : List ℕ = bytes_in g d.name in
      let t : CType = layered ls base in
      declared_then K g (place_of d.name) (has_member g ms name) (not (is_complete_in g t)) false (is_reserved g name) t _ (λ may.
      let complete : is_complete (length g.layouts) (suc (length g.layouts)) t ≡ true = subst (λ k. is_complete (length g.layouts) k t ≡ true) known (not_false (is_complete_in g t) may.right) in
      record {
        keep = all_append (λ d. is_object_type g.layouts (suc (length g.layouts)) d.ctype) ms _ h.keep (and_true (declared_keeps g.layouts (suc (length g.layouts)) t (layered_elements ls base sizes b) complete may.small) refl);
        small = all_append (λ d. is_small_object g.layouts (suc (length g.layouts)) d.ctype) ms _ h.small (and_true (and_true complete may.small) refl);
      }))

  member_list_keeps : (base : CType) (ms : List Named) (ds : List Declarator) → has_elements base ≡ true → K ms → WhereOk K (member_list g base ms ds)
  unfolding member_list
  member_list_keeps base ms [] b h = h
  member_list_keeps base ms (d ∷ ds) b h = then_holds K K (member g base ms d) _ (member_keeps base ms d b h) (λ more k. member_list_keeps base more ds b k)

  all_members_keep : (ms : List Named) (xs : List Members) → K ms → WhereOk K (all_members g ms xs)
  unfolding all_members
  all_members_keep ms [] h = h
  all_members_keep ms (x ∷ xs) h =
      then_holds (λ t. has_elements t ≡ true) K (specified g x.specifier) _ (specified_elements g x.specifier) (λ base b.
      then_holds K K (member_list g base ms x.declarators) _ (member_list_keeps base ms x.declarators b h) (λ more k. all_members_keep more xs k))

-- ---- one more struct

layouts_append : (before ls : List Layout) (l : Layout) → are_layouts_after before ls ≡ true → is_layout_after (before ++ ls) l ≡ true → are_layouts_after before (ls ++ (l ∷ [])) ≡ true
layouts_append before [] l h k = and_true (subst (λ all. is_layout_after all l ≡ true) (append-nil before) k) refl
layouts_append before (x ∷ xs) l h k =
    and_true (left_of_and _ _ h) (layouts_append (before ++ (x ∷ [])) xs l (right_of_and _ _ h) (subst (λ all. is_layout_after all l ≡ true) (sym (append_assoc before (x ∷ []) xs)) k))

with_layout_steady : (p : Program) (name : List ℕ) (ms : List Named) → MembersKeep p.layouts ms → 1 ≤ length ms → nat_le (sum_by (λ d. cells p.layouts d.ctype) ms) most_cells ≡ true → IsSteady p → IsSteady (with_layout p name ms)
with_layout_steady p name ms m some small h =
    let l : Layout = record { tag = name; members = ms } in
    let longer : length p.layouts ≤ length (p.layouts ++ (l ∷ [])) = omega (arith, length-append p.layouts (l ∷ [])) in
    record {
      small = with_layout_small p name ms m.small small h.small;
      structs = layouts_append [] p.layouts l h.structs (and_true (le-leb 1 (length ms) some) (and_true m.keep small));
      globals = each_weaker (λ d. keeps_rules p.layouts d.ctype ≡ true) (λ d. keeps_rules (p.layouts ++ (l ∷ [])) d.ctype ≡ true) p.globals (λ d k. still_keeps p.layouts (l ∷ []) (length p.layouts) (length (p.layouts ++ (l ∷ []))) d.ctype longer k) h.globals;
      names = h.names;
    }

tags_within : (p : Program) (tag : Leaf) → length (tags p ++ (bytes p tag ∷ [])) ≡ suc (length p.layouts)
tags_within p tag = length-append (tags p) (bytes p tag ∷ []) ∙ ap (λ k. k + 1) (tags_counted p) ∙ omega arith

-- the struct with these members
pub structure_steady : (p : Program) (tag : Leaf) (xs : List Members) (ms : List Named) → IsSteady p → all_members (within p tag) [] xs ≡ Ok ms → 1 ≤ length ms → nat_le (sum_by (λ d. cells p.layouts d.ctype) ms) most_cells ≡ true → IsSteady (with_layout p (bytes p tag) ms)
unfolding within
structure_steady p tag xs ms h e some small =
    let g : Environment = seen p (tags p ++ (bytes p tag ∷ [])) in
    with_layout_steady p (bytes p tag) ms (where_ok (MembersKeep p.layouts) (all_members g [] xs) ms e (all_members_keep g (tags_within p tag) [] xs (record { keep = refl; small = refl }))) some small h

-- ---- its tag, and its limit

pub tag_new : (p : Program) (tag : Leaf) → tag_declarable p tag ≡ Ok tt → contains (tags p) (bytes p tag) ≡ false
tag_new p tag e =
    let A : Type 0 = contains (tags p) (bytes p tag) ≡ false in
    where_ok (λ (u : Unit {0}). A) (tag_declarable p tag) tt e (none_then A (contains (tags p) (bytes p tag)) _ _ (λ new. none_then A (is_reserved (seen_now p) (bytes p tag)) _ _ (λ own. none_left A new)))

over : (n : ℕ) (b : Bool) → nat_le n most_cells ≡ b → 65537 - n ≡ 0 → not b ≡ true
over n false e h = refl
over n true e h = absurd (let low : n ≤ 65536 = leb-true n most_cells e in omega arith)

under : (n : ℕ) → 65537 - n ≢ 0 → nat_le n most_cells ≡ true
under n h = le-leb n most_cells (omega arith)

pub too_large : (p : Program) (tag : Leaf) (ms : List Named) → 65537 - sum_by (λ d. cells p.layouts d.ctype) ms ≡ 0 → limited p tag ms ≡ Err (TooLarge (place_of tag))
unfolding unless
too_large p tag ms h =
    let n : ℕ = sum_by (λ d. cells p.layouts d.ctype) ms in
    ap (λ b. unless b (TooLarge (place_of tag))) (over n (nat_le n most_cells) refl h)

pub within_limit : (p : Program) (tag : Leaf) (ms : List Named) → 65537 - sum_by (λ d. cells p.layouts d.ctype) ms ≢ 0 → limited p tag ms ≡ Ok tt
unfolding unless
within_limit p tag ms h =
    let n : ℕ = sum_by (λ d. cells p.layouts d.ctype) ms in
    ap (λ b. unless (not b) (TooLarge (place_of tag))) (under n h)

pub within_cells : (p : Program) (tag : Leaf) (ms : List Named) → limited p tag ms ≡ Ok tt → nat_le (sum_by (λ d. cells p.layouts d.ctype) ms) most_cells ≡ true
within_cells p tag ms e =
    let n : ℕ = sum_by (λ d. cells p.layouts d.ctype) ms in
    let A : Type 0 = nat_le n most_cells ≡ true in
    where_ok (λ (u : Unit {0}). A) (limited p tag ms) tt e (unless_holds A (not (nat_le n most_cells)) _ (λ h. not_false (nat_le n most_cells) h))

-- ---- a struct is its tag, its members, and its limit

pub structure_by : (tag : Leaf) (xs : List Members) (p : Program) → structure tag xs p ≡ (tag_declarable p tag >>= (λ u. all_members (within p tag) [] xs >>= (λ ms. limited p tag ms >>= (λ v. Ok (with_layout p (bytes p tag) ms)))))
unfolding structure within
structure_by tag xs p = refl

module _ (tag : Leaf) (xs : List Members) (p : Program) where
  pub structure_unnamed : (e : TypeFault) → tag_declarable p tag ≡ Err e → structure tag xs p ≡ Err e
  structure_unnamed e h = structure_by tag xs p ∙ ap (λ c. c >>= (λ u. all_members (within p tag) [] xs >>= (λ ms. limited p tag ms >>= (λ v. Ok (with_layout p (bytes p tag) ms))))) h

  named : tag_declarable p tag ≡ Ok tt → structure tag xs p ≡ (all_members (within p tag) [] xs >>= (λ ms. limited p tag ms >>= (λ v. Ok (with_layout p (bytes p tag) ms))))
  named h = structure_by tag xs p ∙ ap (λ c. c >>= (λ u. all_members (within p tag) [] xs >>= (λ ms. limited p tag ms >>= (λ v. Ok (with_layout p (bytes p tag) ms))))) h

  pub structure_unfilled : (e : TypeFault) → tag_declarable p tag ≡ Ok tt → all_members (within p tag) [] xs ≡ Err e → structure tag xs p ≡ Err e
  structure_unfilled e h k = named h ∙ ap (λ c. c >>= (λ ms. limited p tag ms >>= (λ v. Ok (with_layout p (bytes p tag) ms)))) k

  filled : (ms : List Named) → tag_declarable p tag ≡ Ok tt → all_members (within p tag) [] xs ≡ Ok ms → structure tag xs p ≡ (limited p tag ms >>= (λ v. Ok (with_layout p (bytes p tag) ms)))
  filled ms h k = named h ∙ ap (λ c. c >>= (λ ms. limited p tag ms >>= (λ v. Ok (with_layout p (bytes p tag) ms)))) k

  pub structure_unlimited : (ms : List Named) (e : TypeFault) → tag_declarable p tag ≡ Ok tt → all_members (within p tag) [] xs ≡ Ok ms → limited p tag ms ≡ Err e → structure tag xs p ≡ Err e
  structure_unlimited ms e h k l = filled ms h k ∙ ap (λ c. c >>= (λ v. Ok (with_layout p (bytes p tag) ms))) l

  pub structure_made : (ms : List Named) → tag_declarable p tag ≡ Ok tt → all_members (within p tag) [] xs ≡ Ok ms → limited p tag ms ≡ Ok tt → structure tag xs p ≡ Ok (with_layout p (bytes p tag) ms)
  structure_made ms h k l = filled ms h k ∙ ap (λ c. c >>= (λ v. Ok (with_layout p (bytes p tag) ms))) l

-- ---- points within the definition

pub sees_struct : (k : Known) (tag : Leaf) → IsInStruct k tag → known k ≡ within (program k) tag
unfolding within
sees_struct k tag at = ap (λ f. environment (record { program = program k; tags = k.tags; frame = f })) at.frame ∙ ap (λ ts. seen (program k) ts) at.tags

pub small_within : (k : Known) (tag : Leaf) → IsInStruct k tag → IsSmall (known k)
unfolding within
small_within k tag at = subst IsSmall (sym (sees_struct k tag at)) (seen_small (program k) at.steady.small (tags (program k) ++ (bytes (program k) tag ∷ [])))

pub cells_within : (k : Known) (tag : Leaf) → IsInStruct k tag → StructsHaveCells (known k).layouts
cells_within k tag at = cells_there (program k) at.steady

pub begins_struct : (k k' : Known) (tag : Leaf) → state k' ≡ record (state k) { tags = k.tags ++ (bytes (program k) tag ∷ []) } → IsAtFile k → IsInStruct k' tag
begins_struct k k' tag e at = record {
  tags = ap (λ s. s.tags) e ∙ ap (λ ts. ts ++ (bytes (program k) tag ∷ [])) at.tags ∙ ap (λ p. tags p ++ (bytes p tag ∷ [])) (sym same);
  frame = ap (λ s. s.frame) e ∙ at.frame;
  steady = subst IsSteady (sym same) at.steady;
}
  where
    same : program k' ≡ program k
    same = ap (λ s. s.program) e

layout_tags : (p : Program) (name : List ℕ) (ms : List Named) → tags (with_layout p name ms) ≡ tags p ++ (name ∷ [])
layout_tags p name ms = map-append (λ l. l.tag) p.layouts (record { tag = name; members = ms } ∷ [])

pub ends_struct : (k k' : Known) (tag : Leaf) (ms : List Named) → state k' ≡ record (state k) { program = with_layout (program k) (bytes (program k) tag) ms } → IsInStruct k tag → IsSteady (with_layout (program k) (bytes (program k) tag) ms) → IsAtFile k'
ends_struct k k' tag ms e at steady = record {
  tags = ap (λ s. s.tags) e ∙ at.tags ∙ sym (layout_tags (program k) (bytes (program k) tag) ms) ∙ ap tags (sym same);
  frame = ap (λ s. s.frame) e ∙ at.frame;
  steady = subst IsSteady (sym same) steady;
}
  where
    same : program k' ≡ with_layout (program k) (bytes (program k) tag) ms
    same = ap (λ s. s.program) e
