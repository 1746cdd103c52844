-- What a program with further structs tells of the types that stand here: cells, members, and what may be allocated.
use Rattle.std.proofs.Common.{◌≡◌, ℕ, suc, zero, ◌≤◌, true, List, [], ◌∷◌, ◌++◌, length, take, sum_by, Some, None, refl, sym, ap, subst, ◌∙◌, arith, length-append}
use Rattle.std.specs.Prelude.{slice_get, position}
use Rattle.std.specs.List.{list_all}
use Rattle.std.specs.Str.{bytes_eq}
use Rattle.std.proofs.lemmas.List.Sums.{sum_by-cons}
use Rattle.step_meaning.specs.declared.value.CType.{CType, end_of-CType, more_of-CType}
use Rattle.step_meaning.specs.declared.value.CType.TheVariants as type
use Rattle.step_meaning.specs.declared.program.Core.{Core}
use Rattle.step_meaning.specs.declared.program.Declared.{Declared}
use Rattle.step_meaning.specs.declared.program.Layout.{Layout}
use Rattle.step_meaning.specs.Settings.{Setting}
use Rattle.step_meaning.specs.TypeRules.{cells, is_object_type, keeps_rules, are_layouts}
use Rattle.step_meaning.proofs.Ranges.{and_true, left_of_and, right_of_and}
use Rattle.step_meaning.proofs.TypedMemory.{WhereSome}
use Rattle.step_meaning.proofs.LaterLayouts.{still_keeps, member_types_keep}
use Rattle.core_types.proofs.MemberLaws.{members as member_laws}
use Rattle.typing_rules.specs.Environment.{Environment}
use Rattle.typing_rules.specs.Declarations.{is_complete}
use Rattle.typing_rules.specs.Subobjects.{member_at}
use Rattle.typing_laws.proofs.CheckedValues.{some_then, some_mapped, some_known}
use Rattle.typing_laws.proofs.LaterTypes.{complete_cells}
use Rattle.typing_laws.proofs.TypedOperators.{CellsStay}
use Rattle.typing_laws.proofs.TypedObjects.{MemberFits, MembersStay, AllocationStays}

-- what an object has is complete
pub object_complete : (ls : List Layout) (k : ℕ) (t : CType) → is_object_type ls k t ≡ true → is_complete (length ls) k t ≡ true
unfolding is_complete
object_complete ls k type.Void e = e
object_complete ls k (type.Int i) e = refl
object_complete ls k (type.Pointer' b (more_of-CType type.Void end_of-CType)) e = e
object_complete ls k (type.Pointer' b (more_of-CType (type.Int i) end_of-CType)) e = refl
object_complete ls k (type.Pointer' b (more_of-CType (type.Pointer' c t) end_of-CType)) e = object_complete ls k (type.Pointer' c t) e
object_complete ls k (type.Pointer' b (more_of-CType (type.Array' c t n) end_of-CType)) e = object_complete ls k (type.Array' c t n) e
object_complete ls k (type.Pointer' b (more_of-CType (type.Struct n) end_of-CType)) e = e
object_complete ls k (type.Array' b (more_of-CType t end_of-CType) n) e = object_complete ls k t (left_of_and _ _ e)
object_complete ls k (type.Struct n) e = e

pub get_some : {A : Type 0} (xs ys : List A) (n : ℕ) (x : A) → slice_get xs n ≡ Some x → slice_get (xs ++ ys) n ≡ Some x
get_some [] ys n x e = absurd (no e)
  where
    no : {A : Type 0} {x : A} → None ≡ Some x → ⊥
    no e = cc
get_some (y ∷ xs) ys zero x e = e
get_some (y ∷ xs) ys (suc n) x e = get_some xs ys n x e

module _ (q : Core) (s : Setting) (ls more : List Layout) (later : s.layouts ≡ ls ++ more) where
  pub cells_stay : CellsStay q s ls
  cells_stay t e = sym (ap (λ all. cells all t) later ∙ ap length (complete_cells ls more (length ls) t e))

  pub allocation_stays : (g : Environment) → g.layouts ≡ ls → length g.tags ≡ length ls → AllocationStays q s ls g
  allocation_stays g l n t e =
      let longer : length ls ≤ length (ls ++ more) = omega (arith, length-append ls more) in
      let object : is_object_type ls (length ls) t ≡ true = subst (λ k. is_object_type ls k t ≡ true) n (subst (λ ls. is_object_type ls (length g.tags) t ≡ true) l (right_of_and _ _ e)) in
      (and_true (left_of_and _ _ e) (subst (λ all. keeps_rules all t ≡ true) (sym later) (still_keeps ls more (length ls) (length (ls ++ more)) t longer object)), object_complete ls (length ls) t object)

  -- ---- members

  module _ (rules : are_layouts ls ≡ true) (all_rules : are_layouts s.layouts ≡ true) where
    sums_stay : (i : ℕ) (ds : List Declared) → list_all (λ d. keeps_rules ls d.ctype) ds ≡ true → sum_by (λ d. cells ls d.ctype) (take i ds) ≡ sum_by (λ d. cells s.layouts d.ctype) (take i ds)
    sums_stay zero ds e = refl
    sums_stay (suc i) [] e = refl
    sums_stay (suc i) (d ∷ ds) e =
        let first : cells ls d.ctype ≡ cells s.layouts d.ctype = cells_stay d.ctype (object_complete ls (length ls) d.ctype (left_of_and _ _ e)) in
        let rest : sum_by (λ d. cells ls d.ctype) (take i ds) ≡ sum_by (λ d. cells s.layouts d.ctype) (take i ds) = sums_stay i ds (right_of_and _ _ e) in
        rw (sum_by-cons (λ d. cells ls d.ctype) d (take i ds), sum_by-cons (λ d. cells s.layouts d.ctype) d (take i ds), first, rest) refl

    type_at : (i : ℕ) (ds : List Declared) (d : Declared) → slice_get ds i ≡ Some d → list_all (λ d. keeps_rules ls d.ctype) ds ≡ true → keeps_rules ls d.ctype ≡ true
    type_at i [] d e k = absurd (no e)
      where
        no : None ≡ Some d → ⊥
        no e = cc
    type_at zero (x ∷ ds) d e k = subst (λ d. keeps_rules ls d.ctype ≡ true) (same e) (left_of_and _ _ k)
      where
        same : Some x ≡ Some d → x ≡ d
        same e = cc
    type_at (suc i) (x ∷ ds) d e k = type_at i ds d e (right_of_and _ _ k)

    members_at : (n : ℕ) (l : Layout) → slice_get ls n ≡ Some l → (i : ℕ) → WhereSome (MemberFits q s ls n) (member_at ls l.members i)
    members_at n l found i =
        let keep : list_all (λ d. keeps_rules ls d.ctype) l.members ≡ true = member_types_keep ls rules n l found in
        some_mapped (λ d. slice_get l.members i ≡ Some d) (MemberFits q s ls n) _ (slice_get l.members i) (some_known (λ d. slice_get l.members i ≡ Some d) (slice_get l.members i) (λ d e. e)) (λ d there.
        record {
          typed = rw (sums_stay i l.members keep) (member_laws.at_offset s.layouts all_rules n i l d (subst (λ all. slice_get all n ≡ Some l) (sym later) (get_some ls more n l found)) there);
          complete = object_complete ls (length ls) d.ctype (type_at i l.members d there keep);
        })

    pub members_stay : MembersStay q s ls
    members_stay n name =
        some_then (λ l. slice_get ls n ≡ Some l) (MemberFits q s ls n) _ (slice_get ls n) (some_known (λ l. slice_get ls n ≡ Some l) (slice_get ls n) (λ l e. e)) (λ l found.
        some_then (λ (i : ℕ). Unit {0}) (MemberFits q s ls n) (member_at ls l.members) (position (λ d. bytes_eq name d.name) l.members) (some_known (λ (i : ℕ). Unit {0}) _ (λ i e. tt)) (λ i u. members_at n l found i))
