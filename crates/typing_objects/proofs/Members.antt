-- The member that code finds, as the rules find it.
use Rattle.std.proofs.Common.{◌≡◌, ℕ, ◌<◌, ◌^◌, List, [], ◌∷◌, take, sum_by, get_or, Some, None, refl}
use Rattle.std.specs.Prelude.{position, slice_get}
use Rattle.std.specs.Str.{bytes_eq}
use Rattle.std.proofs.lemmas.List.Quantifiers.{position-Some}
use Rattle.std.proofs.lemmas.Option.{slice_get-get_or}
use Rattle.step_meaning.specs.declared.program.Declared.{Declared}
use Rattle.step_meaning.specs.declared.program.Layout.{Layout}
use Rattle.step_meaning.specs.TypeRules.{cells}
use Rattle.typing_rules.specs.Subobjects.{Member, member_among, member_of}
use Rattle.typing_objects.specs.Parts.{MemberOffsetsFit}

none_is_not_some : {A B : Type 0} {a : A} → None ≡ Some a → B
none_is_not_some e = absurd (no e)
  where
    no : {A : Type 0} {a : A} → None ≡ Some a → ⊥
    no e = cc

module _ (ls : List Layout) (name : List ℕ) where
  -- the member with this number
  abbrev pub numbered : List Declared → ℕ → Declared → Member
  numbered ds i d = record { offset = sum_by (λ d. cells ls d.ctype) (take i ds); ctype = d.ctype }

  pub named_at : (ds : List Declared) (i : ℕ) (d : Declared) → position (λ d. bytes_eq name d.name) ds ≡ Some i → slice_get ds i ≡ Some d → member_among ls name ds ≡ Some (numbered ds i d)
  named_at ds i d h g = rw (h, g) refl

  pub offset_is_small : (ds : List Declared) (i : ℕ) → MemberOffsetsFit ls name ds → position (λ d. bytes_eq name d.name) ds ≡ Some i → sum_by (λ d. cells ls d.ctype) (take i ds) < 2 ^ 32
  offset_is_small [] i fit h = none_is_not_some h
  offset_is_small (d ∷ ds) i fit h =
      let found = position-Some (λ d. bytes_eq name d.name) (d ∷ ds) i d h in
      fit (numbered (d ∷ ds) i (get_or (d ∷ ds) i d)) (named_at (d ∷ ds) i (get_or (d ∷ ds) i d) h (slice_get-get_or (d ∷ ds) i d found.0))

-- ---- the struct with a number

pub of_struct_at : (ls : List Layout) (n : ℕ) (l : Layout) (name : List ℕ) → slice_get ls n ≡ Some l → member_of ls n name ≡ member_among ls name l.members
of_struct_at ls n l name h = rw h refl

pub of_no_struct : (ls : List Layout) (n : ℕ) (name : List ℕ) → slice_get ls n ≡ None → member_of ls n name ≡ None
of_no_struct ls n name h = rw h refl
