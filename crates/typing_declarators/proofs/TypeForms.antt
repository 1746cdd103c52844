-- What the rules on types say of each type that code makes.
use Rattle.std.proofs.Common.{◌≡◌, refl, sym, ap, subst, ◌∙◌, Ok, ℕ, Bool, true, false, ◌&&◌, List}
use Rattle.std.specs.Prelude.{nat_lt, nat_le}
use denote.Hole.Carrier.{hidden}
use Rattle.step_meaning.specs.declared.value.IntKind.{IntKind}
use Rattle.step_meaning.specs.declared.value.CType.{CType, end_of-CType, more_of-CType}
use Rattle.step_meaning.specs.declared.value.CType.TheVariants.{Void, Int, Struct, Pointer, Pointer', Array, Array'}
use Rattle.step_meaning.specs.declared.value.CType.TheBlock.{shape-the_row-CType-0, hidden-the_row-CType-0}
use Rattle.step_meaning.specs.declared.program.Layout.{Layout}
use Rattle.step_meaning.specs.TypeRules.{cells, most_cells}
use Rattle.typing_rules.specs.Checked.{Checked, Gives}
use Rattle.typing_rules.specs.Declarations as rules
use Rattle.typing_rules.specs.Declarations.{is_complete, is_within_limit}
use Rattle.typing_declarators.specs.declared.layer.Layer.{Layer}
use Rattle.typing_declarators.specs.declared.layer.Layer.TheVariants.{Sized}
use Rattle.typing_declarators.specs.Layers.{layer}
use Rattle.typing_declarators.specs.Types.{behind_pointer, around}

-- ---- complete types

pub behind-Pointer : (k : ℕ) (b : Bool) (t : CType) → behind_pointer k b (Pointer t) ≡ b
unfolding shape-the_row-CType-0 hidden-the_row-CType-0 hidden
behind-Pointer k b t = refl

pub behind-Array : (k : ℕ) (b : Bool) (t : CType) (n : ℕ) → behind_pointer k b (Array t n) ≡ b
unfolding shape-the_row-CType-0 hidden-the_row-CType-0 hidden
behind-Array k b t n = refl

pub ruleset behind_pointers = (behind-Pointer, behind-Array)

module _ (c k : ℕ) where
  pub complete-Void : is_complete c k Void ≡ false
  unfolding is_complete
  complete-Void = refl

  pub complete-Int : (i : IntKind) → is_complete c k (Int i) ≡ true
  unfolding is_complete
  complete-Int i = refl

  pub complete-Pointer : (t : CType) → is_complete c k (Pointer t) ≡ behind_pointer k (is_complete c k t) t
  unfolding is_complete shape-the_row-CType-0 hidden-the_row-CType-0 hidden
  complete-Pointer Void = refl
  complete-Pointer (Int i) = refl
  complete-Pointer (Pointer' b (more_of-CType t end_of-CType)) = refl
  complete-Pointer (Array' b (more_of-CType t end_of-CType) n) = refl
  complete-Pointer (Struct n) = refl

  pub complete-Array : (t : CType) (n : ℕ) → is_complete c k (Array t n) ≡ is_complete c k t
  unfolding is_complete shape-the_row-CType-0 hidden-the_row-CType-0 hidden
  complete-Array t n = refl

  pub complete-Struct : (n : ℕ) → is_complete c k (Struct n) ≡ nat_lt n c
  unfolding is_complete
  complete-Struct n = refl

pub ruleset complete_types = (complete-Void, complete-Int, complete-Pointer, complete-Array, complete-Struct)

-- ---- limits

module _ (ls : List Layout) where
  pub limit-Void : is_within_limit ls Void ≡ true
  unfolding is_within_limit
  limit-Void = refl

  pub limit-Int : (i : IntKind) → is_within_limit ls (Int i) ≡ true
  unfolding is_within_limit
  limit-Int i = refl

  pub limit-Pointer : (t : CType) → is_within_limit ls (Pointer t) ≡ is_within_limit ls t
  unfolding is_within_limit shape-the_row-CType-0 hidden-the_row-CType-0 hidden
  limit-Pointer t = refl

  pub limit-Array : (t : CType) (n : ℕ) → is_within_limit ls (Array t n) ≡ (is_within_limit ls t && nat_le (cells ls (Array t n)) most_cells)
  unfolding is_within_limit shape-the_row-CType-0 hidden-the_row-CType-0 hidden
  limit-Array t n = refl

  pub limit-Struct : (n : ℕ) → is_within_limit ls (Struct n) ≡ true
  unfolding is_within_limit
  limit-Struct n = refl

pub ruleset limits = (limit-Void, limit-Int, limit-Pointer, limit-Array, limit-Struct)

-- ---- types that layers make

pub around-Pointing : (t : CType) → around rules.Pointing t ≡ Pointer t
unfolding shape-the_row-CType-0 hidden-the_row-CType-0 hidden
around-Pointing t = refl

pub around-Sized : (n : ℕ) (t : CType) → around (rules.Sized n) t ≡ Array t n
unfolding shape-the_row-CType-0 hidden-the_row-CType-0 hidden
around-Sized n t = refl

-- the array that code makes of a type
pub made_array : (n : ℕ) (t u : CType) (l : Layer) (made : Checked CType) → l ≡ Sized n → u ≡ t → Gives (Ok (Array u n)) made → Gives (Ok (around (layer l) t)) made
made_array n t u l made e f g = subst (λ v. Gives (Ok v) made) (ap (λ u. Array u n) f ∙ sym (ap (λ l. around (layer l) t) e ∙ around-Sized n t)) g

pub ruleset made_types = (around-Pointing, around-Sized)
