-- Initial values of variables of file scope (C11 6.6, 6.7.9): what an initialiser can give, one value a cell.
-- An integer constant expression gives any integer of the cell's type. A pointer is null or an address constant: the address of a part of a variable of file scope, which is the variable, a member, or an element of an array with an index in range.
use Rattle.std.specs.Prelude.{◌≡◌, ℕ, suc, ◌+◌, ◌*◌, ◌≤◌, ◌<◌, List, [], ◌∷◌, slice_get, Option, Some, None, IsTrue}
use Rattle.step_meaning.specs.declared.value.CType.{CType, end_of-CType, more_of-CType}
use Rattle.step_meaning.specs.declared.value.CType.TheVariants as type
use Rattle.step_meaning.specs.declared.value.NameKind.TheVariants.{Global}
use Rattle.step_meaning.specs.declared.value.Name.{Name}
use Rattle.step_meaning.specs.declared.value.Value.{Value}
use Rattle.step_meaning.specs.declared.value.Value.TheVariants.{Int, Null, Pointer}
use Rattle.step_meaning.specs.declared.program.Layout.{Layout}
use Rattle.step_meaning.specs.declared.program.Declared.{Declared}
use Rattle.step_meaning.specs.declared.program.Core.{Core}
use Rattle.step_meaning.specs.Numbers.{is_in_range}
use Rattle.step_meaning.specs.Types.{same_type, object_cells}
use Rattle.step_meaning.specs.TypeRules.{cells, member_type, element_type}

-- ---- the parts of an object

abbrev pub element_count : CType → ℕ
element_count (type.Array' b t n) = n
element_count _ = 0

-- an object of type u has a part of type t at the offset o
pub data HasPart (layouts : List Layout) (t : CType) : CType → ℕ → Type 0 where
  -- the object itself
  itself : {u : CType} {o : ℕ} → IsTrue (same_type u t) → o ≡ 0 → HasPart layouts t u o
  -- a part of the element with index i of an array
  in_element : {u : CType} {o : ℕ} (w : CType) (size i j : ℕ) → element_type layouts u size ≡ Some w → i < element_count u → o ≡ i * size + j → HasPart layouts t w j → HasPart layouts t u o
  -- a part of the member at the offset m of a struct
  in_member : {u : CType} {o : ℕ} (w : CType) (m j : ℕ) → member_type layouts u m ≡ Some w → o ≡ m + j → HasPart layouts t w j → HasPart layouts t u o

-- ---- values

module _ (q : Core) where
  -- a part of this type begins at this one of the variable's cells
  abbrev pub BeginsAt : Option Declared → ℕ → CType → Type 0
  BeginsAt None o t = ⊥
  BeginsAt (Some d) o t = (o < cells q.layouts d.ctype) × HasPart q.layouts t d.ctype o

  -- the address of a part of this type of a variable of file scope, up to the one with number i (C11 6.6, 9; 6.2.1, 7)
  pub record IsAddressConstant (i : ℕ) (t : CType) (n : Name) (o : ℕ) : Type 0 where
    pub file_scope : n.kind ≡ Global
    pub no_activation : n.activation ≡ 0
    pub no_later : n.index ≤ i
    pub part : BeginsAt (slice_get q.globals n.index) o t

  -- a value of a cell of the variable of file scope with number i
  abbrev pub IsInitialValue : ℕ → CType → Value → Type 0
  IsInitialValue i (type.Int k) (Int z) = IsTrue (is_in_range k z)
  IsInitialValue i (type.Pointer' b t) Null = Unit {0}
  IsInitialValue i (type.Pointer' b (more_of-CType t end_of-CType)) (Pointer n o) = IsAddressConstant i t n o
  IsInitialValue i t v = ⊥

  -- one for each cell
  abbrev pub AreInitialValues : ℕ → List CType → List Value → Type 0
  AreInitialValues i [] [] = Unit {0}
  AreInitialValues i (t ∷ ts) (v ∷ vs) = IsInitialValue i t v × AreInitialValues i ts vs
  AreInitialValues i _ _ = ⊥

  -- those of each variable from number i on
  abbrev pub AllInitialised : ℕ → List Declared → List (List Value) → Type 0
  AllInitialised i [] [] = Unit {0}
  AllInitialised i (d ∷ ds) (vs ∷ vss) = AreInitialValues i (object_cells q.layouts d.ctype) vs × AllInitialised (suc i) ds vss
  AllInitialised i _ _ = ⊥
