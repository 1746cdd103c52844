-- What rules say of each type that code makes.
use Rattle.std.proofs.Common.{◌≡◌, refl, ℕ, List, Ok, Err, if◌then◌else◌}
use Rattle.c_lexer.specs.declared.token.Place.{Place}
use Rattle.step_meaning.specs.declared.value.CType.{CType}
use Rattle.step_meaning.specs.declared.value.CType.TheVariants.{Pointer, Array}
use Rattle.step_meaning.specs.declared.value.CType.TheBlock.{shape-the_row-CType-0, hidden-the_row-CType-0}
use denote.Hole.Carrier.{hidden}
use Rattle.step_meaning.specs.declared.program.Layout.{Layout}
use Rattle.step_meaning.specs.TypeRules.{cells}
use Rattle.step_meaning.specs.ExpressionTypes.{pointer_to}
use Rattle.typing_rules.specs.declared.fault.TypeFault.TheVariants.{Mismatch}
use Rattle.typing_rules.specs.declared.operand.Value.{Value}
use Rattle.typing_rules.specs.Assignments.{decayed}
use Rattle.typing_rules.specs.Operands.{loaded, at_place}
use Rattle.typing_rules.specs.Subobjects.{Base, InArray, BehindPointer, before_index, behind, of_struct, arrow_of}
use Rattle.typing_rules.specs.Checked.{Checked, ◌>>=◌}
use Rattle.step_meaning.specs.declared.expr.Place_.{Place_}
use Rattle.step_meaning.specs.declared.expr.Expr.TheVariants as e
use Rattle.step_meaning.specs.declared.expr.Side.TheVariants.{PointerFirst}
use Rattle.step_meaning.specs.ExpressionTypes.{is_void}

-- ---- arrays in sums

pub decayed-Array : (t : CType) (n : ℕ) → decayed (Array t n) ≡ pointer_to t
unfolding shape-the_row-CType-0 hidden-the_row-CType-0 hidden
decayed-Array t n = refl

pub decayed-Pointer : (t : CType) → decayed (Pointer t) ≡ Pointer t
unfolding shape-the_row-CType-0 hidden-the_row-CType-0 hidden
decayed-Pointer t = refl

pub ruleset decays = (decayed-Array, decayed-Pointer)

-- ---- what stands before `[ ]`

abbrev pub array_base : Place_ → CType → Checked Base
array_base p t = Ok (InArray p t)

module _ (layouts : List Layout) where
  pub base-Array : (first : Place) (p : Place_) (t : CType) (n : ℕ) → before_index layouts first p (Array t n) ≡ Ok (InArray p t)
  unfolding shape-the_row-CType-0 hidden-the_row-CType-0 hidden
  base-Array first p t n = refl

  pub base-Pointer : (first : Place) (p : Place_) (t : CType) → before_index layouts first p (Pointer t) ≡ (loaded first p (Pointer t) >>= (λ v. Ok (BehindPointer v)))
  unfolding shape-the_row-CType-0 hidden-the_row-CType-0 hidden
  base-Pointer first p t = refl

  -- ---- elements behind a pointer

  pub element-Pointer : (at : Place) (v : Value) (t : CType) (i : Value) → behind layouts at v (Pointer t) i ≡ (if is_void t then Err (Mismatch at) else Ok (at_place v.first (e.Deref (e.Move v.expr i.expr (cells layouts t) PointerFirst)) t))
  unfolding shape-the_row-CType-0 hidden-the_row-CType-0 hidden
  element-Pointer at v t i = refl

  pub element-Array : (at : Place) (v : Value) (t : CType) (n : ℕ) (i : Value) → behind layouts at v (Array t n) i ≡ Err (Mismatch at)
  unfolding shape-the_row-CType-0 hidden-the_row-CType-0 hidden
  element-Array at v t n i = refl

pub ruleset bases = (base-Array, base-Pointer)

pub ruleset elements = (element-Pointer, element-Array)

-- ---- members

module _ (layouts : List Layout) where
  pub member-Pointer : (at first at_name : Place) (name : List ℕ) (p : Place_) (t : CType) → of_struct layouts at first at_name name p (Pointer t) ≡ Err (Mismatch at)
  unfolding shape-the_row-CType-0 hidden-the_row-CType-0 hidden
  member-Pointer at first at_name name p t = refl

  pub member-Array : (at first at_name : Place) (name : List ℕ) (p : Place_) (t : CType) (n : ℕ) → of_struct layouts at first at_name name p (Array t n) ≡ Err (Mismatch at)
  unfolding shape-the_row-CType-0 hidden-the_row-CType-0 hidden
  member-Array at first at_name name p t n = refl

  pub arrow-Pointer : (at at_name : Place) (name : List ℕ) (v : Value) (t : CType) → arrow_of layouts at at_name name v (Pointer t) ≡ of_struct layouts at v.first at_name name (e.Deref v.expr) t
  unfolding shape-the_row-CType-0 hidden-the_row-CType-0 hidden
  arrow-Pointer at at_name name v t = refl

  pub arrow-Array : (at at_name : Place) (name : List ℕ) (v : Value) (t : CType) (n : ℕ) → arrow_of layouts at at_name name v (Array t n) ≡ Err (Mismatch at)
  unfolding shape-the_row-CType-0 hidden-the_row-CType-0 hidden
  arrow-Array at at_name name v t n = refl

pub ruleset members = (member-Pointer, member-Array)

pub ruleset arrows = (arrow-Pointer, arrow-Array)
