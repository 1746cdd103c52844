-- What rules ask of sizes and offsets, where names and structs are small: they are numbers of 32 bits.
use Rattle.std.proofs.Common.{◌≡◌, ◌<◌, ◌≤◌, ◌^◌, List, Ok, arith}
use Rattle.step_meaning.specs.declared.program.Layout.{Layout}
use Rattle.step_meaning.specs.TypeRules.{most_cells}
use Rattle.typing_rules.specs.declared.operand.Operand.{Operand}
use Rattle.typing_rules.specs.declared.operand.Value.{Value}
use Rattle.typing_rules.specs.Syntax.{Expression}
use Rattle.typing_rules.specs.Environment.{Environment}
use Rattle.typing_rules.specs.Operands.{value}
use Rattle.typing_rules.specs.Operators.{unit}
use Rattle.typing_rules.specs.Subobjects.{base_of}
use Rattle.typing_rules.specs.Allocation.{operand_type}
use Rattle.typing_rules.specs.Expressions.{operand}
use Rattle.typing_objects.specs.declared.subobject.Base.{Base}
use Rattle.typing_objects.specs.declared.subobject.Base.TheVariants.{InArray, BehindPointer}
use Rattle.typing_objects.specs.Parts.{base, stride, OffsetsFit}
use Rattle.typing_laws.specs.SmallTypes.{IsSmallOperand, IsSmallValue, StructsAreSmall, IsSmall}
use Rattle.typing_laws.proofs.CheckedValues.{where_ok}
use Rattle.typing_laws.proofs.SmallTypes.{small_cells, small_unit}
use Rattle.typing_laws.proofs.SmallRules.{IsSmallBase, value_small, base_small, offsets_fit}
use Rattle.typing_laws.proofs.SmallOperands.{operands_small}

small_stride : (ls : List Layout) → StructsAreSmall ls → (b : Base) → IsSmallBase ls (base b) → stride ls b ≤ most_cells
small_stride ls s (InArray p t) h = small_cells ls s t h
small_stride ls s (BehindPointer v) h = small_unit ls s v.ctype h

-- ---- of an operand of a small type

module _ (g : Environment) (s : IsSmall g) where
  pub value_moves : (a : Operand) (v : Value) → IsSmallOperand g.layouts a → value a ≡ Ok v → unit g.layouts v.ctype < 2 ^ 32
  value_moves a v h e =
      let small : unit g.layouts v.ctype ≤ most_cells = small_unit g.layouts s.structs v.ctype (where_ok (IsSmallValue g.layouts) (value a) v e (value_small g.layouts a h)) in
      omega arith

  pub object_moves : (a : Operand) → IsSmallOperand g.layouts a → unit g.layouts (operand_type a) < 2 ^ 32
  object_moves a h = let small : unit g.layouts (operand_type a) ≤ most_cells = small_unit g.layouts s.structs (operand_type a) h in omega arith

  -- of what stands before `[ ]`
  pub base_moves : (a : Operand) (b : Base) → IsSmallOperand g.layouts a → base_of g.layouts a ≡ Ok (base b) → stride g.layouts b < 2 ^ 32
  base_moves a b h e =
      let small : stride g.layouts b ≤ most_cells = small_stride g.layouts s.structs b (where_ok (IsSmallBase g.layouts) (base_of g.layouts a) (base b) e (base_small g.layouts a h)) in
      omega arith

  -- the offsets of members
  pub offsets_of : OffsetsFit g.layouts
  offsets_of = offsets_fit g.layouts s.structs

  -- ---- of an expression

  pub expression_value_moves : (x : Expression) (a : Operand) (v : Value) → operand g x ≡ Ok a → value a ≡ Ok v → unit g.layouts v.ctype < 2 ^ 32
  expression_value_moves x a v e i = value_moves a v (operands_small g s x a e) i

  pub expression_object_moves : (x : Expression) (a : Operand) → operand g x ≡ Ok a → unit g.layouts (operand_type a) < 2 ^ 32
  expression_object_moves x a e = object_moves a (operands_small g s x a e)

  pub expression_base_moves : (x : Expression) (a : Operand) (b : Base) → operand g x ≡ Ok a → base_of g.layouts a ≡ Ok (base b) → stride g.layouts b < 2 ^ 32
  expression_base_moves x a b e i = base_moves a b (operands_small g s x a e) i
