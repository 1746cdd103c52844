-- Small types: where the structs and the names in view have them, so have all operands, and sizes and offsets are numbers of 32 bits.
use Rattle.std.specs.Prelude.{◌≡◌, ℕ, ◌≤◌, List, sum_by, Ok, Err, IsTrue}
use Rattle.std.specs.List.{AllByRecursion}
use Rattle.step_meaning.specs.declared.value.CType.{CType}
use Rattle.step_meaning.specs.declared.value.CType.TheVariants.{Struct}
use Rattle.step_meaning.specs.declared.program.Layout.{Layout}
use Rattle.step_meaning.specs.TypeRules.{cells, most_cells}
use Rattle.typing_rules.specs.declared.operand.Entry.{Entry}
use Rattle.typing_rules.specs.declared.operand.Entry.TheVariants.{Variable, Function}
use Rattle.typing_rules.specs.declared.operand.Operand.{Operand}
use Rattle.typing_rules.specs.declared.operand.Value.{Value}
use Rattle.typing_rules.specs.Checked.{Checked}
use Rattle.typing_rules.specs.Syntax.{Expression}
use Rattle.typing_rules.specs.Environment.{Environment, Scope}
use Rattle.typing_rules.specs.Declarations.{is_within_limit}
use Rattle.typing_rules.specs.Allocation.{operand_type}
use Rattle.typing_rules.specs.Expressions.{operand}

-- what is true of the value, where no rule is broken
abbrev pub WhereOk : {A : Type 0} → (A → Type 0) → Checked A → Type 0
WhereOk P (Ok a) = P a
WhereOk P (Err e) = Unit {0}

-- ---- small types

-- no array type in it, behind pointers neither, has more than 65,536 cells
abbrev pub IsSmallType : List Layout → CType → Type 0
IsSmallType layouts t = IsTrue (is_within_limit layouts t)

abbrev pub IsSmallOperand : List Layout → Operand → Type 0
IsSmallOperand layouts a = IsSmallType layouts (operand_type a)

abbrev pub IsSmallValue : List Layout → Value → Type 0
IsSmallValue layouts v = IsSmallType layouts v.ctype

-- ---- what is in view

-- the cells of a struct's members
abbrev pub member_cells : List Layout → Layout → ℕ
member_cells layouts l = sum_by (λ d. cells layouts d.ctype) l.members

abbrev pub HasSmallMembers : List Layout → Layout → Type 0
HasSmallMembers layouts l = AllByRecursion (λ d. IsSmallType layouts d.ctype) l.members

pub record StructsAreSmall (layouts : List Layout) : Type 0 where
  -- each struct has at most 65,536 cells, and so have its members together
  pub structs : (n : ℕ) → cells layouts (Struct n) ≤ most_cells
  pub members : AllByRecursion (λ l. member_cells layouts l ≤ most_cells) layouts
  pub types : AllByRecursion (HasSmallMembers layouts) layouts

-- of a function its result counts
abbrev pub IsSmallEntry : List Layout → Entry → Type 0
IsSmallEntry layouts (Variable v t) = IsSmallType layouts t
IsSmallEntry layouts (Function f r ts) = IsSmallType layouts r

abbrev pub IsSmallScope : List Layout → Scope → Type 0
IsSmallScope layouts scope = AllByRecursion (λ p. IsSmallEntry layouts p.1) scope

pub record IsSmall (g : Environment) : Type 0 where
  pub structs : StructsAreSmall g.layouts
  pub names : AllByRecursion (IsSmallScope g.layouts) g.scopes

-- ---- the law

abbrev pub OperandsAreSmall : Type 0
OperandsAreSmall = (g : Environment) → IsSmall g → (x : Expression) (a : Operand) → operand g x ≡ Ok a → IsSmallOperand g.layouts a
