-- What a program in normal form keeps besides, so that code can be put beside its statements: what it returns, and where blocks stand.
use Rattle.std.specs.Prelude.{◌≡◌, Bool, true, false, ◌&&◌, Option, Some, None, IsTrue}
use Rattle.std.specs.List.{AllByRecursion}
use Rattle.step_meaning.specs.declared.value.CType.{CType}
use Rattle.step_meaning.specs.declared.expr.Expr.{Expr}
use Rattle.step_meaning.specs.declared.expr.Expr.TheVariants.{Load, Own}
use Rattle.step_meaning.specs.declared.stmt.Stmt.{Stmt, Row_of-Stmt, end_of-Stmt, more_of-Stmt}
use Rattle.step_meaning.specs.declared.stmt.Stmt.TheVariants.{Block', If', While', Return}
use Rattle.step_meaning.specs.declared.program.Core.{Core}
use Rattle.step_meaning.specs.declared.program.Function.{Function}
use Rattle.step_meaning.specs.Names.{is_register_variable}
use Rattle.step_meaning.specs.WellFormed.{OfBody}

-- ---- values that are returned

-- a register of this type, or nothing
abbrev pub IsReturned : CType → Option Expr → Type 0
IsReturned t None = Unit {0}
IsReturned t (Some (Load (Own v) u)) = IsTrue (is_register_variable v) × (u ≡ t)
IsReturned t (Some e) = ⊥

module _ (t : CType) where
  abbrev mutual
    -- each `return` with a value returns a register of this type
    pub ReturnsRegisters : Stmt → Type 0
    ReturnsRegisters (Return e) = IsReturned t e
    ReturnsRegisters (Block' b ss) = RowReturnsRegisters ss
    ReturnsRegisters (If' e b (more_of-Stmt s end_of-Stmt) c (more_of-Stmt u end_of-Stmt)) = ReturnsRegisters s × ReturnsRegisters u
    ReturnsRegisters (While' e b (more_of-Stmt s end_of-Stmt)) = ReturnsRegisters s
    ReturnsRegisters _ = Unit {0}

    pub RowReturnsRegisters : {n : _} → Row_of-Stmt n → Type 0
    RowReturnsRegisters end_of-Stmt = Unit {0}
    RowReturnsRegisters (more_of-Stmt s more) = ReturnsRegisters s × RowReturnsRegisters more

abbrev pub ReturnsOfItsType : Function → Type 0
ReturnsOfItsType f = OfBody (AllByRecursion (ReturnsRegisters f.result)) f.body

-- each `return` with a value returns a register of the type of its function's result
abbrev pub ReturnsRegistersAlone : Core → Type 0
ReturnsRegistersAlone q = AllByRecursion ReturnsOfItsType q.functions

-- ---- branches and bodies of loops

abbrev pub is_block : Stmt → Bool
is_block (Block' b ss) = true
is_block _ = false

abbrev mutual
  -- each branch and each body of a loop is a block
  pub has_blocks : Stmt → Bool
  has_blocks (Block' b ss) = have_blocks ss
  has_blocks (If' e b (more_of-Stmt s end_of-Stmt) c (more_of-Stmt u end_of-Stmt)) = is_block s && (is_block u && (has_blocks s && has_blocks u))
  has_blocks (While' e b (more_of-Stmt s end_of-Stmt)) = is_block s && has_blocks s
  has_blocks _ = true

  pub have_blocks : {n : _} → Row_of-Stmt n → Bool
  have_blocks end_of-Stmt = true
  have_blocks (more_of-Stmt s more) = has_blocks s && have_blocks more
