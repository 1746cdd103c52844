-- What the normal form of every core keeps without a condition: what it returns, where blocks stand, that it has no annotations, and what of the core it keeps.
use Rattle.std.specs.Prelude.{◌≡◌, [], map, None, IsTrue}
use Rattle.std.specs.List.{list_all, AllByRecursion}
use Rattle.step_meaning.specs.declared.program.Core.{Core}
use Rattle.step_meaning.specs.declared.program.Function.{Function}
use Rattle.step_meaning.specs.ExpressionTypes.{has_body}
use Rattle.step_meaning.specs.Promises.{ReturnsRegistersAlone, has_blocks}
use Rattle.step_meaning.specs.Sources.{is_bare}
use Rattle.step_meaning.specs.WellFormed.{OfBody}
use Rattle.normal_laws.specs.NormalForm.{normal_core}

-- each branch and each body of a loop is a block
abbrev pub HasBlocks : Core → Type 0
HasBlocks q = AllByRecursion (λ f. OfBody (λ ss. IsTrue (list_all has_blocks ss)) f.body) q.functions

-- no body has ghost code or an assertion
abbrev pub IsWithoutAnnotations : Core → Type 0
IsWithoutAnnotations q = AllByRecursion (λ f. OfBody (λ ss. IsTrue (list_all is_bare ss)) f.body) q.functions

-- the function without its body and its registers: its name, result, parameters, locals and ghost variables
abbrev pub signature : Function → Function
signature f = record f { registers = []; body = None }

pub record KeepsProgram (source normal : Core) : Type 0 where
  pub layouts : normal.layouts ≡ source.layouts
  pub globals : normal.globals ≡ source.globals
  pub initial : normal.initial ≡ source.initial
  pub ghosts : normal.ghosts ≡ source.ghosts
  pub start : normal.start ≡ source.start
  -- the functions with their numbers, and which of them have a body
  pub signatures : map signature normal.functions ≡ map signature source.functions
  pub bodies : map has_body normal.functions ≡ map has_body source.functions

-- ---- the laws

-- each `return` with a value returns a register of the type of its function's result
abbrev pub NormalReturnsRegisters : Type 0
NormalReturnsRegisters = (q : Core) → ReturnsRegistersAlone (normal_core q)

abbrev pub NormalHasBlocks : Type 0
NormalHasBlocks = (q : Core) → HasBlocks (normal_core q) × IsWithoutAnnotations (normal_core q)

abbrev pub NormalKeepsProgram : Type 0
NormalKeepsProgram = (q : Core) → KeepsProgram q (normal_core q)
