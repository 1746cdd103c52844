-- What the normal form of a source's core is: well formed, in normal form, and small enough for code to be put beside its statements and for its text to be read again.
use Rattle.std.specs.Prelude.{Bool, true, ◌&&◌, nat_le, List, Option, Some, None, IsTrue}
use Rattle.std.specs.List.{list_all}
use Rattle.step_meaning.specs.declared.stmt.Stmt.{Stmt}
use Rattle.step_meaning.specs.declared.program.Function.{Function}
use Rattle.step_meaning.specs.declared.program.Core.{Core}
use Rattle.step_meaning.specs.Sizes.{nesting}
use Rattle.step_meaning.specs.TermSizes.{type_depth}
use Rattle.step_meaning.specs.Printable.{is_small_within, have_small_types}
use Rattle.step_meaning.specs.WellFormed.{IsWellFormed}
use Rattle.step_meaning.specs.Normal.{IsNormal}
use Rattle.step_meaning.specs.Promises.{has_blocks}
use Rattle.step_meaning.specs.Sources.{IsSource}
use Rattle.normal_laws.specs.NormalForm.{normal_core}

-- ---- sizes

-- a statement whose branches and bodies of loops are blocks, that nests at most 500 deep, and whose expressions have at most 1,200 nodes and depth 64
abbrev pub is_low_statement : Stmt → Bool
is_low_statement s = has_blocks s && (nat_le (nesting s) 500 && is_small_within s)

abbrev pub is_low_body : Option (List Stmt) → Bool
is_low_body None = true
is_low_body (Some ss) = list_all is_low_statement ss

-- the types of a function's result, locals and registers nest at most 100 deep
abbrev pub has_small_types : Function → Bool
has_small_types f = nat_le (type_depth f.result) 100 && (have_small_types f.locals && have_small_types f.registers)

pub record HasSmallParts (q : Core) : Type 0 where
  pub bodies : IsTrue (list_all (λ f. is_low_body f.body) q.functions)
  -- types nest at most 100 deep
  pub struct_types : IsTrue (list_all (λ l. have_small_types l.members) q.layouts)
  pub global_types : IsTrue (have_small_types q.globals)
  pub function_types : IsTrue (list_all has_small_types q.functions)

-- ---- the laws

abbrev pub NormalIsFormed : Type 0
NormalIsFormed = (q : Core) → IsSource q → IsWellFormed (normal_core q) × IsNormal (normal_core q)

abbrev pub NormalIsSmall : Type 0
NormalIsSmall = (q : Core) → IsSource q → HasSmallParts (normal_core q)
