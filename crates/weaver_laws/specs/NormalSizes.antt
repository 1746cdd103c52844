-- What a core in normal form keeps of sizes, so that its woven core is small enough to be printed.
use Rattle.std.specs.Prelude.{Bool, true, ◌&&◌, nat_le, List, Option, Some, None, IsTrue}
use Rattle.std.specs.List.{list_all}
use Rattle.step_meaning.specs.declared.stmt.Stmt.{Stmt}
use Rattle.step_meaning.specs.declared.program.Function.{Function}
use Rattle.step_meaning.specs.declared.program.Core.{Core}
use Rattle.step_meaning.specs.Sizes.{nesting}
use Rattle.step_meaning.specs.TermSizes.{type_depth}
use Rattle.step_meaning.specs.Printable.{is_small_within, have_small_types}
use Rattle.step_meaning.specs.Promises.{has_blocks}

-- a statement whose branches and bodies of loops are blocks, that nests at most 500 deep, and whose expressions have at most 1,200 nodes and depth 64
abbrev pub leaves_room : Stmt → Bool
leaves_room s = has_blocks s && (nat_le (nesting s) 500 && is_small_within s)

abbrev pub body_leaves_room : Option (List Stmt) → Bool
body_leaves_room None = true
body_leaves_room (Some ss) = list_all leaves_room ss

-- the types of a function's result, locals and registers nest at most 100 deep
abbrev pub has_small_types : Function → Bool
has_small_types f = nat_le (type_depth f.result) 100 && (have_small_types f.locals && have_small_types f.registers)

pub record KeepsSizes (q : Core) : Type 0 where
  pub bodies : IsTrue (list_all (λ f. body_leaves_room f.body) q.functions)
  -- types nest at most 100 deep
  pub struct_types : IsTrue (list_all (λ l. have_small_types l.members) q.layouts)
  pub global_types : IsTrue (have_small_types q.globals)
  pub function_types : IsTrue (list_all has_small_types q.functions)
