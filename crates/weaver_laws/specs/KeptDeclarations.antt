-- What weaving keeps of a core: all but its code and its ghost variables.
use Rattle.std.specs.Prelude.{◌≡◌, List, [], map, None}
use Rattle.step_meaning.specs.declared.program.Core.{Core}
use Rattle.step_meaning.specs.declared.program.Function.{Function}
use Rattle.step_meaning.specs.declared.program.Hooks.{Hooks}
use Rattle.step_meaning.specs.ExpressionTypes.{has_body}
use Rattle.weaver_laws.specs.Weaving.{woven_core}
use Rattle.weaver_laws.specs.Joining.{joined}

-- the function without its body and its ghost variables: its name, result, parameters, locals and registers
abbrev pub declaration : Function → Function
declaration f = record f { ghosts = []; body = None }

pub record KeepsDeclarations (source woven : Core) : Type 0 where
  pub layouts : woven.layouts ≡ source.layouts
  pub globals : woven.globals ≡ source.globals
  pub initial : woven.initial ≡ source.initial
  pub start : woven.start ≡ source.start
  -- the functions with their numbers, and which of them have a body
  pub declarations : map declaration woven.functions ≡ map declaration source.functions
  pub bodies : map has_body woven.functions ≡ map has_body source.functions

abbrev pub WovenKeeps : Type 0
WovenKeeps = (p : Core) (hs : List Hooks) → KeepsDeclarations p (woven_core p (joined hs))
