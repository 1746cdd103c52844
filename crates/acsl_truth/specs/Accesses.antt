-- Accesses to the cells of an object, one after the other.
use Rattle.std.specs.Prelude.{ℕ, ◌+◌, pos, cond, List, length, Option, Some, None}
use Rattle.step_meaning.specs.declared.value.CType.{CType}
use Rattle.step_meaning.specs.declared.value.Name.{Name}
use Rattle.step_meaning.specs.Views.{Sight}
use Rattle.step_meaning.specs.Predicates.{object_at, may_access_all}

-- the offset past cells of these types, where each of them may be accessed
abbrev pub past : Sight → Name → ℕ → List CType → Option ℕ
past s n at us = cond (may_access_all s (object_at n (pos at) us)) (Some (at + length us)) None
