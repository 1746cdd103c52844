use Rattle.std.proofs.Common.{◌≡◌, ◌<◌, ℕ, false, get_or}
use Rattle.std.specs.Str.{bytes_eq}
use Rattle.step_meaning.specs.declared.program.Declared.{Declared}
use Rattle.core_types.proofs.members.member_named.Given as goal

-- no member before has the name
abbrev pub invariant-loop-index : goal.invariant-loop-index
invariant-loop-index l = (k : ℕ) (d : Declared) → k < l.index → bytes_eq l.name (get_or l.members k d).name ≡ false
