-- The scope of a block, as the rules see it.
use Rattle.std.specs.Prelude.{ℕ, List, [], ◌∷◌}
use Rattle.step_meaning.specs.declared.value.NameKind.TheVariants as names
use Rattle.step_meaning.specs.declared.expr.Variable.{Variable}
use Rattle.typing_rules.specs.declared.operand.Entry.{Entry}
use Rattle.typing_rules.specs.declared.operand.Entry.TheVariants as entry
use Rattle.typing_rules.specs.Environment.{Scope}
use Rattle.typing_scopes.specs.declared.block.BlockLocal.{BlockLocal}

-- the parameter or local of a function with this number
abbrev pub local_variable : ℕ → Variable
local_variable n = record { kind = names.Local; index = n }

abbrev pub local_entry : BlockLocal → Entry
local_entry l = entry.Variable (local_variable l.index) l.ctype

-- each name with what it stands for
abbrev pub scope_of : List (List ℕ) → List BlockLocal → Scope
scope_of [] ls = []
scope_of (n ∷ ns) [] = []
scope_of (n ∷ ns) (l ∷ ls) = (n, local_entry l) ∷ scope_of ns ls
