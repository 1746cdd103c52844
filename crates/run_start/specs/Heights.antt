-- The room that parts of a program need on the stack, as numbers that a machine word holds.
use Rattle.std.specs.Prelude.{ℕ, min, List, Option, Some, None}
use Rattle.step_meaning.specs.declared.stmt.Stmt.{Stmt}
use Rattle.step_meaning.specs.declared.program.Function.{Function}
use Rattle.run_turns.specs.Room.{height_all}

-- as large as a word may be
abbrev pub capped : ℕ → ℕ
capped n = min n 18446744073709551615

abbrev pub height_if_any : Option (List Stmt) → ℕ
height_if_any None = 3
height_if_any (Some ss) = height_all ss

-- the room of a function's body
abbrev pub height_of_body : Function → ℕ
height_of_body f = height_if_any f.body
