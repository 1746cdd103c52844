-- The statements that initialise a local, one for each of its cells.
use Rattle.std.specs.Prelude.{ℕ, List, Ok}
use Rattle.step_meaning.specs.declared.value.CType.{CType}
use Rattle.step_meaning.specs.declared.stmt.Stmt.{Stmt}
use Rattle.typing_rules.specs.Checked.{Checked, ◌>>=◌}
use Rattle.typing_rules.specs.Environment.{Environment}
use Rattle.typing_rules.specs.Syntax.{Initialiser}
use Rattle.typing_rules.specs.Initialisers.{local_cells}
use Rattle.typing_rules.specs.Statements.{init_statements}

-- of the local with this number and type. The result of its function has no part in it
unfoldable pub inits : Environment → CType → ℕ → CType → Initialiser → Checked (List Stmt)
inits g r n t x = local_cells g t x >>= (λ cs. Ok (init_statements g r n 0 cs))
