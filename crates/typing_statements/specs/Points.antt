-- A point of a body: what stands around the body, and what the body has declared so far.
use Rattle.step_meaning.specs.declared.value.CType.{CType}
use Rattle.typing_laws.specs.SmallTypes.{IsSmall}
use Rattle.typing_rules.specs.Environment.{Environment}
use Rattle.typing_rules.specs.Statements.{Frame}
use Rattle.typing_scopes.specs.declared.known.Known.{Known}
use Rattle.typing_scopes.specs.Known.{known, state, frame}
use Rattle.typing_scopes.specs.States.{State, environment, no_frame}
use Rattle.typing_declarators.specs.Types.{StructsHaveCells}

-- what is known outside of the body, which nothing in it changes
unfoldable pub outside : Known → State
outside k = record (state k) { frame = no_frame }

-- the environment of file scope
unfoldable pub around : State → Environment
around s = environment s

unfoldable pub frame_at : Known → Frame
frame_at k = frame k

-- what rules on objects ask of a point
unfoldable pub IsReady : Known → Type 0
IsReady k = IsSmall (known k) × StructsHaveCells (known k).layouts
