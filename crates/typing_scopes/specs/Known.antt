-- What code knows at a point of a text, as the rules see it.
use Rattle.std.specs.Prelude.{reverse}
use Rattle.typing_rules.specs.Environment.{Environment}
use Rattle.typing_rules.specs.FileScope.{Program}
use Rattle.typing_rules.specs.Statements.{Frame}
use Rattle.typing_scopes.specs.States.{State, environment}
use Rattle.typing_scopes.specs.declared.known.Known.{Known}

abbrev pub program : Known → Program
program k = record { mode = k.mode; text = k.text.now; bodies = k.bodies; layouts = k.layouts; globals = k.globals; initial = k.initial; functions = k.functions }

-- blocks lie innermost last
abbrev pub frame : Known → Frame
frame k = record { locals = k.locals; scopes = reverse k.blocks.items }

abbrev pub state : Known → State
state k = record { program = program k; tags = k.tags; frame = frame k }

abbrev pub known : Known → Environment
known k = environment (state k)
