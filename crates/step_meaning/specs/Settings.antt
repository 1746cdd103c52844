-- What the parts of a core may name: the variables that are in view, by their kinds and numbers, and the structs (C11 6.2.1).
use Rattle.std.specs.Prelude.{List, [], take, slice_get, Option, option_map}
use Rattle.step_meaning.specs.declared.value.CType.{CType}
use Rattle.step_meaning.specs.declared.value.NameKind.{NameKind}
use Rattle.step_meaning.specs.declared.value.NameKind.TheVariants as names
use Rattle.step_meaning.specs.declared.expr.Variable.{Variable}
use Rattle.step_meaning.specs.declared.program.Layout.{Layout}
use Rattle.step_meaning.specs.declared.program.Declared.{Declared}
use Rattle.step_meaning.specs.declared.program.Function.{Function}
use Rattle.step_meaning.specs.declared.program.Core.{Core}

pub record Setting : Type 0 where
  pub layouts : List Layout
  -- the variables of file scope
  pub globals : List Declared
  -- those of the function: parameters and locals, and those declared `register`
  pub locals : List Declared
  pub registers : List Declared
  -- the ghost variables of file scope and of the function
  pub file_ghosts : List Declared
  pub ghosts : List Declared

abbrev pub variables : Setting → NameKind → List Declared
variables g names.Global = g.globals
variables g names.Local = g.locals
-- no variable of the text is a heap block
variables g names.Heap = []
variables g names.Register = g.registers
variables g names.GhostGlobal = g.file_ghosts
variables g names.GhostLocal = g.ghosts

-- the type of a variable, and none where there is no such variable
abbrev pub variable_type : Setting → Variable → Option CType
variable_type g v = option_map (λ d. d.ctype) (slice_get (variables g v.kind) v.index)

-- what the annotations of a function's body may name
abbrev pub setting_of : Core → Function → Setting
setting_of q f = record { layouts = q.layouts; globals = q.globals; locals = f.locals; registers = f.registers; file_ghosts = q.ghosts; ghosts = f.ghosts }

-- what its code may name: no ghost variable
abbrev pub code_setting : Core → Function → Setting
code_setting q f = record (setting_of q f) { file_ghosts = []; ghosts = [] }

-- what the annotations may name that begin its body: no register, and of its locals the parameters alone
abbrev pub leading_setting : Core → Function → Setting
leading_setting q f = record (setting_of q f) { locals = take f.params f.locals; registers = [] }
