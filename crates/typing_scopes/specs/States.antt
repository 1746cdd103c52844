-- All that is known at a point of a text, in the terms of the rules: the program so far, the tags, and what a function has declared.
use Rattle.std.specs.Prelude.{ℕ, List, [], ◌∷◌, ◌++◌, length}
use Rattle.step_meaning.specs.declared.value.CType.{CType}
use Rattle.step_meaning.specs.declared.program.Declared.{Declared as Named}
use Rattle.typing_rules.specs.Environment.{Environment, Scope}
use Rattle.typing_rules.specs.FileScope.{Program, file_scope}
use Rattle.typing_rules.specs.Statements.{Frame, with_name}
use Rattle.typing_scopes.specs.Blocks.{local_variable}

pub record State : Type 0 where
  pub program : Program
  -- the tags in order: after those of the complete structs, that of a struct whose members are being read
  pub tags : List (List ℕ)
  -- the parameters, locals and blocks of the function that is read
  pub frame : Frame

-- what a point of the text sees
abbrev pub environment : State → Environment
environment s = record {
  mode = s.program.mode;
  text = s.program.text;
  layouts = s.program.layouts;
  tags = s.tags;
  scopes = s.frame.scopes ++ (file_scope s.program ∷ []);
  bodies = s.program.bodies;
}

abbrev pub no_frame : Frame
no_frame = record { locals = []; scopes = [] }

-- a function whose parameters are to come
abbrev pub first_frame : Frame
first_frame = record { locals = []; scopes = [] ∷ [] }

abbrev pub named : List ℕ → CType → Named
named name t = record { name = name; ctype = t }

-- one more local, known from here on
abbrev pub with_local : List ℕ → CType → Frame → Frame
with_local name t f = record { locals = f.locals ++ (named name t ∷ []); scopes = with_name name (local_variable (length f.locals)) t f.scopes }

-- a parameter declares nothing where it has no name
abbrev pub with_parameter_name : List ℕ → CType → ℕ → List Scope → List Scope
with_parameter_name [] t n ss = ss
with_parameter_name (c ∷ cs) t n ss = with_name (c ∷ cs) (local_variable n) t ss

-- one more parameter
abbrev pub with_parameter : List ℕ → CType → Frame → Frame
with_parameter name t f = record { locals = f.locals ++ (named name t ∷ []); scopes = with_parameter_name name t (length f.locals) f.scopes }
