-- The program that weaving makes of one of the first form: each assignment has the assertion of the property before it.
use Rattle.std.specs.Prelude.{ℕ, List, [], ◌∷◌, ◌++◌, Option, Some, None, map}
use Rattle.std.specs.List.{flat_map}
use Rattle.c_parser.specs.declared.first_form.tree.FirstStmt.{FirstStmt}
use Rattle.c_parser.specs.declared.first_form.tree.FirstStmt.TheVariants as stmt
use Rattle.c_parser.specs.FirstForm.Program.{Function, Property, Program}

-- an assignment has the assertion before it that it doesn't write the property's variable
abbrev pub woven_statement : ℕ → FirstStmt → List FirstStmt
woven_statement x (stmt.Assign y n) = stmt.Assert y x ∷ stmt.Assign y n ∷ []
woven_statement x (stmt.Call f) = stmt.Call f ∷ []
woven_statement x stmt.Empty = stmt.Empty ∷ []
woven_statement x (stmt.Assert y z) = stmt.Assert y z ∷ []

abbrev pub woven_statements : ℕ → List FirstStmt → List FirstStmt
woven_statements x statements = flat_map (woven_statement x) statements

-- An assertion that begins a body would judge the step that enters the function, so an empty statement goes before it.
abbrev pub separator : List FirstStmt → List FirstStmt
separator (stmt.Assign y n ∷ rest) = stmt.Empty ∷ []
separator (stmt.Call f ∷ rest) = []
separator (stmt.Empty ∷ rest) = []
separator (stmt.Assert y z ∷ rest) = []
separator [] = []

abbrev pub woven_body : ℕ → List FirstStmt → List FirstStmt
woven_body x body = separator body ++ woven_statements x body

-- a function where the property is of the variable x
abbrev pub property_function : ℕ → Function → Function
property_function x f = record { name = f.name; body = woven_body x f.body }

abbrev pub woven_functions : Option Property → List Function → List Function
woven_functions None fs = fs
woven_functions (Some p) fs = map (property_function p.variable) fs

abbrev pub woven : Program → Program
woven p = record { globals = p.globals; property = None; functions = woven_functions p.property p.functions }
