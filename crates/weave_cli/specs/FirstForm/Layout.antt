-- The text of a program of the woven first form: a declaration a line, a statement a line, and an empty line before each function.
use Rattle.std.specs.Prelude.{ℕ, ℤ, List, [], ◌∷◌, ◌++◌, codes}
use Rattle.std.specs.List.{flat_map}
use Rattle.std.specs.Fmt.{signed_decimal}
use Rattle.c_parser.specs.declared.first_form.tree.FirstStmt.{FirstStmt}
use Rattle.c_parser.specs.declared.first_form.tree.FirstStmt.TheVariants as stmt
use Rattle.c_parser.specs.FirstForm.Program.{Function, Program}
use Rattle.c_parser.specs.FirstForm.Spelling.{name_at, names_of}

abbrev pub declaration_text : List ℕ → List ℕ
declaration_text x = codes "int " ++ x ++ codes ";\n"

abbrev pub declarations_text : List (List ℕ) → List ℕ
declarations_text globals = flat_map declaration_text globals

abbrev pub assignment_text : List ℕ → ℤ → List ℕ
assignment_text x n = codes "  " ++ x ++ codes " = " ++ signed_decimal n ++ codes ";\n"

abbrev pub call_text : List ℕ → List ℕ
call_text f = codes "  " ++ f ++ codes "();\n"

unfoldable pub assertion_head : List ℕ
assertion_head = codes "  /*@ assert weave_1: \\separated(&"

abbrev pub assertion_text : List ℕ → List ℕ → List ℕ
assertion_text y x = assertion_head ++ y ++ codes ", &" ++ x ++ codes "); */\n"

abbrev pub statement_text : Program → FirstStmt → List ℕ
statement_text p (stmt.Assign x n) = assignment_text (name_at p.globals x) n
statement_text p (stmt.Call f) = call_text (name_at (names_of p.functions) f)
statement_text p stmt.Empty = codes "  ;\n"
statement_text p (stmt.Assert y x) = assertion_text (name_at p.globals y) (name_at p.globals x)

abbrev pub body_text : Program → List FirstStmt → List ℕ
body_text p body = flat_map (statement_text p) body

abbrev pub function_text : Program → Function → List ℕ
function_text p f = codes "\nvoid " ++ f.name ++ codes "(void) {\n" ++ body_text p f.body ++ codes "}\n"

abbrev pub others_text : Program → List Function → List ℕ
others_text p fs = flat_map (function_text p) fs

abbrev pub main_text : Program → Function → List ℕ
main_text p f = codes "\nint " ++ f.name ++ codes "(void) {\n" ++ body_text p f.body ++ codes "  return 0;\n}\n"

-- the last function is `main`
abbrev pub functions_text : Program → List Function → List ℕ
functions_text p [] = []
functions_text p (f ∷ []) = main_text p f
functions_text p (f ∷ g ∷ fs) = function_text p f ++ functions_text p (g ∷ fs)

abbrev pub program_text : Program → List ℕ
program_text p = declarations_text p.globals ++ functions_text p p.functions
