-- Functions, step by step.
use Rattle.std.specs.Prelude.{◌≡◌, ℕ, length, List, [], Option, Some, None, is_some, slice_get}
use Rattle.c_words.specs.declared.word.Leaf.{Leaf}
use Rattle.step_meaning.specs.declared.value.CType.{CType}
use Rattle.step_meaning.specs.declared.program.Declared.{Declared as Named}
use Rattle.step_meaning.specs.declared.program.Function.{Function as CoreFunction}
use Rattle.step_meaning.specs.declared.stmt.Stmt.{Stmt}
use Rattle.typing_rules.specs.Checked.{Checked, ◌>>=◌}
use Rattle.typing_rules.specs.Syntax.{Parameter, Statements}
use Rattle.typing_rules.specs.FileScope.{Program, bytes}
use Rattle.typing_rules.specs.Functions.{declares_allocation, parameters, declarable_function, function_number, with_function, number_or, defined_as}

-- with its parameters and body: what is made of a declared name
unfoldable pub declared_as : Leaf → CType → List Named → Option Statements → Program → Checked Program
declared_as t r ps body p =
    let name = bytes p t in let number = function_number p.functions name in
    defined_as (with_function p name r ps number) (number_or number (length p.functions)) name r ps body

-- the name, then the body
unfoldable pub judged_as : Leaf → CType → List Named → Option Statements → Program → Checked Program
judged_as t r ps body p = declarable_function p t r ps (is_some body) >>= (λ u. declared_as t r ps body p)

-- the parameters, the name, then the body
unfoldable pub function_of : Leaf → CType → List Parameter → Option Statements → Program → Checked Program
function_of t r xs body p = parameters p (declares_allocation (bytes p t) (is_some body)) [] xs >>= (λ ps. judged_as t r ps body p)

-- ---- parts

-- the number of the function with the name, or that of the next one
abbrev pub number_of : Program → Leaf → ℕ
number_of p t = number_or (function_number p.functions (bytes p t)) (length p.functions)

abbrev pub with_declared : Program → Leaf → CType → List Named → Program
with_declared p t r ps = with_function p (bytes p t) r ps (function_number p.functions (bytes p t))

abbrev pub with_prototype : Program → List ℕ → CType → List Named → Program
with_prototype p name r ps = with_function p name r ps None

-- a function with these statements
abbrev pub with_statements : List ℕ → CType → ℕ → List Named → List Stmt → CoreFunction
with_statements name r n locals ss = record { name = name; result = r; params = n; locals = locals; registers = []; ghosts = []; body = Some ss }

-- the program with the body of the function with this number
abbrev pub with_body : Program → ℕ → List ℕ → CType → List Named → Statements → Checked Program
with_body p n name r ps body = defined_as p n name r ps (Some body)

-- the function with this number has the name
abbrev pub IsNamed : List ℕ → Option CoreFunction → Type 0
IsNamed name None = ⊥
IsNamed name (Some f) = f.name ≡ name

abbrev pub IsDeclared : Program → ℕ → List ℕ → Type 0
IsDeclared p n name = IsNamed name (slice_get p.functions n)
