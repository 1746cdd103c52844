-- Declarations and definitions of functions (C11 6.7.6.3, 6.9.1).
use Rattle.std.specs.Prelude.{ℕ, suc, Bool, true, false, ◌&&◌, ◌||◌, not, List, [], ◌∷◌, ◌++◌, map, length, take, drop, codes, position, Option, Some, None, is_some, Ok}
use Rattle.std.specs.List.{list_any}
use Rattle.std.specs.Str.{bytes_eq}
use Rattle.c_lexer.specs.declared.token.Place.{Place}
use Rattle.c_words.specs.declared.word.Leaf.{Leaf}
use Rattle.step_meaning.specs.declared.value.CType.{CType, end_of-CType, more_of-CType}
use Rattle.step_meaning.specs.declared.value.CType.TheVariants as type
use Rattle.step_meaning.specs.declared.value.NameKind.TheVariants as names
use Rattle.step_meaning.specs.declared.stmt.Stmt.{Stmt}
use Rattle.step_meaning.specs.declared.program.Declared.{Declared as Named}
use Rattle.step_meaning.specs.declared.program.Function.{Function as CoreFunction}
use Rattle.step_meaning.specs.Types.{same_type}
use Rattle.step_meaning.specs.ExpressionTypes.{pointer_to, parameter_types, has_body, is_void}
use Rattle.step_meaning.specs.Library.{int, void_pointer}
use Rattle.typing_rules.specs.declared.fault.TypeFault.TheVariants.{Redeclared, Mismatch, StructValue, Reserved}
use Rattle.typing_rules.specs.declared.operand.Entry.{Entry}
use Rattle.typing_rules.specs.declared.operand.Entry.TheVariants as entry
use Rattle.typing_rules.specs.Checked.{Checked, ◌>>=◌, none_of}
use Rattle.typing_rules.specs.Syntax.{Spelled, Parameter, Statements}
use Rattle.typing_rules.specs.Environment.{Environment, Scope, place_of, contains, is_reserved, specified, spelled_type}
use Rattle.typing_rules.specs.Declarations.{layers, layered, is_complete_in, is_struct, declarable}
use Rattle.typing_rules.specs.Statements.{Frame, statements}
use Rattle.typing_rules.specs.FileScope.{Program, seen_now, bytes}

-- ---- the functions of the library (C11 7.21.7.6, 7.21.7.8, 7.22.3.4, 7.22.3.3)

abbrev pub library_names : List (List ℕ)
library_names = codes "getchar" ∷ codes "putchar" ∷ codes "malloc" ∷ codes "free" ∷ []

abbrev pub is_library : List ℕ → Bool
is_library name = contains library_names name

-- a prototype of `malloc` or `free`, in which alone a pointer to `void` is declared
abbrev pub declares_allocation : List ℕ → Bool → Bool
declares_allocation name defined = not defined && (bytes_eq name (codes "malloc") || bytes_eq name (codes "free"))

abbrev pub is_void_pointer : CType → Bool
is_void_pointer t = same_type t void_pointer

-- ---- parameters

-- an array of a parameter is a pointer to its element (C11 6.7.6.3, 7)
abbrev pub adjusted : CType → CType
adjusted (type.Array' b (more_of-CType t end_of-CType) n) = pointer_to t
adjusted t = t

abbrev pub name_of : Program → Option Leaf → List ℕ
name_of p None = []
name_of p (Some t) = bytes p t

-- the name, or the first token of a parameter without one
abbrev pub place_of_parameter : Parameter → Place
place_of_parameter x = at x.name
  where
    at : Option Leaf → Place
    at None = place_of x.first
    at (Some t) = place_of t

abbrev pub is_repeated : List Named → List ℕ → Bool
is_repeated ps [] = false
is_repeated ps (c ∷ cs) = list_any (λ d. bytes_eq d.name (c ∷ cs)) ps

-- what a parameter declares: nothing where it has no name
abbrev pub declared_name : List ℕ → Entry → Scope
declared_name [] x = []
declared_name (c ∷ cs) x = (c ∷ cs, x) ∷ []

abbrev pub parameter_entries : ℕ → List Named → Scope
parameter_entries n [] = []
parameter_entries n (d ∷ ds) = declared_name d.name (entry.Variable (record { kind = names.Local; index = n }) d.ctype) ++ parameter_entries (suc n) ds

-- the scope of a function: its parameters and its outermost block (C11 6.2.1, 4)
abbrev pub parameter_scope : List Named → Scope
parameter_scope ps = parameter_entries 0 ps

-- a size may name an earlier parameter, and is no constant then
abbrev pub with_parameters : Environment → List Named → Environment
with_parameters g ps = record g { scopes = parameter_scope ps ∷ g.scopes }

-- of a parameter that is declared with this type: it is complete as a parameter, or a pointer to `void` in a prototype of `malloc` or `free`
abbrev pub is_wrong_parameter : Environment → Bool → CType → Bool
is_wrong_parameter g allocation t = not (is_complete_in g (adjusted t) || (allocation && is_void_pointer t))

unfoldable pub parameter : Program → Bool → List Named → Parameter → Checked (List Named)
parameter p allocation ps x = do
  base ← specified (seen_now p) x.specifier
  ls ← layers (with_parameters (seen_now p) ps) 1 x.modifiers
  let t = layered ls base in let name = name_of p x.name in
      declarable (seen_now p) (place_of_parameter x) (is_repeated ps name) (is_wrong_parameter (seen_now p) allocation t) true (is_reserved (seen_now p) name) (adjusted t)
      >>= (λ u. Ok (ps ++ (record { name = name; ctype = adjusted t } ∷ [])))

unfoldable pub parameters : Program → Bool → List Named → List Parameter → Checked (List Named)
parameters p allocation ps [] = Ok ps
parameters p allocation ps (x ∷ xs) = parameter p allocation ps x >>= (λ qs. parameters p allocation qs xs)

-- ---- declared functions

-- the number of the function of file scope with the name
abbrev pub function_number : List CoreFunction → List ℕ → Option ℕ
function_number fs name = position (λ f. bytes_eq name f.name) fs

abbrev pub types_of : List Named → List CType
types_of ps = map (λ d. d.ctype) ps

abbrev pub are_same : List CType → List CType → Bool
are_same [] [] = true
are_same (t ∷ ts) (u ∷ us) = same_type t u && are_same ts us
are_same _ _ = false

-- a declaration beside an earlier one: of the same type, and with one body at most, which those of the library have elsewhere (C11 6.7, 4; 6.9, 3)
abbrev pub contradicts : CoreFunction → CType → List Named → Bool → Bool
contradicts f r ps defined = not (same_type f.result r && are_same (parameter_types f) (types_of ps)) || (defined && (has_body f || is_library f.name))

abbrev pub contradicts_earlier : Program → List ℕ → CType → List Named → Bool → Bool
contradicts_earlier p name r ps defined = list_any (λ f. bytes_eq f.name name && contradicts f r ps defined) p.functions

abbrev pub is_variable : Program → List ℕ → Bool
is_variable p name = list_any (λ d. bytes_eq d.name name) p.globals

-- `main` is `int main(void)` (C11 5.1.2.2.1)
abbrev pub is_other_main : List ℕ → CType → List Named → Bool
is_other_main name r ps = bytes_eq name (codes "main") && not (same_type r int && are_same (types_of ps) [])

-- `void`, a complete type, or a pointer to `void` where that may stand
abbrev pub is_wrong_result : Program → Bool → CType → Bool
is_wrong_result p allocation r = not (is_void r || (is_complete_in (seen_now p) r || (allocation && is_void_pointer r)))

unfoldable pub declarable_function : Program → Leaf → CType → List Named → Bool → Checked (Unit {0})
declarable_function p t r ps defined =
    let name = bytes p t in
    none_of ((is_variable p name || contradicts_earlier p name r ps defined, Redeclared (place_of t))
    ∷ (is_other_main name r ps || is_wrong_result p (declares_allocation name defined) r, Mismatch (place_of t))
    ∷ (is_struct r, StructValue (place_of t))
    ∷ (is_reserved (seen_now p) name, Reserved (place_of t)) ∷ [])

-- the parameters of a function without body have no names
abbrev pub without_name : Named → Named
without_name d = record d { name = [] }

abbrev pub prototype : List ℕ → CType → List Named → CoreFunction
prototype name r ps = record { name = name; result = r; params = length ps; locals = map without_name ps; registers = []; ghosts = []; body = None }

abbrev pub defined_function : List ℕ → CType → List Named → Frame → List Stmt → CoreFunction
defined_function name r ps f ss = record { name = name; result = r; params = length ps; locals = f.locals; registers = []; ghosts = []; body = Some ss }

-- the function is known from here on, in its own body too; its number is that of its first declaration
abbrev pub with_function : Program → List ℕ → CType → List Named → Option ℕ → Program
with_function p name r ps None = record p { functions = p.functions ++ (prototype name r ps ∷ []) }
with_function p name r ps (Some n) = p

abbrev pub number_or : Option ℕ → ℕ → ℕ
number_or None n = n
number_or (Some k) n = k

-- the list with x in place of the one with this number
unfoldable pub replaced : {A : Type 0} → ℕ → A → List A → List A
replaced n x xs = take n xs ++ (x ∷ drop (suc n) xs)

-- the body, where there is one
unfoldable pub defined_as : Program → ℕ → List ℕ → CType → List Named → Option Statements → Checked Program
defined_as p n name r ps None = Ok p
defined_as p n name r ps (Some body) = do
  done ← statements (seen_now p) r false body (record { locals = ps; scopes = parameter_scope ps ∷ [] })
  Ok (record p { functions = replaced n (defined_function name r ps done.1 done.0) p.functions })

-- the result, the parameters, the name, then the body
unfoldable pub function : Spelled → Leaf → List Parameter → Option Statements → Program → Checked Program
function result t xs body p = do
  r ← spelled_type (seen_now p) result
  ps ← parameters p (declares_allocation (bytes p t) (is_some body)) [] xs
  _ ← declarable_function p t r ps (is_some body)
  let name = bytes p t in let number = function_number p.functions name in
      defined_as (with_function p name r ps number) (number_or number (length p.functions)) name r ps body
