-- Well-formed programs: those that the text of a program can stand for, with or without annotations (C11 6.4 to 6.9 in the language of this project).
-- Each condition is a sentence of its own. What a part names exists, since it has a type, a body or initial values only then.
use Rattle.std.specs.Prelude.{ℕ, Bool, false, ◌&&◌, nat_le, List, [], ◌∷◌, ◌++◌, map, length, slice_get, Option, Some, None, IsTrue, codes}
use Rattle.std.specs.List.{list_all, AllByRecursion}
use Rattle.step_meaning.specs.declared.stmt.Stmt.{Stmt}
use Rattle.step_meaning.specs.declared.program.Layout.{Layout}
use Rattle.step_meaning.specs.declared.program.Declared.{Declared}
use Rattle.step_meaning.specs.declared.program.Function.{Function}
use Rattle.step_meaning.specs.declared.program.Core.{Core}
use Rattle.step_meaning.specs.TypeRules.{are_layouts, keeps_rules, is_scalar_type, is_result_type}
use Rattle.step_meaning.specs.ExpressionTypes.{has_body, parameter_types}
pub use Rattle.step_meaning.specs.Library.{int}
use Rattle.step_meaning.specs.Library.{is_function, is_library, is_malloc, is_free, but_allocation}
use Rattle.step_meaning.specs.StatementRules.{BodyFits}
use Rattle.step_meaning.specs.InitialValues.{AllInitialised}
use Rattle.step_meaning.specs.Identifiers.{is_name, are_distinct}

-- what is true of a body, where there is one
abbrev pub OfBody : (List Stmt → Type 0) → Option (List Stmt) → Type 0
OfBody P None = Unit {0}
OfBody P (Some ss) = P ss

-- ---- types of functions

-- `int main(void)`, with a body (C11 5.1.2.2.1)
abbrev pub is_main : Option Function → Bool
is_main None = false
is_main (Some f) = is_function (codes "main") int [] f && has_body f

-- ---- names

abbrev pub declared_names : List Declared → List (List ℕ)
declared_names ds = map (λ d. d.name) ds

-- the names of members
abbrev pub are_member_names : Layout → Bool
are_member_names l = list_all is_name (declared_names l.members) && are_distinct (declared_names l.members)

-- ---- functions

pub record IsWellFormedFunction (q : Core) (f : Function) : Type 0 where
  -- the result is `void`, or an integer or pointer type that a type name spells
  pub result : IsTrue (is_result_type q.layouts f.result)
  -- the parameters are the first locals; each is an integer or a pointer
  pub parameters_first : IsTrue (nat_le f.params (length f.locals))
  pub parameters : IsTrue (list_all (is_scalar_type q.layouts) (parameter_types f))
  -- the types of all locals keep the rules on types
  pub locals : IsTrue (list_all (λ d. keeps_rules q.layouts d.ctype) f.locals)
  -- registers and ghost variables are integers or pointers
  pub registers : IsTrue (list_all (λ d. is_scalar_type q.layouts d.ctype) f.registers)
  pub ghosts : IsTrue (list_all (λ d. is_scalar_type q.layouts d.ctype) f.ghosts)
  -- its statements, expressions and annotations keep their rules
  pub body : OfBody (BodyFits q f) f.body
  -- where it has a body, its parameters and locals have names
  pub names : OfBody (λ ss. IsTrue (list_all is_name (declared_names f.locals))) f.body

-- ---- programs

pub record IsWellFormed (q : Core) : Type 0 where
  -- each struct has a member, its members name earlier structs or, behind a pointer, the struct itself, and it keeps the rules on types
  pub structs : IsTrue (are_layouts q.layouts)
  -- the types of variables of file scope keep the rules on types
  pub globals : IsTrue (list_all (λ d. keeps_rules q.layouts d.ctype) q.globals)
  -- each variable of file scope has initial values that an initialiser gives, with the address of no later one
  pub initial : AllInitialised q 0 q.globals q.initial
  -- ghost variables of file scope are integers or pointers
  pub ghosts : IsTrue (list_all (λ d. is_scalar_type q.layouts d.ctype) q.ghosts)
  -- `getchar`, `putchar`, `malloc` and `free` are the functions 0 to 3 (C11 7.21.7.6, 7.21.7.8, 7.22.3.4, 7.22.3.3)
  pub getchar : IsTrue (is_library (codes "getchar") int [] (slice_get q.functions 0))
  pub putchar : IsTrue (is_library (codes "putchar") int (int ∷ []) (slice_get q.functions 1))
  pub malloc : IsTrue (is_malloc (slice_get q.functions 2))
  pub free : IsTrue (is_free (slice_get q.functions 3))
  -- the program has `main`
  pub main : IsTrue (is_main (slice_get q.functions q.start))
  -- each function is well formed. `malloc` and `free` alone declare a pointer to `void`
  pub functions : AllByRecursion (IsWellFormedFunction q) (but_allocation q.functions)
  -- variables of file scope and functions have names, which together are distinct
  pub file_names : IsTrue (list_all is_name (declared_names q.globals ++ map (λ f. f.name) q.functions))
  pub distinct_names : IsTrue (are_distinct (declared_names q.globals ++ map (λ f. f.name) q.functions))
  -- so have structs their tags, and the members of one struct theirs
  pub tags : IsTrue (list_all is_name (map (λ l. l.tag) q.layouts))
  pub distinct_tags : IsTrue (are_distinct (map (λ l. l.tag) q.layouts))
  pub member_names : IsTrue (list_all are_member_names q.layouts)
