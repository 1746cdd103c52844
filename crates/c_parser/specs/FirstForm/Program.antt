-- A program of the first form as a value: a tree without where it lies in memory.
use Rattle.std.specs.Prelude.{ℕ, List, Option, map}
use Rattle.std.specs.String.{string_bytes}
use Rattle.c_parser.specs.declared.first_form.tree.FirstStmt.{FirstStmt}
use Rattle.c_parser.specs.declared.first_form.tree.FirstFunction.{FirstFunction}
use Rattle.c_parser.specs.declared.first_form.tree.FirstProperty.{FirstProperty}
use Rattle.c_parser.specs.declared.first_form.tree.FirstTree.{FirstTree}
use Rattle.std.specs.Option.{option_map}

pub record Function : Type 0 where
  pub name : List ℕ
  pub body : List FirstStmt

pub record Property : Type 0 where
  pub name : List ℕ
  pub variable : ℕ

-- the functions are in the order of the text, and `main` is the last
pub record Program : Type 0 where
  pub globals : List (List ℕ)
  pub property : Option Property
  pub functions : List Function

abbrev pub function_of : FirstFunction → Function
function_of f = record { name = string_bytes f.name; body = f.body.items }

abbrev pub property_of : FirstProperty → Property
property_of p = record { name = string_bytes p.name; variable = p.variable }

abbrev pub program_of : FirstTree → Program
program_of t = record { globals = map string_bytes t.globals.items; property = option_map property_of t.property; functions = map function_of t.functions.items }
