-- Parameters, step by step.
use Rattle.std.specs.Prelude.{◌≡◌, Bool, false, true, List, [], ◌∷◌, ◌++◌, map, Ok, IsTrue}
use Rattle.std.specs.List.{AllByRecursion}
use Rattle.c_words.specs.declared.chain.Chain.{Chain}
use Rattle.c_grammar.specs.declared.declaration.Parameter.{Parameter as ParameterTree}
use Rattle.step_meaning.specs.declared.value.CType.{CType}
use Rattle.step_meaning.specs.declared.program.Declared.{Declared as Named}
use Rattle.step_meaning.specs.Library.{void_pointer}
use Rattle.typing_rules.specs.Checked.{Checked, ◌>>=◌}
use Rattle.typing_rules.specs.Syntax.{Parameter}
use Rattle.typing_rules.specs.Environment.{Environment, is_reserved, specified}
use Rattle.typing_rules.specs.Declarations as rules
use Rattle.typing_rules.specs.Declarations.{layers, layered, declarable, is_within_limit}
use Rattle.typing_rules.specs.FileScope.{Program, tags, seen_now}
use Rattle.typing_rules.specs.Functions.{adjusted, name_of, place_of_parameter, is_repeated, parameter_scope, with_parameters, is_wrong_parameter}
use Rattle.typing_rules.specs.TreesOfDeclarations as trees
use Rattle.typing_declarators.specs.declared.name.DeclaredName.{DeclaredName}
use Rattle.typing_scopes.specs.declared.known.Known.{Known}
use Rattle.typing_scopes.specs.Known.{program, frame}
use Rattle.typing_files.specs.Points.{IsSteady}

-- the parameters of a function are being read: so far these
pub record IsInFunction (k : Known) : Type 0 where
  pub tags : k.tags ≡ tags (program k)
  pub frame : frame k ≡ record { locals = k.locals; scopes = parameter_scope k.locals ∷ [] }
  pub steady : IsSteady (program k)
  pub small : AllByRecursion (λ d. IsTrue (is_within_limit k.layouts d.ctype)) k.locals

-- an array of a parameter is a pointer to its element (C11 6.7.6.3, 7)
abbrev pub decayed : List rules.Layer → List rules.Layer
decayed [] = []
decayed (l ∷ ls) = rules.Pointing ∷ ls

abbrev pub is_lone_pointer : List rules.Layer → Bool
is_lone_pointer (rules.Pointing ∷ []) = true
is_lone_pointer _ = false

-- what the rules see of the name of a parameter, after these parameters
abbrev pub parameter_name : Program → List Named → Parameter → DeclaredName
parameter_name p ps x = record {
  place = place_of_parameter x;
  again = is_repeated ps (name_of p x.name);
  wrong = false;
  is_value = true;
  reserved = is_reserved (seen_now p) (name_of p x.name);
}

-- the type of a parameter with these layers, whose name keeps the rules
unfoldable pub adjusted_type : Environment → Bool → DeclaredName → List rules.Layer → CType → Checked CType
adjusted_type g allocation n ls base =
    let t = layered ls base in declarable g n.place n.again (is_wrong_parameter g allocation t) true n.reserved (adjusted t) >>= (λ u. Ok (adjusted t))

-- of a parameter after these
unfoldable pub parameter_type : Program → Bool → List Named → Parameter → CType → Checked CType
parameter_type p allocation ps x base = layers (with_parameters (seen_now p) ps) 1 x.modifiers >>= (λ ls. adjusted_type (seen_now p) allocation (parameter_name p ps x) ls base)

-- of a parameter with its base
unfoldable pub whole_type : Program → Bool → List Named → Parameter → Checked CType
whole_type p allocation ps x = specified (seen_now p) x.specifier >>= parameter_type p allocation ps x

-- a pointer to `void`, whose name keeps the rules
unfoldable pub void_pointer_type : Environment → DeclaredName → Checked CType
void_pointer_type g n = declarable g n.place n.again false true n.reserved void_pointer >>= (λ u. Ok void_pointer)

-- no rule of its own on its type is broken
pub record IsPlain (n : DeclaredName) : Type 0 where
  pub right : n.wrong ≡ false
  pub value : n.is_value ≡ true

-- what a name and a type have to keep for a parameter to be declared
pub record MayBeParameter (p : Program) (ps : List Named) (x : Parameter) (t : CType) : Type 0 where
  pub new : is_repeated ps (name_of p x.name) ≡ false
  pub small : IsTrue (is_within_limit p.layouts t)

-- one more parameter
abbrev pub with_parameter : Program → Parameter → CType → List Named → List Named
with_parameter p x t ps = ps ++ (record { name = name_of p x.name; ctype = t } ∷ [])

-- the parameters of a list
abbrev pub parameters_in : Chain ParameterTree → List Parameter
parameters_in c = map trees.parameter (trees.operands c)
