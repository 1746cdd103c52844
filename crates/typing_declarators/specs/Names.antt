-- The type of a declared name.
use Rattle.std.specs.Prelude.{ℕ, not, ◌||◌, List, Ok}
use Rattle.step_meaning.specs.declared.value.CType.{CType}
use Rattle.typing_rules.specs.Checked.{Checked, ◌>>=◌}
use Rattle.typing_rules.specs.Environment.{Environment}
use Rattle.typing_rules.specs.Syntax.{Modifier}
use Rattle.typing_rules.specs.Declarations as rules
use Rattle.typing_declarators.specs.declared.name.DeclaredName.{DeclaredName}

-- the type of a declared name, whose rules it keeps
unfoldable pub object_type : Environment → DeclaredName → List rules.Layer → CType → Checked CType
object_type g name ls base =
    let t = rules.layered ls base in
    rules.declarable g name.place name.again (name.wrong || not (rules.is_complete_in g t)) name.is_value name.reserved t >>= (λ u. Ok t)

-- the type of a name with these modifiers, where `[ ]` has so many elements
unfoldable pub declared_type : Environment → DeclaredName → ℕ → List Modifier → CType → Checked CType
declared_type g name n ms base = rules.layers g n ms >>= (λ ls. object_type g name ls base)
