-- Items, step by step.
use Rattle.std.proofs.Common.{◌≡◌, List, [], ◌∷◌, length, Some, None, Ok, refl}
use Rattle.c_words.specs.declared.word.Leaf.{Leaf}
use Rattle.c_words.specs.declared.chain.Chain.{Chain}
use Rattle.c_grammar.specs.declared.types.Specifier.{Specifier}
use Rattle.c_grammar.specs.declared.declaration.Declared.{Declared as DeclaredTree}
use Rattle.step_meaning.specs.declared.value.CType.{CType}
use Rattle.step_meaning.specs.declared.value.CType.TheVariants.{Struct}
use Rattle.typing_rules.specs.Checked.{◌>>=◌}
use Rattle.typing_rules.specs.Syntax.{Item, Members, Declared}
use Rattle.typing_rules.specs.Environment.{specified}
use Rattle.typing_rules.specs.FileScope.{Program, seen_now, variables}
use Rattle.typing_rules.specs.Structs.{structure}
use Rattle.typing_rules.specs.Programs.{item, items}
use Rattle.typing_rules.specs.TreesOfDeclarations.{operands_there}
use Rattle.typing_files.specs.Runs.{run}
use Rattle.typing_files.specs.Variables.{declared_in}
use Rattle.typing_files.proofs.Outcomes.{then_same}
use Rattle.c_types.specs.Items.{declared_there, struct_item, variables_item}

pub none_there : (t : CType) (p : Program) → variables t (declared_there None) p ≡ Ok p
unfolding variables operands_there
none_there t p = refl

pub some_there : (c : Chain DeclaredTree) → declared_there (Some c) ≡ declared_in c
unfolding operands_there
some_there c = refl

pub struct_by : (tag : Leaf) (ms : List Members) (ds : List Declared) (p : Program) → item (struct_item tag ms ds) p ≡ (structure tag ms p >>= variables (Struct (length p.layouts)) ds)
unfolding item
struct_by tag ms ds p = refl

pub variables_by : (x : Specifier) (ds : List Declared) (p : Program) → item (variables_item x ds) p ≡ (specified (seen_now p) x >>= (λ base. variables base ds p))
unfolding item
variables_by x ds p = refl

pub items_run : (xs : List Item) (p : Program) → items xs p ≡ run item xs p
unfolding items run
items_run [] p = refl
items_run (x ∷ xs) p = then_same (item x p) (items xs) (run item xs) (λ q. items_run xs q)
