-- What the annotations of a body may name, at its beginning and after.
-- int f(int n) { register int __r; int a; return n; }
use Rattle.std.proofs.Common.{◌≡◌, refl, [], ◌∷◌, Option, Some, None}
use Rattle.step_meaning.specs.declared.value.CType.{CType}
use Rattle.step_meaning.specs.declared.value.NameKind.{NameKind}
use Rattle.step_meaning.specs.declared.value.NameKind.TheVariants as names
use Rattle.step_meaning.specs.declared.stmt.Stmt.TheVariants as s
use Rattle.step_meaning.specs.declared.program.Function.{Function}
use Rattle.step_meaning.specs.Settings.{Setting, variable_type, setting_of, leading_setting}
use Rattle.step_meaning.proofs.Examples.{int, declared, local, load, return, function, empty_main}

abbrev f : Function
f = record (function int (declared int ∷ declared int ∷ []) (s.Empty ∷ s.Empty ∷ return (load (local 0)) ∷ [])) { params = 1; registers = declared int ∷ [] }

abbrev type_in : Setting → NameKind → Option CType
type_in g k = variable_type g (record { kind = k; index = 0 })

abbrev second_in : Setting → Option CType
second_in g = variable_type g (record { kind = names.Local; index = 1 })

leading_parameter : type_in (leading_setting empty_main f) names.Local ≡ Some int
leading_parameter = refl

leading_no_local : second_in (leading_setting empty_main f) ≡ None
leading_no_local = refl

leading_no_register : type_in (leading_setting empty_main f) names.Register ≡ None
leading_no_register = refl

later_local : second_in (setting_of empty_main f) ≡ Some int
later_local = refl

later_register : type_in (setting_of empty_main f) names.Register ≡ Some int
later_register = refl

-- no variable of the text is a heap block
no_heap : type_in (setting_of empty_main f) names.Heap ≡ None
no_heap = refl
