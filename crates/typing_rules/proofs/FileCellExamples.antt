-- Examples of the limit of 16,777,216 cells on all variables of file scope together: 256 variables of 65,536 cells have as many, and one more is too much. The fault has no place.
use Rattle.std.proofs.Common.{◌≡◌, refl, ℕ, zero, suc, ◌*◌, true, false, List, [], ◌∷◌, codes}
use Rattle.c_words.specs.declared.word.Mode.TheVariants as mode
use Rattle.step_meaning.specs.declared.value.CType.{CType, end_of-CType, more_of-CType}
use Rattle.step_meaning.specs.declared.value.CType.TheVariants as type
use Rattle.step_meaning.specs.declared.value.IntKind.TheVariants as kind
use Rattle.step_meaning.specs.declared.program.Declared.{Declared}
use Rattle.step_meaning.specs.TypeRules.{cells}
use Rattle.core_types.proofs.SizeLaws.{times_length}
use Rattle.typing_rules.specs.FileScope.{Program}
use Rattle.typing_rules.specs.Programs.{is_too_large}

abbrev array_of : ℕ → CType
array_of n = type.Array' tt (more_of-CType (type.Int kind.Char) end_of-CType) n

abbrev named : CType → Declared
named t = record { name = codes "a"; ctype = t }

abbrev repeated : ℕ → Declared → List Declared → List Declared
repeated zero d ds = ds
repeated (suc n) d ds = d ∷ repeated n d ds

abbrev with_variables : List Declared → Program
with_variables ds = record { mode = mode.Source; text = []; bodies = []; layouts = []; globals = ds; initial = []; functions = [] }

pub full : (t : CType) → cells [] t ≡ 65536 → is_too_large [] (with_variables (repeated 256 (named t) [])) ≡ false
full t h = rw h refl

pub over : (t : CType) → cells [] t ≡ 65536 → is_too_large [] (with_variables (repeated 256 (named t) (named (type.Int kind.Char) ∷ []))) ≡ true
over t h = rw h refl

-- there are such types
pub array_cells : (n : ℕ) → cells [] (array_of n) ≡ n * 1
array_cells n = times_length n (type.Int kind.Char ∷ [])
