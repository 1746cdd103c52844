-- The functions of the library that each program has: `getchar`, `putchar`, `malloc` and `free`, with the numbers 0 to 3 and without a body (C11 7.21.7.6, 7.21.7.8, 7.22.3.4, 7.22.3.3).
-- The types of the last two have `void *`, which no other declaration has.
use Rattle.std.specs.Prelude.{ℕ, Bool, true, false, ◌&&◌, not, ◌==◌, List, [], ◌∷◌, ◌++◌, length, take, drop, Option, Some, None, codes}
use Rattle.std.specs.Str.{bytes_eq}
use Rattle.step_meaning.specs.declared.value.IntKind.TheVariants as kind
use Rattle.step_meaning.specs.declared.value.CType.{CType}
use Rattle.step_meaning.specs.declared.value.CType.TheVariants as type
use Rattle.step_meaning.specs.declared.program.Function.{Function}
use Rattle.step_meaning.specs.Types.{same_type}
use Rattle.step_meaning.specs.ExpressionTypes.{pointer_to, has_body, parameter_types}

abbrev pub int : CType
int = type.Int kind.Int

abbrev pub unsigned_long : CType
unsigned_long = type.Int kind.ULong

abbrev pub void_pointer : CType
void_pointer = pointer_to type.Void

-- a function with this name and result, and with parameters of these types
abbrev pub is_function : List ℕ → CType → List CType → Function → Bool
is_function name t ts f = bytes_eq f.name name && (same_type f.result t && (f.params == length ts && are_same (parameter_types f) ts))
  where
    are_same : List CType → List CType → Bool
    are_same [] [] = true
    are_same (t ∷ ts) (u ∷ us) = same_type t u && are_same ts us
    are_same _ _ = false

-- a function of the library, without a body
abbrev pub is_library : List ℕ → CType → List CType → Option Function → Bool
is_library name t ts None = false
is_library name t ts (Some f) = is_function name t ts f && not (has_body f)

abbrev pub is_empty : {A : Type 0} → List A → Bool
is_empty [] = true
is_empty (x ∷ xs) = false

-- it declares its parameters alone
abbrev pub declares_parameters_alone : Option Function → Bool
declares_parameters_alone None = false
declares_parameters_alone (Some f) = length f.locals == f.params && (is_empty f.registers && is_empty f.ghosts)

-- `malloc` and `free`
abbrev pub is_allocation : List ℕ → CType → List CType → Option Function → Bool
is_allocation name t ts f = is_library name t ts f && declares_parameters_alone f

abbrev pub is_malloc : Option Function → Bool
is_malloc f = is_allocation (codes "malloc") void_pointer (unsigned_long ∷ []) f

abbrev pub is_free : Option Function → Bool
is_free f = is_allocation (codes "free") type.Void (void_pointer ∷ []) f

-- the functions but `malloc` and `free`
abbrev pub but_allocation : List Function → List Function
but_allocation fs = take 2 fs ++ drop 4 fs
