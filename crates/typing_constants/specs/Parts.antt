-- Parts of variables of file scope, as code holds them: an offset is counted up to 2^64 - 1, and stands still there.
use Rattle.std.specs.Prelude.{ℕ, ◌+◌, ◌*◌, min, nat_lt, pos, if◌then◌else◌, List, slice_get, Option, Some, None, option_and_then, option_map}
use Rattle.step_meaning.specs.declared.value.CType.{CType}
use Rattle.step_meaning.specs.declared.value.Value.{Value}
use Rattle.step_meaning.specs.declared.value.Value.TheVariants as value
use Rattle.step_meaning.specs.declared.value.NameKind.TheVariants.{Global}
use Rattle.step_meaning.specs.declared.expr.Variable.{Variable}
use Rattle.step_meaning.specs.declared.expr.Expr.{Expr}
use Rattle.step_meaning.specs.declared.expr.Expr.TheVariants.{Literal, Null, Address}
use Rattle.step_meaning.specs.declared.expr.Place_.{Place_}
use Rattle.step_meaning.specs.declared.program.Layout.{Layout}
use Rattle.step_meaning.specs.declared.program.Declared.{Declared}
use Rattle.step_meaning.specs.Names.{same_kind}
use Rattle.step_meaning.specs.TypeRules.{member_type, element_type}
use Rattle.step_meaning.specs.InitialValues.{element_count}
use Rattle.typing_rules.specs.ConstantExpressions as rules
use Rattle.typing_constants.specs.declared.address.Part.{Part}

abbrev pub most_offset : ℕ
most_offset = 18446744073709551615

-- a part as the rules have it
abbrev pub part : Part → rules.Part
part p = record { index = p.index; offset = p.offset; ctype = p.ctype.now }

abbrev pub counted : rules.Part → rules.Part
counted p = record { index = p.index; offset = min p.offset most_offset; ctype = p.ctype }

abbrev pub whole : ℕ → Declared → rules.Part
whole n d = record { index = n; offset = 0; ctype = d.ctype }

-- the variable itself
unfoldable pub variable_part : List Declared → Variable → Option rules.Part
variable_part globals v = if same_kind v.kind Global then option_map (whole v.index) (slice_get globals v.index) else None

-- a literal that is not negative
abbrev pub literal_index : Expr → Option ℕ
literal_index (Literal k (pos n)) = Some n
literal_index _ = None

-- a part of this part, so many cells further on
abbrev pub further : rules.Part → ℕ → CType → rules.Part
further p cells t = record { index = p.index; offset = min (p.offset + cells) most_offset; ctype = t }

module _ (layouts : List Layout) where
  unfoldable pub counted_member : ℕ → Option rules.Part → Option rules.Part
  counted_member o q = option_and_then (λ p. option_map (further p o) (member_type layouts p.ctype o)) q

  abbrev pub element_at : ℕ → ℕ → rules.Part → Option rules.Part
  element_at n size p = if nat_lt n (element_count p.ctype) then option_map (further p (n * size)) (element_type layouts p.ctype size) else None

  unfoldable pub counted_element : ℕ → Option ℕ → Option rules.Part → Option rules.Part
  counted_element size n q = option_and_then (λ n. option_and_then (element_at n size) q) n

  unfoldable pub counted_part : List Declared → Place_ → Option rules.Part
  counted_part globals p = option_map counted (rules.part_of layouts globals p)

  -- what an expression gives a cell that is no integer
  unfoldable pub initial_pointer : List Declared → Expr → Option Value
  initial_pointer globals Null = Some value.Null
  initial_pointer globals (Address p u) = rules.address_of layouts globals p u
  initial_pointer globals _ = None
