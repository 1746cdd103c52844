-- The words that are operators of each level (C11 6.5).
use Rattle.std.specs.Prelude.{Bool, true, false, ◌||◌}
use Rattle.c_words.specs.declared.word.Word.{Word}
use Rattle.c_words.specs.declared.word.Word.TheVariants as w
use Rattle.c_words.specs.Words.{same}

abbrev pub is_comma : Word → Bool
is_comma = same w.Comma

abbrev pub is_product_operator : Word → Bool
is_product_operator x = same w.Star x || (same w.Slash x || same w.Percent x)

abbrev pub is_sum_operator : Word → Bool
is_sum_operator x = same w.Plus x || same w.Minus x

abbrev pub is_shift_operator : Word → Bool
is_shift_operator x = same w.ShiftLeft x || same w.ShiftRight x

abbrev pub is_relation_operator : Word → Bool
is_relation_operator x = same w.Less x || (same w.Greater x || (same w.LessEqual x || same w.GreaterEqual x))

abbrev pub is_equal_operator : Word → Bool
is_equal_operator x = same w.EqualEqual x || same w.NotEqual x

abbrev pub is_prefix_operator : Word → Bool
is_prefix_operator w.Increment = true
is_prefix_operator w.Decrement = true
is_prefix_operator w.Ampersand = true
is_prefix_operator w.Star = true
is_prefix_operator w.Plus = true
is_prefix_operator w.Minus = true
is_prefix_operator w.Tilde = true
is_prefix_operator w.Exclamation = true
is_prefix_operator _ = false

abbrev pub is_assignment_operator : Word → Bool
is_assignment_operator w.Assign = true
is_assignment_operator w.StarAssign = true
is_assignment_operator w.SlashAssign = true
is_assignment_operator w.PercentAssign = true
is_assignment_operator w.PlusAssign = true
is_assignment_operator w.MinusAssign = true
is_assignment_operator w.ShiftLeftAssign = true
is_assignment_operator w.ShiftRightAssign = true
is_assignment_operator w.AndAssign = true
is_assignment_operator w.XorAssign = true
is_assignment_operator w.OrAssign = true
is_assignment_operator _ = false
