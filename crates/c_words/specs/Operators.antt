-- The words of each set of operators, and when a chain goes on.
use Rattle.std.specs.Prelude.{Bool, true, false, not, ◌&&◌, ◌||◌}
use Rattle.c_words.specs.declared.word.Word.{Word}
use Rattle.c_words.specs.declared.word.Word.TheVariants as w
use Rattle.c_words.specs.declared.operators.Operators.{Operators}
use Rattle.c_words.specs.declared.operators.Operators.TheVariants as o
use Rattle.c_words.specs.Words.{same}
use Rattle.c_words.specs.OperatorWords.{is_comma, is_product_operator, is_sum_operator, is_shift_operator, is_relation_operator, is_equal_operator, is_assignment_operator, is_prefix_operator}
use Rattle.c_words.specs.Parsing.{Leaves, word_at, after}

-- an operator of any of the ten levels
abbrev pub is_binary_operator : Word → Bool
is_binary_operator w.OrOr = true
is_binary_operator w.AndAnd = true
is_binary_operator w.Bar = true
is_binary_operator w.Caret = true
is_binary_operator w.Ampersand = true
is_binary_operator w.EqualEqual = true
is_binary_operator w.NotEqual = true
is_binary_operator w.Less = true
is_binary_operator w.Greater = true
is_binary_operator w.LessEqual = true
is_binary_operator w.GreaterEqual = true
is_binary_operator w.ShiftLeft = true
is_binary_operator w.ShiftRight = true
is_binary_operator w.Plus = true
is_binary_operator w.Minus = true
is_binary_operator w.Star = true
is_binary_operator w.Slash = true
is_binary_operator w.Percent = true
is_binary_operator _ = false

abbrev pub has : Operators → Word → Bool
has o.Or = same w.OrOr
has o.And = same w.AndAnd
has o.BitOr = same w.Bar
has o.BitXor = same w.Caret
has o.BitAnd = same w.Ampersand
has o.Equal = is_equal_operator
has o.Relation = is_relation_operator
has o.Shift = is_shift_operator
has o.Sum = is_sum_operator
has o.Product = is_product_operator
has o.Binary = is_binary_operator
has o.Assignment = is_assignment_operator
has o.Prefix = is_prefix_operator
has o.List = is_comma
has o.Elements = is_comma

-- a chain goes on at an operator; a comma before `}` is none
abbrev pub continues : Operators → Leaves → Bool
continues o.Elements ts = is_comma (word_at ts) && not (same w.RightBrace (word_at (after ts)))
continues x ts = has x (word_at ts)
