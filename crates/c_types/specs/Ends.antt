-- The end of a text.
use Rattle.std.specs.Prelude.{ℕ, Bool, not, nat_le, List, Ok}
use Rattle.typing_rules.specs.declared.fault.TypeFault.TheVariants.{NoMain, TooLarge}
use Rattle.typing_rules.specs.Checked.{Checked, ◌>>=◌, kept, unless}
use Rattle.typing_rules.specs.Syntax.{Item}
use Rattle.typing_rules.specs.FileScope.{Program}
use Rattle.typing_rules.specs.Programs.{nowhere, most_file_cells, most_weight, file_cells, whole_weight, is_too_large, main_of}

abbrev pub has_many_cells : Program → Bool
has_many_cells p = not (nat_le (file_cells p) most_file_cells)

abbrev pub is_heavy : List Item → Program → Bool
is_heavy all p = not (nat_le (whole_weight all p) most_weight)

-- the number of `main` in a text within the limits
unfoldable pub start_of : List Item → Program → Checked ℕ
start_of all p = kept (NoMain nowhere) (main_of p) >>= (λ n. unless (is_too_large all p) (TooLarge nowhere) >>= (λ u. Ok n))
