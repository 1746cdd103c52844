-- The end of a text.
use Rattle.std.proofs.Common.{◌≡◌, ℕ, ◌-◌, ◌≤◌, Bool, true, false, not, List, Ok, Err, refl, arith}
use Rattle.std.specs.Prelude.{nat_le, nat_eq}
use Rattle.std.proofs.lemmas.Bool.{leb-true, eq-eqb, ne_eqb}
use Rattle.typing_rules.specs.Checked.{Checked, ◌>>=◌, kept, unless}
use Rattle.typing_rules.specs.declared.fault.TypeFault.TheVariants.{NoMain, TooLarge}
use Rattle.typing_rules.specs.Syntax.{Item}
use Rattle.typing_rules.specs.FileScope.{Program}
use Rattle.typing_rules.specs.Programs.{nowhere, most_file_cells, is_too_large, main_of, core_of, whole}
use Rattle.c_types.specs.Ends.{start_of}

above : (n : ℕ) → nat_le n most_file_cells ≡ false → 16777217 ≤ n
above n h = grind arith

pub room_left : (n room : ℕ) → room ≡ 16777217 - n → nat_eq room 0 ≡ not (nat_le n most_file_cells)
room_left n room e = by (nat_le n most_file_cells) refl
  where
    by : (b : Bool) → nat_le n most_file_cells ≡ b → nat_eq room 0 ≡ not b
    by true h = let low : n ≤ 16777216 = leb-true n most_file_cells h in ne_eqb room 0 (omega arith)
    by false h = let high : 16777217 ≤ n = above n h in eq-eqb room 0 (omega arith)

pub whole_by : (all : List Item) (p : Program) → whole all p ≡ (start_of all p >>= (λ n. Ok (core_of p n)))
unfolding whole start_of
whole_by all p = by (kept (NoMain nowhere) (main_of p))
  where
    after : (n : ℕ) (c : Checked (Unit {0})) → (c >>= (λ u. Ok (core_of p n))) ≡ ((c >>= (λ u. Ok n)) >>= (λ n. Ok (core_of p n)))
    after n (Ok u) = refl
    after n (Err e) = refl

    by : (c : Checked ℕ) → (c >>= (λ n. unless (is_too_large all p) (TooLarge nowhere) >>= (λ u. Ok (core_of p n)))) ≡ ((c >>= (λ n. unless (is_too_large all p) (TooLarge nowhere) >>= (λ u. Ok n))) >>= (λ n. Ok (core_of p n)))
    by (Ok n) = after n (unless (is_too_large all p) (TooLarge nowhere))
    by (Err e) = refl
