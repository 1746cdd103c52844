-- Products of unsigned kinds.
use Rattle.std.proofs.Common.{◌≡◌, ℕ, ◌*◌, false, cond, Ok, sym, ap, ◌∙◌}
use Rattle.std.specs.Prelude.{ℤ, pos, ◌*ℤ◌}
use Rattle.std.proofs.Math.IntN.{pos-*ℤ-pos}
use Rattle.step_meaning.specs.declared.value.IntKind.{IntKind}
use Rattle.step_meaning.specs.Numbers.{is_signed, converted, in_kind, is_in_range}
use Rattle.step_meaning.specs.declared.value.RunFault.TheVariants as fault
use Rattle.std.specs.Prelude.{Err}

pub unsigned_in_kind : (k : IntKind) (x y : ℕ) (a b : ℤ) → is_signed k ≡ false → pos x ≡ a → pos y ≡ b → in_kind k (a *ℤ b) ≡ Ok (converted k (pos (x * y)))
unsigned_in_kind k x y a b e ea eb =
    ap (λ s. cond s (cond (is_in_range k (a *ℤ b)) (Ok (a *ℤ b)) (Err fault.Overflow)) (Ok (converted k (a *ℤ b)))) e
    ∙ ap (λ z. Ok (converted k z)) (ap (λ a. a *ℤ b) (sym ea) ∙ ap (λ b. pos x *ℤ b) (sym eb) ∙ pos-*ℤ-pos x y)
