-- What a result gives, by an equal outcome.
use Rattle.std.proofs.Common.{◌≡◌, sym, subst}
use Rattle.typing_rules.specs.Checked.{Checked, Gives}

pub same_gives : {A : Type 0} (x y : Checked A) (r : Checked A) → x ≡ y → Gives y r → Gives x r
same_gives x y r h k = subst (λ z. Gives z r) (sym h) k
