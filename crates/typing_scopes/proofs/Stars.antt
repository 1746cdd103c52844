-- A type behind stars.
use Rattle.std.proofs.Common.{◌≡◌, Ok, ℕ, zero, suc, ◌-◌, ◌<◌, ◌≤◌, refl, sym, ap, ◌∙◌, arith}
use Rattle.step_meaning.specs.declared.value.CType.{CType}
use Rattle.step_meaning.specs.declared.value.CType.TheVariants.{Pointer}
use Rattle.step_meaning.specs.declared.value.CType.TheBlock.{shape-the_row-CType-0, hidden-the_row-CType-0}
use denote.Hole.Carrier.{hidden}
use Rattle.typing_rules.specs.Checked.{Checked}
use Rattle.typing_rules.specs.Environment.{with_stars}

with_stars-more : (n : ℕ) (t : CType) → with_stars n (Pointer t) ≡ with_stars (suc n) t
unfolding with_stars shape-the_row-CType-0 hidden-the_row-CType-0 hidden
with_stars-more n t = refl

pub one_fewer : (n : ℕ) (t p u : CType) → 0 < n → p ≡ Pointer t → with_stars n t ≡ u → with_stars (n - 1) p ≡ u
one_fewer zero t p u h e f = absurd (omega (arith, h))
one_fewer (suc n) t p u h e f = ap (λ m. with_stars m p) (omega arith) ∙ (ap (with_stars n) e ∙ (with_stars-more n t ∙ f))

pub none_left : (n : ℕ) (t u : CType) → n ≤ 0 → with_stars n t ≡ u → u ≡ t
unfolding with_stars
none_left zero t u h e = sym e
none_left (suc n) t u h e = absurd (omega (arith, h))

-- the types that two results hold
abbrev ok : CType → Checked CType
ok t = Ok t

pub same_type_held : {t u : CType} → ok t ≡ ok u → u ≡ t
same_type_held h = cc
