-- The chunks of the variables of file scope pass the limit, or don't.
use Rattle.std.proofs.Common.{◌≡◌, ℕ, ◌<◌, Result, Ok, Err, refl, ap, subst}
use Rattle.run_memory.proofs.CountLaws.{chunks_counted}
use Rattle.run_check.proofs.machine.Machine.make.Goals as goal

ok_err : {A E : Type 0} (r : Result A E) (a : A) (e : E) → r ≡ Ok a → r ≡ Err e → ⊥
ok_err r a e h k = cc

same_fault : {A E : Type 0} (r s : Result A E) (x y : E) → r ≡ Err x → s ≡ Err y → r ≡ s → x ≡ y
same_fault r s x y e h k = cc

pub returns-in-Err-clause-full : goal.returns-in-Err-clause-full
returns-in-Err-clause-full c =
    rw (chunks_counted.of_start c.args.core.now)
    ((λ e. c.in-Err.ensures.full.0 (ap Err (same_fault _ _ _ _ refl refl e))), (λ l. ap Err (same_fault _ _ _ _ refl refl (c.in-Err.ensures.full.1 l))))

pub returns-in-Ok-clause-full : goal.returns-in-Ok-clause-full
returns-in-Ok-clause-full c =
    (λ e. absurd (ok_err _ _ _ refl e), λ l. absurd (ok_err _ _ _ refl (c.in-Ok.ensures.full.1 (subst (λ (n : ℕ). c.args.limits.chunks < n) (chunks_counted.of_start c.args.core.now) l))))
