-- A function with a body is well formed in a well-formed program: it is neither `malloc` nor `free`.
use Rattle.std.proofs.Common.{◌≡◌, ℕ, zero, suc, Bool, true, false, not, List, [], ◌∷◌, Option, Some, None, subst}
use Rattle.std.specs.Prelude.{slice_get, codes}
use Rattle.step_meaning.specs.declared.value.CType.{CType}
use Rattle.step_meaning.specs.declared.value.CType.TheVariants as type
use Rattle.step_meaning.specs.declared.program.Function.{Function}
use Rattle.step_meaning.specs.declared.program.Core.{Core}
use Rattle.step_meaning.specs.ExpressionTypes.{has_body}
use Rattle.step_meaning.specs.Library.{unsigned_long, void_pointer, is_allocation, is_malloc, is_free, but_allocation}
use Rattle.step_meaning.specs.WellFormed.{IsWellFormed, IsWellFormedFunction}
use Rattle.step_meaning.proofs.Ranges.{false_is_not_true, left_of_and, right_of_and}
use Rattle.step_meaning.proofs.TypedMemory.{Each, WhereSome, get_fits}

-- `malloc` and `free` have no body
no_body : {A : Type 0} (name : List ℕ) (t : CType) (ts : List CType) (f : Function) → is_allocation name t ts (Some f) ≡ true → has_body f ≡ true → A
no_body name t ts f h b = refuted (has_body f) (right_of_and _ _ (left_of_and _ _ h)) b
  where
    refuted : {A : Type 0} (b : Bool) → not b ≡ true → b ≡ true → A
    refuted true h k = false_is_not_true h
    refuted false h k = false_is_not_true k

-- of the functions but `malloc` and `free`, and of each other function with a body
formed_at : (P : Function → Type 0) (fs : List Function) → is_malloc (slice_get fs 2) ≡ true → is_free (slice_get fs 3) ≡ true → Each P (but_allocation fs) → (g : ℕ) → WhereSome (λ f. has_body f ≡ true → P f) (slice_get fs g)
formed_at P [] m r h g = tt
formed_at P (a ∷ []) m r h g = false_is_not_true m
formed_at P (a ∷ b ∷ []) m r h g = false_is_not_true m
formed_at P (a ∷ b ∷ c ∷ []) m r h g = false_is_not_true r
formed_at P (a ∷ b ∷ c ∷ d ∷ fs) m r h zero = λ e. h.0
formed_at P (a ∷ b ∷ c ∷ d ∷ fs) m r h (suc zero) = λ e. h.1.0
formed_at P (a ∷ b ∷ c ∷ d ∷ fs) m r h (suc (suc zero)) = λ e. no_body (codes "malloc") void_pointer (unsigned_long ∷ []) c m e
formed_at P (a ∷ b ∷ c ∷ d ∷ fs) m r h (suc (suc (suc zero))) = λ e. no_body (codes "free") type.Void (void_pointer ∷ []) d r e
formed_at P (a ∷ b ∷ c ∷ d ∷ fs) m r h (suc (suc (suc (suc g)))) = with_body (slice_get fs g) (get_fits P fs g h.1.1)
  where
    with_body : (o : Option Function) → WhereSome P o → WhereSome (λ f. has_body f ≡ true → P f) o
    with_body None h = tt
    with_body (Some f) h = λ e. h

pub formed_function : (q : Core) → IsWellFormed q → (g : ℕ) (f : Function) → slice_get q.functions g ≡ Some f → has_body f ≡ true → IsWellFormedFunction q f
formed_function q h g f e b = subst (λ o. WhereSome (λ f. has_body f ≡ true → IsWellFormedFunction q f) o) e (formed_at (IsWellFormedFunction q) q.functions h.malloc h.free h.functions g) b
