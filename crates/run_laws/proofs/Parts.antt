-- What is known of the part on top of a machine that runs, by its form.
use Rattle.std.proofs.Common.{◌≡◌, ℕ, suc, ◌≤◌, List, [], ◌∷◌, arith}
use Rattle.step_meaning.specs.declared.value.Value.{Value}
use Rattle.step_meaning.specs.declared.program.Core.{Core}
use Rattle.step_meaning.specs.declared.program.Function.{Function}
use Rattle.step_meaning.specs.Statements.{Next, Broken, Continued, Returned}
use Rattle.step_meaning.specs.WellFormed.{IsWellFormed}
use Rattle.run_turns.specs.Pending as pending
use Rattle.run_turns.specs.Room.{open_ends}
use Rattle.run_turns.specs.Typed.{Takes}
use Rattle.run_turns.proofs.ActivationsKept.{EndsNone}
use Rattle.run_turns.proofs.ArgumentsCounted.{IsTaken}
use Rattle.run_turns.proofs.CallsTyped.{IsInner}
use Rattle.run_start.specs.Running.{EndAll, IsLeft}
use Rattle.run_laws.specs.Parts.{IsInside}

module _ (q : Core) (h : IsWellFormed q) (f : Function) (fs : List Function) where
  pub inner : (p : pending.Pending) → IsInside p → IsInner q h f fs p
  inner (pending.Evaluate x) i = tt
  inner (pending.Locate x) i = tt
  inner (pending.Execute x) i = tt
  inner (pending.Operate o) i = tt
  inner (pending.Accessed a) i = tt
  inner (pending.Select x) i = tt
  inner (pending.Designate x) i = tt
  inner (pending.Conclude x) i = tt
  inner pending.Ignore i = tt
  inner (pending.Pass x) i = tt
  inner pending.Input i = absurd i
  inner pending.Output i = tt
  inner (pending.Arguments g es n) i = tt
  inner (pending.Argument g es n) i = tt
  inner (pending.Enter g n) i = absurd i
  inner (pending.Leave g y) i = tt
  inner (pending.Halt x) i = absurd i
  inner (pending.Over x) i = tt

-- it is of an activation's function
pub acts : (q : Core) (vs : List Value) (ps : List pending.Pending) (p : pending.Pending) (t : pending.Told) → IsInside p → Takes q [] vs (p ∷ ps) t → ⊥
acts q vs ps (pending.Evaluate x) (pending.Gave v) i k = k
acts q vs ps (pending.Evaluate x) (pending.Found l) i k = k
acts q vs ps (pending.Evaluate x) (pending.Left Next) i k = k
acts q vs ps (pending.Evaluate x) (pending.Left Broken) i k = k
acts q vs ps (pending.Evaluate x) (pending.Left Continued) i k = k
acts q vs ps (pending.Evaluate x) (pending.Left (Returned w)) i k = k
acts q vs ps (pending.Locate x) (pending.Gave v) i k = k
acts q vs ps (pending.Locate x) (pending.Found l) i k = k
acts q vs ps (pending.Locate x) (pending.Left Next) i k = k
acts q vs ps (pending.Locate x) (pending.Left Broken) i k = k
acts q vs ps (pending.Locate x) (pending.Left Continued) i k = k
acts q vs ps (pending.Locate x) (pending.Left (Returned w)) i k = k
acts q vs ps (pending.Execute x) (pending.Gave v) i k = k
acts q vs ps (pending.Execute x) (pending.Found l) i k = k
acts q vs ps (pending.Execute x) (pending.Left Next) i k = k
acts q vs ps (pending.Execute x) (pending.Left Broken) i k = k
acts q vs ps (pending.Execute x) (pending.Left Continued) i k = k
acts q vs ps (pending.Execute x) (pending.Left (Returned w)) i k = k
acts q vs ps (pending.Operate o) (pending.Gave v) i k = k
acts q vs ps (pending.Operate o) (pending.Found l) i k = k
acts q vs ps (pending.Operate o) (pending.Left Next) i k = k
acts q vs ps (pending.Operate o) (pending.Left Broken) i k = k
acts q vs ps (pending.Operate o) (pending.Left Continued) i k = k
acts q vs ps (pending.Operate o) (pending.Left (Returned w)) i k = k
acts q vs ps (pending.Accessed a) (pending.Gave v) i k = k
acts q vs ps (pending.Accessed a) (pending.Found l) i k = k
acts q vs ps (pending.Accessed a) (pending.Left Next) i k = k
acts q vs ps (pending.Accessed a) (pending.Left Broken) i k = k
acts q vs ps (pending.Accessed a) (pending.Left Continued) i k = k
acts q vs ps (pending.Accessed a) (pending.Left (Returned w)) i k = k
acts q vs ps (pending.Select x) (pending.Gave v) i k = k
acts q vs ps (pending.Select x) (pending.Found l) i k = k
acts q vs ps (pending.Select x) (pending.Left Next) i k = k
acts q vs ps (pending.Select x) (pending.Left Broken) i k = k
acts q vs ps (pending.Select x) (pending.Left Continued) i k = k
acts q vs ps (pending.Select x) (pending.Left (Returned w)) i k = k
acts q vs ps (pending.Designate x) (pending.Gave v) i k = k
acts q vs ps (pending.Designate x) (pending.Found l) i k = k
acts q vs ps (pending.Designate x) (pending.Left Next) i k = k
acts q vs ps (pending.Designate x) (pending.Left Broken) i k = k
acts q vs ps (pending.Designate x) (pending.Left Continued) i k = k
acts q vs ps (pending.Designate x) (pending.Left (Returned w)) i k = k
acts q vs ps (pending.Conclude x) (pending.Gave v) i k = k
acts q vs ps (pending.Conclude x) (pending.Found l) i k = k
acts q vs ps (pending.Conclude x) (pending.Left Next) i k = k
acts q vs ps (pending.Conclude x) (pending.Left Broken) i k = k
acts q vs ps (pending.Conclude x) (pending.Left Continued) i k = k
acts q vs ps (pending.Conclude x) (pending.Left (Returned w)) i k = k
acts q vs ps pending.Ignore (pending.Gave v) i k = k
acts q vs ps pending.Ignore (pending.Found l) i k = k
acts q vs ps pending.Ignore (pending.Left Next) i k = k
acts q vs ps pending.Ignore (pending.Left Broken) i k = k
acts q vs ps pending.Ignore (pending.Left Continued) i k = k
acts q vs ps pending.Ignore (pending.Left (Returned w)) i k = k
acts q vs ps (pending.Pass x) (pending.Gave v) i k = k
acts q vs ps (pending.Pass x) (pending.Found l) i k = k
acts q vs ps (pending.Pass x) (pending.Left Next) i k = k
acts q vs ps (pending.Pass x) (pending.Left Broken) i k = k
acts q vs ps (pending.Pass x) (pending.Left Continued) i k = k
acts q vs ps (pending.Pass x) (pending.Left (Returned w)) i k = k
acts q vs ps pending.Input (pending.Gave v) i k = absurd i
acts q vs ps pending.Input (pending.Found l) i k = absurd i
acts q vs ps pending.Input (pending.Left Next) i k = absurd i
acts q vs ps pending.Input (pending.Left Broken) i k = absurd i
acts q vs ps pending.Input (pending.Left Continued) i k = absurd i
acts q vs ps pending.Input (pending.Left (Returned w)) i k = absurd i
acts q vs ps pending.Output (pending.Gave v) i k = k
acts q vs ps pending.Output (pending.Found l) i k = k
acts q vs ps pending.Output (pending.Left Next) i k = k
acts q vs ps pending.Output (pending.Left Broken) i k = k
acts q vs ps pending.Output (pending.Left Continued) i k = k
acts q vs ps pending.Output (pending.Left (Returned w)) i k = k
acts q vs ps (pending.Arguments g es n) (pending.Gave v) i k = k
acts q vs ps (pending.Arguments g es n) (pending.Found l) i k = k
acts q vs ps (pending.Arguments g es n) (pending.Left Next) i k = k
acts q vs ps (pending.Arguments g es n) (pending.Left Broken) i k = k
acts q vs ps (pending.Arguments g es n) (pending.Left Continued) i k = k
acts q vs ps (pending.Arguments g es n) (pending.Left (Returned w)) i k = k
acts q vs ps (pending.Argument g es n) (pending.Gave v) i k = k
acts q vs ps (pending.Argument g es n) (pending.Found l) i k = k
acts q vs ps (pending.Argument g es n) (pending.Left Next) i k = k
acts q vs ps (pending.Argument g es n) (pending.Left Broken) i k = k
acts q vs ps (pending.Argument g es n) (pending.Left Continued) i k = k
acts q vs ps (pending.Argument g es n) (pending.Left (Returned w)) i k = k
acts q vs ps (pending.Enter g n) (pending.Gave v) i k = absurd i
acts q vs ps (pending.Enter g n) (pending.Found l) i k = absurd i
acts q vs ps (pending.Enter g n) (pending.Left Next) i k = absurd i
acts q vs ps (pending.Enter g n) (pending.Left Broken) i k = absurd i
acts q vs ps (pending.Enter g n) (pending.Left Continued) i k = absurd i
acts q vs ps (pending.Enter g n) (pending.Left (Returned w)) i k = absurd i
acts q vs ps (pending.Leave g y) (pending.Gave v) i k = k
acts q vs ps (pending.Leave g y) (pending.Found l) i k = k
acts q vs ps (pending.Leave g y) (pending.Left Next) i k = k
acts q vs ps (pending.Leave g y) (pending.Left Broken) i k = k
acts q vs ps (pending.Leave g y) (pending.Left Continued) i k = k
acts q vs ps (pending.Leave g y) (pending.Left (Returned w)) i k = k
acts q vs ps (pending.Halt x) (pending.Gave v) i k = absurd i
acts q vs ps (pending.Halt x) (pending.Found l) i k = absurd i
acts q vs ps (pending.Halt x) (pending.Left Next) i k = absurd i
acts q vs ps (pending.Halt x) (pending.Left Broken) i k = absurd i
acts q vs ps (pending.Halt x) (pending.Left Continued) i k = absurd i
acts q vs ps (pending.Halt x) (pending.Left (Returned w)) i k = absurd i
acts q vs ps (pending.Over x) (pending.Gave v) i k = k
acts q vs ps (pending.Over x) (pending.Found l) i k = k
acts q vs ps (pending.Over x) (pending.Left Next) i k = k
acts q vs ps (pending.Over x) (pending.Left Broken) i k = k
acts q vs ps (pending.Over x) (pending.Left Continued) i k = k
acts q vs ps (pending.Over x) (pending.Left (Returned w)) i k = k

-- a part of a call takes what was told
pub taken : (q : Core) (f : Function) (fs : List Function) (vs : List Value) (ps : List pending.Pending) (p : pending.Pending) (t : pending.Told) → IsInside p → Takes q (f ∷ fs) vs (p ∷ ps) t → IsTaken p t
taken q f fs vs ps (pending.Evaluate x) (pending.Gave v) i k = tt
taken q f fs vs ps (pending.Evaluate x) (pending.Found l) i k = tt
taken q f fs vs ps (pending.Evaluate x) (pending.Left Next) i k = tt
taken q f fs vs ps (pending.Evaluate x) (pending.Left Broken) i k = tt
taken q f fs vs ps (pending.Evaluate x) (pending.Left Continued) i k = tt
taken q f fs vs ps (pending.Evaluate x) (pending.Left (Returned w)) i k = tt
taken q f fs vs ps (pending.Locate x) (pending.Gave v) i k = tt
taken q f fs vs ps (pending.Locate x) (pending.Found l) i k = tt
taken q f fs vs ps (pending.Locate x) (pending.Left Next) i k = tt
taken q f fs vs ps (pending.Locate x) (pending.Left Broken) i k = tt
taken q f fs vs ps (pending.Locate x) (pending.Left Continued) i k = tt
taken q f fs vs ps (pending.Locate x) (pending.Left (Returned w)) i k = tt
taken q f fs vs ps (pending.Execute x) (pending.Gave v) i k = tt
taken q f fs vs ps (pending.Execute x) (pending.Found l) i k = tt
taken q f fs vs ps (pending.Execute x) (pending.Left Next) i k = tt
taken q f fs vs ps (pending.Execute x) (pending.Left Broken) i k = tt
taken q f fs vs ps (pending.Execute x) (pending.Left Continued) i k = tt
taken q f fs vs ps (pending.Execute x) (pending.Left (Returned w)) i k = tt
taken q f fs vs ps (pending.Operate o) (pending.Gave v) i k = tt
taken q f fs vs ps (pending.Operate o) (pending.Found l) i k = tt
taken q f fs vs ps (pending.Operate o) (pending.Left Next) i k = tt
taken q f fs vs ps (pending.Operate o) (pending.Left Broken) i k = tt
taken q f fs vs ps (pending.Operate o) (pending.Left Continued) i k = tt
taken q f fs vs ps (pending.Operate o) (pending.Left (Returned w)) i k = tt
taken q f fs vs ps (pending.Accessed a) (pending.Gave v) i k = tt
taken q f fs vs ps (pending.Accessed a) (pending.Found l) i k = tt
taken q f fs vs ps (pending.Accessed a) (pending.Left Next) i k = tt
taken q f fs vs ps (pending.Accessed a) (pending.Left Broken) i k = tt
taken q f fs vs ps (pending.Accessed a) (pending.Left Continued) i k = tt
taken q f fs vs ps (pending.Accessed a) (pending.Left (Returned w)) i k = tt
taken q f fs vs ps (pending.Select x) (pending.Gave v) i k = tt
taken q f fs vs ps (pending.Select x) (pending.Found l) i k = tt
taken q f fs vs ps (pending.Select x) (pending.Left Next) i k = tt
taken q f fs vs ps (pending.Select x) (pending.Left Broken) i k = tt
taken q f fs vs ps (pending.Select x) (pending.Left Continued) i k = tt
taken q f fs vs ps (pending.Select x) (pending.Left (Returned w)) i k = tt
taken q f fs vs ps (pending.Designate x) (pending.Gave v) i k = tt
taken q f fs vs ps (pending.Designate x) (pending.Found l) i k = tt
taken q f fs vs ps (pending.Designate x) (pending.Left Next) i k = tt
taken q f fs vs ps (pending.Designate x) (pending.Left Broken) i k = tt
taken q f fs vs ps (pending.Designate x) (pending.Left Continued) i k = tt
taken q f fs vs ps (pending.Designate x) (pending.Left (Returned w)) i k = tt
taken q f fs vs ps (pending.Conclude x) (pending.Gave v) i k = tt
taken q f fs vs ps (pending.Conclude x) (pending.Found l) i k = tt
taken q f fs vs ps (pending.Conclude x) (pending.Left Next) i k = tt
taken q f fs vs ps (pending.Conclude x) (pending.Left Broken) i k = tt
taken q f fs vs ps (pending.Conclude x) (pending.Left Continued) i k = tt
taken q f fs vs ps (pending.Conclude x) (pending.Left (Returned w)) i k = tt
taken q f fs vs ps pending.Ignore (pending.Gave v) i k = tt
taken q f fs vs ps pending.Ignore (pending.Found l) i k = tt
taken q f fs vs ps pending.Ignore (pending.Left Next) i k = tt
taken q f fs vs ps pending.Ignore (pending.Left Broken) i k = tt
taken q f fs vs ps pending.Ignore (pending.Left Continued) i k = tt
taken q f fs vs ps pending.Ignore (pending.Left (Returned w)) i k = tt
taken q f fs vs ps (pending.Pass x) (pending.Gave v) i k = tt
taken q f fs vs ps (pending.Pass x) (pending.Found l) i k = tt
taken q f fs vs ps (pending.Pass x) (pending.Left Next) i k = tt
taken q f fs vs ps (pending.Pass x) (pending.Left Broken) i k = tt
taken q f fs vs ps (pending.Pass x) (pending.Left Continued) i k = tt
taken q f fs vs ps (pending.Pass x) (pending.Left (Returned w)) i k = tt
taken q f fs vs ps pending.Input (pending.Gave v) i k = absurd i
taken q f fs vs ps pending.Input (pending.Found l) i k = absurd i
taken q f fs vs ps pending.Input (pending.Left Next) i k = absurd i
taken q f fs vs ps pending.Input (pending.Left Broken) i k = absurd i
taken q f fs vs ps pending.Input (pending.Left Continued) i k = absurd i
taken q f fs vs ps pending.Input (pending.Left (Returned w)) i k = absurd i
taken q f fs vs ps pending.Output (pending.Gave v) i k = tt
taken q f fs vs ps pending.Output (pending.Found l) i k = tt
taken q f fs vs ps pending.Output (pending.Left Next) i k = tt
taken q f fs vs ps pending.Output (pending.Left Broken) i k = tt
taken q f fs vs ps pending.Output (pending.Left Continued) i k = tt
taken q f fs vs ps pending.Output (pending.Left (Returned w)) i k = tt
taken q f fs vs ps (pending.Arguments g es n) (pending.Gave v) i k = absurd k
taken q f fs vs ps (pending.Arguments g es n) (pending.Found l) i k = absurd k
taken q f fs vs ps (pending.Arguments g es n) (pending.Left Next) i k = tt
taken q f fs vs ps (pending.Arguments g es n) (pending.Left Broken) i k = absurd k
taken q f fs vs ps (pending.Arguments g es n) (pending.Left Continued) i k = absurd k
taken q f fs vs ps (pending.Arguments g es n) (pending.Left (Returned w)) i k = absurd k
taken q f fs vs ps (pending.Argument g es n) (pending.Gave v) i k = tt
taken q f fs vs ps (pending.Argument g es n) (pending.Found l) i k = absurd k
taken q f fs vs ps (pending.Argument g es n) (pending.Left Next) i k = absurd k
taken q f fs vs ps (pending.Argument g es n) (pending.Left Broken) i k = absurd k
taken q f fs vs ps (pending.Argument g es n) (pending.Left Continued) i k = absurd k
taken q f fs vs ps (pending.Argument g es n) (pending.Left (Returned w)) i k = absurd k
taken q f fs vs ps (pending.Enter g n) (pending.Gave v) i k = absurd i
taken q f fs vs ps (pending.Enter g n) (pending.Found l) i k = absurd i
taken q f fs vs ps (pending.Enter g n) (pending.Left Next) i k = absurd i
taken q f fs vs ps (pending.Enter g n) (pending.Left Broken) i k = absurd i
taken q f fs vs ps (pending.Enter g n) (pending.Left Continued) i k = absurd i
taken q f fs vs ps (pending.Enter g n) (pending.Left (Returned w)) i k = absurd i
taken q f fs vs ps (pending.Leave g y) (pending.Gave v) i k = tt
taken q f fs vs ps (pending.Leave g y) (pending.Found l) i k = tt
taken q f fs vs ps (pending.Leave g y) (pending.Left Next) i k = tt
taken q f fs vs ps (pending.Leave g y) (pending.Left Broken) i k = tt
taken q f fs vs ps (pending.Leave g y) (pending.Left Continued) i k = tt
taken q f fs vs ps (pending.Leave g y) (pending.Left (Returned w)) i k = tt
taken q f fs vs ps (pending.Halt x) (pending.Gave v) i k = absurd i
taken q f fs vs ps (pending.Halt x) (pending.Found l) i k = absurd i
taken q f fs vs ps (pending.Halt x) (pending.Left Next) i k = absurd i
taken q f fs vs ps (pending.Halt x) (pending.Left Broken) i k = absurd i
taken q f fs vs ps (pending.Halt x) (pending.Left Continued) i k = absurd i
taken q f fs vs ps (pending.Halt x) (pending.Left (Returned w)) i k = absurd i
taken q f fs vs ps (pending.Over x) (pending.Gave v) i k = tt
taken q f fs vs ps (pending.Over x) (pending.Found l) i k = tt
taken q f fs vs ps (pending.Over x) (pending.Left Next) i k = tt
taken q f fs vs ps (pending.Over x) (pending.Left Broken) i k = tt
taken q f fs vs ps (pending.Over x) (pending.Left Continued) i k = tt
taken q f fs vs ps (pending.Over x) (pending.Left (Returned w)) i k = tt

-- the ends of activations below it
pub ends_below : (n : ℕ) (p : pending.Pending) (ps : List pending.Pending) → IsInside p → EndsNone p → EndAll n (p ∷ ps) → open_ends ps ≡ n
ends_below n (pending.Evaluate x) ps i e k = k
ends_below n (pending.Locate x) ps i e k = k
ends_below n (pending.Execute x) ps i e k = k
ends_below n (pending.Operate o) ps i e k = k
ends_below n (pending.Accessed a) ps i e k = k
ends_below n (pending.Select x) ps i e k = k
ends_below n (pending.Designate x) ps i e k = k
ends_below n (pending.Conclude x) ps i e k = k
ends_below n pending.Ignore ps i e k = k
ends_below n (pending.Pass x) ps i e k = k
ends_below n pending.Input ps i e k = absurd i
ends_below n pending.Output ps i e k = k
ends_below n (pending.Arguments g es c) ps i e k = k
ends_below n (pending.Argument g es c) ps i e k = k
ends_below n (pending.Enter g c) ps i e k = absurd i
ends_below n (pending.Leave g y) ps i e k = absurd e
ends_below n (pending.Halt x) ps i e k = absurd i
ends_below n (pending.Over x) ps i e k = k

pub ends_within : (n : ℕ) (p : pending.Pending) (ps : List pending.Pending) → EndAll n (p ∷ ps) → open_ends ps ≤ n
ends_within n (pending.Evaluate x) ps k = omega (arith, k)
ends_within n (pending.Locate x) ps k = omega (arith, k)
ends_within n (pending.Execute x) ps k = omega (arith, k)
ends_within n (pending.Operate o) ps k = omega (arith, k)
ends_within n (pending.Accessed a) ps k = omega (arith, k)
ends_within n (pending.Select x) ps k = omega (arith, k)
ends_within n (pending.Designate x) ps k = omega (arith, k)
ends_within n (pending.Conclude x) ps k = omega (arith, k)
ends_within n pending.Ignore ps k = omega (arith, k)
ends_within n (pending.Pass x) ps k = omega (arith, k)
ends_within n pending.Input ps k = omega (arith, k)
ends_within n pending.Output ps k = omega (arith, k)
ends_within n (pending.Arguments g es c) ps k = omega (arith, k)
ends_within n (pending.Argument g es c) ps k = omega (arith, k)
ends_within n (pending.Enter g c) ps k = omega (arith, k)
ends_within n (pending.Leave g y) ps k = omega (arith, k)
ends_within n (pending.Halt x) ps k = k
ends_within n (pending.Over x) ps k = omega (arith, k)

pub end_all : (n : ℕ) (ps : List pending.Pending) → open_ends ps ≡ n → EndAll n ps
end_all n [] e = e
end_all n (pending.Evaluate x ∷ ps) e = e
end_all n (pending.Locate x ∷ ps) e = e
end_all n (pending.Execute x ∷ ps) e = e
end_all n (pending.Operate o ∷ ps) e = e
end_all n (pending.Accessed a ∷ ps) e = e
end_all n (pending.Select x ∷ ps) e = e
end_all n (pending.Designate x ∷ ps) e = e
end_all n (pending.Conclude x ∷ ps) e = e
end_all n (pending.Ignore ∷ ps) e = e
end_all n (pending.Pass x ∷ ps) e = e
end_all n (pending.Input ∷ ps) e = e
end_all n (pending.Output ∷ ps) e = e
end_all n (pending.Arguments g es c ∷ ps) e = e
end_all n (pending.Argument g es c ∷ ps) e = e
end_all n (pending.Enter g c ∷ ps) e = e
end_all n (pending.Leave g y ∷ ps) e = e
end_all n (pending.Halt x ∷ ps) e = omega (arith, e)
end_all n (pending.Over x ∷ ps) e = e

pub is_left : (n : ℕ) (ps : List pending.Pending) → open_ends ps ≡ suc n → IsLeft ps
is_left n [] e = absurd (zero_is_no_suc e)
  where
    zero_is_no_suc : 0 ≡ suc n → ⊥
    zero_is_no_suc e = omega (arith, e)
is_left n (p ∷ ps) e = tt
