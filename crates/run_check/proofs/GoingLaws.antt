-- A machine that runs has a step to come.
use Rattle.std.proofs.Common.{◌≡◌, ℕ, zero, suc, ◌+◌, ◌<◌, ◌≤◌, List, [], ◌∷◌, Option, Some, None, refl, sym, ap, subst, ◌∙◌, arith}
use Rattle.std.specs.Prelude.{is_some}
use Rattle.step_meaning.specs.declared.value.Action.{Action}
use Rattle.step_meaning.specs.declared.value.Action.TheVariants as act
use Rattle.step_meaning.specs.declared.program.Core.{Core}
use Rattle.step_meaning.specs.First.{first_items}
use Rattle.step_meaning.specs.Steps.{Fault, Judged, Made, More, Step, Stop, Then, Trace}
use Rattle.run_turns.specs.Lists.{reversed_onto}
use Rattle.run_turns.specs.Pending as pending
use Rattle.run_turns.specs.Rest.{rest}
use Rattle.run_turns.specs.Turns.{Configuration, after_byte, byte_read, entered, giving, pushed, rest_of, turn_at}
use Rattle.run_turns.specs.Weight.{load, weight}
use Rattle.run_turns.proofs.Steps.{calls_at, one_less}
use Rattle.run_state.specs.Machine.{Fixed, body_of}
use Rattle.run_laws.specs.Ends.{Goes}
use Rattle.run_laws.specs.Follows.{Follows}
use Rattle.run_laws.specs.Parts.{IsInside}
use Rattle.run_laws.specs.Turned.{Turned}
use Rattle.run_laws.proofs.Beginning.{begin_follows, callee}
use Rattle.run_laws.proofs.Ending.{halts}
use Rattle.run_laws.proofs.Reading.{read_follows}
use Rattle.run_laws.proofs.Turned.{turned}
use Rattle.run_start.specs.Running.{IsLeft, Runs}

-- ---- a rest cut before its first step

cut_again : (n : ℕ) (t : Trace) → first_items n (first_items (suc n) t) ≡ first_items n t
cut_again n (Stop e) = refl
cut_again zero (Then (Made s) t) = refl
cut_again zero (Then (Judged v) t) = cut_again zero t
cut_again (suc n) (Then (Made s) t) = ap (Then (Made s)) (cut_again n t)
cut_again (suc n) (Then (Judged v) t) = ap (Then (Judged v)) (cut_again (suc n) t)

pub rest_cut : (q : Core) (m : Configuration) (input : List ℕ) (n : ℕ) → rest q m input n ≡ first_items n (rest q m input (suc n))
unfolding rest
rest_cut q m input n = sym (one_less q n m input) ∙ sym (cut_again n (rest_of q (calls_at q (suc (suc n)) (suc (suc n))) (suc (suc n)) m input))

pub cut_before : (q : Core) (m : Configuration) (input : List ℕ) (s : Step) (t : Trace) → rest q m input 1 ≡ Then (Made s) t → rest q m input 0 ≡ Stop More
cut_before q m input s t e = rest_cut q m input 0 ∙ ap (first_items 0) e

-- ---- the step to come

module _ (steps : ℕ) (f : Fixed) (few : steps < 1099511627776) where
  abbrev pub HasNext : Configuration → Type 0
  HasNext m = (bytes : List ℕ) (n : ℕ) → (s : Step) × (t : Trace) × (rest f.core m bytes (suc n) ≡ Then (Made s) t)

  module _ (m : Configuration) (p : pending.Pending) (r : Runs steps f (pushed p m)) (again : (n : Configuration) → load n.work < weight p + load m.work → Runs steps f n → HasNext n) where
    abbrev after : Configuration
    after = (turn_at f.core p m.told m).after

    -- after a turn without a step it is that of the machine then
    inner_by : Turned steps f p m → (o : Option Action) → (turn_at f.core p m.told m).step ≡ o → HasNext (pushed p m)
    inner_by t None e bytes n =
        let follows : Follows f.core None (pushed p m) m.context.here m.memory after = subst (λ (o : Option Action). Follows f.core o (pushed p m) m.context.here m.memory after) e t.follows in
        let k = again after (t.falls e) (subst (λ b. Goes b steps f p after) (ap is_some e) t.goes) bytes n in
        (k.0, k.1, follows bytes (suc n) ∙ k.2)
    inner_by t (Some a) e bytes n =
        let follows : Follows f.core (Some a) (pushed p m) m.context.here m.memory after = subst (λ (o : Option Action). Follows f.core o (pushed p m) m.context.here m.memory after) e t.follows in
        (record { action = a; function = m.context.here.function; activation = m.context.here.activation; memory = m.memory }, rest f.core after bytes n, follows bytes n)

    inner : IsInside p → HasNext (pushed p m)
    inner i = inner_by (turned steps f p m i few r) (turn_at f.core p m.told m).step refl

  part : (m : Configuration) (p : pending.Pending) → Runs steps f (pushed p m) → ((n : Configuration) → load n.work < weight p + load m.work → Runs steps f n → HasNext n) → HasNext (pushed p m)
  part m (pending.Evaluate x) r again = inner m (pending.Evaluate x) r again tt
  part m (pending.Locate x) r again = inner m (pending.Locate x) r again tt
  part m (pending.Execute x) r again = inner m (pending.Execute x) r again tt
  part m (pending.Operate o) r again = inner m (pending.Operate o) r again tt
  part m (pending.Accessed y) r again = inner m (pending.Accessed y) r again tt
  part m (pending.Select x) r again = inner m (pending.Select x) r again tt
  part m (pending.Designate x) r again = inner m (pending.Designate x) r again tt
  part m (pending.Conclude x) r again = inner m (pending.Conclude x) r again tt
  part m pending.Ignore r again = inner m pending.Ignore r again tt
  part m (pending.Pass x) r again = inner m (pending.Pass x) r again tt
  part m pending.Input r again = λ bytes n. (record { action = act.Input; function = m.context.here.function; activation = m.context.here.activation; memory = m.memory }, rest f.core (giving (byte_read bytes) m) (after_byte bytes) n, read_follows steps f m r bytes n)
  part m pending.Output r again = inner m pending.Output r again tt
  part m (pending.Arguments g es c) r again = inner m (pending.Arguments g es c) r again tt
  part m (pending.Argument g es c) r again = inner m (pending.Argument g es c) r again tt
  part m (pending.Enter g c) r again =
      let fn = callee steps f g c m r in
      let new : Configuration = entered f.core g fn.0 (body_of f.core g) c m in
      λ bytes n. (record { action = act.Enter g (reversed_onto (Rattle.std.specs.Prelude.take c m.context.arguments) []); function = new.context.here.function; activation = new.context.here.activation; memory = new.memory }, rest f.core new bytes n, begin_follows steps f g c m r fn.0 fn.1 fn.2 bytes n)
  part m (pending.Leave g y) r again = inner m (pending.Leave g y) r again tt
  part m (pending.Halt x) r again = λ bytes n. (record { action = act.Halt x; function = m.context.here.function; activation = m.context.here.activation; memory = m.memory }, Stop (Fault x), halts f.core x m bytes n)
  part m (pending.Over x) r again = inner m (pending.Over x) r again tt

  less : (a b c : ℕ) → a < b → b ≤ suc c → a ≤ c
  less a b c l k = omega (arith, l, k)

  none_less : (a b : ℕ) → a < b → b ≤ 0 → ⊥
  none_less a b l k = omega (arith, l, k)

  whole : (m : Configuration) → Runs steps f m → ((n : Configuration) → load n.work < load m.work → Runs steps f n → HasNext n) → HasNext m
  whole m r again = by m.work refl
    where
      by : (ws : List pending.Pending) → m.work ≡ ws → HasNext m
      by [] e = absurd (subst IsLeft e r.left)
      by (p ∷ ps) e =
          let same : m ≡ pushed p (record m { work = ps }) = ap (λ (ws : List pending.Pending). record m { work = ws }) e in
          subst HasNext (sym same) (part (record m { work = ps }) p (subst (λ (m : Configuration). Runs steps f m) same r) (λ n h g. again n (subst (λ (ws : List pending.Pending). load n.work < load ws) (sym e) h) g))

  -- by what is left to do before it
  within : (k : ℕ) (m : Configuration) → load m.work ≤ k → Runs steps f m → HasNext m
  within zero m l r = whole m r (λ n h g. absurd (none_less (load n.work) (load m.work) h l))
  within (suc k) m l r = whole m r (λ n h g. within k n (less (load n.work) (load m.work) k h l) g)

  pub has_next : (m : Configuration) → Runs steps f m → HasNext m
  has_next m r = within (load m.work) m (omega arith) r
