-- One ghost variable that is set, by hooks alone and beside others.
use Rattle.std.proofs.Common.{◌≡◌, ℕ, zero, suc, Bool, true, false, cond, ◌&&◌, ◌==◌, List, [], ◌∷◌, ◌++◌, slice_get, Option, Some, None, refl, sym, ap, ◌∙◌, arith}
use Rattle.std.specs.Prelude.{is_some, option_map, option_and_then}
use Rattle.std.proofs.lemmas.Bool.{eqb-true}
use Rattle.step_meaning.specs.declared.value.NameKind.{NameKind}
use Rattle.step_meaning.specs.declared.value.NameKind.TheVariants as names
use Rattle.step_meaning.specs.declared.value.Cell.{Cell}
use Rattle.step_meaning.specs.Memory.{Memory, Frame, Block, frame_block, frame_of, set_cell, at_block}
use Rattle.step_meaning.specs.Ghosts.{ghost_put}
use Rattle.step_meaning.specs.Steps.{Verdict}
use Rattle.weaver_laws.proofs.GhostFrames.{others_put, own_frame_after, frame_after, with_locals, number_same}
use Rattle.weaver_laws.proofs.Basics.{no_true}

-- ---- the verdicts of a monitor

abbrev pub ours : ℕ → List Verdict → List Verdict
ours j [] = []
ours j (v ∷ vs) = cond (v.monitor == j) (v ∷ ours j vs) (ours j vs)

pub ours_append : (j : ℕ) (vs ws : List Verdict) → ours j (vs ++ ws) ≡ ours j vs ++ ours j ws
ours_append j [] ws = refl
ours_append j (v ∷ vs) ws = by (v.monitor == j) (ours_append j vs ws)
  where
    by : (b : Bool) → ours j (vs ++ ws) ≡ ours j vs ++ ours j ws → cond b (v ∷ ours j (vs ++ ws)) (ours j (vs ++ ws)) ≡ cond b (v ∷ ours j vs) (ours j vs) ++ ours j ws
    by true e = ap (λ l. v ∷ l) e
    by false e = e

-- ---- one ghost variable is set

both_ways : (b d : Bool) → (b ≡ true → d ≡ true) → (d ≡ true → b ≡ true) → b ≡ d
both_ways true d x y = sym (x refl)
both_ways false true x y = y refl
both_ways false false x y = refl

pub same_test : (i k m n : ℕ) → (i ≡ k → m ≡ n) → (m ≡ n → i ≡ k) → (i == k) ≡ (m == n)
same_test i k m n x y = both_ways (i == k) (m == n) (λ e. of m n (x (eqb-true i k e))) (λ e. of i k (y (eqb-true m n e)))
  where
    of : (i k : ℕ) → i ≡ k → (i == k) ≡ true
    of i k e = ap (λ i. i == k) e ∙ number_same k

pub apart : (i k : ℕ) → (i ≡ k → ⊥) → (i == k) ≡ false
apart i k n = by (i == k) refl
  where
    by : (b : Bool) → (i == k) ≡ b → (i == k) ≡ false
    by true e = absurd (n (eqb-true i k e))
    by false e = e

after_other : (b : Bool) (x y : Option Block) → b ≡ false → y ≡ cond b x y
after_other false x y e = refl
after_other true x y e = no_true (sym e)

pub put_at : (fn : Block → Block) (i k : ℕ) (bs : List Block) → slice_get (at_block fn i bs) k ≡ cond (k == i) (option_map fn (slice_get bs k)) (slice_get bs k)
put_at fn i k [] = by (k == i)
  where
    by : (b : Bool) → None ≡ cond b (option_map fn None) None
    by true = refl
    by false = refl
put_at fn zero zero (b ∷ bs) = refl
put_at fn zero (suc k) (b ∷ bs) = after_other (suc k == 0) (option_map fn (slice_get bs k)) (slice_get bs k) (apart (suc k) 0 no_zero)
  where
    no_zero : suc k ≡ 0 → ⊥
    no_zero e = omega arith
put_at fn (suc i) zero (b ∷ bs) = after_other (0 == suc i) (Some (fn b)) (Some b) (apart 0 (suc i) no_zero)
  where
    no_zero : 0 ≡ suc i → ⊥
    no_zero e = omega arith
put_at fn (suc i) (suc k) (b ∷ bs) = put_at fn i k bs ∙ ap (λ d. cond d (option_map fn (slice_get bs k)) (slice_get bs k)) (same_test k i (suc k) (suc i) up down)
  where
    up : k ≡ i → suc k ≡ suc i
    up e = omega arith

    down : suc k ≡ suc i → k ≡ i
    down e = omega arith

in_locals : (fn : List Block → List Block) (k : ℕ) (o : Option Frame) → option_and_then (λ (f : Frame). slice_get f.locals k) (option_map (with_locals fn) o) ≡ option_and_then (λ (f : Frame). slice_get (fn f.locals) k) o
in_locals fn k None = refl
in_locals fn k (Some f) = refl

cond_none : (b : Bool) (fn : Block → Block) → None ≡ cond b (option_map fn None) None
cond_none true fn = refl
cond_none false fn = refl

put_locals : (fn : Block → Block) (i k : ℕ) (o : Option Frame) → option_and_then (λ (f : Frame). slice_get (at_block fn i f.locals) k) o ≡ cond (k == i) (option_map fn (option_and_then (λ (f : Frame). slice_get f.locals k) o)) (option_and_then (λ (f : Frame). slice_get f.locals k) o)
put_locals fn i k None = cond_none (k == i) fn
put_locals fn i k (Some f) = put_at fn i k f.locals

pub put_frame : (g : Memory) (a i b k : ℕ) (c : Cell) → frame_block (ghost_put g names.GhostLocal a i c) b k ≡ cond (b == a && k == i) (option_map (set_cell c 0) (frame_block g b k)) (frame_block g b k)
put_frame g a i b k c = by (b == a) refl
  where
    by : (d : Bool) → (b == a) ≡ d → frame_block (ghost_put g names.GhostLocal a i c) b k ≡ cond (d && k == i) (option_map (set_cell c 0) (frame_block g b k)) (frame_block g b k)
    by true e = rw (eqb-true b a e)
        (ap (λ (o : Option Frame). option_and_then (λ (f : Frame). slice_get f.locals k) o) (own_frame_after (at_block (set_cell c 0) i) a g.frames)
        ∙ (in_locals (at_block (set_cell c 0) i) k (frame_of a g.frames) ∙ put_locals (set_cell c 0) i k (frame_of a g.frames)))
    by false e = ap (λ (o : Option Frame). option_and_then (λ (f : Frame). slice_get f.locals k) o) (frame_after (at_block (set_cell c 0) i) a b g.frames e)

pub put_framed : (g : Memory) (k : NameKind) (a i b : ℕ) (c : Cell) → is_some (frame_of b (ghost_put g k a i c).frames) ≡ is_some (frame_of b g.frames)
put_framed g k a i b c = by (b == a) refl
  where
    by : (d : Bool) → (b == a) ≡ d → is_some (frame_of b (ghost_put g k a i c).frames) ≡ is_some (frame_of b g.frames)
    by true e = rw (eqb-true b a e) (others_put a g k i c).own
    by false e = ap is_some ((others_put a g k i c).frames b e)
