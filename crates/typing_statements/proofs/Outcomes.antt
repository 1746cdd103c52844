-- Outcomes one after another.
use Rattle.std.proofs.Common.{◌≡◌, ◌≢◌, List, [], ◌∷◌, ◌++◌, Ok, Err, refl, sym, ap, ◌∙◌, append_assoc}
use Rattle.step_meaning.specs.declared.stmt.Stmt.{Stmt}
use Rattle.typing_rules.specs.declared.fault.TypeFault.{TypeFault}
use Rattle.typing_rules.specs.declared.fault.TypeFault.TheVariants as fault
use Rattle.typing_rules.specs.Checked.{Checked, ◌>>=◌}
use Rattle.typing_rules.specs.Statements.{Frame}
use Rattle.typing_statements.specs.Making.{behind, joined, alone, Makes, MakesMore}

abbrev pub Made : Type 0
Made = Checked (List Stmt × Frame)

-- nothing stands before these
pub behind_nothing : (c : Made) → behind [] c ≡ c
unfolding behind
behind_nothing (Ok r) = refl
behind_nothing (Err e) = refl

pub behind_behind : (old more : List Stmt) (c : Made) → behind old (behind more c) ≡ behind (old ++ more) c
unfolding behind
behind_behind old more (Ok r) = ap (λ xs. Ok (xs, r.1)) (sym (append_assoc old more r.0))
behind_behind old more (Err e) = refl

pub behind_end : (old : List Stmt) (f : Frame) → behind old (Ok ([], f)) ≡ Ok (old, f)
unfolding behind
behind_end old f = ap (λ xs. Ok (xs, f)) (nil old)
  where
    nil : (xs : List Stmt) → xs ++ [] ≡ xs
    nil [] = refl
    nil (x ∷ xs) = ap (λ ys. x ∷ ys) (nil xs)

-- what broke no rule is gone by
pub behind_joined : (old new : List Stmt) (f : Frame) (c : Made) (k : Frame → Made) → behind old c ≡ Ok (new, f) → behind old (joined c k) ≡ behind new (k f)
unfolding joined behind
behind_joined old new f (Ok r) k h = behind_behind old r.0 (k r.1) ∙ ap after h
  where
    after : Made → Made
    after (Ok p) = behind p.0 (k p.1)
    after (Err e) = Err e
behind_joined old new f (Err e) k h = cc

pub joined_error : (e : TypeFault) (c : Made) (k : Frame → Made) → c ≡ Err e → joined c k ≡ Err e
unfolding joined
joined_error e c k h = ap (λ x. x >>= (λ r. behind r.0 (k r.1))) h

-- an error of what stands behind others is its own
pub error_of : (old : List Stmt) (e : TypeFault) (c : Made) → behind old c ≡ Err e → c ≡ Err e
unfolding behind
error_of old e (Ok r) h = cc
error_of old e (Err d) h = h

pub behind_error : (old : List Stmt) (e : TypeFault) (c : Made) → c ≡ Err e → behind old c ≡ Err e
unfolding behind
behind_error old e c h = ap (λ x. x >>= (λ r. Ok (old ++ r.0, r.1))) h

-- a statement and then others
pub alone_joined : (c : Checked (Stmt × Frame)) (k : Frame → Made) → joined (alone c) k ≡ (c >>= (λ r. k r.1 >>= (λ q. Ok (r.0 ∷ q.0, q.1))))
unfolding joined alone behind
alone_joined (Ok r) k = refl
alone_joined (Err e) k = refl
