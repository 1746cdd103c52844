-- The innermost block, which lies last, declares a name.
use Rattle.std.proofs.Common.{◌≡◌, ℕ, ◌+◌, ◌-◌, ◌<◌, List, [], ◌∷◌, ◌++◌, length, get_or, set, take, reverse, Result, Ok, Err, OnOk, sym, ap, ◌∙◌, arith, take_all, length-take-le}
use Rattle.std.proofs.lemmas.List.{take_more, set_at}
use Rattle.step_meaning.specs.declared.value.CType.{CType}
use Rattle.step_meaning.specs.declared.expr.Variable.{Variable}
use Rattle.typing_rules.specs.declared.operand.Entry.TheVariants as entry
use Rattle.typing_rules.specs.Environment.{Scope}
use Rattle.typing_rules.specs.Statements.{with_name}
use Rattle.typing_scopes.proofs.Scopes.{reverse_push}

pub on_ok : {A E P Q : Type 0} (r : Result A E) → (P → Q) → OnOk r P → OnOk r Q
on_ok (Ok a) f p = f p
on_ok (Err e) f p = p

by_parts : (bs outer : List Scope) (m : ℕ) (b new : Scope) (name : List ℕ) (v : Variable) (t : CType) → bs ≡ outer ++ b ∷ [] → length outer ≡ m → new ≡ b ++ (name, entry.Variable v t) ∷ []
    → reverse (set bs m new) ≡ with_name name v t (reverse bs)
by_parts bs outer m b new name v t e l h =
    ap reverse (ap (λ xs. set xs m new) e ∙ set_at outer b [] new m l)
    ∙ (reverse_push outer new
    ∙ (ap (λ s. s ∷ reverse outer) h
    ∙ sym (ap (with_name name v t) (ap reverse e ∙ reverse_push outer b))))

pub with_last : (bs : List Scope) (n : ℕ) (b new : Scope) (name : List ℕ) (v : Variable) (t : CType) → 0 < length bs → n ≡ length bs → b ≡ get_or bs (n - 1) b → new ≡ b ++ (name, entry.Variable v t) ∷ []
    → reverse (set bs (n - 1) new) ≡ with_name name v t (reverse bs)
with_last bs n b new name v t some count last h =
    let outer = take (n - 1) bs in
    let within : n - 1 < length bs = omega arith in
    let whole : bs ≡ take n bs = sym (take_all n bs (omega arith)) in
    let more : take n bs ≡ take ((n - 1) + 1) bs = ap (λ k. take k bs) (omega arith) in
    let e : bs ≡ outer ++ b ∷ [] = whole ∙ (more ∙ (take_more bs (n - 1) b within ∙ ap (λ x. outer ++ x ∷ []) (sym last))) in
    by_parts bs outer (n - 1) b new name v t e (length-take-le (n - 1) bs (omega arith)) h
