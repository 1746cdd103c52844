use Rattle.std.proofs.Common.{◌≡◌, ◌≢◌, ◌==◌, true, false, List, [], ◌∷◌, ◌++◌, length, refl, sym, ap, ◌∙◌, arith}
use Rattle.std.proofs.lemmas.Bool.Decides.{nat_tests}
use Rattle.typing_shapes.proofs.BareForms.{neither_many, neither_two, last_apart}
use Rattle.typing_shapes.proofs.request.factors_of.Goals as goal

empty : {A : Type 0} (xs : List A) → (length xs == 0) ≡ true → xs ≡ []
empty [] h = refl
empty (x ∷ xs) h = absurd (grind (arith, nat_tests))

not_empty : {A : Type 0} (xs : List A) → (length xs == 0) ≡ false → xs ≢ []
not_empty [] h = λ e. cc
not_empty (x ∷ xs) h = λ e. cc

pub returns-in-Some-sized-clause-form : goal.returns-in-Some-sized-clause-form
returns-in-Some-sized-clause-form c =
    let h = sym c.as_slice.ensures ∙ c.in-Some.ensures.cases.0 in
    (c.in-Some.before.now, c.in-Some.last.now, last_apart c.args.e.now c.in-Some.before.now c.in-Some.last.now h c.requires, refl, c.in-Some-sized.ensures.form)

pub returns-then-not-is_empty-clause-form : goal.returns-then-not-is_empty-clause-form
returns-then-not-is_empty-clause-form c =
    let h = sym c.as_slice.ensures ∙ c.in-Some.ensures.cases.0 in
    neither_many c.args.e.now c.in-Some.before.now c.in-Some.last.now h c.in_default-sized.ensures.form (not_empty c.in-Some.before.now (sym c.is_empty.ensures ∙ c.if-not-is_empty.true))

pub returns-in-Some-sized-2-clause-form : goal.returns-in-Some-sized-2-clause-form
returns-in-Some-sized-2-clause-form c =
    let h = sym c.as_slice.ensures ∙ c.in-Some.ensures.cases.0 in
    let none = empty c.in-Some.before.now (sym c.is_empty.ensures ∙ c.if-not-is_empty.false) in
    (c.in-Some.last.now, last_apart c.args.e.now [] c.in-Some.last.now (h ∙ ap (λ b. b ++ c.in-Some.last.now ∷ []) none) c.requires, refl, refl, c.in-Some-sized-2.ensures.form, c.in_default-sized.ensures.form)

pub returns-in-None-clause-form : goal.returns-in-None-clause-form
returns-in-None-clause-form c =
    let h = sym c.as_slice.ensures ∙ c.in-Some.ensures.cases.0 in
    neither_two c.args.e.now c.in-Some.before.now c.in-Some.last.now h c.in_default-sized.ensures.form (empty c.in-Some.before.now (sym c.is_empty.ensures ∙ c.if-not-is_empty.false)) c.in-None.ensures.form
