-- How positions move over bytes.
use Rattle.std.proofs.Common.{◌≡◌, ℕ, suc, ◌+◌, ◌<◌, ◌≤◌, get_or, drop, sym, Bool, true, false, cond, ◌==◌, List, [], ◌∷◌, ◌++◌, length, refl, ap, ap₂, ◌∙◌, arith}
use Rattle.std.specs.List.{list_all}
use Rattle.std.proofs.Math.Seq.{drop-cons}
use Rattle.std.proofs.lemmas.Bool.Decides.{nat_tests}
use Rattle.c_lexer.specs.declared.position.Position.{Position}
use Rattle.c_lexer.specs.Positions.{step, after}
use Rattle.c_lexer.proofs.ListLemmas.{left, right}
use Rattle.c_lexer.proofs.TokenLemmas.{is_graphic}

pub step-offset : (p : Position) (c : ℕ) → (step p c).offset ≡ p.offset + 1
unfolding step
step-offset p c = of (c == 10)
  where
    of : (b : Bool) → (let q : Position = cond b (record { offset = p.offset + 1; line = p.line + 1; column = 1 }) (record { offset = p.offset + 1; line = p.line; column = p.column + 1 }) in q).offset ≡ p.offset + 1
    of true = refl
    of false = refl

-- the line and the column rise by no more than the offset
pub record IsBounded (p : Position) : Type 0 where
  pub line : p.line ≤ p.offset + 1
  pub column : p.column ≤ p.offset + 1

pub step_bounded : (p : Position) (c : ℕ) → IsBounded p → IsBounded (step p c)
unfolding step
step_bounded p c h = of (c == 10)
  where
    of : (b : Bool) → IsBounded (cond b (record { offset = p.offset + 1; line = p.line + 1; column = 1 }) (record { offset = p.offset + 1; line = p.line; column = p.column + 1 }))
    of true = record { line = omega (arith, h.line); column = omega arith }
    of false = record { line = omega (arith, h.line); column = omega (arith, h.column) }

-- so many bytes further on one line
abbrev pub along : Position → ℕ → Position
along p n = record { offset = p.offset + n; line = p.line; column = p.column + n }

pub along_bounded : (p : Position) (n : ℕ) → IsBounded p → IsBounded (along p n)
along_bounded p n h = record { line = omega (arith, h.line); column = omega (arith, h.column) }

along_none : (p : Position) → p ≡ along p 0
along_none p =
    let e : p.offset ≡ p.offset + 0 = omega arith in
    let g : p.column ≡ p.column + 0 = omega arith in
    ap₂ (λ i j. let q : Position = record { offset = i; line = p.line; column = j } in q) e g

along_more : (p : Position) (n : ℕ) → along (along p 1) n ≡ along p (suc n)
along_more p n =
    let e : p.offset + 1 + n ≡ p.offset + suc n = omega arith in
    let g : p.column + 1 + n ≡ p.column + suc n = omega arith in
    ap₂ (λ i j. let q : Position = record { offset = i; line = p.line; column = j } in q) e g

graphic_line : (c : ℕ) → is_graphic c ≡ true → (c == 10) ≡ false
graphic_line c h = grind (arith, nat_tests)

step_along : (p : Position) (c : ℕ) → is_graphic c ≡ true → step p c ≡ along p 1
unfolding step
step_along p c h = rw (graphic_line c h)

pub after_along : (p : Position) (bs : List ℕ) → list_all is_graphic bs ≡ true → after p bs ≡ along p (length bs)
unfolding after
after_along p [] h = along_none p
after_along p (c ∷ cs) h =
    ap (λ q. after q cs) (step_along p c (left (is_graphic c) _ h)) ∙ after_along (along p 1) cs (right (is_graphic c) _ h) ∙ along_more p (length cs)

pub after-append : (p : Position) (xs ys : List ℕ) → after p (xs ++ ys) ≡ after (after p xs) ys
unfolding after
after-append p [] ys = refl
after-append p (x ∷ xs) ys = after-append (step p x) xs ys

pub after_bounded : (bs : List ℕ) (p : Position) → IsBounded p → IsBounded (after p bs)
unfolding after
after_bounded [] p h = h
after_bounded (c ∷ cs) p h = after_bounded cs (step p c) (step_bounded p c h)

pub after-offset : (bs : List ℕ) (p : Position) → (after p bs).offset ≡ p.offset + length bs
unfolding after
after-offset [] p = omega arith
after-offset (c ∷ cs) p = omega (arith, after-offset cs (step p c), step-offset p c)

-- a byte moves the line by one at most, and the column too, or back to 1
pub record StepsBy (p q : Position) : Type 0 where
  pub offset : q.offset ≡ p.offset + 1
  pub line : q.line ≤ p.line + 1
  pub column : q.column ≤ p.column + 1

pub step_by : (p : Position) (c : ℕ) → StepsBy p (step p c)
unfolding step
step_by p c = of (c == 10)
  where
    of : (b : Bool) → StepsBy p (cond b (record { offset = p.offset + 1; line = p.line + 1; column = 1 }) (record { offset = p.offset + 1; line = p.line; column = p.column + 1 }))
    of true = record { offset = refl; line = omega arith; column = omega arith }
    of false = record { offset = refl; line = omega arith; column = omega arith }

pub after_drop : (p : Position) (bs : List ℕ) (i : ℕ) → i < length bs → after (step p (get_or bs i 0)) (drop (i + 1) bs) ≡ after p (drop i bs)
unfolding after
after_drop p bs i lt =
    let same : suc i ≡ i + 1 = omega arith in
    let next : drop (suc i) bs ≡ drop (i + 1) bs = ap (λ j. drop j bs) same in
    ap (after (step p (get_or bs i 0))) (sym next) ∙ sym (ap (after p) (drop-cons bs i 0 lt))
