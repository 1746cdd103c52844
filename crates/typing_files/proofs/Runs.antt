-- Steps over a list: one after another, and over the operands of a chain.
use Rattle.std.proofs.Common.{◌≡◌, ℕ, zero, suc, ◌+◌, ◌<◌, ◌≤◌, List, [], ◌∷◌, map, drop, get_or, length, Ok, Err, refl, sym, ap, ◌∙◌, arith}
use Rattle.c_words.specs.declared.chain.Chain.{Chain}
use Rattle.c_words.specs.declared.chain.Link.{Link}
use Rattle.typing_rules.specs.declared.fault.TypeFault.{TypeFault}
use Rattle.typing_rules.specs.Checked.{Checked, ◌>>=◌}
use Rattle.typing_rules.specs.TreesOfDeclarations.{operands}
use Rattle.typing_files.specs.Runs.{run}

module _ {A X : Type 0} (step : X → A → Checked A) where
  pub run_none : (a : A) → run step [] a ≡ Ok a
  unfolding run
  run_none a = refl

  pub run_first : (x : X) (xs : List X) (a b : A) → step x a ≡ Ok b → run step (x ∷ xs) a ≡ run step xs b
  unfolding run
  run_first x xs a b e = ap (λ c. c >>= run step xs) e

  pub run_broken : (x : X) (xs : List X) (a : A) (e : TypeFault) → step x a ≡ Err e → run step (x ∷ xs) a ≡ Err e
  unfolding run
  run_broken x xs a e h = ap (λ c. c >>= run step xs) h

  module _ {Y : Type 0} (f : Y → X) where
    item_at : (ys : List Y) (n : ℕ) (y : Y) → n < length ys → map f (drop n ys) ≡ f (get_or ys n y) ∷ map f (drop (suc n) ys)
    item_at [] n y h = absurd (omega arith)
    item_at (z ∷ ys) zero y h = refl
    item_at (z ∷ ys) (suc n) y h = item_at ys n y (omega arith)

    next : (n : ℕ) → suc n ≡ n + 1
    next n = omega arith

    pub run_at : (ys : List Y) (n : ℕ) (y : Y) (a b : A) → n < length ys → step (f (get_or ys n y)) a ≡ Ok b → run step (map f (drop n ys)) a ≡ run step (map f (drop (n + 1) ys)) b
    run_at ys n y a b h e =
        ap (λ xs. run step xs a) (item_at ys n y h) ∙ run_first (f (get_or ys n y)) (map f (drop (suc n) ys)) a b e ∙ ap (λ k. run step (map f (drop k ys)) b) (next n)

    pub broken_at : (ys : List Y) (n : ℕ) (y : Y) (a : A) (e : TypeFault) → n < length ys → step (f (get_or ys n y)) a ≡ Err e → run step (map f (drop n ys)) a ≡ Err e
    broken_at ys n y a e h k = ap (λ xs. run step xs a) (item_at ys n y h) ∙ run_broken (f (get_or ys n y)) (map f (drop (suc n) ys)) a e k

    pub run_item : (ys : List Y) (n : ℕ) (y : Y) (a b : A) → n < length ys → y ≡ get_or ys n y → step (f y) a ≡ Ok b → run step (map f (drop n ys)) a ≡ run step (map f (drop (n + 1) ys)) b
    run_item ys n y a b h is e = run_at ys n y a b h (ap (λ z. step (f z) a) (sym is) ∙ e)

    pub item_broken : (ys : List Y) (n : ℕ) (y : Y) (a : A) (e : TypeFault) → n < length ys → y ≡ get_or ys n y → step (f y) a ≡ Err e → run step (map f (drop n ys)) a ≡ Err e
    item_broken ys n y a e h is k = broken_at ys n y a e h (ap (λ z. step (f z) a) (sym is) ∙ k)

    pub run_past : (ys : List Y) (n : ℕ) (a : A) → length ys ≤ n → run step (map f (drop n ys)) a ≡ Ok a
    run_past [] zero a h = run_none a
    run_past [] (suc n) a h = run_none a
    run_past (z ∷ ys) zero a h = absurd (omega arith)
    run_past (z ∷ ys) (suc n) a h = run_past ys n a (omega arith)

    behind : (ls : List (Link Y)) → map f (map (λ l. l.operand) ls) ≡ map (λ l. f l.operand) ls
    behind [] = refl
    behind (l ∷ ls) = ap (λ xs. f l.operand ∷ xs) (behind ls)

    pub chain_first : (c : Chain Y) (a b : A) → step (f c.first) a ≡ Ok b → run step (map f (operands c)) a ≡ run step (map (λ l. f l.operand) c.rest) b
    unfolding operands
    chain_first c a b e = run_first (f c.first) (map f (map (λ l. l.operand) c.rest)) a b e ∙ ap (λ xs. run step xs b) (behind c.rest)

    pub chain_broken : (c : Chain Y) (a : A) (e : TypeFault) → step (f c.first) a ≡ Err e → run step (map f (operands c)) a ≡ Err e
    unfolding operands
    chain_broken c a e h = run_broken (f c.first) (map f (map (λ l. l.operand) c.rest)) a e h
