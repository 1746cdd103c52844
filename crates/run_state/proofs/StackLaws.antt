-- The top items of a stack, which stand last in its list.
use Rattle.std.proofs.Common.{◌≡◌, ℕ, ◌-◌, ◌≤◌, List, [], ◌∷◌, ◌++◌, length, take, drop, reverse, refl, sym, ap, ◌∙◌, arith, append_assoc}
use Rattle.std.proofs.lemmas.List.{reverse-append, reverse-reverse, length-reverse, length-drop, take-append-drop}
use Rattle.std.proofs.Math.Seq.{take-append_seam, drop-append_seam}
use Rattle.run_turns.specs.Lists.{reversed_onto}

reversed_before : {A : Type 0} (xs ys : List A) → reversed_onto xs ys ≡ reverse xs ++ ys
reversed_before [] ys = refl
reversed_before (x ∷ xs) ys = reversed_before xs (x ∷ ys) ∙ sym (rw (reverse-append (x ∷ []) xs) (append_assoc (reverse xs) (x ∷ []) ys))

append_none : {A : Type 0} (xs : List A) → xs ++ [] ≡ xs
append_none [] = refl
append_none (x ∷ xs) = ap (λ l. x ∷ l) (append_none xs)

top_of : {A : Type 0} (a b : List A) → take (length b) (reverse (a ++ b)) ≡ reverse b
top_of a b = rw (reverse-append a b, sym (length-reverse b)) (take-append_seam (reverse b) (reverse a))

below_of : {A : Type 0} (a b : List A) → drop (length b) (reverse (a ++ b)) ≡ reverse a
below_of a b = rw (reverse-append a b, sym (length-reverse b)) (drop-append_seam (reverse b) (reverse a))

pub top_items : {A : Type 0} (n : ℕ) (xs : List A) → n ≤ length xs → reversed_onto (take n (reverse xs)) [] ≡ drop (length xs - n) xs
top_items n xs h =
    let k = length xs - n in
    let e = take-append-drop k xs in
    let l : length (drop k xs) ≡ n = omega (arith, length-drop k xs) in
    let t : take n (reverse xs) ≡ reverse (drop k xs) = ap (λ i. take i (reverse xs)) (sym l) ∙ ap (λ l. take (length (drop k xs)) (reverse l)) (sym e) ∙ top_of (take k xs) (drop k xs) in
    reversed_before (take n (reverse xs)) [] ∙ append_none (reverse (take n (reverse xs))) ∙ ap reverse t ∙ reverse-reverse (drop k xs)

pub items_below : {A : Type 0} (n : ℕ) (xs : List A) → n ≤ length xs → drop n (reverse xs) ≡ reverse (take (length xs - n) xs)
items_below n xs h =
    let k = length xs - n in
    let e = take-append-drop k xs in
    let l : length (drop k xs) ≡ n = omega (arith, length-drop k xs) in
    ap (λ i. drop i (reverse xs)) (sym l) ∙ ap (λ l. drop (length (drop k xs)) (reverse l)) (sym e) ∙ below_of (take k xs) (drop k xs)
