-- The first steps of a traced list are traced.
use Rattle.std.proofs.Common.{◌≡◌, ℕ, zero, suc, ◌≤◌, ◌<◌, List, [], ◌∷◌, take, length, refl, sym, ap, ◌∙◌, arith}
use Rattle.step_meaning.specs.Steps.{Step}
use Rattle.step_meaning.specs.Traced.{At}
use Rattle.step_meaning.specs.TracedPrefixes.{TracedPrefixes}
use Rattle.step_meaning.proofs.ValuesInside.{none_is}
use Rattle.step_meaning.proofs.FoldPrefixes.{among_first}

-- an element with a number below n is one of the first n
in_first : (ss : List Step) (n i : ℕ) (s : Step) → i < n → At ss i s → At (take n ss) i s
in_first ss zero i s l e = absurd (omega arith)
in_first [] (suc n) i s l e = none_is s e
in_first (x ∷ xs) (suc n) zero s l e = e
in_first (x ∷ xs) (suc n) (suc i) s l e = in_first xs n i s (omega arith) e

whole_length : (ss : List Step) (n : ℕ) → length ss ≤ n → length (take n ss) ≡ length ss
whole_length [] zero l = refl
whole_length [] (suc n) l = refl
whole_length (x ∷ xs) zero l = absurd (omega arith)
whole_length (x ∷ xs) (suc n) l = ap suc (whole_length xs n (omega arith))

-- the Enter of an activation stands before each of its steps, so the first steps hold it; the Return of `main` is the last of them where they hold it
pub traced_prefixes : TracedPrefixes
traced_prefixes q ss h n = record {
  each = λ i s e. h.each i s (among_first ss n i s e).1;
  first = λ s e. h.first s (among_first ss n 0 s e).1;
  main_alone = λ i s e. h.main_alone i s (among_first ss n i s e).1;
  one_function = λ i j s t a b k. h.one_function i j s t (among_first ss n i s a).1 (among_first ss n j t b).1 k;
  entered = λ i s e.
      let r = h.entered i s (among_first ss n i s e).1 in
      let l : i < n = (among_first ss n i s e).0 in
      let k : r.0 ≤ i = r.2 in
      (r.0, r.1, r.2, in_first ss n r.0 r.1 (omega arith) r.3, r.4, r.5);
  enters_first = λ i j s t a b. h.enters_first i j s t (among_first ss n i s a).1 (among_first ss n j t b).1;
  returns_last = λ i j s t a b. h.returns_last i j s t (among_first ss n i s a).1 (among_first ss n j t b).1;
  main_ends = λ i s e k r.
      let l : i < n = (among_first ss n i s e).0 in
      let m : suc i ≡ length ss = h.main_ends i s (among_first ss n i s e).1 k r in
      m ∙ sym (whole_length ss n (omega arith));
}
