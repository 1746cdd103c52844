-- A writer that took the front of a piece.
use Rattle.std.proofs.Common.{◌≡◌, ℕ, ◌-◌, List, [], ◌∷◌, ◌++◌, rules, length, take, drop, refl, sym, ap, ◌∙◌, append_assoc, arith}
use Rattle.std.proofs.lemmas.List.{take-append-drop, take_all, length-drop}
use Rattle.std.specs.Prelude.{Option, Some, None, Ok, Err}
use Rattle.std.specs.Io.KnownBytes.{Appends, Keeps}
use Rattle.weave_base.specs.declared.outside.Failed.{Failed}
use Rattle.weave_base.specs.Contents.{IsPut}

-- of a piece the front was written behind `bytes`, and `rest` is left
pub record Written (bytes piece rest : List ℕ) (held : Option (List ℕ)) : Type 0 where
  pub front : List ℕ
  pub split : piece ≡ front ++ rest
  pub holds : held ≡ Some (bytes ++ front)

known_append : (old new : Option (List ℕ)) (xs ys : List ℕ) → old ≡ Some xs → Appends old new ys → new ≡ Some (xs ++ ys)
known_append None new xs ys is h = absurd (cc)
known_append (Some zs) None xs ys is h = absurd h
known_append (Some zs) (Some ws) xs ys is h = let same : zs ≡ xs = cc in rw h (rw same refl)

known_keep : (old new : Option (List ℕ)) (xs : List ℕ) → old ≡ Some xs → Keeps old new → new ≡ Some xs
known_keep None new xs is h = absurd (cc)
known_keep (Some zs) None xs is h = absurd h
known_keep (Some zs) (Some ws) xs is h = cc

pub written_more : (bytes piece rest : List ℕ) (old new : Option (List ℕ)) (count : ℕ) →
    Written bytes piece rest old → Appends old new (take count rest) → Written bytes piece (drop count rest) new
written_more bytes piece rest old new count w h = record {
  front = w.front ++ take count rest;
  split = w.split ∙ ap (λ xs. w.front ++ xs) (sym (take-append-drop count rest)) ∙ sym (append_assoc w.front (take count rest) (drop count rest));
  holds = known_append old new _ _ w.holds h ∙ ap (λ xs. Some xs) (append_assoc bytes w.front (take count rest));
}

-- with nothing left the piece is put
pub put_whole : (bytes piece rest : List ℕ) (held : Option (List ℕ)) → Written bytes piece rest held → length rest ≡ 0 →
    IsPut {E = Failed} bytes piece (Ok tt) held
put_whole bytes piece [] held w none = w.holds ∙ ap (λ xs. Some (bytes ++ xs)) (search rules)
put_whole bytes piece (x ∷ rest) held w none = absurd (omega arith)

-- a write that fails leaves what was written before it
pub put_in_part : (bytes piece rest : List ℕ) (old new : Option (List ℕ)) (failed : Failed) → Written bytes piece rest old → Keeps old new →
    IsPut bytes piece (Err failed) new
put_in_part bytes piece rest old new failed w h = (w.front, rest, w.split, known_keep old new _ w.holds h)

pub put_in_part_more : (bytes piece rest : List ℕ) (old new : Option (List ℕ)) (count : ℕ) (failed : Failed) →
    Written bytes piece rest old → Appends old new (take count rest) → IsPut bytes piece (Err failed) new
put_in_part_more bytes piece rest old new count failed w h =
    let more = written_more bytes piece rest old new count w h in
    (more.front, drop count rest, more.split, more.holds)

-- what is left, as a range of the slice gives it
pub written_range : (bytes piece rest : List ℕ) (old new : Option (List ℕ)) (count : ℕ) →
    Written bytes piece rest old → Appends old new (take count rest) → Written bytes piece (take (length rest - count) (drop count rest)) new
written_range bytes piece rest old new count w h =
    let all = take_all (length rest - count) (drop count rest) (omega (arith, length-drop count rest)) in
    rw all (written_more bytes piece rest old new count w h)
