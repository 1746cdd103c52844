-- How far accesses go through the cells of an object, part by part.
use Rattle.std.proofs.Common.{◌≡◌, ℕ, zero, suc, ◌+◌, ◌<◌, ◌≤◌, ◌^◌, Bool, true, false, ◌&&◌, List, [], ◌∷◌, ◌++◌, length, drop, get_or, drop-cons, Some, None, ℤ, pos, negsuc, ◌+ℤ◌, ◌≤ℤ◌, ◌<ℤ◌, refl, sym, ap, ap₂, ◌∙◌, arith, length-append}
use Rattle.std.specs.Prelude.{◌-◌, cond, flat_map, nat_lt, is_some}
use Rattle.std.proofs.lemmas.Int.{ints}
use Rattle.std.proofs.lemmas.Bool.{lt-ltb, le-ltb}
use Rattle.step_meaning.specs.declared.value.CType.{CType}
use Rattle.step_meaning.specs.declared.value.Name.{Name}
use Rattle.step_meaning.specs.Views.{Sight, now}
use Rattle.step_meaning.specs.Types.{times}
use Rattle.step_meaning.specs.Predicates.{Denoted, object_at, objects_at, may_access_at, may_access_all}
use Rattle.acsl_truth.specs.Accesses.{past}

module _ (s : Sight) (n : Name) where
  pub access_append : (cs ds : List Denoted) → may_access_all s (cs ++ ds) ≡ (may_access_all s cs && may_access_all s ds)
  access_append [] ds = refl
  access_append (c ∷ cs) ds = ap (λ b. may_access_at s c.name c.offset c.ctype && b) (access_append cs ds) ∙ and_assoc (may_access_at s c.name c.offset c.ctype) (may_access_all s cs) (may_access_all s ds)
    where
      and_assoc : (a b c : Bool) → (a && (b && c)) ≡ ((a && b) && c)
      and_assoc true b c = refl
      and_assoc false b c = refl

  object_append : (o : ℤ) (us vs : List CType) → object_at n o (us ++ vs) ≡ object_at n o us ++ object_at n (o +ℤ pos (length us)) vs
  object_append o [] vs = ap (λ z. object_at n z vs) (omega (arith, ints))
  object_append o (u ∷ us) vs =
      ap (λ ds. record { name = n; offset = o; ctype = u } ∷ ds)
      (object_append (o +ℤ pos 1) us vs ∙ ap (λ z. object_at n (o +ℤ pos 1) us ++ object_at n z vs) (omega (arith, ints)))

  -- what is known where the offset past some cells is
  pub known : (at : ℕ) (us : List CType) (next : ℕ) → Some next ≡ past s n at us → (may_access_all s (object_at n (pos at) us) ≡ true) × (next ≡ at + length us)
  known at us next e = of (may_access_all s (object_at n (pos at) us)) (at + length us) e
    where
      of : (b : Bool) (x : ℕ) → Some next ≡ cond b (Some x) None → (b ≡ true) × (next ≡ x)
      of true x e = (refl, cc)
      of false x e = cc

  pub unknown : (at : ℕ) (us : List CType) → None ≡ past s n at us → may_access_all s (object_at n (pos at) us) ≡ false
  unknown at us e = of (may_access_all s (object_at n (pos at) us)) (at + length us) e
    where
      of : (b : Bool) (x : ℕ) → None ≡ cond b (Some x) None → b ≡ false
      of true x e = cc
      of false x e = refl

  pub past_none : (at : ℕ) → past s n at [] ≡ Some at
  past_none at = ap Some (omega arith)

  -- ---- one cell

  pub past_one : (at : ℕ) (u : CType) → at < 2 ^ 32 → is_some (now s n at u) ≡ true → past s n at (u ∷ []) ≡ Some (at + 1)
  past_one at u h i = ap (λ b. cond ((b && is_some (now s n at u)) && true) (Some (at + 1)) None) (lt-ltb at (2 ^ 32) h) ∙ ap (λ b. cond (b && true) (Some (at + 1)) None) i

  pub past_forbidden : (at : ℕ) (u : CType) → is_some (now s n at u) ≡ false → past s n at (u ∷ []) ≡ None
  past_forbidden at u i = ap (λ b. cond ((nat_lt at (2 ^ 32) && b) && true) (Some (at + 1)) None) i ∙ ap (λ b. cond (b && true) (Some (at + 1)) None) (and_false (nat_lt at (2 ^ 32)))
    where
      and_false : (b : Bool) → (b && false) ≡ false
      and_false true = refl
      and_false false = refl

  pub past_beyond : (at : ℕ) (u : CType) → 2 ^ 32 ≤ at → past s n at (u ∷ []) ≡ None
  past_beyond at u h = ap (λ b. cond ((b && is_some (now s n at u)) && true) (Some (at + 1)) None) (le-ltb at (2 ^ 32) h)

  -- ---- cells after others

  pub past_on : (at : ℕ) (us vs : List CType) (next : ℕ) → Some next ≡ past s n at us → past s n at (us ++ vs) ≡ past s n next vs
  past_on at us vs next e =
      let k = known at us next e in
      let place : (pos at +ℤ pos (length us)) ≡ pos next = ap pos (sym k.1) in
      let count : at + length (us ++ vs) ≡ next + length vs = omega (arith, length-append us vs, k.1) in
      ap₂ (λ b x. cond b (Some x) None)
      (ap (may_access_all s) (object_append (pos at) us vs)
      ∙ access_append (object_at n (pos at) us) (object_at n (pos at +ℤ pos (length us)) vs)
      ∙ ap₂ ◌&&◌ k.0 (ap (λ z. may_access_all s (object_at n z vs)) place))
      count

  pub past_ended : (at : ℕ) (us vs : List CType) → None ≡ past s n at us → past s n at (us ++ vs) ≡ None
  past_ended at us vs e =
      ap (λ b. cond b (Some (at + length (us ++ vs))) None)
      (ap (may_access_all s) (object_append (pos at) us vs)
      ∙ access_append (object_at n (pos at) us) (object_at n (pos at +ℤ pos (length us)) vs)
      ∙ ap (λ b. b && may_access_all s (object_at n (pos at +ℤ pos (length us)) vs)) (unknown at us e))

  -- ---- objects, one after the other

  pub objects_on : (at : ℕ) (us : List CType) (count next : ℕ) → Some next ≡ past s n at us
      → may_access_all s (objects_at n (pos at) us (suc count)) ≡ may_access_all s (objects_at n (pos next) us count)
  objects_on at us count next e =
      let k = known at us next e in
      let place : (pos at +ℤ pos (length us)) ≡ pos next = ap pos (sym k.1) in
      access_append (object_at n (pos at) us) (objects_at n (pos at +ℤ pos (length us)) us count)
      ∙ ap₂ ◌&&◌ k.0 (ap (λ z. may_access_all s (objects_at n z us count)) place)

  pub objects_ended : (at : ℕ) (us : List CType) (count : ℕ) → None ≡ past s n at us → may_access_all s (objects_at n (pos at) us (suc count)) ≡ false
  objects_ended at us count e =
      access_append (object_at n (pos at) us) (objects_at n (pos at +ℤ pos (length us)) us count)
      ∙ ap (λ b. b && may_access_all s (objects_at n (pos at +ℤ pos (length us)) us count)) (unknown at us e)

  -- ---- elements and members

  elements_of_none : (at count : ℕ) (us : List CType) → length us ≡ 0 → past s n at (times count us) ≡ Some at
  elements_of_none at zero us e = past_none at
  elements_of_none at (suc count) [] e = elements_of_none at count [] refl
  elements_of_none at (suc count) (u ∷ us) e = absurd (omega arith)

  -- an element without cells: the others have none either
  pub elements_without_cells : (at count : ℕ) (us : List CType) → Some at ≡ past s n at us → past s n at (times count us) ≡ Some at
  elements_without_cells at count us e = elements_of_none at count us (omega (arith, (known at us at e).1))

  pub objects_of_none : (o : ℤ) (count : ℕ) (us : List CType) → length us ≡ 0 → may_access_all s (objects_at n o us count) ≡ true
  objects_of_none o zero us e = refl
  objects_of_none o (suc count) [] e = objects_of_none (o +ℤ pos 0) count [] refl
  objects_of_none o (suc count) (u ∷ us) e = absurd (omega arith)

  pub objects_without_cells : (at count : ℕ) (us : List CType) → Some at ≡ past s n at us → may_access_all s (objects_at n (pos at) us count) ≡ true
  objects_without_cells at count us e = objects_of_none (pos at) count us (omega (arith, (known at us at e).1))

  -- after some elements, as the loop over them has it
  module _ (start at count done : ℕ) (us : List CType) (h : done < count)
      (left : (rest : ℕ) → done + rest ≡ count → past s n start (times count us) ≡ past s n at (times rest us)) where
    pub elements_left : past s n start (times count us) ≡ past s n at (times (count - done) us)
    elements_left = left (count - done) (omega arith)

    pub elements_ended : None ≡ past s n at us → past s n start (times count us) ≡ None
    elements_ended e = left (suc (count - suc done)) (omega arith) ∙ past_ended at us (times (count - suc done) us) e

  -- after some members, as the loop over them has it
  module _ {D : Type 0} (cells : D → List CType) (at : ℕ) (ds : List D) (i : ℕ) (d : D) (h : i < length ds) where
    next_member : drop i ds ≡ get_or ds i d ∷ drop (i + 1) ds
    next_member = let after : suc i ≡ i + 1 = omega arith in drop-cons ds i d h ∙ ap (λ k. get_or ds i d ∷ drop k ds) after

    pub members_on : (next : ℕ) → Some next ≡ past s n at (cells (get_or ds i d)) → past s n at (flat_map cells (drop i ds)) ≡ past s n next (flat_map cells (drop (i + 1) ds))
    members_on next f = ap (λ xs. past s n at (flat_map cells xs)) next_member ∙ past_on at (cells (get_or ds i d)) (flat_map cells (drop (i + 1) ds)) next f

    pub members_ended : None ≡ past s n at (cells (get_or ds i d)) → past s n at (flat_map cells (drop i ds)) ≡ None
    members_ended f = ap (λ xs. past s n at (flat_map cells xs)) next_member ∙ past_ended at (cells (get_or ds i d)) (flat_map cells (drop (i + 1) ds)) f

  -- after some objects, as the loop over them has it
  module _ (start at count done : ℕ) (us : List CType) (h : done < count)
      (left : (rest : ℕ) → done + rest ≡ count → may_access_all s (objects_at n (pos start) us count) ≡ may_access_all s (objects_at n (pos at) us rest)) where
    pub objects_left : may_access_all s (objects_at n (pos start) us count) ≡ may_access_all s (objects_at n (pos at) us (count - done))
    objects_left = left (count - done) (omega arith)

    pub objects_stopped : None ≡ past s n at us → may_access_all s (objects_at n (pos start) us count) ≡ false
    objects_stopped e = left (suc (count - suc done)) (omega arith) ∙ objects_ended at us (count - suc done) e

  -- ---- objects outside of every variable

  pub no_objects : (o : ℤ) (us : List CType) (count : ℕ) → count ≡ 0 → may_access_all s (objects_at n o us count) ≡ true
  no_objects o us zero e = refl
  no_objects o us (suc count) e = absurd (omega arith)

  pub objects_outside : (o : ℤ) (us : List CType) (count : ℕ) → 0 < length us → 0 < count → ((u : CType) → may_access_at s n o u ≡ false) → may_access_all s (objects_at n o us count) ≡ false
  objects_outside o [] count h i f = absurd (omega arith)
  objects_outside o (u ∷ us) zero h i f = absurd (omega arith)
  objects_outside o (u ∷ us) (suc count) h i f = ap (λ b. b && may_access_all s (object_at n (o +ℤ pos 1) us ++ objects_at n (o +ℤ pos (suc (length us))) (u ∷ us) count)) (f u)

  pub access_below : (o : ℤ) → o <ℤ pos 0 → (u : CType) → may_access_at s n o u ≡ false
  access_below (pos o) h u = absurd (omega (arith, ints))
  access_below (negsuc o) h u = refl

  pub access_beyond : (o : ℤ) → pos (2 ^ 32) ≤ℤ o → (u : CType) → may_access_at s n o u ≡ false
  access_beyond (pos o) h u = ap (λ b. b && is_some (now s n o u)) (le-ltb o (2 ^ 32) (omega (arith, ints)))
  access_beyond (negsuc o) h u = refl
