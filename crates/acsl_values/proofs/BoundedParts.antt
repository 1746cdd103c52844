-- The parts of a term or place that is bounded are bounded, as code meets them: `whole` is what is taken apart, `part` what a reference to its part shows, and a value is what was computed of it.
use Rattle.std.proofs.Common.{◌≡◌, ℕ, sym, ap, subst, ◌∙◌}
use Rattle.step_meaning.specs.declared.value.CType.{CType}
use Rattle.std.specs.Prelude.{Option}
use Rattle.step_meaning.specs.declared.expr.IntOp.{IntOp}
use Rattle.step_meaning.specs.declared.predicate.Term.{Term}
use Rattle.step_meaning.specs.declared.predicate.Term.TheVariants as t
use Rattle.step_meaning.specs.declared.predicate.TermPlace.{TermPlace}
use Rattle.step_meaning.specs.declared.predicate.TermPlace.TheVariants as p
use Rattle.step_meaning.specs.Views.{Sight, Reads}
use Rattle.step_meaning.specs.Terms.{TermValue, value_by, place_by, with_value, read_at}
use Rattle.acsl_values.specs.Seen.{negation, operation_on, move, to_member}
use Rattle.step_meaning.specs.Bounded.{WhereDefined, IsProductWithin, PlaceBounded, TermBounded}
use Rattle.acsl_values.proofs.TermViews.{negation_parts, operation_parts, move_parts, pointer_parts, member_parts, element_parts, value_of_negation, value_of_operation, value_of_move, place_of_pointer, place_of_member, place_of_element}

module _ (s : Sight) (reads : Reads) where
  abbrev Value : Term → Option TermValue
  Value e = value_by s e reads

  abbrev Place : TermPlace → Option TermValue
  Place q = place_by s q reads

  abbrev Bounded : Term → Type 0
  Bounded e = TermBounded s e reads

  abbrev InPlace : TermPlace → Type 0
  InPlace q = PlaceBounded s q reads

  -- what code computes of a part is right where the part is bounded
  abbrev pub Computes : Term → Option TermValue → Type 0
  Computes e v = Bounded e → v ≡ Value e

  abbrev pub Reaches : TermPlace → Option TermValue → Type 0
  Reaches q v = InPlace q → v ≡ Place q

  -- ---- terms

  pub negation_value : (whole e part : Term) (v w : Option TermValue) → whole ≡ t.Neg e → part ≡ e → Computes part v → (WhereDefined (negation v) → w ≡ negation v) → Computes whole w
  negation_value whole e part v w i j k l h =
      let b : Bounded whole = h in
      let c : Bounded (t.Neg e) = rw i at b in
      let d : Bounded part = rw j (negation_parts s reads e c.1) in
      let x : negation v ≡ Value whole = ap negation (k d ∙ ap Value j) ∙ sym (value_of_negation s reads e) ∙ ap Value (sym i) in
      l (subst WhereDefined (sym x) b.0) ∙ x

  pub operation_value : (whole : Term) (o : IntOp) (e f left right : Term) (v w r : Option TermValue) → whole ≡ t.Arith o e f → left ≡ e → right ≡ f
      → Computes left v → Computes right w → (WhereDefined v → WhereDefined (operation_on o v w) → r ≡ operation_on o v w) → Computes whole r
  operation_value whole o e f left right v w r i j j' k k' l h =
      let b : Bounded whole = h in
      let c : Bounded (t.Arith o e f) = rw i at b in
      let d = operation_parts s reads o e f c.1 in
      let dl : Bounded left = rw j d.0 in
      let dr : Bounded right = rw j' d.1 in
      let x : operation_on o v w ≡ Value whole =
      ap (λ v. operation_on o v w) (k dl ∙ ap Value j) ∙ ap (operation_on o (Value e)) (k' dr ∙ ap Value j') ∙ sym (value_of_operation s reads o e f) ∙ ap Value (sym i) in
      l (subst WhereDefined (sym (k dl)) dl.0) (subst WhereDefined (sym x) b.0) ∙ x

  pub move_value : (whole e f : Term) (size : ℕ) (left right : Term) (v w r : Option TermValue) → whole ≡ t.Move e f size → left ≡ e → right ≡ f
      → Computes left v → Computes right w → (IsProductWithin w size → WhereDefined (move v w size) → r ≡ move v w size) → Computes whole r
  move_value whole e f size left right v w r i j j' k k' l h =
      let b : Bounded whole = h in
      let c : Bounded (t.Move e f size) = rw i at b in
      let d = move_parts s reads e f size c.1 in
      let dl : Bounded left = rw j d.0 in
      let dr : Bounded right = rw j' d.1 in
      let y : w ≡ Value f = k' dr ∙ ap Value j' in
      let x : move v w size ≡ Value whole =
      ap (λ v. move v w size) (k dl ∙ ap Value j) ∙ ap (λ w. move (Value e) w size) y ∙ sym (value_of_move s reads e f size) ∙ ap Value (sym i) in
      l (subst (λ w. IsProductWithin w size) (sym y) d.2) (subst WhereDefined (sym x) b.0) ∙ x

  pub loaded_value : (whole : Term) (q : TermPlace) (u : CType) (v r : Option TermValue) → whole ≡ t.Load q u → Reaches q v → r ≡ with_value v (read_at reads u) → Computes whole r
  loaded_value whole q u v r i k l h =
      let b : Bounded whole = h in
      let c : Bounded (t.Load q u) = rw i at b in
      l ∙ ap (λ v. with_value v (read_at reads u)) (k c.1) ∙ ap Value (sym i)

  pub address_value : (whole : Term) (q : TermPlace) (u : CType) (v : Option TermValue) → whole ≡ t.Address q u → Reaches q v → Computes whole v
  address_value whole q u v i k h =
      let b : Bounded whole = h in
      let c : Bounded (t.Address q u) = rw i at b in
      k c.1 ∙ ap Value (sym i)

  -- ---- places

  pub pointer_value : (whole : TermPlace) (e part : Term) (v : Option TermValue) → whole ≡ p.Deref e → part ≡ e → Computes part v → Reaches whole v
  pointer_value whole e part v i j k h =
      let b : InPlace whole = h in
      let c : InPlace (p.Deref e) = rw i at b in
      let d : Bounded part = rw j (pointer_parts s reads e c) in
      k d ∙ ap Value j ∙ sym (place_of_pointer s reads e) ∙ ap Place (sym i)

  pub member_value : (whole q : TermPlace) (o : ℕ) (part : TermPlace) (v w : Option TermValue) → whole ≡ p.Member q o → part ≡ q
      → Reaches part v → (WhereDefined (to_member v o) → w ≡ to_member v o) → Reaches whole w
  member_value whole q o part v w i j k l h =
      let b : InPlace whole = h in
      let c : InPlace (p.Member q o) = rw i at b in
      let parts = member_parts s reads q o c in
      let d : InPlace part = rw j parts.1 in
      let x : to_member v o ≡ to_member (Place q) o = ap (λ v. to_member v o) (k d ∙ ap Place j) in
      l (subst WhereDefined (sym x) parts.0) ∙ x ∙ sym (place_of_member s reads q o) ∙ ap Place (sym i)

  pub element_value : (whole q : TermPlace) (e : Term) (size : ℕ) (left : TermPlace) (right : Term) (v w r : Option TermValue) → whole ≡ p.Index q e size → left ≡ q → right ≡ e
      → Reaches left v → Computes right w → (IsProductWithin w size → WhereDefined (move v w size) → r ≡ move v w size) → Reaches whole r
  element_value whole q e size left right v w r i j j' k k' l h =
      let b : InPlace whole = h in
      let c : InPlace (p.Index q e size) = rw i at b in
      let parts = element_parts s reads q e size c in
      let dl : InPlace left = rw j parts.1 in
      let dr : Bounded right = rw j' parts.2 in
      let y : w ≡ Value e = k' dr ∙ ap Value j' in
      let x : move v w size ≡ move (Place q) (Value e) size = ap (λ v. move v w size) (k dl ∙ ap Place j) ∙ ap (λ w. move (Place q) w size) y in
      l (subst (λ w. IsProductWithin w size) (sym y) parts.3) (subst WhereDefined (sym x) parts.0) ∙ x ∙ sym (place_of_element s reads q e size) ∙ ap Place (sym i)
