-- The definitions at the variants of terms and places that code sees.
use Rattle.std.proofs.Common.{◌≡◌, ℕ, refl}
use Rattle.std.specs.Prelude.{pos, neg_ℤ, ◌*ℤ◌, Some}
use Rattle.step_meaning.specs.declared.expr.IntOp.{IntOp}
use Rattle.step_meaning.specs.declared.predicate.Term.{Term}
use Rattle.step_meaning.specs.declared.predicate.Term.TheVariants as t
use Rattle.step_meaning.specs.declared.predicate.Term.TheBlock.{shape-the_row-Term-0, hidden-the_row-Term-0, shape-the_row-TermPlace-1, hidden-the_row-TermPlace-1}
use Rattle.step_meaning.specs.declared.predicate.TermPlace.{TermPlace}
use Rattle.step_meaning.specs.declared.predicate.TermPlace.TheVariants as p
use denote.Hole.Carrier.{hidden}
use Rattle.step_meaning.specs.Views.{Sight, Reads}
use Rattle.step_meaning.specs.Terms.{Number, value_by, place_by, with_number, with_value, term_operation, term_moved}
use Rattle.step_meaning.specs.Bounded.{WhereDefined, IsProductWithin, PartsBounded, PlaceBounded, TermBounded}

module _ (s : Sight) (reads : Reads) where
  -- ---- values

  pub value_of_negation : (e : Term) → value_by s (t.Neg e) reads ≡ with_number (value_by s e reads) (λ x. Some (Number (neg_ℤ x)))
  unfolding shape-the_row-Term-0 hidden-the_row-Term-0 hidden
  value_of_negation e = refl

  pub value_of_operation : (o : IntOp) (e f : Term)
      → value_by s (t.Arith o e f) reads ≡ with_number (value_by s e reads) (λ x. with_number (value_by s f reads) (λ y. term_operation o x y))
  unfolding shape-the_row-Term-0 hidden-the_row-Term-0 hidden
  value_of_operation o e f = refl

  pub value_of_move : (e f : Term) (size : ℕ)
      → value_by s (t.Move e f size) reads ≡ with_value (value_by s e reads) (λ x. with_number (value_by s f reads) (λ i. term_moved (i *ℤ pos size) x))
  unfolding shape-the_row-Term-0 hidden-the_row-Term-0 hidden
  value_of_move e f size = refl

  pub place_of_pointer : (e : Term) → place_by s (p.Deref e) reads ≡ value_by s e reads
  unfolding shape-the_row-Term-0 hidden-the_row-Term-0 hidden
  place_of_pointer e = refl

  pub place_of_member : (q : TermPlace) (o : ℕ) → place_by s (p.Member q o) reads ≡ with_value (place_by s q reads) (term_moved (pos o))
  unfolding shape-the_row-TermPlace-1 hidden-the_row-TermPlace-1 hidden
  place_of_member q o = refl

  pub place_of_element : (q : TermPlace) (e : Term) (size : ℕ)
      → place_by s (p.Index q e size) reads ≡ with_value (place_by s q reads) (λ x. with_number (value_by s e reads) (λ i. term_moved (i *ℤ pos size) x))
  unfolding shape-the_row-TermPlace-1 hidden-the_row-TermPlace-1 shape-the_row-Term-0 hidden-the_row-Term-0 hidden
  place_of_element q e size = refl

  -- ---- parts that are bounded

  pub negation_parts : (e : Term) → PartsBounded s (t.Neg e) reads → TermBounded s e reads
  unfolding shape-the_row-Term-0 hidden-the_row-Term-0 hidden
  negation_parts e h = h

  pub operation_parts : (o : IntOp) (e f : Term) → PartsBounded s (t.Arith o e f) reads → TermBounded s e reads × TermBounded s f reads
  unfolding shape-the_row-Term-0 hidden-the_row-Term-0 hidden
  operation_parts o e f h = h

  pub move_parts : (e f : Term) (size : ℕ) → PartsBounded s (t.Move e f size) reads
      → TermBounded s e reads × TermBounded s f reads × IsProductWithin (value_by s f reads) size
  unfolding shape-the_row-Term-0 hidden-the_row-Term-0 hidden
  move_parts e f size h = h

  pub pointer_parts : (e : Term) → PlaceBounded s (p.Deref e) reads → TermBounded s e reads
  unfolding shape-the_row-Term-0 hidden-the_row-Term-0 hidden
  pointer_parts e h = h

  pub member_parts : (q : TermPlace) (o : ℕ) → PlaceBounded s (p.Member q o) reads
      → WhereDefined (with_value (place_by s q reads) (term_moved (pos o))) × PlaceBounded s q reads
  unfolding shape-the_row-TermPlace-1 hidden-the_row-TermPlace-1 hidden
  member_parts q o h = h

  pub element_parts : (q : TermPlace) (e : Term) (size : ℕ) → PlaceBounded s (p.Index q e size) reads
      → WhereDefined (with_value (place_by s q reads) (λ x. with_number (value_by s e reads) (λ i. term_moved (i *ℤ pos size) x)))
      × PlaceBounded s q reads × TermBounded s e reads × IsProductWithin (value_by s e reads) size
  unfolding shape-the_row-TermPlace-1 hidden-the_row-TermPlace-1 shape-the_row-Term-0 hidden-the_row-Term-0 hidden
  element_parts q e size h = h

pub ruleset at_variants = (value_of_negation, value_of_operation, value_of_move, place_of_pointer, place_of_member, place_of_element)
