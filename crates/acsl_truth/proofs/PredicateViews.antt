-- The truth of predicates at the variants that code sees.
use Rattle.std.proofs.Common.{◌≡◌, Bool, ◌&&◌, ◌||◌, sym, ap, subst, ◌∙◌}
use Rattle.std.specs.Prelude.{not, cond}
use Rattle.step_meaning.specs.declared.predicate.Predicate.{Predicate}
use Rattle.step_meaning.specs.declared.predicate.Predicate.TheVariants.{Not, And, Or, Implies, Iff}
use Rattle.step_meaning.specs.declared.predicate.Predicate.TheBlock.{shape-the_row-Predicate-0, hidden-the_row-Predicate-0}
use denote.Hole.Carrier.{hidden}
use Rattle.step_meaning.specs.Views.{Sight}
use Rattle.step_meaning.specs.Predicates.{holds}
use Rattle.step_meaning.specs.Bounded.{IsBounded}

module _ (s : Sight) where
  -- what code answers of a part is right where the part is bounded
  abbrev pub Tells : Predicate → Bool → Type 0
  Tells r b = IsBounded s r → b ≡ holds s r

  of_negation : (r : Predicate) (b : Bool) → Tells r b → Tells (Not r) (not b)
  unfolding shape-the_row-Predicate-0 hidden-the_row-Predicate-0 hidden
  of_negation r b f h = ap not (f h)

  pub negation_tells : (whole r part : Predicate) (b w : Bool) → whole ≡ Not r → part ≡ r → Tells part b → w ≡ not b → Tells whole w
  negation_tells whole r part b w i j f e = subst (λ x. Tells x w) (sym i) (subst (λ w. Tells (Not r) w) (sym e) (of_negation r b (subst (λ x. Tells x b) j f)))

  of_both : (q r : Predicate) (a b : Bool) → Tells q a → Tells r b → Tells (And q r) (a && b)
  unfolding shape-the_row-Predicate-0 hidden-the_row-Predicate-0 hidden
  of_both q r a b f g h = ap (λ a. a && b) (f h.0) ∙ ap (λ b. holds s q && b) (g h.1)

  of_either : (q r : Predicate) (a b : Bool) → Tells q a → Tells r b → Tells (Or q r) (a || b)
  unfolding shape-the_row-Predicate-0 hidden-the_row-Predicate-0 hidden
  of_either q r a b f g h = ap (λ a. a || b) (f h.0) ∙ ap (λ b. holds s q || b) (g h.1)

  of_implication : (q r : Predicate) (a b : Bool) → Tells q a → Tells r b → Tells (Implies q r) (not a || b)
  unfolding shape-the_row-Predicate-0 hidden-the_row-Predicate-0 hidden
  of_implication q r a b f g h = ap (λ a. not a || b) (f h.0) ∙ ap (λ b. not (holds s q) || b) (g h.1)

  of_equivalence : (q r : Predicate) (a b : Bool) → Tells q a → Tells r b → Tells (Iff q r) (cond a b (not b))
  unfolding shape-the_row-Predicate-0 hidden-the_row-Predicate-0 hidden
  of_equivalence q r a b f g h = ap (λ a. cond a b (not b)) (f h.0) ∙ ap (λ b. cond (holds s q) b (not b)) (g h.1)

  -- two parts, by what the whole answers of theirs
  module _ (make : Predicate → Predicate → Predicate) (gives : Bool → Bool → Bool) (law : (q r : Predicate) (a b : Bool) → Tells q a → Tells r b → Tells (make q r) (gives a b)) where
    pub pair_tells : (whole q r left right : Predicate) (a b w : Bool) → whole ≡ make q r → left ≡ q → right ≡ r → Tells left a → Tells right b → w ≡ gives a b → Tells whole w
    pair_tells whole q r left right a b w i j k f g e =
        subst (λ x. Tells x w) (sym i) (subst (λ w. Tells (make q r) w) (sym e) (law q r a b (subst (λ x. Tells x a) j f) (subst (λ x. Tells x b) k g)))

  pub both_tells : (whole q r left right : Predicate) (a b w : Bool) → whole ≡ And q r → left ≡ q → right ≡ r → Tells left a → Tells right b → w ≡ (a && b) → Tells whole w
  both_tells = pair_tells And (λ a b. a && b) of_both

  pub either_tells : (whole q r left right : Predicate) (a b w : Bool) → whole ≡ Or q r → left ≡ q → right ≡ r → Tells left a → Tells right b → w ≡ (a || b) → Tells whole w
  either_tells = pair_tells Or (λ a b. a || b) of_either

  pub implication_tells : (whole q r left right : Predicate) (a b w : Bool) → whole ≡ Implies q r → left ≡ q → right ≡ r → Tells left a → Tells right b → w ≡ (not a || b) → Tells whole w
  implication_tells = pair_tells Implies (λ a b. not a || b) of_implication

  pub equivalence_tells : (whole q r left right : Predicate) (a b w : Bool) → whole ≡ Iff q r → left ≡ q → right ≡ r → Tells left a → Tells right b → w ≡ cond a b (not b) → Tells whole w
  equivalence_tells = pair_tells Iff (λ a b. cond a b (not b)) of_equivalence
