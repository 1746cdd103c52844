-- Running a form makes what the tree stands for.
use Rattle.std.specs.Prelude.{◌≡◌, ℕ, [], ◌∷◌, Ok}
use Rattle.acsl_grammar.specs.Trees.{Term, Predicate, inside_at}
use Rattle.acsl_postfix.specs.Forms.{term, predicate, forms_at}
use Rattle.acsl_rules.specs.Checked.{◌>>=◌}
use Rattle.acsl_rules.specs.Rules.{Known}
use Rattle.acsl_rules.specs.Meanings.{meaning_of_predicate, meaning_of_term}
use Rattle.acsl_steps.specs.Machine.{run, state, nothing_made}

pub record FormsMakeMeanings : Type 0 where
  pub terms : (s : Known) (n : ℕ) (t : Term (inside_at n)) → run s (term (forms_at n) t []) nothing_made ≡ (meaning_of_term s n t >>= (λ a. Ok (state (a ∷ []) [] [])))
  pub predicates : (s : Known) (n : ℕ) (p : Predicate (inside_at n)) → run s (predicate (forms_at n) p []) nothing_made ≡ (meaning_of_predicate s n p >>= (λ r. Ok (state [] [] (r ∷ []))))
