-- Arguments, one after another.
use Rattle.std.proofs.Common.{◌≡◌, ℕ, ◌+◌, ◌<◌, ◌≤◌, List, [], ◌∷◌, ◌++◌, length, get_or, drop, Ok, Err, refl, sym, ap, ◌∙◌, append_assoc, append-nil}
use Rattle.std.proofs.lemmas.List.{drop_more, drop_all}
use Rattle.c_words.specs.declared.chain.Chain.{Chain}
use Rattle.c_words.specs.declared.chain.Link.{Link}
use Rattle.c_grammar.specs.declared.expression.Assign.{Assign}
use Rattle.step_meaning.specs.declared.value.CType.{CType}
use Rattle.step_meaning.specs.declared.expr.Expr.{Expr}
use Rattle.typing_rules.specs.declared.fault.TypeFault.{TypeFault}
use Rattle.typing_rules.specs.declared.operand.Operand.{Operand}
use Rattle.typing_rules.specs.Checked.{Checked, ◌>>=◌}
use Rattle.typing_rules.specs.Syntax.{Expression, Expressions, NoMore, Then}
use Rattle.typing_rules.specs.TreesOfExpressions as trees
use Rattle.typing_rules.specs.TreesOfExpressions.{listed, listed_after}
use Rattle.typing_rules.specs.Environment.{Environment}
use Rattle.typing_rules.specs.Operands.{value}
use Rattle.typing_rules.specs.Expressions.{operand, arguments, fitted_argument, tail}
use Rattle.typing_steps.specs.Steps.{argument}
use Rattle.typing_expressions.specs.Parts.{argument_of, arguments_of}

-- three steps, and what comes after them
three : {A B C D : Type 0} (m : Checked A) (f : A → Checked B) (g : B → Checked C) (h : C → Checked D)
    → (m >>= (λ a. f a >>= (λ b. g b >>= h))) ≡ ((m >>= (λ a. f a >>= g)) >>= h)
three (Err e) f g h = refl
three (Ok a) f g h = two (f a)
  where
    two : (n : Checked _) → (n >>= (λ b. g b >>= h)) ≡ ((n >>= g) >>= h)
    two (Ok b) = refl
    two (Err e) = refl

abbrev pub joined_to : List Expr → List Expr → Checked (List Expr)
joined_to done ys = Ok (done ++ ys)

module _ (g : Environment) (whole : Checked (List Expr)) (x : Expression) (xs : Expressions) (ts : List CType) (done : List Expr) where
  step : arguments g (Then x xs) ts ≡ (argument g x ts >>= (λ y. arguments g xs (tail g ts) >>= (λ ys. Ok (y ∷ ys))))
  unfolding arguments
  step = three (operand g x) value (fitted_argument g ts) (λ y. arguments g xs (tail g ts) >>= (λ ys. Ok (y ∷ ys)))

  more : (y : Expr) (m : Checked (List Expr)) → ((m >>= (λ ys. Ok (y ∷ ys))) >>= joined_to done) ≡ (m >>= joined_to (done ++ y ∷ []))
  more y (Ok ys) = ap Ok (sym (append_assoc done (y ∷ []) ys))
  more y (Err e) = refl

  pub argument_made : whole ≡ (arguments g (Then x xs) ts >>= joined_to done) → (y : Expr) → argument g x ts ≡ Ok y → whole ≡ (arguments g xs (tail g ts) >>= joined_to (done ++ y ∷ []))
  argument_made h y e =
      h ∙ (ap (λ m. m >>= joined_to done) (step ∙ ap (λ m. m >>= (λ y. arguments g xs (tail g ts) >>= (λ ys. Ok (y ∷ ys)))) e) ∙ more y (arguments g xs (tail g ts)))

  pub argument_failed : whole ≡ (arguments g (Then x xs) ts >>= joined_to done) → (e : TypeFault) → argument g x ts ≡ Err e → whole ≡ Err e
  argument_failed h e k =
      h ∙ ap (λ m. m >>= joined_to done) (step ∙ ap (λ m. m >>= (λ y. arguments g xs (tail g ts) >>= (λ ys. Ok (y ∷ ys)))) k)

pub all_made : (g : Environment) (whole : Checked (List Expr)) (ts : List CType) (done : List Expr) → whole ≡ (arguments g NoMore ts >>= joined_to done) → whole ≡ Ok done
unfolding arguments
all_made g whole ts done h = h ∙ ap Ok (append-nil done)

-- ---- in a loop over the links

begun : (m : Checked (List Expr)) → m ≡ (m >>= joined_to [])
begun (Ok ys) = refl
begun (Err e) = refl

listed_is : (c : Chain Assign) → arguments_of c ≡ Then (trees.assign c.first) (listed_after trees.assign c.rest)
unfolding listed
listed_is c = refl

after_is : (l : Link Assign) (ls : List (Link Assign)) → listed_after trees.assign (l ∷ ls) ≡ Then (trees.assign l.operand) (listed_after trees.assign ls)
unfolding listed_after
after_is l ls = refl

argument_is : (g : Environment) (x : Expression) (ts : List CType) (a : Operand) (r : Checked Expr) → operand g x ≡ Ok a → argument_of g ts a ≡ r → argument g x ts ≡ r
argument_is g x ts a r h k = ap (λ m. m >>= (λ a. value a >>= fitted_argument g ts)) h ∙ k

operand_failed : (g : Environment) (x : Expression) (ts : List CType) (e : TypeFault) → operand g x ≡ Err e → argument g x ts ≡ Err e
operand_failed g x ts e h = ap (λ m. m >>= (λ a. value a >>= fitted_argument g ts)) h

module _ (g : Environment) (c : Chain Assign) (ts : List CType) where
  start : arguments g (arguments_of c) ts ≡ (arguments g (Then (trees.assign c.first) (listed_after trees.assign c.rest)) ts >>= joined_to [])
  start = ap (λ xs. arguments g xs ts) (listed_is c) ∙ begun (arguments g (Then (trees.assign c.first) (listed_after trees.assign c.rest)) ts)

  pub first_made : (ls : List (Link Assign)) (a : Operand) (y : Expr) (us : List CType) (done : List Expr) → ls ≡ c.rest → operand g (trees.assign c.first) ≡ Ok a → argument_of g ts a ≡ Ok y → us ≡ tail g ts → done ≡ y ∷ []
      → arguments g (arguments_of c) ts ≡ (arguments g (listed_after trees.assign ls) us >>= joined_to done)
  first_made ls a y us done p h k q r =
      argument_made g (arguments g (arguments_of c) ts) (trees.assign c.first) (listed_after trees.assign c.rest) ts [] start y (argument_is g (trees.assign c.first) ts a (Ok y) h k)
      ∙ (ap (λ zs. arguments g (listed_after trees.assign zs) (tail g ts) >>= joined_to (y ∷ [])) (sym p)
      ∙ (ap (λ zs. arguments g (listed_after trees.assign ls) zs >>= joined_to (y ∷ [])) (sym q)
      ∙ ap (λ zs. arguments g (listed_after trees.assign ls) us >>= joined_to zs) (sym r)))

  pub first_operand_failed : (e : TypeFault) → operand g (trees.assign c.first) ≡ Err e → arguments g (arguments_of c) ts ≡ Err e
  first_operand_failed e h =
      argument_failed g (arguments g (arguments_of c) ts) (trees.assign c.first) (listed_after trees.assign c.rest) ts [] start e (operand_failed g (trees.assign c.first) ts e h)

  pub first_failed : (a : Operand) (e : TypeFault) → operand g (trees.assign c.first) ≡ Ok a → argument_of g ts a ≡ Err e → arguments g (arguments_of c) ts ≡ Err e
  first_failed a e h k =
      argument_failed g (arguments g (arguments_of c) ts) (trees.assign c.first) (listed_after trees.assign c.rest) ts [] start e (argument_is g (trees.assign c.first) ts a (Err e) h k)

module _ (g : Environment) (whole : Checked (List Expr)) (ls : List (Link Assign)) (i : ℕ) (ts : List CType) (done : List Expr)
    (h : whole ≡ (arguments g (listed_after trees.assign (drop i ls)) ts >>= joined_to done)) where
  module _ (l : Link Assign) (below : i < length ls) (at : l ≡ get_or ls i l) where
    next : whole ≡ (arguments g (Then (trees.assign l.operand) (listed_after trees.assign (drop (i + 1) ls))) ts >>= joined_to done)
    next =
        h ∙ (ap (λ zs. arguments g (listed_after trees.assign zs) ts >>= joined_to done) (drop_more ls i l below)
        ∙ (ap (λ z. arguments g (listed_after trees.assign (z ∷ drop (i + 1) ls)) ts >>= joined_to done) (sym at)
        ∙ ap (λ zs. arguments g zs ts >>= joined_to done) (after_is l (drop (i + 1) ls))))

    pub next_made : (a : Operand) (y : Expr) (us : List CType) (more : List Expr) → operand g (trees.assign l.operand) ≡ Ok a → argument_of g ts a ≡ Ok y → us ≡ tail g ts → more ≡ done ++ y ∷ []
        → whole ≡ (arguments g (listed_after trees.assign (drop (i + 1) ls)) us >>= joined_to more)
    next_made a y us more j k q r =
        argument_made g whole (trees.assign l.operand) (listed_after trees.assign (drop (i + 1) ls)) ts done next y (argument_is g (trees.assign l.operand) ts a (Ok y) j k)
        ∙ (ap (λ zs. arguments g (listed_after trees.assign (drop (i + 1) ls)) zs >>= joined_to (done ++ y ∷ [])) (sym q)
        ∙ ap (λ zs. arguments g (listed_after trees.assign (drop (i + 1) ls)) us >>= joined_to zs) (sym r))

    pub next_operand_failed : (e : TypeFault) → operand g (trees.assign l.operand) ≡ Err e → whole ≡ Err e
    next_operand_failed e j = argument_failed g whole (trees.assign l.operand) (listed_after trees.assign (drop (i + 1) ls)) ts done next e (operand_failed g (trees.assign l.operand) ts e j)

    pub next_failed : (a : Operand) (e : TypeFault) → operand g (trees.assign l.operand) ≡ Ok a → argument_of g ts a ≡ Err e → whole ≡ Err e
    next_failed a e j k = argument_failed g whole (trees.assign l.operand) (listed_after trees.assign (drop (i + 1) ls)) ts done next e (argument_is g (trees.assign l.operand) ts a (Err e) j k)

  none_after : listed_after trees.assign [] ≡ NoMore
  unfolding listed_after
  none_after = refl

  pub last_made : length ls ≤ i → whole ≡ Ok done
  last_made past =
      all_made g whole ts done (h ∙ (ap (λ zs. arguments g (listed_after trees.assign zs) ts >>= joined_to done) (drop_all i ls past)
      ∙ ap (λ zs. arguments g zs ts >>= joined_to done) none_after))
