-- What a declarator, an initialiser and a declaration of a tree over a text say.
use Rattle.std.proofs.Common.{◌≡◌, ℕ, zero, suc, ◌+◌, ◌≤◌, max, Bool, true, not, List, [], ◌∷◌, ◌++◌, map, length, Option, Some, None, refl, sym, ap, subst, ◌∙◌, arith, length-append}
use Rattle.std.specs.Prelude.{replicate}
use Rattle.std.proofs.lemmas.List.{length-replicate}
use Rattle.c_words.specs.declared.word.Word.TheVariants as w
use Rattle.c_words.specs.declared.word.Leaf.{Leaf}
use Rattle.c_words.specs.declared.chain.Chain.{Chain}
use Rattle.c_words.specs.declared.chain.Link.{Link}
use Rattle.c_words.specs.Words.{same}
use Rattle.c_words.specs.Written.{Written, ◌then◌, one, one_of, nested, only, optional, links, chain}
use Rattle.c_words.specs.OperatorWords.{is_comma}
use Rattle.c_grammar.specs.declared.types.Star.{Star}
use Rattle.c_grammar.specs.declared.expression.Assign.{Assign}
use Rattle.c_grammar.specs.declared.expression.Choice.{Choice}
use Rattle.c_grammar.specs.declared.declaration.Declarator.{Declarator}
use Rattle.c_grammar.specs.declared.declaration.Direct.{Direct}
use Rattle.c_grammar.specs.declared.declaration.Direct.TheVariants as d
use Rattle.c_grammar.specs.declared.declaration.Init.{Init}
use Rattle.c_grammar.specs.declared.declaration.Init.TheVariants as i
use Rattle.c_grammar.specs.declared.declaration.Declared.{Declared}
use Rattle.c_grammar.specs.declared.declaration.Declared.TheVariants as declared_as
use Rattle.c_grammar.specs.Types.{star, stars_before}
use Rattle.c_grammar.specs.Expressions as expressions
use Rattle.c_grammar.specs.Declarations as written
use Rattle.c_grammar.specs.Declarations.{array_of, sized, is_unsized, all_declared}
use Rattle.c_grammar.proofs.DeclaratorShapes as shapes
use Rattle.c_grammar.proofs.DeclaratorNesting.{stars_deep}
use Rattle.typing_rules.specs.Syntax as syntax
use Rattle.typing_rules.specs.Syntax.{Modifier, ArrayOf, ArrayUnsized, PointerTo, Initialiser, Initialisers, Value, Braces, NoElement, Element}
use Rattle.typing_rules.specs.TreesOfExpressions as said
use Rattle.typing_rules.specs.TreesOfDeclarations as trees
use Rattle.typing_rules.specs.TreesOfDeclarations.{stars_of, operands, elements_after}
use Rattle.typing_rules.proofs.DeclarationAlternatives as says
use Rattle.typing_laws.specs.ParsedSyntax.{IsName, IfThere, InitialiserParsed, InitialisersParsed, DeclaredParsed, AllDeclaredParsed}
use Rattle.typing_laws.specs.ShallowSyntax.{nest, turns, InitialiserShallow, InitialisersShallow, DeclaredShallow, AllDeclaredShallow, initialiser_turns, initialisers_turns, there_turns, declared_turns}
use Rattle.reading_laws.proofs.ReadLeaves.{IsRead}
use Rattle.reading_laws.proofs.ReadParts.{Reads, before, after, inner, deeper, leaf, worded}
use Rattle.reading_laws.proofs.ReadExpressions.{four, Good, expressions_good}

-- what holds of what is said, where it holds of what is written
pub carried : {A : Type 0} {text : List ℕ} {n : ℕ} (P : A → Type 0) {b d : Written} {x y : A} → b ≡ d → x ≡ y → (Reads text n d → P y) → Reads text n b → P x
carried {text = text} {n = n} P p q f h = subst P (sym q) (f (subst (Reads text n) p h))

pub name_read : {text : List ℕ} {n : ℕ} (t : Leaf) → Reads text n (one w.Name t) → IsName text t
name_read t h = (leaf (same w.Name) t h).name (worded (same w.Name) t h)

-- ---- declarators

pub record GoodDeclarator (text : List ℕ) (n : ℕ) (x : syntax.Declarator) : Type 0 where
  pub named : IsName text x.name
  pub counted : length x.modifiers ≤ n

pub stars_inner : {text : List ℕ} {n : ℕ} (xs : List Star) (a : Written) → Reads text n (stars_before xs a) → Reads text a.nesting a
unfolding stars_before
stars_inner {text = text} {n = n} [] a h = record { leaves = h.leaves; levelled = h.levelled; nesting = omega arith }
stars_inner {text = text} {n = n} (x ∷ more) a h = stars_inner {text = text} {n = (stars_before more a).nesting} more a (inner (stars_before more a) (after (star x) _ h))

pub stars_count : {text : List ℕ} {n : ℕ} (xs : List Star) (a : Written) → Reads text n (stars_before xs a) → length xs + a.nesting ≤ n
stars_count {n = n} xs a h = subst (λ k. k ≤ n) (stars_deep xs a) h.nesting

pub more_stars : (ms : List Modifier) (xs : List Star) → length (ms ++ stars_of xs) ≡ length ms + length xs
more_stars ms xs = length-append ms (stars_of xs) ∙ ap (λ n. length ms + n) (length-replicate (length xs) PointerTo)

record DeclaratorsGood (text : List ℕ) (n : ℕ) : Type 0 where
  declarator : (x : Declarator) → Reads text n (written.declarator x) → GoodDeclarator text n (trees.declarator x)
  direct : (x : Direct) → Reads text n (written.direct x) → GoodDeclarator text n (trees.direct x)

module _ (text : List ℕ) (n : ℕ) (less : (m : ℕ) → suc m ≤ n → DeclaratorsGood text m) where
  abbrev G : syntax.Declarator → Type 0
  G x = GoodDeclarator text n x

  name_good : (t : Leaf) → Reads text n (one w.Name t) → G (record { name = t; modifiers = [] })
  name_good t h = record { named = name_read t h; counted = omega arith }

  unsized_good : (t : Leaf) → Reads text n (nested (one w.Name t)) → G (record { name = t; modifiers = ArrayUnsized ∷ [] })
  unsized_good t h = record { named = name_read t (inner (one w.Name t) h); counted = let l : suc (one w.Name t).nesting ≤ n = deeper (one w.Name t) h in omega arith }

  paren_good : (x : Declarator) → Reads text n (nested (written.declarator x)) → G (trees.declarator x)
  paren_good x h =
      let l : suc (written.declarator x).nesting ≤ n = deeper (written.declarator x) h in
      let k : GoodDeclarator text (written.declarator x).nesting (trees.declarator x) = (less (written.declarator x).nesting l).declarator x (inner (written.declarator x) h) in
      record { named = k.named; counted = let c : length (trees.declarator x).modifiers ≤ (written.declarator x).nesting = k.counted in omega arith }

  array_good : (x : Direct) (s : syntax.Expression) → Reads text n (nested (written.direct x)) → G (record { name = (trees.direct x).name; modifiers = (trees.direct x).modifiers ++ (ArrayOf s ∷ []) })
  array_good x s h =
      let l : suc (written.direct x).nesting ≤ n = deeper (written.direct x) h in
      let k : GoodDeclarator text (written.direct x).nesting (trees.direct x) = (less (written.direct x).nesting l).direct x (inner (written.direct x) h) in
      record { named = k.named; counted = let c : length (trees.direct x).modifiers ≤ (written.direct x).nesting = k.counted in omega (arith, length-append (trees.direct x).modifiers (ArrayOf s ∷ [])) }

  direct_good : (x : Direct) → Reads text n (written.direct x) → G (trees.direct x)
  unfolding array_of
  direct_good =
      shapes.direct_cases (λ x. Reads text n (written.direct x) → G (trees.direct x))
      (λ t. carried G (shapes.direct-Name t) (says.direct-Name t) (name_good t))
      (λ t l r. carried G (shapes.direct-Unsized t l r) (says.direct-Unsized t l r) (λ h. unsized_good t (before (nested (one w.Name t)) _ h)))
      (λ l x r. carried G (shapes.direct-Paren l x r) (says.direct-Paren l x r) (λ h. paren_good x (before (nested (written.declarator x)) _ (after (one w.LeftParen l) _ h))))
      (λ x l s r. carried G (shapes.direct-Array x l s r) (says.direct-Array x l s r) (λ h. array_good x (said.choice s) (before (nested (written.direct x)) _ h)))

declarator_good : (text : List ℕ) (n : ℕ) (less : (m : ℕ) → suc m ≤ n → DeclaratorsGood text m) (x : Declarator) → Reads text n (written.declarator x) → GoodDeclarator text n (trees.declarator x)
declarator_good text n less x =
    carried (GoodDeclarator text n) (shapes.declarator-is x) (says.declarator-is x) (λ h.
    let c : length x.stars + (written.direct x.direct).nesting ≤ n = stars_count x.stars (written.direct x.direct) h in
    let k : GoodDeclarator text (written.direct x.direct).nesting (trees.direct x.direct) =
    direct_good text (written.direct x.direct).nesting (λ m l. less m (omega arith)) x.direct (stars_inner x.stars (written.direct x.direct) h) in
    record {
      named = k.named;
      counted = let b : length (trees.direct x.direct).modifiers ≤ (written.direct x.direct).nesting = k.counted in omega (arith, more_stars (trees.direct x.direct).modifiers x.stars);
    })

declarators_below : (text : List ℕ) (k n : ℕ) → suc n ≤ k → DeclaratorsGood text n
declarators_below text zero n l = absurd (omega arith)
declarators_below text (suc k) n l = record {
  declarator = declarator_good text n (λ m i. declarators_below text k m (omega arith));
  direct = direct_good text n (λ m i. declarators_below text k m (omega arith));
}

pub declarator_is_good : (text : List ℕ) (n : ℕ) (x : Declarator) → Reads text n (written.declarator x) → GoodDeclarator text n (trees.declarator x)
declarator_is_good text n = (declarators_below text (suc n) n (omega arith)).declarator

-- ---- initialisers

pub record GoodInit (text : List ℕ) (n : ℕ) (x : Initialiser) : Type 0 where
  pub parsed : InitialiserParsed text x
  pub shallow : n ≤ 64 → InitialiserShallow x
  pub turned : initialiser_turns x ≤ four n + 5

record AreGoodInits (text : List ℕ) (n : ℕ) (xs : Initialisers) : Type 0 where
  parsed : InitialisersParsed text xs
  shallow : n ≤ 64 → InitialisersShallow xs
  turned : initialisers_turns xs ≤ four n + 5

module _ {A : Type 0} (text : List ℕ) (n : ℕ) (f : A → Written) (g : A → Initialiser) (parts : (x : A) → Reads text n (f x) → GoodInit text n (g x)) where
  one_more : (x : Initialiser) (xs : Initialisers) → GoodInit text n x → AreGoodInits text n xs → AreGoodInits text n (Element x xs)
  one_more x xs h i = record {
    parsed = (h.parsed, i.parsed);
    shallow = λ l. (h.shallow l, i.shallow l);
    turned = let a : initialiser_turns x ≤ four n + 5 = h.turned in let b : initialisers_turns xs ≤ four n + 5 = i.turned in omega arith;
  }

  elements_good : (ls : List (Link A)) → Reads text n (links is_comma f ls) → AreGoodInits text n (elements_after g ls)
  unfolding links elements_after
  elements_good [] r = record { parsed = tt; shallow = λ l. tt; turned = omega arith }
  elements_good (l ∷ ls) r = one_more (g l.operand) (elements_after g ls) (parts l.operand (before (f l.operand) _ (after (one_of is_comma l.operator) _ r))) (elements_good ls (after (f l.operand) _ (after (one_of is_comma l.operator) _ r)))

  all_elements_good : (x : Chain A) → Reads text n (chain is_comma f x) → AreGoodInits text n (Element (g x.first) (elements_after g x.rest))
  unfolding chain
  all_elements_good x r = one_more (g x.first) (elements_after g x.rest) (parts x.first (before (f x.first) _ r)) (elements_good x.rest (after (f x.first) _ r))

abbrev InitsGood : List ℕ → ℕ → Type 0
InitsGood text n = (x : Init) → Reads text n (written.init x) → GoodInit text n (trees.init x)

module _ (text : List ℕ) (n : ℕ) (less : (m : ℕ) → suc m ≤ n → InitsGood text m) where
  value_good : (x : syntax.Expression) → Good text n 5 x → GoodInit text n (Value x)
  value_good x h = record { parsed = h.parsed; shallow = λ l. let a : nest x ≤ n = h.nested in omega arith; turned = h.turned }

  braces_good : (o : Leaf) (x : Initialiser) (xs : Initialisers) (m : ℕ) → suc m ≤ n → AreGoodInits text m (Element x xs) → GoodInit text n (Braces o (Element x xs))
  braces_good o x xs m l h = record {
    parsed = (tt, h.parsed);
    shallow = λ k. h.shallow (omega arith);
    turned = let a : initialisers_turns (Element x xs) ≤ four m + 5 = h.turned in omega arith;
  }

  init_good : InitsGood text n
  init_good =
      shapes.init_cases (λ x. Reads text n (written.init x) → GoodInit text n (trees.init x))
      (λ x. carried (GoodInit text n) (shapes.init-Value x) (says.init-Value x) (λ h. value_good (said.assign x) ((expressions_good text n).assign x h)))
      (λ o x last r. carried (GoodInit text n) (shapes.init-Braces o x last r) (says.init-Braces o x last r) (λ h.
      let b : Written = chain is_comma written.init x then optional (one w.Comma) last in
      let k : Reads text n (nested b) = before (nested b) _ (after (one w.LeftBrace o) _ h) in
      let l : suc b.nesting ≤ n = deeper b k in
      braces_good o (trees.init x.first) (elements_after trees.init x.rest) b.nesting l (all_elements_good text b.nesting written.init trees.init (less b.nesting l) x (before (chain is_comma written.init x) _ (inner b k)))))

inits_below : (text : List ℕ) (k n : ℕ) → suc n ≤ k → InitsGood text n
inits_below text zero n l = absurd (omega arith)
inits_below text (suc k) n l = init_good text n (λ m i. inits_below text k m (omega arith))

-- ---- declarations

pub record GoodDeclared (text : List ℕ) (n : ℕ) (x : syntax.Declared) : Type 0 where
  pub parsed : DeclaredParsed text x
  pub shallow : n ≤ 64 → DeclaredShallow x
  pub turned : there_turns x.initialiser ≤ four n + 5

pub record AllGoodDeclared (text : List ℕ) (n : ℕ) (xs : List syntax.Declared) : Type 0 where
  pub parsed : AllDeclaredParsed text xs
  pub shallow : n ≤ 64 → AllDeclaredShallow xs
  pub turned : declared_turns xs ≤ four n + 5

within_limit : (a n : ℕ) → a ≤ n → n ≤ 64 → a ≤ 64
within_limit a n h k = omega arith

module _ (text : List ℕ) (n : ℕ) where
  declared_good : (x : Declared) → Reads text n (written.declared x) → GoodDeclared text n (trees.declared x)
  unfolding written.declared trees.declared
  declared_good (declared_as.Plain x) h =
      let k : GoodDeclarator text n (trees.declarator x) = declarator_is_good text n x (before (written.declarator x) _ h) in
      record { parsed = (k.named, tt); shallow = λ l. (within_limit (length (trees.declarator x).modifiers) n k.counted l, tt); turned = omega arith }
  declared_good (declared_as.Initialised x t y) h =
      let k : GoodDeclarator text n (trees.declarator x) = declarator_is_good text n x (before (written.declarator x) _ h) in
      let v : GoodInit text n (trees.init y) = inits_below text (suc n) n (omega arith) y (after (one w.Assign t) _ (after (written.declarator x) _ h)) in
      record {
        parsed = (k.named, v.parsed);
        shallow = λ l. (within_limit (length (trees.declarator x).modifiers) n k.counted l, v.shallow l);
        turned = let a : initialiser_turns (trees.init y) ≤ four n + 5 = v.turned in omega arith;
      }

  declared_more : (x : syntax.Declared) (xs : List syntax.Declared) → GoodDeclared text n x → AllGoodDeclared text n xs → AllGoodDeclared text n (x ∷ xs)
  declared_more x xs h i = record {
    parsed = (h.parsed, i.parsed);
    shallow = λ l. (h.shallow l, i.shallow l);
    turned = let a : there_turns x.initialiser ≤ four n + 5 = h.turned in let b : declared_turns xs ≤ four n + 5 = i.turned in omega arith;
  }

  links_declared : (ls : List (Link Declared)) → Reads text n (links is_comma written.declared ls) → AllGoodDeclared text n (map trees.declared (map (λ l. l.operand) ls))
  unfolding links
  links_declared [] r = record { parsed = tt; shallow = λ l. tt; turned = omega arith }
  links_declared (l ∷ ls) r =
      declared_more (trees.declared l.operand) (map trees.declared (map (λ l. l.operand) ls)) (declared_good l.operand (before (written.declared l.operand) _ (after (one_of is_comma l.operator) _ r)))
      (links_declared ls (after (written.declared l.operand) _ (after (one_of is_comma l.operator) _ r)))

  pub all_declared_good : (x : Chain Declared) → Reads text n (all_declared x) → AllGoodDeclared text n (map trees.declared (operands x))
  unfolding chain operands
  all_declared_good x r = declared_more (trees.declared x.first) (map trees.declared (map (λ l. l.operand) x.rest)) (declared_good x.first (before (written.declared x.first) _ r)) (links_declared x.rest (after (written.declared x.first) _ r))
