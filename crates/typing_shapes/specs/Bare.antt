-- Expressions without their parentheses, as far as `malloc` asks for their form (C11 6.5.1, 5; 7.22.3.4).
use Rattle.std.specs.Prelude.{◌≡◌, ◌<◌, ℕ, zero, suc, true, false, List, [], ◌∷◌, ◌++◌}
use Rattle.c_words.specs.declared.word.Leaf.{Leaf}
use Rattle.c_words.specs.declared.chain.Link.{Link}
use Rattle.c_grammar.specs.declared.expression.Unary.{Unary, size-Unary}
use Rattle.c_grammar.specs.declared.expression.Product.{Product as ProductTree, out-Product, size-Product}
use Rattle.typing_rules.specs.Syntax.{Expression, Paren, SizeOf, SizeOfType}
use Rattle.typing_rules.specs.Expressions.{is_star}
use Rattle.typing_rules.specs.TreesOfExpressions.{unary, product, spelled}
use Rattle.typing_shapes.specs.declared.request.Measured.{Measured}
use Rattle.typing_shapes.specs.declared.request.Measured.TheVariants.{Operand, Named}
use Rattle.typing_shapes.specs.declared.request.Bare.{Bare}
use Rattle.typing_shapes.specs.declared.request.Bare.TheVariants.{Sized, Product, Other, Unlevelled}
use Rattle.typing_shapes.specs.declared.request.Factors.{Factors}
use Rattle.typing_shapes.specs.declared.request.Factors.TheVariants as factors
use Rattle.typing_shapes.specs.Requests.{is_sized, is_request}

-- the expression without its parentheses
unfoldable pub stripped : Expression → Expression
stripped (Paren t x) = stripped x
stripped x = x

-- a `sizeof` in any parentheses, which names the type of this
abbrev pub IsSizeof : Expression → Measured → Type 0
IsSizeof x (Operand u) = (t : Leaf) × (stripped x ≡ SizeOf t (unary u.now))
IsSizeof x (Named n) = (t : Leaf) × (stripped x ≡ SizeOfType t (spelled n.now))

-- the product with its last operator and operand apart
pub record LastApart (p : ProductTree) (before : List (Link Unary)) (last : Link Unary) : Type 0 where
  pub links : (out-Product p).0.rest ≡ before ++ last ∷ []
  pub star : is_star last.operator ≡ true

-- the last operator of the product is `*`
abbrev pub EndsInStar : ProductTree → Type 0
EndsInStar p = (before : List (Link Unary)) × (last : Link Unary) × LastApart p before last

abbrev pub IsBare : Expression → Bare → Type 0
IsBare x (Sized m) = IsSizeof x m
IsBare x (Product p) = (stripped x ≡ product p.now) × EndsInStar p.now
IsBare x Other = (is_sized x ≡ false) × (is_request x ≡ false)
IsBare x Unlevelled = is_sized x ≡ false

-- above the depth of the tree that is there
abbrev pub measured_size : Measured → ℕ
measured_size (Operand u) = suc (size-Unary u.now)
measured_size (Named n) = zero

abbrev pub bare_size : Bare → ℕ
bare_size (Sized m) = measured_size m
bare_size (Product p) = suc (size-Product p.now)
bare_size _ = zero

abbrev pub AreFactors : ProductTree → Factors → Type 0
AreFactors p (factors.Last t m) = (before : List (Link Unary)) × (last : Link Unary) × LastApart p before last × (last.operator ≡ t.now) × IsSizeof (unary last.operand) m
AreFactors p (factors.First m t x) = (last : Link Unary) × LastApart p [] last × (last.operator ≡ t.now) × (last.operand ≡ x.now) × IsSizeof (unary (out-Product p).0.first) m × (is_sized (unary x.now) ≡ false)
AreFactors p factors.Neither = is_request (product p) ≡ false

-- what they name lies less deep than this
abbrev pub AreWithin : ℕ → Factors → Type 0
AreWithin n (factors.Last t m) = measured_size m < n
AreWithin n (factors.First m t x) = (measured_size m < n) × (size-Unary x.now < n)
AreWithin n factors.Neither = Unit {0}
