-- Expressions without their parentheses.
use Rattle.std.proofs.Common.{◌≡◌, ◌≢◌, Bool, true, false, ◌&&◌, ◌||◌, List, [], ◌∷◌, ◌++◌, refl, sym, ap, subst, ◌∙◌}
use Rattle.std.proofs.lemmas.List.{same_from_push}
use Rattle.c_words.specs.declared.word.Leaf.{Leaf}
use Rattle.c_words.specs.declared.chain.Link.{Link}
use Rattle.c_grammar.specs.declared.expression.Unary.{Unary}
use Rattle.c_grammar.specs.declared.expression.Product.{Product as ProductTree, out-Product}
use Rattle.typing_rules.specs.Syntax.{Expression, Name, Number, Character, Paren, Call, Index, Member, Arrow, Increment, Decrement, Prefix, Cast, SizeOf, SizeOfType, Binary, Choose, Assign}
use Rattle.typing_rules.specs.Expressions.{is_star}
use Rattle.typing_rules.specs.TreesOfExpressions as trees
use Rattle.typing_rules.specs.TreesOfExpressions.{links, chain}
use Rattle.typing_rules.proofs.ExpressionAlternatives.{product-is}
use Rattle.typing_shapes.specs.declared.request.Measured.TheVariants as m
use Rattle.typing_shapes.specs.declared.request.Bare.{Bare}
use Rattle.typing_shapes.specs.declared.request.Bare.TheVariants as b
use Rattle.typing_shapes.specs.Requests.{is_sized, is_request}
use Rattle.typing_shapes.specs.Bare.{stripped, IsBare, EndsInStar, LastApart}
use Rattle.typing_shapes.proofs.LastLinks.{chain_last, not_sized}

pub same_bare : (x y : Expression) (r : Bare) → x ≡ y → IsBare y r → IsBare x r
same_bare x y r e h = subst (λ w. IsBare w r) (sym e) h

pub paren_bare : (t : Leaf) (x : Expression) (r : Bare) → IsBare x r → IsBare (Paren t x) r
unfolding stripped is_sized is_request
paren_bare t x (b.Sized (m.Operand u)) h = h
paren_bare t x (b.Sized (m.Named n)) h = h
paren_bare t x (b.Product p) h = h
paren_bare t x b.Other h = h
paren_bare t x b.Unlevelled h = h

-- ---- what parentheses don't change

pub sized_stripped : (x : Expression) → is_sized x ≡ is_sized (stripped x)
unfolding stripped is_sized
sized_stripped (Name t) = refl
sized_stripped (Number t) = refl
sized_stripped (Character t) = refl
sized_stripped (Paren t x) = sized_stripped x
sized_stripped (Call t xs) = refl
sized_stripped (Index x t i) = refl
sized_stripped (Member x t n) = refl
sized_stripped (Arrow x t n) = refl
sized_stripped (Increment x t) = refl
sized_stripped (Decrement x t) = refl
sized_stripped (Prefix t x) = refl
sized_stripped (Cast t u x) = refl
sized_stripped (SizeOf t x) = refl
sized_stripped (SizeOfType t u) = refl
sized_stripped (Binary x t y) = refl
sized_stripped (Choose x t y z) = refl
sized_stripped (Assign x t y) = refl

-- ---- products

-- a product of two operands or more
pub product_last : (p : ProductTree) (before : List (Link Unary)) (last : Link Unary) → (out-Product p).0.rest ≡ before ++ last ∷ []
    → trees.product p ≡ Binary (links trees.unary (trees.unary (out-Product p).0.first) before) last.operator (trees.unary last.operand)
product_last p before last h = product-is p ∙ chain_last trees.unary (out-Product p).0 before last h

stripped_binary : (x y z : Expression) (t : Leaf) → x ≡ Binary y t z → stripped x ≡ x
unfolding stripped
stripped_binary x y z t h = ap stripped h ∙ sym h

pub product_bare : (p : ProductTree) (before : List (Link Unary)) (last : Link Unary) → (out-Product p).0.rest ≡ before ++ last ∷ [] → is_star last.operator ≡ true
    → (stripped (trees.product p) ≡ trees.product p) × EndsInStar p
product_bare p before last h s = (stripped_binary _ _ _ _ (product_last p before last h), (before, last, record { links = h; star = s }))

pub product_not_sized : (x : Expression) (p : ProductTree) → stripped x ≡ trees.product p → EndsInStar p → is_sized x ≡ false
product_not_sized x p e h = sized_stripped x ∙ (ap is_sized (e ∙ product-is p) ∙ not_sized trees.unary (out-Product p).0 h.0 h.1 h.2.links)

sized_links : (f : Unary → Expression) (x : Expression) (ls : List (Link Unary)) → is_sized x ≡ false → is_sized (links f x ls) ≡ false
unfolding links is_sized
sized_links f x [] h = h
sized_links f x (l ∷ ls) h = sized_links f (Binary x l.operator (f l.operand)) ls refl

more_links : (f : Unary → Expression) (x : Expression) (ls : List (Link Unary)) → ls ≢ [] → is_sized (links f x ls) ≡ false
unfolding links is_sized
more_links f x [] h = absurd (h refl)
more_links f x (l ∷ ls) h = sized_links f (Binary x l.operator (f l.operand)) ls refl

request_last : (x : Expression) (t : Leaf) (y : Expression) → is_request (Binary x t y) ≡ (is_star t && (is_sized y || is_sized x))
unfolding is_request
request_last x t y = refl

neither : (b c d : Bool) → c ≡ false → d ≡ false → (b && (c || d)) ≡ false
neither true c d h k = cc
neither false c d h k = refl

no_request : (p : ProductTree) (before : List (Link Unary)) (last : Link Unary) → (out-Product p).0.rest ≡ before ++ last ∷ []
    → is_sized (trees.unary last.operand) ≡ false → is_sized (links trees.unary (trees.unary (out-Product p).0.first) before) ≡ false → is_request (trees.product p) ≡ false
no_request p before last h k l = ap is_request (product_last p before last h) ∙ (request_last _ _ _ ∙ neither (is_star last.operator) _ _ k l)

pub neither_many : (p : ProductTree) (before : List (Link Unary)) (last : Link Unary) → (out-Product p).0.rest ≡ before ++ last ∷ []
    → is_sized (trees.unary last.operand) ≡ false → before ≢ [] → is_request (trees.product p) ≡ false
neither_many p before last h k l = no_request p before last h k (more_links trees.unary _ before l)

no_links : (f : Unary → Expression) (x : Expression) (ls : List (Link Unary)) → ls ≡ [] → links f x ls ≡ x
unfolding links
no_links f x ls h = ap (links f x) h

pub neither_two : (p : ProductTree) (before : List (Link Unary)) (last : Link Unary) → (out-Product p).0.rest ≡ before ++ last ∷ []
    → is_sized (trees.unary last.operand) ≡ false → before ≡ [] → is_sized (trees.unary (out-Product p).0.first) ≡ false → is_request (trees.product p) ≡ false
neither_two p before last h k l n = no_request p before last h k (ap is_sized (no_links trees.unary _ before l) ∙ n)

-- a product has a last operator once
pub last_apart : (p : ProductTree) (before : List (Link Unary)) (last : Link Unary) → (out-Product p).0.rest ≡ before ++ last ∷ [] → EndsInStar p → LastApart p before last
last_apart p before last h s =
    let same = same_from_push before s.0 last s.1 (sym h ∙ s.2.links) in
    record { links = h; star = ap (λ l. is_star l.operator) same.1 ∙ s.2.star }
