-- A chain with a last link.
use Rattle.std.proofs.Common.{◌≡◌, false, ◌&&◌, ◌||◌, List, [], ◌∷◌, ◌++◌, length, refl, sym, ap, subst, ◌∙◌, arith}
use Rattle.c_words.specs.declared.chain.Chain.{Chain}
use Rattle.c_words.specs.declared.chain.Link.{Link}
use Rattle.typing_rules.specs.Syntax as syntax
use Rattle.typing_rules.specs.Syntax.{Expression}
use Rattle.typing_rules.specs.Expressions.{is_star}
use Rattle.typing_rules.specs.TreesOfExpressions.{links, chain}
use Rattle.typing_shapes.specs.declared.request.Level.{Level}
use Rattle.typing_shapes.specs.Levels.{IsLevel}
use Rattle.typing_shapes.specs.Requests.{is_sized, is_request}

module _ {T : Type 0} (f : T → Expression) where
  pub links_last : (x : Expression) (ls : List (Link T)) (l : Link T) → links f x (ls ++ l ∷ []) ≡ syntax.Binary (links f x ls) l.operator (f l.operand)
  unfolding links
  links_last x [] l = refl
  links_last x (k ∷ ls) l = links_last (syntax.Binary x k.operator (f k.operand)) ls l

  pub chain_last : (c : Chain T) (ls : List (Link T)) (l : Link T) → c.rest ≡ ls ++ l ∷ [] → chain f c ≡ syntax.Binary (links f (f c.first) ls) l.operator (f l.operand)
  unfolding chain
  chain_last c ls l h = ap (links f (f c.first)) h ∙ links_last (f c.first) ls l

  empty : (ls : List (Link T)) → length ls ≡ 0 → ls ≡ []
  empty [] h = refl
  empty (k ∷ ls) h = absurd (omega (arith, h))

  pub chain_alone : (c : Chain T) → length c.rest ≡ 0 → chain f c ≡ f c.first
  unfolding chain links
  chain_alone c h = ap (links f (f c.first)) (empty c.rest h)

  pub not_sized : (c : Chain T) (ls : List (Link T)) (l : Link T) → c.rest ≡ ls ++ l ∷ [] → is_sized (chain f c) ≡ false
  unfolding is_sized
  not_sized c ls l h = ap is_sized (chain_last c ls l h)

  pub no_request : (c : Chain T) (ls : List (Link T)) (l : Link T) → c.rest ≡ ls ++ l ∷ [] → is_star l.operator ≡ false → is_request (chain f c) ≡ false
  unfolding is_request
  no_request c ls l h s = ap is_request (chain_last c ls l h) ∙ ap (λ b. b && (is_sized (f l.operand) || is_sized (links f (f c.first) ls))) s

pub same_level : (x y z : Expression) (l : Level) → x ≡ y → IsLevel y z l → IsLevel x z l
same_level x y z l e h = subst (λ w. IsLevel w z l) (sym e) h
