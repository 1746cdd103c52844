-- A chain from the left goes on link by link.
use Rattle.std.proofs.Common.{◌≡◌, List, [], ◌∷◌, Ok, Err, refl, ◌∙◌}
use Rattle.c_words.specs.declared.word.Leaf.{Leaf}
use Rattle.c_words.specs.declared.chain.Chain.{Chain}
use Rattle.c_words.specs.declared.chain.Link.{Link}
use Rattle.typing_rules.specs.declared.operand.Operand.{Operand}
use Rattle.typing_rules.specs.Checked.{Checked, ◌>>=◌}
use Rattle.typing_rules.specs.Syntax as syntax
use Rattle.typing_rules.specs.Syntax.{Expression}
use Rattle.typing_rules.specs.TreesOfExpressions.{links, chain}
use Rattle.typing_rules.specs.Operands.{value}
use Rattle.typing_rules.specs.Environment.{Environment}
use Rattle.typing_rules.specs.Expressions.{operand}
use Rattle.typing_rules.specs.Chains.{joined, linked}

bind-ok : {A : Type 0} (m : Checked A) → m ≡ (m >>= (λ a. Ok a))
bind-ok (Ok a) = refl
bind-ok (Err e) = refl

-- the binds of one link, from the inside
middle : {V A C D : Type 0} (p : Checked V) (n : Checked A) (q : V → A → Checked C) (h : C → Checked D)
    → ((p >>= (λ v. n >>= (λ b. q v b))) >>= h) ≡ (p >>= (λ v. n >>= (λ b. q v b >>= h)))
middle (Ok v) (Ok b) q h = refl
middle (Ok v) (Err e) q h = refl
middle (Err e) n q h = refl

outer : {A V B C D : Type 0} (m : Checked A) (p : A → Checked V) (n : Checked B) (q : V → B → Checked C) (h : C → Checked D)
    → ((m >>= (λ a. p a >>= (λ v. n >>= (λ b. q v b)))) >>= h) ≡ (m >>= (λ a. p a >>= (λ v. n >>= (λ b. q v b >>= h))))
outer (Ok a) p n q h = middle (p a) n q h
outer (Err e) p n q h = refl

step : (g : Environment) (x : Expression) (t : Leaf) (y : Expression) (h : Operand → Checked Operand)
    → (operand g (syntax.Binary x t y) >>= h) ≡ (operand g x >>= (λ a. value a >>= (λ v. operand g y >>= (λ b. joined g t v b >>= h))))
unfolding operand joined
step g x t y h = outer (operand g x) value (operand g y) (joined g t) h

cons : {A : Type 0} (g : Environment) (f : A → Expression) (l : Link A) (ls : List (Link A)) (a : Operand)
    → linked g f a (l ∷ ls) ≡ (value a >>= (λ v. operand g (f l.operand) >>= (λ b. joined g l.operator v b >>= (λ c. linked g f c ls))))
unfolding linked
cons g f l ls a = refl

pub links-linked : {A : Type 0} (g : Environment) (f : A → Expression) (x : Expression) (ls : List (Link A)) → operand g (links f x ls) ≡ (operand g x >>= (λ a. linked g f a ls))
unfolding links linked
links-linked g f x [] = bind-ok (operand g x)
links-linked g f x (l ∷ ls) = links-linked g f (syntax.Binary x l.operator (f l.operand)) ls ∙ step g x l.operator (f l.operand) (λ a. linked g f a ls)

pub chain-linked : {A : Type 0} (g : Environment) (f : A → Expression) (c : Chain A) → operand g (chain f c) ≡ (operand g (f c.first) >>= (λ a. linked g f a c.rest))
unfolding chain
chain-linked g f c = links-linked g f (f c.first) c.rest
