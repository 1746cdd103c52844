-- Calls of `malloc` and `free` (C11 7.22.3.3, 7.22.3.4), by their arguments.
use Rattle.std.proofs.Common.{◌≡◌, ◌≢◌, List, [], ◌∷◌, Option, Some, None, Ok, Err, refl, sym, ap, ◌∙◌}
use Rattle.c_words.specs.declared.word.Leaf.{Leaf}
use Rattle.c_words.specs.declared.chain.Chain.{Chain}
use Rattle.c_words.specs.declared.chain.Link.{Link}
use Rattle.c_grammar.specs.declared.expression.Assign.{Assign}
use Rattle.typing_rules.specs.declared.fault.TypeFault.{TypeFault}
use Rattle.typing_rules.specs.declared.fault.TypeFault.TheVariants.{Mismatch, ArgumentCount}
use Rattle.typing_rules.specs.Checked.{Checked, ◌>>=◌}
use Rattle.c_grammar.specs.declared.expression.Primary.TheVariants as p
use Rattle.typing_rules.proofs.ExpressionAlternatives.{primary-Call-none, primary-Call-some}
use Rattle.typing_rules.specs.Syntax.{Expression, Expressions, NoMore, Then, Call}
use Rattle.typing_rules.specs.TreesOfExpressions as trees
use Rattle.typing_rules.specs.TreesOfExpressions.{listed, listed_after}
use Rattle.typing_rules.specs.Environment.{Environment, place_of}
use Rattle.typing_rules.specs.Operands.{value}
use Rattle.typing_rules.specs.Allocation.{Request, allocated, freed}
use Rattle.typing_rules.specs.Expressions.{operand, arguments, requested, only_value, only_request}
use Rattle.typing_steps.specs.Steps.{asked, malloc_of, free_of}

-- ---- lists of arguments

pub listed_none : listed trees.assign None ≡ NoMore
unfolding listed
listed_none = refl

-- a call with its list of arguments, where there is one
pub call_is : (t o : Leaf) (l : Option (Chain Assign)) (c : Leaf) → trees.primary (p.Call t o l c) ≡ Call t (listed trees.assign l)
call_is t o None c = primary-Call-none t o c ∙ ap (Call t) (sym listed_none)
call_is t o (Some x) c = primary-Call-some t o x c

listed_one : (c : Chain Assign) → c.rest ≡ [] → listed trees.assign (Some c) ≡ Then (trees.assign c.first) NoMore
unfolding listed listed_after
listed_one c h = ap (λ ls. Then (trees.assign c.first) (listed_after trees.assign ls)) h

abbrev IsNotOne : Environment → Expressions → Type 0
IsNotOne g xs = (only_request g xs ≡ None) × (only_value g xs ≡ None)

two_or_more : (g : Environment) (x : Expression) (ls : List (Link Assign)) → ls ≢ [] → IsNotOne g (Then x (listed_after trees.assign ls))
unfolding listed_after only_request only_value
two_or_more g x [] h = absurd (h refl)
two_or_more g x (l ∷ ls) h = (refl, refl)

several : (g : Environment) (c : Chain Assign) → c.rest ≢ [] → IsNotOne g (listed trees.assign (Some c))
unfolding listed
several g c h = two_or_more g (trees.assign c.first) c.rest h

-- ---- what is asked for

asked_some : (o : Option (Checked Request)) (q : Request) → asked o ≡ Ok (Some q) → o ≡ Some (Ok q)
asked_some None q h = cc
asked_some (Some (Ok p)) q h = cc
asked_some (Some (Err e)) q h = cc

asked_none : (o : Option (Checked Request)) → asked o ≡ Ok None → o ≡ None
asked_none None h = refl
asked_none (Some (Ok p)) h = cc
asked_none (Some (Err e)) h = cc

asked_err : (o : Option (Checked Request)) (e : TypeFault) → asked o ≡ Err e → o ≡ Some (Err e)
asked_err None e h = cc
asked_err (Some (Ok p)) e h = cc
asked_err (Some (Err f)) e h = cc

-- ---- calls

module _ (g : Environment) (t : Leaf) (c : Chain Assign) where
  pub malloc_several : c.rest ≢ [] → malloc_of g t (listed trees.assign (Some c)) ≡ (arguments g (listed trees.assign (Some c)) [] >>= (λ xs. Err (ArgumentCount (place_of t))))
  malloc_several h = let none = several g c h in rw (none.0, none.1) refl

  pub free_several : c.rest ≢ [] → free_of g t (listed trees.assign (Some c)) ≡ (arguments g (listed trees.assign (Some c)) [] >>= (λ xs. Err (ArgumentCount (place_of t))))
  free_several h = let none = several g c h in rw (none.1) refl

module _ (g : Environment) (t : Leaf) (x : Expression) where
  asked_one : (q : Request) → requested g x ≡ Some (Ok q) → malloc_of g t (Then x NoMore) ≡ allocated g (place_of t) q
  unfolding only_request
  asked_one q h = rw h refl

  failed_one : (e : TypeFault) → requested g x ≡ Some (Err e) → malloc_of g t (Then x NoMore) ≡ Err e
  unfolding only_request
  failed_one e h = rw h refl

  valued_one : requested g x ≡ None → malloc_of g t (Then x NoMore) ≡ ((operand g x >>= value) >>= (λ v. Err (Mismatch (place_of t))))
  unfolding only_request only_value
  valued_one h = rw h refl

  freed_one : free_of g t (Then x NoMore) ≡ ((operand g x >>= value) >>= freed (place_of t))
  unfolding only_value
  freed_one = refl

module _ (g : Environment) (t : Leaf) (c : Chain Assign) (alone : c.rest ≡ []) where
  pub malloc_asked : (q : Request) → asked (requested g (trees.assign c.first)) ≡ Ok (Some q) → malloc_of g t (listed trees.assign (Some c)) ≡ allocated g (place_of t) q
  malloc_asked q h = ap (malloc_of g t) (listed_one c alone) ∙ asked_one g t (trees.assign c.first) q (asked_some (requested g (trees.assign c.first)) q h)

  pub malloc_failed : (e : TypeFault) → asked (requested g (trees.assign c.first)) ≡ Err e → malloc_of g t (listed trees.assign (Some c)) ≡ Err e
  malloc_failed e h = ap (malloc_of g t) (listed_one c alone) ∙ failed_one g t (trees.assign c.first) e (asked_err (requested g (trees.assign c.first)) e h)

  pub malloc_valued : asked (requested g (trees.assign c.first)) ≡ Ok None → malloc_of g t (listed trees.assign (Some c)) ≡ ((operand g (trees.assign c.first) >>= value) >>= (λ v. Err (Mismatch (place_of t))))
  malloc_valued h = ap (malloc_of g t) (listed_one c alone) ∙ valued_one g t (trees.assign c.first) (asked_none (requested g (trees.assign c.first)) h)

  pub free_valued : free_of g t (listed trees.assign (Some c)) ≡ ((operand g (trees.assign c.first) >>= value) >>= freed (place_of t))
  free_valued = ap (free_of g t) (listed_one c alone) ∙ freed_one g t (trees.assign c.first)
