-- One turn of grouping.
use Rattle.std.proofs.Common.{◌≡◌, Bool, true, false, cond, List, [], ◌∷◌, ◌++◌, length, Option, Some, None, refl, sym, ap, ◌∙◌, arith}
use Rattle.c_words.specs.declared.word.Word.{Word}
use Rattle.c_words.specs.declared.word.Leaf.{Leaf}
use Rattle.c_words.specs.declared.chain.Chain.{Chain}
use Rattle.c_words.specs.declared.chain.Link.{Link}
use Rattle.c_grouping.specs.Grouping.{close, group_from, group}

module _ {A B : Type 0} (op : Word → Bool) (make : Chain A → B) where
  pub starts : (c : Chain A) → group op make c ≡ group_from op make None (record { first = c.first; rest = [] }) c.rest
  unfolding group
  starts c = refl

  -- at an operator of the level the run is closed
  pub closes : (closed : Option (Chain B × Leaf)) (current : Chain A) (l : Link A) (ls : List (Link A)) (b : B) (found : Chain B) (next : Chain A) → op l.operator.word ≡ true
      → b ≡ make current → found ≡ close closed b → next ≡ record { first = l.operand; rest = [] }
      → group_from op make closed current (l ∷ ls) ≡ group_from op make (Some (found, l.operator)) next ls
  unfolding group_from
  closes closed current l ls b found next h made is lone =
      of (op l.operator.word) h
      ∙ ap (λ b. group_from op make (Some (close closed b, l.operator)) (record { first = l.operand; rest = [] }) ls) (sym made)
      ∙ ap (λ f. group_from op make (Some (f, l.operator)) (record { first = l.operand; rest = [] }) ls) (sym is)
      ∙ ap (λ n. group_from op make (Some (found, l.operator)) n ls) (sym lone)
    where
      of : (t : Bool) → t ≡ true → cond t (group_from op make (Some (close closed (make current), l.operator)) (record { first = l.operand; rest = [] }) ls)
          (group_from op make closed (record { first = current.first; rest = current.rest ++ l ∷ [] }) ls)
          ≡ group_from op make (Some (close closed (make current), l.operator)) (record { first = l.operand; rest = [] }) ls
      of true h = refl
      of false h = cc

  -- at another the run goes on
  pub goes_on : (closed : Option (Chain B × Leaf)) (current : Chain A) (l : Link A) (ls : List (Link A)) (next : Chain A) → op l.operator.word ≡ false
      → next ≡ record { first = current.first; rest = current.rest ++ l ∷ [] } → group_from op make closed current (l ∷ ls) ≡ group_from op make closed next ls
  unfolding group_from
  goes_on closed current l ls next h is =
      of (op l.operator.word) h ∙ ap (λ n. group_from op make closed n ls) (sym is)
    where
      of : (t : Bool) → t ≡ false → cond t (group_from op make (Some (close closed (make current), l.operator)) (record { first = l.operand; rest = [] }) ls)
          (group_from op make closed (record { first = current.first; rest = current.rest ++ l ∷ [] }) ls)
          ≡ group_from op make closed (record { first = current.first; rest = current.rest ++ l ∷ [] }) ls
      of true h = cc
      of false h = refl

  pub ends : (closed : Option (Chain B × Leaf)) (current : Chain A) (ls : List (Link A)) (b : B) → ls ≡ [] → b ≡ make current → group_from op make closed current ls ≡ close closed b
  unfolding group_from
  ends closed current [] b none made = ap (close closed) (sym made)
  ends closed current (l ∷ ls) b none made = cc
