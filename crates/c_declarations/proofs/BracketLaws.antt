-- Sizes in brackets: the parser gives what stands there.
use Rattle.std.proofs.Common.{◌≡◌, ℕ, ◌<◌, suc, true, false, Some, refl, ap, subst, ◌∙◌, arith}
use Rattle.c_words.specs.declared.word.Word.{Word}
use Rattle.c_words.specs.declared.word.Word.TheVariants as w
use Rattle.c_words.specs.declared.word.Leaf.{Leaf}
use Rattle.c_grammar.specs.declared.expression.Choice.{Choice}
use Rattle.c_words.specs.Words.{same}
use Rattle.c_words.specs.Written.{Written, ◌then◌, one, nested, Takes}
use Rattle.c_grammar.specs.Expressions.{choice}
use Rattle.c_words.specs.Parsing.{Leaves, Parser, word_at, after, expect}
use Rattle.c_words.proofs.Taking.{Takes-then, then-Takes, Takes-nested, nested-Takes}
use Rattle.c_words.proofs.Reading.{finish, after-one, at_one, bind_ok, gives_bind, same_pair, Sound, Complete, take_if-takes, take_if-gives}
use Rattle.c_expressions.specs.ExpressionReading.{begins_expression, goes_on_choice}
use Rattle.c_expressions.specs.ExpressionReading.{inner_at}
use Rattle.c_expressions.proofs.ExpressionLaws.{exact, choice-Starts}
use Rattle.c_declarations.specs.declared.bracket.Bracket.{Bracket}
use Rattle.c_declarations.specs.Brackets as read

-- what a size in brackets writes
abbrev pub bracket_of : Leaf → Choice → Leaf → Written
bracket_of l s r = one w.LeftBracket l then nested (choice s) then one w.RightBracket r

abbrev pub bracket : Bracket → Written
bracket b = bracket_of b.left b.size b.right

pub bracketed-Sound : (n : ℕ) (size : Parser Choice) → Sound n size choice → Sound (suc n) (read.bracketed size) bracket
unfolding read.bracketed
bracketed-Sound n size sound = record {
  takes = λ ts a rest h.
      let l = bind_ok (expect w.LeftBracket ts) _ a rest h in
      let s = bind_ok (size l.mid) _ a rest l.second in
      let r = bind_ok (expect w.RightBracket s.mid) _ a rest s.second in
      finish bracket refl r.second
      (Takes-then (take_if-takes (suc n) (omega arith) _ _ _ _ l.first) (Takes-then (Takes-nested (sound.takes _ _ _ s.first)) (take_if-takes (suc n) (omega arith) _ _ _ _ r.first)));
}

pub bracketed-gives : (n : ℕ) (size : Parser Choice) → Complete n size choice goes_on_choice → (l : Leaf) (s : Choice) (r : Leaf) (ts rest : Leaves) → Takes (suc n) ts (bracket_of l s r) rest
    → read.bracketed size ts ≡ Some (record { left = l; size = s; right = r }, rest)
unfolding read.bracketed
bracketed-gives n size complete l s r ts rest h =
    let a = then-Takes h in
    let b = then-Takes a.second in
    gives_bind _ (take_if-gives (same w.LeftBracket) l a.first)
    (gives_bind _ (complete.gives a.mid s b.mid (nested-Takes b.first) (at_one w.RightBracket r b.second refl)) (gives_bind _ (take_if-gives (same w.RightBracket) r b.second) refl))

begins_not_bracket : (x : Word) → begins_expression x ≡ true → same w.RightBracket x ≡ false
begins_not_bracket w.RightBracket h = cc
begins_not_bracket _ h = refl

-- brackets with a size aren't empty
pub bracket-second : {n : ℕ} (l : Leaf) (s : Choice) (r : Leaf) (ts rest : Leaves) → Takes (suc n) ts (bracket_of l s r) rest → same w.RightBracket (word_at (after ts)) ≡ false
bracket-second {n = n} l s r ts rest h =
    let a = then-Takes h in
    let b = then-Takes a.second in
    ap (λ x. same w.RightBracket (word_at x)) (after-one (same w.LeftBracket) l a.first) ∙ begins_not_bracket _ (choice-Starts.word n a.mid s b.mid (nested-Takes b.first))

-- a size that was read nests below the number
pub size_below : (n : ℕ) (ts : Leaves) (b : Bracket) (rest : Leaves) → read.bracketed (inner_at n).choice ts ≡ Some (b, rest) → (choice b.size).nesting < n
unfolding read.bracketed
size_below n ts b rest h =
    let l = bind_ok (expect w.LeftBracket ts) _ b rest h in
    let s = bind_ok ((inner_at n).choice l.mid) _ b rest l.second in
    let r = bind_ok (expect w.RightBracket s.mid) _ b rest s.second in
    let t = (exact n).choice_sound.takes l.mid s.value s.mid s.first in
    let e = same_pair r.second in
    subst (λ x. (choice x.size).nesting < n) e.0 t.below
