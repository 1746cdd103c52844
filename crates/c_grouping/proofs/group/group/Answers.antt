use Rattle.std.proofs.Common.{◌≡◌, true, false, ◌∷◌, [], length, IfOk, sym, ap, subst, ◌∙◌, rules, arith}
use Rattle.std.specs.Vec.Iter.{into_iter_items, into_iter_len}
use Rattle.std.proofs.lemmas.Grind.{common_steps}
use Rattle.c_words.specs.Operators.{has}
use Rattle.c_grouping.specs.Grouping.{group_from}
use Rattle.c_words.proofs.Turns.{nothing_left}
use Rattle.c_grouping.proofs.GroupSteps.{closes, goes_on, ends}
use Rattle.c_grouping.proofs.group.group.Goals as goal

pub loop-link-preserved-then-has : goal.loop-link-preserved-then-has
loop-link-preserved-then-has g c =
    let at = c.loop-link in
    let steps : into_iter_items at.link-iterator ≡ c.in-Some.link ∷ into_iter_items c.next.new.self = c.in-Some.ensures.steps.0 in
    let was = at.invariant.0 in
    let gone = c.in-Some.ensures.steps.1 in
    let short = ap length steps in
    let len : into_iter_len c.next.new.self ≡ length (into_iter_items c.next.new.self) = omega arith in
    let h : has c.args.operators c.in-Some.link.operator.word ≡ true = first_of (search rules, grind (arith, common_steps)) in (
      len,
      at.invariant.1 ∙ ap (group_from (has c.args.operators) g.L.Level.made at.closed at.current) steps
          ∙ closes (has c.args.operators) g.L.Level.made at.closed at.current c.in-Some.link (into_iter_items c.next.new.self) _ _ _ h c.in_ok-part.ensures c.in_ok-close.ensures c.new-current-then-has.ensures,
    )

pub loop-link-preserved : goal.loop-link-preserved
loop-link-preserved g c =
    let at = c.loop-link in
    let steps : into_iter_items at.link-iterator ≡ c.in-Some.link ∷ into_iter_items c.next.new.self = c.in-Some.ensures.steps.0 in
    let was = at.invariant.0 in
    let gone = c.in-Some.ensures.steps.1 in
    let short = ap length steps in
    let len : into_iter_len c.next.new.self ≡ length (into_iter_items c.next.new.self) = omega arith in
    let h : has c.args.operators c.in-Some.link.operator.word ≡ false = first_of (search rules, grind (arith, common_steps)) in (
      len,
      at.invariant.1 ∙ ap (group_from (has c.args.operators) g.L.Level.made at.closed at.current) steps
          ∙ goes_on (has c.args.operators) g.L.Level.made at.closed at.current c.in-Some.link (into_iter_items c.next.new.self) _ h c.in_ok-push.ensures,
    )

pub returns : goal.returns
returns g c =
    let at = c.loop-link in
    let none = c.in-None.ensures.steps in
    let empty : into_iter_items at.link-iterator ≡ [] = nothing_left _ (sym at.invariant.0 ∙ none.0) in
    let part = c.in_ok-part-2.ensures in
    let e = at.invariant.1 ∙ ends (has c.args.operators) g.L.Level.made at.closed at.current _ _ empty part in
    subst (λ x. IfOk c.close-2.result (λ r. r ≡ x)) (sym e) c.close-2.ensures
