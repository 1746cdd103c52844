-- What is computed of the parts of a term or place gives the meaning's value.
use Rattle.acsl_values.specs.Seen.{reads_at}
use Rattle.acsl_values.proofs.BoundedParts.{negation_value, operation_value, move_value, pointer_value, member_value, element_value}
use Rattle.acsl_values.proofs.terms.+values.Goals as goal

pub place_at-returns-in-Deref : goal.place_at-returns-in-Deref
place_at-returns-in-Deref g t c =
    let s = g.V.View.sight c.args.view.now in
    pointer_value s (reads_at s c.args.moment) _ c.in-Deref.pointer _ _ c.in-Deref.is c.get.ensures c.value_at.ensures

pub place_at-returns-in-Member : goal.place_at-returns-in-Member
place_at-returns-in-Member g t c =
    let s = g.V.View.sight c.args.view.now in
    member_value s (reads_at s c.args.moment) _ c.in-Member.of c.in-Member.offset _ _ _ c.in-Member.is c.get-in-Member.ensures c.place_at.ensures c.member.ensures

pub place_at-returns-in-Index : goal.place_at-returns-in-Index
place_at-returns-in-Index g t c =
    let s = g.V.View.sight c.args.view.now in
    element_value s (reads_at s c.args.moment) _ c.in-Index.of c.in-Index.index c.in-Index.size _ _ _ _ _ c.in-Index.is c.get-in-Index.ensures c.get-in-Index-2.ensures
    c.place_at-in-Index.ensures c.value_at-in-Index.ensures c.moved.ensures

pub value_at-returns-in-Neg : goal.value_at-returns-in-Neg
value_at-returns-in-Neg g t c =
    let s = g.V.View.sight c.args.view.now in
    negation_value s (reads_at s c.args.moment) _ c.in-Neg.a _ _ _ c.in-Neg.is c.get.ensures c.value_at.ensures c.negated.ensures

pub value_at-returns-in-Arith : goal.value_at-returns-in-Arith
value_at-returns-in-Arith g t c =
    let s = g.V.View.sight c.args.view.now in
    operation_value s (reads_at s c.args.moment) _ c.in-Arith.op c.in-Arith.a c.in-Arith.b _ _ _ _ _ c.in-Arith.is c.get-in-Arith.ensures c.get-in-Arith-2.ensures
    c.value_at-in-Arith.ensures c.value_at-in-Arith-2.ensures c.operated.ensures

pub value_at-returns-in-Move : goal.value_at-returns-in-Move
value_at-returns-in-Move g t c =
    let s = g.V.View.sight c.args.view.now in
    move_value s (reads_at s c.args.moment) _ c.in-Move.a c.in-Move.b c.in-Move.size _ _ _ _ _ c.in-Move.is c.get-in-Move.ensures c.get-in-Move-2.ensures
    c.value_at-in-Move.ensures c.value_at-in-Move-2.ensures c.moved.ensures
