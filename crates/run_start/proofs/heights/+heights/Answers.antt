-- What is computed of the parts of a statement is the room of the whole.
use Rattle.std.proofs.Common.{◌∙◌, ap, sym}
use Rattle.run_turns.specs.Room as room
use Rattle.run_start.specs.Heights.{capped}
use Rattle.run_start.proofs.CappedLaws.{greater_of, plus_so_many}
use Rattle.run_start.proofs.HeightForms.{height-If, height-While, height-For}
use Rattle.run_start.proofs.heights.+heights.Goals as goal

pub height-returns-in-If : goal.height-returns-in-If
height-returns-in-If t c =
    let i = c.in-If in
    greater_of _ _ _ _ _ (plus_so_many 1 _ _ _ c.depth-in-If.ensures c.plus-in-If.ensures)
    (greater_of _ _ _ _ _ (c.height.ensures ∙ ap (λ s. capped (room.height s)) c.get.ensures) (c.height-in-If.ensures ∙ ap (λ s. capped (room.height s)) c.get-in-If.ensures) c.greater-in-If.ensures) c.greater-in-If-2.ensures
    ∙ ap capped (sym (height-If i.e i.then i.or)) ∙ ap (λ s. capped (room.height s)) (sym i.is)

pub height-returns-in-While : goal.height-returns-in-While
height-returns-in-While t c =
    let i = c.in-While in
    plus_so_many 2 _ _ _ (greater_of _ _ _ _ _ c.depth-in-While.ensures (c.height-in-While.ensures ∙ ap (λ s. capped (room.height s)) c.get-in-While.ensures) c.greater-in-While.ensures) c.plus-in-While.ensures
    ∙ ap capped (sym (height-While i.e i.body)) ∙ ap (λ s. capped (room.height s)) (sym i.is)

pub height-returns-in-For : goal.height-returns-in-For
height-returns-in-For t c =
    let i = c.in-For in
    plus_so_many 2 _ _ _
    (greater_of _ _ _ _ _ (greater_of _ _ _ _ _ c.depth_if_any.ensures c.depth_if_any-in-For.ensures c.greater-in-For.ensures) (c.height-in-For.ensures ∙ ap (λ s. capped (room.height s)) c.get-in-For.ensures) c.greater-in-For-2.ensures) c.plus-in-For.ensures
    ∙ ap capped (sym (height-For i.test i.step i.body)) ∙ ap (λ s. capped (room.height s)) (sym i.is)
