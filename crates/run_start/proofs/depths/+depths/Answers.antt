-- What is computed of the parts of an expression is the room of the whole.
use Rattle.std.proofs.Common.{◌∙◌, ap, sym}
use Rattle.run_turns.specs.Room as room
use Rattle.run_start.specs.Heights.{capped}
use Rattle.run_start.proofs.CappedLaws.{above_one, above_two, above_three}
use Rattle.run_start.proofs.DepthForms.{depth-Convert, depth-Unary, depth-Malloc, depth-Binary, depth-Compare, depth-Move, depth-Difference, depth-Both, depth-Either, depth-Choose, depth-Assign, depth-Update, depth-Invoke, place-Member, place-Index}
use Rattle.run_start.proofs.depths.+depths.Goals as goal

pub depth-returns-in-Convert : goal.depth-returns-in-Convert
depth-returns-in-Convert t c =
    let i = c.in-Convert in
    above_one _ _ _ (c.depth.ensures ∙ ap (λ e. capped (room.depth e)) c.get.ensures) c.above-in-Convert.ensures ∙ ap capped (sym (depth-Convert i.field-0 i.a)) ∙ ap (λ e. capped (room.depth e)) (sym i.is)

pub depth-returns-in-Unary : goal.depth-returns-in-Unary
depth-returns-in-Unary t c =
    let i = c.in-Unary in
    above_one _ _ _ (c.depth-in-Unary.ensures ∙ ap (λ e. capped (room.depth e)) c.get-in-Unary.ensures) c.above-in-Unary.ensures ∙ ap capped (sym (depth-Unary i.field-0 i.field-1 i.a)) ∙ ap (λ e. capped (room.depth e)) (sym i.is)

pub depth-returns-in-Malloc : goal.depth-returns-in-Malloc
depth-returns-in-Malloc t c =
    let i = c.in-Malloc in
    above_one _ _ _ (c.depth-in-Malloc.ensures ∙ ap (λ e. capped (room.depth e)) c.get-in-Malloc.ensures) c.above-in-Malloc.ensures ∙ ap capped (sym (depth-Malloc i.a i.field-1)) ∙ ap (λ e. capped (room.depth e)) (sym i.is)

pub depth-returns-in-Binary : goal.depth-returns-in-Binary
depth-returns-in-Binary t c =
    let i = c.in-Binary in
    above_two _ _ _ _ _ (c.depth-in-Binary.ensures ∙ ap (λ e. capped (room.depth e)) c.get-in-Binary.ensures) (c.depth-in-Binary-2.ensures ∙ ap (λ e. capped (room.depth e)) c.get-in-Binary-2.ensures) c.above_both.ensures
    ∙ ap capped (sym (depth-Binary i.field-0 i.field-1 i.a i.b)) ∙ ap (λ e. capped (room.depth e)) (sym i.is)

pub depth-returns-in-Compare : goal.depth-returns-in-Compare
depth-returns-in-Compare t c =
    let i = c.in-Compare in
    above_two _ _ _ _ _ (c.depth-in-Compare.ensures ∙ ap (λ e. capped (room.depth e)) c.get-in-Compare.ensures) (c.depth-in-Compare-2.ensures ∙ ap (λ e. capped (room.depth e)) c.get-in-Compare-2.ensures) c.above_both-in-Compare.ensures
    ∙ ap capped (sym (depth-Compare i.field-0 i.a i.b)) ∙ ap (λ e. capped (room.depth e)) (sym i.is)

pub depth-returns-in-Move : goal.depth-returns-in-Move
depth-returns-in-Move t c =
    let i = c.in-Move in
    above_two _ _ _ _ _ (c.depth-in-Move.ensures ∙ ap (λ e. capped (room.depth e)) c.get-in-Move.ensures) (c.depth-in-Move-2.ensures ∙ ap (λ e. capped (room.depth e)) c.get-in-Move-2.ensures) c.above_both-in-Move.ensures
    ∙ ap capped (sym (depth-Move i.a i.b i.field-2 i.field-3)) ∙ ap (λ e. capped (room.depth e)) (sym i.is)

pub depth-returns-in-Difference : goal.depth-returns-in-Difference
depth-returns-in-Difference t c =
    let i = c.in-Difference in
    above_two _ _ _ _ _ (c.depth-in-Difference.ensures ∙ ap (λ e. capped (room.depth e)) c.get-in-Difference.ensures) (c.depth-in-Difference-2.ensures ∙ ap (λ e. capped (room.depth e)) c.get-in-Difference-2.ensures) c.above_both-in-Difference.ensures
    ∙ ap capped (sym (depth-Difference i.a i.b i.field-2)) ∙ ap (λ e. capped (room.depth e)) (sym i.is)

pub depth-returns-in-Both : goal.depth-returns-in-Both
depth-returns-in-Both t c =
    let i = c.in-Both in
    above_two _ _ _ _ _ (c.depth-in-Both.ensures ∙ ap (λ e. capped (room.depth e)) c.get-in-Both.ensures) (c.depth-in-Both-2.ensures ∙ ap (λ e. capped (room.depth e)) c.get-in-Both-2.ensures) c.above_both-in-Both.ensures
    ∙ ap capped (sym (depth-Both i.a i.b)) ∙ ap (λ e. capped (room.depth e)) (sym i.is)

pub depth-returns-in-Either : goal.depth-returns-in-Either
depth-returns-in-Either t c =
    let i = c.in-Either in
    above_two _ _ _ _ _ (c.depth-in-Either.ensures ∙ ap (λ e. capped (room.depth e)) c.get-in-Either.ensures) (c.depth-in-Either-2.ensures ∙ ap (λ e. capped (room.depth e)) c.get-in-Either-2.ensures) c.above_both-in-Either.ensures
    ∙ ap capped (sym (depth-Either i.a i.b)) ∙ ap (λ e. capped (room.depth e)) (sym i.is)

pub depth-returns-in-Choose : goal.depth-returns-in-Choose
depth-returns-in-Choose t c =
    let i = c.in-Choose in
    above_three _ _ _ _ _ _ _ _ (c.depth-in-Choose.ensures ∙ ap (λ e. capped (room.depth e)) c.get-in-Choose.ensures) (c.depth-in-Choose-2.ensures ∙ ap (λ e. capped (room.depth e)) c.get-in-Choose-2.ensures) (c.depth-in-Choose-3.ensures ∙ ap (λ e. capped (room.depth e)) c.get-in-Choose-3.ensures)
    c.greater.ensures c.above_both-in-Choose.ensures
    ∙ ap capped (sym (depth-Choose i.a i.b i.c)) ∙ ap (λ e. capped (room.depth e)) (sym i.is)

pub depth-returns-in-Assign : goal.depth-returns-in-Assign
depth-returns-in-Assign t c =
    let i = c.in-Assign in
    above_two _ _ _ _ _ c.depth_of_place-in-Assign.ensures (c.depth-in-Assign.ensures ∙ ap (λ e. capped (room.depth e)) c.get-in-Assign.ensures) c.above_both-in-Assign.ensures
    ∙ ap capped (sym (depth-Assign i.p i.field-1 i.a)) ∙ ap (λ e. capped (room.depth e)) (sym i.is)

pub depth-returns-in-Update : goal.depth-returns-in-Update
depth-returns-in-Update t c =
    let i = c.in-Update in
    above_two _ _ _ _ _ c.depth_of_place-in-Update.ensures (c.depth-in-Update.ensures ∙ ap (λ e. capped (room.depth e)) c.get-in-Update.ensures) c.above_both-in-Update.ensures
    ∙ ap capped (sym (depth-Update i.p i.field-1 i.field-2 i.a i.field-4)) ∙ ap (λ e. capped (room.depth e)) (sym i.is)

pub depth-returns-in-Invoke : goal.depth-returns-in-Invoke
depth-returns-in-Invoke t c =
    let i = c.in-Invoke in
    c.depth_of_all.ensures ∙ ap (λ es. capped (room.depth_all es)) c.as_slice.ensures ∙ ap capped (sym (depth-Invoke i.field-0 i.arguments)) ∙ ap (λ e. capped (room.depth e)) (sym i.is)

pub depth_of_place-returns-in-Member : goal.depth_of_place-returns-in-Member
depth_of_place-returns-in-Member t c =
    let i = c.in-Member in
    above_one _ _ _ (c.depth_of_place.ensures ∙ ap (λ p. capped (room.depth_place p)) c.get-in-Member.ensures) c.above-in-Member.ensures ∙ ap capped (sym (place-Member i.of i.field-1)) ∙ ap (λ p. capped (room.depth_place p)) (sym i.is)

pub depth_of_place-returns-in-Index : goal.depth_of_place-returns-in-Index
depth_of_place-returns-in-Index t c =
    let i = c.in-Index in
    above_two _ _ _ _ _ (c.depth_of_place-in-Index.ensures ∙ ap (λ p. capped (room.depth_place p)) c.get-in-Index.ensures) (c.depth-in-Index.ensures ∙ ap (λ e. capped (room.depth e)) c.get-in-Index-2.ensures) c.above_both.ensures
    ∙ ap capped (sym (place-Index i.of i.e i.field-2)) ∙ ap (λ p. capped (room.depth_place p)) (sym i.is)
