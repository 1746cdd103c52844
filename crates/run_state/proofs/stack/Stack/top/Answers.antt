use Rattle.std.proofs.Common.{◌≡◌, ◌-◌, ◌≤◌, ◌∙◌, sym, length, arith, drop}
use Rattle.std.proofs.lemmas.List.{take_all, length-drop, length-reverse}
use Rattle.run_state.proofs.StackLaws.{top_items}
use Rattle.run_state.proofs.stack.Stack.top.Goals as goal

pub returns : goal.returns
returns g c =
    let n = c.args.n in
    let xs = c.self.inside.items.items in
    let h = rw (← c.self.view_is) at c.requires in
    let l : c.len.result ≡ length xs = c.len.ensures ∙ c.self.inside.items.ok.0 in
    let few : n ≤ length xs = omega (arith, length-reverse xs) in
    let k = length xs - n in
    rw (← c.self.view_is, c.as_slice.ensures.value, l)
    (take_all (length xs - k) (drop k xs) (omega (arith, length-drop k xs)) ∙ sym (top_items n xs few))
