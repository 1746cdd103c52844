use Rattle.std.proofs.Common.{◌≡◌, ◌-◌, ◌≤◌, ◌∙◌, sym, ap, length, arith, take}
use Rattle.std.proofs.lemmas.List.{length-reverse}
use Rattle.run_state.proofs.StackLaws.{items_below}
use Rattle.run_state.proofs.stack.Stack.drop_top.Goals as goal

pub returns : goal.returns
returns g c =
    let n = c.args.n in
    let xs = c.self.inside.items.items in
    let h = rw (← c.self.view_is) at c.requires in
    let l : c.len.result ≡ length xs = c.len.ensures ∙ c.self.inside.items.ok.0 in
    let few : n ≤ length xs = omega (arith, length-reverse xs) in
    let e = c.truncate.ensures.items ∙ ap (λ i. take (i - n) xs) l in
    rw (← c.self.view_is, e) (ap (λ l. (l, c.self.inside.room)) (sym (items_below n xs few)))
