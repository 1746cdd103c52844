use Rattle.std.proofs.Common.{true, false, sym, ◌∙◌, reverse}
use Rattle.run_state.proofs.RegisterLaws.{used}
use Rattle.run_state.proofs.registers.Registers.read.Goals as goal

pub returns-then-same_type : goal.returns-then-same_type
returns-then-same_type c =
    let k = c.len.ensures ∙ c.self.inside.cells.ok.0 in
    let p = rw (k, c.deref.ensures.value) at c.in-Some.ensures in
    let e = rw c.deref-2.ensures.value at c.register_in-register.ensures in
    rw (← c.self.view_is)
    (sym (used c.self.inside.cells.items (reverse c.self.inside.starts.items) c.args.index c.in-Some.place c.register_in-register.result c.args.ctype.now true p e c.if-same_type.ensures))

pub returns-else-same_type : goal.returns-else-same_type
returns-else-same_type c =
    let k = c.len.ensures ∙ c.self.inside.cells.ok.0 in
    let p = rw (k, c.deref.ensures.value) at c.in-Some.ensures in
    let e = rw c.deref-2.ensures.value at c.register_in-register.ensures in
    rw (← c.self.view_is)
    (sym (used c.self.inside.cells.items (reverse c.self.inside.starts.items) c.args.index c.in-Some.place c.register_in-register.result c.args.ctype.now false p e c.if-same_type.ensures))
