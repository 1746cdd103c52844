use Rattle.std.proofs.Common.{true, false, sym, ap, ◌∙◌, reverse}
use Rattle.std.specs.Option.{is_some}
use Rattle.step_meaning.specs.declared.value.Cell.TheVariants.{Holds}
use Rattle.run_state.specs.Registers.{slot_of}
use Rattle.run_state.specs.declared.registers.Register.{Register}
use Rattle.run_state.proofs.RegisterLaws.{used, written}
use Rattle.run_state.proofs.registers.Registers.write.Goals as goal

pub returns-then-not-same_type-clause-allowed : goal.returns-then-not-same_type-clause-allowed
returns-then-not-same_type-clause-allowed c =
    let k = c.len.ensures ∙ c.self.inside.cells.ok.0 in
    let p = rw (k, c.deref.ensures.value) at c.in-Some.ensures in
    let e = rw c.deref-2.ensures.value at c.register_in-register.ensures in
    rw (← c.self.view_is)
    (sym (ap is_some (used c.self.inside.cells.items (reverse c.self.inside.starts.items) c.args.index c.in-Some.place c.register_in-register.result c.args.ctype.now false p e c.if-not-same_type.ensures)))

pub returns-clause-allowed : goal.returns-clause-allowed
returns-clause-allowed c =
    let k = c.len.ensures ∙ c.self.inside.cells.ok.0 in
    let p = rw (k, c.deref.ensures.value) at c.in-Some.ensures in
    let e = rw c.deref-2.ensures.value at c.register_in-register.ensures in
    rw (← c.self.view_is)
    (sym (ap is_some (used c.self.inside.cells.items (reverse c.self.inside.starts.items) c.args.index c.in-Some.place c.register_in-register.result c.args.ctype.now true p e c.if-not-same_type.ensures)))

pub returns-clause-written : goal.returns-clause-written
returns-clause-written c =
    let k = c.len.ensures ∙ c.self.inside.cells.ok.0 in
    let p = rw (k, c.deref.ensures.value) at c.in-Some.ensures in
    let e = rw c.deref-2.ensures.value at c.register_in-register.ensures in
    let r = c.register_in-register.result in
    let new : Register = record { ctype = r.ctype; cell = Holds c.args.value } in
    rw (← c.self.view_is)
    (ap (λ rs. record { activations = rs; room = c.self.inside.room; calls = c.self.inside.calls })
    (written c.self.inside.cells.items (reverse c.self.inside.starts.items) c.args.index c.in-Some.place r new c.args.value p (ap (λ (x : Register). record (slot_of x) { cell = Holds c.args.value }) e)))
