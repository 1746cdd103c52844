-- The machine runs on, or has stopped.
use Rattle.std.proofs.Common.{◌<◌, sym, subst, ◌∙◌}
use Rattle.run_check.specs.Views.{IsStop, View}
use Rattle.run_check.proofs.ViewLaws.{few_after, is_step, stop_is}
use Rattle.run_check.proofs.machine.Machine.advance.Goals as goal

pub invariant_of-self : goal.invariant_of-self
invariant_of-self g c =
    let few : c.self.inside.run.steps < 1000000000000 = subst (λ (v : View). v.steps < 1000000000000) (sym c.self.view_is) c.requires.few in (
      c.self.invariant.0 ∙ c.next-answer.ensures.program.calls,
      λ e. c.next-answer.ensures.after (is_step c.next-answer.result (sym c.stop-self-inside.ensures ∙ e)),
      subst IsStop (sym c.stop-self-inside.ensures) (stop_is c.next-answer.result),
      few_after c.next-answer.result c.self.inside.run.steps c.next-answer.new.run.steps few c.next-answer.ensures.steps,
    )
