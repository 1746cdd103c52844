-- Steps up to the last one, or as many as were asked for.
use Rattle.std.proofs.Common.{◌≡◌, ℕ, ◌<◌, ◌≤◌, sym, subst, ◌∙◌, arith}
use Rattle.run_check.specs.declared.advance.Advance.{Advance}
use Rattle.run_check.specs.declared.run_to.RunEnd.TheVariants as end
use Rattle.run_check.specs.Views.{Advanced}
use Rattle.run_check.specs.RunningTo.{Ended, Enough}
use Rattle.run_check.proofs.EndLaws.{cause_later, cause_none, end_none, less_left, read_end, write_end}
use Rattle.run_check.proofs.FreshLaws.{ended_performs, enough_performs}
use Rattle.run_check.proofs.OutcomeLaws.{ended_outcome, enough_outcome}
use Rattle.run_check.proofs.RunningLaws.{ran_more, ran_none}
use Rattle.run_check.proofs.run_to.run_on.Goals as goal

below : (a b n : ℕ) → a ≡ b → a < n → b < n
below a b n e l = omega (arith, e, l)

enough : (a b n : ℕ) → a ≡ b → n ≤ a → n ≤ b
enough a b n e l = omega (arith, e, l)

no_read : end.More ≡ end.ReadFault → ⊥
no_read e = cc

no_write : end.More ≡ end.WriteFault → ⊥
no_write e = cc

pub loop-machine-init : goal.loop-machine-init
loop-machine-init g c =
    record {
      ran = ran_none c.args.steps c.args.machine.now (g.S.Source.left c.args.input.now) (g.K.Sink.held c.args.out.now) c.requires.going;
      read = omega arith;
      written = omega arith;
    }

pub returns-in-Some-clause-runs : goal.returns-in-Some-clause-runs
returns-in-Some-clause-runs g c =
    let r = c.loop-machine.invariant.ran in
    Ended c.loop-machine.machine (g.S.Source.left c.loop-machine.input) (g.K.Sink.held c.loop-machine.out) c.advance-answer.result c.in-Some.end r
    (below c.steps.result c.loop-machine.machine.steps c.args.steps c.steps.ensures.steps c.loop-machine-test.true)
    (c.advance-answer.ensures.advances r.going)
    (sym c.end_of.ensures ∙ c.in-Some.is)

pub returns-in-Some-clause-outcome : goal.returns-in-Some-clause-outcome
returns-in-Some-clause-outcome g c bytes tells =
    let r = c.loop-machine.invariant.ran in
    ended_outcome c.args.steps c.args.machine.now (g.S.Source.left c.args.input.now) bytes tells c.advance-answer.new.self (g.S.Source.left c.advance-answer.new.input) (g.K.Sink.held c.args.out.now) (g.K.Sink.held c.advance-answer.new.out) c.in-Some.end
    c.loop-machine.machine (g.S.Source.left c.loop-machine.input) (g.K.Sink.held c.loop-machine.out) c.advance-answer.result r
    (below c.steps.result c.loop-machine.machine.steps c.args.steps c.steps.ensures.steps c.loop-machine-test.true)
    (c.advance-answer.ensures.advances r.going)
    (sym c.end_of.ensures ∙ c.in-Some.is)

pub returns-in-Some-clause-fresh : goal.returns-in-Some-clause-fresh
returns-in-Some-clause-fresh g c =
    let r = c.loop-machine.invariant.ran in
    ended_performs c.args.steps c.args.machine.now c.loop-machine.machine c.advance-answer.new.self (g.S.Source.left c.args.input.now) (g.S.Source.left c.loop-machine.input) (g.S.Source.left c.advance-answer.new.input) (g.K.Sink.held c.args.out.now) (g.K.Sink.held c.loop-machine.out) (g.K.Sink.held c.advance-answer.new.out) r
    (below c.steps.result c.loop-machine.machine.steps c.args.steps c.steps.ensures.steps c.loop-machine-test.true)
    c.advance-answer.result c.in-Some.end
    (c.advance-answer.ensures.advances r.going)
    (sym c.end_of.ensures ∙ c.in-Some.is)

pub returns-in-Some-clause-read : goal.returns-in-Some-clause-read
returns-in-Some-clause-read g c = cause_later (g.S.Source.faults c.args.input.now) (g.S.Source.faults c.loop-machine.input) (g.S.Source.faults c.advance-answer.new.input) _ _ c.loop-machine.invariant.read (c.advance-answer.ensures.read c.loop-machine.invariant.ran.going) (read_end c.advance-answer.result c.in-Some.end (sym c.end_of.ensures ∙ c.in-Some.is))

pub returns-in-Some-clause-written : goal.returns-in-Some-clause-written
returns-in-Some-clause-written g c = cause_later (g.K.Sink.faults c.args.out.now) (g.K.Sink.faults c.loop-machine.out) (g.K.Sink.faults c.advance-answer.new.out) _ _ c.loop-machine.invariant.written (c.advance-answer.ensures.written c.loop-machine.invariant.ran.going) (write_end c.advance-answer.result c.in-Some.end (sym c.end_of.ensures ∙ c.in-Some.is))

pub loop-machine-smaller : goal.loop-machine-smaller
loop-machine-smaller g c =
    let r = c.loop-machine.invariant.ran in
    let made = subst (λ (a : Advance). Advanced c.loop-machine.machine c.advance-answer.new.self (g.S.Source.left c.loop-machine.input) (g.S.Source.left c.advance-answer.new.input) (g.K.Sink.held c.loop-machine.out) (g.K.Sink.held c.advance-answer.new.out) a) (end_none c.advance-answer.result (sym c.end_of.ensures ∙ c.in_default.is)) (c.advance-answer.ensures.advances r.going) in
    less_left c.args.steps c.loop-machine.machine.steps c.advance-answer.new.self.steps (below c.steps.result c.loop-machine.machine.steps c.args.steps c.steps.ensures.steps c.loop-machine-test.true) made.steps

pub loop-machine-preserved : goal.loop-machine-preserved
loop-machine-preserved g c =
    let r = c.loop-machine.invariant.ran in
    let made = subst (λ (a : Advance). Advanced c.loop-machine.machine c.advance-answer.new.self (g.S.Source.left c.loop-machine.input) (g.S.Source.left c.advance-answer.new.input) (g.K.Sink.held c.loop-machine.out) (g.K.Sink.held c.advance-answer.new.out) a) (end_none c.advance-answer.result (sym c.end_of.ensures ∙ c.in_default.is)) (c.advance-answer.ensures.advances r.going) in
    let read = c.loop-machine.invariant.read in
    let more_read = (c.advance-answer.ensures.read r.going).later in
    let written = c.loop-machine.invariant.written in
    let more_written = (c.advance-answer.ensures.written r.going).later in
    record {
      ran = ran_more c.args.steps c.args.machine.now c.loop-machine.machine c.advance-answer.new.self (g.S.Source.left c.args.input.now) (g.S.Source.left c.loop-machine.input) (g.S.Source.left c.advance-answer.new.input) (g.K.Sink.held c.args.out.now) (g.K.Sink.held c.loop-machine.out) (g.K.Sink.held c.advance-answer.new.out) r
          (below c.steps.result c.loop-machine.machine.steps c.args.steps c.steps.ensures.steps c.loop-machine-test.true) made;
      read = omega (arith, read, more_read);
      written = omega (arith, written, more_written);
    }

pub returns-clause-runs : goal.returns-clause-runs
returns-clause-runs g c = Enough c.loop-machine.invariant.ran (enough c.steps.result c.loop-machine.machine.steps c.args.steps c.steps.ensures.steps c.loop-machine-test.false)

pub returns-clause-outcome : goal.returns-clause-outcome
returns-clause-outcome g c bytes tells =
    let r = c.loop-machine.invariant.ran in
    enough_outcome c.args.steps c.args.machine.now (g.S.Source.left c.args.input.now) bytes tells c.loop-machine.machine (g.S.Source.left c.loop-machine.input) (g.K.Sink.held c.args.out.now) (g.K.Sink.held c.loop-machine.out) (c.steps.ensures.going r.going) r
    (enough c.steps.result c.loop-machine.machine.steps c.args.steps c.steps.ensures.steps c.loop-machine-test.false)

pub returns-clause-fresh : goal.returns-clause-fresh
returns-clause-fresh g c =
    let r = c.loop-machine.invariant.ran in
    enough_performs c.args.steps c.args.machine.now c.loop-machine.machine (g.S.Source.left c.args.input.now) (g.S.Source.left c.loop-machine.input) (g.K.Sink.held c.args.out.now) (g.K.Sink.held c.loop-machine.out) (c.steps.ensures.going r.going) r
    (enough c.steps.result c.loop-machine.machine.steps c.args.steps c.steps.ensures.steps c.loop-machine-test.false)

pub returns-clause-read : goal.returns-clause-read
returns-clause-read g c = cause_none (g.S.Source.faults c.args.input.now) (g.S.Source.faults c.loop-machine.input) _ c.loop-machine.invariant.read no_read

pub returns-clause-written : goal.returns-clause-written
returns-clause-written g c = cause_none (g.K.Sink.faults c.args.out.now) (g.K.Sink.faults c.loop-machine.out) _ c.loop-machine.invariant.written no_write
