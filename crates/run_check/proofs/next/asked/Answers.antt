-- The step of a part that asks for more.
use Rattle.std.proofs.Common.{◌≡◌, ◌∙◌}
use Rattle.run_check.specs.declared.advance.Advance.TheVariants as advance
use Rattle.run_check.proofs.NextLaws.{allocate_never_reads, allocate_never_writes, begin_never_reads, begin_never_writes, quiet, read_counts, read_only, write_counts, write_only}
use Rattle.run_check.proofs.next.asked.Goals as goal

pub returns-in-Input-clause-steps : goal.returns-in-Input-clause-steps
returns-in-Input-clause-steps g c = c.read.ensures.steps ∙ read_counts c.read.result c.args.run.now.steps c.read.ensures.answers

pub returns-in-Input-clause-written : goal.returns-in-Input-clause-written
returns-in-Input-clause-written g c = quiet (g.K.Sink.faults c.args.out.now) (c.read.result ≡ advance.WriteFault) (read_only c.read.result c.read.ensures.answers)

pub returns-in-Input-clause-advances : goal.returns-in-Input-clause-advances
returns-in-Input-clause-advances g c = rw c.in-Input.is (c.read.ensures.advances (g.K.Sink.held c.args.out.now))

pub returns-in-Output-clause-steps : goal.returns-in-Output-clause-steps
returns-in-Output-clause-steps g c = c.write.ensures.steps ∙ write_counts c.write.result c.args.run.now.steps c.write.ensures.answers

pub returns-in-Output-clause-read : goal.returns-in-Output-clause-read
returns-in-Output-clause-read g c = quiet (g.S.Source.faults c.args.input.now) (c.write.result ≡ advance.ReadFault) (write_only c.write.result c.write.ensures.answers)

pub returns-in-Output-clause-advances : goal.returns-in-Output-clause-advances
returns-in-Output-clause-advances g c = rw c.in-Output.is (c.write.ensures.advances (g.S.Source.left c.args.input.now))

pub returns-in-Enter-clause-read : goal.returns-in-Enter-clause-read
returns-in-Enter-clause-read g c = quiet (g.S.Source.faults c.args.input.now) (c.begin.result ≡ advance.ReadFault) (begin_never_reads c.begin.result c.begin.ensures.answers)

pub returns-in-Enter-clause-written : goal.returns-in-Enter-clause-written
returns-in-Enter-clause-written g c = quiet (g.K.Sink.faults c.args.out.now) (c.begin.result ≡ advance.WriteFault) (begin_never_writes c.begin.result c.begin.ensures.answers)

pub returns-in-Enter-clause-advances : goal.returns-in-Enter-clause-advances
returns-in-Enter-clause-advances g c = rw c.in-Enter.is (c.begin.ensures.advances (g.S.Source.left c.args.input.now) (g.K.Sink.held c.args.out.now))

pub returns-in-Halt-clause-advances : goal.returns-in-Halt-clause-advances
returns-in-Halt-clause-advances g c = rw c.in-Halt.is (c.halt.ensures.advances (g.S.Source.left c.args.input.now) (g.K.Sink.held c.args.out.now))

pub returns-in-Allocate-clause-read : goal.returns-in-Allocate-clause-read
returns-in-Allocate-clause-read g c = quiet (g.S.Source.faults c.args.input.now) (c.allocate.result ≡ advance.ReadFault) (allocate_never_reads c.allocate.result c.allocate.ensures.answers)

pub returns-in-Allocate-clause-written : goal.returns-in-Allocate-clause-written
returns-in-Allocate-clause-written g c = quiet (g.K.Sink.faults c.args.out.now) (c.allocate.result ≡ advance.WriteFault) (allocate_never_writes c.allocate.result c.allocate.ensures.answers)

pub returns-in-Allocate-clause-advances : goal.returns-in-Allocate-clause-advances
returns-in-Allocate-clause-advances g c = rw (c.in-Operate.is, c.in-Allocate.is) (c.allocate.ensures.advances (g.S.Source.left c.args.input.now) (g.K.Sink.held c.args.out.now))
