use Rattle.normal_laws.specs.NormalForm.{normal_core}
use Rattle.normal_laws.proofs.ProgramsAgree.{sets_registers}
use Rattle.normal_laws.proofs.laws.normal_cores_set_registers.Goals as goal

pub returns : goal.returns
returns c = λ q h. (sets_registers q h, c.strict_runs_agree.ensures (normal_core q) (sets_registers q h))
