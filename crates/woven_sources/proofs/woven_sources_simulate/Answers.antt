use Rattle.normal_laws.specs.NormalForm.{normal_core}
use Rattle.weaver_laws.specs.Weaving.{woven_core}
use Rattle.weaver_laws.specs.Joining.{joined}
use Rattle.woven_sources.proofs.FitsNormal.{fit_together, simulates}
use Rattle.woven_sources.proofs.woven_sources_simulate.Goals as goal

pub returns : goal.returns
returns c = λ q hs source fit.
    let n = normal_core q in
    let formed = c.normal_cores_are_formed.ensures q source in
    let code = c.sources_have_source_code.ensures q source in
    simulates q hs (woven_core n (joined hs)) (c.normal_runs_agree.ensures q code)
    (c.woven_cores_simulate.ensures n hs formed.0 formed.1 (c.normal_cores_have_blocks.ensures q).1 (c.normal_cores_set_registers.ensures q code).1 (fit_together q hs fit))
