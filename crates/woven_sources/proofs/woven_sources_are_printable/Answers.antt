use Rattle.normal_laws.specs.NormalForm.{normal_core}
use Rattle.woven_sources.proofs.FitsNormal.{fit_together}
use Rattle.woven_sources.proofs.woven_sources_are_printable.Goals as goal

pub returns : goal.returns
returns c = λ q hs source fit.
    let formed = c.normal_cores_are_formed.ensures q source in
    let small = c.normal_cores_are_small.ensures q source in
    c.woven_cores_are_printable.ensures (normal_core q) hs formed.0 formed.1 (c.normal_cores_have_blocks.ensures q).1 (c.normal_cores_return_registers.ensures q)
    (record { bodies = small.bodies; struct_types = small.struct_types; global_types = small.global_types; function_types = small.function_types }) (fit_together q hs fit)
