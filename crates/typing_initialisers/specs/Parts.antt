-- The parts of an aggregate, as code has them.
use Rattle.std.specs.Prelude.{List, map, replicate}
use Rattle.step_meaning.specs.declared.value.CType.{CType}
use Rattle.typing_initialisers.specs.declared.parts.Parts.{Parts}
use Rattle.typing_initialisers.specs.declared.parts.Parts.TheVariants.{Elements, Members}

abbrev pub parts : Parts → List CType
parts (Elements t n) = replicate n t.now
parts (Members ds) = map (λ d. d.ctype) ds.now
