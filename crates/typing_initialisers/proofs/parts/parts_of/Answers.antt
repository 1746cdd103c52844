use Rattle.std.proofs.Common.{sym, ap, ◌∙◌}
use Rattle.std.specs.Prelude.{replicate}
use Rattle.typing_initialisers.specs.Initialisers.{parts_of}
use Rattle.typing_initialisers.proofs.PartForms.{parts-Array}
use Rattle.typing_initialisers.proofs.parts.parts_of.Goals as goal

pub returns-in-Array : goal.returns-in-Array
returns-in-Array c =
    let ls = c.args.layouts.now in
    ap (replicate c.in-Array.count) c.get.ensures ∙ sym (ap (parts_of ls) c.in-Array.is ∙ parts-Array ls c.in-Array.of c.in-Array.count)
