use Rattle.std.proofs.Common.{ap, sym, ◌∙◌, option_map}
use Rattle.std.specs.Prelude.{slice_get, option_and_then}
use Rattle.typing_rules.specs.Environment.{found_in}
use Rattle.typing_scopes.specs.Blocks.{local_entry}
use Rattle.typing_scopes.proofs.Scopes.{in_block, copied_entry}
use Rattle.typing_scopes.proofs.block.Block.find.Goals as goal

pub returns-in-Some : goal.returns-in-Some
returns-in-Some c =
    let ns = c.self.inside.names in
    let ls = c.self.inside.locals in
    let q = c.args.name.now in
    copied_entry c.get.result ∙ (ap (option_map local_entry) c.get.ensures.value
    ∙ sym (ap (λ s. found_in s q) (sym c.self.view_is) ∙ (in_block ns ls q c.self.invariant
    ∙ ap (option_and_then (λ i. option_map local_entry (slice_get ls i))) (sym c.number.ensures.number ∙ c.in-Some.is))))

pub returns-in-None : goal.returns-in-None
returns-in-None c =
    let ns = c.self.inside.names in
    let ls = c.self.inside.locals in
    let q = c.args.name.now in
    sym (ap (λ s. found_in s q) (sym c.self.view_is) ∙ (in_block ns ls q c.self.invariant
    ∙ ap (option_and_then (λ i. option_map local_entry (slice_get ls i))) (sym c.number.ensures.number ∙ c.in-None.is)))
