use Rattle.std.proofs.Common.{ap, ◌∙◌}
use Rattle.typing_scopes.specs.Blocks.{local_variable}
use Rattle.typing_scopes.specs.Known.{program}
use Rattle.typing_scopes.proofs.LastBlock.{on_ok, with_last}
use Rattle.typing_scopes.proofs.WantOfMemory.{memory_alone}
use Rattle.typing_scopes.proofs.known.Known.declare_in_block.Goals as goal

pub returns-clause-added : goal.returns-clause-added
returns-clause-added c =
    let k = c.args.self.now in
    let v = c.args.local in
    on_ok c.push.result
    (λ h. ap (λ ss. record { program = program k; tags = k.tags; frame = record { locals = k.locals; scopes = ss } })
    (with_last k.blocks.items c.len-last.result c.index_mut.result.now c.push.new.self c.args.name.now (local_variable v.index) v.ctype c.requires.open (c.len-last.ensures ∙ k.blocks.ok.0) c.index_mut.ensures.value h))
    c.push.ensures.ok

pub returns-clause-memory : goal.returns-clause-memory
returns-clause-memory c = memory_alone c.push.result c.push.ensures.fault
