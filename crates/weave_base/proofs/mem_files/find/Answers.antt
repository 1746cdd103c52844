-- The file at hand settles one step of the search.
use Rattle.std.proofs.Common.{ap, ◌∙◌, sym}
use Rattle.std.specs.Prelude.{Some}
use Rattle.weave_base.proofs.Search.{found_here, found_behind}
use Rattle.weave_base.proofs.mem_files.find.Goals as goal

pub returns-then-eq : goal.returns-then-eq
returns-then-eq c =
    ap (λ bytes. Some bytes) c.deref.ensures.value
    ∙ sym (found_here c.args.files.now c.loop-file.file-index c.file-item.result c.args.name.now _ _ _ c.loop-file-test.true c.file-item.is c.as_str.ensures.value c.eq.ensures c.if-eq.true c.loop-file.invariant)

pub loop-file-preserved : goal.loop-file-preserved
loop-file-preserved c =
    found_behind c.args.files.now c.loop-file.file-index c.file-item.result c.args.name.now _ _ _ c.loop-file-test.true c.file-item.is c.as_str.ensures.value c.eq.ensures c.if-eq.false c.loop-file.invariant
