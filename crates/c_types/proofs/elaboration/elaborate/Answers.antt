use Rattle.typing_rules.specs.Checked.{Gives}
use Rattle.typing_rules.specs.Programs.{elaboration}
use Rattle.typing_scopes.specs.Known.{program}
use Rattle.typing_files.proofs.Outcomes.{gives_fails, gives_by}
use Rattle.c_types.proofs.Texts.{elaboration_broken, elaboration_by, formed, sources}
use Rattle.c_types.proofs.elaboration.elaborate.Goals as goal

pub returns-in_err-items-clause-gives : goal.returns-in_err-items-clause-gives
returns-in_err-items-clause-gives c =
    let m = c.args.mode in
    let text = c.args.text.now in
    let tree = c.args.tree.now in
    let e = c.in_err-items.field-0.0 in
    gives_fails (elaboration m text tree) c.from_residual-in_err-items.result e
    (λ q. elaboration_broken m text tree (program c.in_ok-known.known) c.as_slice.result.now c.in_ok-known.ensures.program c.as_slice.ensures e (c.in_err-items.ensures.becomes q))
    c.from_residual-in_err-items.ensures.1

pub returns-clause-gives : goal.returns-clause-gives
returns-clause-gives c =
    gives_by _ _ c.whole.result (elaboration_by c.args.mode c.args.text.now c.args.tree.now (program c.in_ok-known.known) c.as_slice.result.now c.in_ok-known.ensures.program c.as_slice.ensures (program c.items.new.known) c.in_ok-items.ensures.becomes) c.whole.ensures

pub returns-clause-formed : goal.returns-clause-formed
returns-clause-formed c =
    let gives : Gives (elaboration c.args.mode c.args.text.now c.args.tree.now) c.whole.result = gives_by _ _ c.whole.result (elaboration_by c.args.mode c.args.text.now c.args.tree.now (program c.in_ok-known.known) c.as_slice.result.now c.in_ok-known.ensures.program c.as_slice.ensures (program c.items.new.known) c.in_ok-items.ensures.becomes) c.whole.ensures in
    formed c.args.mode c.args.text.now c.args.tree.now c.whole.result gives

pub returns-clause-source : goal.returns-clause-source
returns-clause-source c =
    let gives : Gives (elaboration c.args.mode c.args.text.now c.args.tree.now) c.whole.result = gives_by _ _ c.whole.result (elaboration_by c.args.mode c.args.text.now c.args.tree.now (program c.in_ok-known.known) c.as_slice.result.now c.in_ok-known.ensures.program c.as_slice.ensures (program c.items.new.known) c.in_ok-items.ensures.becomes) c.whole.ensures in
    sources c.args.mode c.args.text.now c.args.tree.now c.whole.result gives
