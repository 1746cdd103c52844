use Rattle.std.proofs.Common.{true, false, Ok, sym, ap, ◌∙◌}
use Rattle.step_meaning.specs.declared.value.CType.TheVariants.{Void, Pointer}
use Rattle.step_meaning.specs.Library.{void_pointer as void_pointer_of}
use Rattle.typing_rules.specs.Checked.{◌>>=◌}
use Rattle.typing_rules.specs.Declarations.{declarable}
use Rattle.typing_operands.proofs.Pointers.{pointer-Pointer}
use Rattle.typing_declarators.proofs.LayerLaws.{same_Ok}
use Rattle.typing_scopes.specs.Known.{known as seen}
use Rattle.typing_files.proofs.Outcomes.{gives_fails}
use Rattle.typing_functions.specs.Parameters.{void_pointer_type}
use Rattle.typing_functions.proofs.parameter.void_pointer.Goals as goal

pub returns-in_err-declarable : goal.returns-in_err-declarable
unfolding void_pointer_type
returns-in_err-declarable c =
    let g = seen c.args.known.now in
    let n = c.args.name in
    let e = c.in_err-declarable.field-0.0 in
    let same = (pointer-Pointer Void ∙ same_Ok (Pointer Void) c.in_ok-t.t c.in_ok-t.ensures) ∙ sym c.get.ensures in
    gives_fails (void_pointer_type g n) c.from_residual-in_err-declarable.result e (λ m. ap (λ o. o >>= (λ u. Ok void_pointer_of)) (ap (declarable g n.place n.again false true n.reserved) same ∙ c.in_err-declarable.ensures m)) c.from_residual-in_err-declarable.ensures.1

pub returns : goal.returns
unfolding void_pointer_type
returns c =
    let g = seen c.args.known.now in
    let n = c.args.name in
    let t = (pointer-Pointer Void ∙ same_Ok (Pointer Void) c.in_ok-t.t c.in_ok-t.ensures) in
    ap (λ o. o >>= (λ u. Ok void_pointer_of)) (ap (declarable g n.place n.again false true n.reserved) (t ∙ sym c.get.ensures) ∙ c.in_ok-declarable.ensures) ∙ ap (λ t. Ok t) t
