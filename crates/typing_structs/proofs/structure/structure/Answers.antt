use Rattle.std.proofs.Common.{◌≡◌, ◌≤◌, [], length, Ok, ap, sym, subst, ◌∙◌}
use Rattle.typing_rules.specs.FileScope.{bytes}
use Rattle.typing_rules.specs.Structs.{all_members, with_layout, structure as structure_rule}
use Rattle.typing_scopes.specs.Known.{program}
use Rattle.typing_files.specs.Points.{Becomes}
use Rattle.typing_files.proofs.Outcomes.{fails}
use Rattle.typing_structs.specs.Members.{members_in}
use Rattle.typing_structs.specs.Structs.{within, limited as limited_rule}
use Rattle.typing_structs.proofs.StructLaws.{structure_unnamed, structure_unfilled, structure_unlimited, structure_made, structure_steady, within_cells}
use Rattle.typing_structs.proofs.structure.structure.Goals as goal

pub returns-in_err-begin-clause-becomes : goal.returns-in_err-begin-clause-becomes
returns-in_err-begin-clause-becomes c =
    let e = c.in_err-begin.field-0.0 in
    fails (structure_rule c.args.tag.now (members_in c.args.trees.now) (program c.args.known.now)) c.from_residual.result e (program c.begin.new.known)
    (λ m. structure_unnamed c.args.tag.now (members_in c.args.trees.now) (program c.args.known.now) e (c.in_err-begin.ensures.gives m)) c.from_residual.ensures.1

pub returns-in_err-members-clause-becomes : goal.returns-in_err-members-clause-becomes
returns-in_err-members-clause-becomes c =
    let e = c.in_err-members.field-0.0 in
    let p = program c.args.known.now in
    let xs = members_in c.args.trees.now in
    let same = c.in_ok-begin.ensures.same in
    fails (structure_rule c.args.tag.now xs p) c.from_residual-in_err-members.result e (program c.begin.new.known)
    (λ m. structure_unfilled c.args.tag.now xs p e c.in_ok-begin.ensures.gives (ap (λ q. all_members (within q c.args.tag.now) [] xs) (sym same) ∙ c.in_err-members.ensures m)) c.from_residual-in_err-members.ensures.1

pub returns-in_err-limited-clause-becomes : goal.returns-in_err-limited-clause-becomes
returns-in_err-limited-clause-becomes c =
    let e = c.in_err-limited.field-0.0 in
    let tag = c.args.tag.now in
    let p = program c.args.known.now in
    let xs = members_in c.args.trees.now in
    let ms = c.in_ok-members.members in
    let same = c.in_ok-begin.ensures.same in
    fails (structure_rule tag xs p) c.from_residual-in_err-limited.result e (program c.begin.new.known)
    (λ m. structure_unlimited tag xs p ms e c.in_ok-begin.ensures.gives (ap (λ q. all_members (within q tag) [] xs) (sym same) ∙ c.in_ok-members.ensures) (ap (λ q. limited_rule q tag ms) (sym same) ∙ ap (limited_rule (program c.begin.new.known) tag) (sym c.as_slice.ensures) ∙ c.in_err-limited.ensures.gives m))
    c.from_residual-in_err-limited.ensures.1

pub complete-requires-clause-steady : goal.complete-requires-clause-steady
complete-requires-clause-steady c =
    let tag = c.args.tag.now in
    let q = program c.begin.new.known in
    let ms = c.in_ok-members.members in
    let small = ap (limited_rule q tag) (sym c.as_slice.ensures) ∙ c.in_ok-limited.ensures.gives in
    let some : 1 ≤ length ms = subst (λ ms. 1 ≤ length ms) c.as_slice.ensures c.in_ok-limited.ensures.some in
    structure_steady q tag (members_in c.args.trees.now) ms c.in_ok-begin.ensures.within.steady c.in_ok-members.ensures some (within_cells q tag ms small)

pub returns-clause-becomes : goal.returns-clause-becomes
returns-clause-becomes c =
    let tag = c.args.tag.now in
    let p = program c.args.known.now in
    let q = program c.begin.new.known in
    let xs = members_in c.args.trees.now in
    let ms = c.in_ok-members.members in
    let same = c.in_ok-begin.ensures.same in
    let made : structure_rule tag xs p ≡ Ok (with_layout p (bytes p tag) ms) = structure_made tag xs p ms c.in_ok-begin.ensures.gives (ap (λ q. all_members (within q tag) [] xs) (sym same) ∙ c.in_ok-members.ensures) (ap (λ q. limited_rule q tag ms) (sym same) ∙ ap (limited_rule q tag) (sym c.as_slice.ensures) ∙ c.in_ok-limited.ensures.gives) in
    subst (λ o. Becomes o c.complete.result (program c.complete.new.known)) (ap (λ q. Ok (with_layout q (bytes q tag) ms)) same ∙ sym made) c.complete.ensures.becomes
