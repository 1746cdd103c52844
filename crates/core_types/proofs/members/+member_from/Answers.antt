use Rattle.std.proofs.Common.{◌≡◌, ◌==◌, ◌+◌, ◌∷◌, Some, false, cond, sym, subst, ◌∙◌, rules}
use Rattle.std.specs.Prelude.{option_map}
use Rattle.step_meaning.specs.TypeRules.{cells, member_from}
use Rattle.core_types.proofs.members.+member_from.Goals as goal

pub returns-else-is_at : goal.returns-else-is_at
returns-else-is_at t c = λ n h.
    let ls = c.args.layouts.now in
    let parts : c.args.members.now ≡ c.in-Some.first.now ∷ c.in-Some.rest.now = search rules in
    let other : (n == c.args.offset) ≡ false = sym (c.is_at.ensures n h) ∙ c.if-is_at.false in
    let rest = c.member_from.ensures (n + cells ls c.in-Some.first.now.ctype) (c.plus.ensures n (cells ls c.in-Some.first.now.ctype) h c.cells.ensures) in
    subst (λ ms. option_map (λ t. t.now) c.member_from.result ≡ member_from ls ms n c.args.offset) (sym parts)
    (subst (λ b. option_map (λ t. t.now) c.member_from.result ≡ cond b (Some c.in-Some.first.now.ctype) (member_from ls c.in-Some.rest.now (n + cells ls c.in-Some.first.now.ctype) c.args.offset)) (sym other) rest)
