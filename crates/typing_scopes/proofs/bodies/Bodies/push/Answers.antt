use Rattle.std.proofs.Common.{map, ap, ◌∙◌, sym, [], ◌∷◌}
use Rattle.std.proofs.lemmas.List.{map-append}
use Rattle.typing_scopes.proofs.Scopes.{any_again}
use Rattle.typing_scopes.proofs.bodies.Bodies.push.Goals as goal

pub invariant_of-self-then-has : goal.invariant_of-self-then-has
invariant_of-self-then-has c = λ name.
    any_again c.self.inside.names (map (λ x. x.now) c.self.inside.all.items) (map (λ x. x.now) c.append.new.all.items) c.args.name.now name c.self.invariant
    (ap (map (λ x. x.now)) c.in_ok-append.ensures.ok ∙ map-append (λ x. x.now) c.self.inside.all.items (c.args.name ∷ [])) (sym c.has.ensures ∙ c.if-has.true)
