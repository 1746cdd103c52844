use Rattle.std.proofs.Common.{sym, ◌∙◌, ap, ◌||◌}
use Rattle.std.specs.List.{list_any}
use Rattle.std.specs.Str.{bytes_eq}
use Rattle.typing_scopes.specs.Known.{program}
use Rattle.typing_scopes.proofs.FileScopes.{known_in_file}
use Rattle.typing_scopes.proofs.known.Known.is_in_file.Goals as goal

pub returns-then-has : goal.returns-then-has
returns-then-has c =
    c.if-has.true ∙ sym (known_in_file (program c.args.self.now) c.args.name.now ∙ ap (λ b. b || list_any (λ f. bytes_eq c.args.name.now f.name) c.args.self.now.functions) (sym c.has.ensures ∙ c.if-has.true))

pub returns-else-has : goal.returns-else-has
returns-else-has c =
    c.has-else-has.ensures ∙ sym (known_in_file (program c.args.self.now) c.args.name.now ∙ ap (λ b. b || list_any (λ f. bytes_eq c.args.name.now f.name) c.args.self.now.functions) (sym c.has.ensures ∙ c.if-has.false))
