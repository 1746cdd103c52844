use Rattle.std.proofs.Common.{subst}
use Rattle.std.proofs.lemmas.List.{take_rest}
use Rattle.c_lexer.specs.FirstForm.Fronts.{Stands}
use Rattle.c_lexer.proofs.FrontLemmas.{reaches_of}
use Rattle.c_lexer.proofs.first_form.front.front_at.Goals as goal

pub returns-clause-reaches : goal.returns-clause-reaches
returns-clause-reaches c = reaches_of _ _ (subst (λ r. Stands r c.front_of.result) (take_rest c.args.text.now c.args.at) c.front_of.ensures)
