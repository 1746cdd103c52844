use Rattle.c_words.specs.Parsing.{chain_by}
use Rattle.c_type_names.proofs.chain.chain.Goals as goal

pub returns : goal.returns
unfolding chain_by
returns g c = rw c.in_ok-first.ensures c.linked.ensures
