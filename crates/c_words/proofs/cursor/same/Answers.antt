use Rattle.std.proofs.Common.{ap₂, nat_eq}
use Rattle.c_words.proofs.Tags.{tag_is_index}
use Rattle.c_words.proofs.cursor.same.Goals as goal

pub returns : goal.returns
returns c = ap₂ nat_eq (tag_is_index c.args.a) (tag_is_index c.args.b)
