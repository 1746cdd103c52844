use Rattle.c_parser.proofs.FirstForm.TokenFacts.{name_ascii}
use Rattle.c_parser.proofs.first_form.reader.Reader.name.Goals as goal

pub ascii_text-requires : goal.ascii_text-requires
ascii_text-requires c = name_ascii _ (rw c.in-Name.is at c.in_ok-found.ensures.allowed.token)
