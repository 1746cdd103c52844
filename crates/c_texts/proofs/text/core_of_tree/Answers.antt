use Rattle.std.proofs.Common.{subst}
use Rattle.c_grammar.specs.Programs.{IsTreeOf}
use Rattle.reading_laws.proofs.Trees.{trees_are_parsed, sources_are_shallow}
use Rattle.c_texts.proofs.text.core_of_tree.Goals as goal

pub returns-in-Ok-clause-stands : goal.returns-in-Ok-clause-stands
returns-in-Ok-clause-stands c = record {
  read = record { tokens = c.args.tokens.now; tree = c.args.tree.now; lexed = c.requires.lexed; parsed = c.requires.parsed };
  elaborated = c.in-Ok.ensures.gives;
}

pub returns-in-Ok-clause-formed : goal.returns-in-Ok-clause-formed
returns-in-Ok-clause-formed c = c.in-Ok.ensures.formed (trees_are_parsed c.args.mode c.args.text.now c.args.tokens.now c.args.tree.now c.requires.lexed c.requires.parsed)

pub returns-in-Ok-clause-source : goal.returns-in-Ok-clause-source
returns-in-Ok-clause-source c = λ h.
    c.in-Ok.ensures.source h (trees_are_parsed c.args.mode c.args.text.now c.args.tokens.now c.args.tree.now c.requires.lexed c.requires.parsed)
    (sources_are_shallow c.args.text.now c.args.tokens.now c.args.tree.now c.requires.lexed (subst (λ m. IsTreeOf m c.args.text.now c.args.tokens.now c.args.tree.now) h c.requires.parsed))

pub returns-in-Err-clause-refused : goal.returns-in-Err-clause-refused
returns-in-Err-clause-refused c = λ q. (record { tokens = c.args.tokens.now; tree = c.args.tree.now; lexed = c.requires.lexed; parsed = c.requires.parsed }, c.in-Err.ensures.gives q)
