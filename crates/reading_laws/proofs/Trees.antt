-- What the tree of a text says, from the tokens that it spells.
use Rattle.std.proofs.Common.{◌≡◌, ℕ, ◌≤◌, true, List, [], ◌∷◌, None, refl, subst, arith}
use Rattle.std.specs.Prelude.{All}
use Rattle.std.specs.List.{AllByRecursion}
use Rattle.std.proofs.lemmas.List.Elements.{All-head, All-tail}
use Rattle.c_lexer.specs.declared.token.Token.{Token}
use Rattle.c_lexer.specs.declared.profile.Profile.TheVariants as profile
use Rattle.c_lexer.specs.Lexing.{Tokens}
use Rattle.c_lexer.specs.Positions.{start}
use Rattle.c_lexer.specs.LexingLaws.{IsTokenIn}
use Rattle.c_lexer.proofs.SpellingLaws.{tokens_spelled}
use Rattle.c_words.specs.declared.word.Mode.{Mode}
use Rattle.c_words.specs.declared.word.Mode.TheVariants as mode
use Rattle.c_words.specs.Words.{leaves_of}
use Rattle.c_grammar.specs.declared.program.ProgramTree.{ProgramTree}
use Rattle.c_grammar.specs.Programs.{program, IsTreeOf}
use Rattle.typing_rules.specs.TreesOfDeclarations as trees
use Rattle.reading_laws.specs.ReadTrees.{TreesAreParsed, SourcesAreShallow}
use Rattle.reading_laws.proofs.ReadLeaves.{AreRead, tokens_read}
use Rattle.reading_laws.proofs.ReadParts.{Reads}
use Rattle.reading_laws.proofs.ReadItems.{items_parsed, items_shallow}

each_of : {A : Type 0} (P : A → Type 0) (xs : List A) → All P xs → AllByRecursion P xs
each_of P [] h = tt
each_of P (x ∷ xs) h = (All-head P x xs h, each_of P xs (All-tail P x xs h))

whole : (m : Mode) (text : List ℕ) (tokens : List Token) (p : ProgramTree) → Tokens text tokens None → IsTreeOf m text tokens p → Reads text (program p).nesting (program p)
whole m text tokens p lexed tree =
    let read : AreRead text (leaves_of m text tokens) = tokens_read m text tokens (each_of (IsTokenIn profile.C 0 text) tokens (tokens_spelled profile.C start true text tokens None lexed)) in
    record { leaves = subst (AreRead text) tree.spells.spelled read; levelled = tree.spells.levelled; nesting = omega arith }

pub trees_are_parsed : TreesAreParsed
unfolding trees.program
trees_are_parsed m text tokens p lexed tree = items_parsed text (program p).nesting p.items (whole m text tokens p lexed tree)

pub sources_are_shallow : SourcesAreShallow
unfolding trees.program
sources_are_shallow text tokens p lexed tree = items_shallow text (program p).nesting p.items (whole mode.Source text tokens p lexed tree) tree.within
