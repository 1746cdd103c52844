-- Whole texts.
use Rattle.std.proofs.Common.{◌≡◌, List, ℕ, map, Ok, Err, sym, ap, subst, ◌∙◌}
use Rattle.std.specs.Prelude.{IfOk}
use Rattle.c_words.specs.declared.word.Mode.{Mode}
use Rattle.c_words.specs.declared.word.Mode.TheVariants as mode
use Rattle.c_grammar.specs.declared.program.Item.{Item}
use Rattle.c_grammar.specs.declared.program.ProgramTree.{ProgramTree}
use Rattle.step_meaning.specs.declared.program.Core.{Core}
use Rattle.step_meaning.specs.WellFormed.{IsWellFormed}
use Rattle.step_meaning.specs.Sources.{IsSource}
use Rattle.typing_rules.specs.declared.fault.TypeFault.{TypeFault}
use Rattle.typing_rules.specs.Checked.{Checked, ◌>>=◌, Gives}
use Rattle.typing_rules.specs.FileScope.{Program}
use Rattle.typing_rules.specs.Programs.{items, start, whole, elaborated, elaboration}
use Rattle.typing_rules.specs.TreesOfDeclarations as trees
use Rattle.typing_laws.specs.ParsedSyntax.{ItemsParsed}
use Rattle.typing_laws.specs.ShallowSyntax.{ItemsShallow}
use Rattle.typing_laws.proofs.FormedCores.{cores_formed}
use Rattle.typing_laws.proofs.SourceCores.{cores_are_sources}

pub given : {A : Type 0} (P : A → Type 0) (o r : Checked A) → Gives o r → ((a : A) → o ≡ Ok a → P a) → IfOk r P
given P o (Ok a) e h = h a e
given P o (Err e) k h = tt

module _ (m : Mode) (text : List ℕ) (tree : ProgramTree) (p : Program) (ts : List Item) (started : p ≡ start m text (trees.program tree)) (all : ts ≡ tree.items) where
  items_of : items (trees.program tree) (start m text (trees.program tree)) ≡ items (map trees.item ts) p
  unfolding trees.program
  items_of = ap (items (map trees.item tree.items)) (sym started) ∙ ap (λ ts. items (map trees.item ts) p) (sym all)

  pub elaboration_broken : (e : TypeFault) → items (map trees.item ts) p ≡ Err e → elaboration m text tree ≡ Err e
  unfolding elaboration elaborated
  elaboration_broken e h = ap (λ c. c >>= whole (trees.program tree)) (items_of ∙ h)

  pub elaboration_by : (q : Program) → items (map trees.item ts) p ≡ Ok q → whole (trees.program tree) q ≡ elaboration m text tree
  unfolding elaboration elaborated
  elaboration_by q h = sym (ap (λ c. c >>= whole (trees.program tree)) (items_of ∙ h))

pub formed : (m : Mode) (text : List ℕ) (tree : ProgramTree) (r : Checked Core) → Gives (elaboration m text tree) r → IfOk r (λ q. ItemsParsed text (trees.program tree) → IsWellFormed q)
unfolding elaboration
formed m text tree r h = given (λ q. ItemsParsed text (trees.program tree) → IsWellFormed q) (elaboration m text tree) r h (λ q e parsed. cores_formed m text (trees.program tree) q parsed e)

pub sources : (m : Mode) (text : List ℕ) (tree : ProgramTree) (r : Checked Core) → Gives (elaboration m text tree) r → IfOk r (λ q. m ≡ mode.Source → ItemsParsed text (trees.program tree) → ItemsShallow (trees.program tree) → IsSource q)
unfolding elaboration
sources m text tree r h =
    given (λ q. m ≡ mode.Source → ItemsParsed text (trees.program tree) → ItemsShallow (trees.program tree) → IsSource q) (elaboration m text tree) r h (λ q e source parsed shallow.
    cores_are_sources text (trees.program tree) q parsed shallow (subst (λ m. elaborated m text (trees.program tree) ≡ Ok q) source e))
