-- Points within the definition of a struct.
use Rattle.std.specs.Prelude.{◌≡◌, not, nat_le, List, [], ◌∷◌, ◌++◌, sum_by}
use Rattle.c_words.specs.declared.word.Leaf.{Leaf}
use Rattle.step_meaning.specs.declared.program.Declared.{Declared as Named}
use Rattle.step_meaning.specs.TypeRules.{cells, most_cells}
use Rattle.typing_rules.specs.declared.fault.TypeFault.TheVariants.{TooLarge}
use Rattle.typing_rules.specs.Checked.{Checked, unless}
use Rattle.typing_rules.specs.Environment.{Environment, place_of}
use Rattle.typing_rules.specs.FileScope.{Program, tags, seen, bytes}
use Rattle.typing_scopes.specs.declared.known.Known.{Known}
use Rattle.typing_scopes.specs.Known.{program, frame}
use Rattle.typing_scopes.specs.States.{no_frame}
use Rattle.typing_files.specs.Points.{IsSteady}

-- what its members see: the tag is known, and the struct isn't complete
unfoldable pub within : Program → Leaf → Environment
within p tag = seen p (tags p ++ (bytes p tag ∷ []))

-- the members of the struct with this tag are being read
pub record IsInStruct (k : Known) (tag : Leaf) : Type 0 where
  pub tags : k.tags ≡ tags (program k) ++ (bytes (program k) tag ∷ [])
  pub frame : frame k ≡ no_frame
  pub steady : IsSteady (program k)

-- its own limit
abbrev pub limited : Program → Leaf → List Named → Checked (Unit {0})
limited p tag members = unless (not (nat_le (sum_by (λ d. cells p.layouts d.ctype) members) most_cells)) (TooLarge (place_of tag))
