-- What it is for blocks to be read exactly, and for leaves to spell one block at most.
use Rattle.std.specs.Prelude.{◌≡◌, ◌↔◌, ℕ, true, List, [], Some}
use Rattle.c_words.specs.declared.word.Leaf.{Leaf}
use Rattle.c_grammar.specs.declared.statement.Block.{Block}
use Rattle.c_words.specs.Written.{Takes}
use Rattle.c_grammar.specs.Statements.{block}
use Rattle.c_statements.specs.StatementReading.{block_at}

-- reading gives a block, and leaves nothing, exactly where the block is levelled, nests below k and writes the leaves
abbrev pub ReadsBlocks : Type 0
ReadsBlocks = (k : ℕ) (ls : List Leaf) (a : Block) → (block_at k ls ≡ Some (a, [])) ↔ Takes k ls (block a) []

-- levelled blocks that write the same leaves are equal, however deep they nest
abbrev pub HaveOneBlock : Type 0
HaveOneBlock = (a b : Block) → (block a).levelled ≡ true → (block b).levelled ≡ true → (block a).leaves ≡ (block b).leaves → a ≡ b
