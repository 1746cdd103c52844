-- Blocks are read exactly, and leaves spell one block at most.
use Rattle.std.proofs.Common.{◌≡◌, suc, max, false, [], Some, refl, sym, ◌∙◌, append-nil, arith}
use Rattle.c_grammar.specs.Statements.{block}
use Rattle.c_words.proofs.Reading.{Ends, same_pair}
use Rattle.c_statements.specs.StatementReading.{block_at}
use Rattle.c_statements.specs.Exactness.{ReadsBlocks, HaveOneBlock}
use Rattle.c_statements.proofs.StatementLaws.{block_exact}

at_end : Ends (λ x. false) []
at_end = record { ends = refl }

pub reads_blocks : ReadsBlocks
reads_blocks k ls a = ((λ h. (block_exact k).sound.takes ls a [] h), (λ t. (block_exact k).complete.gives ls a [] t at_end))

pub have_one_block : HaveOneBlock
have_one_block a b first second same =
    let k = suc (max (block a).nesting (block b).nesting) in
    let ls = (block a).leaves in
    let x : block_at k ls ≡ Some (a, []) =
    (block_exact k).complete.gives ls a [] (record { spelled = sym (append-nil (block a).leaves); levelled = first; below = omega arith }) at_end in
    let y : block_at k ls ≡ Some (b, []) =
    (block_exact k).complete.gives ls b [] (record { spelled = same ∙ sym (append-nil (block b).leaves); levelled = second; below = omega arith }) at_end in
    (same_pair (sym x ∙ y)).0
