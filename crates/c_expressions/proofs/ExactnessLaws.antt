-- Expressions are read exactly, and leaves spell one expression at most.
use Rattle.std.proofs.Common.{◌≡◌, ℕ, suc, max, true, List, [], ◌++◌, Some, refl, sym, ◌∙◌, append-nil, arith}
use Rattle.c_words.specs.declared.word.Leaf.{Leaf}
use Rattle.c_grammar.specs.declared.expression.Assign.{Assign}
use Rattle.c_words.specs.Written.{Takes}
use Rattle.c_grammar.specs.Expressions.{assign}
use Rattle.c_words.specs.Parsing.{word_at}
use Rattle.c_words.proofs.Reading.{Ends, same_pair}
use Rattle.c_expressions.specs.ExpressionReading.{inner_at, goes_on_assign}
use Rattle.c_expressions.specs.Exactness.{ReadsExpressions, HaveOneExpression}
use Rattle.c_expressions.proofs.ExpressionLaws.{exact}

at_end : Ends goes_on_assign []
unfolding word_at
at_end = record { ends = refl }

pub reads_expressions : ReadsExpressions
reads_expressions k ls a = ((λ h. (exact k).assign_sound.takes ls a [] h), (λ t. (exact k).assign_complete.gives ls a [] t at_end))

pub have_one_expression : HaveOneExpression
have_one_expression a b first second same =
    let k = suc (max (assign a).nesting (assign b).nesting) in
    let ls = (assign a).leaves in
    let x : (inner_at k).assign ls ≡ Some (a, []) =
    (exact k).assign_complete.gives ls a [] (record { spelled = sym (append-nil (assign a).leaves); levelled = first; below = omega arith }) at_end in
    let y : (inner_at k).assign ls ≡ Some (b, []) =
    (exact k).assign_complete.gives ls b [] (record { spelled = same ∙ sym (append-nil (assign b).leaves); levelled = second; below = omega arith }) at_end in
    (same_pair (sym x ∙ y)).0
