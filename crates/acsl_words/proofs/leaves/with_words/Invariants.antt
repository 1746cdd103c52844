use Rattle.std.proofs.Common.{◌≡◌, map, take}
use Rattle.acsl_words.specs.AnnotationWords as spec
use Rattle.acsl_words.proofs.leaves.with_words.Given as goal

abbrev pub invariant-loop-leaf : goal.invariant-loop-leaf
invariant-loop-leaf l = l.leaves.items ≡ map (spec.annotation_leaf l.text) (take l.leaf-index l.in_c)
