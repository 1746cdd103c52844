use Rattle.std.proofs.Common.{◌≡◌, ℕ, List, map, drop}
use Rattle.c_words.specs.Words as spec
use Rattle.acsl_words.proofs.leaves.word_in.Given as goal

abbrev pub invariant-loop-spelling : goal.invariant-loop-spelling
invariant-loop-spelling l =
    spec.word_in (map (λ p. (p.0.now, p.1)) l.table) l.bytes
    ≡ spec.word_in (map (λ p. (p.0.now, p.1)) (drop l.spelling-index l.table)) l.bytes
