use Rattle.std.proofs.Common.{◌≡◌, [], ◌∷◌, ◌++◌, true, false, ◌∙◌, sym, ap, ap₂, arith}
use Rattle.std.proofs.Math.Seq.{take-suc}
use Rattle.c_words.specs.Words.{is_kept, leaves_of}
use Rattle.c_words.proofs.LeafLaws.{leaves-kept, leaves-dropped}
use Rattle.c_words.proofs.leaf.leaves_of.Goals as goal
use Rattle.c_words.proofs.leaf.leaves_of.Goals.{then-is_kept+in_ok-push, else-is_kept}

pub loop-token-init : goal.loop-token-init
unfolding leaves_of
loop-token-init c = c.new-leaves.ensures.items

pub loop-token-preserved : goal.loop-token-preserved
loop-token-preserved c = elim c.if-is_kept.branch [
  | then-is_kept+in_ok-push w ↦
      ap (λ v. v.items) w.leaves-is
      ∙ w.in_ok-push.ensures.items
      ∙ ap₂ (λ before leaf. before ++ leaf ∷ []) c.loop-token.invariant w.leaf_of.ensures
      ∙ sym (leaves-kept _ _ c.args.tokens.now c.loop-token.token-index _ (omega (arith, c.loop-token-test.true)) (sym w.if-is_kept.ensures))
  | else-is_kept w ↦
      ap (λ v. v.items) w.leaves-is
      ∙ c.loop-token.invariant
      ∙ sym (leaves-dropped _ _ c.args.tokens.now c.loop-token.token-index _ (omega (arith, c.loop-token-test.true)) (sym w.if-is_kept.ensures))
]
