use Rattle.std.proofs.Common.{◌+◌, ◌*◌, drop}
use Rattle.std.specs.Prelude.{max}
use Rattle.step_meaning.specs.declared.expr.Expr.{size-Expr}
use Rattle.step_meaning.specs.declared.expr.Place_.{size-Place_}
use Rattle.normal_expressions.specs.Code.{arguments_code_in}
use Rattle.normal_expressions.proofs.Arguments.{Leaves}
use Rattle.normal_expressions.proofs.expressions.+expressions.Given as goal

abbrev pub decreases-expression_code : goal.decreases-expression_code
decreases-expression_code l = 4 * size-Expr l.e.now

abbrev pub decreases-place_code : goal.decreases-place_code
decreases-place_code l = 4 * size-Place_ l.p.now

abbrev pub decreases-convert_code : goal.decreases-convert_code
decreases-convert_code l = 4 * size-Expr l.e.now + 1

abbrev pub decreases-unary_code : goal.decreases-unary_code
decreases-unary_code l = 4 * size-Expr l.e.now + 1

abbrev pub decreases-not_code : goal.decreases-not_code
decreases-not_code l = 4 * size-Expr l.e.now + 1

abbrev pub decreases-put_char_code : goal.decreases-put_char_code
decreases-put_char_code l = 4 * size-Expr l.e.now + 1

abbrev pub decreases-malloc_code : goal.decreases-malloc_code
decreases-malloc_code l = 4 * size-Expr l.e.now + 1

abbrev pub decreases-free_code : goal.decreases-free_code
decreases-free_code l = 4 * size-Expr l.e.now + 1

abbrev pub decreases-discard_code : goal.decreases-discard_code
decreases-discard_code l = 4 * size-Expr l.e.now + 1

abbrev pub decreases-deref_code : goal.decreases-deref_code
decreases-deref_code l = 4 * size-Expr l.e.now + 1

abbrev pub decreases-load_code : goal.decreases-load_code
decreases-load_code l = 4 * size-Place_ l.p.now + 1

abbrev pub decreases-address_code : goal.decreases-address_code
decreases-address_code l = 4 * size-Place_ l.p.now + 1

abbrev pub decreases-member_code : goal.decreases-member_code
decreases-member_code l = 4 * size-Place_ l.p.now + 1

abbrev pub decreases-binary_code : goal.decreases-binary_code
decreases-binary_code l = 4 * max (size-Expr l.left.now) (size-Expr l.right.now) + 1

abbrev pub decreases-compare_code : goal.decreases-compare_code
decreases-compare_code l = 4 * max (size-Expr l.e.now) (size-Expr l.f.now) + 1

abbrev pub decreases-move_code : goal.decreases-move_code
decreases-move_code l = 4 * max (size-Expr l.e.now) (size-Expr l.f.now) + 1

abbrev pub decreases-difference_code : goal.decreases-difference_code
decreases-difference_code l = 4 * max (size-Expr l.e.now) (size-Expr l.f.now) + 1

abbrev pub decreases-both_code : goal.decreases-both_code
decreases-both_code l = 4 * max (size-Expr l.e.now) (size-Expr l.f.now) + 1

abbrev pub decreases-either_code : goal.decreases-either_code
decreases-either_code l = 4 * max (size-Expr l.e.now) (size-Expr l.f.now) + 1

abbrev pub decreases-choose_code : goal.decreases-choose_code
decreases-choose_code l = 4 * max (size-Expr l.e.now) (max (size-Expr l.f.now) (size-Expr l.h.now)) + 2

abbrev pub decreases-branch : goal.decreases-branch
decreases-branch l = 4 * size-Expr l.e.now + 1

abbrev pub decreases-assign_code : goal.decreases-assign_code
decreases-assign_code l = 4 * max (size-Place_ l.p.now) (size-Expr l.e.now) + 1

abbrev pub decreases-update_code : goal.decreases-update_code
decreases-update_code l = 4 * max (size-Place_ l.p.now) (size-Expr l.e.now) + 1

abbrev pub decreases-index_code : goal.decreases-index_code
decreases-index_code l = 4 * max (size-Place_ l.p.now) (size-Expr l.e.now) + 1

abbrev pub decreases-arguments_code : goal.decreases-arguments_code
decreases-arguments_code l = 4 * goal.size-arguments_code l + 1

abbrev pub decreases-invoke_code : goal.decreases-invoke_code
decreases-invoke_code l = 4 * goal.size-invoke_code l + 2

abbrev pub invariant-arguments_code-loop-e : goal.invariant-arguments_code-loop-e
invariant-arguments_code-loop-e l =
    Leaves l.fn.code l.fn.registers (arguments_code_in l.fn.scope l.fn.es l.fn.registers.next) (arguments_code_in l.fn.scope (drop l.e-index l.fn.es) l.registers.next) l.code l.registers l.values
