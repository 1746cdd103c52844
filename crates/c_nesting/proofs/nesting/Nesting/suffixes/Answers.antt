use Rattle.std.proofs.Common.{◌≡◌, ◌<◌, suc, true, false, nat_lt, sym, ap, ◌∙◌, arith}
use Rattle.c_words.specs.Written.{run}
use Rattle.c_grammar.specs.Expressions.{suffix}
use Rattle.c_words.proofs.Turns.{nothing_left}
use Rattle.c_nesting.proofs.NestingLaws.{run_none, run_more, run_stop}
use Rattle.c_nesting.proofs.nesting.Nesting.suffixes.Goals as goal

pub returns-then-not-suffix : goal.returns-then-not-suffix
returns-then-not-suffix g c =
    let n = suc c.args.self.now.below in
    let h : nat_lt (suffix c.in-Some.tree.now).nesting n ≡ false = sym c.suffix.ensures ∙ c.if-not-suffix.true in
    sym (c.loop-tree.invariant.1 ∙ ap (λ l. nat_lt (run suffix l).nesting n) c.in-Some.ensures.cases.0 ∙ run_stop suffix n c.in-Some.tree.now c.in-Some.rest.now h)

pub loop-tree-preserved : goal.loop-tree-preserved
loop-tree-preserved g c =
    let n = suc c.args.self.now.below in
    let h : nat_lt (suffix c.in-Some.tree.now).nesting n ≡ true = sym c.suffix.ensures ∙ c.if-not-suffix.false in
    (c.loop-tree.invariant.0, c.loop-tree.invariant.1 ∙ ap (λ l. nat_lt (run suffix l).nesting n) c.in-Some.ensures.cases.0 ∙ run_more suffix n c.in-Some.tree.now c.in-Some.rest.now h)

pub returns : goal.returns
returns g c =
    let n = suc c.args.self.now.below in
    let some : 0 < n = omega arith in
    let empty = nothing_left c.loop-tree.left.now c.in_default.ensures.cases in
    sym (c.loop-tree.invariant.1 ∙ ap (λ l. nat_lt (run suffix l).nesting n) empty ∙ run_none suffix n some)
