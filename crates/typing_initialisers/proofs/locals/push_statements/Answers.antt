use Rattle.std.proofs.Common.{rules, ◌≡◌, ◌∷◌, [], suc, length, Ok, sym, ap, ◌∙◌, arith}
use Rattle.std.specs.Vec.Iter.{into_iter_items}
use Rattle.step_meaning.specs.declared.stmt.Stmt.TheVariants as core
use Rattle.typing_rules.specs.Statements.{init_statements}
use Rattle.typing_declarators.specs.Adding.{extended}
use Rattle.typing_declarators.proofs.LayerLaws.{same_Ok}
use Rattle.typing_declarators.proofs.Lists.{nothing_more}
use Rattle.typing_initialisers.proofs.LocalLaws.{local, none_left, first_then, no_more}
use Rattle.typing_initialisers.proofs.locals.push_statements.Goals as goal

pub loop-cell-preserved : goal.loop-cell-preserved
loop-cell-preserved c =
    let at = c.loop-cell in
    let n = c.args.index in
    let x = c.in-Some.cell in
    let steps : into_iter_items at.cell-iterator ≡ x ∷ into_iter_items c.next.new.self = c.in-Some.ensures.steps.0 in
    let next : suc at.offset ≡ c.in_ok-offset.offset = search rules in
    let added : extended at.all (Ok (core.Init (local n) at.offset x.0 x.1 ∷ [])) ≡ Ok c.push_statement.new.all =
    ap (λ s. extended at.all (Ok (s ∷ []))) (same_Ok (core.Init (local n) at.offset x.0 x.1) c.in_ok-statement.statement c.in_ok-statement.ensures) ∙ c.in_ok-push_statement.ensures in (
      λ g r.
          at.invariant.0 g r
          ∙ ap (λ cs. extended at.all (Ok (init_statements g r n at.offset cs))) steps
          ∙ first_then g r n at.offset x (into_iter_items c.next.new.self) at.all c.push_statement.new.all added
          ∙ ap (λ o. extended c.push_statement.new.all (Ok (init_statements g r n o (into_iter_items c.next.new.self)))) next,
      let was = at.invariant.1 in
          let gone = c.in-Some.ensures.steps.1 in
          let short = ap length steps in
          omega arith,
    )

pub returns : goal.returns
returns c =
    let at = c.loop-cell in
    let none = c.in-None.ensures.steps in
    let empty : into_iter_items at.cell-iterator ≡ [] = none_left _ (sym at.invariant.1 ∙ none.0) in
    λ g r.
    at.invariant.0 g r
    ∙ ap (λ cs. extended at.all (Ok (init_statements g r c.args.index at.offset cs))) empty
    ∙ no_more g r c.args.index at.offset at.all
    ∙ nothing_more at.all
