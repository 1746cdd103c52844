use Rattle.std.proofs.Common.{arith, inl, inr}
use Rattle.std.proofs.lemmas.Bool.{cases_lt}
use Rattle.std.proofs.lemmas.List.Sorted.{searched}
use Rattle.run_memory.proofs.locate.place_of.Goals as goal

pub returns-in-Err : goal.returns-in-Err
returns-in-Err c =
    let w = searched c.args.numbers.now c.args.wanted c.binary_search.result c.binary_search.ensures.position c.requires in
    let v = rw c.in-Err.is at w in
    λ k h e. elim (cases_lt k c.in-Err.field-0) [
      | inl l ↦ let u = v.1 k l in omega (arith, u, e)
      | inr l ↦ let u = v.2 k l h in omega (arith, u, e)
    ]
