use Rattle.std.proofs.Common.{◌≡◌, [], None, rules, arith, true, false}
use Rattle.std.proofs.lemmas.Grind.{common_steps}
use Rattle.c_parser.specs.FirstForm.Reading as spec
use Rattle.c_parser.proofs.FirstForm.Many.{Turn-first, Turn-next, Turn-fails, Turn-last}
use Rattle.c_parser.proofs.FirstForm.Spending.{next_statement-spends}
use Rattle.c_parser.proofs.first_form.statement.body.Goals as goal

pub loop-found-init : goal.loop-found-init
unfolding spec.body
loop-found-init c = let s = c.args.scope.now in rw c.new-found.ensures.items (Turn-first spec.body_goes_on (spec.next_statement s.mode s.variables s.names) c.args.reader.now)

pub returns-in_err-next_statement : goal.returns-in_err-next_statement
unfolding spec.next_statement
returns-in_err-next_statement c =
    let s = c.args.scope.now in
    let item = spec.next_statement s.mode s.variables s.names in
    let whole = spec.body s.mode s.variables s.names c.args.reader.now in
    let goes_on : spec.body_goes_on c.loop-found.reader.words ≡ true = cc in
    let fails : item [] c.loop-found.reader ≡ None → whole ≡ None = λ e. Turn-fails spec.body_goes_on item whole c.loop-found.found.items c.loop-found.reader c.loop-found.invariant goes_on e in
    first_of (search rules, grind (arith, common_steps))

pub loop-found-smaller : goal.loop-found-smaller
loop-found-smaller c = let s = c.args.scope.now in next_statement-spends s.mode s.variables s.names [] c.loop-found.reader _ _ c.requires.variables c.in_ok-next_statement.ensures

pub loop-found-preserved : goal.loop-found-preserved
unfolding spec.next_statement
loop-found-preserved c =
    let s = c.args.scope.now in
    let item = spec.next_statement s.mode s.variables s.names in
    let whole = spec.body s.mode s.variables s.names c.args.reader.now in
    let goes_on : spec.body_goes_on c.loop-found.reader.words ≡ true = cc in
    rw c.in_ok-push.ensures.items
    (Turn-next spec.body_goes_on item whole c.loop-found.found.items c.loop-found.reader _ _ c.loop-found.invariant goes_on c.in_ok-next_statement.ensures
    (next_statement-spends s.mode s.variables s.names [] c.loop-found.reader _ _ c.requires.variables c.in_ok-next_statement.ensures))

pub returns : goal.returns
returns c =
    let s = c.args.scope.now in
    let item = spec.next_statement s.mode s.variables s.names in
    let ends : spec.body_goes_on c.loop-found.reader.words ≡ false = cc in
    Turn-last spec.body_goes_on item (spec.body s.mode s.variables s.names c.args.reader.now) c.loop-found.found.items c.loop-found.reader c.loop-found.invariant ends
