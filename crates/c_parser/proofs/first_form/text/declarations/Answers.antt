use Rattle.std.proofs.Common.{◌≡◌, ◌++◌, ◌∷◌, [], None, Some, length, map, sym, ap, ◌∙◌, rules, arith, true, false, length-append, refl}
use Rattle.std.proofs.lemmas.Grind.{common_steps}
use Rattle.std.proofs.lemmas.List.{map-append}
use Rattle.std.specs.String.{string_bytes}
use Rattle.c_parser.specs.FirstForm.Reading as spec
use Rattle.c_parser.proofs.FirstForm.Many.{Turn-first, Turn-next, Turn-fails, Turn-last}
use Rattle.c_parser.proofs.FirstForm.Spending.{declaration-spends}
use Rattle.c_parser.proofs.first_form.text.declarations.Goals as goal

pub loop-alloc-init : goal.loop-alloc-init
unfolding spec.declarations
loop-alloc-init c = rw (c.new-found.ensures.items, c.requires) (record {
  turn = Turn-first spec.begins_declaration spec.declaration c.args.reader.now;
  named = refl;
  room = omega arith;
})

pub returns-in_err-name-clause-read : goal.returns-in_err-name-clause-read
returns-in_err-name-clause-read c =
    let whole = spec.declarations c.args.reader.now in
    let found = map string_bytes c.loop-alloc.found.items in
    let goes_on : spec.begins_declaration c.loop-alloc.reader.words ≡ true = cc in
    let fails : spec.declaration c.loop-alloc.names c.loop-alloc.reader ≡ None → whole ≡ None =
    λ e. Turn-fails spec.begins_declaration spec.declaration whole found c.loop-alloc.reader c.loop-alloc.invariant.turn goes_on (rw (← c.loop-alloc.invariant.named) e) in
    first_of (search rules, grind (arith, common_steps))

pub loop-alloc-smaller : goal.loop-alloc-smaller
loop-alloc-smaller c = declaration-spends c.loop-alloc.names c.loop-alloc.reader _ _ c.in_ok-name.ensures.read

pub loop-alloc-preserved : goal.loop-alloc-preserved
loop-alloc-preserved c =
    let whole = spec.declarations c.args.reader.now in
    let found = map string_bytes c.loop-alloc.found.items in
    let goes_on : spec.begins_declaration c.loop-alloc.reader.words ≡ true = cc in
    let falls = declaration-spends c.loop-alloc.names c.loop-alloc.reader _ _ c.in_ok-name.ensures.read in
    let items : map string_bytes c.push.new.self.items ≡ found ++ c.in_ok-name.name.now ∷ [] =
    ap (map string_bytes) c.in_ok-push.ensures.items ∙ map-append string_bytes c.loop-alloc.found.items (c.in_ok-from_str.field-0 ∷ []) ∙ ap (λ x. found ++ x ∷ []) c.in_ok-from_str.ensures.ok in
    let names : c.push-in-loop-alloc.new.self ≡ found ++ c.in_ok-name.name.now ∷ [] = c.in_ok-push-2.ensures ∙ ap (λ xs. xs ++ c.in_ok-name.name.now ∷ []) c.loop-alloc.invariant.named in
    let read : spec.declaration found c.loop-alloc.reader ≡ Some (c.in_ok-name.name.now, c.declaration.new.reader) = rw (← c.loop-alloc.invariant.named) c.in_ok-name.ensures.read in
    record {
      turn = rw items (Turn-next spec.begins_declaration spec.declaration whole found c.loop-alloc.reader _ _ c.loop-alloc.invariant.turn goes_on read falls);
      named = names ∙ sym items;
      room = let room = c.loop-alloc.invariant.room in omega (arith, ap length c.in_ok-push-2.ensures, length-append c.loop-alloc.names (c.in_ok-name.name.now ∷ []));
    }

pub returns-clause-read : goal.returns-clause-read
returns-clause-read c =
    let ends : spec.begins_declaration c.loop-alloc.reader.words ≡ false = cc in
    Turn-last spec.begins_declaration spec.declaration (spec.declarations c.args.reader.now) (map string_bytes c.loop-alloc.found.items) c.loop-alloc.reader c.loop-alloc.invariant.turn ends
