use Rattle.std.proofs.Common.{◌≡◌, ◌∙◌, length, map, sym, arith}
use Rattle.std.proofs.lemmas.List.{length-map}
use Rattle.std.specs.String.{string_bytes}
use Rattle.c_parser.proofs.FirstForm.Spending.{optional_property-keeps}
use Rattle.c_parser.proofs.first_form.text.program.Goals as goal

pub all_functions-requires-clause-room : goal.all_functions-requires-clause-room
all_functions-requires-clause-room c =
    let globals = c.in_ok-globals.globals in
    let count : c.len.result ≡ length (map string_bytes globals.items) = c.len.ensures ∙ globals.ok.0 ∙ sym (length-map globals.items string_bytes) in
    let keeps : c.declarations.new.reader.budget ≡ c.optional_property.new.reader.budget =
    optional_property-keeps c.args.mode (map string_bytes globals.items) _ _ _ _ _ c.in_ok-globals.ensures.names count c.in_ok-property.ensures in
    let room = c.in_ok-globals.ensures.room in
    let below = c.requires in
    omega arith
