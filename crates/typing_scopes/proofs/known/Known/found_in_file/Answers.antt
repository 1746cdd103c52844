use Rattle.std.proofs.Common.{◌≡◌, sym, ◌∙◌, ap₂, Some, None, position, refl, ℕ, Option}
use Rattle.typing_rules.specs.declared.operand.Entry.{Entry}
use Rattle.std.specs.Prelude.{option_and_then}
use Rattle.std.specs.Str.{bytes_eq}
use Rattle.typing_rules.specs.Environment.{or_else}
use Rattle.typing_scopes.specs.Found.{global_entry, file_function_entry}
use Rattle.typing_scopes.specs.Known.{program}
use Rattle.typing_scopes.proofs.FileScopes.{in_file}
use Rattle.typing_scopes.proofs.known.Known.found_in_file.Goals as goal

first_found : (e : ℕ → Option Entry) (r : Option Entry) {o : Option ℕ} {i : ℕ} {x : Entry} → o ≡ Some i → e i ≡ Some x → or_else (option_and_then e o) r ≡ Some x
first_found e r g h = rw (g, h) refl

pub returns-in-Some : goal.returns-in-Some
returns-in-Some c =
    let g : position (λ d. bytes_eq c.args.name.now d.name) c.args.self.now.globals ≡ Some c.in-Some.number = sym c.number.ensures.number ∙ c.in-Some.is in
    sym (in_file (program c.args.self.now) c.args.name.now ∙ first_found (global_entry c.args.self.now.globals) (option_and_then (file_function_entry c.args.self.now.functions) (position (λ f. bytes_eq c.args.name.now f.name) c.args.self.now.functions)) g (sym c.global_found.ensures))

pub returns-in-Some-number : goal.returns-in-Some-number
returns-in-Some-number c =
    let g : position (λ d. bytes_eq c.args.name.now d.name) c.args.self.now.globals ≡ None = sym c.number.ensures.number ∙ c.in_default.is in
    let f : position (λ f. bytes_eq c.args.name.now f.name) c.args.self.now.functions ≡ Some c.in-Some-number.number = sym c.number-2.ensures.number ∙ c.in-Some-number.is in
    sym (in_file (program c.args.self.now) c.args.name.now ∙ (ap₂ (λ a b. or_else (option_and_then (global_entry c.args.self.now.globals) a) (option_and_then (file_function_entry c.args.self.now.functions) b)) g f ∙ sym c.function_found.ensures))

pub returns-in-None : goal.returns-in-None
returns-in-None c =
    let g : position (λ d. bytes_eq c.args.name.now d.name) c.args.self.now.globals ≡ None = sym c.number.ensures.number ∙ c.in_default.is in
    let f : position (λ f. bytes_eq c.args.name.now f.name) c.args.self.now.functions ≡ None = sym c.number-2.ensures.number ∙ c.in-None.is in
    sym (in_file (program c.args.self.now) c.args.name.now ∙ ap₂ (λ a b. or_else (option_and_then (global_entry c.args.self.now.globals) a) (option_and_then (file_function_entry c.args.self.now.functions) b)) g f)
