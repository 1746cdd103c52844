use Rattle.std.proofs.Common.{◌≡◌, ◌≤◌, ◌++◌, ◌∷◌, [], List, None, length, map, sym, ap, ◌∙◌, rules, arith, true, false, length-append, append-nil, refl}
use Rattle.std.proofs.lemmas.Grind.{common_steps}
use Rattle.std.proofs.lemmas.List.{map-append}
use Rattle.c_parser.specs.declared.first_form.fixed.Fixed.TheVariants as fixed
use Rattle.c_parser.specs.FirstForm.Program.{Function, function_of}
use Rattle.c_parser.specs.FirstForm.Spelling.{names_of}
use Rattle.c_parser.specs.FirstForm.Reading as spec
use Rattle.c_parser.proofs.FirstForm.Many.{Turn-first, Turn-next, Turn-fails, Turn-last}
use Rattle.c_parser.proofs.FirstForm.FunctionLaws.{names_of-push}
use Rattle.c_parser.proofs.FirstForm.Spending.{function-spends}
use Rattle.c_parser.proofs.first_form.text.functions.Goals as goal

pub loop-alloc-init : goal.loop-alloc-init
unfolding spec.functions
loop-alloc-init c =
    let s = c.args.scope.now in
    rw c.new-found.ensures.items (record {
      turn = Turn-first (spec.is_at 0 fixed.Void) (λ found. spec.function s.mode (length s.names) (s.names ++ names_of found)) c.args.reader.now;
      named = sym (append-nil s.names);
      mode = refl;
      variables = refl;
      room = omega arith;
    })

pub returns-in_err-function-clause-read : goal.returns-in_err-function-clause-read
returns-in_err-function-clause-read c =
    let s = c.args.scope.now in
    let item = λ (found : List Function). spec.function s.mode (length s.names) (s.names ++ names_of found) in
    let whole = spec.functions s.mode s.names c.args.reader.now in
    let found = map function_of c.loop-alloc.found.items in
    let goes_on : spec.is_at 0 fixed.Void c.loop-alloc.reader.words ≡ true = cc in
    let variables : c.loop-alloc.scope.variables ≡ length s.names = c.loop-alloc.invariant.variables ∙ c.requires.variables in
    let same : spec.function c.loop-alloc.scope.mode c.loop-alloc.scope.variables c.loop-alloc.scope.names c.loop-alloc.reader ≡ item found c.loop-alloc.reader =
    rw (c.loop-alloc.invariant.mode, variables, c.loop-alloc.invariant.named) refl in
    let fails : spec.function c.loop-alloc.scope.mode c.loop-alloc.scope.variables c.loop-alloc.scope.names c.loop-alloc.reader ≡ None → whole ≡ None =
    λ e. Turn-fails (spec.is_at 0 fixed.Void) item whole found c.loop-alloc.reader c.loop-alloc.invariant.turn goes_on (sym same ∙ e) in
    first_of (search rules, grind (arith, common_steps))

pub loop-alloc-smaller : goal.loop-alloc-smaller
loop-alloc-smaller c =
    let s = c.args.scope.now in
    let now = c.loop-alloc.scope in
    let within : now.variables ≤ length now.names =
    let variables = c.loop-alloc.invariant.variables in let first = c.requires.variables in
    omega (arith, ap length c.loop-alloc.invariant.named, length-append s.names (names_of (map function_of c.loop-alloc.found.items))) in
    function-spends now.mode now.variables now.names c.loop-alloc.reader _ _ within c.in_ok-function.ensures.read

pub loop-alloc-preserved : goal.loop-alloc-preserved
loop-alloc-preserved c =
    let s = c.args.scope.now in
    let now = c.loop-alloc.scope in
    let item = λ (found : List Function). spec.function s.mode (length s.names) (s.names ++ names_of found) in
    let whole = spec.functions s.mode s.names c.args.reader.now in
    let found = map function_of c.loop-alloc.found.items in
    let last = function_of c.in_ok-function.field-0 in
    let goes_on : spec.is_at 0 fixed.Void c.loop-alloc.reader.words ≡ true = cc in
    let variables : now.variables ≡ length s.names = c.loop-alloc.invariant.variables ∙ c.requires.variables in
    let within : now.variables ≤ length now.names =
    omega (arith, ap length c.loop-alloc.invariant.named, length-append s.names (names_of found)) in
    let falls = function-spends now.mode now.variables now.names c.loop-alloc.reader _ _ within c.in_ok-function.ensures.read in
    let same : spec.function now.mode now.variables now.names c.loop-alloc.reader ≡ item found c.loop-alloc.reader =
    rw (c.loop-alloc.invariant.mode, variables, c.loop-alloc.invariant.named) refl in
    let items : map function_of c.push.new.self.items ≡ found ++ last ∷ [] =
    ap (map function_of) c.in_ok-push.ensures.items ∙ map-append function_of c.loop-alloc.found.items (c.in_ok-function.field-0 ∷ []) in
    let named : c.function.new.scope.names ≡ s.names ++ names_of (found ++ last ∷ []) =
    c.in_ok-function.ensures.named ∙ ap (λ names. names ++ last.name ∷ []) c.loop-alloc.invariant.named ∙ names_of-push s.names found last in
    rw items (record {
      turn = Turn-next (spec.is_at 0 fixed.Void) item whole found c.loop-alloc.reader _ last c.loop-alloc.invariant.turn goes_on (sym same ∙ c.in_ok-function.ensures.read) falls;
      named = named;
      mode = c.in_ok-function.ensures.mode ∙ c.loop-alloc.invariant.mode;
      variables = c.in_ok-function.ensures.variables ∙ c.loop-alloc.invariant.variables;
      room = let room = c.loop-alloc.invariant.room in omega (arith, ap length c.in_ok-function.ensures.named, length-append now.names (last.name ∷ []));
    })

pub returns-clause-read : goal.returns-clause-read
returns-clause-read c =
    let s = c.args.scope.now in
    let item = λ (found : List Function). spec.function s.mode (length s.names) (s.names ++ names_of found) in
    let ends : spec.is_at 0 fixed.Void c.loop-alloc.reader.words ≡ false = cc in
    Turn-last (spec.is_at 0 fixed.Void) item (spec.functions s.mode s.names c.args.reader.now) (map function_of c.loop-alloc.found.items) c.loop-alloc.reader c.loop-alloc.invariant.turn ends
