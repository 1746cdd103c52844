use Rattle.std.proofs.Common.{◌≡◌, ◌-◌, Bool, true, false, [], ◌∷◌, length, map, Some, None, Ok, Err, sym, ap, ◌∙◌, rules, arith}
use Rattle.std.proofs.lemmas.Grind.{common_steps}
use Rattle.std.proofs.lemmas.Result.{err_from_is_err_and}
use Rattle.c_grammar.specs.declared.expression.Postfix.{out-Postfix}
use Rattle.c_grammar.specs.declared.expression.Product.{out-Product}
use Rattle.typing_objects.specs.Parts.{request}
use Rattle.typing_rules.specs.declared.fault.TypeFault.TheVariants.{Mismatch, ArgumentCount}
use Rattle.typing_rules.specs.Allocation.{allocated, objects}
use Rattle.typing_rules.specs.Allocation as allocation
use Rattle.typing_rules.specs.Checked.{◌>>=◌}
use Rattle.typing_rules.specs.Environment.{place_of}
use Rattle.typing_rules.specs.Expressions.{operand, arguments, requested}
use Rattle.typing_rules.specs.Operands.{value}
use Rattle.typing_rules.specs.Syntax as syntax
use Rattle.typing_rules.specs.TreesOfExpressions as trees
use Rattle.typing_rules.proofs.ExpressionAlternatives.{choice-Choose, postfix-is}
use Rattle.typing_scopes.specs.Known.{known as seen}
use Rattle.typing_steps.specs.Steps.{asked, asked_result, request_there, malloc_of, free_of}
use Rattle.typing_expressions.specs.Parts.{arguments_of, product_part, measure}
use Rattle.typing_expressions.proofs.Arguments.{first_operand_failed, first_failed, first_made, next_operand_failed, next_failed, next_made, last_made}
use Rattle.typing_expressions.proofs.Calls.{listed_none, call_is, malloc_several, malloc_asked, malloc_failed, malloc_valued, free_several, free_valued}
use Rattle.typing_expressions.proofs.Choices.{second_failed, third_failed}
use Rattle.typing_expressions.proofs.Exits.{same_gives}
use Rattle.typing_expressions.proofs.Postfixes.{err_suffixed, next_suffix, last_suffix, failed_suffix}
use Rattle.typing_expressions.proofs.Products.{whole_product}
use Rattle.typing_expressions.proofs.Requested.{single, found, sizeof_asked, product_asked, last_asked, first_asked, last_operand, last_value, last_type, last_count, first_type, first_operand, first_value, first_count}
use Rattle.typing_expressions.proofs.Requests.{nothing_asked}
use Rattle.typing_expressions.proofs.SmallOperands.{small_of}
use Rattle.typing_expressions.proofs.expression.+expression.Goals as goal

differ : {b : Bool} → b ≡ true → b ≡ false → ⊥
differ h k = cc

-- ---- arguments

pub arguments-returns-in_err-a : goal.arguments-returns-in_err-a
arguments-returns-in_err-a t c =
    let g = seen c.args.known.now in
    let ts = map (λ d. d.ctype) c.args.parameters.now in
    let r = err_from_is_err_and c.from_residual.result c.from_residual.ensures.1 in
    rw (r.1, r.2) (λ q. first_operand_failed g c.args.list.now ts c.in_err-a.field-0.0 (c.in_err-a.ensures.gives q))

pub arguments-returns-in_err-x : goal.arguments-returns-in_err-x
arguments-returns-in_err-x t c =
    let g = seen c.args.known.now in
    let ts = map (λ d. d.ctype) c.args.parameters.now in
    let r = err_from_is_err_and c.from_residual-in_err-x.result c.from_residual-in_err-x.ensures.1 in
    rw (r.1, r.2) (λ q. first_failed g c.args.list.now ts c.in_ok-a.a c.in_err-x.field-0.0 c.in_ok-a.ensures.gives (c.in_err-x.ensures q))

pub arguments-loop-link-init : goal.arguments-loop-link-init
arguments-loop-link-init t c =
    let g = seen c.args.known.now in
    let ts = map (λ d. d.ctype) c.args.parameters.now in
    let one : c.push.new.self ≡ c.in_ok-x.x ∷ [] = first_of (cc, search rules, grind (arith, common_steps)) in
    first_made g c.args.list.now ts c.as_slice-link-items.result.now c.in_ok-a.a c.in_ok-x.x (map (λ d. d.ctype) c.after_first-left.result.now) c.push.new.self c.as_slice-link-items.ensures c.in_ok-a.ensures.gives c.in_ok-x.ensures c.after_first-left.ensures one

pub arguments-returns-in_err-a-2 : goal.arguments-returns-in_err-a-2
arguments-returns-in_err-a-2 t c =
    let g = seen c.args.known.now in
    let whole = arguments g (arguments_of c.args.list.now) (map (λ d. d.ctype) c.args.parameters.now) in
    let ls = c.as_slice-link-items.result.now in
    let ts = map (λ d. d.ctype) c.loop-link.left.now in
    let r = err_from_is_err_and c.from_residual-in_err-a-2.result c.from_residual-in_err-a-2.ensures.1 in
    rw (r.1, r.2) (λ q. next_operand_failed g whole ls c.loop-link.link-index ts c.loop-link.made c.loop-link.invariant c.link-item.result c.loop-link-test.true c.link-item.is c.in_err-a-2.field-0.0 (c.in_err-a-2.ensures.gives q))

pub arguments-returns-in_err-x-2 : goal.arguments-returns-in_err-x-2
arguments-returns-in_err-x-2 t c =
    let g = seen c.args.known.now in
    let whole = arguments g (arguments_of c.args.list.now) (map (λ d. d.ctype) c.args.parameters.now) in
    let ls = c.as_slice-link-items.result.now in
    let ts = map (λ d. d.ctype) c.loop-link.left.now in
    let r = err_from_is_err_and c.from_residual-in_err-x-2.result c.from_residual-in_err-x-2.ensures.1 in
    rw (r.1, r.2) (λ q. next_failed g whole ls c.loop-link.link-index ts c.loop-link.made c.loop-link.invariant c.link-item.result c.loop-link-test.true c.link-item.is c.in_ok-a-2.a c.in_err-x-2.field-0.0 c.in_ok-a-2.ensures.gives (c.in_err-x-2.ensures q))

pub arguments-loop-link-preserved : goal.arguments-loop-link-preserved
arguments-loop-link-preserved t c =
    let g = seen c.args.known.now in
    let whole = arguments g (arguments_of c.args.list.now) (map (λ d. d.ctype) c.args.parameters.now) in
    let ls = c.as_slice-link-items.result.now in
    let ts = map (λ d. d.ctype) c.loop-link.left.now in
    next_made g whole ls c.loop-link.link-index ts c.loop-link.made c.loop-link.invariant c.link-item.result c.loop-link-test.true c.link-item.is c.in_ok-a-2.a c.in_ok-x-2.x (map (λ d. d.ctype) c.after_first-left-in-loop-link.result.now) c.push-in-loop-link.new.self c.in_ok-a-2.ensures.gives c.in_ok-x-2.ensures c.after_first-left-in-loop-link.ensures c.in_ok-push-2.ensures

pub arguments-returns : goal.arguments-returns
arguments-returns t c =
    let g = seen c.args.known.now in
    let whole = arguments g (arguments_of c.args.list.now) (map (λ d. d.ctype) c.args.parameters.now) in
    let ls = c.as_slice-link-items.result.now in
    let ts = map (λ d. d.ctype) c.loop-link.left.now in
    last_made g whole ls c.loop-link.link-index ts c.loop-link.made c.loop-link.invariant c.loop-link-test.false

-- ---- `? :`

pub choice-returns-in_err-b-in-Choose-clause-gives : goal.choice-returns-in_err-b-in-Choose-clause-gives
choice-returns-in_err-b-in-Choose-clause-gives t c =
    let g = seen c.args.known.now in
    let x = c.in-Choose in
    let is = ap (operand g) (ap trees.choice x.is ∙ choice-Choose x.test x.question x.second x.field-3 x.third) in
    let first : operand g (trees.or x.test) ≡ Ok c.in_ok-a-in-Choose.a = ap (λ z. operand g (trees.or z)) (sym c.get-in-Choose.ensures) ∙ c.in_ok-a-in-Choose.ensures.gives in
    let r = err_from_is_err_and c.from_residual-in_err-b-in-Choose.result c.from_residual-in_err-b-in-Choose.ensures.1 in
    rw (r.1, r.2) (λ q. is ∙ second_failed g (trees.or x.test) x.question (trees.assign x.second) (trees.choice x.third) c.in_err-b-in-Choose.field-0.0 c.in_ok-a-in-Choose.a c.in_ok-v-in-Choose.v c.in_ok-test-in-Choose.test first c.in_ok-v-in-Choose.ensures.gives c.in_ok-test-in-Choose.ensures (ap (λ z. operand g (trees.assign z)) (sym c.get-in-Choose-2.ensures) ∙ c.in_err-b-in-Choose.ensures.gives q))

pub choice-returns-in_err-c-in-Choose-clause-gives : goal.choice-returns-in_err-c-in-Choose-clause-gives
choice-returns-in_err-c-in-Choose-clause-gives t c =
    let g = seen c.args.known.now in
    let x = c.in-Choose in
    let is = ap (operand g) (ap trees.choice x.is ∙ choice-Choose x.test x.question x.second x.field-3 x.third) in
    let first : operand g (trees.or x.test) ≡ Ok c.in_ok-a-in-Choose.a = ap (λ z. operand g (trees.or z)) (sym c.get-in-Choose.ensures) ∙ c.in_ok-a-in-Choose.ensures.gives in
    let second : operand g (trees.assign x.second) ≡ Ok c.in_ok-b-in-Choose.b = ap (λ z. operand g (trees.assign z)) (sym c.get-in-Choose-2.ensures) ∙ c.in_ok-b-in-Choose.ensures.gives in
    let r = err_from_is_err_and c.from_residual-in_err-c-in-Choose.result c.from_residual-in_err-c-in-Choose.ensures.1 in
    rw (r.1, r.2) (λ q. is ∙ third_failed g (trees.or x.test) x.question (trees.assign x.second) (trees.choice x.third) c.in_err-c-in-Choose.field-0.0 c.in_ok-a-in-Choose.a c.in_ok-v-in-Choose.v c.in_ok-test-in-Choose.test first c.in_ok-v-in-Choose.ensures.gives c.in_ok-test-in-Choose.ensures c.in_ok-b-in-Choose.b c.in_ok-w-in-Choose.w second c.in_ok-w-in-Choose.ensures.gives (ap (λ z. operand g (trees.choice z)) (sym c.get-in-Choose-3.ensures) ∙ c.in_err-c-in-Choose.ensures.gives q))

-- ---- calls of `free`

pub free_call-returns-in_err-_arguments : goal.free_call-returns-in_err-_arguments
free_call-returns-in_err-_arguments t c =
    let g = seen c.args.known.now in
    let at = c.args.name.now in
    let several = λ (e : c.args.list.now.rest ≡ []). differ (c.is_empty.ensures.1 e) c.if-not-is_empty.true in
    let r = err_from_is_err_and c.from_residual.result c.from_residual.ensures.1 in
    rw (r.1, r.2) (λ q. free_several g at c.args.list.now several ∙ ap (λ m. m >>= (λ xs. Err (ArgumentCount (place_of at)))) (c.in_err-_arguments.ensures q))

pub free_call-returns-then-not-is_empty : goal.free_call-returns-then-not-is_empty
free_call-returns-then-not-is_empty t c =
    let g = seen c.args.known.now in
    let at = c.args.name.now in
    let several = λ (e : c.args.list.now.rest ≡ []). differ (c.is_empty.ensures.1 e) c.if-not-is_empty.true in
    λ q. free_several g at c.args.list.now several ∙ ap (λ m. m >>= (λ xs. Err (ArgumentCount (place_of at)))) c.in_ok-_arguments.ensures

pub free_call-returns-in_err-a : goal.free_call-returns-in_err-a
free_call-returns-in_err-a t c =
    let g = seen c.args.known.now in
    let at = c.args.name.now in
    let alone : c.args.list.now.rest ≡ [] = c.is_empty.ensures.0 c.if-not-is_empty.false in
    let r = err_from_is_err_and c.from_residual-in_err-a.result c.from_residual-in_err-a.ensures.1 in
    rw (r.1, r.2) (λ q. free_valued g at c.args.list.now alone ∙ ap (λ m. (m >>= value) >>= allocation.freed (place_of at)) (c.in_err-a.ensures.gives q))

pub free_call-returns-in_err-v : goal.free_call-returns-in_err-v
free_call-returns-in_err-v t c =
    let g = seen c.args.known.now in
    let at = c.args.name.now in
    let alone : c.args.list.now.rest ≡ [] = c.is_empty.ensures.0 c.if-not-is_empty.false in
    let r = err_from_is_err_and c.from_residual-in_err-v.result c.from_residual-in_err-v.ensures.1 in
    rw (r.1, r.2) (λ q. free_valued g at c.args.list.now alone ∙ (ap (λ m. (m >>= value) >>= allocation.freed (place_of at)) c.in_ok-a.ensures.gives ∙ ap (λ m. m >>= allocation.freed (place_of at)) (c.in_err-v.ensures.gives q)))

pub free_call-returns : goal.free_call-returns
free_call-returns t c =
    let g = seen c.args.known.now in
    let at = c.args.name.now in
    let alone : c.args.list.now.rest ≡ [] = c.is_empty.ensures.0 c.if-not-is_empty.false in
    same_gives (free_of g at (arguments_of c.args.list.now)) (allocation.freed (place_of at) c.in_ok-v.v) c.freed.result (free_valued g at c.args.list.now alone ∙ (ap (λ m. (m >>= value) >>= allocation.freed (place_of at)) c.in_ok-a.ensures.gives ∙ ap (λ m. m >>= allocation.freed (place_of at)) c.in_ok-v.ensures.gives)) c.freed.ensures

-- ---- calls of `malloc`

pub malloc_call-returns-in_err-_arguments : goal.malloc_call-returns-in_err-_arguments
malloc_call-returns-in_err-_arguments t c =
    let g = seen c.args.known.now in
    let at = c.args.name.now in
    let several = λ (e : c.args.list.now.rest ≡ []). differ (c.is_empty.ensures.1 e) c.if-not-is_empty.true in
    let r = err_from_is_err_and c.from_residual.result c.from_residual.ensures.1 in
    rw (r.1, r.2) (λ q. malloc_several g at c.args.list.now several ∙ ap (λ m. m >>= (λ xs. Err (ArgumentCount (place_of at)))) (c.in_err-_arguments.ensures q))

pub malloc_call-returns-then-not-is_empty : goal.malloc_call-returns-then-not-is_empty
malloc_call-returns-then-not-is_empty t c =
    let g = seen c.args.known.now in
    let at = c.args.name.now in
    let several = λ (e : c.args.list.now.rest ≡ []). differ (c.is_empty.ensures.1 e) c.if-not-is_empty.true in
    λ q. malloc_several g at c.args.list.now several ∙ ap (λ m. m >>= (λ xs. Err (ArgumentCount (place_of at)))) c.in_ok-_arguments.ensures

pub malloc_call-returns-in_err-q : goal.malloc_call-returns-in_err-q
malloc_call-returns-in_err-q t c =
    let g = seen c.args.known.now in
    let at = c.args.name.now in
    let alone : c.args.list.now.rest ≡ [] = c.is_empty.ensures.0 c.if-not-is_empty.false in
    let r = err_from_is_err_and c.from_residual-in_err-q.result c.from_residual-in_err-q.ensures.1 in
    rw (r.1, r.2) (λ q. malloc_failed g at c.args.list.now alone c.in_err-q.field-0.0 (c.in_err-q.ensures q))

pub malloc_call-returns-in_err-a-in-None : goal.malloc_call-returns-in_err-a-in-None
malloc_call-returns-in_err-a-in-None t c =
    let g = seen c.args.known.now in
    let at = c.args.name.now in
    let alone : c.args.list.now.rest ≡ [] = c.is_empty.ensures.0 c.if-not-is_empty.false in
    let none : asked (requested g (trees.assign c.args.list.now.first)) ≡ Ok None = c.in_ok-q.ensures ∙ ap (λ o. Ok (request_there o)) c.in-None.is in
    let r = err_from_is_err_and c.from_residual-in_err-a-in-None.result c.from_residual-in_err-a-in-None.ensures.1 in
    rw (r.1, r.2) (λ q. malloc_valued g at c.args.list.now alone none ∙ ap (λ m. (m >>= value) >>= (λ v. Err (Mismatch (place_of at)))) (c.in_err-a-in-None.ensures.gives q))

pub malloc_call-returns-in_err-_v-in-None : goal.malloc_call-returns-in_err-_v-in-None
malloc_call-returns-in_err-_v-in-None t c =
    let g = seen c.args.known.now in
    let at = c.args.name.now in
    let alone : c.args.list.now.rest ≡ [] = c.is_empty.ensures.0 c.if-not-is_empty.false in
    let none : asked (requested g (trees.assign c.args.list.now.first)) ≡ Ok None = c.in_ok-q.ensures ∙ ap (λ o. Ok (request_there o)) c.in-None.is in
    let r = err_from_is_err_and c.from_residual-in_err-_v-in-None.result c.from_residual-in_err-_v-in-None.ensures.1 in
    rw (r.1, r.2) (λ q. malloc_valued g at c.args.list.now alone none ∙ (ap (λ m. (m >>= value) >>= (λ v. Err (Mismatch (place_of at)))) c.in_ok-a-in-None.ensures.gives ∙ ap (λ m. m >>= (λ v. Err (Mismatch (place_of at)))) (c.in_err-_v-in-None.ensures.gives q)))

pub malloc_call-returns-in-Some : goal.malloc_call-returns-in-Some
malloc_call-returns-in-Some t c =
    let g = seen c.args.known.now in
    let at = c.args.name.now in
    let alone : c.args.list.now.rest ≡ [] = c.is_empty.ensures.0 c.if-not-is_empty.false in
    let some : asked (requested g (trees.assign c.args.list.now.first)) ≡ Ok (Some (request c.in-Some.q)) = c.in_ok-q.ensures ∙ ap (λ o. Ok (request_there o)) c.in-Some.is in
    same_gives (malloc_of g at (arguments_of c.args.list.now)) (allocated g (place_of at) (request c.in-Some.q)) c.allocated_in.result (malloc_asked g at c.args.list.now alone (request c.in-Some.q) some) c.allocated_in.ensures

pub malloc_call-returns-in_ok-_v-in-None : goal.malloc_call-returns-in_ok-_v-in-None
malloc_call-returns-in_ok-_v-in-None t c =
    let g = seen c.args.known.now in
    let at = c.args.name.now in
    let alone : c.args.list.now.rest ≡ [] = c.is_empty.ensures.0 c.if-not-is_empty.false in
    let none : asked (requested g (trees.assign c.args.list.now.first)) ≡ Ok None = c.in_ok-q.ensures ∙ ap (λ o. Ok (request_there o)) c.in-None.is in
    λ q. malloc_valued g at c.args.list.now alone none ∙ (ap (λ m. (m >>= value) >>= (λ v. Err (Mismatch (place_of at)))) c.in_ok-a-in-None.ensures.gives ∙ ap (λ m. m >>= (λ v. Err (Mismatch (place_of at)))) c.in_ok-_v-in-None.ensures.gives)

-- ---- suffixes

pub postfix-returns-in_err-found-clause-gives : goal.postfix-returns-in_err-found-clause-gives
postfix-returns-in_err-found-clause-gives t c =
    let g = seen c.args.known.now in
    let r = err_from_is_err_and c.from_residual.result c.from_residual.ensures.1 in
    rw (r.1, r.2) (λ q. ap (operand g) (postfix-is c.args.e.now) ∙ err_suffixed g c.in_err-found.field-0.0 (trees.primary (out-Postfix c.args.e.now).primary) (out-Postfix c.args.e.now).suffixes (c.in_err-found.ensures.gives q))

pub postfix-loop-next-init : goal.postfix-loop-next-init
postfix-loop-next-init t c =
    let x = trees.primary (out-Postfix c.args.e.now).primary in
    (x, postfix-is c.args.e.now ∙ ap (λ zs. trees.suffixed x (map trees.suffix zs)) (sym c.as_slice-next-items.ensures), c.in_ok-found.ensures.gives, c.in_ok-found.ensures.small)

pub postfix-returns-in_err-found-2-clause-gives : goal.postfix-returns-in_err-found-2-clause-gives
postfix-returns-in_err-found-2-clause-gives t c =
    let g = seen c.args.known.now in
    let i = c.loop-next.invariant in
    let ys = c.as_slice-next-items.result.now in
    let r = err_from_is_err_and c.from_residual-in_err-found-2.result c.from_residual-in_err-found-2.ensures.1 in
    rw (r.1, r.2) (λ q. failed_suffix g c.in_err-found-2.field-0.0 i.0 (trees.postfix c.args.e.now) ys c.loop-next.next-index c.next-item.result c.loop-next-test.true c.next-item.is i.1 (c.in_err-found-2.ensures.gives i.0 i.2 q))

pub postfix-loop-next-preserved : goal.postfix-loop-next-preserved
postfix-loop-next-preserved t c =
    let i = c.loop-next.invariant in
    let ys = c.as_slice-next-items.result.now in
    (trees.suffix c.next-item.result i.0, next_suffix i.0 (trees.postfix c.args.e.now) ys c.loop-next.next-index c.next-item.result c.loop-next-test.true c.next-item.is i.1, c.in_ok-found-2.ensures.gives i.0 i.2, c.in_ok-found-2.ensures.small)

pub postfix-returns-clause-gives : goal.postfix-returns-clause-gives
postfix-returns-clause-gives t c =
    let g = seen c.args.known.now in
    let i = c.loop-next.invariant in
    let ys = c.as_slice-next-items.result.now in
    ap (operand g) (last_suffix i.0 (trees.postfix c.args.e.now) ys c.loop-next.next-index c.loop-next-test.false i.1) ∙ i.2

-- ---- primary expressions

pub primary-returns-in-Name-clause-small : goal.primary-returns-in-Name-clause-small
primary-returns-in-Name-clause-small t c =
    small_of (seen c.args.known.now) c.requires (syntax.Name c.in-Name.name) c.named.result c.named.ensures

pub primary-returns-in-Number-clause-small : goal.primary-returns-in-Number-clause-small
primary-returns-in-Number-clause-small t c =
    small_of (seen c.args.known.now) c.requires (syntax.Number c.in-Number.token) c.number.result c.number.ensures

pub primary-returns-in-Character-clause-small : goal.primary-returns-in-Character-clause-small
primary-returns-in-Character-clause-small t c =
    small_of (seen c.args.known.now) c.requires (syntax.Character c.in-Character.token) c.character.result c.character.ensures

pub primary-returns-in-None-clause-gives : goal.primary-returns-in-None-clause-gives
primary-returns-in-None-clause-gives t c =
    let g = seen c.args.known.now in
    let x = c.in-Call in
    let is = ap trees.primary x.is ∙ call_is x.name x.field-1 x.list x.field-3 in
    same_gives (operand g (trees.primary c.args.e.now)) (operand g (syntax.Call x.name syntax.NoMore)) c.called_without.result (ap (operand g) (is ∙ (ap (λ l. syntax.Call x.name (trees.listed trees.assign l)) c.in-None.is ∙ ap (λ xs. syntax.Call x.name xs) listed_none))) c.called_without.ensures

pub primary-returns-in-None-clause-small : goal.primary-returns-in-None-clause-small
primary-returns-in-None-clause-small t c =
    small_of (seen c.args.known.now) c.requires (syntax.Call c.in-Call.name syntax.NoMore) c.called_without.result c.called_without.ensures

pub primary-returns-in-Some-clause-gives : goal.primary-returns-in-Some-clause-gives
primary-returns-in-Some-clause-gives t c =
    let g = seen c.args.known.now in
    let x = c.in-Call in
    let is = ap trees.primary x.is ∙ call_is x.name x.field-1 x.list x.field-3 in
    same_gives (operand g (trees.primary c.args.e.now)) (operand g (syntax.Call x.name (arguments_of c.get.result.now))) c.call.result (ap (operand g) (is ∙ ap (λ l. syntax.Call x.name (trees.listed trees.assign l)) (c.in-Some.is ∙ ap (λ l. Some l) (sym c.get.ensures)))) c.call.ensures

pub primary-returns-in-Some-clause-small : goal.primary-returns-in-Some-clause-small
primary-returns-in-Some-clause-small t c =
    small_of (seen c.args.known.now) c.requires (syntax.Call c.in-Call.name (arguments_of c.get.result.now)) c.call.result c.call.ensures

-- ---- products

pub product-operands-requires : goal.product-operands-requires
product-operands-requires t c =
    (search rules, (c.requires, omega (arith, c.len.ensures)))

pub product-returns-clause-gives : goal.product-returns-clause-gives
product-returns-clause-gives t c =
    let g = seen c.args.known.now in
    let all : c.len.result ≡ length (out-Product c.args.e.now).0.rest = c.len.ensures in
    same_gives (operand g (trees.product c.args.e.now)) (operand g (product_part c.args.e.now c.len.result)) c.operands.result (ap (operand g) (sym (whole_product c.args.e.now c.len.result all))) c.operands.ensures.gives

-- ---- what `malloc` is asked for

pub product_requested-operands-requires : goal.product_requested-operands-requires
product_requested-operands-requires t c =
    (search rules, (c.requires.known, omega (arith, c.saturating_sub.ensures, ap length c.as_slice-links.ensures)))

pub product_requested-returns-in_err-a-in-Last : goal.product_requested-returns-in_err-a-in-Last
product_requested-returns-in_err-a-in-Last t c =
    let g = seen c.args.known.now in
    let e = c.args.e.now in
    let star = c.in-Last.star.now in
    let n = c.saturating_sub.result in
    let less : n ≡ length (out-Product e).0.rest - 1 = omega (arith, c.saturating_sub.ensures, ap length c.as_slice-links.ensures) in
    let steps = last_asked g e star c.in-Last.m n c.in-Last.ensures.form less in
    let whole = asked (requested g (trees.product e)) in
    let r = err_from_is_err_and c.from_residual.result c.from_residual.ensures.1 in
    rw (r.1, r.2) (λ q. last_operand whole (operand g (product_part e n)) (measure g c.in-Last.m) (objects (place_of star)) steps c.in_err-a-in-Last.field-0.0 (c.in_err-a-in-Last.ensures.gives q))

pub product_requested-returns-in_err-v-in-Last : goal.product_requested-returns-in_err-v-in-Last
product_requested-returns-in_err-v-in-Last t c =
    let g = seen c.args.known.now in
    let e = c.args.e.now in
    let star = c.in-Last.star.now in
    let n = c.saturating_sub.result in
    let less : n ≡ length (out-Product e).0.rest - 1 = omega (arith, c.saturating_sub.ensures, ap length c.as_slice-links.ensures) in
    let steps = last_asked g e star c.in-Last.m n c.in-Last.ensures.form less in
    let whole = asked (requested g (trees.product e)) in
    let r = err_from_is_err_and c.from_residual-in_err-v-in-Last.result c.from_residual-in_err-v-in-Last.ensures.1 in
    rw (r.1, r.2) (λ q. last_value whole (operand g (product_part e n)) (measure g c.in-Last.m) (objects (place_of star)) steps c.in_err-v-in-Last.field-0.0 c.in_ok-a-in-Last.a c.in_ok-a-in-Last.ensures.gives (c.in_err-v-in-Last.ensures.gives q))

pub product_requested-returns-in_err-ctype-in-Last : goal.product_requested-returns-in_err-ctype-in-Last
product_requested-returns-in_err-ctype-in-Last t c =
    let g = seen c.args.known.now in
    let e = c.args.e.now in
    let star = c.in-Last.star.now in
    let n = c.saturating_sub.result in
    let less : n ≡ length (out-Product e).0.rest - 1 = omega (arith, c.saturating_sub.ensures, ap length c.as_slice-links.ensures) in
    let steps = last_asked g e star c.in-Last.m n c.in-Last.ensures.form less in
    let whole = asked (requested g (trees.product e)) in
    let r = err_from_is_err_and c.from_residual-in_err-ctype-in-Last.result c.from_residual-in_err-ctype-in-Last.ensures.1 in
    rw (r.1, r.2) (λ q. last_type whole (operand g (product_part e n)) (measure g c.in-Last.m) (objects (place_of star)) steps c.in_err-ctype-in-Last.field-0.0 c.in_ok-a-in-Last.a c.in_ok-v-in-Last.v c.in_ok-a-in-Last.ensures.gives c.in_ok-v-in-Last.ensures.gives (c.in_err-ctype-in-Last.ensures q))

pub product_requested-returns-in_err-q-in-Last : goal.product_requested-returns-in_err-q-in-Last
product_requested-returns-in_err-q-in-Last t c =
    let g = seen c.args.known.now in
    let e = c.args.e.now in
    let star = c.in-Last.star.now in
    let n = c.saturating_sub.result in
    let less : n ≡ length (out-Product e).0.rest - 1 = omega (arith, c.saturating_sub.ensures, ap length c.as_slice-links.ensures) in
    let steps = last_asked g e star c.in-Last.m n c.in-Last.ensures.form less in
    let whole = asked (requested g (trees.product e)) in
    let r = err_from_is_err_and c.from_residual-in_err-q-in-Last.result c.from_residual-in_err-q-in-Last.ensures.1 in
    rw (r.1, r.2) (λ q. last_count whole (operand g (product_part e n)) (measure g c.in-Last.m) (objects (place_of star)) steps c.in_ok-a-in-Last.a c.in_ok-v-in-Last.v c.in_ok-ctype-in-Last.ctype (Err c.in_err-q-in-Last.field-0.0) c.in_ok-a-in-Last.ensures.gives c.in_ok-v-in-Last.ensures.gives c.in_ok-ctype-in-Last.ensures (c.in_err-q-in-Last.ensures q))

pub product_requested-returns-in_ok-q-in-Last : goal.product_requested-returns-in_ok-q-in-Last
product_requested-returns-in_ok-q-in-Last t c =
    let g = seen c.args.known.now in
    let e = c.args.e.now in
    let star = c.in-Last.star.now in
    let n = c.saturating_sub.result in
    let less : n ≡ length (out-Product e).0.rest - 1 = omega (arith, c.saturating_sub.ensures, ap length c.as_slice-links.ensures) in
    let steps = last_asked g e star c.in-Last.m n c.in-Last.ensures.form less in
    let whole = asked (requested g (trees.product e)) in
    last_count whole (operand g (product_part e n)) (measure g c.in-Last.m) (objects (place_of star)) steps c.in_ok-a-in-Last.a c.in_ok-v-in-Last.v c.in_ok-ctype-in-Last.ctype (Ok (request c.in_ok-q-in-Last.q)) c.in_ok-a-in-Last.ensures.gives c.in_ok-v-in-Last.ensures.gives c.in_ok-ctype-in-Last.ensures c.in_ok-q-in-Last.ensures

pub product_requested-returns-in_err-ctype-in-First : goal.product_requested-returns-in_err-ctype-in-First
product_requested-returns-in_err-ctype-in-First t c =
    let g = seen c.args.known.now in
    let e = c.args.e.now in
    let star = c.in-First.star.now in
    let x = c.in-First.x.now in
    let steps = first_asked g e star c.in-First.m x c.in-First.ensures.form in
    let whole = asked (requested g (trees.product e)) in
    let r = err_from_is_err_and c.from_residual-in_err-ctype-in-First.result c.from_residual-in_err-ctype-in-First.ensures.1 in
    rw (r.1, r.2) (λ q. first_type whole (operand g (trees.unary x)) (measure g c.in-First.m) (objects (place_of star)) steps c.in_err-ctype-in-First.field-0.0 (c.in_err-ctype-in-First.ensures q))

pub product_requested-returns-in_err-a-in-First : goal.product_requested-returns-in_err-a-in-First
product_requested-returns-in_err-a-in-First t c =
    let g = seen c.args.known.now in
    let e = c.args.e.now in
    let star = c.in-First.star.now in
    let x = c.in-First.x.now in
    let steps = first_asked g e star c.in-First.m x c.in-First.ensures.form in
    let whole = asked (requested g (trees.product e)) in
    let r = err_from_is_err_and c.from_residual-in_err-a-in-First.result c.from_residual-in_err-a-in-First.ensures.1 in
    rw (r.1, r.2) (λ q. first_operand whole (operand g (trees.unary x)) (measure g c.in-First.m) (objects (place_of star)) steps c.in_err-a-in-First.field-0.0 c.in_ok-ctype-in-First.ctype c.in_ok-ctype-in-First.ensures (c.in_err-a-in-First.ensures.gives q))

pub product_requested-returns-in_err-v-in-First : goal.product_requested-returns-in_err-v-in-First
product_requested-returns-in_err-v-in-First t c =
    let g = seen c.args.known.now in
    let e = c.args.e.now in
    let star = c.in-First.star.now in
    let x = c.in-First.x.now in
    let steps = first_asked g e star c.in-First.m x c.in-First.ensures.form in
    let whole = asked (requested g (trees.product e)) in
    let r = err_from_is_err_and c.from_residual-in_err-v-in-First.result c.from_residual-in_err-v-in-First.ensures.1 in
    rw (r.1, r.2) (λ q. first_value whole (operand g (trees.unary x)) (measure g c.in-First.m) (objects (place_of star)) steps c.in_err-v-in-First.field-0.0 c.in_ok-ctype-in-First.ctype c.in_ok-a-in-First.a c.in_ok-ctype-in-First.ensures c.in_ok-a-in-First.ensures.gives (c.in_err-v-in-First.ensures.gives q))

pub product_requested-returns-in_err-q-in-First : goal.product_requested-returns-in_err-q-in-First
product_requested-returns-in_err-q-in-First t c =
    let g = seen c.args.known.now in
    let e = c.args.e.now in
    let star = c.in-First.star.now in
    let x = c.in-First.x.now in
    let steps = first_asked g e star c.in-First.m x c.in-First.ensures.form in
    let whole = asked (requested g (trees.product e)) in
    let r = err_from_is_err_and c.from_residual-in_err-q-in-First.result c.from_residual-in_err-q-in-First.ensures.1 in
    rw (r.1, r.2) (λ q. first_count whole (operand g (trees.unary x)) (measure g c.in-First.m) (objects (place_of star)) steps c.in_ok-ctype-in-First.ctype c.in_ok-a-in-First.a c.in_ok-v-in-First.v (Err c.in_err-q-in-First.field-0.0) c.in_ok-ctype-in-First.ensures c.in_ok-a-in-First.ensures.gives c.in_ok-v-in-First.ensures.gives (c.in_err-q-in-First.ensures q))

pub product_requested-returns-in_ok-q-in-First : goal.product_requested-returns-in_ok-q-in-First
product_requested-returns-in_ok-q-in-First t c =
    let g = seen c.args.known.now in
    let e = c.args.e.now in
    let star = c.in-First.star.now in
    let x = c.in-First.x.now in
    let steps = first_asked g e star c.in-First.m x c.in-First.ensures.form in
    let whole = asked (requested g (trees.product e)) in
    first_count whole (operand g (trees.unary x)) (measure g c.in-First.m) (objects (place_of star)) steps c.in_ok-ctype-in-First.ctype c.in_ok-a-in-First.a c.in_ok-v-in-First.v (Ok (request c.in_ok-q-in-First.q)) c.in_ok-ctype-in-First.ensures c.in_ok-a-in-First.ensures.gives c.in_ok-v-in-First.ensures.gives c.in_ok-q-in-First.ensures

pub product_requested-returns-in-Neither : goal.product_requested-returns-in-Neither
product_requested-returns-in-Neither t c =
    nothing_asked (seen c.args.known.now) (trees.product c.args.e.now) c.in-Neither.ensures.form

pub requested-returns-in_err-ctype-in-Sized : goal.requested-returns-in_err-ctype-in-Sized
requested-returns-in_err-ctype-in-Sized t c =
    let g = seen c.args.known.now in
    let x = trees.assign c.args.e.now in
    let r = err_from_is_err_and c.from_residual.result c.from_residual.ensures.1 in
    rw (r.1, r.2) (λ q. sizeof_asked g x c.in-Sized.m c.in-Sized.ensures.form ∙ ap (λ m. m >>= single) (c.in_err-ctype-in-Sized.ensures q))

pub requested-returns-in_ok-q-in-Sized : goal.requested-returns-in_ok-q-in-Sized
requested-returns-in_ok-q-in-Sized t c =
    let g = seen c.args.known.now in
    let x = trees.assign c.args.e.now in
    sizeof_asked g x c.in-Sized.m c.in-Sized.ensures.form ∙ (ap (λ m. m >>= single) c.in_ok-ctype-in-Sized.ensures ∙ ap (λ r. r >>= found) c.in_ok-q-in-Sized.ensures)

pub requested-returns-in-Product : goal.requested-returns-in-Product
requested-returns-in-Product t c =
    let g = seen c.args.known.now in
    let x = trees.assign c.args.e.now in
    let y = trees.product c.in-Product.p.now in
    same_gives (asked (requested g x)) (asked (requested g y)) (asked_result c.product_requested.result) (product_asked g x y c.in-Product.ensures.form.0) c.product_requested.ensures

pub requested-returns-in-Other : goal.requested-returns-in-Other
requested-returns-in-Other t c =
    nothing_asked (seen c.args.known.now) (trees.assign c.args.e.now) c.in-Other.ensures.form.1
