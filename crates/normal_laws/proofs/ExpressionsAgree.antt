-- An expression and its code: the same steps, and the value in the operand.
use Rattle.std.proofs.Common.{◌≡◌, ℕ, suc, ◌≤◌, true, false, not, cond, List, [], ◌∷◌, ◌++◌, Option, Some, None, map, refl, sym, subst, arith, le_refl}
use Rattle.std.specs.Prelude.{pos, ◌*ℤ◌, slice_get}
use Rattle.step_meaning.specs.declared.value.IntKind.TheVariants as kind
use Rattle.step_meaning.specs.declared.value.CType.{CType}
use Rattle.step_meaning.specs.declared.value.CType.TheVariants as type
use Rattle.step_meaning.specs.declared.value.Value.{Value}
use Rattle.step_meaning.specs.declared.value.Value.TheVariants as value
use Rattle.step_meaning.specs.declared.expr.Expr.{Expr, Row_of-Expr, end_of-Expr, more_of-Expr}
use Rattle.step_meaning.specs.declared.expr.Expr.TheVariants.{Literal, Null, Load, Address, Convert', Unary', Binary', Compare', Move', Difference', Not', Both', Either', Choose', Assign', Update', Invoke', GetChar, PutChar', Malloc', Free', Discard', Own, Deref', Member', Index', Invoke}
use Rattle.step_meaning.specs.declared.expr.Place_.{Place_, end_of-Place_, more_of-Place_}
use Rattle.step_meaning.specs.declared.program.Core.{Core}
use Rattle.step_meaning.specs.declared.stmt.Stmt.{Stmt}
use Rattle.step_meaning.specs.declared.stmt.Stmt.TheVariants.{Eval}
use Rattle.step_meaning.specs.Numbers.{converted, binary_of, unary_of}
use Rattle.step_meaning.specs.Names.{name_in, truth, of_truth, integer, distance, compared}
use Rattle.step_meaning.specs.Settings.{Setting}
use Rattle.step_meaning.specs.State.{Here, Registers, Lvalue, InRegister, At}
use Rattle.step_meaning.specs.Flow.{direct, Direct, DirectCall, World, Gives, Done, Over, Stuck, onward, after_call}
use Rattle.step_meaning.specs.Accesses as acc
use Rattle.step_meaning.specs.Allocation.{allocate, release}
use Rattle.step_meaning.specs.Expressions as ex
use Rattle.step_meaning.specs.Statements.{Completion, Next}
use Rattle.step_meaning.proofs.TypedMemory.{Shape}
use Rattle.normal_laws.specs.NormalForm.{Operand, Number, Nil, Held, Absent, Target, Named, Pointed, int, expression_of, place_of, operand_type, assign, set_to, one, convert, unary, binary, compare, move, difference, negated, as_truth_value, put_char, allocated, released, member, index, pointer_to, truth_literal, moved_operand, common_operand, chosen_type, branch_code, choose_into, typed_value, updated_expression, answered, invoke_code, result_type, Code, Codes, PlaceCode, Is, expression_code, arguments_code, place_code}
use Rattle.normal_laws.specs.SourceCode.{IsSourceExpression, AreSourceExpressions, IsSourcePlace}
use Rattle.normal_laws.proofs.Registers.{AreAt, at_split}
use Rattle.normal_laws.proofs.Emission.{Stands, IsBelow, Ready, keeps_all, keeps_fewer, Makes, makes_weaken, makes_bind, makes_map, makes_same, Twin, Designates, run, run_join, source_kind, stands_on, designates_on, set_result, store_result, copy_made, then_set_made, then_set_both_made, then_set_from_made, choice_made}
use Rattle.normal_laws.proofs.Growth.{code_grows, arguments_grow, place_grows, value_below, target_below}
use Rattle.normal_laws.proofs.Forms.{CallsFit, calling, Stand, answered_stands, load_twin, address_twin, convert_twin, unary_twin, binary_twin, compare_twin, difference_twin, move_twin, not_twin, truth_twin, put_char_twin, allocate_twin, release_made, get_char_twin, member_twin, index_twin, update_twin, into, alone}

common_left : (a b o : Operand) → common_operand a b ≡ Some o → a ≡ o
common_left Nil Nil o e = cc
common_left Absent Absent o e = cc
common_left _ _ o e = absurd cc

common_right : (a b o : Operand) → common_operand a b ≡ Some o → b ≡ o
common_right Nil Nil o e = cc
common_right Absent Absent o e = cc
common_right _ _ o e = absurd cc

module _ (D : List CType) (S : List Shape) (q : Core) (g : Setting) (call : ℕ → List Value → DirectCall) (fit : CallsFit q call) (here : Here) (bound : ℕ) where
  abbrev pub go : List Stmt → Direct Completion
  go = run D S q.layouts call here bound

  abbrev pub value_of : Expr → Direct Value
  value_of = ex.eval direct q.layouts call here

  abbrev pub ec : Expr → ℕ → Code
  ec = expression_code q g

  abbrev pub pc : Place_ → ℕ → PlaceCode
  pc = place_code q g

  abbrev Fits : Target → Registers → Lvalue → Type 0
  Fits = Designates D S q.layouts call here bound

  abbrev M : {A : Type 0} → ℕ → (Registers → A → Type 0) → Registers → Gives A → Gives Completion → Type 0
  M m H r o t = Makes D S m H r o t

  -- ---- the parts of forms that take what a place designates apart

  load_made : (t : CType) (u : Target) (i : ℕ) → slice_get D i ≡ Some t → (a : Lvalue) (w : World) (s r : Registers) → Ready D S w r → Fits u r a → M i (Stands (Held i t)) r (acc.load direct here t a w s) (go (one (set_to i t (Load (place_of u) t))) w r)
  load_made t u i at (InRegister n) w s r hs h = absurd h
  load_made t u i at (At p) w s r hs h = set_result D S q.layouts call here bound i i t (Load (place_of u) t) w r (acc.load direct here t (At p) w s) (le_refl i) hs.shaped at (load_twin D S q.layouts call here bound t u p w s r hs h)

  pub store_made : (k : ℕ) (H : Registers → Value → Type 0) (u : Target) (b : Operand) (t : CType) (a : Lvalue) (x : Value) (w : World) (s r : Registers) → Ready D S w r → Fits u r a → Stands b r x → H r x
      → M k H r (acc.store direct here t a x w s) (go (one (assign (place_of u) t (expression_of b))) w r)
  store_made k H u b t (InRegister n) x w s r hs hp ha h = absurd hp
  store_made k H u b t (At p) x w s r hs hp ha h = store_result D S q.layouts call here bound k H u b t p x w s r hs hp ha h

  pub member_made : (o : ℕ) (u : Target) (k i : ℕ) (t : CType) → slice_get D i ≡ Some (pointer_to t) → (a : Lvalue) (w : World) (s r : Registers) → k ≤ i → Ready D S w r → Fits u r a
      → M k (Fits (Pointed (Held i (pointer_to t)))) r (acc.object_after direct here a (pos o) w s) (go (one (set_to i (pointer_to t) (Address (member (place_of u) o) t))) w r)
  member_made o u k i t at (InRegister n) w s r le hs hp = absurd hp
  member_made o u k i t at (At p) w s r le hs hp =
      let E = Address (member (place_of u) o) t in
      makes_map D S k (Stands (Held i (pointer_to t))) (Fits (Pointed (Held i (pointer_to t)))) r (acc.move_by direct here p (pos o) w s) At (go (one (set_to i (pointer_to t) E)) w r)
      (set_result D S q.layouts call here bound k i (pointer_to t) E w r (acc.move_by direct here p (pos o) w s) le hs.shaped at (member_twin D S q.layouts call here bound o t u p w s r hs hp)) (λ x r' h. h)

  pub index_made : (size : ℕ) (u : Target) (b : Operand) (k i : ℕ) (t : CType) → slice_get D i ≡ Some (pointer_to t) → (a : Lvalue) (x : Value) (w : World) (s r : Registers) → k ≤ i → Ready D S w r → Fits u r a → Stands b r x
      → M k (Fits (Pointed (Held i (pointer_to t)))) r (acc.object_after direct here a (integer x *ℤ pos size) w s) (go (one (set_to i (pointer_to t) (Address (index (place_of u) (expression_of b) size) t))) w r)
  index_made size u b k i t at (InRegister n) x w s r le hs hp hb = absurd hp
  index_made size u b k i t at (At p) x w s r le hs hp hb =
      let E = Address (index (place_of u) (expression_of b) size) t in
      makes_map D S k (Stands (Held i (pointer_to t))) (Fits (Pointed (Held i (pointer_to t)))) r (acc.move_by direct here p (integer x *ℤ pos size) w s) At (go (one (set_to i (pointer_to t) E)) w r)
      (set_result D S q.layouts call here bound k i (pointer_to t) E w r (acc.move_by direct here p (integer x *ℤ pos size) w s) le hs.shaped at (index_twin D S q.layouts call here bound size t u b p x w s r hs hp hb)) (λ x r' h. h)

  -- null that a place takes goes into a register first
  typed_made : (k : ℕ) (t : CType) (A : Code) (o : Gives Value) (w : World) (r : Registers) → k ≤ A.next → (v : Operand) → A.value ≡ v → AreAt D (typed_value t v A).types
      → M k (Stands A.value) r o (go A.code w r) → M k (Stands (typed_value t v A).value) r o (go (typed_value t v A).code w r)
  typed_made k t A o w r le Nil e at h =
      let N = A.next in
      rw (run_join D S q.layouts call here bound A.code (one (set_to N t (expression_of A.value))) w r)
      (copy_made D S q.layouts call here bound k N t A.value r o (go A.code w r) le (at_split D A.types (Is N t ∷ []) at).1.0 h)
  typed_made k t A o w r le (Number j z) e at h = h
  typed_made k t A o w r le (Held i u) e at h = h
  typed_made k t A o w r le Absent e at h = h

  typed_types : (t : CType) (v : Operand) (A : Code) → AreAt D (typed_value t v A).types → AreAt D A.types
  typed_types t Nil A at = (at_split D A.types (Is A.next t ∷ []) at).0
  typed_types t (Number j z) A at = at
  typed_types t (Held i u) A at = at
  typed_types t Absent A at = at

  -- a choice, which leaves a register or the operand that both branches leave
  choose_made : (k : ℕ) (C A B : Code) (d : Gives Value) (a b : Direct Value) (w : World) (r : Registers) → k ≤ C.next → C.next ≤ A.next → A.next ≤ B.next
      → M k (Stands C.value) r d (go C.code w r)
      → (AreAt D A.types → (w : World) (s r : Registers) → Ready D S w r → M C.next (Stands A.value) r (a w s) (go A.code w r))
      → (AreAt D B.types → (w : World) (s r : Registers) → Ready D S w r → M A.next (Stands B.value) r (b w s) (go B.code w r))
      → (o : Option Operand) → common_operand A.value B.value ≡ o → AreAt D (choose_into o C A B).types
      → M k (Stands (choose_into o C A B).value) r (onward d (λ v. cond (truth v) a b)) (go (choose_into o C A B).code w r)
  choose_made k C A B d a b w r le le1 le2 hc ha hb (Some o) e at =
      let U = at_split D C.types (A.types ++ B.types) at in
      let V = at_split D A.types B.types U.1 in
      choice_made D S q.layouts call here bound k (Stands o) C A.code B.code d a b w r le hc
      (λ w s r rd. makes_same D S C.next (Stands A.value) (Stands o) r (a w s) (go A.code w r) (ha V.0 w s r rd) (λ x r' h. subst (λ v. Stands v r' x) (common_left A.value B.value o e) h))
      (λ w s r rd. makes_same D S C.next (Stands B.value) (Stands o) r (b w s) (go B.code w r)
      (makes_weaken D S C.next A.next (Stands B.value) w r r (b w s) (go B.code w r) le1 (keeps_all D S C.next w r rd) (hb V.1 w s r rd)) (λ x r' h. subst (λ v. Stands v r' x) (common_right A.value B.value o e) h))
  choose_made k C A B d a b w r le le1 le2 hc ha hb None e at =
      let i = B.next in
      let t = chosen_type A.value B.value in
      let U = at_split D C.types (A.types ++ (B.types ++ (Is i t ∷ []))) at in
      let V = at_split D A.types (B.types ++ (Is i t ∷ [])) U.1 in
      let W = at_split D B.types (Is i t ∷ []) V.1 in
      choice_made D S q.layouts call here bound k (Stands (Held i t)) C (branch_code i t A) (branch_code i t B) d a b w r le hc
      (λ w s r rd. rw (run_join D S q.layouts call here bound A.code (one (set_to i t (expression_of A.value))) w r)
      (copy_made D S q.layouts call here bound C.next i t A.value r (a w s) (go A.code w r) (omega arith) W.1.0 (ha V.0 w s r rd)))
      (λ w s r rd. rw (run_join D S q.layouts call here bound B.code (one (set_to i t (expression_of B.value))) w r)
      (copy_made D S q.layouts call here bound C.next i t B.value r (b w s) (go B.code w r) (omega arith) W.1.0
      (makes_weaken D S C.next A.next (Stands B.value) w r r (b w s) (go B.code w r) le1 (keeps_all D S C.next w r rd) (hb W.0 w s r rd))))

  -- ---- calls

  abbrev called : ℕ → List Value → Direct Value
  called f vs w s = after_call (call f vs (calling D S q.layouts call here bound f w)) s

  abbrev All : List Operand → Registers → List Value → Type 0
  All = Stand D S q.layouts call here bound

  into_made : (k f : ℕ) (t : CType) (E : Codes) (o : Gives (List Value)) (w : World) (r : Registers) → k ≤ E.next → AreAt D (E.types ++ (Is E.next t ∷ []))
      → M k (All E.values) r o (go E.code w r)
      → M k (Stands (Held E.next t)) r (onward o (called f)) (go (E.code ++ one (set_to E.next t (Invoke f (map expression_of E.values)))) w r)
  into_made k f t E o w r le at h =
      let N = one (set_to E.next t (Invoke f (map expression_of E.values))) in
      rw (run_join D S q.layouts call here bound E.code N w r)
      (makes_bind D S k k (All E.values) (Stands (Held E.next t)) r o (called f) (go E.code w r) (go N) (le_refl k) h
      (λ xs w s r' st keep. into D S q.layouts call here bound q fit f E xs w s r' keep.ready st k t le (at_split D E.types (Is E.next t ∷ []) at).1.0))

  invoke_made : (k f : ℕ) (t : CType) → result_type (slice_get q.functions f) ≡ t → (E : Codes) (o : Gives (List Value)) (w : World) (r : Registers) → k ≤ E.next → AreAt D (invoke_code f t E).types
      → M k (All E.values) r o (go E.code w r)
      → M k (Stands (invoke_code f t E).value) r (onward o (called f)) (go (invoke_code f t E).code w r)
  invoke_made k f type.Void e E o w r le at h =
      let N = one (Eval (Invoke f (map expression_of E.values))) in
      rw (run_join D S q.layouts call here bound E.code N w r)
      (makes_bind D S k k (All E.values) (Stands Absent) r o (called f) (go E.code w r) (go N) (le_refl k) h
      (λ xs w s r' st keep. alone D S q.layouts call here bound q fit f E xs w s r' keep.ready st k e))
  invoke_made k f (type.Int j) e E o w r le at h = into_made k f (type.Int j) E o w r le at h
  invoke_made k f (type.Pointer' b u) e E o w r le at h = into_made k f (type.Pointer' b u) E o w r le at h
  invoke_made k f (type.Array' b u n) e E o w r le at h = into_made k f (type.Array' b u n) E o w r le at h
  invoke_made k f (type.Struct n) e E o w r le at h = into_made k f (type.Struct n) E o w r le at h

  invoke_types : (f : ℕ) (t : CType) (E : Codes) → AreAt D (invoke_code f t E).types → AreAt D E.types
  invoke_types f type.Void E at = at
  invoke_types f (type.Int j) E at = (at_split D E.types (Is E.next (type.Int j) ∷ []) at).0
  invoke_types f (type.Pointer' b u) E at = (at_split D E.types (Is E.next (type.Pointer' b u) ∷ []) at).0
  invoke_types f (type.Array' b u n) E at = (at_split D E.types (Is E.next (type.Array' b u n) ∷ []) at).0
  invoke_types f (type.Struct n) E at = (at_split D E.types (Is E.next (type.Struct n) ∷ []) at).0

  cons_made : (k : ℕ) (a : Operand) (more : List Operand) (x : Value) (w : World) (r : Registers) (o : Gives (List Value)) (T : Gives Completion) → IsBelow k a → Stands a r x → M k (All more) r o T
      → M k (All (a ∷ more)) r (onward o (λ xs w s. Done (x ∷ xs) w s)) T
  cons_made k a more x w r (Done xs v s) T b ha h = (h.0, h.1, (stands_on D S k a v r h.0 x b h.3 ha, h.2), h.3)
  cons_made k a more x w r (Over e l) T b ha h = h
  cons_made k a more x w r (Stuck e l) T b ha h = h

  -- what a choice takes of the types
  choose_first : (C A B : Code) (o : Option Operand) → AreAt D (choose_into o C A B).types → AreAt D C.types
  choose_first C A B None at = let i = B.next in let t = chosen_type A.value B.value in (at_split D C.types (A.types ++ (B.types ++ (Is i t ∷ []))) at).0
  choose_first C A B (Some o) at = (at_split D C.types (A.types ++ B.types) at).0

  -- what is known of an expression from the number k on
  abbrev Agreed : Expr → ℕ → Type 0
  Agreed e k = AreAt D (ec e k).types → (w : World) (s r : Registers) → Ready D S w r → M k (Stands (ec e k).value) r (value_of e w s) (go (ec e k).code w r)

  -- two operands
  both_made : (k : ℕ) (e f : Expr) (t : CType) (m : Expr → Expr → Expr) (o : Value → Value → Direct Value) → Agreed e k → Agreed f (ec e k).next
      → AreAt D ((ec e k).types ++ ((ec f (ec e k).next).types ++ (Is (ec f (ec e k).next).next t ∷ []))) → (w : World) (s r : Registers) → Ready D S w r
      → ((x y : Value) (w : World) (s r : Registers) → Ready D S w r → Stands (ec e k).value r x → Stands (ec f (ec e k).next).value r y
      → Twin D S r (o x y w s) (value_of (m (expression_of (ec e k).value) (expression_of (ec f (ec e k).next).value)) w r))
      → M k (Stands (Held (ec f (ec e k).next).next t)) r (onward (value_of e w s) (λ v w s. onward (value_of f w s) (o v)))
      (go ((ec e k).code ++ ((ec f (ec e k).next).code ++ one (set_to (ec f (ec e k).next).next t (m (expression_of (ec e k).value) (expression_of (ec f (ec e k).next).value))))) w r)
  both_made k e f t m o p p' at w s r rd twin =
      let A = ec e k in
      let B = ec f A.next in
      let U = at_split D A.types (B.types ++ (Is B.next t ∷ [])) at in
      let V = at_split D B.types (Is B.next t ∷ []) U.1 in
      then_set_both_made D S q.layouts call here bound k t m A B (value_of e w s) (value_of f) o w r (code_grows q g e k) (code_grows q g f A.next) (value_below q g e k) V.1.0
      (p U.0 w s r rd) (λ w s r rd. p' V.0 w s r rd) twin

  -- the truth of an operand
  truth_made : (m : ℕ) (f : Expr) → Agreed f m → AreAt D (ec f m).types → slice_get D (ec f m).next ≡ Some int → (w : World) (s r : Registers) → Ready D S w r
      → M m (Stands (Held (ec f m).next int)) r (onward (value_of f w s) (λ v w s. Done (of_truth (truth v)) w s)) (go ((ec f m).code ++ one (set_to (ec f m).next int (as_truth_value (expression_of (ec f m).value)))) w r)
  truth_made m f p at here_at w s r rd =
      let B = ec f m in
      then_set_made D S q.layouts call here bound m int as_truth_value B (value_of f w s) (λ v. direct.pure (of_truth (truth v))) w r (code_grows q g f m) here_at (p at w s r rd)
      (λ x w s r rd h. truth_twin D S q.layouts call here bound B.value x w s r rd h)

  -- ---- the forms

  mutual
    pub expression_agrees : (e : Expr) → IsSourceExpression e → (k : ℕ) → AreAt D (ec e k).types → (w : World) (s r : Registers) → Ready D S w r → M k (Stands (ec e k).value) r (value_of e w s) (go (ec e k).code w r)
    expression_agrees (Literal j z) p k at w s r rd = (r, refl, refl, keeps_all D S k w r rd)
    expression_agrees Null p k at w s r rd = (r, refl, refl, keeps_all D S k w r rd)
    expression_agrees (Load x t) p k at w s r rd =
        let P = pc x k in
        let U = at_split D P.types (Is P.next t ∷ []) at in
        then_set_from_made D S q.layouts call here bound k t (Load (place_of P.target) t) P (ex.place direct q.layouts call here x w s) (acc.load direct here t) w r (place_grows q g x k) U.1.0 (place_agrees x p k U.0 w s r rd)
        (λ a w s r rd d. load_twin D S q.layouts call here bound t P.target a w s r rd d)
    expression_agrees (Address x t) p k at w s r rd =
        let P = pc x k in
        let U = at_split D P.types (Is P.next (pointer_to t) ∷ []) at in
        then_set_from_made D S q.layouts call here bound k (pointer_to t) (Address (place_of P.target) t) P (ex.place direct q.layouts call here x w s) (acc.address_of direct) w r (place_grows q g x k) U.1.0 (place_agrees x p k U.0 w s r rd)
        (λ a w s r rd d. address_twin D S q.layouts call here bound t P.target a w s r rd d)
    expression_agrees (Convert' j b (more_of-Expr e end_of-Expr)) p k at w s r rd =
        let A = ec e k in
        let U = at_split D A.types (Is A.next (type.Int j) ∷ []) at in
        then_set_made D S q.layouts call here bound k (type.Int j) (convert j) A (value_of e w s) (λ v. direct.pure (value.Int (converted j (integer v)))) w r (code_grows q g e k) U.1.0 (expression_agrees e p k U.0 w s r rd)
        (λ x w s r rd h. convert_twin D S q.layouts call here bound j A.value x w s r rd h)
    expression_agrees (Unary' o j b (more_of-Expr e end_of-Expr)) p k at w s r rd =
        let A = ec e k in
        let U = at_split D A.types (Is A.next (type.Int j) ∷ []) at in
        then_set_made D S q.layouts call here bound k (type.Int j) (unary o j) A (value_of e w s) (λ v. acc.as_int direct (acc.checked direct here (unary_of o j (integer v)))) w r (code_grows q g e k) U.1.0 (expression_agrees e p k U.0 w s r rd)
        (λ x w s r rd h. unary_twin D S q.layouts call here bound o j A.value x w s r rd h)
    expression_agrees (Binary' o j b (more_of-Expr e end_of-Expr) c (more_of-Expr f end_of-Expr)) p k at w s r rd =
        both_made k e f (type.Int j) (binary o j) (λ v u. acc.as_int direct (acc.checked direct here (binary_of o j (integer v) (integer u)))) (expression_agrees e p.0 k) (expression_agrees f p.1 (ec e k).next) at w s r rd
        (λ x y w s r rd ha hb. binary_twin D S q.layouts call here bound o j (ec e k).value (ec f (ec e k).next).value x y w s r rd ha hb)
    expression_agrees (Compare' o b (more_of-Expr e end_of-Expr) c (more_of-Expr f end_of-Expr)) p k at w s r rd =
        both_made k e f int (compare o) (λ v u. acc.as_truth direct (acc.checked direct here (compared o v u))) (expression_agrees e p.0 k) (expression_agrees f p.1 (ec e k).next) at w s r rd
        (λ x y w s r rd ha hb. compare_twin D S q.layouts call here bound o (ec e k).value (ec f (ec e k).next).value x y w s r rd ha hb)
    expression_agrees (Move' b (more_of-Expr e end_of-Expr) c (more_of-Expr f end_of-Expr) size side) p k at w s r rd =
        both_made k e f (operand_type (moved_operand side (ec e k).value (ec f (ec e k).next).value)) (λ a b. move a b size side) (λ v u. acc.move_elements direct here side size v u) (expression_agrees e p.0 k) (expression_agrees f p.1 (ec e k).next) at w s r rd
        (λ x y w s r rd ha hb. move_twin D S q.layouts call here bound size side (ec e k).value (ec f (ec e k).next).value x y w s r rd ha hb)
    expression_agrees (Difference' b (more_of-Expr e end_of-Expr) c (more_of-Expr f end_of-Expr) unit) p k at w s r rd =
        both_made k e f (type.Int kind.Long) (λ a b. difference a b unit) (λ v u. acc.as_int direct (acc.checked direct here (distance v u unit))) (expression_agrees e p.0 k) (expression_agrees f p.1 (ec e k).next) at w s r rd
        (λ x y w s r rd ha hb. difference_twin D S q.layouts call here bound unit (ec e k).value (ec f (ec e k).next).value x y w s r rd ha hb)
    expression_agrees (Not' b (more_of-Expr e end_of-Expr)) p k at w s r rd =
        let A = ec e k in
        let U = at_split D A.types (Is A.next int ∷ []) at in
        then_set_made D S q.layouts call here bound k int negated A (value_of e w s) (λ v. direct.pure (of_truth (not (truth v)))) w r (code_grows q g e k) U.1.0 (expression_agrees e p k U.0 w s r rd)
        (λ x w s r rd h. not_twin D S q.layouts call here bound A.value x w s r rd h)
    expression_agrees (Both' b (more_of-Expr e end_of-Expr) c (more_of-Expr f end_of-Expr)) p k at w s r rd =
        let A = ec e k in
        let B = ec f A.next in
        let i = B.next in
        let U = at_split D A.types (B.types ++ (Is i int ∷ [])) at in
        let V = at_split D B.types (Is i int ∷ []) U.1 in
        let le = code_grows q g f A.next in
        choice_made D S q.layouts call here bound k (Stands (Held i int)) A (B.code ++ one (set_to i int (as_truth_value (expression_of B.value)))) (one (set_to i int (truth_literal 0))) (value_of e w s)
        (direct.bind (value_of f) (λ w. direct.pure (of_truth (truth w)))) (direct.pure (of_truth false)) w r (code_grows q g e k) (expression_agrees e p.0 k U.0 w s r rd)
        (λ w s r rd. truth_made A.next f (expression_agrees f p.1 A.next) V.0 V.1.0 w s r rd)
        (λ w s r rd. set_result D S q.layouts call here bound A.next i int (truth_literal 0) w r (Done (of_truth false) w s) le rd.shaped V.1.0 (refl, rd.framed))
    expression_agrees (Either' b (more_of-Expr e end_of-Expr) c (more_of-Expr f end_of-Expr)) p k at w s r rd =
        let A = ec e k in
        let B = ec f A.next in
        let i = B.next in
        let U = at_split D A.types (B.types ++ (Is i int ∷ [])) at in
        let V = at_split D B.types (Is i int ∷ []) U.1 in
        let le = code_grows q g f A.next in
        choice_made D S q.layouts call here bound k (Stands (Held i int)) A (one (set_to i int (truth_literal 1))) (B.code ++ one (set_to i int (as_truth_value (expression_of B.value)))) (value_of e w s)
        (direct.pure (of_truth true)) (direct.bind (value_of f) (λ w. direct.pure (of_truth (truth w)))) w r (code_grows q g e k) (expression_agrees e p.0 k U.0 w s r rd)
        (λ w s r rd. set_result D S q.layouts call here bound A.next i int (truth_literal 1) w r (Done (of_truth true) w s) le rd.shaped V.1.0 (refl, rd.framed))
        (λ w s r rd. truth_made A.next f (expression_agrees f p.1 A.next) V.0 V.1.0 w s r rd)
    expression_agrees (Choose' b (more_of-Expr e end_of-Expr) c (more_of-Expr f end_of-Expr) d (more_of-Expr h end_of-Expr)) p k at w s r rd =
        let C = ec e k in
        let A = ec f C.next in
        let B = ec h A.next in
        choose_made k C A B (value_of e w s) (value_of f) (value_of h) w r (code_grows q g e k) (code_grows q g f C.next) (code_grows q g h A.next)
        (expression_agrees e p.0 k (choose_first C A B (common_operand A.value B.value) at) w s r rd)
        (λ at w s r rd. expression_agrees f p.1 C.next at w s r rd)
        (λ at w s r rd. expression_agrees h p.2 A.next at w s r rd)
        (common_operand A.value B.value) refl at
    expression_agrees (Assign' x t b (more_of-Expr e end_of-Expr)) p k at w s r rd =
        let P = pc x k in
        let A = ec e P.next in
        let N = typed_value t A.value A in
        let U = at_split D P.types N.types at in
        rw (run_join D S q.layouts call here bound P.code (N.code ++ one (assign (place_of P.target) t (expression_of N.value))) w r)
        (makes_bind D S k P.next (Fits P.target) (Stands N.value) r _ _ _ _ (place_grows q g x k) (place_agrees x p.0 k U.0 w s r rd)
        (λ a w s r' st keep. rw (run_join D S q.layouts call here bound N.code (one (assign (place_of P.target) t (expression_of N.value))) w r')
        (makes_bind D S P.next P.next (Stands N.value) (Stands N.value) r' _ _ _ _ (le_refl P.next)
        (typed_made P.next t A (value_of e w s) w r' (code_grows q g e P.next) A.value refl U.1 (expression_agrees e p.1 P.next (typed_types t A.value A U.1) w s r' keep.ready))
        (λ y w s r'' ha keep'. store_made P.next (Stands N.value) P.target N.value t a y w s r'' keep'.ready (designates_on D S q.layouts call here bound P.next P.target w r' r'' a (target_below q g x k) keep' st) ha ha))))
    expression_agrees (Update' x t o b (more_of-Expr e end_of-Expr) wh) p k at w s r rd =
        let P = pc x k in
        let i = P.next in
        let A = ec e (suc i) in
        let j = A.next in
        let old = Held i t in
        let new = Held j t in
        let T = at_split D P.types (Is i t ∷ (A.types ++ (Is j t ∷ []))) at in
        let U = at_split D A.types (Is j t ∷ []) T.1.1 in
        let L = one (set_to i t (Load (place_of P.target) t)) in
        let N = one (set_to j t (updated_expression t o (expression_of old) (expression_of A.value))) in
        let X = one (assign (place_of P.target) t (expression_of new)) in
        let le = code_grows q g e (suc i) in
        let K = Stands (answered wh old new) in
        rw (run_join D S q.layouts call here bound P.code (L ++ (A.code ++ (N ++ X))) w r)
        (makes_bind D S k i (Fits P.target) K r _ _ _ _ (place_grows q g x k) (place_agrees x p.0 k T.0 w s r rd)
        (λ a w s r1 st keep1. rw (run_join D S q.layouts call here bound L (A.code ++ (N ++ X)) w r1)
        (makes_bind D S i i (Stands old) K r1 (acc.load direct here t a w s) _ _ _ (le_refl i) (load_made t P.target i T.1.0 a w s r1 keep1.ready st)
        (λ y w s r2 ho keep2. rw (run_join D S q.layouts call here bound A.code (N ++ X) w r2)
        (makes_weaken D S i (suc i) K w r2 r2 _ _ (omega arith) (keeps_all D S i w r2 keep2.ready)
        (makes_bind D S (suc i) (suc i) (Stands A.value) K r2 _ _ _ _ (le_refl (suc i)) (expression_agrees e p.1 (suc i) U.0 w s r2 keep2.ready)
        (λ z w3 s r3 hv keep3. rw (run_join D S q.layouts call here bound N X w3 r3)
        (makes_bind D S (suc i) (suc i) (Stands new) K r3 _ _ _ _ (le_refl (suc i))
        (set_result D S q.layouts call here bound (suc i) j t (updated_expression t o (expression_of old) (expression_of A.value)) w3 r3 (acc.updated direct here t o y z w3 s) le keep3.ready.shaped U.1.0
        (update_twin D S q.layouts call here bound t o old A.value y z w3 s r3 keep3.ready (stands_on D S (suc i) old w3 r2 r3 y (omega arith) keep3 ho) hv))
        (λ v w4 s r4 hn keep4.
        let ho4 = stands_on D S (suc i) old w4 r3 r4 y (omega arith) keep4 (stands_on D S (suc i) old w3 r2 r3 y (omega arith) keep3 ho) in
        let sb = target_below q g x k in
        let st4 = designates_on D S q.layouts call here bound i P.target w4 r3 r4 a sb (keeps_fewer D S i (suc i) w4 r3 r4 (omega arith) keep4)
        (designates_on D S q.layouts call here bound i P.target w3 r2 r3 a sb (keeps_fewer D S i (suc i) w3 r2 r3 (omega arith) keep3) (designates_on D S q.layouts call here bound i P.target w r1 r2 a sb keep2 st)) in
        makes_map D S (suc i) (λ r u. K r (acc.answer wh y v)) K r4 (acc.store direct here t a v w4 s) (λ u. acc.answer wh y v) (go X w4 r4)
        (store_made (suc i) (λ r u. K r (acc.answer wh y v)) P.target new t a v w4 s r4 keep4.ready st4 hn (answered_stands wh old new r4 y v ho4 hn)) (λ u r' h. h))))))))))
    expression_agrees (Invoke' f x es) p k at w s r rd =
        let E = arguments_code q g es k in
        let t = result_type (slice_get q.functions f) in
        invoke_made k f t refl E (ex.all direct q.layouts call here es w s) w r (arguments_grow q g es k) at (arguments_agree es p k (invoke_types f t E at) w s r rd)
    expression_agrees GetChar p k at w s r rd =
        set_result D S q.layouts call here bound k k int GetChar w r (acc.get_char direct here w s) (le_refl k) rd.shaped at.0 (get_char_twin D S q.layouts call here bound w s r rd)
    expression_agrees (PutChar' b (more_of-Expr e end_of-Expr)) p k at w s r rd =
        let A = ec e k in
        let U = at_split D A.types (Is A.next int ∷ []) at in
        then_set_made D S q.layouts call here bound k int put_char A (value_of e w s) (acc.put_char direct here) w r (code_grows q g e k) U.1.0 (expression_agrees e p k U.0 w s r rd)
        (λ x w s r rd h. put_char_twin D S q.layouts call here bound A.value x w s r rd h)
    expression_agrees (Malloc' b (more_of-Expr e end_of-Expr) t) p k at w s r rd =
        let A = ec e k in
        let U = at_split D A.types (Is A.next (pointer_to t) ∷ []) at in
        then_set_made D S q.layouts call here bound k (pointer_to t) (allocated t) A (value_of e w s) (allocate direct here q.layouts t) w r (code_grows q g e k) U.1.0 (expression_agrees e p k U.0 w s r rd)
        (λ x w s r rd h. allocate_twin D S q.layouts call here bound t A.value x w s r rd h)
    expression_agrees (Free' b (more_of-Expr e end_of-Expr)) p k at w s r rd =
        let A = ec e k in
        let N = one (Eval (released (expression_of A.value))) in
        rw (run_join D S q.layouts call here bound A.code N w r)
        (makes_bind D S k k (Stands A.value) (Stands Absent) r (value_of e w s) (release direct here) (go A.code w r) (go N) (le_refl k) (expression_agrees e p k at w s r rd)
        (λ x w s r' ha keep. release_made D S q.layouts call here bound k A.value x w s r' keep.ready ha))
    expression_agrees (Discard' b (more_of-Expr e end_of-Expr)) p k at w s r rd =
        makes_map D S k (Stands (ec e k).value) (Stands Absent) r (value_of e w s) (λ v. value.Int (pos 0)) (go (ec e k).code w r) (expression_agrees e p k at w s r rd) (λ x r' h. refl)

    pub arguments_agree : {n : _} (es : Row_of-Expr n) → AreSourceExpressions es → (k : ℕ) → AreAt D (arguments_code q g es k).types → (w : World) (s r : Registers) → Ready D S w r
        → M k (All (arguments_code q g es k).values) r (ex.all direct q.layouts call here es w s) (go (arguments_code q g es k).code w r)
    arguments_agree end_of-Expr p k at w s r rd = (r, refl, tt, keeps_all D S k w r rd)
    arguments_agree (more_of-Expr e es) p k at w s r rd =
        let A = ec e k in
        let E = arguments_code q g es A.next in
        let U = at_split D A.types E.types at in
        rw (run_join D S q.layouts call here bound A.code E.code w r)
        (makes_bind D S k A.next (Stands A.value) (All (A.value ∷ E.values)) r _ _ _ _ (code_grows q g e k) (expression_agrees e p.0 k U.0 w s r rd)
        (λ x w s r' ha keep. cons_made A.next A.value E.values x w r' (ex.all direct q.layouts call here es w s) (go E.code w r') (value_below q g e k) ha (arguments_agree es p.1 A.next U.1 w s r' keep.ready)))

    pub place_agrees : (x : Place_) → IsSourcePlace x → (k : ℕ) → AreAt D (pc x k).types → (w : World) (s r : Registers) → Ready D S w r → M k (Fits (pc x k).target) r (ex.place direct q.layouts call here x w s) (go (pc x k).code w r)
    place_agrees (Own v) p k at w s r rd =
        subst (λ a. M k (Fits (Named v)) r (Done a w s) (Done Next w r)) (sym (source_kind D S q.layouts call here bound v.kind (InRegister v.index) (At (value.Pointer (name_in here.activation v) 0)) p))
        (r, refl, (refl, p), keeps_all D S k w r rd)
    place_agrees (Deref' b (more_of-Expr e end_of-Expr)) p k at w s r rd =
        makes_map D S k (Stands (ec e k).value) (Fits (Pointed (ec e k).value)) r (value_of e w s) At (go (ec e k).code w r) (expression_agrees e p k at w s r rd) (λ x r' h. h)
    place_agrees (Member' b (more_of-Place_ x end_of-Place_) o) p k at w s r rd =
        let P = pc x k in
        let t = (pc (Member' b (more_of-Place_ x end_of-Place_) o) k).ctype in
        let U = at_split D P.types (Is P.next (pointer_to t) ∷ []) at in
        let N = one (set_to P.next (pointer_to t) (Address (member (place_of P.target) o) t)) in
        rw (run_join D S q.layouts call here bound P.code N w r)
        (makes_bind D S k P.next (Fits P.target) (Fits (Pointed (Held P.next (pointer_to t)))) r _ _ _ _ (place_grows q g x k) (place_agrees x p k U.0 w s r rd)
        (λ a w s r' st keep. member_made o P.target P.next P.next t U.1.0 a w s r' (le_refl P.next) keep.ready st))
    place_agrees (Index' b (more_of-Place_ x end_of-Place_) c (more_of-Expr e end_of-Expr) size) p k at w s r rd =
        let P = pc x k in
        let A = ec e P.next in
        let t = (pc (Index' b (more_of-Place_ x end_of-Place_) c (more_of-Expr e end_of-Expr) size) k).ctype in
        let U = at_split D P.types (A.types ++ (Is A.next (pointer_to t) ∷ [])) at in
        let V = at_split D A.types (Is A.next (pointer_to t) ∷ []) U.1 in
        let N = one (set_to A.next (pointer_to t) (Address (index (place_of P.target) (expression_of A.value) size) t)) in
        rw (run_join D S q.layouts call here bound P.code (A.code ++ N) w r)
        (makes_bind D S k P.next (Fits P.target) (Fits (Pointed (Held A.next (pointer_to t)))) r _ _ _ _ (place_grows q g x k) (place_agrees x p.0 k U.0 w s r rd)
        (λ a w s r' st keep. rw (run_join D S q.layouts call here bound A.code N w r')
        (makes_bind D S P.next P.next (Stands A.value) (Fits (Pointed (Held A.next (pointer_to t)))) r' _ _ _ _ (le_refl P.next) (expression_agrees e p.1 P.next V.0 w s r' keep.ready)
        (λ y w s r'' ha keep'. index_made size P.target A.value P.next A.next t V.1.0 a y w s r'' (code_grows q g e P.next) keep'.ready (designates_on D S q.layouts call here bound P.next P.target w r' r'' a (target_below q g x k) keep' st) ha))))
