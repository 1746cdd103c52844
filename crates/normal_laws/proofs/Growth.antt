-- The numbers of registers: those that code takes are new, and its operands are below the next free one.
use Rattle.std.proofs.Common.{◌≡◌, ℕ, suc, ◌<◌, ◌≤◌, List, [], ◌∷◌, Option, Some, None, refl, arith, le_refl}
use Rattle.std.specs.Prelude.{slice_get}
use Rattle.step_meaning.specs.declared.value.CType.{CType}
use Rattle.step_meaning.specs.declared.value.CType.TheVariants as type
use Rattle.step_meaning.specs.declared.expr.Answer.{Answer}
use Rattle.step_meaning.specs.declared.expr.Answer.TheVariants.{Before, After}
use Rattle.step_meaning.specs.declared.expr.Expr.{Expr, Row_of-Expr, end_of-Expr, more_of-Expr}
use Rattle.step_meaning.specs.declared.expr.Expr.TheVariants.{Literal, Null, Load, Address, Convert', Unary', Binary', Compare', Move', Difference', Not', Both', Either', Choose', Assign', Update', Invoke', GetChar, PutChar', Malloc', Free', Discard', Own, Deref', Member', Index'}
use Rattle.step_meaning.specs.declared.expr.Place_.{Place_, end_of-Place_, more_of-Place_}
use Rattle.step_meaning.specs.declared.program.Core.{Core}
use Rattle.step_meaning.specs.Settings.{Setting}
use Rattle.normal_laws.specs.NormalForm.{Operand, Number, Nil, Held, Absent, Code, Codes, common_operand, choose_into, typed_value, answered, invoke_code, result_type, expression_code, arguments_code, place_code, Part, MemberAt, ElementAt, PlaceCode, part_code, parts_code}
use Rattle.normal_laws.proofs.Emission.{IsBelow, IsTargetBelow}

pub is_below_more : (m n : ℕ) (a : Operand) → m ≤ n → IsBelow m a → IsBelow n a
is_below_more m n (Number k z) le h = tt
is_below_more m n Nil le h = tt
is_below_more m n (Held i t) le h = omega arith
is_below_more m n Absent le h = tt

typed_grows : (t : CType) (v : Operand) (A : Code) → A.next ≤ (typed_value t v A).next
typed_grows t Nil A = omega arith
typed_grows t (Number k z) A = le_refl A.next
typed_grows t (Held i u) A = le_refl A.next
typed_grows t Absent A = le_refl A.next

typed_below : (t : CType) (v : Operand) (A : Code) → IsBelow A.next A.value → IsBelow (typed_value t v A).next (typed_value t v A).value
typed_below t Nil A h = omega arith
typed_below t (Number k z) A h = h
typed_below t (Held i u) A h = h
typed_below t Absent A h = h

choose_grows : (o : Option Operand) (C A B : Code) → B.next ≤ (choose_into o C A B).next
choose_grows None C A B = omega arith
choose_grows (Some a) C A B = le_refl B.next

common_below : (m : ℕ) (a b : Operand) → (o : Operand) → common_operand a b ≡ Some o → IsBelow m o
common_below m Nil Nil (Number k z) e = tt
common_below m Nil Nil Nil e = tt
common_below m Nil Nil (Held i t) e = absurd cc
common_below m Nil Nil Absent e = tt
common_below m Absent Absent (Held i t) e = absurd cc
common_below m Absent Absent (Number k z) e = tt
common_below m Absent Absent Nil e = tt
common_below m Absent Absent Absent e = tt
common_below m _ _ o e = absurd cc

choose_below : (o : Option Operand) (C A B : Code) → common_operand A.value B.value ≡ o → IsBelow (choose_into o C A B).next (choose_into o C A B).value
choose_below None C A B e = omega arith
choose_below (Some a) C A B e = common_below B.next A.value B.value a e

invoke_grows : (g : ℕ) (t : CType) (es : Codes) → es.next ≤ (invoke_code g t es).next
invoke_grows g type.Void es = le_refl es.next
invoke_grows g (type.Int k) es = omega arith
invoke_grows g (type.Pointer' b u) es = omega arith
invoke_grows g (type.Array' b u n) es = omega arith
invoke_grows g (type.Struct n) es = omega arith

invoke_below : (g : ℕ) (t : CType) (es : Codes) → IsBelow (invoke_code g t es).next (invoke_code g t es).value
invoke_below g type.Void es = tt
invoke_below g (type.Int k) es = omega arith
invoke_below g (type.Pointer' b u) es = omega arith
invoke_below g (type.Array' b u n) es = omega arith
invoke_below g (type.Struct n) es = omega arith

answered_below : (w : Answer) (i j n : ℕ) (t u : CType) → i < n → j < n → IsBelow n (answered w (Held i t) (Held j u))
answered_below Before i j n t u a b = a
answered_below After i j n t u a b = b

pub part_grows : (x : Part) (p : PlaceCode) → p.next ≤ (part_code x p).next
part_grows (MemberAt o t) p = omega arith
part_grows (ElementAt i size t) p = omega arith

pub parts_grow : (xs : List Part) (p : PlaceCode) → p.next ≤ (parts_code xs p).next
parts_grow [] p = le_refl p.next
parts_grow (x ∷ xs) p = let a = part_grows x p in let b = parts_grow xs (part_code x p) in omega arith

module _ (q : Core) (g : Setting) where
  abbrev ec : Expr → ℕ → Code
  ec = expression_code q g

  abbrev pc : Place_ → ℕ → PlaceCode
  pc = place_code q g

  mutual
    pub code_grows : (e : Expr) (m : ℕ) → m ≤ (ec e m).next
    code_grows (Literal k z) m = le_refl m
    code_grows Null m = le_refl m
    code_grows (Load p t) m = let a = place_grows p m in omega arith
    code_grows (Address p t) m = let a = place_grows p m in omega arith
    code_grows (Convert' k b (more_of-Expr e end_of-Expr)) m = let a = code_grows e m in omega arith
    code_grows (Unary' o k b (more_of-Expr e end_of-Expr)) m = let a = code_grows e m in omega arith
    code_grows (Binary' o k b (more_of-Expr e end_of-Expr) c (more_of-Expr f end_of-Expr)) m = let a = code_grows e m in let b = code_grows f (ec e m).next in omega arith
    code_grows (Compare' o b (more_of-Expr e end_of-Expr) c (more_of-Expr f end_of-Expr)) m = let a = code_grows e m in let b = code_grows f (ec e m).next in omega arith
    code_grows (Move' b (more_of-Expr e end_of-Expr) c (more_of-Expr f end_of-Expr) size side) m = let a = code_grows e m in let b = code_grows f (ec e m).next in omega arith
    code_grows (Difference' b (more_of-Expr e end_of-Expr) c (more_of-Expr f end_of-Expr) unit) m = let a = code_grows e m in let b = code_grows f (ec e m).next in omega arith
    code_grows (Not' b (more_of-Expr e end_of-Expr)) m = let a = code_grows e m in omega arith
    code_grows (Both' b (more_of-Expr e end_of-Expr) c (more_of-Expr f end_of-Expr)) m = let a = code_grows e m in let b = code_grows f (ec e m).next in omega arith
    code_grows (Either' b (more_of-Expr e end_of-Expr) c (more_of-Expr f end_of-Expr)) m = let a = code_grows e m in let b = code_grows f (ec e m).next in omega arith
    code_grows (Choose' b (more_of-Expr e end_of-Expr) c (more_of-Expr f end_of-Expr) d (more_of-Expr h end_of-Expr)) m =
        let C = ec e m in
        let A = ec f C.next in
        let B = ec h A.next in
        let x = code_grows e m in
        let y = code_grows f C.next in
        let z = code_grows h A.next in
        let v = choose_grows (common_operand A.value B.value) C A B in
        omega arith
    code_grows (Assign' p t b (more_of-Expr e end_of-Expr)) m =
        let P = pc p m in
        let A = ec e P.next in
        let x = place_grows p m in
        let y = code_grows e P.next in
        let z = typed_grows t A.value A in
        omega arith
    code_grows (Update' p t o b (more_of-Expr e end_of-Expr) w) m = let a = place_grows p m in let b = code_grows e (suc (pc p m).next) in omega arith
    code_grows (Invoke' f b es) m = let a = arguments_grow es m in let b = invoke_grows f (result_type (slice_get q.functions f)) (arguments_code q g es m) in omega arith
    code_grows GetChar m = omega arith
    code_grows (PutChar' b (more_of-Expr e end_of-Expr)) m = let a = code_grows e m in omega arith
    code_grows (Malloc' b (more_of-Expr e end_of-Expr) t) m = let a = code_grows e m in omega arith
    code_grows (Free' b (more_of-Expr e end_of-Expr)) m = code_grows e m
    code_grows (Discard' b (more_of-Expr e end_of-Expr)) m = code_grows e m

    pub arguments_grow : {n : _} (es : Row_of-Expr n) (m : ℕ) → m ≤ (arguments_code q g es m).next
    arguments_grow end_of-Expr m = le_refl m
    arguments_grow (more_of-Expr e es) m = let a = code_grows e m in let b = arguments_grow es (ec e m).next in omega arith

    pub place_grows : (p : Place_) (m : ℕ) → m ≤ (pc p m).next
    place_grows (Own v) m = le_refl m
    place_grows (Deref' b (more_of-Expr e end_of-Expr)) m = code_grows e m
    place_grows (Member' b (more_of-Place_ p end_of-Place_) o) m = let a = place_grows p m in omega arith
    place_grows (Index' b (more_of-Place_ p end_of-Place_) c (more_of-Expr e end_of-Expr) size) m = let a = place_grows p m in let b = code_grows e (pc p m).next in omega arith

  mutual
    pub value_below : (e : Expr) (m : ℕ) → IsBelow (ec e m).next (ec e m).value
    value_below (Literal k z) m = tt
    value_below Null m = tt
    value_below (Load p t) m = omega arith
    value_below (Address p t) m = omega arith
    value_below (Convert' k b (more_of-Expr e end_of-Expr)) m = omega arith
    value_below (Unary' o k b (more_of-Expr e end_of-Expr)) m = omega arith
    value_below (Binary' o k b (more_of-Expr e end_of-Expr) c (more_of-Expr f end_of-Expr)) m = omega arith
    value_below (Compare' o b (more_of-Expr e end_of-Expr) c (more_of-Expr f end_of-Expr)) m = omega arith
    value_below (Move' b (more_of-Expr e end_of-Expr) c (more_of-Expr f end_of-Expr) size side) m = omega arith
    value_below (Difference' b (more_of-Expr e end_of-Expr) c (more_of-Expr f end_of-Expr) unit) m = omega arith
    value_below (Not' b (more_of-Expr e end_of-Expr)) m = omega arith
    value_below (Both' b (more_of-Expr e end_of-Expr) c (more_of-Expr f end_of-Expr)) m = omega arith
    value_below (Either' b (more_of-Expr e end_of-Expr) c (more_of-Expr f end_of-Expr)) m = omega arith
    value_below (Choose' b (more_of-Expr e end_of-Expr) c (more_of-Expr f end_of-Expr) d (more_of-Expr h end_of-Expr)) m =
        let C = ec e m in
        let A = ec f C.next in
        let B = ec h A.next in
        choose_below (common_operand A.value B.value) C A B refl
    value_below (Assign' p t b (more_of-Expr e end_of-Expr)) m = let A = ec e (pc p m).next in typed_below t A.value A (value_below e (pc p m).next)
    value_below (Update' p t o b (more_of-Expr e end_of-Expr) w) m =
        let i = (pc p m).next in
        let j = (ec e (suc i)).next in
        let le = code_grows e (suc i) in
        answered_below w i j (suc j) t t (omega arith) (omega arith)
    value_below (Invoke' f b es) m = invoke_below f (result_type (slice_get q.functions f)) (arguments_code q g es m)
    value_below GetChar m = omega arith
    value_below (PutChar' b (more_of-Expr e end_of-Expr)) m = omega arith
    value_below (Malloc' b (more_of-Expr e end_of-Expr) t) m = omega arith
    value_below (Free' b (more_of-Expr e end_of-Expr)) m = tt
    value_below (Discard' b (more_of-Expr e end_of-Expr)) m = tt

    pub target_below : (p : Place_) (m : ℕ) → IsTargetBelow (pc p m).next (pc p m).target
    target_below (Own v) m = tt
    target_below (Deref' b (more_of-Expr e end_of-Expr)) m = value_below e m
    target_below (Member' b (more_of-Place_ p end_of-Place_) o) m = omega arith
    target_below (Index' b (more_of-Place_ p end_of-Place_) c (more_of-Expr e end_of-Expr) size) m = omega arith
