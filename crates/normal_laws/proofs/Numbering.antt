-- The registers that code takes are numbered one after another, so that their types can be declared in a list.
use Rattle.std.proofs.Common.{◌≡◌, ℕ, suc, Bool, true, false, List, [], ◌∷◌, ◌++◌, Option, Some, None, map, length, refl, sym, ap, ◌∙◌, subst}
use Rattle.std.specs.Prelude.{slice_get}
use Rattle.step_meaning.specs.declared.value.CType.{CType}
use Rattle.step_meaning.specs.declared.value.CType.TheVariants as type
use Rattle.step_meaning.specs.declared.expr.Expr.{Expr, Row_of-Expr, end_of-Expr, more_of-Expr}
use Rattle.step_meaning.specs.declared.expr.Expr.TheVariants.{Literal, Null, Load, Address, Convert', Unary', Binary', Compare', Move', Difference', Not', Both', Either', Choose', Assign', Update', Invoke', GetChar, PutChar', Malloc', Free', Discard', Own, Deref', Member', Index'}
use Rattle.step_meaning.specs.declared.expr.Place_.{Place_, end_of-Place_, more_of-Place_}
use Rattle.step_meaning.specs.declared.stmt.Stmt.{Stmt, Row_of-Stmt, end_of-Stmt, more_of-Stmt}
use Rattle.step_meaning.specs.declared.stmt.Stmt.TheVariants.{Empty, Eval, Init, Block', If', While', Do', For', Break, Continue, Return, Ghost, Assert}
use Rattle.step_meaning.specs.declared.program.Core.{Core}
use Rattle.step_meaning.specs.declared.program.Function.{Function}
use Rattle.step_meaning.specs.Settings.{Setting, variable_type, code_setting}
use Rattle.normal_laws.specs.NormalForm.{Operand, Number, Nil, Held, Absent, Typed, Is, Code, Codes, PlaceCode, Part, MemberAt, ElementAt, common_operand, choose_into, typed_value, invoke_code, result_type, part_code, parts_code, cell_parts, named_code, or_void, expression_code, arguments_code, place_code, test_code, effect_code, statement_code, row_code, body_code, last_code, ended_body_code, declared_register}
use Rattle.normal_laws.proofs.Registers.{AreAt}

abbrev pub Numbered : ℕ → List Typed → ℕ → Type 0
Numbered m [] n = m ≡ n
Numbered m (Is i t ∷ ts) n = (i ≡ m) × Numbered (suc m) ts n

pub numbered_join : (m k n : ℕ) (a b : List Typed) → Numbered m a k → Numbered k b n → Numbered m (a ++ b) n
numbered_join m k n [] b h g = subst (λ k. Numbered k b n) (sym h) g
numbered_join m k n (Is i t ∷ a) b h g = (h.0, numbered_join (suc m) k n a b h.1 g)

-- one more register
numbered_one : (m k : ℕ) (a : List Typed) (t : CType) → Numbered m a k → Numbered m (a ++ (Is k t ∷ [])) (suc k)
numbered_one m k a t h = numbered_join m k (suc k) a (Is k t ∷ []) h (refl, refl)

numbered_two : (m k n : ℕ) (a b : List Typed) (t : CType) → Numbered m a k → Numbered k b n → Numbered m (a ++ (b ++ (Is n t ∷ []))) (suc n)
numbered_two m k n a b t h g = numbered_join m k (suc n) a (b ++ (Is n t ∷ [])) h (numbered_one k n b t g)

typed_numbered : (t : CType) (m : ℕ) (v : Operand) (A : Code) → Numbered m A.types A.next → Numbered m (typed_value t v A).types (typed_value t v A).next
typed_numbered t m Nil A h = numbered_one m A.next A.types t h
typed_numbered t m (Number k z) A h = h
typed_numbered t m (Held i u) A h = h
typed_numbered t m Absent A h = h

choose_numbered : (o : Option Operand) (m : ℕ) (C A B : Code) → Numbered m C.types C.next → Numbered C.next A.types A.next → Numbered A.next B.types B.next → Numbered m (choose_into o C A B).types (choose_into o C A B).next
choose_numbered None m C A B hc ha hb = numbered_join m C.next _ C.types (A.types ++ (B.types ++ _)) hc (numbered_two C.next A.next B.next A.types B.types _ ha hb)
choose_numbered (Some o) m C A B hc ha hb = numbered_join m C.next B.next C.types (A.types ++ B.types) hc (numbered_join C.next A.next B.next A.types B.types ha hb)

invoke_numbered : (g : ℕ) (t : CType) (m : ℕ) (es : Codes) → Numbered m es.types es.next → Numbered m (invoke_code g t es).types (invoke_code g t es).next
invoke_numbered g type.Void m es h = h
invoke_numbered g (type.Int k) m es h = numbered_one m es.next es.types (type.Int k) h
invoke_numbered g (type.Pointer' b u) m es h = numbered_one m es.next es.types (type.Pointer' b u) h
invoke_numbered g (type.Array' b u n) m es h = numbered_one m es.next es.types (type.Array' b u n) h
invoke_numbered g (type.Struct n) m es h = numbered_one m es.next es.types (type.Struct n) h

part_numbered : (x : Part) (m : ℕ) (p : PlaceCode) → Numbered m p.types p.next → Numbered m (part_code x p).types (part_code x p).next
part_numbered (MemberAt o t) m p h = numbered_one m p.next p.types _ h
part_numbered (ElementAt i size t) m p h = numbered_one m p.next p.types _ h

parts_numbered : (xs : List Part) (m : ℕ) (p : PlaceCode) → Numbered m p.types p.next → Numbered m (parts_code xs p).types (parts_code xs p).next
parts_numbered [] m p h = h
parts_numbered (x ∷ xs) m p h = parts_numbered xs m (part_code x p) (part_numbered x m p h)

module _ (q : Core) (g : Setting) where
  abbrev ec : Expr → ℕ → Code
  ec = expression_code q g

  abbrev pc : Place_ → ℕ → PlaceCode
  pc = place_code q g

  mutual
    pub code_numbered : (e : Expr) (m : ℕ) → Numbered m (ec e m).types (ec e m).next
    code_numbered (Literal k z) m = refl
    code_numbered Null m = refl
    code_numbered (Load p t) m = numbered_one m (pc p m).next (pc p m).types _ (place_numbered p m)
    code_numbered (Address p t) m = numbered_one m (pc p m).next (pc p m).types _ (place_numbered p m)
    code_numbered (Convert' k b (more_of-Expr e end_of-Expr)) m = numbered_one m (ec e m).next (ec e m).types _ (code_numbered e m)
    code_numbered (Unary' o k b (more_of-Expr e end_of-Expr)) m = numbered_one m (ec e m).next (ec e m).types _ (code_numbered e m)
    code_numbered (Binary' o k b (more_of-Expr e end_of-Expr) c (more_of-Expr f end_of-Expr)) m = numbered_two m (ec e m).next (ec f (ec e m).next).next (ec e m).types (ec f (ec e m).next).types _ (code_numbered e m) (code_numbered f (ec e m).next)
    code_numbered (Compare' o b (more_of-Expr e end_of-Expr) c (more_of-Expr f end_of-Expr)) m = numbered_two m (ec e m).next (ec f (ec e m).next).next (ec e m).types (ec f (ec e m).next).types _ (code_numbered e m) (code_numbered f (ec e m).next)
    code_numbered (Move' b (more_of-Expr e end_of-Expr) c (more_of-Expr f end_of-Expr) size side) m = numbered_two m (ec e m).next (ec f (ec e m).next).next (ec e m).types (ec f (ec e m).next).types _ (code_numbered e m) (code_numbered f (ec e m).next)
    code_numbered (Difference' b (more_of-Expr e end_of-Expr) c (more_of-Expr f end_of-Expr) unit) m = numbered_two m (ec e m).next (ec f (ec e m).next).next (ec e m).types (ec f (ec e m).next).types _ (code_numbered e m) (code_numbered f (ec e m).next)
    code_numbered (Not' b (more_of-Expr e end_of-Expr)) m = numbered_one m (ec e m).next (ec e m).types _ (code_numbered e m)
    code_numbered (Both' b (more_of-Expr e end_of-Expr) c (more_of-Expr f end_of-Expr)) m = numbered_two m (ec e m).next (ec f (ec e m).next).next (ec e m).types (ec f (ec e m).next).types _ (code_numbered e m) (code_numbered f (ec e m).next)
    code_numbered (Either' b (more_of-Expr e end_of-Expr) c (more_of-Expr f end_of-Expr)) m = numbered_two m (ec e m).next (ec f (ec e m).next).next (ec e m).types (ec f (ec e m).next).types _ (code_numbered e m) (code_numbered f (ec e m).next)
    code_numbered (Choose' b (more_of-Expr e end_of-Expr) c (more_of-Expr f end_of-Expr) d (more_of-Expr h end_of-Expr)) m =
        let C = ec e m in
        let A = ec f C.next in
        let B = ec h A.next in
        choose_numbered (common_operand A.value B.value) m C A B (code_numbered e m) (code_numbered f C.next) (code_numbered h A.next)
    code_numbered (Assign' p t b (more_of-Expr e end_of-Expr)) m =
        let P = pc p m in
        let A = ec e P.next in
        numbered_join m P.next (typed_value t A.value A).next P.types (typed_value t A.value A).types (place_numbered p m) (typed_numbered t P.next A.value A (code_numbered e P.next))
    code_numbered (Update' p t o b (more_of-Expr e end_of-Expr) w) m =
        let P = pc p m in
        let A = ec e (suc P.next) in
        numbered_join m P.next (suc A.next) P.types (Is P.next t ∷ (A.types ++ (Is A.next t ∷ []))) (place_numbered p m) (refl, numbered_one (suc P.next) A.next A.types t (code_numbered e (suc P.next)))
    code_numbered (Invoke' f b es) m = invoke_numbered f (result_type (slice_get q.functions f)) m (arguments_code q g es m) (arguments_numbered es m)
    code_numbered GetChar m = (refl, refl)
    code_numbered (PutChar' b (more_of-Expr e end_of-Expr)) m = numbered_one m (ec e m).next (ec e m).types _ (code_numbered e m)
    code_numbered (Malloc' b (more_of-Expr e end_of-Expr) t) m = numbered_one m (ec e m).next (ec e m).types _ (code_numbered e m)
    code_numbered (Free' b (more_of-Expr e end_of-Expr)) m = code_numbered e m
    code_numbered (Discard' b (more_of-Expr e end_of-Expr)) m = code_numbered e m

    arguments_numbered : {n : _} (es : Row_of-Expr n) (m : ℕ) → Numbered m (arguments_code q g es m).types (arguments_code q g es m).next
    arguments_numbered end_of-Expr m = refl
    arguments_numbered (more_of-Expr e es) m =
        numbered_join m (ec e m).next (arguments_code q g es (ec e m).next).next (ec e m).types (arguments_code q g es (ec e m).next).types (code_numbered e m) (arguments_numbered es (ec e m).next)

    place_numbered : (p : Place_) (m : ℕ) → Numbered m (pc p m).types (pc p m).next
    place_numbered (Own v) m = refl
    place_numbered (Deref' b (more_of-Expr e end_of-Expr)) m = code_numbered e m
    place_numbered (Member' b (more_of-Place_ p end_of-Place_) o) m = numbered_one m (pc p m).next (pc p m).types _ (place_numbered p m)
    place_numbered (Index' b (more_of-Place_ p end_of-Place_) c (more_of-Expr e end_of-Expr) size) m =
        numbered_two m (pc p m).next (ec e (pc p m).next).next (pc p m).types (ec e (pc p m).next).types _ (place_numbered p m) (code_numbered e (pc p m).next)

  test_numbered : (o : Option Expr) (m : ℕ) → Numbered m (test_code q g o m).types (test_code q g o m).next
  test_numbered None m = refl
  test_numbered (Some e) m = code_numbered e m

  effect_numbered : (o : Option Expr) (m : ℕ) → Numbered m (effect_code q g o m).types (effect_code q g o m).next
  effect_numbered None m = refl
  effect_numbered (Some e) m = code_numbered e m

  module _ (result : CType) where
    mutual
      pub statement_numbered : (before : List Stmt) (s : Stmt) (m : ℕ) → Numbered m (statement_code q g result before s m).types (statement_code q g result before s m).next
      statement_numbered before Empty m = refl
      statement_numbered before (Eval e) m = code_numbered e m
      statement_numbered before (Init v o t e) m =
          let A = ec e m in
          let T = or_void (variable_type g v) in
          let P = parts_code (cell_parts g.layouts T o) (named_code v T A.next) in
          numbered_join m A.next P.next A.types P.types (code_numbered e m) (parts_numbered (cell_parts g.layouts T o) A.next (named_code v T A.next) refl)
      statement_numbered before (Block' b ss) m = row_numbered before ss m
      statement_numbered before (If' e b (more_of-Stmt s end_of-Stmt) c (more_of-Stmt u end_of-Stmt)) m =
          let C = ec e m in
          let A = statement_code q g result before s C.next in
          let B = statement_code q g result before u A.next in
          numbered_join m C.next B.next C.types (A.types ++ B.types) (code_numbered e m) (numbered_join C.next A.next B.next A.types B.types (statement_numbered before s C.next) (statement_numbered before u A.next))
      statement_numbered before (While' e b (more_of-Stmt s end_of-Stmt)) m =
          let C = test_code q g (Some e) m in
          let A = statement_code q g result [] s C.next in
          numbered_join m C.next A.next C.types A.types (code_numbered e m) (statement_numbered [] s C.next)
      statement_numbered before (Do' b (more_of-Stmt s end_of-Stmt) e) m =
          let C = test_code q g (Some e) m in
          let A = statement_code q g result C.code s C.next in
          numbered_join m C.next A.next C.types A.types (code_numbered e m) (statement_numbered C.code s C.next)
      statement_numbered before (For' test step b (more_of-Stmt s end_of-Stmt)) m =
          let C = test_code q g test m in
          let L = effect_code q g step C.next in
          let A = statement_code q g result L.code s L.next in
          numbered_join m C.next A.next C.types (L.types ++ A.types) (test_numbered test m) (numbered_join C.next L.next A.next L.types A.types (effect_numbered step C.next) (statement_numbered L.code s L.next))
      statement_numbered before Break m = refl
      statement_numbered before Continue m = refl
      statement_numbered before (Return None) m = refl
      statement_numbered before (Return (Some e)) m = numbered_one m (ec e m).next (ec e m).types result (code_numbered e m)
      statement_numbered before (Ghost x) m = refl
      statement_numbered before (Assert v k x) m = refl

      pub row_numbered : {n : _} (before : List Stmt) (ss : Row_of-Stmt n) (m : ℕ) → Numbered m (row_code q g result before ss m).types (row_code q g result before ss m).next
      row_numbered before end_of-Stmt m = refl
      row_numbered before (more_of-Stmt s ss) m =
          let A = statement_code q g result before s m in
          let B = row_code q g result before ss A.next in
          numbered_join m A.next B.next A.types B.types (statement_numbered before s m) (row_numbered before ss A.next)

    pub body_numbered : (ss : List Stmt) (m : ℕ) → Numbered m (body_code q g result ss m).types (body_code q g result ss m).next
    body_numbered [] m = refl
    body_numbered (s ∷ ss) m =
        let A = statement_code q g result [] s m in
        let B = body_code q g result ss A.next in
        numbered_join m A.next B.next A.types B.types (statement_numbered [] s m) (body_numbered ss A.next)

-- ---- declared types

abbrev pub types_of : List Typed → List CType
types_of ts = map (λ d. d.ctype) (map declared_register ts)

there : (before : List CType) (t : CType) (more : List CType) → slice_get (before ++ (t ∷ more)) (length before) ≡ Some t
there [] t more = refl
there (u ∷ before) t more = there before t more

longer : (before : List CType) (t : CType) → length (before ++ (t ∷ [])) ≡ suc (length before)
longer [] t = refl
longer (u ∷ before) t = ap suc (longer before t)

regroup : (before : List CType) (t : CType) (more : List CType) → (before ++ (t ∷ [])) ++ more ≡ before ++ (t ∷ more)
regroup [] t more = refl
regroup (u ∷ before) t more = ap (λ ts. u ∷ ts) (regroup before t more)

at_from : (before : List CType) (ts : List Typed) (n : ℕ) → Numbered (length before) ts n → AreAt (before ++ types_of ts) ts
at_from before [] n h = tt
at_from before (Is i t ∷ ts) n h = (
  ap (λ i. slice_get (before ++ (t ∷ types_of ts)) i) h.0 ∙ there before t (types_of ts),
  subst (λ D. AreAt D ts) (regroup before t (types_of ts)) (at_from (before ++ (t ∷ [])) ts n (subst (λ m. Numbered m ts n) (sym (longer before t)) h.1)),
)

last_numbered : (b : Bool) (t : CType) (m : ℕ) → Numbered m (last_code b t m).types (last_code b t m).next
last_numbered true t m = (refl, refl)
last_numbered false type.Void m = refl
last_numbered false (type.Int k) m = refl
last_numbered false (type.Pointer' b u) m = refl
last_numbered false (type.Array' b u n) m = refl
last_numbered false (type.Struct n) m = refl

-- the registers of a body have the types that they are declared with
pub declared_at : (q : Core) (is_main : Bool) (f : Function) (ss : List Stmt) → AreAt (types_of (ended_body_code q is_main f ss).types) (ended_body_code q is_main f ss).types
declared_at q is_main f ss =
    let b = body_code q (code_setting q f) f.result ss 0 in
    let l = last_code is_main f.result b.next in
    at_from [] (b.types ++ l.types) l.next (numbered_join 0 b.next l.next b.types l.types (body_numbered q (code_setting q f) f.result ss 0) (last_numbered is_main f.result b.next))
