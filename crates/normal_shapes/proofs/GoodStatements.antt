-- The statements of code, and what is asked of the expressions in them: they have types, are in normal form and small.
use Rattle.std.proofs.Common.{◌≡◌, ℕ, ◌≤◌, true, ◌||◌, List, [], ◌∷◌, ◌++◌, Some, refl, ap, ◌∙◌, arith}
use Rattle.std.specs.Prelude.{is_some}
use Rattle.std.proofs.lemmas.Bool.{le-leb}
use Rattle.step_meaning.specs.declared.value.CType.{CType}
use Rattle.step_meaning.specs.declared.expr.Expr.{Expr, end_of-Expr, more_of-Expr}
use Rattle.step_meaning.specs.declared.expr.Expr.TheVariants.{Assign'}
use Rattle.step_meaning.specs.declared.expr.Place_.{Place_}
use Rattle.step_meaning.specs.declared.stmt.Stmt.{Stmt}
use Rattle.step_meaning.specs.declared.stmt.Stmt.TheVariants.{Eval}
use Rattle.step_meaning.specs.declared.program.Core.{Core}
use Rattle.step_meaning.specs.declared.program.Declared.{Declared}
use Rattle.step_meaning.specs.Types.{where_true}
use Rattle.step_meaning.specs.TypeRules.{is_scalar}
use Rattle.step_meaning.specs.Settings.{Setting}
use Rattle.step_meaning.specs.ExpressionTypes.{has_this_type, is_taken_by}
use Rattle.step_meaning.specs.Normal.{is_normal_expression, is_silent, is_place_value, is_single_call}
use Rattle.step_meaning.specs.Printable.{is_small, allocates_small_type}
use Rattle.step_meaning.specs.Sizes.{nodes, depth}
use Rattle.step_meaning.proofs.Ranges.{and_true}
use Rattle.step_meaning.proofs.SameTypes.{same_itself}
use Rattle.normal_laws.specs.NormalForm.{Operand, Number, Nil, Held, Absent, Target, register, expression_of, place_of, one, choice, Typed, Is, Code, PlaceCode, then_set, then_set_both, then_set_from}
use Rattle.normal_laws.proofs.Emitted.{Each, each_join}
use Rattle.normal_shapes.proofs.GoodTypes.{IsValue, left_of_or, right_of_or}
use Rattle.normal_shapes.proofs.TypedOperands.{T, P, IsDeclared, OperandFits, TargetFits, operand_is, operand_small, target_small, target_typed, target_plain}

abbrev pub taking : Place_ → CType → Expr → Expr
taking p t e = Assign' p t tt (more_of-Expr e end_of-Expr)

-- ---- registers that code takes

module _ (q : Core) (g : Setting) (ds : List Declared) where
  abbrev pub AreDeclared : List Typed → Type 0
  AreDeclared [] = Unit {0}
  AreDeclared (Is i t ∷ ts) = IsDeclared q g ds i t × AreDeclared ts

  pub declared_split : (a b : List Typed) → AreDeclared (a ++ b) → AreDeclared a × AreDeclared b
  declared_split [] b h = (tt, h)
  declared_split (Is i t ∷ a) b h = let k = declared_split a b h.1 in ((h.0, k.0), k.1)

  abbrev pub EachValue : List Typed → Type 0
  EachValue [] = Unit {0}
  EachValue (Is i t ∷ ts) = IsValue g.layouts t × EachValue ts

  pub value_join : (a b : List Typed) → EachValue a → EachValue b → EachValue (a ++ b)
  value_join [] b h k = k
  value_join (Is i t ∷ a) b h k = (h.0, value_join a b h.1 k)

  -- ---- expressions

  pub record IsGood (e : Expr) : Type 0 where
    pub typed : is_some (T q g ds e) ≡ true
    pub normal : is_normal_expression e ≡ true
    pub small : is_small e ≡ true

  small_by : (e : Expr) → nodes e ≤ 1200 → depth e ≤ 64 → allocates_small_type e ≡ true → is_small e ≡ true
  small_by e n d a = and_true (le-leb (nodes e) 1200 n) (and_true (le-leb (depth e) 64 d) a)

  pub operand_is_small : (a : Operand) → is_small (expression_of a) ≡ true
  operand_is_small a = let s = operand_small a in let n = s.nodes in let d = s.depth in small_by (expression_of a) (omega arith) (omega arith) (allocates a)
    where
      allocates : (a : Operand) → allocates_small_type (expression_of a) ≡ true
      allocates (Number k z) = refl
      allocates Nil = refl
      allocates (Held i t) = refl
      allocates Absent = refl

  pub call_good : (e : Expr) (t : CType) → T q g ds e ≡ Some t → is_normal_expression e ≡ true → nodes e ≤ 1200 → depth e ≤ 64 → allocates_small_type e ≡ true → IsGood e
  call_good e t h c n d a = record { typed = ap is_some h; normal = c; small = small_by e n d a }

  -- a register takes an expression
  pub set_good : (i : ℕ) (t : CType) (e : Expr) → IsDeclared q g ds i t → is_taken_by t e (T q g ds e) ≡ true → (is_silent e || (is_place_value e || is_single_call e)) ≡ true → nodes e ≤ 1198 → depth e ≤ 62
      → allocates_small_type (taking (register i) t e) ≡ true → IsGood (taking (register i) t e)
  set_good i t e d h k n m a =
      record {
        typed = ap (λ b. is_some (where_true b t)) (and_true (ap (has_this_type t) d ∙ same_itself t) h);
        normal = left_of_or _ _ k;
        small = small_by (taking (register i) t e) (omega arith) (omega arith) a;
      }

  pub taken_exactly : (t : CType) (e : Expr) → is_scalar t ≡ true → T q g ds e ≡ Some t → is_taken_by t e (T q g ds e) ≡ true
  taken_exactly t e s h = and_true s (left_of_or (has_this_type t (T q g ds e)) _ (ap (has_this_type t) h ∙ same_itself t))

  -- a register takes an expression of its type without an access
  pub silent_good : (i : ℕ) (t : CType) (e : Expr) → IsDeclared q g ds i t → IsValue g.layouts t → T q g ds e ≡ Some t → is_silent e ≡ true → nodes e ≤ 1198 → depth e ≤ 62 → allocates_small_type (taking (register i) t e) ≡ true → IsGood (taking (register i) t e)
  silent_good i t e d v h k n m a = set_good i t e d (taken_exactly t e v.scalar h) (left_of_or _ _ k) n m a

  pub operand_allocates : (p : Place_) (t : CType) (a : Operand) → allocates_small_type (taking p t (expression_of a)) ≡ true
  operand_allocates p t (Number k z) = refl
  operand_allocates p t Nil = refl
  operand_allocates p t (Held i u) = refl
  operand_allocates p t Absent = refl

  -- a register takes an operand
  pub copy_good : (i : ℕ) (t : CType) (a : Operand) → IsDeclared q g ds i t → is_taken_by t (expression_of a) (T q g ds (expression_of a)) ≡ true → IsGood (taking (register i) t (expression_of a))
  copy_good i t a d h =
      let s = operand_small a in
      let n = s.nodes in
      let m = s.depth in
      set_good i t (expression_of a) d h (left_of_or _ _ (Rattle.normal_shapes.proofs.TypedOperands.operand_silent a)) (omega arith) (omega arith) (operand_allocates (register i) t a)

  -- a place takes an operand
  pub store_good : (u : Target) (t : CType) (a : Operand) → TargetFits q g ds t u → is_taken_by t (expression_of a) (T q g ds (expression_of a)) ≡ true → IsGood (taking (place_of u) t (expression_of a))
  store_good u t a f h =
      let s = operand_small a in
      let n = s.nodes in
      let m = s.depth in
      let w = target_small u in
      let wn = w.nodes in
      let wm = w.depth in
      record {
        typed = ap (λ b. is_some (where_true b t)) (and_true (ap (has_this_type t) (target_typed q g ds t u f) ∙ same_itself t) h);
        normal = right_of_or _ _ (and_true (target_plain q g ds t u f) (operand_is a));
        small = small_by (taking (place_of u) t (expression_of a)) (omega arith) (omega arith) (operand_allocates (place_of u) t a);
      }

  -- ---- code

  -- what a property of statements keeps
  pub record Allows (S : Stmt → Type 0) : Type 0 where
    pub evaluates : (e : Expr) → IsGood e → S (Eval e)
    pub chooses : (a : Operand) (t : CType) → OperandFits q g ds t a → is_scalar t ≡ true → (x y : List Stmt) → Each S x → Each S y → S (choice (expression_of a) x y)

  module _ (S : Stmt → Type 0) (rules : Allows S) where
    pub record IsGoodCode (t : CType) (A : Code) : Type 0 where
      pub each : Each S A.code
      pub value : OperandFits q g ds t A.value
      pub types : EachValue A.types

    pub record IsGoodPlace (t : CType) (A : PlaceCode) : Type 0 where
      pub each : Each S A.code
      pub target : TargetFits q g ds t A.target
      pub named : A.ctype ≡ t
      pub types : EachValue A.types

    pub then_one : (a : List Stmt) (e : Expr) → Each S a → IsGood e → Each S (a ++ one (Eval e))
    then_one a e h k = each_join S a (one (Eval e)) h (rules.evaluates e k, tt)

    pub both_one : (a b : List Stmt) (e : Expr) → Each S a → Each S b → IsGood e → Each S (a ++ (b ++ one (Eval e)))
    both_one a b e h j k = each_join S a (b ++ one (Eval e)) h (then_one b e j k)

    pub then_set_good : (t : CType) (f : Expr → Expr) (A : Code) → Each S A.code → EachValue A.types → IsDeclared q g ds A.next t → IsValue g.layouts t → IsGood (taking (register A.next) t (f (expression_of A.value))) → IsGoodCode t (then_set t f A)
    then_set_good t f A h w d v k = record { each = then_one A.code _ h k; value = (refl, d, v); types = value_join A.types (Is A.next t ∷ []) w (v, tt) }

    pub then_set_both_good : (t : CType) (f : Expr → Expr → Expr) (A B : Code) → Each S A.code → EachValue A.types → Each S B.code → EachValue B.types → IsDeclared q g ds B.next t → IsValue g.layouts t
        → IsGood (taking (register B.next) t (f (expression_of A.value) (expression_of B.value))) → IsGoodCode t (then_set_both t f A B)
    then_set_both_good t f A B h w j x d v k = record { each = both_one A.code B.code _ h j k; value = (refl, d, v); types = value_join A.types (B.types ++ (Is B.next t ∷ [])) w (value_join B.types (Is B.next t ∷ []) x (v, tt)) }

    pub then_set_from_good : (t : CType) (f : Place_ → Expr) (A : PlaceCode) → Each S A.code → EachValue A.types → IsDeclared q g ds A.next t → IsValue g.layouts t → IsGood (taking (register A.next) t (f (place_of A.target))) → IsGoodCode t (then_set_from t f A)
    then_set_from_good t f A h w d v k = record { each = then_one A.code _ h k; value = (refl, d, v); types = value_join A.types (Is A.next t ∷ []) w (v, tt) }
