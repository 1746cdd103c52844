-- What rules give has the type that they say, by the types of expressions in a core: a beginning.
use Rattle.std.proofs.Common.{◌≡◌, ℕ, Bool, true, false, ◌&&◌, length, Some, Ok, Err, refl, sym, ap, ◌∙◌, arith}
use Rattle.std.specs.Prelude.{◌==◌}
use Rattle.step_meaning.specs.declared.value.IntKind.{IntKind}
use Rattle.step_meaning.specs.declared.value.IntKind.TheVariants as kind
use Rattle.step_meaning.specs.declared.value.CType.{CType, end_of-CType, more_of-CType}
use Rattle.step_meaning.specs.declared.value.CType.TheVariants as type
use Rattle.step_meaning.specs.declared.expr.IntOp.{IntOp}
use Rattle.step_meaning.specs.declared.expr.Side.TheVariants.{PointerFirst}
use Rattle.step_meaning.specs.declared.expr.Expr.{Expr}
use Rattle.step_meaning.specs.declared.expr.Expr.TheVariants as e
use Rattle.step_meaning.specs.declared.expr.Expr.TheBlock.{shape-the_row-Expr-0, hidden-the_row-Expr-0}
use Rattle.step_meaning.specs.declared.expr.Place_.{Place_}
use Rattle.step_meaning.specs.declared.program.Core.{Core}
use Rattle.step_meaning.specs.Types.{same_type}
use Rattle.step_meaning.specs.TypeRules.{cells, is_scalar}
use Rattle.step_meaning.specs.Conversions.{same_int_kind, is_promoted}
use Rattle.step_meaning.specs.Settings.{Setting}
use Rattle.step_meaning.specs.ExpressionTypes.{type_of, type_of_place, pointer_to, is_void, is_shift}
use Rattle.step_meaning.specs.declared.stmt.Stmt.{Stmt}
use Rattle.step_meaning.specs.declared.stmt.Stmt.TheVariants as core
use Rattle.step_meaning.specs.declared.stmt.Stmt.TheBlock.{shape-the_row-Stmt-1, hidden-the_row-Stmt-1}
use Rattle.step_meaning.specs.declared.program.Function.{Function}
use Rattle.step_meaning.specs.StatementRules.{StatementFits, own_code}
use Rattle.step_meaning.specs.ExpressionTypes.{is_condition}
use Rattle.std.specs.Prelude.{if◌then◌else◌, IsTrue}
use Rattle.c_lexer.specs.declared.token.Place.{Place}
use Rattle.typing_rules.specs.declared.operand.Operand.{Operand}
use Rattle.typing_rules.specs.declared.operand.What.{What}
use Rattle.typing_rules.specs.declared.operand.What.TheVariants.{At, Made}
use Rattle.typing_rules.specs.declared.operand.Origin.{Origin}
use Rattle.typing_rules.specs.declared.operand.Value.{Value}
use Rattle.typing_rules.specs.Checked.{Checked}
use Rattle.typing_rules.specs.Operands.{made, made_from, brought}
use Rattle.typing_rules.specs.Operators.{dereferenced, unit}
use Rattle.typing_rules.specs.Allocation.{Request, allocated, freed, is_allocated}
use Rattle.typing_rules.specs.Judgements.{shape, is_pointer, is_null}
use Rattle.typing_rules.specs.declared.fault.TypeFault.TheVariants.{Mismatch}
use Rattle.typing_rules.specs.declared.operand.Origin.TheVariants.{Allocation}
use Rattle.step_meaning.specs.TypeRules.{is_spelled, is_object_type}
use Rattle.step_meaning.specs.ExpressionTypes.{is_allocated_type}
use Rattle.typing_rules.specs.Environment.{Environment}
use denote.Hole.Carrier.{hidden}

same_number : (n : ℕ) → (n == n) ≡ true
same_number n = grind arith

pub same_itself : (t : CType) → same_type t t ≡ true
same_itself type.Void = refl
same_itself (type.Int k) = same_number _
same_itself (type.Pointer' b (more_of-CType t end_of-CType)) = same_itself t
same_itself (type.Array' b (more_of-CType t end_of-CType) n) = rw (same_number n) (same_itself t)
same_itself (type.Struct n) = same_number n

module _ (q : Core) (g : Setting) where
  -- pointer + integer
  pub moved_fits : (x y : Expr) (t : CType) (k : IntKind) → is_void t ≡ false → type_of q g x ≡ Some (pointer_to t) → type_of q g y ≡ Some (type.Int k)
      → type_of q g (e.Move x y (cells g.layouts t) PointerFirst) ≡ Some (pointer_to t)
  unfolding shape-the_row-Expr-0 hidden-the_row-Expr-0 hidden
  moved_fits x y t k v p i = rw (p, i, v, same_number (cells g.layouts t)) refl

  -- two integers brought to one promoted kind
  pub computed_fits : (o : IntOp) (k : IntKind) (x y : Expr) → is_promoted k ≡ true → is_shift o ≡ false → type_of q g x ≡ Some (type.Int k) → type_of q g y ≡ Some (type.Int k)
      → type_of q g (e.Binary o k x y) ≡ Some (type.Int k)
  unfolding shape-the_row-Expr-0 hidden-the_row-Expr-0 hidden
  computed_fits o k x y p s a b = rw (p, s, a, b, same_itself (type.Int k)) refl

  -- a conversion to another kind
  pub converted_fits : (k l : IntKind) (x : Expr) → same_int_kind k l ≡ false → type_of q g x ≡ Some (type.Int l) → type_of q g (e.Convert k x) ≡ Some (type.Int k)
  unfolding shape-the_row-Expr-0 hidden-the_row-Expr-0 hidden
  converted_fits k l x d a = rw (a, d) refl

  -- an assignment of a value of the place's type
  pub assigned_fits : (p : Place_) (t : CType) (x : Expr) → is_scalar t ≡ true → type_of_place q g p ≡ Some t → type_of q g x ≡ Some t → type_of q g (e.Assign p t x) ≡ Some t
  unfolding shape-the_row-Expr-0 hidden-the_row-Expr-0 hidden
  assigned_fits p t x s a b = rw (a, b, s, same_itself t) refl

-- ---- rules on values

false_is_not_true : {A : Type 0} → false ≡ true → A
false_is_not_true e = absurd (no e)
  where
    no : false ≡ true → ⊥
    no e = cc

same_kind_is : (k l : IntKind) → same_int_kind k l ≡ true → k ≡ l
same_kind_is kind.Char kind.Char h = refl
same_kind_is kind.SChar kind.SChar h = refl
same_kind_is kind.UChar kind.UChar h = refl
same_kind_is kind.Short kind.Short h = refl
same_kind_is kind.UShort kind.UShort h = refl
same_kind_is kind.Int kind.Int h = refl
same_kind_is kind.UInt kind.UInt h = refl
same_kind_is kind.Long kind.Long h = refl
same_kind_is kind.ULong kind.ULong h = refl
same_kind_is _ _ h = false_is_not_true h

module _ (q : Core) (g : Setting) where
  brought_if : (b : Bool) (k l : IntKind) (x : Expr) → same_int_kind k l ≡ b → type_of q g x ≡ Some (type.Int l) → type_of q g (if b then x else e.Convert k x) ≡ Some (type.Int k)
  brought_if true k l x s h = h ∙ ap (λ m. Some (type.Int m)) (sym (same_kind_is k l s))
  brought_if false k l x s h = converted_fits q g k l x s h

  -- a value of an integer type brought to a kind
  pub brought_fits : (k l : IntKind) (v : Value) → v.ctype ≡ type.Int l → type_of q g v.expr ≡ Some v.ctype → type_of q g (brought k v) ≡ Some (type.Int k)
  unfolding brought
  brought_fits k l v t h = rw t (brought_if (same_int_kind k l) k l v.expr refl (h ∙ ap Some t))

  -- a statement whose parts fit
  module _ (f : Function) (noted : Setting) where
    pub if_fits : (loop : Bool) (x : Expr) (a b : Stmt) → IsTrue (is_condition q (own_code q f) x) → StatementFits q f noted loop a → StatementFits q f noted loop b → StatementFits q f noted loop (core.If x a b)
    unfolding shape-the_row-Stmt-1 hidden-the_row-Stmt-1 hidden
    if_fits loop x a b h c d = (h, c, d)

    pub while_fits : (loop : Bool) (x : Expr) (a : Stmt) → IsTrue (is_condition q (own_code q f) x) → StatementFits q f noted true a → StatementFits q f noted loop (core.While x a)
    unfolding shape-the_row-Stmt-1 hidden-the_row-Stmt-1 hidden
    while_fits loop x a h c = (h, c)

  -- what a rule gives fits, where its parts do
  abbrev pub FitsWhat : What → Type 0
  FitsWhat (At p t) = type_of_place q g p ≡ Some t
  FitsWhat (Made o x t) = type_of q g x ≡ Some t

  abbrev pub Fits : Checked Operand → Type 0
  Fits (Ok a) = FitsWhat a.what
  Fits (Err x) = Unit {0}

  abbrev pub FitsValue : Value → Type 0
  FitsValue v = type_of q g v.expr ≡ Some v.ctype

  -- `*`
  pub dereferenced_fits : (at : Place) (first : Place) (x : Expr) (t : CType) (n : Origin) → type_of q g x ≡ Some t → Fits (dereferenced at (record { first = first; expr = x; ctype = t; origin = n }))
  unfolding dereferenced shape-the_row-Expr-0 hidden-the_row-Expr-0 hidden
  dereferenced_fits at first x (type.Pointer' b (more_of-CType type.Void end_of-CType)) n h = tt
  dereferenced_fits at first x (type.Pointer' b (more_of-CType t end_of-CType)) n h = rw h refl
  dereferenced_fits at first x _ n h = tt

  -- pointer + integer, as the rule for `+` gives it
  pub sum_fits : (at : Place) (a b : Value) (t : CType) (k : IntKind) → a.ctype ≡ pointer_to t → b.ctype ≡ type.Int k → is_void t ≡ false → FitsValue a → FitsValue b
      → type_of q g (e.Move a.expr b.expr (unit g.layouts a.ctype) PointerFirst) ≡ Some a.ctype
  unfolding unit
  sum_fits at a b t k p i v h j = rw p (moved_fits q g a.expr b.expr t k v (h ∙ ap Some p) (j ∙ ap Some i))

  -- `malloc`, where all structs are complete
  allocated_if : (b : Bool) (s : Environment) (at : Place) (r : Request) → is_allocated s r.ctype ≡ b → s.layouts ≡ g.layouts → length s.tags ≡ length g.layouts → type_of q g r.count ≡ Some (type.Int kind.ULong)
      → Fits (if b then Ok (made_from Allocation at (e.Malloc r.count r.ctype) (pointer_to r.ctype)) else Err (Mismatch at))
  unfolding shape-the_row-Expr-0 hidden-the_row-Expr-0 hidden
  allocated_if true s at r a l n c = rw (c, allocated_type) refl
    where
      allocated_type : is_allocated_type g.layouts r.ctype ≡ true
      allocated_type = sym (ap (λ m. is_spelled r.ctype && is_object_type g.layouts m r.ctype) n) ∙ sym (ap (λ ls. is_spelled r.ctype && is_object_type ls (length s.tags) r.ctype) l) ∙ a
  allocated_if false s at r a l n c = tt

  pub allocated_fits : (s : Environment) (at : Place) (r : Request) → s.layouts ≡ g.layouts → length s.tags ≡ length g.layouts → type_of q g r.count ≡ Some (type.Int kind.ULong) → Fits (allocated s at r)
  unfolding allocated
  allocated_fits s at r l n c = allocated_if (is_allocated s r.ctype) s at r refl l n c

  -- `free`
  freed_if : (b : Bool) (at : Place) (x : Expr) (t : CType) → is_pointer (shape t) ≡ b → type_of q g x ≡ Some t → Fits (if b then Ok (made at (e.Free x) type.Void) else Err (Mismatch at))
  unfolding shape shape-the_row-Expr-0 hidden-the_row-Expr-0 hidden
  freed_if false at x t p h = tt
  freed_if true at x (type.Pointer' b t) p h = rw h refl
  freed_if true at x type.Void p h = false_is_not_true p
  freed_if true at x (type.Int k) p h = false_is_not_true p
  freed_if true at x (type.Array' b t n) p h = false_is_not_true p
  freed_if true at x (type.Struct n) p h = false_is_not_true p

  freed_by : (null : Bool) (at : Place) (v : Value) → FitsValue v → Fits (if null then Ok (made at (e.Free e.Null) type.Void) else (if is_pointer (shape v.ctype) then Ok (made at (e.Free v.expr) type.Void) else Err (Mismatch at)))
  unfolding shape-the_row-Expr-0 hidden-the_row-Expr-0 hidden
  freed_by true at v h = refl
  freed_by false at v h = freed_if (is_pointer (shape v.ctype)) at v.expr v.ctype refl h

  pub freed_fits : (at : Place) (v : Value) → FitsValue v → Fits (freed at v)
  unfolding freed
  freed_fits at v h = freed_by (is_null v.origin) at v h
