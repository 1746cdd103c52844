-- What the rules on address constants say of each form of lvalue, type and expression that code makes.
use Rattle.std.proofs.Common.{◌≡◌, refl, sym, ℕ, ◌+◌, ◌*◌, ◌<◌, ◌^◌, min, Bool, true, false, cond, Option, Some, None, arith, ap, ◌∙◌}
use Rattle.std.proofs.lemmas.Option.{same_Some}
use Rattle.std.specs.Prelude.{pos, negsuc, nat_lt, List, slice_get, option_map, option_and_then}
use denote.Hole.Carrier.{hidden}
use Rattle.step_meaning.specs.declared.value.CType.{CType}
use Rattle.step_meaning.specs.declared.value.CType.TheVariants as type
use Rattle.step_meaning.specs.declared.value.CType.TheBlock.{shape-the_row-CType-0, hidden-the_row-CType-0}
use Rattle.step_meaning.specs.declared.value.IntKind.{IntKind}
use Rattle.step_meaning.specs.declared.value.NameKind.TheVariants.{Global}
use Rattle.step_meaning.specs.declared.value.Name.{Name}
use Rattle.step_meaning.specs.declared.value.Value.{Value}
use Rattle.step_meaning.specs.declared.value.Value.TheVariants as value
use Rattle.step_meaning.specs.declared.expr.Variable.{Variable}
use Rattle.step_meaning.specs.declared.expr.Expr.{Expr}
use Rattle.step_meaning.specs.declared.expr.Expr.TheVariants as form
use Rattle.step_meaning.specs.declared.expr.Expr.TheBlock.{shape-the_row-Expr-0, hidden-the_row-Expr-0, shape-the_row-Expr-1, hidden-the_row-Expr-1, shape-the_row-Place_-2, hidden-the_row-Place_-2}
use Rattle.step_meaning.specs.declared.expr.Place_.{Place_}
use Rattle.step_meaning.specs.declared.program.Layout.{Layout}
use Rattle.step_meaning.specs.declared.program.Declared.{Declared}
use Rattle.step_meaning.specs.Names.{same_kind}
use Rattle.step_meaning.specs.Types.{same_type, where_true}
use Rattle.step_meaning.specs.TypeRules.{member_type, element_type}
use Rattle.step_meaning.specs.InitialValues.{element_count}
use Rattle.typing_rules.specs.ConstantExpressions.{Part, constant, part_of, member_part, element_part, is_variable, pointer_at, address_of, initial_value}
use Rattle.typing_constants.specs.Parts.{most_offset, counted, whole, variable_part, literal_index, further, counted_member, element_at, counted_element, counted_part, initial_pointer}

some_is_not_none : {A : Type 0} {a : A} → Some a ≡ None → ⊥
some_is_not_none e = cc

module _ (ls : List Layout) (gs : List Declared) where
  -- ---- lvalues

  pub part-Own : (v : Variable) → counted_part ls gs (form.Own v) ≡ variable_part gs v
  unfolding counted_part variable_part part_of
  part-Own v = by (same_kind v.kind Global) (slice_get gs v.index)
    where
      by : (b : Bool) (o : Option Declared) → option_map counted (cond b (option_map (whole v.index) o) None) ≡ cond b (option_map (whole v.index) o) None
      by true None = refl
      by true (Some d) = refl
      by false o = refl

  pub part-Deref : (x : Expr) → counted_part ls gs (form.Deref x) ≡ None
  unfolding counted_part part_of shape-the_row-Expr-0 hidden-the_row-Expr-0 shape-the_row-Expr-1 hidden-the_row-Expr-1 shape-the_row-Place_-2 hidden-the_row-Place_-2 hidden
  part-Deref x = refl

  counted_twice : (a b : ℕ) → min (a + b) most_offset ≡ min (min a most_offset + b) most_offset
  counted_twice a b = omega arith

  -- a part so many cells further on
  counted_further : (p : Part) (n : ℕ) (o : Option CType) → option_map counted (option_map (λ t. record { index = p.index; offset = p.offset + n; ctype = t }) o) ≡ option_map (further (counted p) n) o
  counted_further p n None = refl
  counted_further p n (Some t) = ap (λ k. Some (record { index = p.index; offset = k; ctype = t })) (counted_twice p.offset n)

  pub part-Member : (p : Place_) (o : ℕ) → counted_part ls gs (form.Member p o) ≡ counted_member ls o (counted_part ls gs p)
  unfolding counted_part counted_member part_of shape-the_row-Expr-0 hidden-the_row-Expr-0 shape-the_row-Expr-1 hidden-the_row-Expr-1 shape-the_row-Place_-2 hidden-the_row-Place_-2 hidden
  part-Member p o = by (part_of ls gs p)
    where
      by : (q : Option Part) → option_map counted (option_and_then (member_part ls gs o) q) ≡ option_and_then (λ p. option_map (further p o) (member_type ls p.ctype o)) (option_map counted q)
      by None = refl
      by (Some q) = counted_further q o (member_type ls q.ctype o)

  element_is : (n size : ℕ) (q : Option Part) → option_map counted (option_and_then (element_part ls gs n size) q) ≡ option_and_then (element_at ls n size) (option_map counted q)
  element_is n size None = refl
  element_is n size (Some q) = by (nat_lt n (element_count q.ctype))
    where
      by : (b : Bool) → option_map counted (cond b (option_map (λ t. record { index = q.index; offset = q.offset + n * size; ctype = t }) (element_type ls q.ctype size)) None) ≡ cond b (option_map (further (counted q) (n * size)) (element_type ls q.ctype size)) None
      by true = counted_further q (n * size) (element_type ls q.ctype size)
      by false = refl

  pub part-Index : (p : Place_) (x : Expr) (size : ℕ) → counted_part ls gs (form.Index p x size) ≡ counted_element ls size (literal_index x) (counted_part ls gs p)
  unfolding counted_part counted_element part_of shape-the_row-Expr-0 hidden-the_row-Expr-0 shape-the_row-Expr-1 hidden-the_row-Expr-1 shape-the_row-Place_-2 hidden-the_row-Place_-2 hidden
  part-Index p (form.Literal k (pos n)) size = element_is n size (part_of ls gs p)
  part-Index p (form.Literal k (negsuc n)) size = refl
  part-Index p _ size = refl

  -- ---- addresses

  -- the address of what may be a part
  abbrev taken : Place_ → CType → Option Part → Option Value
  taken p t o = option_and_then (λ q. where_true (cond (same_type t q.ctype) true (is_variable ls gs p)) (pointer_at ls gs q)) o

  pub no_address : (p : Place_) (t : CType) → counted_part ls gs p ≡ None → None ≡ address_of ls gs p t
  unfolding counted_part
  no_address p t e = by (part_of ls gs p) e
    where
      by : (o : Option Part) → option_map counted o ≡ None → None ≡ taken p t o
      by None e = refl
      by (Some q) e = absurd (some_is_not_none e)

  pub not_addressed : (p : Place_) (t : CType) (r : Part) → counted_part ls gs p ≡ Some r → cond (same_type t r.ctype) true (is_variable ls gs p) ≡ false → None ≡ address_of ls gs p t
  unfolding counted_part
  not_addressed p t r e h = by (part_of ls gs p) e
    where
      by : (o : Option Part) → option_map counted o ≡ Some r → None ≡ taken p t o
      by None e = absurd (some_is_not_none (sym e))
      by (Some q) e = ap (λ b. where_true b (pointer_at ls gs q)) (sym h ∙ sym (ap (λ r. cond (same_type t r.ctype) true (is_variable ls gs p)) (same_Some (counted q) r e)))

  -- where the offset is below 2^32, it is counted right
  pub addressed : (p : Place_) (t : CType) (r : Part) → counted_part ls gs p ≡ Some r → cond (same_type t r.ctype) true (is_variable ls gs p) ≡ true
      → ((n : Name) (o : ℕ) → address_of ls gs p t ≡ Some (value.Pointer n o) → o < 2 ^ 32)
      → (r.offset < 2 ^ 32) × (Some (pointer_at ls gs r) ≡ address_of ls gs p t)
  unfolding counted_part
  addressed p t r e h bound = by (part_of ls gs p) e bound
    where
      by : (o : Option Part) → option_map counted o ≡ Some r → ((n : Name) (k : ℕ) → taken p t o ≡ Some (value.Pointer n k) → k < 2 ^ 32) → (r.offset < 2 ^ 32) × (Some (pointer_at ls gs r) ≡ taken p t o)
      by None e bound = absurd (some_is_not_none (sym e))
      by (Some q) e bound =
          let is = same_Some (counted q) r e in
          let found : where_true (cond (same_type t q.ctype) true (is_variable ls gs p)) (pointer_at ls gs q) ≡ Some (pointer_at ls gs q) = ap (λ b. where_true b (pointer_at ls gs q)) (ap (λ r. cond (same_type t r.ctype) true (is_variable ls gs p)) is ∙ h) in
          let small : q.offset < 2 ^ 32 = bound _ q.offset found in
          let offset : r.offset ≡ min q.offset most_offset = sym (ap (λ r. r.offset) is) in
          let index : r.index ≡ q.index = sym (ap (λ r. r.index) is) in
          let same : r.offset ≡ q.offset = omega arith in
          (omega arith, ap (λ i. Some (pointer_at ls gs (record { index = i; offset = r.offset; ctype = r.ctype }))) index ∙ ap (λ k. Some (pointer_at ls gs (record { index = q.index; offset = k; ctype = q.ctype }))) same ∙ sym found)

  -- ---- initial values

  pub initial-Int : (k : IntKind) (x : Expr) → initial_value ls gs (type.Int k) x ≡ option_map value.Int (constant x)
  unfolding initial_value
  initial-Int k x = refl

  pub initial-Void : (x : Expr) → initial_value ls gs type.Void x ≡ initial_pointer ls gs x
  unfolding initial_value initial_pointer
  initial-Void form.Null = refl
  initial-Void (form.Address p u) = refl
  initial-Void _ = refl

  pub initial-Pointer : (t : CType) (x : Expr) → initial_value ls gs (type.Pointer t) x ≡ initial_pointer ls gs x
  unfolding initial_value initial_pointer shape-the_row-CType-0 hidden-the_row-CType-0 hidden
  initial-Pointer t form.Null = refl
  initial-Pointer t (form.Address p u) = refl
  initial-Pointer t _ = refl

  pub initial-Array : (t : CType) (n : ℕ) (x : Expr) → initial_value ls gs (type.Array t n) x ≡ initial_pointer ls gs x
  unfolding initial_value initial_pointer shape-the_row-CType-0 hidden-the_row-CType-0 hidden
  initial-Array t n form.Null = refl
  initial-Array t n (form.Address p u) = refl
  initial-Array t n _ = refl

  pub initial-Struct : (n : ℕ) (x : Expr) → initial_value ls gs (type.Struct n) x ≡ initial_pointer ls gs x
  unfolding initial_value initial_pointer
  initial-Struct n form.Null = refl
  initial-Struct n (form.Address p u) = refl
  initial-Struct n _ = refl

pub ruleset places = (part-Own, part-Deref, part-Member, part-Index)

pub ruleset initials = (initial-Int, initial-Void, initial-Pointer, initial-Array, initial-Struct)
