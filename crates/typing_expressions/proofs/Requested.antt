-- What `malloc` is asked for, by the form of its argument.
use Rattle.std.proofs.Common.{◌≡◌, ℕ, ◌-◌, true, false, List, [], ◌∷◌, ◌++◌, length, take, Option, Some, None, Ok, Err, refl, sym, ap, ◌∙◌, arith, if◌then◌else◌}
use Rattle.std.proofs.Math.Seq.{take-append_seam}
use Rattle.std.proofs.lemmas.List.{length-append}
use Rattle.c_lexer.specs.declared.token.Place.{Place}
use Rattle.c_words.specs.declared.word.Leaf.{Leaf}
use Rattle.c_words.specs.declared.chain.Link.{Link}
use Rattle.c_grammar.specs.declared.expression.Unary.{Unary}
use Rattle.c_grammar.specs.declared.expression.Product.{Product as ProductTree, out-Product}
use Rattle.step_meaning.specs.declared.value.CType.{CType}
use Rattle.typing_rules.specs.declared.fault.TypeFault.{TypeFault}
use Rattle.typing_rules.specs.declared.operand.Operand.{Operand as OperandPart}
use Rattle.typing_rules.specs.declared.operand.Value.{Value}
use Rattle.typing_rules.specs.Checked.{Checked, ◌>>=◌}
use Rattle.typing_rules.specs.Syntax.{Expression, Name, Number, Character, Paren, Call, Index, Member, Arrow, Increment, Decrement, Prefix, Cast, SizeOf, SizeOfType, Binary, Choose, Assign}
use Rattle.typing_rules.specs.TreesOfExpressions as trees
use Rattle.typing_rules.specs.TreesOfExpressions.{links}
use Rattle.typing_rules.specs.Environment.{Environment, place_of, spelled_type}
use Rattle.typing_rules.specs.Operands.{value}
use Rattle.typing_rules.specs.Allocation.{Request, one_object, operand_type, objects, product}
use Rattle.typing_rules.specs.Expressions.{operand, measured, requested, is_star}
use Rattle.typing_shapes.specs.declared.request.Measured.{Measured}
use Rattle.typing_shapes.specs.declared.request.Measured.TheVariants.{Operand, Named}
use Rattle.typing_shapes.specs.Requests.{is_sized}
use Rattle.typing_shapes.specs.Bare.{stripped, IsSizeof, LastApart}
use Rattle.typing_shapes.proofs.BareForms.{product_last}
use Rattle.typing_steps.specs.Steps.{asked}
use Rattle.typing_expressions.specs.Parts.{measure, product_part}
use Rattle.typing_expressions.proofs.Requests.{no_measure}

-- ---- what parentheses don't change

pub measured_stripped : (g : Environment) (x : Expression) → measured g x ≡ measured g (stripped x)
unfolding measured stripped
measured_stripped g (Name t) = refl
measured_stripped g (Number t) = refl
measured_stripped g (Character t) = refl
measured_stripped g (Paren t x) = measured_stripped g x
measured_stripped g (Call t xs) = refl
measured_stripped g (Index x t i) = refl
measured_stripped g (Member x t m) = refl
measured_stripped g (Arrow x t m) = refl
measured_stripped g (Increment x t) = refl
measured_stripped g (Decrement x t) = refl
measured_stripped g (Prefix t x) = refl
measured_stripped g (Cast t u x) = refl
measured_stripped g (SizeOf t x) = refl
measured_stripped g (SizeOfType t u) = refl
measured_stripped g (Binary x t y) = refl
measured_stripped g (Choose x t y z) = refl
measured_stripped g (Assign x t y) = refl

pub requested_stripped : (g : Environment) (x : Expression) → requested g x ≡ requested g (stripped x)
unfolding requested stripped
requested_stripped g (Name t) = refl
requested_stripped g (Number t) = refl
requested_stripped g (Character t) = refl
requested_stripped g (Paren t x) = requested_stripped g x
requested_stripped g (Call t xs) = refl
requested_stripped g (Index x t i) = refl
requested_stripped g (Member x t m) = refl
requested_stripped g (Arrow x t m) = refl
requested_stripped g (Increment x t) = refl
requested_stripped g (Decrement x t) = refl
requested_stripped g (Prefix t x) = refl
requested_stripped g (Cast t u x) = refl
requested_stripped g (SizeOf t x) = refl
requested_stripped g (SizeOfType t u) = refl
requested_stripped g (Binary x t y) = refl
requested_stripped g (Choose x t y z) = refl
requested_stripped g (Assign x t y) = refl

-- ---- a `sizeof`

of_sizeof : (g : Environment) (t : Leaf) (x : Expression) → measured g (SizeOf t x) ≡ Some (operand g x >>= (λ a. Ok (operand_type a)))
unfolding measured
of_sizeof g t x = refl

of_named : (g : Environment) (t : Leaf) (n : _) → measured g (SizeOfType t n) ≡ Some (spelled_type g n)
unfolding measured
of_named g t n = refl

pub sizeof_measured : (g : Environment) (x : Expression) (m : Measured) → IsSizeof x m → measured g x ≡ Some (measure g m)
sizeof_measured g x (Operand u) h = measured_stripped g x ∙ (ap (measured g) h.1 ∙ of_sizeof g h.0 (trees.unary u.now))
sizeof_measured g x (Named n) h = measured_stripped g x ∙ (ap (measured g) h.1 ∙ of_named g h.0 (trees.spelled n.now))

abbrev pub single : CType → Checked (Option Request)
single t = Ok (Some (one_object t))

of_operand : (m : Checked OperandPart) → asked (Some (m >>= (λ a. Ok (one_object (operand_type a))))) ≡ ((m >>= (λ a. Ok (operand_type a))) >>= single)
of_operand (Ok a) = refl
of_operand (Err e) = refl

of_type : (m : Checked CType) → asked (Some (m >>= (λ t. Ok (one_object t)))) ≡ (m >>= single)
of_type (Ok a) = refl
of_type (Err e) = refl

asked_sizeof : (g : Environment) (t : Leaf) (x : Expression) → asked (requested g (SizeOf t x)) ≡ ((operand g x >>= (λ a. Ok (operand_type a))) >>= single)
unfolding requested
asked_sizeof g t x = of_operand (operand g x)

asked_named : (g : Environment) (t : Leaf) (n : _) → asked (requested g (SizeOfType t n)) ≡ (spelled_type g n >>= single)
unfolding requested
asked_named g t n = of_type (spelled_type g n)

-- a `sizeof` in any parentheses asks for one object
pub sizeof_asked : (g : Environment) (x : Expression) (m : Measured) → IsSizeof x m → asked (requested g x) ≡ (measure g m >>= single)
sizeof_asked g x (Operand u) h = ap asked (requested_stripped g x ∙ ap (requested g) h.1) ∙ asked_sizeof g h.0 (trees.unary u.now)
sizeof_asked g x (Named n) h = ap asked (requested_stripped g x ∙ ap (requested g) h.1) ∙ asked_named g h.0 (trees.spelled n.now)

-- ---- products

pub product_asked : (g : Environment) (x y : Expression) → stripped x ≡ y → asked (requested g x) ≡ asked (requested g y)
product_asked g x y h = ap asked (requested_stripped g x ∙ ap (requested g) h)

requested_binary : (g : Environment) (x : Expression) (t : Leaf) (y : Expression) → is_star t ≡ true
    → requested g (Binary x t y) ≡ product (place_of t) (measured g x) (operand g x >>= value) (measured g y) (operand g y >>= value)
unfolding requested
requested_binary g x t y h = ap (λ b. if b then product (place_of t) (measured g x) (operand g x >>= value) (measured g y) (operand g y >>= value) else None) h

abbrev pub found : Request → Checked (Option Request)
found q = Ok (Some q)

asked_is : (r : Checked Request) → asked (Some r) ≡ (r >>= found)
asked_is (Ok q) = refl
asked_is (Err e) = refl

asked_last : (at : Place) (s : Option (Checked CType)) (x : Checked Value) (o : Option (Checked CType)) (y : Checked Value) (c : Checked CType) → o ≡ Some c
    → asked (product at s x o y) ≡ ((x >>= (λ v. c >>= (λ t. objects at v t))) >>= found)
unfolding product
asked_last at s x o y c h = ap (λ p. asked (product at s x p y)) h ∙ asked_is (x >>= (λ v. c >>= (λ t. objects at v t)))

asked_first : (at : Place) (s : Option (Checked CType)) (x : Checked Value) (o : Option (Checked CType)) (y : Checked Value) (c : Checked CType) → s ≡ Some c → o ≡ None
    → asked (product at s x o y) ≡ ((c >>= (λ t. y >>= (λ v. objects at v t))) >>= found)
unfolding product
asked_first at s x o y c h k = ap (λ p. asked (product at p x o y)) h ∙ (ap (λ p. asked (product at (Some c) x p y)) k ∙ asked_is (c >>= (λ t. y >>= (λ v. objects at v t))))

module _ (g : Environment) (p : ProductTree) where
  rest : List (Link Unary)
  rest = (out-Product p).0.rest

  before_last : (n : ℕ) (before : List (Link Unary)) (last : Link Unary) → (out-Product p).0.rest ≡ before ++ last ∷ [] → n ≡ length (out-Product p).0.rest - 1 → take n (out-Product p).0.rest ≡ before
  before_last n before last h k =
      let l : n ≡ length before = omega (arith, simp length-append at (ap length h)) in
      ap (λ i. take i (out-Product p).0.rest) l ∙ (ap (take (length before)) h ∙ take-append_seam before (last ∷ []))

  -- the last operand is a `sizeof`
  pub last_asked : (t : Leaf) (m : Measured) (n : ℕ) (f : (before : List (Link Unary)) × (last : Link Unary) × LastApart p before last × (last.operator ≡ t) × IsSizeof (trees.unary last.operand) m)
      → n ≡ length (out-Product p).0.rest - 1
      → asked (requested g (trees.product p)) ≡ (((operand g (product_part p n) >>= value) >>= (λ v. measure g m >>= (λ c. objects (place_of t) v c))) >>= found)
  unfolding product_part
  last_asked t m n f k =
      let before = f.0 in
      let last = f.1 in
      let apart = f.2 in
      let x = links trees.unary (trees.unary (out-Product p).0.first) before in
      let y = trees.unary last.operand in
      let part : x ≡ product_part p n = ap (links trees.unary (trees.unary (out-Product p).0.first)) (sym (before_last n before last apart.links k)) in
      ap (λ z. asked (requested g z)) (product_last p before last apart.links)
      ∙ (ap asked (requested_binary g x last.operator y apart.star)
      ∙ (asked_last (place_of last.operator) (measured g x) (operand g x >>= value) (measured g y) (operand g y >>= value) (measure g m) (sizeof_measured g y m f.4)
      ∙ (ap (λ z. ((operand g z >>= value) >>= (λ v. measure g m >>= (λ c. objects (place_of last.operator) v c))) >>= found) part
      ∙ ap (λ o. ((operand g (product_part p n) >>= value) >>= (λ v. measure g m >>= (λ c. objects (place_of o) v c))) >>= found) f.3)))

  -- the first of two operands is one, and the second is none
  pub first_asked : (t : Leaf) (m : Measured) (u : Unary)
      (f : (last : Link Unary) × LastApart p [] last × (last.operator ≡ t) × (last.operand ≡ u) × IsSizeof (trees.unary (out-Product p).0.first) m × (is_sized (trees.unary u) ≡ false))
      → asked (requested g (trees.product p)) ≡ ((measure g m >>= (λ c. (operand g (trees.unary u) >>= value) >>= (λ v. objects (place_of t) v c))) >>= found)
  unfolding links
  first_asked t m u f =
      let last = f.0 in
      let apart = f.1 in
      let x = trees.unary (out-Product p).0.first in
      let y = trees.unary last.operand in
      let none : measured g y ≡ None = no_measure g y (ap (λ z. is_sized (trees.unary z)) f.3 ∙ f.5) in
      ap (λ z. asked (requested g z)) (product_last p [] last apart.links)
      ∙ (ap asked (requested_binary g x last.operator y apart.star)
      ∙ (asked_first (place_of last.operator) (measured g x) (operand g x >>= value) (measured g y) (operand g y >>= value) (measure g m) (sizeof_measured g x m f.4) none
      ∙ (ap (λ z. (measure g m >>= (λ c. (operand g (trees.unary z) >>= value) >>= (λ v. objects (place_of last.operator) v c))) >>= found) f.3
      ∙ ap (λ o. (measure g m >>= (λ c. (operand g (trees.unary u) >>= value) >>= (λ v. objects (place_of o) v c))) >>= found) f.2)))

-- ---- step by step

module _ (w : Checked (Option Request)) (m : Checked OperandPart) (n : Checked CType) (o : Value → CType → Checked Request)
    (h : w ≡ (((m >>= value) >>= (λ v. n >>= (λ c. o v c))) >>= found)) where
  pub last_operand : (e : TypeFault) → m ≡ Err e → w ≡ Err e
  last_operand e j = h ∙ rw j refl

  pub last_value : (e : TypeFault) (a : OperandPart) → m ≡ Ok a → value a ≡ Err e → w ≡ Err e
  last_value e a j k = h ∙ rw (j, k) refl

  pub last_type : (e : TypeFault) (a : OperandPart) (v : Value) → m ≡ Ok a → value a ≡ Ok v → n ≡ Err e → w ≡ Err e
  last_type e a v j k l = h ∙ rw (j, k, l) refl

  pub last_count : (a : OperandPart) (v : Value) (c : CType) (r : Checked Request) → m ≡ Ok a → value a ≡ Ok v → n ≡ Ok c → o v c ≡ r → w ≡ (r >>= found)
  last_count a v c r j k l i = h ∙ rw (j, k, l, i) refl

module _ (w : Checked (Option Request)) (m : Checked OperandPart) (n : Checked CType) (o : Value → CType → Checked Request)
    (h : w ≡ ((n >>= (λ c. (m >>= value) >>= (λ v. o v c))) >>= found)) where
  pub first_type : (e : TypeFault) → n ≡ Err e → w ≡ Err e
  first_type e j = h ∙ rw j refl

  pub first_operand : (e : TypeFault) (c : CType) → n ≡ Ok c → m ≡ Err e → w ≡ Err e
  first_operand e c j k = h ∙ rw (j, k) refl

  pub first_value : (e : TypeFault) (c : CType) (a : OperandPart) → n ≡ Ok c → m ≡ Ok a → value a ≡ Err e → w ≡ Err e
  first_value e c a j k l = h ∙ rw (j, k, l) refl

  pub first_count : (c : CType) (a : OperandPart) (v : Value) (r : Checked Request) → n ≡ Ok c → m ≡ Ok a → value a ≡ Ok v → o v c ≡ r → w ≡ (r >>= found)
  first_count c a v r j k l i = h ∙ rw (j, k, l, i) refl
