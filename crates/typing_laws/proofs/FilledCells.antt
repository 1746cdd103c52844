-- An initialiser gives one part for each cell of the object, in ascending order.
use Rattle.std.proofs.Common.{◌≡◌, ℕ, zero, suc, ◌<◌, true, false, not, List, [], ◌∷◌, ◌++◌, map, length, flat_map, Some, refl, sym, subst, arith, append-nil}
use Rattle.std.specs.Prelude.{slice_get}
use Rattle.std.specs.List.{list_all, AllByRecursion}
use Rattle.std.proofs.lemmas.Bool.{ltb-true}
use Rattle.c_lexer.specs.declared.token.Place.{Place}
use Rattle.step_meaning.specs.declared.value.CType.{CType, end_of-CType, more_of-CType}
use Rattle.step_meaning.specs.declared.value.CType.TheVariants as type
use Rattle.step_meaning.specs.declared.expr.Expr.{Expr}
use Rattle.step_meaning.specs.declared.program.Core.{Core}
use Rattle.step_meaning.specs.declared.program.Declared.{Declared as Named}
use Rattle.step_meaning.specs.declared.program.Layout.{Layout}
use Rattle.step_meaning.specs.Settings.{Setting}
use Rattle.step_meaning.specs.Types.{object_cells}
use Rattle.step_meaning.specs.TypeRules.{is_scalar, are_layouts, keeps_rules}
use Rattle.step_meaning.proofs.Ranges.{false_is_not_true, left_of_and, right_of_and}
use Rattle.step_meaning.proofs.LaterLayouts.{member_types_keep}
use Rattle.typing_rules.specs.declared.fault.TypeFault.TheVariants.{BadInitialiser}
use Rattle.typing_rules.specs.Checked.{Checked, unless}
use Rattle.typing_rules.specs.Syntax.{Expression, Initialiser, Value as OneValue, Braces, Initialisers, NoElement, Element}
use Rattle.typing_rules.specs.Environment.{Environment}
use Rattle.typing_rules.specs.Operands.{fitted}
use Rattle.typing_rules.specs.Expressions.{full}
use Rattle.typing_rules.specs.Initialisers.{parts, is_all_zero, zeros, alone, all_alone, first}
use Rattle.typing_rules.specs.Initialisers as initialisers
use Rattle.typing_laws.specs.SmallTypes.{WhereOk}
use Rattle.typing_laws.specs.ParsedSyntax.{InitialiserParsed, InitialisersParsed}
use Rattle.typing_laws.proofs.CheckedValues.{then_holds, then_known, if_holds}
use Rattle.typing_laws.proofs.DeclaredNames.{not_false, unless_holds}
use Rattle.typing_laws.proofs.ObjectParts.{AreScalars, cells_scalar, struct_parts, array_parts, each_replicated}
use Rattle.typing_laws.proofs.TypedValues.{ValueFits}
use Rattle.typing_laws.proofs.TypedOperators.{IsTaken, fitted_fits}
use Rattle.typing_laws.proofs.TypedExpressions.{Agrees, full_fits}

-- one for each cell
module _ {A : Type 0} (P : CType → A → Type 0) where
  abbrev pub AreCells : List CType → List A → Type 0
  AreCells [] [] = Unit {0}
  AreCells (t ∷ ts) (a ∷ more) = P t a × AreCells ts more
  AreCells _ _ = ⊥

  pub cells_append : (ts us : List CType) (xs bs : List A) → AreCells ts xs → AreCells us bs → AreCells (ts ++ us) (xs ++ bs)
  cells_append [] us [] bs h k = k
  cells_append (t ∷ ts) us (a ∷ more) bs h k = (h.0, cells_append ts us more bs h.1 k)
  cells_append [] us (a ∷ more) bs h k = absurd h
  cells_append (t ∷ ts) us [] bs h k = absurd h

  pub cells_mapped : (f : CType → A) (ts : List CType) → ((t : CType) → is_scalar t ≡ true → P t (f t)) → AreScalars ts → AreCells ts (map f ts)
  cells_mapped f [] k h = tt
  cells_mapped f (t ∷ ts) k h = (k t h.0, cells_mapped f ts k h.1)

-- ---- the parts of an object

scalar_cells : (ls : List Layout) (t : CType) → is_scalar t ≡ true → object_cells ls t ≡ t ∷ []
scalar_cells ls (type.Int k) i = refl
scalar_cells ls (type.Pointer' b t) i = refl
scalar_cells ls type.Void i = false_is_not_true i
scalar_cells ls (type.Array' b t n) i = false_is_not_true i
scalar_cells ls (type.Struct n) i = false_is_not_true i

below_some : {A : Type 0} (xs : List A) (n : ℕ) → n < length xs → (x : A) × (slice_get xs n ≡ Some x)
below_some [] n h = absurd (omega arith)
below_some (x ∷ xs) zero h = (x, refl)
below_some (x ∷ xs) (suc n) h = below_some xs n (omega arith)

module _ (ls : List Layout) where
  abbrev KeepRules : List CType → Type 0
  KeepRules ts = AllByRecursion (λ t. keeps_rules ls t ≡ true) ts

  types_keep : (ds : List Named) → list_all (λ d. keeps_rules ls d.ctype) ds ≡ true → KeepRules (map (λ d. d.ctype) ds)
  types_keep [] e = tt
  types_keep (d ∷ ds) e = (left_of_and _ _ e, types_keep ds (right_of_and _ _ e))

-- in an environment that agrees with the program, where expressions give parts that fit, and so do cells that are filled up
module _ (q : Core) (s : Setting) (g : Environment) (agrees : Agrees q s g) (rules : are_layouts g.layouts ≡ true) (A : Type 0) (given : Expression → Place → CType → Expr → Checked A) (filled : CType → A) (P : CType → A → Type 0)
    (given_fits : (x : Expression) (at : Place) (t : CType) (y : Expr) → is_scalar t ≡ true → keeps_rules g.layouts t ≡ true → IsTaken q s g.layouts t y → WhereOk (P t) (given x at t y)) (filled_fits : (t : CType) → is_scalar t ≡ true → P t (filled t)) where
  abbrev pub Filled : CType → List A → Type 0
  Filled t xs = AreCells P (object_cells g.layouts t) xs

  abbrev AllFilled : List CType → List A → Type 0
  AllFilled ts xs = AreCells P (flat_map (object_cells g.layouts) ts) xs

  zeros_fit : (t : CType) → Filled t (zeros g A given filled t)
  unfolding zeros
  zeros_fit t = cells_mapped P filled (object_cells g.layouts t) filled_fits (cells_scalar g.layouts t)

  all_zeros_fit : (ts : List CType) → AllFilled ts (flat_map (zeros g A given filled) ts)
  all_zeros_fit [] = tt
  all_zeros_fit (t ∷ ts) = cells_append P (object_cells g.layouts t) (flat_map (object_cells g.layouts) ts) _ _ (zeros_fit t) (all_zeros_fit ts)

  -- the parts of an array or struct
  record PartsFit (t : CType) : Type 0 where
    keep : KeepRules g.layouts (parts g A given filled t)
    whole : object_cells g.layouts t ≡ flat_map (object_cells g.layouts) (parts g A given filled t)

  struct_fits : (n : ℕ) (l : Layout) → slice_get g.layouts n ≡ Some l → PartsFit (type.Struct n)
  unfolding parts
  struct_fits n l found = record {
    keep = rw (found, append-nil (map (λ d. d.ctype) l.members)) (types_keep g.layouts l.members (member_types_keep g.layouts rules n l found));
    whole = rw (found, append-nil (map (λ d. d.ctype) l.members)) (struct_parts g.layouts rules n l found);
  }

  parts_fit : (t : CType) → is_scalar t ≡ false → keeps_rules g.layouts t ≡ true → PartsFit t
  unfolding parts
  parts_fit type.Void i k = false_is_not_true k
  parts_fit (type.Int m) i k = false_is_not_true (sym i)
  parts_fit (type.Pointer' b t) i k = false_is_not_true (sym i)
  parts_fit (type.Array' b (more_of-CType t end_of-CType) n) i k = record { keep = each_replicated (λ t. keeps_rules g.layouts t ≡ true) n t (left_of_and _ _ k); whole = array_parts g.layouts t n }
  parts_fit (type.Struct n) i k =
      let there : (l : Layout) × (slice_get g.layouts n ≡ Some l) = below_some g.layouts n (ltb-true n (length g.layouts) k) in
      struct_fits n there.0 there.1

  mutual
    unfolding initialisers.cells

    pub cells_fit : (x : Initialiser) → InitialiserParsed g.text x → (t : CType) → keeps_rules g.layouts t ≡ true → WhereOk (Filled t) (initialisers.cells g A given filled t x)
    cells_fit (OneValue x) c t k =
        then_holds (ValueFits q s (length g.layouts)) (Filled t) (full g x) _ (full_fits q s g agrees x c) (λ v h.
        then_holds (λ (u : Unit {0}). is_scalar t ≡ true) (Filled t) (unless (not (is_scalar t)) (BadInitialiser v.first)) _ (unless_holds (is_scalar t ≡ true) (not (is_scalar t)) _ (not_false (is_scalar t))) (λ u i.
        then_holds (IsTaken q s g.layouts t) (Filled t) (fitted v.first t v) _ (fitted_fits q s g.layouts v.first t v h) (λ y j.
        then_holds (P t) (Filled t) (given x v.first t y) _ (given_fits x v.first t y i k j) (λ a l.
        subst (λ ts. AreCells P ts (a ∷ [])) (sym (scalar_cells g.layouts t i)) (l, tt)))))
    cells_fit (Braces b xs) c t k =
        if_holds (WhereOk (Filled t)) (is_scalar t) _ _ (λ i. then_known (Filled t) (all_alone g A given filled xs) _ (λ u e. tt)) (λ i.
        if_holds (WhereOk (Filled t)) (is_all_zero g A given filled xs) _ _ (λ z. zeros_fit t) (λ z.
        let p : PartsFit t = parts_fit t i k in
        subst (λ ts. WhereOk (AreCells P ts) (initialisers.elements g A given filled (parts g A given filled t) xs)) (sym p.whole) (elements_fit xs c.1 (parts g A given filled t) p.keep)))

    elements_fit : (xs : Initialisers) → InitialisersParsed g.text xs → (ts : List CType) → KeepRules g.layouts ts → WhereOk (AllFilled ts) (initialisers.elements g A given filled ts xs)
    elements_fit NoElement c ts k = all_zeros_fit ts
    elements_fit (Element x xs) c [] k = then_known (AllFilled []) (alone g A given filled x) _ (λ u e. tt)
    elements_fit (Element x xs) c (t ∷ ts) k =
        then_holds (Filled t) (AllFilled (t ∷ ts)) (initialisers.cells g A given filled t x) _ (cells_fit x c.0 t k.0) (λ a h.
        then_holds (AllFilled ts) (AllFilled (t ∷ ts)) (initialisers.elements g A given filled ts xs) _ (elements_fit xs c.1 ts k.1) (λ b j.
        cells_append P (object_cells g.layouts t) (flat_map (object_cells g.layouts) ts) a b h j))
