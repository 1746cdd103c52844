-- The steps of initialisers, as the rules have them.
use Rattle.std.proofs.Common.{◌≡◌, ℕ, zero, suc, ◌+◌, ◌-◌, ◌≤◌, ◌<◌, Bool, true, false, cond, ◌&&◌, List, [], ◌∷◌, ◌++◌, map, drop, length, get_or, Option, Some, None, Ok, Err, refl, sym, ap, ◌∙◌, append_assoc, add-one, arith}
use Rattle.std.specs.Prelude.{not, flat_map, replicate, slice_get}
use Rattle.c_lexer.specs.declared.token.Place.{Place}
use Rattle.c_words.specs.declared.word.Leaf.{Leaf}
use Rattle.c_words.specs.declared.chain.Chain.{Chain}
use Rattle.c_words.specs.declared.chain.Link.{Link}
use Rattle.c_grammar.specs.declared.expression.Assign.{Assign}
use Rattle.c_grammar.specs.declared.declaration.Init.{Init}
use Rattle.c_grammar.specs.declared.declaration.Init.TheVariants as i
use Rattle.step_meaning.specs.declared.value.CType.{CType, end_of-CType, more_of-CType}
use Rattle.step_meaning.specs.declared.value.CType.TheVariants as type
use Rattle.step_meaning.specs.declared.expr.Expr.{Expr}
use Rattle.step_meaning.specs.declared.program.Layout.{Layout}
use Rattle.step_meaning.specs.declared.program.Declared.{Declared}
use Rattle.step_meaning.specs.Types.{object_cells, times}
use Rattle.step_meaning.specs.TypeRules.{is_scalar}
use Rattle.typing_rules.specs.declared.fault.TypeFault.{TypeFault}
use Rattle.typing_rules.specs.declared.fault.TypeFault.TheVariants as fault
use Rattle.typing_rules.specs.declared.operand.Value.{Value as ValueOperand}
use Rattle.typing_rules.specs.Checked.{Checked, ◌>>=◌, Gives, unless}
use Rattle.typing_rules.specs.Syntax.{Expression, Number, Initialiser, Value, Braces, Initialisers, NoElement, Element}
use Rattle.typing_rules.specs.Environment.{Environment, place_of}
use Rattle.typing_rules.specs.Expressions.{full}
use Rattle.typing_rules.specs.Operands.{fitted}
use Rattle.typing_rules.specs.Initialisers as rules
use Rattle.typing_rules.specs.Initialisers.{cells, elements, zeros, parts}
use Rattle.typing_declarators.specs.Adding.{extended, Adds}
use Rattle.typing_declarators.proofs.LayerLaws.{SameOutcome, same_Ok, ok_is_no_error, joined}
use Rattle.typing_rules.specs.TreesOfExpressions.{assign}
use Rattle.typing_rules.specs.TreesOfDeclarations.{elements_after, init}
use Rattle.typing_rules.proofs.DeclarationAlternatives.{init-Value, init-Braces}
use Rattle.typing_shapes.specs.Numbers.{number_leaf, has_none, is_lone}
use Rattle.typing_initialisers.specs.Initialisers.{alone, all_alone, first_of, superfluous, refused, given_cell, elements_of, is_zero_leaf, is_zero_token, is_all_zero, parts_of, members_there}

-- ---- outcomes

-- a broken rule whatever the value would be
same_error : {A B : Type 0} (f e : TypeFault) → SameOutcome {A = A} (Err f) (Err e) → SameOutcome {A = B} (Err f) (Err e)
same_error f e h = cc

broken_too : {A B C : Type 0} (c : Checked A) (f e : TypeFault) → SameOutcome {A = B} (c >>= (λ a. Err f)) (Err e) → SameOutcome {A = C} (c >>= (λ a. Err f)) (Err e)
broken_too (Ok a) f e h = same_error f e h
broken_too (Err g) f e h = same_error g e h

never_ok : {A : Type 0} (c : Checked A) (f : TypeFault) → SameOutcome {A = Unit {0}} (c >>= (λ a. Err f)) (Ok tt) → ⊥
never_ok (Ok a) f h = ok_is_no_error tt f (sym h)
never_ok (Err g) f h = ok_is_no_error tt g (sym h)

-- ---- the rules that expressions keep by themselves are the same for each kind of cells

module _ (g : Environment) (A : Type 0) (given : Expression → Place → CType → Expr → Checked A) (filled : CType → A) where
  mutual
    unfolding rules.alone rules.all_alone

    same_alone : (x : Initialiser) → rules.alone g A given filled x ≡ alone g x
    same_alone (Value x) = refl
    same_alone (Braces t xs) = same_all xs

    same_all : (xs : Initialisers) → rules.all_alone g A given filled xs ≡ all_alone g xs
    same_all NoElement = refl
    same_all (Element x xs) = ap (λ c. c >>= (λ u. rules.all_alone g A given filled xs)) (same_alone x) ∙ ap (λ d. alone g x >>= (λ u. d)) (same_all xs)

  same_zero : (xs : Initialisers) → rules.is_all_zero g A given filled xs ≡ is_all_zero g xs
  unfolding number_leaf
  same_zero NoElement = refl
  same_zero (Element (Value x) xs) = by x xs
    where
      by : (x : Expression) (xs : Initialisers) → rules.is_all_zero g A given filled (Element (Value x) xs) ≡ is_all_zero g (Element (Value x) xs)
      by (Number t) NoElement = refl
      by (Number t) (Element y ys) = refl
      by _ NoElement = refl
      by _ (Element y ys) = refl
  same_zero (Element (Braces t ys) xs) = by xs
    where
      by : (xs : Initialisers) → rules.is_all_zero g A given filled (Element (Braces t ys) xs) ≡ is_all_zero g (Element (Braces t ys) xs)
      by NoElement = refl
      by (Element z zs) = refl

  same_parts : (t : CType) → parts g A given filled t ≡ parts_of g.layouts t
  unfolding parts
  same_parts type.Void = refl
  same_parts (type.Int k) = refl
  same_parts (type.Pointer' b t) = refl
  same_parts (type.Array' b (more_of-CType t end_of-CType) n) = refl
  same_parts (type.Struct n) = by (slice_get g.layouts n)
    where
      nothing_after : (xs : List CType) → xs ++ [] ≡ xs
      nothing_after [] = refl
      nothing_after (x ∷ xs) = ap (λ ys. x ∷ ys) (nothing_after xs)

      by : (o : Option Layout) → flat_map (λ l. map (λ d. d.ctype) l.members) (elim o [ None ↦ [] | Some x ↦ x ∷ [] ]) ≡ members_there o
      by None = refl
      by (Some l) = nothing_after (map (λ d. d.ctype) l.members)

  -- ---- an initialiser that is an expression

  abbrev of_value : CType → Expression → Checked ValueOperand → Checked (List A)
  of_value t x c = c >>= (λ v. unless (not (is_scalar t)) (fault.BadInitialiser v.first) >>= (λ u. fitted v.first t v >>= (λ y. given x v.first t y >>= (λ a. Ok (a ∷ [])))))

  value_steps : (t : CType) (x : Expression) → cells g A given filled t (Value x) ≡ of_value t x (full g x)
  unfolding cells
  value_steps t x = refl

  pub value_broken : (t : CType) (x : Expression) (e : TypeFault) → full g x ≡ Err e → cells g A given filled t (Value x) ≡ Err e
  value_broken t x e h = value_steps t x ∙ ap (of_value t x) h

  pub value_of_aggregate : (t : CType) (x : Expression) (v : ValueOperand) → full g x ≡ Ok v → is_scalar t ≡ false → cells g A given filled t (Value x) ≡ Err (fault.BadInitialiser v.first)
  unfolding unless
  value_of_aggregate t x v h s =
      value_steps t x ∙ ap (of_value t x) h
      ∙ ap (λ b. cond (not b) (Err (fault.BadInitialiser v.first)) (Ok tt) >>= (λ u. fitted v.first t v >>= (λ y. given x v.first t y >>= (λ a. Ok (a ∷ []))))) s

  regrouped : (t : CType) (x : Expression) (v : ValueOperand) (c : Checked Expr) → (c >>= (λ y. given x v.first t y >>= (λ a. Ok (a ∷ [])))) ≡ ((c >>= given x v.first t) >>= (λ a. Ok (a ∷ [])))
  regrouped t x v (Ok y) = refl
  regrouped t x v (Err e) = refl

  value_of_scalar : (t : CType) (x : Expression) (v : ValueOperand) → full g x ≡ Ok v → is_scalar t ≡ true → cells g A given filled t (Value x) ≡ (given_cell (given x) t v >>= (λ a. Ok (a ∷ [])))
  unfolding unless given_cell
  value_of_scalar t x v h s =
      value_steps t x ∙ ap (of_value t x) h
      ∙ ap (λ b. cond (not b) (Err (fault.BadInitialiser v.first)) (Ok tt) >>= (λ u. fitted v.first t v >>= (λ y. given x v.first t y >>= (λ a. Ok (a ∷ []))))) s
      ∙ regrouped t x v (fitted v.first t v)

  pub value_given : (t : CType) (x : Expression) (v : ValueOperand) (a : A) → full g x ≡ Ok v → is_scalar t ≡ true → given_cell (given x) t v ≡ Ok a → cells g A given filled t (Value x) ≡ Ok (a ∷ [])
  value_given t x v a h s e = value_of_scalar t x v h s ∙ ap (λ c. c >>= (λ a. Ok (a ∷ []))) e

  pub value_not_given : (t : CType) (x : Expression) (v : ValueOperand) (e : TypeFault) → full g x ≡ Ok v → is_scalar t ≡ true → given_cell (given x) t v ≡ Err e → cells g A given filled t (Value x) ≡ Err e
  value_not_given t x v e h s f = value_of_scalar t x v h s ∙ ap (λ c. c >>= (λ a. Ok (a ∷ []))) f

  -- ---- braces

  abbrev of_braces : CType → Leaf → Initialisers → Bool → Bool → Checked (List A)
  of_braces t b xs scalar nothing =
      cond scalar (rules.all_alone g A given filled xs >>= (λ u. Err (fault.BadInitialiser (place_of b))))
      (cond nothing (Ok (zeros g A given filled t)) (elements g A given filled (parts g A given filled t) xs))

  braces_steps : (t : CType) (b : Leaf) (xs : Initialisers) → cells g A given filled t (Braces b xs) ≡ of_braces t b xs (is_scalar t) (rules.is_all_zero g A given filled xs)
  unfolding cells
  braces_steps t b xs = refl

  pub braces_of_scalar : (t : CType) (b : Leaf) (xs : Initialisers) (e : TypeFault) → is_scalar t ≡ true → refused g b (Braces b xs) ≡ Err e → cells g A given filled t (Braces b xs) ≡ Err e
  unfolding refused rules.alone
  braces_of_scalar t b xs e s h =
      braces_steps t b xs ∙ ap (λ s. of_braces t b xs s (rules.is_all_zero g A given filled xs)) s
      ∙ ap (λ c. c >>= (λ u. Err (fault.BadInitialiser (place_of b)))) (same_all xs)
      ∙ broken_too (all_alone g xs) (fault.BadInitialiser (place_of b)) e h

  pub zero_braces : (t : CType) (b : Leaf) (xs : Initialisers) → is_scalar t ≡ false → is_all_zero g xs ≡ true → cells g A given filled t (Braces b xs) ≡ Ok (map filled (object_cells g.layouts t))
  unfolding zeros
  zero_braces t b xs s z =
      braces_steps t b xs ∙ ap (λ s. of_braces t b xs s (rules.is_all_zero g A given filled xs)) s
      ∙ ap (of_braces t b xs false) (same_zero xs ∙ z)

  pub part_braces : (t : CType) (b : Leaf) (xs : Initialisers) → is_scalar t ≡ false → is_all_zero g xs ≡ false → cells g A given filled t (Braces b xs) ≡ elements g A given filled (parts_of g.layouts t) xs
  part_braces t b xs s z =
      braces_steps t b xs ∙ ap (λ s. of_braces t b xs s (rules.is_all_zero g A given filled xs)) s
      ∙ ap (of_braces t b xs false) (same_zero xs ∙ z)
      ∙ ap (λ ts. elements g A given filled ts xs) (same_parts t)

  -- ---- elements

  pub no_element : (ts : List CType) → elements g A given filled ts NoElement ≡ Ok (map filled (flat_map (object_cells g.layouts) ts))
  unfolding elements zeros
  no_element ts = ap (λ xs. Ok xs) (mapped ts)
    where
      map_append : (xs ys : List CType) → map filled (xs ++ ys) ≡ map filled xs ++ map filled ys
      map_append [] ys = refl
      map_append (x ∷ xs) ys = ap (λ zs. filled x ∷ zs) (map_append xs ys)

      mapped : (ts : List CType) → flat_map (λ t. map filled (object_cells g.layouts t)) ts ≡ map filled (flat_map (object_cells g.layouts) ts)
      mapped [] = refl
      mapped (t ∷ ts) = ap (λ ys. map filled (object_cells g.layouts t) ++ ys) (mapped ts) ∙ sym (map_append (object_cells g.layouts t) (flat_map (object_cells g.layouts) ts))

  one_element : (t : CType) (ts : List CType) (x : Initialiser) (xs : Initialisers) → elements g A given filled (t ∷ ts) (Element x xs) ≡ joined (cells g A given filled t x) (elements g A given filled ts xs)
  unfolding elements
  one_element t ts x xs = refl

  pub too_many : (x : Initialiser) (xs : Initialisers) (e : TypeFault) → superfluous g x ≡ Err e → elements g A given filled [] (Element x xs) ≡ Err e
  unfolding elements superfluous
  too_many x xs e h = ap (λ c. c >>= (λ u. Err (fault.BadInitialiser (first x)))) (same_alone x) ∙ ap (λ p. alone g x >>= (λ u. Err (fault.BadInitialiser p))) (same_first x) ∙ broken_too (alone g x) (fault.BadInitialiser (first_of x)) e h
    where
      first : Initialiser → Place
      first x = rules.first g A given filled x

      same_first : (x : Initialiser) → rules.first g A given filled x ≡ first_of x
      same_first (Value x) = refl
      same_first (Braces t xs) = refl

  -- ---- the elements from some part on

  -- after one element the rest is added to what it gave
  pub element_added : (old mid : List A) (t : CType) (ts : List CType) (x : Initialiser) (xs : Initialisers) → extended old (cells g A given filled t x) ≡ Ok mid → extended old (elements g A given filled (t ∷ ts) (Element x xs)) ≡ extended mid (elements g A given filled ts xs)
  unfolding extended
  element_added old mid t ts x xs h = ap (extended old) (one_element t ts x xs) ∙ by (cells g A given filled t x) (elements g A given filled ts xs) h
    where
      by : (a b : Checked (List A)) → extended old a ≡ Ok mid → extended old (joined a b) ≡ extended mid b
      by (Ok xs) (Ok ys) h = ap (λ zs. Ok zs) (sym (append_assoc old xs ys)) ∙ ap (λ m. Ok (m ++ ys)) (same_Ok (old ++ xs) mid h)
      by (Ok xs) (Err e) h = refl
      by (Err e) b h = absurd (ok_is_no_error mid e (sym h))

  pub element_broken : (t : CType) (ts : List CType) (x : Initialiser) (xs : Initialisers) (e : TypeFault) → cells g A given filled t x ≡ Err e → elements g A given filled (t ∷ ts) (Element x xs) ≡ Err e
  element_broken t ts x xs e h = one_element t ts x xs ∙ ap (λ a. joined a (elements g A given filled ts xs)) h

-- ---- rules that are always broken

module _ {A : Type 0} where
  pub refused_adds : (s : Checked (Unit {0})) (c : Checked (List A)) (old new : List A) (r : Checked (Unit {0})) → (s ≡ Ok tt → ⊥) → ((e : TypeFault) → s ≡ Err e → c ≡ Err e) → Gives s r → Adds c old new r
  refused_adds s c old new (Ok u) n f h = absurd (n h)
  refused_adds s c old new (Err e) n f h = λ p. f e (h p)

pub superfluous_never : (g : Environment) (x : Initialiser) → superfluous g x ≡ Ok tt → ⊥
unfolding superfluous
superfluous_never g x h = never_ok (alone g x) (fault.BadInitialiser (first_of x)) h

pub refused_never : (g : Environment) (t : Leaf) (x : Initialiser) → refused g t x ≡ Ok tt → ⊥
unfolding refused
refused_never g t x h = never_ok (alone g x) (fault.BadInitialiser (place_of t)) h

-- ---- lists by index

pub drop_at : (ts : List CType) (i : ℕ) (t : CType) → slice_get ts i ≡ Some t → drop i ts ≡ t ∷ drop (suc i) ts
drop_at [] i t h = absurd (no h)
  where
    no : None ≡ Some t → ⊥
    no h = cc
drop_at (u ∷ ts) zero t h = ap (λ u. u ∷ ts) (same h)
  where
    same : Some u ≡ Some t → u ≡ t
    same h = cc
drop_at (u ∷ ts) (suc i) t h = drop_at ts i t h

pub drop_past : (ts : List CType) (i : ℕ) → slice_get ts i ≡ None → drop i ts ≡ []
drop_past [] zero h = refl
drop_past [] (suc i) h = refl
drop_past (u ∷ ts) zero h = absurd (no h)
  where
    no : Some u ≡ None → ⊥
    no h = cc
drop_past (u ∷ ts) (suc i) h = drop_past ts i h

-- ---- trees

pub alone_braces : (g : Environment) (o : Leaf) (x : Chain Init) (l : Option Leaf) (c : Leaf) → alone g (init (i.Braces o x l c)) ≡ all_alone g (elements_of x)
unfolding rules.alone
alone_braces g o x l c = ap (alone g) (init-Braces o x l c)

pub alone_then : (g : Environment) (x : Initialiser) (xs : Initialisers) → alone g x ≡ Ok tt → all_alone g (Element x xs) ≡ all_alone g xs
unfolding rules.all_alone
alone_then g x xs h = ap (λ c. c >>= (λ u. all_alone g xs)) h

pub alone_broken : (g : Environment) (x : Initialiser) (xs : Initialisers) (e : TypeFault) → alone g x ≡ Err e → all_alone g (Element x xs) ≡ Err e
unfolding rules.all_alone
alone_broken g x xs e h = ap (λ c. c >>= (λ u. all_alone g xs)) h

pub none_alone : (g : Environment) → all_alone g NoElement ≡ Ok tt
unfolding rules.all_alone
none_alone g = refl

pub links_at : (ls : List (Link Init)) (n : ℕ) (l : Link Init) → n < length ls → elements_after init (drop n ls) ≡ Element (init (get_or ls n l).operand) (elements_after init (drop (n + 1) ls))
unfolding elements_after
links_at ls n l h = at ls n h ∙ ap (λ k. Element (init (get_or ls n l).operand) (elements_after init (drop k ls))) (sym (add-one n))
  where
    at : (ls : List (Link Init)) (n : ℕ) → n < length ls → elements_after init (drop n ls) ≡ Element (init (get_or ls n l).operand) (elements_after init (drop (suc n) ls))
    at [] n h = absurd (omega arith)
    at (m ∷ ls) zero h = refl
    at (m ∷ ls) (suc n) h = at ls n (omega arith)

pub links_past : (ls : List (Link Init)) (n : ℕ) → length ls ≤ n → elements_after init (drop n ls) ≡ NoElement
unfolding elements_after
links_past [] zero h = refl
links_past [] (suc n) h = refl
links_past (m ∷ ls) zero h = absurd (omega arith)
links_past (m ∷ ls) (suc n) h = links_past ls n (omega arith)

pub value_token : (g : Environment) (x : Assign) → is_zero_token g (init (i.Value x)) ≡ is_zero_leaf g (number_leaf (assign x))
value_token g x = ap (is_zero_token g) (init-Value x)

pub braces_token : (g : Environment) (o : Leaf) (x : Chain Init) (l : Option Leaf) (c : Leaf) → is_zero_token g (init (i.Braces o x l c)) ≡ false
braces_token g o x l c = ap (is_zero_token g) (init-Braces o x l c)

pub all_zero_is : (g : Environment) (x : Chain Init) → is_all_zero g (elements_of x) ≡ (is_lone x && is_zero_token g (init x.first))
unfolding elements_after
all_zero_is g x = by x.rest
  where
    by : (ls : List (Link Init)) → is_all_zero g (Element (init x.first) (elements_after init ls)) ≡ (has_none ls && is_zero_token g (init x.first))
    by [] = refl
    by (l ∷ ls) = refl

-- ---- parts that are left over

pub elements_left : {B : Type 0} (f : CType → List B) (n k : ℕ) (t : CType) → flat_map f (drop k (replicate n t)) ≡ times (n - k) (f t)
elements_left {B} f n zero t = let same : n ≡ n - 0 = omega arith in all n ∙ ap (λ m. times m (f t)) same
  where
    all : (n : ℕ) → flat_map f (replicate n t) ≡ times n (f t)
    all zero = refl
    all (suc n) = ap (λ ys. f t ++ ys) (all n)
elements_left f zero (suc k) t = let same : 0 ≡ 0 - suc k = omega arith in ap (λ m. times m (f t)) same
elements_left f (suc n) (suc k) t = let same : n - k ≡ suc n - suc k = omega arith in elements_left f n k t ∙ ap (λ m. times m (f t)) same

pub members_left : {B : Type 0} (f : CType → List B) (k : ℕ) (ds : List Declared) → flat_map f (drop k (map (λ d. d.ctype) ds)) ≡ flat_map (λ d. f d.ctype) (drop k ds)
members_left {B} f zero ds = all ds
  where
    all : (ds : List Declared) → flat_map f (map (λ d. d.ctype) ds) ≡ flat_map (λ d. f d.ctype) ds
    all [] = refl
    all (d ∷ ds) = ap (λ ys. f d.ctype ++ ys) (all ds)
members_left f (suc k) [] = refl
members_left f (suc k) (d ∷ ds) = members_left f k ds

-- ---- a list that was empty

pub from_empty : {A : Type 0} (xs ys : List A) → extended [] (Ok xs) ≡ Ok ys → xs ≡ ys
unfolding extended
from_empty xs ys h = same_Ok xs ys h

pub outcome_from_empty : {A : Type 0} (o : Checked (List A)) (ys : List A) → extended [] o ≡ Ok ys → o ≡ Ok ys
unfolding extended
outcome_from_empty (Ok xs) ys h = h
outcome_from_empty (Err e) ys h = absurd (ok_is_no_error ys e (sym h))

-- ---- outcomes that are added to lists

through : {A : Type 0} (old cur : List A) (o p : Checked (List A)) (e : TypeFault) → extended old o ≡ extended cur p → p ≡ Err e → o ≡ Err e
unfolding extended
through {A} old cur o p e h k = by o (h ∙ ap (extended cur) k)
  where
    by : (o : Checked (List A)) → extended old o ≡ Err e → o ≡ Err e
    by (Ok xs) h = absurd (ok_is_no_error (old ++ xs) e h)
    by (Err f) h = h

pub adds_through : {A : Type 0} (old cur new : List A) (o p : Checked (List A)) (r : Checked (Unit {0})) → extended old o ≡ extended cur p → Adds p cur new r → Adds o old new r
adds_through old cur new o p (Ok u) h k = h ∙ k
adds_through old cur new o p (Err e) h k = λ q. through old cur o p e h (k q)

pub broken_through : {A : Type 0} (old cur : List A) (o p : Checked (List A)) (e : TypeFault) → extended old o ≡ extended cur p → p ≡ Err e → o ≡ Err e
broken_through old cur o p e h k = through old cur o p e h k
