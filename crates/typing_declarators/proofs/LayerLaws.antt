-- The layers of modifiers that follow one another, and of each form of declarator.
use Rattle.std.proofs.Common.{◌≡◌, ℕ, zero, suc, ◌≤◌, List, [], ◌∷◌, ◌++◌, map, ◌≢◌, Option, Some, None, Ok, Err, refl, sym, ap, subst, ◌∙◌, append_assoc, arith}
use Rattle.std.specs.Prelude.{ℤ, pos, negsuc, min, replicate, length}
use Rattle.std.specs.List.{AllByRecursion}
use Rattle.c_lexer.specs.declared.token.Place.{Place}
use Rattle.c_words.specs.declared.word.Leaf.{Leaf}
use Rattle.c_grammar.specs.declared.expression.Choice.{Choice}
use Rattle.c_grammar.specs.declared.declaration.Declarator.{Declarator, out-Declarator}
use Rattle.c_grammar.specs.declared.declaration.Direct.{Direct}
use Rattle.c_grammar.specs.declared.declaration.Direct.TheVariants as d
use Rattle.c_grammar.specs.declared.declaration.Sizes.{Sizes}
use Rattle.c_grammar.specs.declared.declaration.Sizes.TheVariants as z
use Rattle.typing_rules.specs.declared.fault.TypeFault.{TypeFault}
use Rattle.typing_rules.specs.declared.fault.TypeFault.TheVariants as fault
use Rattle.typing_rules.specs.declared.operand.Operand.{Operand}
use Rattle.typing_rules.specs.declared.operand.Value.{Value}
use Rattle.typing_rules.specs.Checked.{Checked, ◌>>=◌, kept}
use Rattle.typing_rules.specs.Operands.{value}
use Rattle.typing_rules.specs.ConstantExpressions.{constant, positive, size_of_array}
use Rattle.typing_rules.specs.Expressions.{operand}
use Rattle.typing_rules.specs.Environment.{Environment}
use Rattle.typing_rules.specs.Syntax.{Expression, Modifier, PointerTo, ArrayUnsized, ArrayOf}
use Rattle.typing_rules.specs.Declarations as rules
use Rattle.typing_rules.specs.Declarations.{size, layers}
use Rattle.typing_rules.specs.TreesOfExpressions.{choice}
use Rattle.typing_rules.specs.TreesOfDeclarations.{declarator, direct, sizes}
use Rattle.typing_rules.proofs.DeclarationAlternatives.{direct-Name, direct-Unsized, direct-Paren, direct-Array, declarator-is, sizes-Unsized, sizes-First, sizes-More}
use Rattle.typing_declarators.specs.Adding.{extended, Adds}
use Rattle.typing_declarators.specs.Layers.{most_elements, counted, counted_layers, counted_size}
use Rattle.typing_declarators.specs.Types.{HasElements}

-- ---- one outcome after another

abbrev pub SameOutcome : {A : Type 0} → Checked A → Checked A → Type 0
SameOutcome a b = a ≡ b

pub same_Ok : {A : Type 0} (x y : A) → SameOutcome (Ok x) (Ok y) → x ≡ y
same_Ok x y e = cc

pub ok_is_no_error : {A : Type 0} (x : A) (f : TypeFault) → SameOutcome (Ok x) (Err f) → ⊥
ok_is_no_error x f e = cc

after_ok : {A : Type 0} (c : Checked (List A)) → c ≡ (c >>= (λ b. Ok ([] ++ b)))
after_ok (Ok xs) = refl
after_ok (Err e) = refl

-- one list and then another
abbrev pub joined : {A : Type 0} → Checked (List A) → Checked (List A) → Checked (List A)
joined a b = a >>= (λ xs. b >>= (λ ys. Ok (xs ++ ys)))

-- an element in front of both
in_front : {A : Type 0} (x : A) (a b : Checked (List A)) → (joined a b >>= (λ zs. Ok (x ∷ zs))) ≡ joined (a >>= (λ xs. Ok (x ∷ xs))) b
in_front x (Ok xs) (Ok ys) = refl
in_front x (Ok xs) (Err e) = refl
in_front x (Err e) b = refl

-- ---- what holds of the layers, where no rule is broken

abbrev pub OnLayers : Checked (List rules.Layer) → Type 0
OnLayers (Ok ls) = AllByRecursion HasElements ls
OnLayers (Err e) = Unit {0}

abbrev OnSize : Checked ℕ → Type 0
OnSize (Ok n) = 1 ≤ n
OnSize (Err e) = Unit {0}

in_front_of : (l : rules.Layer) → HasElements l → (c : Checked (List rules.Layer)) → OnLayers c → OnLayers (c >>= (λ ls. Ok (l ∷ ls)))
in_front_of l h (Ok ls) p = (h, p)
in_front_of l h (Err e) p = tt

behind_size : (s : Checked ℕ) → OnSize s → (c : Checked (List rules.Layer)) → OnLayers c → OnLayers (s >>= (λ k. c >>= (λ ls. Ok (rules.Sized k ∷ ls))))
behind_size (Ok k) some c p = in_front_of (rules.Sized k) some c p
behind_size (Err e) some c p = tt

module _ (g : Environment) (n : ℕ) where
  size_is_positive : (x : Expression) → OnSize (size g x)
  unfolding size kept size_of_array
  size_is_positive x = first (operand g x)
    where
      last : (at : TypeFault) (z : Option ℤ) → OnSize (kept at (positive z))
      last at None = tt
      last at (Some (pos zero)) = tt
      last at (Some (pos (suc n))) = omega arith
      last at (Some (negsuc n)) = tt

      second : (at : Place) (v : Checked Value) → OnSize (v >>= (λ v. kept (fault.BadInitialiser at) (positive (constant v.expr))))
      second at (Ok v) = last (fault.BadInitialiser at) (constant v.expr)
      second at (Err e) = tt

      first : (a : Checked Operand) → OnSize (a >>= (λ a. value a >>= (λ v. kept (fault.BadInitialiser a.first) (positive (constant v.expr)))))
      first (Ok a) = second a.first (value a)
      first (Err e) = tt

  pub layers_append : (ms ns : List Modifier) → layers g n (ms ++ ns) ≡ joined (layers g n ms) (layers g n ns)
  unfolding layers
  layers_append [] ns = after_ok (layers g n ns)
  layers_append (PointerTo ∷ ms) ns = ap (λ c. c >>= (λ ls. Ok (rules.Pointing ∷ ls))) (layers_append ms ns) ∙ in_front rules.Pointing (layers g n ms) (layers g n ns)
  layers_append (ArrayUnsized ∷ ms) ns = ap (λ c. c >>= (λ ls. Ok (rules.Sized n ∷ ls))) (layers_append ms ns) ∙ in_front (rules.Sized n) (layers g n ms) (layers g n ns)
  layers_append (ArrayOf x ∷ ms) ns = ap (λ c. size g x >>= (λ k. c >>= (λ ls. Ok (rules.Sized k ∷ ls)))) (layers_append ms ns) ∙ by (size g x)
    where
      by : (s : Checked ℕ) → (s >>= (λ k. joined (layers g n ms) (layers g n ns) >>= (λ ls. Ok (rules.Sized k ∷ ls)))) ≡ joined (s >>= (λ k. layers g n ms >>= (λ ls. Ok (rules.Sized k ∷ ls)))) (layers g n ns)
      by (Ok k) = in_front (rules.Sized k) (layers g n ms) (layers g n ns)
      by (Err e) = refl

  pub stars_layers : (k : ℕ) → layers g n (replicate k PointerTo) ≡ Ok (replicate k rules.Pointing)
  unfolding layers
  stars_layers zero = refl
  stars_layers (suc k) = ap (λ c. c >>= (λ ls. Ok (rules.Pointing ∷ ls))) (stars_layers k)

  -- each array has an element, where `[ ]` has one
  pub have_elements : 1 ≤ n → (ms : List Modifier) → OnLayers (layers g n ms)
  unfolding layers
  have_elements h [] = tt
  have_elements h (PointerTo ∷ ms) = in_front_of rules.Pointing tt (layers g n ms) (have_elements h ms)
  have_elements h (ArrayUnsized ∷ ms) = in_front_of (rules.Sized n) h (layers g n ms) (have_elements h ms)
  have_elements h (ArrayOf x ∷ ms) = behind_size (size g x) (size_is_positive x) (layers g n ms) (have_elements h ms)

-- ---- counted sizes

map_append : (xs ys : List rules.Layer) → map counted (xs ++ ys) ≡ map counted xs ++ map counted ys
map_append [] ys = refl
map_append (x ∷ xs) ys = ap (λ zs. counted x ∷ zs) (map_append xs ys)

counted_joined : (a b : Checked (List rules.Layer)) → counted_layers (joined a b) ≡ joined (counted_layers a) (counted_layers b)
unfolding counted_layers
counted_joined (Ok xs) (Ok ys) = ap Ok (map_append xs ys)
counted_joined (Ok xs) (Err e) = refl
counted_joined (Err e) b = refl

counted_stars : (k : ℕ) → map counted (replicate k rules.Pointing) ≡ replicate k rules.Pointing
counted_stars zero = refl
counted_stars (suc k) = ap (λ ls. rules.Pointing ∷ ls) (counted_stars k)

-- one array more
abbrev pub with_size : Checked (List rules.Layer) → Checked ℕ → Checked (List rules.Layer)
with_size a s = a >>= (λ xs. s >>= (λ n. Ok (xs ++ rules.Sized n ∷ [])))

one_size : (s : Checked ℕ) → counted_layers (s >>= (λ n. Ok (rules.Sized n ∷ []))) ≡ (counted_size s >>= (λ n. Ok (rules.Sized n ∷ [])))
unfolding counted_layers counted_size
one_size (Ok n) = refl
one_size (Err e) = refl

joined_size : (a : Checked (List rules.Layer)) (s : Checked ℕ) → joined a (s >>= (λ n. Ok (rules.Sized n ∷ []))) ≡ with_size a s
joined_size (Ok xs) (Ok n) = refl
joined_size (Ok xs) (Err e) = refl
joined_size (Err e) s = refl

module _ (g : Environment) (n : ℕ) where
  -- what the declarator says, with its sizes counted
  abbrev pub of_direct : Direct → Checked (List rules.Layer)
  of_direct x = counted_layers (layers g n (direct x).modifiers)

  abbrev pub of_declarator : Declarator → Checked (List rules.Layer)
  of_declarator x = counted_layers (layers g n (declarator x).modifiers)

  abbrev pub of_sizes : Sizes → Checked (List rules.Layer)
  of_sizes x = counted_layers (layers g n (sizes x))

  last_array : (x : Expression) → counted_layers (layers g n (ArrayOf x ∷ [])) ≡ (counted_size (size g x) >>= (λ n. Ok (rules.Sized n ∷ [])))
  unfolding layers
  last_array x = one_size (size g x)

  counted_array : (ms : List Modifier) (x : Expression) → counted_layers (layers g n (ms ++ (ArrayOf x ∷ []))) ≡ with_size (counted_layers (layers g n ms)) (counted_size (size g x))
  counted_array ms x =
      ap counted_layers (layers_append g n ms (ArrayOf x ∷ []))
      ∙ counted_joined (layers g n ms) (layers g n (ArrayOf x ∷ []))
      ∙ ap (joined (counted_layers (layers g n ms))) (last_array x)
      ∙ joined_size (counted_layers (layers g n ms)) (counted_size (size g x))

  pub of-Name : (t : Leaf) → of_direct (d.Name t) ≡ Ok []
  unfolding layers counted_layers
  of-Name t = ap (λ m. counted_layers (layers g n m.modifiers)) (direct-Name t)

  pub of-Unsized : (t o c : Leaf) → of_direct (d.Unsized t o c) ≡ Ok (rules.Sized (min n most_elements) ∷ [])
  unfolding layers counted_layers
  of-Unsized t o c = ap (λ m. counted_layers (layers g n m.modifiers)) (direct-Unsized t o c)

  pub of-Paren : (o : Leaf) (x : Declarator) (c : Leaf) → of_direct (d.Paren o x c) ≡ of_declarator x
  of-Paren o x c = ap (λ m. counted_layers (layers g n m.modifiers)) (direct-Paren o x c)

  pub of-Array : (x : Direct) (o : Leaf) (e : Choice) (c : Leaf) → of_direct (d.Array x o e c) ≡ with_size (of_direct x) (counted_size (size g (choice e)))
  of-Array x o e c = ap (λ m. counted_layers (layers g n m.modifiers)) (direct-Array x o e c) ∙ counted_array (direct x).modifiers (choice e)

  counted_star_layers : (k : ℕ) → counted_layers (layers g n (replicate k PointerTo)) ≡ Ok (replicate k rules.Pointing)
  unfolding counted_layers
  counted_star_layers k = ap counted_layers (stars_layers g n k) ∙ ap (λ ls. Ok ls) (counted_stars k)

  pub of-Declarator : (x : Declarator) → of_declarator x ≡ joined (of_direct (out-Declarator x).direct) (Ok (replicate (length (out-Declarator x).stars) rules.Pointing))
  of-Declarator x =
      ap (λ m. counted_layers (layers g n m.modifiers)) (declarator-is x)
      ∙ ap counted_layers (layers_append g n (direct (out-Declarator x).direct).modifiers (replicate (length (out-Declarator x).stars) PointerTo))
      ∙ counted_joined (layers g n (direct (out-Declarator x).direct).modifiers) (layers g n (replicate (length (out-Declarator x).stars) PointerTo))
      ∙ ap (joined (of_direct (out-Declarator x).direct)) (counted_star_layers (length (out-Declarator x).stars))

  pub of-Empty : (o c : Leaf) → of_sizes (z.Unsized o c) ≡ Ok (rules.Sized (min n most_elements) ∷ [])
  unfolding layers counted_layers
  of-Empty o c = ap (λ m. counted_layers (layers g n m)) (sizes-Unsized o c)

  pub of-First : (o : Leaf) (e : Choice) (c : Leaf) → of_sizes (z.First o e c) ≡ with_size (Ok []) (counted_size (size g (choice e)))
  unfolding layers counted_layers
  of-First o e c = ap (λ m. counted_layers (layers g n m)) (sizes-First o e c) ∙ counted_array [] (choice e)

  pub of-More : (x : Sizes) (o : Leaf) (e : Choice) (c : Leaf) → of_sizes (z.More x o e c) ≡ with_size (of_sizes x) (counted_size (size g (choice e)))
  of-More x o e c = ap (λ m. counted_layers (layers g n m)) (sizes-More x o e c) ∙ counted_array (sizes x) (choice e)

-- ---- what is added to a list

module _ {A : Type 0} where
  pub adds_then : (a b : Checked (List A)) (old mid new : List A) (r : Checked (Unit {0})) → extended old a ≡ Ok mid → Adds b mid new r → Adds (joined a b) old new r
  unfolding extended
  adds_then (Ok xs) (Ok ys) old mid new (Ok u) e h = ap (λ zs. Ok zs) (sym (append_assoc old xs ys)) ∙ ap (λ m. Ok (m ++ ys)) (same_Ok (old ++ xs) mid e) ∙ h
  adds_then (Ok xs) (Ok ys) old mid new (Err f) e h = λ p. absurd (ok_is_no_error ys f (h p))
  adds_then (Ok xs) (Err g) old mid new (Ok u) e h = absurd (ok_is_no_error new g (sym h))
  adds_then (Ok xs) (Err g) old mid new (Err f) e h = h
  adds_then (Err g) b old mid new r e h = absurd (ok_is_no_error mid g (sym e))

  pub adds_nothing : (a b : Checked (List A)) (e : TypeFault) → (e ≢ fault.Memory → a ≡ Err e) → e ≢ fault.Memory → joined a b ≡ Err e
  adds_nothing a b e h p = ap (λ c. joined c b) (h p)

  pub adds_by : (a b : Checked (List A)) (old new : List A) (r : Checked (Unit {0})) → a ≡ b → Adds b old new r → Adds a old new r
  adds_by a b old new r e h = subst (λ c. Adds c old new r) (sym e) h

-- ---- one array more

pub adds_size : (a : Checked (List rules.Layer)) (s : Checked ℕ) (k : ℕ) (old mid new : List rules.Layer) (r : Checked (Unit {0})) → extended old a ≡ Ok mid → s ≡ Ok k → Adds (Ok (rules.Sized k ∷ [])) mid new r → Adds (with_size a s) old new r
adds_size a s k old mid new r e f h = subst (λ s. Adds (with_size a s) old new r) (sym f) (adds_then a (Ok (rules.Sized k ∷ [])) old mid new r e h)

pub no_layers : (a : Checked (List rules.Layer)) (s : Checked ℕ) (e : TypeFault) → (e ≢ fault.Memory → a ≡ Err e) → e ≢ fault.Memory → with_size a s ≡ Err e
no_layers a s e h p = ap (λ a. with_size a s) (h p)

pub no_size : (a : Checked (List rules.Layer)) (s : Checked ℕ) (old mid : List rules.Layer) (e : TypeFault) → extended old a ≡ Ok mid → (e ≢ fault.Memory → s ≡ Err e) → e ≢ fault.Memory → with_size a s ≡ Err e
unfolding extended
no_size (Ok xs) s old mid e h f p = ap (with_size (Ok xs)) (f p)
no_size (Err g) s old mid e h f p = absurd (ok_is_no_error mid g (sym h))
