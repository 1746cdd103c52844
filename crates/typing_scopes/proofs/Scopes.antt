-- What a list of names with numbers finds, as the rules find it.
use Rattle.std.proofs.Common.{◌≡◌, ℕ, suc, ◌+◌, Bool, true, false, not, cond, ◌||◌, List, [], ◌∷◌, ◌++◌, reverse, length, Option, Some, None, is_some, option_map, option_and_then, position, refl, sym, ap, ◌∙◌, arith, if◌then◌else◌, nat_lt}
use Rattle.std.specs.Prelude.{slice_get, option_copied}
use denote.Bor.{Bor}
use Rattle.std.specs.List.{list_any, position_or_len}
use Rattle.std.proofs.lemmas.List.{reverse-append}
use Rattle.std.specs.Str.{bytes_eq}
use Rattle.std.proofs.lemmas.Bool.Decides.{nat_tests}
use Rattle.std.proofs.lemmas.Slice.Eq.{bytes_eq-Decides}
use Rattle.typing_rules.specs.declared.operand.Entry.{Entry}
use Rattle.typing_rules.specs.Environment.{Scope, found_in, found, or_else}
use Rattle.typing_rules.specs.FileScope.{numbered}
use Rattle.typing_rules.specs.Statements.{innermost}
use Rattle.typing_scopes.specs.declared.block.BlockLocal.{BlockLocal}
use Rattle.typing_scopes.specs.Blocks.{local_entry, scope_of}

-- ---- names

pub bytes_eq-sym : (a b : List ℕ) → bytes_eq a b ≡ bytes_eq b a
bytes_eq-sym a b = by (bytes_eq a b) (bytes_eq b a) refl refl
  where
    by : (t u : Bool) → bytes_eq a b ≡ t → bytes_eq b a ≡ u → t ≡ u
    by true true h k = refl
    by false false h k = refl
    by true false h k = sym ((bytes_eq-Decides b a).1 (sym ((bytes_eq-Decides a b).0 h))) ∙ k
    by false true h k = sym h ∙ (bytes_eq-Decides a b).1 (sym ((bytes_eq-Decides b a).0 k))

-- ---- the first place

pub position-cons : {X : Type 0} (p : X → Bool) (x : X) (xs : List X) → position p (x ∷ xs) ≡ (if p x then Some 0 else option_map suc (position p xs))
position-cons p x xs = by (p x) (position_or_len p xs) (length xs)
  where
    less : (b : Bool) (k n : ℕ) → nat_lt k n ≡ b → cond (nat_lt (1 + k) (suc n)) (Some (1 + k)) None ≡ option_map suc (cond b (Some k) None)
    less true k n e =
        let h : nat_lt (1 + k) (suc n) ≡ true = grind (arith, nat_tests) in
        rw h (ap Some (omega arith))
    less false k n e =
        let h : nat_lt (1 + k) (suc n) ≡ false = grind (arith, nat_tests) in
        rw h refl

    by : (b : Bool) (k n : ℕ) → cond (nat_lt (cond (not b) (1 + k) 0) (suc n)) (Some (cond (not b) (1 + k) 0)) None ≡ (if b then Some 0 else option_map suc (cond (nat_lt k n) (Some k) None))
    by true k n =
        let h : nat_lt 0 (suc n) ≡ true = grind (arith, nat_tests) in
        rw h refl
    by false k n = less (nat_lt k n) k n refl

-- a list has none that passes where no place is found
pub none_there : {X : Type 0} (p : X → Bool) (xs : List X) → position p xs ≡ None → list_any p xs ≡ false
none_there p [] h = refl
none_there p (x ∷ xs) h = by (p x) refl (sym (position-cons p x xs) ∙ h) (none_there p xs)
  where
    rest : (o : Option ℕ) → option_map suc o ≡ None → o ≡ None
    rest None e = refl
    rest (Some i) e = cc

    by : (b : Bool) → p x ≡ b → (if b then Some 0 else option_map suc (position p xs)) ≡ None → (position p xs ≡ None → list_any p xs ≡ false) → (p x || list_any p xs) ≡ false
    by true e g more = cc
    by false e g more = rw e (more (rest (position p xs) g))

-- ---- blocks

pub scope_push : (ns : List (List ℕ)) (ls : List BlockLocal) (n : List ℕ) (l : BlockLocal) → length ls ≡ length ns → scope_of (ns ++ n ∷ []) (ls ++ l ∷ []) ≡ scope_of ns ls ++ (n, local_entry l) ∷ []
scope_push [] [] n l h = refl
scope_push [] (k ∷ ls) n l h = absurd (omega (arith, h))
scope_push (m ∷ ns) [] n l h = absurd (omega (arith, h))
scope_push (m ∷ ns) (k ∷ ls) n l h = ap (λ s. (m, local_entry k) ∷ s) (scope_push ns ls n l (omega (arith, h)))

pub in_block : (ns : List (List ℕ)) (ls : List BlockLocal) (q : List ℕ) → length ls ≡ length ns
    → found_in (scope_of ns ls) q ≡ option_and_then (λ i. option_map local_entry (slice_get ls i)) (position (bytes_eq q) ns)
unfolding found_in
in_block [] [] q h = refl
in_block [] (k ∷ ls) q h = absurd (omega (arith, h))
in_block (m ∷ ns) [] q h = absurd (omega (arith, h))
in_block (m ∷ ns) (l ∷ ls) q h =
    rw (position-cons (bytes_eq q) m ns, bytes_eq-sym m q) (by (bytes_eq q m) (found_in (scope_of ns ls) q) (position (bytes_eq q) ns) (in_block ns ls q (omega (arith, h))))
  where
    by : (b : Bool) (r : Option Entry) (o : Option ℕ) → r ≡ option_and_then (λ i. option_map local_entry (slice_get ls i)) o
        → (if b then Some (local_entry l) else r) ≡ option_and_then (λ i. option_map local_entry (slice_get (l ∷ ls) i)) (if b then Some 0 else option_map suc o)
    by true r o e = refl
    by false r None e = e
    by false r (Some i) e = e

pub block_has : (ns : List (List ℕ)) (ls : List BlockLocal) (q : List ℕ) → length ls ≡ length ns → is_some (found_in (scope_of ns ls) q) ≡ list_any (bytes_eq q) ns
unfolding found_in
block_has [] [] q h = refl
block_has [] (k ∷ ls) q h = absurd (omega (arith, h))
block_has (m ∷ ns) [] q h = absurd (omega (arith, h))
block_has (m ∷ ns) (l ∷ ls) q h = rw (bytes_eq-sym m q) (by (bytes_eq q m) (found_in (scope_of ns ls) q) (block_has ns ls q (omega (arith, h))))
  where
    by : (b : Bool) (r : Option Entry) → is_some r ≡ list_any (bytes_eq q) ns → is_some (if b then Some (local_entry l) else r) ≡ (b || list_any (bytes_eq q) ns)
    by true r e = refl
    by false r e = e

-- ---- file scope

module _ {X : Type 0} (f : ℕ → X → List ℕ × Entry) (name : X → List ℕ) (named : (n : ℕ) (x : X) → (f n x).0 ≡ name x) where
  pub in_table : (n : ℕ) (xs : List X) (q : List ℕ)
      → found_in (numbered f n xs) q ≡ option_and_then (λ i. option_map (λ x. (f (n + i) x).1) (slice_get xs i)) (position (λ x. bytes_eq q (name x)) xs)
  unfolding found_in
  in_table n [] q = refl
  in_table n (x ∷ xs) q =
      rw (position-cons (λ x. bytes_eq q (name x)) x xs, named n x, bytes_eq-sym (name x) q) (by (bytes_eq q (name x)) (found_in (numbered f (suc n) xs) q) (position (λ x. bytes_eq q (name x)) xs) (in_table (suc n) xs q))
    where
      later : (i : ℕ) → option_map (λ x. (f (suc n + i) x).1) (slice_get xs i) ≡ option_map (λ x. (f (n + suc i) x).1) (slice_get xs i)
      later i = ap (λ k. option_map (λ x. (f k x).1) (slice_get xs i)) (omega arith)

      by : (b : Bool) (r : Option Entry) (o : Option ℕ) → r ≡ option_and_then (λ i. option_map (λ x. (f (suc n + i) x).1) (slice_get xs i)) o
          → (if b then Some (f n x).1 else r) ≡ option_and_then (λ i. option_map (λ x. (f (n + i) x).1) (slice_get (x ∷ xs) i)) (if b then Some 0 else option_map suc o)
      by true r o e = ap (λ k. Some (f k x).1) (omega arith)
      by false r None e = e
      by false r (Some i) e = e ∙ later i

  pub table_has : (n : ℕ) (xs : List X) (q : List ℕ) → is_some (found_in (numbered f n xs) q) ≡ list_any (λ x. bytes_eq q (name x)) xs
  unfolding found_in
  table_has n [] q = refl
  table_has n (x ∷ xs) q = rw (named n x, bytes_eq-sym (name x) q) (by (bytes_eq q (name x)) (found_in (numbered f (suc n) xs) q) (table_has (suc n) xs q))
    where
      by : (b : Bool) (r : Option Entry) → is_some r ≡ list_any (λ x. bytes_eq q (name x)) xs → is_some (if b then Some (f n x).1 else r) ≡ (b || list_any (λ x. bytes_eq q (name x)) xs)
      by true r e = refl
      by false r e = e

pub found_in-append : (xs ys : Scope) (q : List ℕ) → found_in (xs ++ ys) q ≡ or_else (found_in xs q) (found_in ys q)
unfolding found_in
found_in-append [] ys q = refl
found_in-append (p ∷ xs) ys q = by (bytes_eq p.0 q) (found_in (xs ++ ys) q) (found_in xs q) (found_in-append xs ys q)
  where
    by : (b : Bool) (r t : Option Entry) → r ≡ or_else t (found_in ys q) → (if b then Some p.1 else r) ≡ or_else (if b then Some p.1 else t) (found_in ys q)
    by true r t e = refl
    by false r t e = e

pub is_some-or_else : (a b : Option Entry) → is_some (or_else a b) ≡ (is_some a || is_some b)
is_some-or_else (Some x) b = refl
is_some-or_else None b = refl

-- ---- scopes

or_else-assoc : (a b c : Option Entry) → or_else (or_else a b) c ≡ or_else a (or_else b c)
or_else-assoc (Some x) b c = refl
or_else-assoc None b c = refl

or_else-none : (a : Option Entry) → or_else a None ≡ a
or_else-none (Some x) = refl
or_else-none None = refl

pub found-append : (ss ts : List Scope) (q : List ℕ) → found (ss ++ ts) q ≡ or_else (found ss q) (found ts q)
unfolding found
found-append [] ts q = refl
found-append (s ∷ ss) ts q = ap (or_else (found_in s q)) (found-append ss ts q) ∙ sym (or_else-assoc (found_in s q) (found ss q) (found ts q))

pub found-one : (s : Scope) (q : List ℕ) → found (s ∷ []) q ≡ found_in s q
unfolding found
found-one s q = or_else-none (found_in s q)

pub found-inner : (s : Scope) (ss : List Scope) (q : List ℕ) → found (s ∷ ss) q ≡ or_else (found_in s q) (found ss q)
unfolding found
found-inner s ss q = refl

-- ---- what is lent

pub copied_entry : (o : Option (Bor BlockLocal)) → option_map (λ l. local_entry l.now) o ≡ option_map local_entry (option_copied o)
copied_entry None = refl
copied_entry (Some l) = refl

-- ---- lists of names that grow

pub any_push : {X : Type 0} (p : X → Bool) (xs : List X) (x : X) → list_any p (xs ++ x ∷ []) ≡ (list_any p xs || p x)
any_push p [] x = or-false (p x)
  where
    or-false : (b : Bool) → (b || false) ≡ (false || b)
    or-false true = refl
    or-false false = refl
any_push p (y ∷ xs) x = ap (λ b. p y || b) (any_push p xs x) ∙ or-assoc (p y) (list_any p xs) (p x)
  where
    or-assoc : (a b c : Bool) → (a || (b || c)) ≡ ((a || b) || c)
    or-assoc true b c = refl
    or-assoc false b c = refl

-- a name that is there already changes nothing
pub any_again : (xs ys zs : List (List ℕ)) (x q : List ℕ) → ((n : List ℕ) → list_any (bytes_eq n) xs ≡ list_any (bytes_eq n) ys) → zs ≡ ys ++ x ∷ [] → list_any (bytes_eq x) xs ≡ true → list_any (bytes_eq q) xs ≡ list_any (bytes_eq q) zs
any_again xs ys zs x q h z e = rw (z, any_push (bytes_eq q) ys x) (by (bytes_eq q x) refl)
  where
    or-true : (b : Bool) → (b || true) ≡ true
    or-true true = refl
    or-true false = refl

    or-none : (b : Bool) → (b || false) ≡ b
    or-none true = refl
    or-none false = refl

    by : (b : Bool) → bytes_eq q x ≡ b → list_any (bytes_eq q) xs ≡ (list_any (bytes_eq q) ys || b)
    by true g = ap (λ n. list_any (bytes_eq n) xs) ((bytes_eq-Decides q x).0 g) ∙ (e ∙ sym (or-true (list_any (bytes_eq q) ys)))
    by false g = h q ∙ sym (or-none (list_any (bytes_eq q) ys))

-- ---- blocks that lie innermost last

pub empty : {X : Type 0} (xs : List X) → length xs ≡ 0 → xs ≡ []
empty [] h = refl
empty (x ∷ xs) h = absurd (omega (arith, h))

pub found-none : (q : List ℕ) → found [] q ≡ None
unfolding found
found-none q = refl

pub found_no_block : (bs : List Scope) (q : List ℕ) → length bs ≡ 0 → found (reverse bs) q ≡ None
found_no_block bs q h = ap (λ xs. found (reverse xs) q) (empty bs h) ∙ found-none q

pub reverse_push : {X : Type 0} (xs : List X) (x : X) → reverse (xs ++ x ∷ []) ≡ x ∷ reverse xs
reverse_push xs x = reverse-append xs (x ∷ [])

pub found_last : (bs outer : List Scope) (inner : Scope) (q : List ℕ) → bs ≡ outer ++ inner ∷ [] → found (reverse bs) q ≡ or_else (found_in inner q) (found (reverse outer) q)
found_last bs outer inner q h = ap (λ xs. found (reverse xs) q) h ∙ (ap (λ xs. found xs q) (reverse_push outer inner) ∙ found-inner inner (reverse outer) q)

pub innermost_last : (bs outer : List Scope) (inner : Scope) → bs ≡ outer ++ inner ∷ [] → innermost (reverse bs) ≡ inner
innermost_last bs outer inner h = ap (λ xs. innermost (reverse xs)) h ∙ ap innermost (reverse_push outer inner)

pub found_in-none : (q : List ℕ) → found_in [] q ≡ None
unfolding found_in
found_in-none q = refl
