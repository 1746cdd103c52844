-- The statements of a normal form nest as deep as the measures on its source say.
use Rattle.std.proofs.Common.{◌≡◌, ℕ, suc, ◌+◌, ◌≤◌, Bool, true, false, max, List, [], ◌∷◌, ◌++◌, Option, Some, None, arith, le_refl}
use Rattle.std.specs.Prelude.{slice_get}
use Rattle.std.specs.List.{list_all}
use Rattle.std.specs.Prelude.{nat_le}
use Rattle.std.proofs.lemmas.Bool.{leb-true}
use denote.Hole.Carrier.{hidden}
use Rattle.step_meaning.specs.declared.value.CType.{CType}
use Rattle.step_meaning.specs.declared.value.CType.TheVariants as type
use Rattle.step_meaning.specs.declared.expr.Expr.{Expr, Row_of-Expr, end_of-Expr, more_of-Expr}
use Rattle.step_meaning.specs.declared.expr.Expr.TheVariants.{Literal, Null, Load, Address, Convert', Unary', Binary', Compare', Move', Difference', Not', Both', Either', Choose', Assign', Update', Invoke', GetChar, PutChar', Malloc', Free', Discard', Own, Deref', Member', Index'}
use Rattle.step_meaning.specs.declared.expr.Place_.{Place_, end_of-Place_, more_of-Place_}
use Rattle.step_meaning.specs.declared.stmt.Stmt.{Stmt, Row_of-Stmt, end_of-Stmt, more_of-Stmt}
use Rattle.step_meaning.specs.declared.stmt.Stmt.TheVariants.{Empty, Eval, Init, Block', If', While', Do', For', Break, Continue, Return, Ghost, Assert}
use Rattle.step_meaning.specs.declared.stmt.Stmt.TheBlock.{shape-the_row-Stmt-0, hidden-the_row-Stmt-0}
use Rattle.step_meaning.specs.declared.program.Core.{Core}
use Rattle.step_meaning.specs.Settings.{Setting, variable_type}
use Rattle.step_meaning.specs.Sizes.{nesting, row_nesting}
use Rattle.step_meaning.specs.Sources.{in_branch, branching, place_branching, row_branching, branching_if_any, test_branching, full_nesting, row_full_nesting}
use Rattle.step_meaning.proofs.Ranges.{left_of_and, right_of_and}
use Rattle.normal_laws.specs.NormalForm.{Operand, Number, Nil, Held, Absent, expression_of, or_void, one, set_to, int, as_truth_value, truth_literal, choice, forever, Code, Codes, PlaceCode, Part, MemberAt, ElementAt, part_code, parts_code, cell_parts, named_code, common_operand, chosen_type, branch_code, choose_into, typed_value, invoke_code, result_type, expression_code, arguments_code, place_code, test_code, effect_code, statement_code, row_code, body_code, last_code}
use Rattle.normal_laws.proofs.Emitted.{Each, each_join}

-- each nests at most so deep
abbrev pub Low : ℕ → List Stmt → Type 0
Low n ss = Each (λ s. nesting s ≤ n) ss

low_join : (n : ℕ) (a b : List Stmt) → Low n a → Low n b → Low n (a ++ b)
low_join n a b h k = each_join (λ s. nesting s ≤ n) a b h k

pub low_more : (m n : ℕ) (ss : List Stmt) → m ≤ n → Low m ss → Low n ss
low_more m n [] l h = tt
low_more m n (s ∷ ss) l h = (let k = h.0 in omega arith, low_more m n ss l h.1)

row_low : (n : ℕ) (ss : List Stmt) → Low n ss → row_nesting (hidden-the_row-Stmt-0 ss) ≤ n
unfolding shape-the_row-Stmt-0 hidden-the_row-Stmt-0 hidden
row_low n [] h = omega arith
row_low n (s ∷ ss) h = let k = h.0 in let more = row_low n ss h.1 in omega arith

choice_low : (n : ℕ) (e : Expr) (a b : List Stmt) → Low n a → Low n b → nesting (choice e a b) ≤ 2 + n
choice_low n e a b h k = let x = row_low n a h in let y = row_low n b k in omega arith

choice_below : (k n : ℕ) (e : Expr) (a b : List Stmt) → Low k a → Low k b → 2 + k ≤ n → nesting (choice e a b) ≤ n
choice_below k n e a b h j l = let x = choice_low k e a b h j in omega arith

-- a statement after others, of so deep nesting at most
then_low : (m n : ℕ) (a : List Stmt) (s : Stmt) → Low m a → m ≤ n → nesting s ≤ n → Low n (a ++ (s ∷ []))
then_low m n a s h l k = low_join n a (s ∷ []) (low_more m n a l h) (k, tt)

both_low : (m k n : ℕ) (a b : List Stmt) (s : Stmt) → Low m a → Low k b → m ≤ n → k ≤ n → nesting s ≤ n → Low n (a ++ (b ++ (s ∷ [])))
both_low m k n a b s h j l o t = low_join n a (b ++ (s ∷ [])) (low_more m n a l h) (then_low k n b s j o t)

-- ---- measures are positive

mutual
  positive : (e : Expr) → 1 ≤ branching e
  positive (Literal k z) = omega arith
  positive Null = omega arith
  positive (Load p t) = place_positive p
  positive (Address p t) = place_positive p
  positive (Convert' k b (more_of-Expr e end_of-Expr)) = positive e
  positive (Unary' o k b (more_of-Expr e end_of-Expr)) = positive e
  positive (Binary' o k b (more_of-Expr e end_of-Expr) c (more_of-Expr f end_of-Expr)) = let x = positive e in omega arith
  positive (Compare' o b (more_of-Expr e end_of-Expr) c (more_of-Expr f end_of-Expr)) = let x = positive e in omega arith
  positive (Move' b (more_of-Expr e end_of-Expr) c (more_of-Expr f end_of-Expr) size side) = let x = positive e in omega arith
  positive (Difference' b (more_of-Expr e end_of-Expr) c (more_of-Expr f end_of-Expr) unit) = let x = positive e in omega arith
  positive (Not' b (more_of-Expr e end_of-Expr)) = positive e
  positive (Both' b (more_of-Expr e end_of-Expr) c (more_of-Expr f end_of-Expr)) = let x = positive e in omega arith
  positive (Either' b (more_of-Expr e end_of-Expr) c (more_of-Expr f end_of-Expr)) = let x = positive e in omega arith
  positive (Choose' b (more_of-Expr e end_of-Expr) c (more_of-Expr f end_of-Expr) d (more_of-Expr j end_of-Expr)) = let x = positive e in omega arith
  positive (Assign' p t b (more_of-Expr e end_of-Expr)) = let x = positive e in omega arith
  positive (Update' p t o b (more_of-Expr e end_of-Expr) w) = let x = positive e in omega arith
  positive (Invoke' f b es) = row_positive es
  positive GetChar = omega arith
  positive (PutChar' b (more_of-Expr e end_of-Expr)) = positive e
  positive (Malloc' b (more_of-Expr e end_of-Expr) t) = positive e
  positive (Free' b (more_of-Expr e end_of-Expr)) = positive e
  positive (Discard' b (more_of-Expr e end_of-Expr)) = positive e

  place_positive : (p : Place_) → 1 ≤ place_branching p
  place_positive (Own v) = omega arith
  place_positive (Deref' b (more_of-Expr e end_of-Expr)) = positive e
  place_positive (Member' b (more_of-Place_ p end_of-Place_) o) = place_positive p
  place_positive (Index' b (more_of-Place_ p end_of-Place_) c (more_of-Expr e end_of-Expr) size) = let x = positive e in omega arith

  row_positive : {n : _} (es : Row_of-Expr n) → 1 ≤ row_branching es
  row_positive end_of-Expr = omega arith
  row_positive (more_of-Expr e es) = let x = positive e in omega arith

two_low : (e f : Expr) (a b : List Stmt) (s : Expr) → Low (branching e) a → Low (branching f) b → Low (max (branching e) (branching f)) (a ++ (b ++ (Eval s ∷ [])))
two_low e f a b s h k = let x = positive e in both_low (branching e) (branching f) (max (branching e) (branching f)) a b (Eval s) h k (omega arith) (omega arith) (omega arith)

module _ (q : Core) (g : Setting) where
  abbrev ec : Expr → ℕ → Code
  ec = expression_code q g

  abbrev pc : Place_ → ℕ → PlaceCode
  pc = place_code q g

  typed_low : (n : ℕ) (t : CType) (v : Operand) (A : Code) → 1 ≤ n → Low n A.code → Low n (typed_value t v A).code
  typed_low n t Nil A l h = then_low n n A.code _ h (le_refl n) l
  typed_low n t (Number k z) A l h = h
  typed_low n t (Held i u) A l h = h
  typed_low n t Absent A l h = h

  -- where both branches nest at most so deep
  choose_low : (m k n : ℕ) (o : Option Operand) (C A B : Code) → Low m C.code → Low k A.code → Low k B.code → m ≤ n → 2 + k ≤ n → 1 ≤ k → Low n (choose_into o C A B).code
  choose_low m k n None C A B h i j l r p =
      let t = chosen_type A.value B.value in
      low_join n C.code _ (low_more m n C.code l h)
      (choice_below k n (expression_of C.value) (branch_code B.next t A) (branch_code B.next t B) (then_low k k A.code _ i (le_refl k) p) (then_low k k B.code _ j (le_refl k) p) r, tt)
  choose_low m k n (Some o) C A B h i j l r p =
      low_join n C.code _ (low_more m n C.code l h) (choice_below k n (expression_of C.value) A.code B.code i j r, tt)

  invoke_low : (n f : ℕ) (t : CType) (E : Codes) → 1 ≤ n → Low n E.code → Low n (invoke_code f t E).code
  invoke_low n f type.Void E l h = then_low n n E.code _ h (le_refl n) l
  invoke_low n f (type.Int k) E l h = then_low n n E.code _ h (le_refl n) l
  invoke_low n f (type.Pointer' b u) E l h = then_low n n E.code _ h (le_refl n) l
  invoke_low n f (type.Array' b u m) E l h = then_low n n E.code _ h (le_refl n) l
  invoke_low n f (type.Struct m) E l h = then_low n n E.code _ h (le_refl n) l

  part_low : (x : Part) (p : PlaceCode) → Low 1 p.code → Low 1 (part_code x p).code
  part_low (MemberAt o t) p h = then_low 1 1 p.code _ h (le_refl 1) (le_refl 1)
  part_low (ElementAt i size t) p h = then_low 1 1 p.code _ h (le_refl 1) (le_refl 1)

  parts_low : (xs : List Part) (p : PlaceCode) → Low 1 p.code → Low 1 (parts_code xs p).code
  parts_low [] p h = h
  parts_low (x ∷ xs) p h = parts_low xs (part_code x p) (part_low x p h)

  mutual
    pub expression_low : (e : Expr) (m : ℕ) → Low (branching e) (ec e m).code
    expression_low (Literal k z) m = tt
    expression_low Null m = tt
    expression_low (Load p t) m = let n = place_branching p in then_low n n _ _ (place_low p m) (le_refl n) (place_positive p)
    expression_low (Address p t) m = let n = place_branching p in then_low n n _ _ (place_low p m) (le_refl n) (place_positive p)
    expression_low (Convert' k b (more_of-Expr e end_of-Expr)) m = let n = branching e in then_low n n _ _ (expression_low e m) (le_refl n) (positive e)
    expression_low (Unary' o k b (more_of-Expr e end_of-Expr)) m = let n = branching e in then_low n n _ _ (expression_low e m) (le_refl n) (positive e)
    expression_low (Binary' o k b (more_of-Expr e end_of-Expr) c (more_of-Expr f end_of-Expr)) m = two_low e f _ _ _ (expression_low e m) (expression_low f _)
    expression_low (Compare' o b (more_of-Expr e end_of-Expr) c (more_of-Expr f end_of-Expr)) m = two_low e f _ _ _ (expression_low e m) (expression_low f _)
    expression_low (Move' b (more_of-Expr e end_of-Expr) c (more_of-Expr f end_of-Expr) size side) m = two_low e f _ _ _ (expression_low e m) (expression_low f _)
    expression_low (Difference' b (more_of-Expr e end_of-Expr) c (more_of-Expr f end_of-Expr) unit) m = two_low e f _ _ _ (expression_low e m) (expression_low f _)
    expression_low (Not' b (more_of-Expr e end_of-Expr)) m = let n = branching e in then_low n n _ _ (expression_low e m) (le_refl n) (positive e)
    expression_low (Both' b (more_of-Expr e end_of-Expr) c (more_of-Expr f end_of-Expr)) m =
        let n = branching f in
        let p = positive f in
        let A = ec e m in
        let B = ec f A.next in
        let k = max (branching e) (in_branch n) in
        low_join k A.code _ (low_more (branching e) k A.code (omega arith) (expression_low e m))
        (choice_below n k (expression_of A.value) (B.code ++ one (set_to B.next int (as_truth_value (expression_of B.value)))) (one (set_to B.next int (truth_literal 0))) (then_low n n B.code _ (expression_low f A.next) (le_refl n) p) (p, tt) (omega arith), tt)
    expression_low (Either' b (more_of-Expr e end_of-Expr) c (more_of-Expr f end_of-Expr)) m =
        let n = branching f in
        let p = positive f in
        let A = ec e m in
        let B = ec f A.next in
        let k = max (branching e) (in_branch n) in
        low_join k A.code _ (low_more (branching e) k A.code (omega arith) (expression_low e m))
        (choice_below n k (expression_of A.value) (one (set_to B.next int (truth_literal 1))) (B.code ++ one (set_to B.next int (as_truth_value (expression_of B.value)))) (p, tt) (then_low n n B.code _ (expression_low f A.next) (le_refl n) p) (omega arith), tt)
    expression_low (Choose' b (more_of-Expr e end_of-Expr) c (more_of-Expr f end_of-Expr) d (more_of-Expr j end_of-Expr)) m =
        let C = ec e m in
        let A = ec f C.next in
        let B = ec j A.next in
        let n = max (branching f) (branching j) in
        let p = positive f in
        choose_low (branching e) n (max (branching e) (in_branch n)) (common_operand A.value B.value) C A B (expression_low e m)
        (low_more (branching f) n A.code (omega arith) (expression_low f C.next)) (low_more (branching j) n B.code (omega arith) (expression_low j A.next)) (omega arith) (omega arith) (omega arith)
    expression_low (Assign' p t b (more_of-Expr e end_of-Expr)) m =
        let Q = pc p m in
        let A = ec e Q.next in
        let x = positive e in
        both_low (place_branching p) (branching e) (max (place_branching p) (branching e)) Q.code (typed_value t A.value A).code _ (place_low p m) (typed_low (branching e) t A.value A x (expression_low e Q.next)) (omega arith) (omega arith) (omega arith)
    expression_low (Update' p t o b (more_of-Expr e end_of-Expr) w) m =
        let Q = pc p m in
        let A = ec e (suc Q.next) in
        let x = positive e in
        let n = max (place_branching p) (branching e) in
        low_join n Q.code _ (low_more (place_branching p) n Q.code (omega arith) (place_low p m))
        (omega arith, low_join n A.code _ (low_more (branching e) n A.code (omega arith) (expression_low e (suc Q.next))) (omega arith, (omega arith, tt)))
    expression_low (Invoke' f b es) m = invoke_low (row_branching es) f (result_type (slice_get q.functions f)) (arguments_code q g es m) (row_positive es) (arguments_low es m)
    expression_low GetChar m = (le_refl 1, tt)
    expression_low (PutChar' b (more_of-Expr e end_of-Expr)) m = let n = branching e in then_low n n _ _ (expression_low e m) (le_refl n) (positive e)
    expression_low (Malloc' b (more_of-Expr e end_of-Expr) t) m = let n = branching e in then_low n n _ _ (expression_low e m) (le_refl n) (positive e)
    expression_low (Free' b (more_of-Expr e end_of-Expr)) m = let n = branching e in then_low n n _ _ (expression_low e m) (le_refl n) (positive e)
    expression_low (Discard' b (more_of-Expr e end_of-Expr)) m = expression_low e m

    arguments_low : {n : _} (es : Row_of-Expr n) (m : ℕ) → Low (row_branching es) (arguments_code q g es m).code
    arguments_low end_of-Expr m = tt
    arguments_low (more_of-Expr e es) m =
        let n = max (branching e) (row_branching es) in
        low_join n _ _ (low_more (branching e) n _ (omega arith) (expression_low e m)) (low_more (row_branching es) n _ (omega arith) (arguments_low es _))

    place_low : (p : Place_) (m : ℕ) → Low (place_branching p) (pc p m).code
    place_low (Own v) m = tt
    place_low (Deref' b (more_of-Expr e end_of-Expr)) m = expression_low e m
    place_low (Member' b (more_of-Place_ p end_of-Place_) o) m = let n = place_branching p in then_low n n _ _ (place_low p m) (le_refl n) (place_positive p)
    place_low (Index' b (more_of-Place_ p end_of-Place_) c (more_of-Expr e end_of-Expr) size) m =
        let x = positive e in
        both_low (place_branching p) (branching e) (max (place_branching p) (branching e)) _ _ _ (place_low p m) (expression_low e _) (omega arith) (omega arith) (omega arith)

  test_low : (o : Option Expr) (m : ℕ) → Low (test_branching o) (test_code q g o m).code
  test_low None m = tt
  test_low (Some e) m =
      let A = ec e m in
      let k = max (branching e) (in_branch 1) in
      low_join k A.code _ (low_more (branching e) k A.code (omega arith) (expression_low e m)) (choice_below 1 k (expression_of A.value) [] (Break ∷ []) tt (le_refl 1, tt) (omega arith), tt)

  step_low : (o : Option Expr) (m : ℕ) → Low (branching_if_any o) (effect_code q g o m).code
  step_low None m = tt
  step_low (Some e) m = expression_low e m

  test_positive : (o : Option Expr) → 1 ≤ test_branching o
  test_positive None = omega arith
  test_positive (Some e) = omega arith

  step_positive : (o : Option Expr) → 1 ≤ branching_if_any o
  step_positive None = omega arith
  step_positive (Some e) = positive e

  loop_low : (n : ℕ) (a b c : List Stmt) → Low n a → Low n b → Low n c → Low (in_branch n) (forever (a ++ (b ++ c)) ∷ [])
  loop_low n a b c h j k = (let x = row_low n (a ++ (b ++ c)) (low_join n a (b ++ c) h (low_join n b c j k)) in omega arith, tt)

  module _ (result : CType) where
    mutual
      pub statement_low : (last : ℕ) (before : List Stmt) → 1 ≤ last → Low last before → (s : Stmt) (m : ℕ) → Low (full_nesting last s) (statement_code q g result before s m).code
      statement_low last before l h Empty m = tt
      statement_low last before l h (Eval e) m = expression_low e m
      statement_low last before l h (Init v o t e) m =
          let A = ec e m in
          let U = or_void (variable_type g v) in
          let start = named_code v U A.next in
          let x = positive e in
          both_low (branching e) 1 (branching e) A.code (parts_code (cell_parts g.layouts U o) start).code _ (expression_low e m) (parts_low (cell_parts g.layouts U o) start tt) (le_refl (branching e)) x x
      statement_low last before l h (Block' b ss) m =
          let x = row_low (row_full_nesting last ss) (row_code q g result before ss m).code (statements_low last before l h ss m) in
          (omega arith, tt)
      statement_low last before l h (If' e b (more_of-Stmt s end_of-Stmt) c (more_of-Stmt u end_of-Stmt)) m =
          let C = ec e m in
          let A = statement_code q g result before s C.next in
          let B = statement_code q g result before u A.next in
          let n = max (full_nesting last s) (full_nesting last u) in
          let k = max (branching e) (in_branch n) in
          low_join k C.code _ (low_more (branching e) k C.code (omega arith) (expression_low e m))
          (choice_below n k (expression_of C.value) A.code B.code (low_more (full_nesting last s) n A.code (omega arith) (statement_low last before l h s C.next)) (low_more (full_nesting last u) n B.code (omega arith) (statement_low last before l h u A.next)) (omega arith), tt)
      statement_low last before l h (While' e b (more_of-Stmt s end_of-Stmt)) m =
          let C = test_code q g (Some e) m in
          let A = statement_code q g result [] s C.next in
          let n = max (test_branching (Some e)) (full_nesting 1 s) in
          loop_low n C.code A.code [] (low_more (test_branching (Some e)) n C.code (omega arith) (test_low (Some e) m)) (low_more (full_nesting 1 s) n A.code (omega arith) (statement_low 1 [] (le_refl 1) tt s C.next)) tt
      statement_low last before l h (Do' b (more_of-Stmt s end_of-Stmt) e) m =
          let C = test_code q g (Some e) m in
          let A = statement_code q g result C.code s C.next in
          let k = test_branching (Some e) in
          let n = max k (full_nesting k s) in
          loop_low n [] A.code C.code tt (low_more (full_nesting k s) n A.code (omega arith) (statement_low k C.code (test_positive (Some e)) (test_low (Some e) m) s C.next)) (low_more k n C.code (omega arith) (test_low (Some e) m))
      statement_low last before l h (For' test step b (more_of-Stmt s end_of-Stmt)) m =
          let C = test_code q g test m in
          let L = effect_code q g step C.next in
          let A = statement_code q g result L.code s L.next in
          let k = branching_if_any step in
          let n = max (test_branching test) (max k (full_nesting k s)) in
          loop_low n C.code A.code L.code (low_more (test_branching test) n C.code (omega arith) (test_low test m)) (low_more (full_nesting k s) n A.code (omega arith) (statement_low k L.code (step_positive step) (step_low step C.next) s L.next)) (low_more k n L.code (omega arith) (step_low step C.next))
      statement_low last before l h Break m = (le_refl 1, tt)
      statement_low last before l h Continue m = then_low last (max last 1) before Continue h (omega arith) (omega arith)
      statement_low last before l h (Return None) m = (le_refl 1, tt)
      statement_low last before l h (Return (Some e)) m =
          let n = branching e in
          let x = positive e in
          then_low n n _ _ (then_low n n (ec e m).code _ (expression_low e m) (le_refl n) x) (le_refl n) x
      statement_low last before l h (Ghost x) m = tt
      statement_low last before l h (Assert v k x) m = tt

      statements_low : {n : _} (last : ℕ) (before : List Stmt) → 1 ≤ last → Low last before → (ss : Row_of-Stmt n) (m : ℕ) → Low (row_full_nesting last ss) (row_code q g result before ss m).code
      statements_low last before l h end_of-Stmt m = tt
      statements_low last before l h (more_of-Stmt s ss) m =
          let n = max (full_nesting last s) (row_full_nesting last ss) in
          low_join n _ _ (low_more (full_nesting last s) n _ (omega arith) (statement_low last before l h s m)) (low_more (row_full_nesting last ss) n _ (omega arith) (statements_low last before l h ss _))

    pub body_low : (n : ℕ) (ss : List Stmt) → list_all (λ s. nat_le (full_nesting 1 s) n) ss ≡ true → (m : ℕ) → Low n (body_code q g result ss m).code
    body_low n [] h m = tt
    body_low n (s ∷ ss) h m =
        low_join n _ _ (low_more (full_nesting 1 s) n _ (leb-true (full_nesting 1 s) n (left_of_and _ _ h)) (statement_low 1 [] (le_refl 1) tt s m)) (body_low n ss (right_of_and _ _ h) _)

pub last_low : (b : Bool) (t : CType) (m : ℕ) → Low 1 (last_code b t m).code
last_low true t m = (le_refl 1, (le_refl 1, tt))
last_low false type.Void m = (le_refl 1, tt)
last_low false (type.Int k) m = tt
last_low false (type.Pointer' b u) m = tt
last_low false (type.Array' b u n) m = tt
last_low false (type.Struct n) m = tt
