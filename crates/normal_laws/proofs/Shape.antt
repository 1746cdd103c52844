-- What each normal form keeps: registers that are returned, blocks, no annotations, and what of the core stays.
use Rattle.std.proofs.Common.{◌≡◌, ℕ, suc, Bool, true, ◌==◌, map, List, [], ◌∷◌, Option, Some, None, refl, sym, ap, ◌∙◌, subst}
use Rattle.std.specs.Prelude.{IsTrue}
use Rattle.std.specs.List.{list_all, AllByRecursion}
use denote.Hole.Carrier.{hidden}
use Rattle.step_meaning.specs.declared.value.CType.{CType}
use Rattle.step_meaning.specs.declared.stmt.Stmt.{Stmt}
use Rattle.step_meaning.specs.declared.stmt.Stmt.TheVariants.{Empty}
use Rattle.step_meaning.specs.declared.stmt.Stmt.TheBlock.{shape-the_row-Stmt-0, hidden-the_row-Stmt-0}
use Rattle.step_meaning.specs.declared.program.Core.{Core}
use Rattle.step_meaning.specs.declared.program.Function.{Function}
use Rattle.step_meaning.specs.ExpressionTypes.{has_body}
use Rattle.step_meaning.specs.Promises.{ReturnsRegisters, RowReturnsRegisters, ReturnsOfItsType, has_blocks, have_blocks}
use Rattle.step_meaning.specs.Settings.{code_setting}
use Rattle.step_meaning.specs.Sources.{is_bare, are_bare}
use Rattle.step_meaning.specs.WellFormed.{OfBody}
use Rattle.step_meaning.proofs.Ranges.{and_true}
use Rattle.normal_laws.specs.NormalForm.{body_code, last_code, normal_body, normal_function, normal_functions}
use Rattle.normal_laws.specs.Shape.{signature, NormalReturnsRegisters, NormalHasBlocks, NormalKeepsProgram}
use Rattle.normal_laws.proofs.Emitted.{Each, each_join, Admits, body_all, last_all}

-- ---- rows of statements

row_returns : (t : CType) (ss : List Stmt) → Each (ReturnsRegisters t) ss → RowReturnsRegisters t (hidden-the_row-Stmt-0 ss)
unfolding shape-the_row-Stmt-0 hidden-the_row-Stmt-0 hidden
row_returns t [] h = tt
row_returns t (s ∷ ss) h = (h.0, row_returns t ss h.1)

row_blocks : (ss : List Stmt) → Each (λ s. has_blocks s ≡ true) ss → have_blocks (hidden-the_row-Stmt-0 ss) ≡ true
unfolding shape-the_row-Stmt-0 hidden-the_row-Stmt-0 hidden
row_blocks [] h = refl
row_blocks (s ∷ ss) h = and_true h.0 (row_blocks ss h.1)

row_bare : (ss : List Stmt) → Each (λ s. is_bare s ≡ true) ss → are_bare (hidden-the_row-Stmt-0 ss) ≡ true
unfolding shape-the_row-Stmt-0 hidden-the_row-Stmt-0 hidden
row_bare [] h = refl
row_bare (s ∷ ss) h = and_true h.0 (row_bare ss h.1)

-- ---- the three properties

returns_admitted : (t : CType) → Admits t (ReturnsRegisters t)
returns_admitted t = record {
  evaluates = λ e. tt;
  chooses = λ e a b h k. (row_returns t a h, row_returns t b k);
  repeats = λ a h. row_returns t a h;
  groups = λ a h. row_returns t a h;
  breaks = tt;
  continues = tt;
  leaves = tt;
  returns = λ i. (refl, refl);
}

blocks_admitted : (t : CType) → Admits t (λ s. has_blocks s ≡ true)
blocks_admitted t = record {
  evaluates = λ e. refl;
  chooses = λ e a b h k. and_true (row_blocks a h) (row_blocks b k);
  repeats = λ a h. row_blocks a h;
  groups = λ a h. row_blocks a h;
  breaks = refl;
  continues = refl;
  leaves = refl;
  returns = λ i. refl;
}

bare_admitted : (t : CType) → Admits t (λ s. is_bare s ≡ true)
bare_admitted t = record {
  evaluates = λ e. refl;
  chooses = λ e a b h k. and_true (row_bare a h) (row_bare b k);
  repeats = λ a h. row_bare a h;
  groups = λ a h. row_bare a h;
  breaks = refl;
  continues = refl;
  leaves = refl;
  returns = λ i. refl;
}

-- ---- bodies and functions

all_true : (test : Stmt → Bool) (ss : List Stmt) → Each (λ s. test s ≡ true) ss → list_all test ss ≡ true
all_true test [] h = refl
all_true test (s ∷ ss) h = and_true h.0 (all_true test ss h.1)

module _ (q : Core) where
  -- each statement of a normal body
  pub body_each : (i : ℕ) (f : Function) (P : Stmt → Type 0) → Admits f.result P → P Empty → (ss : List Stmt) → Each P (normal_body q i f ss)
  body_each i f P rules empty ss =
      let b = body_code q (code_setting q f) f.result ss 0 in
      (empty, each_join P b.code (last_code (i == q.start) f.result b.next).code (body_all q (code_setting q f) f.result P rules ss 0) (last_all q (code_setting q f) f.result P rules (i == q.start) f.result refl b.next))

  function_returns : (i : ℕ) (f : Function) (b : Option (List Stmt)) → f.body ≡ b → ReturnsOfItsType (normal_function q i f b)
  function_returns i f None e = subst (OfBody (Each (ReturnsRegisters f.result))) (sym e) tt
  function_returns i f (Some ss) e = body_each i f (ReturnsRegisters f.result) (returns_admitted f.result) tt ss

  functions_return : (i : ℕ) (fs : List Function) → AllByRecursion ReturnsOfItsType (normal_functions q i fs)
  functions_return i [] = tt
  functions_return i (f ∷ fs) = (function_returns i f f.body refl, functions_return (suc i) fs)

  module _ (test : Stmt → Bool) (rules : (t : CType) → Admits t (λ s. test s ≡ true)) (empty : test Empty ≡ true) where
    abbrev Holds : Function → Type 0
    Holds f = OfBody (λ ss. IsTrue (list_all test ss)) f.body

    function_holds : (i : ℕ) (f : Function) (b : Option (List Stmt)) → f.body ≡ b → Holds (normal_function q i f b)
    function_holds i f None e = subst (OfBody (λ ss. IsTrue (list_all test ss))) (sym e) tt
    function_holds i f (Some ss) e = all_true test (normal_body q i f ss) (body_each i f (λ s. test s ≡ true) (rules f.result) empty ss)

    functions_hold : (i : ℕ) (fs : List Function) → AllByRecursion Holds (normal_functions q i fs)
    functions_hold i [] = tt
    functions_hold i (f ∷ fs) = (function_holds i f f.body refl, functions_hold (suc i) fs)

pub normal_returns : NormalReturnsRegisters
normal_returns q = functions_return q 0 q.functions

pub normal_blocks : NormalHasBlocks
normal_blocks q = (functions_hold q has_blocks blocks_admitted refl 0 q.functions, functions_hold q is_bare bare_admitted refl 0 q.functions)

-- ---- what stays

module _ (q : Core) where
  same_signature : (i : ℕ) (f : Function) (b : Option (List Stmt)) → signature (normal_function q i f b) ≡ signature f
  same_signature i f None = refl
  same_signature i f (Some ss) = refl

  same_body : (i : ℕ) (f : Function) (b : Option (List Stmt)) → f.body ≡ b → has_body (normal_function q i f b) ≡ has_body f
  same_body i f None e = refl
  same_body i f (Some ss) e = ap Rattle.std.specs.Prelude.is_some (sym e)

  signatures_stay : (i : ℕ) (fs : List Function) → map signature (normal_functions q i fs) ≡ map signature fs
  signatures_stay i [] = refl
  signatures_stay i (f ∷ fs) = ap (λ x. x ∷ map signature (normal_functions q (suc i) fs)) (same_signature i f f.body) ∙ ap (λ xs. signature f ∷ xs) (signatures_stay (suc i) fs)

  bodies_stay : (i : ℕ) (fs : List Function) → map has_body (normal_functions q i fs) ≡ map has_body fs
  bodies_stay i [] = refl
  bodies_stay i (f ∷ fs) = ap (λ x. x ∷ map has_body (normal_functions q (suc i) fs)) (same_body i f f.body refl) ∙ ap (λ xs. has_body f ∷ xs) (bodies_stay (suc i) fs)

pub normal_keeps : NormalKeepsProgram
normal_keeps q = record { layouts = refl; globals = refl; initial = refl; ghosts = refl; start = refl; signatures = signatures_stay q 0 q.functions; bodies = bodies_stay q 0 q.functions }
