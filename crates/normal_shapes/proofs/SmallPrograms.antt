-- The normal form of a source's core keeps the sizes of what is printed.
use Rattle.std.proofs.Common.{◌≡◌, ◌==◌, ℕ, suc, ◌≤◌, true, false, map, List, [], ◌∷◌, Option, Some, None, refl, sym, subst, arith}
use Rattle.std.specs.Prelude.{slice_get, nat_le, IsTrue}
use Rattle.std.specs.List.{list_all, AllByRecursion}
use Rattle.std.proofs.lemmas.Bool.{leb-true, le-leb}
use Rattle.step_meaning.specs.declared.value.CType.{CType}
use Rattle.step_meaning.specs.declared.stmt.Stmt.{Stmt}
use Rattle.step_meaning.specs.declared.program.Core.{Core}
use Rattle.step_meaning.specs.declared.program.Declared.{Declared}
use Rattle.step_meaning.specs.declared.program.Function.{Function}
use Rattle.step_meaning.specs.declared.program.Layout.{Layout}
use Rattle.step_meaning.specs.Printable.{is_small_within, have_small_types}
use Rattle.step_meaning.specs.Promises.{has_blocks}
use Rattle.step_meaning.specs.Settings.{code_setting}
use Rattle.step_meaning.specs.Sizes.{nesting}
use Rattle.step_meaning.specs.Sources.{full_nesting, have_source_types, IsSource}
use Rattle.step_meaning.specs.TermSizes.{type_depth}
use Rattle.step_meaning.specs.WellFormed.{OfBody}
use Rattle.step_meaning.proofs.Ranges.{and_true, left_of_and, right_of_and}
use Rattle.normal_laws.specs.NormalForm.{Typed, Is, StatementCode, body_code, last_code, ended_body_code, declared_register, normal_body, normal_function, normal_functions, normal_core}
use Rattle.normal_laws.proofs.Emitted.{Each, each_join}
use Rattle.normal_laws.proofs.Shape.{normal_blocks}
use Rattle.normal_shapes.specs.Form.{is_low_statement, is_low_body, has_small_types, NormalIsSmall}
use Rattle.normal_shapes.proofs.GoodStatements.{EachValue}
use Rattle.normal_shapes.proofs.GoodBodies.{Good}
use Rattle.normal_shapes.proofs.GoodPrograms.{AreThere, all_there, first_there, more_there, own, each_good}
use Rattle.normal_shapes.proofs.LowStatements.{Low, low_more, body_low, last_low}

-- ---- types

one_more : (ds : List Declared) → have_source_types ds ≡ true → have_small_types ds ≡ true
one_more [] h = refl
one_more (d ∷ ds) h = and_true (wider d.ctype (left_of_and _ _ h)) (one_more ds (right_of_and _ _ h))
  where
    wider : (t : CType) → nat_le (type_depth t) 99 ≡ true → nat_le (type_depth t) 100 ≡ true
    wider t h = let l = leb-true (type_depth t) 99 h in le-leb (type_depth t) 100 (omega arith)

structs_small : (ls : List Layout) → list_all (λ l. have_source_types l.members) ls ≡ true → list_all (λ l. have_small_types l.members) ls ≡ true
structs_small [] h = refl
structs_small (l ∷ ls) h = and_true (one_more l.members (left_of_and _ _ h)) (structs_small ls (right_of_and _ _ h))

-- ---- statements

low_all : (ss : List Stmt) → Each (λ s. nesting s ≤ 500) ss → Each (λ s. is_small_within s ≡ true) ss → list_all has_blocks ss ≡ true → list_all is_low_statement ss ≡ true
low_all [] n k b = refl
low_all (s ∷ ss) n k b = and_true (and_true (left_of_and _ _ b) (and_true (le-leb (nesting s) 500 n.0) k.0)) (low_all ss n.1 k.1 (right_of_and _ _ b))

module _ (q : Core) (h : IsSource q) where
  module _ (i : ℕ) (f : Function) (ss : List Stmt) (there : slice_get q.functions i ≡ Some f) (b : f.body ≡ Some ss) where
    abbrev whole : StatementCode
    whole = ended_body_code q (i == q.start) f ss

    body_nests : Low 500 (normal_body q i f ss)
    body_nests =
        let source = own q h i f there in
        let B = body_code q (code_setting q f) f.result ss 0 in
        let L = last_code (i == q.start) f.result B.next in (
          omega arith,
          each_join (λ s. nesting s ≤ 500) B.code L.code
              (body_low q (code_setting q f) f.result 500 ss (subst (OfBody (λ ss. IsTrue (list_all (λ s. nat_le (full_nesting 1 s) 500) ss))) b source.nesting) 0)
              (low_more 1 500 L.code (omega arith) (last_low (i == q.start) f.result B.next)),
        )

    all_small : (rs : List Stmt) → Each (Good q i f ss false) rs → Each (λ s. is_small_within s ≡ true) rs
    all_small [] k = tt
    all_small (s ∷ rs) k = (let x = k.0 in x.small, all_small rs k.1)

    pub body_is_low : list_all has_blocks (normal_body q i f ss) ≡ true → list_all is_low_statement (normal_body q i f ss) ≡ true
    body_is_low k = low_all (normal_body q i f ss) body_nests (refl, all_small whole.code (each_good q h i f ss there b).0) k

    registers_small : (ts : List Typed) → EachValue (normal_core q) (code_setting q f) (map declared_register whole.types) ts → have_small_types (map declared_register ts) ≡ true
    registers_small [] v = refl
    registers_small (Is j t ∷ ts) v = and_true (let x = v.0 in le-leb (type_depth t) 100 x.depth) (registers_small ts v.1)

    pub function_small : has_small_types (normal_function q i f (Some ss)) ≡ true
    function_small =
        let source = own q h i f there in
        and_true (result_small (left_of_and _ _ source.types)) (and_true (one_more f.locals (right_of_and _ _ source.types)) (registers_small whole.types (each_good q h i f ss there b).1))
      where
        result_small : nat_le (type_depth f.result) 99 ≡ true → nat_le (type_depth f.result) 100 ≡ true
        result_small e = let l = leb-true (type_depth f.result) 99 e in le-leb (type_depth f.result) 100 (omega arith)

  -- ---- functions

  one_low : (i : ℕ) (f : Function) → slice_get q.functions i ≡ Some f → (b : Option (List Stmt)) → f.body ≡ b → OfBody (λ ss. IsTrue (list_all has_blocks ss)) (normal_function q i f b).body → is_low_body (normal_function q i f b).body ≡ true
  one_low i f e None b k = subst (λ b. is_low_body b ≡ true) (sym b) refl
  one_low i f e (Some ss) b k = body_is_low i f ss e b k

  all_low : (i : ℕ) (fs : List Function) → AreThere q h i fs → AllByRecursion (λ f. OfBody (λ ss. IsTrue (list_all has_blocks ss)) f.body) (normal_functions q i fs) → list_all (λ f. is_low_body f.body) (normal_functions q i fs) ≡ true
  all_low i [] t k = refl
  all_low i (f ∷ fs) t k = and_true (one_low i f (first_there q h i f fs t) f.body refl k.0) (all_low (suc i) fs (more_there q h i f fs t) k.1)

  one_small : (i : ℕ) (f : Function) → slice_get q.functions i ≡ Some f → (b : Option (List Stmt)) → f.body ≡ b → has_small_types (normal_function q i f b) ≡ true
  one_small i f e None b =
      let source = own q h i f e in
      let r = leb-true (type_depth f.result) 99 (left_of_and _ _ source.types) in
      and_true (le-leb (type_depth f.result) 100 (omega arith)) (and_true (one_more f.locals (right_of_and _ _ source.types)) (subst (λ ds. have_small_types ds ≡ true) (sym source.registers) refl))
  one_small i f e (Some ss) b = function_small i f ss e b

  every_small : (i : ℕ) (fs : List Function) → AreThere q h i fs → list_all has_small_types (normal_functions q i fs) ≡ true
  every_small i [] t = refl
  every_small i (f ∷ fs) t = and_true (one_small i f (first_there q h i f fs t) f.body refl) (every_small (suc i) fs (more_there q h i f fs t))

pub normal_small : NormalIsSmall
normal_small q h =
    record {
      bodies = all_low q h 0 q.functions (all_there q h) (normal_blocks q).0;
      struct_types = structs_small q.layouts h.struct_types;
      global_types = one_more q.globals h.global_types;
      function_types = every_small q h 0 q.functions (all_there q h);
    }
