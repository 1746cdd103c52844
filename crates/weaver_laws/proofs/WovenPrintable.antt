-- Woven cores are printable, where the source leaves room for what the weaver adds.
use Rattle.std.proofs.Common.{◌≡◌, ℕ, suc, ◌≤◌, ◌^◌, Bool, true, false, cond, ◌&&◌, List, [], ◌∷◌, ◌++◌, Option, Some, None, refl, arith}
use Rattle.std.specs.Prelude.{nat_le, not, ◌||◌, ◌==◌, IsTrue}
use Rattle.std.specs.List.{list_all, AllByRecursion}
use Rattle.std.proofs.lemmas.Bool.{le-leb, leb-true}
use Rattle.step_meaning.specs.declared.stmt.Stmt.{Stmt}
use Rattle.step_meaning.specs.declared.stmt.Stmt.TheVariants as st
use Rattle.step_meaning.specs.declared.program.Core.{Core}
use Rattle.step_meaning.specs.declared.program.Declared.{Declared}
use Rattle.step_meaning.specs.declared.program.Function.{Function}
use Rattle.step_meaning.specs.declared.program.Hooks.{Hooks}
use Rattle.step_meaning.specs.declared.program.HookPlace.TheVariants as place
use Rattle.step_meaning.specs.Sizes.{nesting}
use Rattle.step_meaning.specs.TermSizes.{type_depth}
use Rattle.step_meaning.specs.ExpressionTypes.{is_void}
use Rattle.step_meaning.specs.Normal.{IsNormal, all_normal, is_normal_body, are_normal_functions, ends_with_return}
use Rattle.step_meaning.specs.WellFormed.{IsWellFormed}
use Rattle.step_meaning.specs.StatementRules.{is_monitor}
use Rattle.step_meaning.specs.Promises.{ReturnsRegistersAlone, has_blocks}
use Rattle.step_meaning.specs.Printable.{is_small_within, is_small_statement, is_small_body, have_small_types, declares_small_types, IsPrintable}
use Rattle.step_meaning.specs.Fit.{IsGhostOf, FitsFor}
use Rattle.step_meaning.specs.Fold.{saves_of}
use Rattle.weaver_laws.specs.Bare.{IsBare}
use Rattle.weaver_laws.specs.NormalSizes.{leaves_room, body_leaves_room, has_small_types, KeepsSizes}
use Rattle.weaver_laws.specs.Weaving.{woven_core, woven_functions, woven_body, woven_all, code_before, changed_code, enter_substitution}
use Rattle.weaver_laws.proofs.Basics.{and_left, and_right}
use Rattle.weaver_laws.proofs.NormalBodies.{both}
use Rattle.weaver_laws.proofs.WovenSizes.{enters_small}
use Rattle.weaver_laws.proofs.WovenSubstitutions.{all_append}
use Rattle.weaver_laws.proofs.WovenSmallStatements.{all_small, small_append, before_small, changed_small, all_woven_small}
use Rattle.weaver_laws.proofs.WovenNesting.{AtMost, before_nests, changed_nests, all_nest}
use Rattle.weaver_laws.proofs.WovenNormal.{normal_stays}
use Rattle.weaver_laws.proofs.WovenFormed.{saves_fit, woven_formed}

-- ---- statements

module _ where
  parts_of : (s : Stmt) → leaves_room s ≡ true → (has_blocks s ≡ true) × (nesting s ≤ 500) × (is_small_within s ≡ true)
  parts_of s x =
      let y = and_right (has_blocks s) (nat_le (nesting s) 500 && is_small_within s) x in
      (and_left (has_blocks s) (nat_le (nesting s) 500 && is_small_within s) x, leb-true (nesting s) 500 (and_left (nat_le (nesting s) 500) (is_small_within s) y), and_right (nat_le (nesting s) 500) (is_small_within s) y)

  have_blocks : (ss : List Stmt) → list_all leaves_room ss ≡ true → AllByRecursion (λ s. IsTrue (has_blocks s)) ss
  have_blocks [] x = tt
  have_blocks (s ∷ ss) x = ((parts_of s (and_left (leaves_room s) (list_all leaves_room ss) x)).0, have_blocks ss (and_right (leaves_room s) (list_all leaves_room ss) x))

  nest_within : (ss : List Stmt) → list_all leaves_room ss ≡ true → AllByRecursion (λ s. suc (nesting s) ≤ suc (suc 499)) ss
  nest_within [] x = tt
  nest_within (s ∷ ss) x = (let l : nesting s ≤ 500 = (parts_of s (and_left (leaves_room s) (list_all leaves_room ss) x)).1 in omega arith, nest_within ss (and_right (leaves_room s) (list_all leaves_room ss) x))

  are_small : (ss : List Stmt) → list_all leaves_room ss ≡ true → all_small ss ≡ true
  are_small [] x = refl
  are_small (s ∷ ss) x = both (is_small_within s) (all_small ss) (parts_of s (and_left (leaves_room s) (list_all leaves_room ss) x)).2 (are_small ss (and_right (leaves_room s) (list_all leaves_room ss) x))

  both_small : (ss : List Stmt) → AtMost (suc (suc 499)) ss → all_small ss ≡ true → list_all is_small_statement ss ≡ true
  both_small [] x y = refl
  both_small (s ∷ ss) x y =
      both (is_small_statement s) (list_all is_small_statement ss)
      (both (nat_le (nesting s) 700) (is_small_within s) (le-leb (nesting s) 700 (let l : nesting s ≤ suc (suc 499) = x.0 in omega arith)) (and_left (is_small_within s) (all_small ss) y))
      (both_small ss x.1 (and_right (is_small_within s) (all_small ss) y))

module _ (IsTheirs : ℕ → Type 0) (q : Core) (h : Hooks) (fits : FitsFor IsTheirs (2 ^ 30) q h) where
  -- ---- bodies

  body_small : (n : ℕ) (f : Function) (b : Option (List Stmt)) → is_normal_body q n f b ≡ true → body_leaves_room b ≡ true → is_small_body (woven_body q h n f b) ≡ true
  body_small n f None m x = refl
  body_small n f (Some ss) m x = by (n == q.start || is_void f.result) (and_left (all_normal ss) (not (n == q.start || is_void f.result) || ends_with_return ss) m)
    where
      one : 1 ≤ suc (suc 499)
      one = omega arith

      end_nests : (c : Bool) → AtMost (suc (suc 499)) (cond c [] (changed_code h.points n))
      end_nests true = tt
      end_nests false = changed_nests h.points n (suc (suc 499)) one

      end_small : (c : Bool) → all_small (cond c [] (changed_code h.points n)) ≡ true
      end_small true = refl
      end_small false = changed_small IsTheirs q h n fits.points

      by : (c : Bool) → all_normal ss ≡ true → list_all is_small_statement (code_before h.points n place.Enter (enter_substitution f) ++ (st.Empty ∷ woven_all h.points n ss (cond c [] (changed_code h.points n)))) ≡ true
      by c k =
          let e = cond c [] (changed_code h.points n) in
          let before = code_before h.points n place.Enter (enter_substitution f) in
          both_small (before ++ (st.Empty ∷ woven_all h.points n ss e))
          (all_append (λ s. nesting s ≤ suc (suc 499)) before (st.Empty ∷ woven_all h.points n ss e) (before_nests h.points n place.Enter (enter_substitution f) (suc (suc 499)) one)
          (one, all_nest h.points n ss k (have_blocks ss x) 499 (nest_within ss x) e (end_nests c)))
          (small_append before (st.Empty ∷ woven_all h.points n ss e) (before_small IsTheirs q h n fits.points place.Enter (enter_substitution f) (enters_small f))
          (all_woven_small IsTheirs q h n fits.points ss (are_small ss x) e (end_small c)))

  bodies_small : (n : ℕ) (fs : List Function) → are_normal_functions q n fs ≡ true → list_all (λ f. body_leaves_room f.body) fs ≡ true → list_all (λ f. is_small_body f.body) (woven_functions q h n fs) ≡ true
  bodies_small n [] m x = refl
  bodies_small n (f ∷ fs) m x =
      both (is_small_body (woven_body q h n f f.body)) (list_all (λ f. is_small_body f.body) (woven_functions q h (suc n) fs))
      (body_small n f f.body (and_left (is_normal_body q n f f.body) (are_normal_functions q (suc n) fs) m) (and_left (body_leaves_room f.body) (list_all (λ f. body_leaves_room f.body) fs) x))
      (bodies_small (suc n) fs (and_right (is_normal_body q n f f.body) (are_normal_functions q (suc n) fs) m) (and_right (body_leaves_room f.body) (list_all (λ f. body_leaves_room f.body) fs) x))

  -- ---- types

  ghosts_small : (ds : List Declared) → AllByRecursion (IsGhostOf q) ds → have_small_types ds ≡ true
  ghosts_small [] x = refl
  ghosts_small (d ∷ ds) x = both (nat_le (type_depth d.ctype) 100) (have_small_types ds) (le-leb (type_depth d.ctype) 100 x.0.depth) (ghosts_small ds x.1)

  function_small : (n : ℕ) (f : Function) → has_small_types f ≡ true → (nat_le (type_depth f.result) 100 && (have_small_types f.locals && (have_small_types f.registers && have_small_types (saves_of h.points n)))) ≡ true
  function_small n f x =
      let y = and_right (nat_le (type_depth f.result) 100) (have_small_types f.locals && have_small_types f.registers) x in
      both (nat_le (type_depth f.result) 100) (have_small_types f.locals && (have_small_types f.registers && have_small_types (saves_of h.points n))) (and_left (nat_le (type_depth f.result) 100) (have_small_types f.locals && have_small_types f.registers) x)
      (both (have_small_types f.locals) (have_small_types f.registers && have_small_types (saves_of h.points n)) (and_left (have_small_types f.locals) (have_small_types f.registers) y)
      (both (have_small_types f.registers) (have_small_types (saves_of h.points n)) (and_right (have_small_types f.locals) (have_small_types f.registers) y) (ghosts_small (saves_of h.points n) (saves_fit q h IsTheirs h.points n fits.points))))

  functions_small : (n : ℕ) (fs : List Function) → list_all has_small_types fs ≡ true → list_all declares_small_types (woven_functions q h n fs) ≡ true
  functions_small n [] x = refl
  functions_small n (f ∷ fs) x =
      both _ (list_all declares_small_types (woven_functions q h (suc n) fs)) (function_small n f (and_left (has_small_types f) (list_all has_small_types fs) x)) (functions_small (suc n) fs (and_right (has_small_types f) (list_all has_small_types fs) x))

-- each program that weaving gives is printable
pub woven_printable : (IsTheirs : ℕ → Type 0) → ((m : ℕ) → IsTheirs m → IsTrue (is_monitor m)) → (q : Core) (h : Hooks) → IsWellFormed q → IsNormal q → IsBare q → ReturnsRegistersAlone q → KeepsSizes q → FitsFor IsTheirs (2 ^ 30) q h → h.first ≡ 0 → IsPrintable (woven_core q h)
woven_printable IsTheirs monitors q h formed normal bare returns sizes fits first =
    record {
      well_formed = woven_formed IsTheirs monitors q h formed normal bare returns fits first;
      normal = normal_stays q h normal;
      bodies = bodies_small IsTheirs q h fits 0 q.functions normal sizes.bodies;
      struct_types = sizes.struct_types;
      global_types = both (have_small_types q.globals) (have_small_types h.globals) sizes.global_types (ghosts_small IsTheirs q h fits h.globals fits.globals);
      function_types = functions_small IsTheirs q h fits 0 q.functions sizes.function_types;
    }
