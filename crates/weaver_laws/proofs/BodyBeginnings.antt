-- What begins the body of a source and of its woven function, and frames of activations that are open.
use Rattle.std.specs.List.{AllByRecursion}
use Rattle.std.proofs.Common.{◌≡◌, ℕ, suc, ◌<◌, Bool, true, false, cond, ◌==◌, List, [], ◌∷◌, ◌++◌, map, Some, None, refl, ap, ◌∙◌, arith}
use Rattle.std.proofs.lemmas.Bool.{eqb-true}
use Rattle.step_meaning.specs.declared.stmt.Stmt.{Stmt}
use Rattle.step_meaning.specs.declared.stmt.Stmt.TheVariants.{Ghost, Assert, Eval}
use Rattle.step_meaning.specs.declared.stmt.Stmt.TheVariants as st
use Rattle.step_meaning.specs.declared.program.Layout.{Layout}
use Rattle.step_meaning.specs.declared.value.CType.{CType}
use Rattle.step_meaning.specs.declared.value.Cell.TheVariants.{Nothing}
use Rattle.step_meaning.specs.declared.program.Declared.{Declared}
use Rattle.step_meaning.specs.Memory.{Frame, frame_of, Slot, empty_block}
use Rattle.step_meaning.specs.Calls.{annotations, after_annotations}
use Rattle.step_meaning.specs.Types.{object_cells}
use Rattle.weaver_laws.specs.Weaving.{Substitution, substitute_predicate, substitute_ghost, substitute_code}
use Rattle.weaver_laws.proofs.InsideMemories.{BlockInside}
use Rattle.weaver_laws.proofs.ActivationSteps.{numbers}
use Rattle.weaver_laws.proofs.ScalarAccesses.{scalars_in_all}
use Rattle.weaver_laws.proofs.Basics.{no_true}

-- ---- the annotations that begin a body

pub source_begins : (xs : List Stmt) → scalars_in_all xs ≡ true → annotations xs ≡ []
source_begins [] c = refl
source_begins (st.Ghost q ∷ xs) c = no_true c
source_begins (st.Assert k n q ∷ xs) c = no_true c
source_begins (_ ∷ xs) c = refl

pub source_goes_on : (xs : List Stmt) → scalars_in_all xs ≡ true → after_annotations xs ≡ xs
source_goes_on [] c = refl
source_goes_on (st.Ghost q ∷ xs) c = no_true c
source_goes_on (st.Assert k n q ∷ xs) c = no_true c
source_goes_on (_ ∷ xs) c = refl

pub woven_begins : (substitution : Substitution) (c xs : List Stmt) → annotations (substitute_code substitution c ++ (st.Empty ∷ xs)) ≡ substitute_code substitution c
woven_begins substitution [] xs = refl
woven_begins substitution (st.Ghost q ∷ c) xs = ap (λ l. st.Ghost (substitute_ghost substitution q) ∷ l) (woven_begins substitution c xs)
woven_begins substitution (st.Assert k n q ∷ c) xs = ap (λ l. st.Assert k n (substitute_predicate substitution q) ∷ l) (woven_begins substitution c xs)
woven_begins substitution (st.Empty ∷ c) xs = woven_begins substitution c xs
woven_begins substitution (st.Eval e ∷ c) xs = woven_begins substitution c xs
woven_begins substitution (st.Init a b e f ∷ c) xs = woven_begins substitution c xs
woven_begins substitution (st.Block' b e ∷ c) xs = woven_begins substitution c xs
woven_begins substitution (st.If' b e f i k ∷ c) xs = woven_begins substitution c xs
woven_begins substitution (st.While' b e f ∷ c) xs = woven_begins substitution c xs
woven_begins substitution (st.Do' b e f ∷ c) xs = woven_begins substitution c xs
woven_begins substitution (st.For' b e f i ∷ c) xs = woven_begins substitution c xs
woven_begins substitution (st.Break ∷ c) xs = woven_begins substitution c xs
woven_begins substitution (st.Continue ∷ c) xs = woven_begins substitution c xs
woven_begins substitution (st.Return e ∷ c) xs = woven_begins substitution c xs

pub woven_goes_on : (substitution : Substitution) (c xs : List Stmt) → after_annotations (substitute_code substitution c ++ (st.Empty ∷ xs)) ≡ st.Empty ∷ xs
woven_goes_on substitution [] xs = refl
woven_goes_on substitution (st.Ghost q ∷ c) xs = woven_goes_on substitution c xs
woven_goes_on substitution (st.Assert k n q ∷ c) xs = woven_goes_on substitution c xs
woven_goes_on substitution (st.Empty ∷ c) xs = woven_goes_on substitution c xs
woven_goes_on substitution (st.Eval e ∷ c) xs = woven_goes_on substitution c xs
woven_goes_on substitution (st.Init a b e f ∷ c) xs = woven_goes_on substitution c xs
woven_goes_on substitution (st.Block' b e ∷ c) xs = woven_goes_on substitution c xs
woven_goes_on substitution (st.If' b e f i k ∷ c) xs = woven_goes_on substitution c xs
woven_goes_on substitution (st.While' b e f ∷ c) xs = woven_goes_on substitution c xs
woven_goes_on substitution (st.Do' b e f ∷ c) xs = woven_goes_on substitution c xs
woven_goes_on substitution (st.For' b e f i ∷ c) xs = woven_goes_on substitution c xs
woven_goes_on substitution (st.Break ∷ c) xs = woven_goes_on substitution c xs
woven_goes_on substitution (st.Continue ∷ c) xs = woven_goes_on substitution c xs
woven_goes_on substitution (st.Return e ∷ c) xs = woven_goes_on substitution c xs

-- ---- frames

pub apart_of : (a : ℕ) (fs : List Frame) → AllByRecursion (λ n. n < a) (numbers fs) → frame_of a fs ≡ None
apart_of a [] b = refl
apart_of a (f ∷ fs) b = ap (λ c. cond c (Some f) (frame_of a fs)) (less_than f.activation b.0) ∙ apart_of a fs b.1
  where
    less_than : (n : ℕ) → n < a → (n == a) ≡ false
    less_than n l = by (n == a) refl
      where
        by : (c : Bool) → (n == a) ≡ c → (n == a) ≡ false
        by true e = let k : n ≡ a = eqb-true n a e in absurd (omega arith)
        by false e = e

pub wider : (a : ℕ) (ns : List ℕ) → AllByRecursion (λ n. n < a) ns → AllByRecursion (λ n. n < suc a) ns
wider a [] b = tt
wider a (n ∷ ns) b = (let l : n < a = b.0 in omega arith, wider a ns b.1)

pub empty_inside : (layouts : List Layout) (ds : List Declared) → AllByRecursion BlockInside (map (empty_block layouts) ds)
empty_inside layouts [] = tt
empty_inside layouts (d ∷ ds) = (cells (object_cells layouts d.ctype), empty_inside layouts ds)
  where
    cells : (us : List CType) → BlockInside (map (λ (u : CType). let s : Slot = record { declared = u; cell = Nothing } in s) us)
    cells [] = tt
    cells (u ∷ us) = (tt, cells us)
