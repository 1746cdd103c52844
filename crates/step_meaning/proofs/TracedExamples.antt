-- The steps of a program are a traced list, and so is a list that no run makes. Lists that break a point of the definition aren't traced.
use Rattle.std.proofs.Common.{◌≡◌, ◌≢◌, ℕ, zero, suc, ◌+◌, ◌≤◌, Bool, true, false, map, List, [], ◌∷◌, Option, Some, None, refl, sym, ap, subst, ◌∙◌, arith, lit<}
use Rattle.std.specs.Prelude.{IsTrue, All, AllPairs, pos, option_map}
use Rattle.std.proofs.lemmas.List.Elements.{All-nil, All-cons, All-from_recursion}
use Rattle.std.proofs.lemmas.List.Kept.{AllPairs-cons}
use Rattle.step_meaning.specs.declared.value.NameKind.TheVariants as names
use Rattle.step_meaning.specs.declared.value.CType.{CType}
use Rattle.step_meaning.specs.declared.value.CType.TheVariants as type
use Rattle.step_meaning.specs.declared.value.Value.TheVariants as value
use Rattle.step_meaning.specs.declared.value.Cell.{Cell}
use Rattle.step_meaning.specs.declared.value.Cell.TheVariants.{Nothing, Holds}
use Rattle.step_meaning.specs.declared.value.Action.{Action}
use Rattle.step_meaning.specs.declared.value.Action.TheVariants as act
use Rattle.step_meaning.specs.declared.program.Core.{Core}
use Rattle.step_meaning.specs.declared.program.Function.{Function}
use Rattle.step_meaning.specs.Memory.{Memory, Frame, HeapBlock, frame_of, block}
use Rattle.step_meaning.specs.Steps.{Step, steps}
use Rattle.step_meaning.specs.Runs.{run}
use Rattle.step_meaning.specs.Limits.{is_enter}
use Rattle.step_meaning.specs.Traced.{is_return, PointsIntoProgram, SlotTyped, BlocksTyped, IsProgramMemory, NamesOwn, PointsOnlyIntoProgram, AccessesPointer, ActionHasTypes, contents, ParametersHold, IsStepOf, IsTraced, At}
use Rattle.step_meaning.specs.TracedRuns.{cells_declared, cells_of_each, HasVariables, EachHasVariables}
use Rattle.step_meaning.proofs.Examples.{empty_main, declared, function, program, int, lit, pointer_to, return}

abbrev pub open_frame : Frame
open_frame = record { activation = 0; locals = [] }

abbrev pub open_memory : Memory
open_memory = record { globals = []; frames = open_frame ∷ []; heap = [] }

-- no activation is open
abbrev closed_memory : Memory
closed_memory = record { globals = []; frames = []; heap = [] }

abbrev pub enter_in : Memory → Step
enter_in memory = record { action = act.Enter 4 []; function = 4; activation = 0; memory = memory }

abbrev pub leave_in : Memory → Step
leave_in memory = record { action = act.Return 4 (Some (value.Int (pos 0))); function = 4; activation = 0; memory = memory }

abbrev pub enter : Step
enter = enter_in open_memory

abbrev turn : Step
turn = record { action = act.Turn; function = 4; activation = 0; memory = open_memory }

abbrev main : Function
main = function int [] (return (lit 0) ∷ [])

empty_main_makes : steps (run empty_main [] 5) ≡ (enter ∷ leave_in open_memory ∷ [])
empty_main_makes = refl

same_some : {A : Type 0} (a b : A) → Some a ≡ Some b → a ≡ b
same_some a b e = ap (λ o. held o a) e
  where
    held : {A : Type 0} → Option A → A → A
    held None x = x
    held (Some y) x = y

none_is_not_some : {A : Type 0} (a : A) → None ≡ Some a → ⊥
none_is_not_some a e = cc

true_is_not_false : false ≡ true → ⊥
true_is_not_false e = cc

no_blocks : BlocksTyped []
no_blocks k d lt = absurd (omega arith)

open_fits : IsProgramMemory empty_main open_memory
open_fits = record { globals = refl; globals_typed = no_blocks; locals_typed = locals; heap_typed = λ k d lt. absurd (omega arith); one_frame_each = λ i j d lt lt'. absurd (omega arith); one_block_each = λ i j d lt lt'. absurd (omega arith) }
  where
    locals : All (λ f. BlocksTyped f.locals) (open_frame ∷ [])
    locals zero d lt = no_blocks
    locals (suc k) d lt = absurd (omega arith)

closed_fits : IsProgramMemory empty_main closed_memory
closed_fits = record { globals = refl; globals_typed = no_blocks; locals_typed = λ k d lt. absurd (omega arith); heap_typed = λ k d lt. absurd (omega arith); one_frame_each = λ i j d lt lt'. absurd (omega arith); one_block_each = λ i j d lt lt'. absurd (omega arith) }

module _ (first memory : Memory) (first_fits : IsProgramMemory empty_main first) (fits : IsProgramMemory empty_main memory) where
  abbrev enters : Step
  enters = enter_in first

  enter_fits : IsStepOf empty_main enters
  enter_fits = record { memory = first_fits; own_function = refl; pointers = λ k d lt. absurd (omega arith); accesses = tt; executed = (main, (refl, refl), tt); parameters_hold = λ i v e. absurd (none_is_not_some v e) }

  abbrev leave : Step
  leave = leave_in memory

  leave_fits : IsStepOf empty_main leave
  leave_fits = record { memory = fits; own_function = refl; pointers = tt; accesses = tt; executed = (main, (refl, refl), refl); parameters_hold = tt }

  -- what holds of both steps holds of each
  at_either : (P : ℕ → Step → Type 0) → P 0 enters → P 1 leave → (i : ℕ) (s : Step) → At (enters ∷ leave ∷ []) i s → P i s
  at_either P a b zero s e = subst (P 0) (same_some enters s e) a
  at_either P a b (suc zero) s e = subst (P 1) (same_some leave s e) b
  at_either P a b (suc (suc i)) s e = absurd (none_is_not_some s e)

  enter_and_leave : IsTraced empty_main (enters ∷ leave ∷ [])
  enter_and_leave = record {
    each = at_either (λ i s. IsStepOf empty_main s) enter_fits leave_fits;
    first = λ s e. at_either (λ i s. s.activation ≡ 0) refl refl 0 s e;
    main_alone = λ i s e. at_either (λ i s. ((s.activation ≡ 0) → (s.function ≡ 4)) × ((s.function ≡ 4) → (s.activation ≡ 0))) ((λ h. refl), (λ h. refl)) ((λ h. refl), (λ h. refl)) i s e;
    one_function = λ i j s t a b h. at_either (λ i s. s.function ≡ 4) refl refl i s a ∙ sym (at_either (λ j t. t.function ≡ 4) refl refl j t b);
    entered = λ i s e. (0, enters, omega arith, refl, sym (at_either (λ i s. s.activation ≡ 0) refl refl i s e), refl);
    enters_first = λ i j s t a b h. at_either (λ i s. IsTrue (is_enter s.action) → (i ≤ j) × (IsTrue (is_enter t.action) → i ≡ j))
        (λ e. (omega arith, λ f. at_either (λ j t. IsTrue (is_enter t.action) → 0 ≡ j) (λ f. refl) (λ f. absurd (true_is_not_false f)) j t b f))
        (λ e. absurd (true_is_not_false e)) i s a;
    returns_last = λ i j s t a b h. at_either (λ i s. IsTrue (is_return s.action) → j ≤ i)
        (λ e. absurd (true_is_not_false e)) (λ e. at_either (λ j t. j ≤ 1) (omega arith) (omega arith) j t b) i s a;
    main_ends = λ i s a h. at_either (λ i s. IsTrue (is_return s.action) → suc i ≡ 2) (λ e. absurd (true_is_not_false e)) (λ e. refl) i s a;
  }

pub empty_main_traced : IsTraced empty_main (enter ∷ leave_in open_memory ∷ [])
empty_main_traced = enter_and_leave open_memory open_memory open_fits open_fits

-- that a later step's memory has a frame for its activation isn't asked
closed_before_return : IsTraced empty_main (enter ∷ leave_in closed_memory ∷ [])
closed_before_return = enter_and_leave open_memory closed_memory open_fits closed_fits

-- a run has no such steps
not_of_a_run : EachHasVariables empty_main (enter ∷ leave_in closed_memory ∷ []) → ⊥
not_of_a_run has = let own = (has 1 (leave_in closed_memory) refl).own_frame in none_is_not_some own.1 own.3

-- where a function has no parameters, its Enter needs no frame either: no variable lives in a memory with an empty frame
closed_at_enter : IsTraced empty_main (enter_in closed_memory ∷ leave_in closed_memory ∷ [])
closed_at_enter = enter_and_leave closed_memory closed_memory closed_fits closed_fits

-- a step in a memory without the program's variable of file scope
no_variable : IsTraced (record empty_main { globals = declared int ∷ [] }) (enter ∷ []) → ⊥
no_variable traced = missing zero (traced.each 0 enter refl).memory.globals
  where
    missing : (n : ℕ) → n ≡ suc n → ⊥
    missing n e = omega arith

-- a turn of an activation that never entered
turn_alone : IsTraced empty_main (turn ∷ []) → ⊥
turn_alone traced = let found = traced.entered 0 turn refl in no_enter found.0 found.1 found.3 found.5
  where
    no_enter : (j : ℕ) (t : Step) → At (turn ∷ []) j t → IsTrue (is_enter t.action) → ⊥
    no_enter zero t e h = true_is_not_false (ap (λ s. is_enter s.action) (same_some turn t e) ∙ h)
    no_enter (suc j) t e h = none_is_not_some t e

-- ---- int ignore(int x) { return 0; } int main(void) { return 0; }

abbrev ignore : Function
ignore = record (function int (declared int ∷ []) (return (lit 0) ∷ [])) { params = 1 }

abbrev with_parameter : Core
with_parameter = program [] [] (ignore ∷ main ∷ []) 5

-- the frame of an activation of `ignore` with this cell in its parameter
abbrev frame_with : Cell → Frame
frame_with c = record { activation = 1; locals = (record { declared = int; cell = c } ∷ []) ∷ [] }

abbrev open_with : Cell → Memory
open_with c = record { globals = []; frames = frame_with c ∷ open_frame ∷ []; heap = [] }

abbrev seven : Cell
seven = Holds (value.Int (pos 7))

abbrev main_enters : Step
main_enters = record { action = act.Enter 5 []; function = 5; activation = 0; memory = open_memory }

abbrev ignore_enters : Memory → Step
ignore_enters memory = record { action = act.Enter 4 (value.Int (pos 7) ∷ []); function = 4; activation = 1; memory = memory }

abbrev two_enters : Memory → List Step
two_enters memory = main_enters ∷ ignore_enters memory ∷ []

-- the Enter of `main` and that of `ignore` with 7, whose memory holds it in the parameter
argument_held : IsTraced with_parameter (two_enters (open_with seven))
argument_held = record {
  each = at_both (λ i s. IsStepOf with_parameter s) main_fits ignore_fits;
  first = λ s e. at_both (λ i s. s.activation ≡ i) refl refl 0 s e;
  main_alone = λ i s e. at_both (λ i s. ((s.activation ≡ 0) → (s.function ≡ 5)) × ((s.function ≡ 5) → (s.activation ≡ 0))) ((λ h. refl), (λ h. refl)) ((λ h. absurd (omega arith)), (λ h. absurd (omega arith))) i s e;
  one_function = λ i j s t a b h. let m : s.function + s.activation ≡ 5 = at_both (λ i s. s.function + s.activation ≡ 5) refl refl i s a in let n : t.function + t.activation ≡ 5 = at_both (λ i s. s.function + s.activation ≡ 5) refl refl j t b in omega arith;
  entered = λ i s e. (i, s, omega arith, e, refl, at_both (λ i s. IsTrue (is_enter s.action)) refl refl i s e);
  enters_first = λ i j s t a b h e. let m : s.activation ≡ i = at_both (λ i s. s.activation ≡ i) refl refl i s a in let n : t.activation ≡ j = at_both (λ i s. s.activation ≡ i) refl refl j t b in (omega arith, λ f. omega arith);
  returns_last = λ i j s t a b h e. absurd (at_both (λ i s. IsTrue (is_return s.action) → ⊥) true_is_not_false true_is_not_false i s a e);
  main_ends = λ i s a h e. absurd (at_both (λ i s. IsTrue (is_return s.action) → ⊥) true_is_not_false true_is_not_false i s a e);
}
  where
    at_both : (P : ℕ → Step → Type 0) → P 0 main_enters → P 1 (ignore_enters (open_with seven)) → (i : ℕ) (s : Step) → At (two_enters (open_with seven)) i s → P i s
    at_both P a b zero s e = subst (P 0) (same_some main_enters s e) a
    at_both P a b (suc zero) s e = subst (P 1) (same_some (ignore_enters (open_with seven)) s e) b
    at_both P a b (suc (suc i)) s e = absurd (none_is_not_some s e)

    main_fits : IsStepOf with_parameter main_enters
    main_fits = record { memory = record { globals = refl; globals_typed = no_blocks; locals_typed = open_fits.locals_typed; heap_typed = open_fits.heap_typed; one_frame_each = open_fits.one_frame_each; one_block_each = open_fits.one_block_each }; own_function = refl; pointers = λ k d lt. absurd (omega arith); accesses = tt; executed = (main, (refl, refl), tt); parameters_hold = λ i v e. absurd (none_is_not_some v e) }

    typed : All (λ f. BlocksTyped f.locals) (frame_with seven ∷ open_frame ∷ [])
    typed = All-cons (λ f. BlocksTyped f.locals) (frame_with seven) (open_frame ∷ []) (All-cons (All SlotTyped) (record { declared = int; cell = seven } ∷ []) [] (All-from_recursion SlotTyped (record { declared = int; cell = seven } ∷ []) ((refl, tt), tt)) (All-nil (All SlotTyped))) open_fits.locals_typed

    apart : AllPairs (λ f g. f.activation ≢ g.activation) (frame_with seven ∷ open_frame ∷ [])
    apart = AllPairs-cons (λ f g. f.activation ≢ g.activation) (frame_with seven) (open_frame ∷ []) (All-cons (λ g. 1 ≢ g.activation) open_frame [] (omega arith) (All-nil (λ (g : Frame). 1 ≢ g.activation))) open_fits.one_frame_each

    held : ParametersHold (act.Enter 4 (value.Int (pos 7) ∷ [])) 1 (open_with seven)
    held zero v e = ap (λ v. Some (Holds v ∷ [])) (same_some (value.Int (pos 7)) v e)
    held (suc i) v e = absurd (none_is_not_some v e)

    ignore_fits : IsStepOf with_parameter (ignore_enters (open_with seven))
    ignore_fits = record { memory = record { globals = refl; globals_typed = no_blocks; locals_typed = typed; heap_typed = open_fits.heap_typed; one_frame_each = apart; one_block_each = open_fits.one_block_each }; own_function = refl; pointers = All-cons PointsIntoProgram (value.Int (pos 7)) [] tt (All-nil PointsIntoProgram); accesses = tt; executed = (ignore, (refl, refl), (refl, tt)); parameters_hold = held }

-- what is asked of the parameter of `ignore`
parameter_of : (memory : Memory) → IsTraced with_parameter (two_enters memory) → option_map contents (block memory (record { kind = names.Local; activation = 1; index = 0 })) ≡ Some (seven ∷ [])
parameter_of memory traced = (traced.each 1 (ignore_enters memory) refl).parameters_hold 0 (value.Int (pos 7)) refl

-- a memory without a frame for the new activation, whose function has a parameter
argument_without_frame : IsTraced with_parameter (two_enters open_memory) → ⊥
argument_without_frame traced = none_is_not_some (seven ∷ []) (parameter_of open_memory traced)

-- a parameter that holds nothing
argument_lost : IsTraced with_parameter (two_enters (open_with Nothing)) → ⊥
argument_lost traced = nothing_held (same_some (Nothing ∷ []) (seven ∷ []) (parameter_of (open_with Nothing) traced))
  where
    nothing_held : (Nothing ∷ []) ≡ (seven ∷ []) → ⊥
    nothing_held e = cc

-- ---- the variables of the own activation

-- the frame of `ignore` has its parameter
ignore_has : HasVariables with_parameter (ignore_enters (open_with seven))
ignore_has = record { globals = refl; own_frame = (ignore, frame_with seven, refl, refl, refl) }

-- what a run has besides, of the frame of this step of `ignore`
frame_cells : (memory : Memory) (r : Frame) → frame_of 1 memory.frames ≡ Some r → HasVariables with_parameter (ignore_enters memory) → map cells_declared r.locals ≡ ((int ∷ []) ∷ [])
frame_cells memory r e has =
    ap (map cells_declared) (ap (λ (f : Frame). f.locals) (same_some r has.own_frame.1 (sym e ∙ has.own_frame.3)))
    ∙ (has.own_frame.4 ∙ ap (λ (f : Function). cells_of_each [] f.locals) (sym (same_some ignore has.own_frame.0 has.own_frame.2)))

-- a frame without the parameter
parameter_missing : HasVariables with_parameter (ignore_enters (record { globals = []; frames = record { activation = 1; locals = [] } ∷ []; heap = [] })) → ⊥
parameter_missing has = no_cells (frame_cells (record { globals = []; frames = record { activation = 1; locals = [] } ∷ []; heap = [] }) (record { activation = 1; locals = [] }) refl has)
  where
    no_cells : [] ≡ ((int ∷ []) ∷ []) → ⊥
    no_cells e = cc

abbrev frame_of_pointer : Frame
frame_of_pointer = record { activation = 1; locals = (record { declared = pointer_to int; cell = Nothing } ∷ []) ∷ [] }

-- a parameter of another type
parameter_retyped : HasVariables with_parameter (ignore_enters (record { globals = []; frames = frame_of_pointer ∷ []; heap = [] })) → ⊥
parameter_retyped has = other_type (frame_cells (record { globals = []; frames = frame_of_pointer ∷ []; heap = [] }) frame_of_pointer refl has)
  where
    other_type : ((pointer_to int ∷ []) ∷ []) ≡ ((int ∷ []) ∷ []) → ⊥
    other_type e = true_is_not_false (ap first_is_int e)
      where
        first_is_int : List (List CType) → Bool
        first_is_int ((type.Int k ∷ ts) ∷ tss) = true
        first_is_int _ = false

-- ---- heap blocks in a memory: one a number, whose cells hold values of their types

abbrev block_with : Cell → HeapBlock
block_with c = record { number = 3; cells = record { declared = int; cell = c } ∷ [] }

one_number_twice : IsProgramMemory empty_main (record open_memory { heap = block_with seven ∷ block_with Nothing ∷ [] }) → ⊥
one_number_twice h = h.one_block_each 0 1 (block_with seven) (lit< tt) (lit< tt) refl

pointer_in_int : IsProgramMemory empty_main (record open_memory { heap = block_with (Holds value.Null) ∷ [] }) → ⊥
pointer_in_int h = (h.heap_typed 0 (block_with seven) (lit< tt) 0 (record { declared = int; cell = seven }) (lit< tt)).0

-- a `free` at an integer is none
freed_integer : IsStepOf empty_main (record { action = act.Free (value.Int (pos 0)); function = 4; activation = 0; memory = open_memory }) → ⊥
freed_integer h = h.accesses

-- and `malloc` gives no pointer to a register
register_allocated : IsStepOf empty_main (record { action = act.Malloc 1 (value.Pointer (record { kind = names.Register; activation = 0; index = 0 }) 0) 1; function = 4; activation = 0; memory = open_memory }) → ⊥
register_allocated h = true_is_not_false h.pointers

-- the pointer of a `free` is none to a ghost variable, and that of a `malloc` is a pointer
ghost_freed : IsStepOf empty_main (record { action = act.Free (value.Pointer (record { kind = names.GhostGlobal; activation = 0; index = 0 }) 0); function = 4; activation = 0; memory = open_memory }) → ⊥
ghost_freed h = true_is_not_false h.pointers

integer_allocated : IsStepOf empty_main (record { action = act.Malloc 1 (value.Int (pos 0)) 0; function = 4; activation = 0; memory = open_memory }) → ⊥
integer_allocated h = h.accesses

-- which block it is isn't asked: a `free` at a variable of file scope, and a `malloc` that gives the end of a block which isn't there
step_of_main : (a : Action) → PointsOnlyIntoProgram a → AccessesPointer a → NamesOwn a 4 → ActionHasTypes main a → ParametersHold a 0 open_memory → IsStepOf empty_main (record { action = a; function = 4; activation = 0; memory = open_memory })
step_of_main a points accesses own types held = record { memory = open_fits; own_function = own; pointers = points; accesses = accesses; executed = (main, (refl, refl), types); parameters_hold = held }

variable_freed : IsStepOf empty_main (record { action = act.Free (value.Pointer (record { kind = names.Global; activation = 0; index = 0 }) 0); function = 4; activation = 0; memory = open_memory })
variable_freed = step_of_main (act.Free (value.Pointer (record { kind = names.Global; activation = 0; index = 0 }) 0)) refl (lit< tt) tt tt tt

end_allocated : IsStepOf empty_main (record { action = act.Malloc 1 (value.Pointer (record { kind = names.Heap; activation = 7; index = 0 }) 5) 2; function = 4; activation = 0; memory = open_memory })
end_allocated = step_of_main (act.Malloc 1 (value.Pointer (record { kind = names.Heap; activation = 7; index = 0 }) 5) 2) refl (lit< tt) tt tt tt
