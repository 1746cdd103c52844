-- A program with `int x; int a[10];`, where all elements of `a` are 0.
use Rattle.std.specs.Prelude.{ℤ, pos, [], ◌∷◌, None, replicate}
use Rattle.step_meaning.specs.declared.value.CType.{CType}
use Rattle.step_meaning.specs.declared.value.CType.TheVariants.{Int}
use Rattle.step_meaning.specs.declared.value.IntKind.TheVariants as kind
use Rattle.step_meaning.specs.declared.value.Value.TheVariants as value
use Rattle.step_meaning.specs.declared.value.Cell.TheVariants.{Holds}
use Rattle.step_meaning.specs.Memory.{Memory, Slot}
use Rattle.step_meaning.specs.Views.{Sight, no_memory}
use Rattle.truth_tests.specs.declared.view.SmallView.{SmallView}

abbrev pub int : CType
int = Int kind.Int

abbrev pub int_cell : ℤ → Slot
int_cell z = record { declared = int; cell = Holds (value.Int z) }

abbrev pub memory_of : ℤ → Memory
memory_of x = record { globals = (int_cell x ∷ []) ∷ replicate 10 (int_cell (pos 0)) ∷ []; frames = []; heap = [] }

abbrev pub sight_of : SmallView → Sight
sight_of v =
    record {
      layouts = v.layouts.items;
      memory = memory_of v.x;
      ghosts = no_memory;
      registers = [];
      before = memory_of v.x_at_enter;
      activation = 0;
      accessed = v.accessed;
      called = v.called;
      event = v.event;
      arguments = [];
      result = None;
    }
