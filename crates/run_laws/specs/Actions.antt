-- Steps that ask nothing of the outside and pass no limit.
use Rattle.std.specs.Prelude.{Option, Some, None}
use Rattle.step_meaning.specs.declared.value.Action.{Action}
use Rattle.step_meaning.specs.declared.value.Action.TheVariants as act
use Rattle.run_turns.specs.Pending as pending

-- no `getchar` or `putchar`, no start of an activation, and no `malloc`
abbrev pub IsPlain : Action → Type 0
IsPlain act.Input = ⊥
IsPlain (act.Output b) = ⊥
IsPlain (act.Enter g vs) = ⊥
IsPlain (act.Malloc n p k) = ⊥
IsPlain a = Unit {0}

abbrev pub IsPlainStep : Option Action → Type 0
IsPlainStep None = Unit {0}
IsPlainStep (Some a) = IsPlain a

-- a part whose turn makes a plain step or none
abbrev pub IsPlainPart : pending.Pending → Type 0
IsPlainPart (pending.Operate (pending.Allocate t)) = ⊥
IsPlainPart pending.Output = ⊥
IsPlainPart p = Unit {0}
