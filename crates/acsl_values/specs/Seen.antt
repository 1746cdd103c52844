-- The meaning's values of terms that the code's values stand for, and the memory that a term reads.
use Rattle.std.specs.Prelude.{ℕ, pos, neg_ℤ, ◌*ℤ◌, Option, Some, option_map}
use Rattle.step_meaning.specs.declared.expr.IntOp.{IntOp}
use Rattle.step_meaning.specs.declared.value.Cell.{Cell}
use Rattle.step_meaning.specs.Views.{Sight, Reads, now, at_enter}
use Rattle.step_meaning.specs.Terms as meaning
use Rattle.acsl_values.specs.declared.values.TermValue.{TermValue}
use Rattle.acsl_values.specs.declared.values.TermValue.TheVariants.{Number, Null, Pointer}
use Rattle.acsl_values.specs.declared.values.Moment.{Moment}
use Rattle.acsl_values.specs.declared.values.Moment.TheVariants.{Now, Enter}

abbrev pub meant : TermValue → meaning.TermValue
meant (Number z) = meaning.Number z
meant Null = meaning.NullPointer
meant (Pointer n o) = meaning.PointerInto n o

abbrev pub meant_if_any : Option TermValue → Option meaning.TermValue
meant_if_any o = option_map meant o

-- what a read in the memory of the step, or in that of its activation's Enter step, reaches
abbrev pub reads_at : Sight → Moment → Reads
reads_at s Now = now s
reads_at s Enter = at_enter s

-- the value in a cell that a view answers
abbrev pub value_in : Cell → Option meaning.TermValue
value_in c = meaning.value_in_cell (Some c)

-- ---- what the operators of terms give, over the values of their operands

abbrev pub negation : Option meaning.TermValue → Option meaning.TermValue
negation v = meaning.with_number v (λ x. Some (meaning.Number (neg_ℤ x)))

abbrev pub operation_on : IntOp → Option meaning.TermValue → Option meaning.TermValue → Option meaning.TermValue
operation_on o v w = meaning.with_number v (λ x. meaning.with_number w (λ y. meaning.term_operation o x y))

abbrev pub move : Option meaning.TermValue → Option meaning.TermValue → ℕ → Option meaning.TermValue
move v w size = meaning.with_value v (λ x. meaning.with_number w (λ i. meaning.term_moved (i *ℤ pos size) x))

abbrev pub to_member : Option meaning.TermValue → ℕ → Option meaning.TermValue
to_member v o = meaning.with_value v (meaning.term_moved (pos o))
