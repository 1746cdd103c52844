-- The direction of a chain of relations, as code holds it.
use Rattle.acsl_grammar.specs.TermReading as reading
use Rattle.acsl_cursor.specs.declared.way.Way.{Way}
use Rattle.acsl_cursor.specs.declared.way.Way.TheVariants as way

abbrev pub meant : Way → reading.Way
meant way.Undecided = reading.Undecided
meant way.Ascending = reading.Ascending
meant way.Descending = reading.Descending
meant way.Ended = reading.Ended
