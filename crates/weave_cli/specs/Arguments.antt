-- The arguments that the system hands to the program, and the words after its name.
use Rattle.std.specs.Prelude.{List, [], drop, Result, Ok, Err}
use Rattle.std.specs.declared.alloc.Global.{Global}
use Rattle.std.specs.declared.io.Error.{Error}
use Rattle.std.specs.declared.string.String.{String}
use Rattle.std.specs.declared.vec.IntoIter.{IntoIter}
use Rattle.std.specs.Vec.Iter.{into_iter_items}

-- none where the system gives no arguments, or one of them is no UTF-8
abbrev pub words_after_name : Result (IntoIter (String Global) Global) Error → List (String Global)
words_after_name (Ok arguments) = drop 1 (into_iter_items arguments)
words_after_name (Err e) = []
