use Rattle.std.proofs.Common.{◌≡◌, take}
use Rattle.c_lexer.specs.Numbers.{value_of}
use Rattle.c_lexer.proofs.number.value_of.Given as goal

abbrev pub invariant-loop-digit : goal.invariant-loop-digit
invariant-loop-digit l = l.value ≡ value_of l.base (take l.digit-index l.digits)
