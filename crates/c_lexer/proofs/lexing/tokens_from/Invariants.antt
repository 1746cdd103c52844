use Rattle.std.proofs.Common.{◌≤◌, ◌<◌, ◌-◌, ◌^◌, length}
use Rattle.c_lexer.proofs.PositionLemmas.{IsBounded}
use Rattle.c_lexer.proofs.LexedLemmas.{Completes}
use Rattle.c_lexer.proofs.lexing.tokens_from.Given as goal

abbrev pub invariant-loop-tokens : goal.invariant-loop-tokens
invariant-loop-tokens l = record {
  within : l.position.offset ≤ length l.text;
  bounded : IsBounded l.position;
  found : Completes l.profile l.text l.fn.from l.position l.leads l.tokens.items;
  short : length l.text < 2 ^ 32;
}

abbrev pub decreases-loop-tokens : goal.decreases-loop-tokens
decreases-loop-tokens l = length l.text - l.position.offset
