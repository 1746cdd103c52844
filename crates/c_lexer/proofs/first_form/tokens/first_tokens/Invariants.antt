use Rattle.std.proofs.Common.{◌≤◌, ◌<◌, ◌-◌, ◌^◌, length}
use Rattle.c_lexer.proofs.PositionLemmas.{IsBounded}
use Rattle.c_lexer.proofs.FirstForm.FoundLemmas.{Found}
use Rattle.c_lexer.proofs.first_form.tokens.first_tokens.Given as goal

abbrev pub invariant-loop-tokens : goal.invariant-loop-tokens
invariant-loop-tokens l = record {
  within : l.position.offset ≤ length l.text;
  bounded : IsBounded l.position;
  found : Found l.text l.position l.tokens.items;
  short : length l.text < 2 ^ 32;
}

abbrev pub decreases-loop-tokens : goal.decreases-loop-tokens
decreases-loop-tokens l = length l.text - l.position.offset
