use Rattle.std.proofs.Common.{◌≡◌, ◌+◌, ◌≤◌, drop}
use Rattle.c_lexer.specs.Positions.{after}
use Rattle.c_lexer.proofs.position.Position.across.Given as goal

abbrev pub invariant-loop-byte : goal.invariant-loop-byte
invariant-loop-byte l = record {
  offset : l.position.offset ≤ l.fn.self.offset + l.byte-index;
  line : l.position.line ≤ l.fn.self.line + l.byte-index;
  column : l.position.column ≤ l.fn.self.column + l.byte-index + 1;
  rest : after l.position (drop l.byte-index l.bytes) ≡ after l.fn.self l.bytes;
}
