use Rattle.std.proofs.Common.{◌≡◌, ◌+◌, ◌≤◌, ◌++◌, reverse, vec_len, vec_capacity}
use Rattle.chunked.proofs.edits.move_half.Given as goal

abbrev pub invariant-loop-moved : goal.invariant-loop-moved
invariant-loop-moved g l = record {
  both : l.chunk.items ++ reverse l.rest.items ≡ l.fn.chunk.items;
  left : vec_len l.chunk + l._moved ≡ 128;
  moved : vec_len l.rest ≡ l._moved;
  room : vec_capacity l.fn.chunk ≤ vec_capacity l.chunk;
  rest_room : vec_capacity l.fn.rest ≤ vec_capacity l.rest;
  enough : 64 ≤ vec_capacity l.rest;
}
