use Rattle.std.proofs.Common.{◌≡◌, ◌+◌, ◌++◌, take, vec_len, vec_capacity}
use Rattle.gu_fix.proofs.encoding.extend_reserved.Given as goal

abbrev pub invariant-loop-byte : goal.invariant-loop-byte
invariant-loop-byte l = record {
  so_far : l.out.items ≡ l.fn.out.items ++ take l.byte-index l.bytes;
  longer : vec_len l.out ≡ vec_len l.fn.out + l.byte-index;
  room : vec_capacity l.out ≡ vec_capacity l.fn.out;
}
