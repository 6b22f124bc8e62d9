-- Each count and what is left to count are that of all bytes.
use Rattle.std.proofs.Common.{◌≡◌, ◌+◌}
use Rattle.std.specs.Slice.Iter.{chunks_rest, chunks_size}
use Rattle.search.specs.Search.{count}
use Rattle.message.specs.Message.{is_printable, others}
use Rattle.message.proofs.is_ascii_message.Given as goal

abbrev pub invariant-loop-block : goal.invariant-loop-block
invariant-loop-block l = record {
  size : chunks_size l.block-iterator ≡ 128;
  printables : l.printables + count is_printable (chunks_rest l.block-iterator) ≡ count is_printable l.bytes;
  rest : l.others + others (chunks_rest l.block-iterator) ≡ others l.bytes;
}
