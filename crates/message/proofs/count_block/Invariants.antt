-- Each count and what is left to count are that of the whole block. Counts of at most 128 bytes fit 8 bits.
use Rattle.std.proofs.Common.{◌≡◌, ◌≤◌, ◌+◌, drop}
use Rattle.search.specs.Search.{count}
use Rattle.message.specs.Message.{is_printable, others}
use Rattle.message.proofs.count_block.Given as goal

abbrev pub invariant-loop-byte : goal.invariant-loop-byte
invariant-loop-byte l = record {
  few_printables : l.printables ≤ l.byte-index;
  few_others : l.others ≤ l.byte-index;
  printables : l.printables + count is_printable (drop l.byte-index l.block) ≡ count is_printable l.block;
  rest : l.others + others (drop l.byte-index l.block) ≡ others l.block;
}
