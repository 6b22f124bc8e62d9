-- What is counted and what is left to count are that of the whole block.
use Rattle.std.proofs.Common.{◌≡◌, ◌≤◌, ◌+◌, ℕ, Bool, drop}
use Rattle.search.specs.Search.{count}
use Rattle.message.proofs.count_in.Given as goal

abbrev pub invariant-loop-byte : goal.invariant-loop-byte
invariant-loop-byte g l = record {
  few : l.passed ≤ l.byte-index;
  counted : (p : ℕ → Bool) → ((byte : ℕ) (passed : Bool) → g.F.Fn.post l.test (byte, tt) passed → passed ≡ p byte)
      → l.passed + count p (drop l.byte-index l.block) ≡ count p l.block;
}
