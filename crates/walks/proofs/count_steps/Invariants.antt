-- `count` steps are made, `named` of them count, and the next one may be made from `offset`.
use Rattle.std.proofs.Common.{ℕ, Bool, Option, ◌≤◌}
use Rattle.search.specs.Walks.{Walk}
use Rattle.search.proofs.Walks.{Walking}
use Rattle.walks.specs.declared.Made.{Made}
use Rattle.walks.specs.Steps.{Takes}
use Rattle.walks.proofs.count_steps.Given as goal

abbrev pub invariant-loop-count : goal.invariant-loop-count
invariant-loop-count g l = record {
  callable : (left : ℕ) → goal.F-pre g l.step left l.offset;
  few : (l.named ≤ l.count) × (l.count ≤ l.limit);
  walking : (walk : Walk Bool) → ((left offset : ℕ) (made : Option Made) → goal.F-post g l.step left offset made → Takes walk left offset made)
      → Walking walk (λ b. b) l.limit l.start l.count l.named l.offset;
}
