-- A step that cannot be made, one more, and `limit` of them.
use Rattle.std.proofs.Common.{◌≡◌, ◌≤◌, ◌+◌, ◌∙◌, Bool, true, false, Some, None, refl, sym, ap, arith}
use Rattle.search.specs.Search.{pick}
use Rattle.search.proofs.Walks.{walking_more, walking_stop, walking_done}
use Rattle.walks.proofs.count_steps.Goals as goal

one_if : (b : Bool) → (mir.Val.bool_byte b ≡ pick b 1 0) × (mir.Val.bool_byte b ≤ 1)
one_if true = (refl, omega arith)
one_if false = (refl, omega arith)

pub returns-in_default-clause-counts : goal.returns-in_default-clause-counts
returns-in_default-clause-counts g c walk h =
    walking_stop walk (λ b. b) _ _ _ _ _ (c.loop-count.invariant.walking walk h) _ c.loop-count-test.true refl (h _ _ None c.in_default.ensures)

pub loop-count-preserved : goal.loop-count-preserved
loop-count-preserved g c =
    let counts = one_if c.in-Some.made.named in
    record {
      callable = λ left. c.requires.further _ _ left _ c.in-Some.ensures;
      few = (omega (arith, c.loop-count.invariant.few, c.from-named.ensures, counts), omega arith);
      walking = λ walk h.
          let taken = h _ _ (Some c.in-Some.made) c.in-Some.ensures in
          walking_more walk (λ b. b) _ _ _ _ _ (c.loop-count.invariant.walking walk h) _ _ c.in-Some.made.named c.loop-count-test.true
          taken.0 taken.1 (taken.2 _) (ap (λ x. c.loop-count.named + x) (c.from-named.ensures ∙ counts.0));
    }

pub returns-clause-counts : goal.returns-clause-counts
returns-clause-counts g c walk h =
    let n : c.loop-count.count ≡ c.args.limit = omega (arith, c.loop-count-test.false, c.loop-count.auto.count-end) in
    let done = walking_done walk (λ b. b) _ _ _ _ _ (c.loop-count.invariant.walking walk h) c.loop-count-test.false in
    (sym n ∙ done.0, done.1)
