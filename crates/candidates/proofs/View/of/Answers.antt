-- Each of the five was found in the reply.
use Rattle.std.proofs.Common.{sym, ◌∙◌}
use Rattle.candidates.proofs.Inside.{next_inside, five_inside}
use Rattle.candidates.proofs.View.of.Goals as goal

pub invariant_of-result : goal.invariant_of-result
invariant_of-result c =
    let e = c.next-5.ensures.steps.1.0 in
    let d = e ∙ c.next-4.ensures.steps.1.0 in
    let f = d ∙ c.next-3.ensures.steps.1.0 in
    let g = f ∙ c.next-2.ensures.steps.1.0 in
    let h = g ∙ c.next.ensures.steps.1.0 in
    record {
      within =
          five_inside _ _ _ _ _ _ (next_inside _ _ _ _ _ _ c.next.ensures.steps.1.1.0 (sym h)) (next_inside _ _ _ _ _ _ c.next-2.ensures.steps.1.1.0 (sym g))
          (next_inside _ _ _ _ _ _ c.next-3.ensures.steps.1.1.0 (sym f))
          (next_inside _ _ _ _ _ _ c.next-4.ensures.steps.1.1.0 (sym d))
          (next_inside _ _ _ _ _ _ c.next-5.ensures.steps.1.1.0 (sym e));
      kept = c.next-5.ensures.steps.1.1.1;
    }
