-- The four lay in the reply before, and the fifth was found there, whatever their order.
use Rattle.std.proofs.Common.{ℕ, None, get_or, rules, sym, subst}
use Rattle.std.specs.Option.{ForSome}
use Rattle.candidates.specs.View.{TextInside}
use Rattle.candidates.proofs.Inside.{next_inside, five_inside}
use Rattle.candidates.proofs.View.shift.Goals as goal

pub invariant_of-self : goal.invariant_of-self
invariant_of-self c =
    let e = sym c.next-found.ensures.steps.1.0 in
    let within = subst (λ s. (k : ℕ) → ForSome (get_or c.args.self.now.texts k None) (TextInside s)) e c.args.self.now.within in
    let w1 = within 1 in
    let w2 = within 2 in
    let w3 = within 3 in
    let w4 = within 4 in
    let found = next_inside _ _ _ _ _ _ c.next-found.ensures.steps.1.1.0 e in
    record {
      within =
          five_inside _ _ _ _ _ _ (search (w1, w2, w3, w4, found)) (search (w1, w2, w3, w4, found)) (search (w1, w2, w3, w4, found))
          (search (w1, w2, w3, w4, found))
          (search (w1, w2, w3, w4, found));
      kept = c.next-found.ensures.steps.1.1.1;
    }
