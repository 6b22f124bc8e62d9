-- One more item is stored, and the iterator has one less to give.
use Rattle.std.proofs.Common.{◌∷◌, [], refl, arith}
use Rattle.filling.proofs.Filling.{filling_next}
use Rattle.search.proofs.Writing.{writing_next}
use Rattle.filling.proofs.fill.Goals as goal

pub loop-i-preserved : goal.loop-i-preserved
loop-i-preserved g c =
    let t = c.in-Some.ensures.steps in
    let inv = c.loop-i.invariant in
    let on = c.in-Some.ensures.goes.on inv.ends in
    record {
      can = on.0.0;
      ends = on.1;
      fits = omega (arith, inv.fits, on.2, t.1, t.2);
      filling =
          rw (t.1, t.2)
          (filling_next g.I.Iterator.next_gives (λ all. all) c.in-Some.item _ (c.in-Some.item ∷ []) _ 1 (λ xs. refl) refl
          (λ w. writing_next c.in-Some.item (omega (arith, inv.fits, on.2, inv.filling.writing.as_long))) t.0 inv.filling);
    }
