-- Each turn stores the next item behind those that came before.
use Rattle.std.proofs.Common.{length, ◌+◌, ◌≤◌}
use Rattle.std.specs.Iterator.{IsFinite, size}
use Rattle.std.specs.Iterator.Adapters.{enumerate_source, enumerate_count}
use Rattle.filling.proofs.Filling.{Filling}
use Rattle.filling.proofs.fill.Given as goal

abbrev pub invariant-loop-i : goal.invariant-loop-i
invariant-loop-i g l =
    let source = enumerate_source l.i-iterator in
    let i = enumerate_count l.i-iterator in
    let left = g.I.Iterator.remaining source in
    record {
      can : g.I.Iterator.can_next source;
      ends : IsFinite left;
      fits : i + size left ≤ length l.fn.list;
      filling : Filling g.I.Iterator.next_gives (λ all. all) l.fn.items source l.fn.list l.list i;
    }
