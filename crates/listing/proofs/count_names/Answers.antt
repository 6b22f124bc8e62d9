-- One candidate more is counted by each rule where it is listed; the view goes one on. Where none is in view, all are counted.
use Rattle.std.proofs.Common.{rules, sym}
use Rattle.listing.proofs.Lists.{counting_more, counting_done}
use Rattle.listing.proofs.count_names.Goals as goal

pub loop-text-preserved : goal.loop-text-preserved
loop-text-preserved c =
    let i = c.loop-text.invariant in
    record {
      same_reply = search rules;
      returning =
          counting_more _ _ _ _ _ _ _ _ _ _ _ _ i.returning i.same_reply (sym c.in-Some.ensures) c.step.ensures.lists c.step.ensures.goes_on
          c.from-returning.ensures
          c.shift.ensures.in_view;
      before_first =
          counting_more _ _ _ _ _ _ _ _ _ _ _ _ i.before_first i.same_reply (sym c.in-Some.ensures) c.step-in-Some.ensures.lists
          c.step-in-Some.ensures.goes_on
          c.from-before_first.ensures
          c.shift.ensures.in_view;
    }

pub returns-clause-returning : goal.returns-clause-returning
returns-clause-returning c = counting_done _ _ c.loop-text.view _ _ c.loop-text.invariant.returning (search rules)

pub returns-clause-before_first : goal.returns-clause-before_first
returns-clause-before_first c = counting_done _ _ c.loop-text.view _ _ c.loop-text.invariant.before_first (search rules)
