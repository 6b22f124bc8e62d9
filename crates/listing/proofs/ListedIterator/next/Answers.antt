-- Behind each candidate the names go on in the same reply, and what the rule knows lies in it.
use Rattle.std.proofs.Common.{rules, sym, ◌∙◌}
use Rattle.listing.proofs.Lists.{in_view_some, listed_yes, listed_no, inside_after}
use Rattle.listing.proofs.ListedIterator.next.Goals as goal

pub returns-then-is_listed-clause-steps : goal.returns-then-is_listed-clause-steps
returns-then-is_listed-clause-steps c =
    let i = c.loop-text.invariant in (
      search (rules, in_view_some, listed_yes),
      (
        c.shift.ensures.same_reply ∙ i.same_reply,
        λ w. inside_after c.loop-text.self.view _ _ _ _ _ (i.within w) (sym c.in-Some.ensures) c.step-is_listed.ensures.goes_on c.shift.ensures.same_reply,
      ),
    )

pub loop-text-preserved : goal.loop-text-preserved
loop-text-preserved c =
    let i = c.loop-text.invariant in
    record {
      to_come = search (rules, in_view_some, listed_no);
      same_reply = c.shift.ensures.same_reply ∙ i.same_reply;
      within = λ w. inside_after c.loop-text.self.view _ _ _ _ _ (i.within w) (sym c.in-Some.ensures) c.step-is_listed.ensures.goes_on c.shift.ensures.same_reply;
    }
