-- The view is one of the reply, and what each rule has counted and has still to list is all that it lists.
use Rattle.std.proofs.Common.{◌≡◌, length}
use Rattle.candidates.specs.View.{reply_of, in_view}
use Rattle.listing.specs.declared.Rule.TheVariants.{Returning, BeforeFirst}
use Rattle.listing.proofs.Lists.{Counting}
use Rattle.listing.proofs.count_names.Given as goal

abbrev pub invariant-loop-text : goal.invariant-loop-text
invariant-loop-text l = record {
  same_reply : reply_of l.view ≡ l.reply;
  returning : Counting l.reply Returning l.view l.of_returning l.returning;
  before_first : Counting l.reply BeforeFirst l.view l.of_before l.before_first;
}

abbrev pub decreases-loop-text : goal.decreases-loop-text
decreases-loop-text l = length (in_view l.view)
