-- The next name is in view, or after it.
use Rattle.std.proofs.Common.{◌≡◌, length}
use Rattle.candidates.specs.View.{reply_of, in_view}
use Rattle.listing.specs.Listing.{to_come, WithinListed}
use Rattle.listing.proofs.ListedIterator.next.Given as goal

abbrev pub invariant-loop-text : goal.invariant-loop-text
invariant-loop-text l = record {
  to_come : to_come l.self ≡ to_come l.fn.self;
  same_reply : reply_of l.self.view ≡ reply_of l.fn.self.view;
  within : WithinListed l.fn.self → WithinListed l.self;
}

abbrev pub decreases-loop-text : goal.decreases-loop-text
decreases-loop-text l = length (in_view l.self.view)
