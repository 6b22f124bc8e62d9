-- None of those passed over is a candidate that is kept.
use Rattle.std.proofs.Common.{◌≡◌}
use Rattle.candidates.specs.Candidates.{candidates_from}
use Rattle.candidates.specs.View.{left, next_candidate}
use Rattle.candidates.proofs.CandidatesIterator.next.Given as goal

abbrev pub invariant-loop-offset : goal.invariant-loop-offset
invariant-loop-offset l = record {
  same_reply : l.self.reply.now ≡ l.reply;
  next : next_candidate l.fn.self.reply.now l.fn.self.last l.fn.self.next ≡ next_candidate l.reply l.self.last l.offset;
  left : left l.fn.self ≡ candidates_from l.reply l.self.last l.offset;
}
