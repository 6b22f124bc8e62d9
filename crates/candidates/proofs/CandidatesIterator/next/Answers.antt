-- The one that is found is the next candidate.
use Rattle.std.proofs.Common.{Some, ◌∷◌, ◌+◌, sym, ap, ◌∙◌, arith}
use Rattle.candidates.specs.Candidates.{candidates_from}
use Rattle.candidates.proofs.Steps.{one_kept, next_one_kept}
use Rattle.candidates.proofs.CandidatesIterator.next.Goals as goal

pub returns-in-Some-clause-steps : goal.returns-in-Some-clause-steps
returns-in-Some-clause-steps c =
    let l = c.loop-offset in
    let i = l.invariant in
    let s = c.args.self.now.reply.now in
    let t = c.in-Some.text in
    let e = sym c.kept_at.ensures ∙ c.in-Some.is in
    let g = ap (λ r. t ∷ candidates_from r (Some t) (l.offset + 1)) (sym i.same_reply) in (
      i.left ∙ one_kept s l.self.last l.offset t (omega arith) e ∙ g,
      (i.same_reply, (i.next ∙ next_one_kept s l.self.last l.offset t (omega arith) e, λ x h. h)),
    )
