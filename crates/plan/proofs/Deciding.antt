-- What the description is on each way out of decide.
use mathlib.Core.List.{List, [], ◌∷◌}
use mathlib.Core.Path.{◌≡◌, refl, ap, subst, ◌∙◌}
use Prim.Native.Nat.{ℕ, ◌≤◌, ◌<◌}
use lib.Dec.{leb}
use lib.ListN.{length}
use borrow.Author.Tests.{lt-ltb, le-ltb, le-leb, lt-leb, eq-eqb, ne_eqb}
use Rattle.std.specs.Prelude.{Result, Ok, Err}
use Rattle.search.specs.Search.{pick}
use Rattle.codepage.specs.Page.{Page, page037}
use Rattle.outcome.specs.declared.Refusal.{Refusal}
use Rattle.outcome.specs.Refusal.{accepted, refusal_of}
use Rattle.planned.specs.declared.Plan.{Plan}
use Rattle.plan.specs.Choice.{choice}
use Rattle.planned.specs.Planned.{columns_of}
use Rattle.plan.specs.Plan.{plan_of, reading_of, Counted}
use Rattle.plan.proofs.Statuses.{refused_is}
use Rattle.plan.proofs.Choices.{plan_reads}
use Rattle.plan.specs.Description.{refused_with, status_of, answer_by, description, with_code_point}
use Rattle.plan.specs.declared.decision.Decision.{Decision}
use Rattle.plan.specs.Decision.{columns_decided, CarriesOut, Decides}

module _ (page : Page) (room : ℕ) (s : List ℕ) where
  pub other_point : (point : ℕ) → (point ≡ 0x2411 → ⊥) → refused_with (4 ∷ point ∷ []) ≡ with_code_point page room point s
  unfolding with_code_point
  other_point point h = rw (ne_eqb _ _ h) refl

  pub own_point : (point : ℕ) → point ≡ 0x2411 → description page room s ≡ with_code_point page room point s
  unfolding with_code_point
  own_point point h = rw (eq-eqb _ _ h) refl

  pub too_long : 65536 < length s → refused_with (5 ∷ []) ≡ description page room s
  unfolding description
  too_long h = rw (lt-ltb _ _ h) refl

  module _ (h : length s ≤ 65536) where
    by_plan : (r : Result Plan Refusal) → r ≡ plan_of page s → answer_by page room s (reading_of page s r) ≡ description page room s
    unfolding description
    by_plan r e =
        let u : reading_of page s r ≡ choice page s = ap (reading_of page s) e ∙ plan_reads page s in
        rw (le-ltb _ _ h, ← u) refl

    pub not_read : (refusal : Refusal) → Err refusal ≡ plan_of page s → refused_with (refusal_of refusal) ≡ description page room s
    unfolding answer_by reading_of
    not_read refusal e = rw (refused_is refusal) refl ∙ by_plan (Err refusal) e

    module _ (p : Plan) (e : Ok p ≡ plan_of page s) (c : Counted page s p) where
      by_room : pick (leb (length (columns_of page s p)) room)
          (record { refusal = accepted; card = status_of page s p.alone; columns = columns_of page s p })
          (refused_with (6 ∷ length (columns_of page s p) ∷ []))
          ≡ description page room s
      unfolding answer_by reading_of
      by_room = by_plan (Ok p) e

      pub too_short : room < p.run.count → refused_with (6 ∷ p.run.count ∷ []) ≡ description page room s
      too_short k =
          let l = lt-leb (length (columns_of page s p)) room (rw c.count at k) in
          rw c.count (rw l refl ∙ by_room)

-- a decision is of the plan of its reply, and of that plan's status
pub in_room : (room : ℕ) (d : Decision) → length d.reply.now ≤ 65536 → Ok d.plan ≡ plan_of page037 d.reply.now → Counted page037 d.reply.now d.plan
    → d.plan.run.count ≤ room → d.card ≡ status_of page037 d.reply.now d.plan.alone → CarriesOut room d (description page037 room d.reply.now)
in_room room d h e c k g =
    let l = le-leb (length (columns_decided d)) room (rw c.count at k) in
    let full : CarriesOut room d (record { refusal = accepted; card = status_of page037 d.reply.now d.plan.alone; columns = columns_decided d }) =
    record { accepts = refl; gives = g; plans = refl; fits = rw (← c.count) k } in
    subst (CarriesOut room d) (rw l refl ∙ by_room page037 room d.reply.now h d.plan e c) full

-- with a code point: the same decision under SQLDARD's, else the refusal that names it
pub decides_own : (page : Page) (room : ℕ) (s : List ℕ) (point : ℕ) (d : Result Decision Refusal) → Decides room d (description page room s)
    → point ≡ 0x2411 → Decides room d (with_code_point page room point s)
decides_own page room s point d t h = subst (Decides room d) (own_point page room s point h) t
