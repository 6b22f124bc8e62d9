-- Document 01's lettered cases by computation, a step for each letter.
use mathlib.Core.Path.{◌≡◌, refl}
use mathlib.Core.List.{[], ◌∷◌}
use Rattle.codepage.specs.Page.{page037}
use Rattle.plan.specs.Description.{refused_with, description, with_code_point}
use Rattle.cases.specs.Replies.{reply_a}
use Rattle.cases.specs.Collection.{EveryCase}
use Rattle.cases.proofs.Compute.{everything}

pub every_case_holds : EveryCase
unfolding everything
every_case_holds = record { letters = refl; holds = (refl, (refl, (refl, (refl, (refl, (refl, (refl, (refl, (refl, (refl, (refl, (refl, tt)))))))))))) }

-- A with no record lent: 6, 1 needed; and under another code point: 4 with it
pub a_no_room : description page037 0 reply_a ≡ refused_with (6 ∷ 1 ∷ [])
unfolding everything
a_no_room = refl

pub a_other_point : with_code_point page037 1 0x2408 reply_a ≡ refused_with (4 ∷ 0x2408 ∷ [])
unfolding everything
a_other_point = refl
