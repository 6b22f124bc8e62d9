-- A refusal wants no columns.
use Rattle.std.proofs.Common.{ap}
use mathlib.Core.List.{flat_map}
use Rattle.search.specs.Search.{over}
use Rattle.column_words.specs.Words.{all_words}
use Rattle.plan.specs.Description.{Description}
use Rattle.sqldard_words.proofs.written.Goals as goal

pub returns-in_err-decision-clause-fills : goal.returns-in_err-decision-clause-fills
unfolding flat_map
returns-in_err-decision-clause-fills c =
    λ wanted t. ap (λ (w : Description). over (all_words w.columns) c.args.words.now) (rw c.in_err-decision.was at t)
