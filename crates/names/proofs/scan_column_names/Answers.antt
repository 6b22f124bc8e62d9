-- All names come from the plan.
use Rattle.filling.proofs.Filling.{filled_left}
use Rattle.names.specs.Decision.{names_of_plan}
use Rattle.names.proofs.scan_column_names.Goals as goal

pub returns-clause-fills : goal.returns-clause-fills
returns-clause-fills c = filled_left names_of_plan (λ all. all) _ _ _ _ c.fill.ensures c.in_ok-plan.ensures.plans.0.gives
