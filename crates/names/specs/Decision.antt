-- What is decided before a list is written (demand 1: a refusal changes no lent list or buffer).
use Rattle.std.specs.Prelude.{List, ◌≡◌, length, take}
use Rattle.text.specs.declared.Text.{Text}
use Rattle.listing.specs.Listing.{to_come}
use Rattle.name_run.specs.Run.{names_left}
use Rattle.names.specs.declared.Source.{Source}
use Rattle.names.specs.declared.Source.TheVariants.{Candidates, Layouts}
use Rattle.names.specs.declared.Plan.{Plan}

-- the names that a source has still to give: those that a rule lists, or those of a run (01, Name scan)
abbrev pub names_of : Source → List Text
names_of (Candidates names) = to_come names
names_of (Layouts names) = names_left names

-- the names that a plan has still to give: so many of its source (01, Name scan)
abbrev pub names_of_plan : Plan → List Text
names_of_plan plan = take plan.count (names_of plan.source)

-- a plan is of just these names, and says how many they are (01, Name scan)
pub record IsPlanOf (plan : Plan) (names : List Text) : Type 0 where
  pub gives : names_of_plan plan ≡ names
  pub counts : plan.count ≡ length names
