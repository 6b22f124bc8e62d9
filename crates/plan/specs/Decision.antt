-- What is decided before a list is written (demand 1: a refusal changes no lent list or buffer).
use Rattle.std.specs.Prelude.{◌≡◌, List, ℕ, ◌≤◌, length, Result, Ok, Err}
use Rattle.codepage.specs.Page.{page037}
use Rattle.outcome.specs.declared.Refusal.{Refusal}
use Rattle.outcome.specs.Refusal.{accepted, refusal_of}
use Rattle.types.specs.declared.ColumnMetadata.{ColumnMetadata}
use Rattle.planned.specs.Planned.{columns_of}
use Rattle.plan.specs.declared.decision.Decision.{Decision}
use Rattle.plan.specs.Description.{Description, refused_with}

-- the columns of its plan (01, Answers)
abbrev pub columns_decided : Decision → List ColumnMetadata
columns_decided decision = columns_of page037 decision.reply.now decision.plan

-- a decision carries a description out: that accepts, its status is the same, and its plan is of just those columns (01, Answers)
pub record CarriesOut (room : ℕ) (decision : Decision) (wanted : Description) : Type 0 where
  pub accepts : accepted ≡ wanted.refusal
  pub gives : decision.card ≡ wanted.card
  pub plans : columns_decided decision ≡ wanted.columns
  pub fits : length wanted.columns ≤ room

-- the description is what is decided: carried out, or refused with that number and those values (01, Answers; 01, Numbers of refusal)
abbrev pub Decides : ℕ → Result Decision Refusal → Description → Type 0
Decides room (Ok decision) wanted = CarriesOut room decision wanted
Decides room (Err refusal) wanted = refused_with (refusal_of refusal) ≡ wanted
