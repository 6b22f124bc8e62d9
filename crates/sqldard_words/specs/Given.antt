-- What an entry gives, or its refusal (01, Answers; 01, Numbers of refusal).
use Rattle.std.specs.Prelude.{◌≡◌, length, Result, Ok, Err}
use Rattle.outcome.specs.declared.Refusal.{Refusal}
use Rattle.outcome.specs.Refusal.{accepted, refusal_of}
use Rattle.plan.specs.declared.Sqldard.{Sqldard}
use Rattle.plan.specs.Description.{Description, refused_with}

-- it is as a description wants it: its status and its count of columns, or that refusal (01, Answers)
abbrev pub Gives : Result Sqldard Refusal → Description → Type 0
Gives (Ok given) wanted = (accepted ≡ wanted.refusal) × (given.card ≡ wanted.card) × (given.count ≡ length wanted.columns)
Gives (Err refusal) wanted = refused_with (refusal_of refusal) ≡ wanted
