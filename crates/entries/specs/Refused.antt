-- What stands beside a refusal where a struct has a field for it (DECISIONS, Forms 12).
use Rattle.sqlcard.specs.declared.Group.{Group}
use Rattle.sqlcard.specs.Card.{success_card}

-- the status for success, and no bytes (01, Answers; DECISIONS, Forms 12)
abbrev pub no_group : Group
no_group = record { card = success_card; length = 0 }
