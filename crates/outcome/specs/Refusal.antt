-- Numbers of refusal (01), for every entry: promises of entries are stated through refusal_of.
use Rattle.std.specs.Prelude.{Bool, not, List, [], ◌∷◌, ℕ, ◌-◌, eqb, length, get_or, Result, Ok, Err}
use Rattle.outcome.specs.declared.Refusal.{Refusal}
use Rattle.outcome.specs.declared.Refusal.TheVariants.{EmptyReply, BufferTooShort, InvalidSqlcard, UnexpectedCodePoint, ReplyTooLong, RoomTooShort, OutsideReply, LargeObject}
use Rattle.outcome.specs.declared.RefusalNumbers.{RefusalNumbers}

-- where nothing is refused (01, Numbers of refusal)
abbrev pub accepted : List ℕ
accepted = 0 ∷ []

-- the number and then the values, in the order of 01, Numbers of refusal
abbrev pub refusal_of : Refusal → List ℕ
refusal_of EmptyReply = 1 ∷ []
refusal_of (BufferTooShort expected actual) = 2 ∷ expected ∷ actual ∷ []
refusal_of InvalidSqlcard = 3 ∷ []
refusal_of (UnexpectedCodePoint point) = 4 ∷ point ∷ []
refusal_of ReplyTooLong = 5 ∷ []
refusal_of (RoomTooShort needed) = 6 ∷ needed ∷ []
refusal_of OutsideReply = 7 ∷ []
refusal_of (LargeObject number) = 8 ∷ number ∷ []

-- the same of what an entry answers: 0 alone where it gives something (01, Numbers of refusal)
abbrev pub refusal_in : {A : Type 0} → Result A Refusal → List ℕ
refusal_in (Ok x) = accepted
refusal_in (Err refusal) = refusal_of refusal

-- such a list says that something is refused: its number is not 0 (01, Numbers of refusal)
abbrev pub is_refused : List ℕ → Bool
is_refused refusal = not (eqb (get_or refusal 0 0) 0)

-- a number, how many values it has, and two values (01, Numbers of refusal)
abbrev pub refusal_from : ℕ → ℕ → ℕ → ℕ → RefusalNumbers
refusal_from number count first second = record { number = number; count = count; first = first; second = second }

-- the same of such a list, 0 for a value that it does not have (01, Numbers of refusal)
abbrev pub in_numbers : List ℕ → RefusalNumbers
in_numbers l = refusal_from (get_or l 0 0) (length l - 1) (get_or l 1 0) (get_or l 2 0)
