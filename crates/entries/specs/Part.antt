-- Where a name's own bytes lie in the reply (01, Answers: name part).
use Rattle.std.specs.Prelude.{List, ℕ, eqb}
use Rattle.search.specs.Search.{pick}
use Rattle.text.specs.declared.Text.{Text}
use Rattle.column_name.specs.Part.{part_of}

-- how many bytes the part has: none where it is generated (01, Answers: name part), and where it is refused (DECISIONS, Forms 12)
unfoldable pub part_length : List ℕ → Text → ℕ
part_length s t = lib.ListN.length (part_of s t)

-- where it starts: at the text's place, or at 0 where it has no bytes (as 01, Answers, has an empty text: 0, 0; where it is refused, DECISIONS, Forms 12)
unfoldable pub part_place : List ℕ → Text → ℕ
part_place s t = pick (eqb (part_length s t) 0) 0 t.place
