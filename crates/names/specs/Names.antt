-- The name scan: which of three lists is taken, and what the entry answers (01, Name scan; 01, Numbers of refusal: name scan).
use Rattle.std.specs.Prelude.{List, [], ◌∷◌, ℕ, ltb, leb, length}
use Rattle.search.specs.Search.{pick}
use Rattle.codepage.specs.Page.{Page}
use Rattle.text.specs.declared.Text.{Text}
use Rattle.listing.specs.declared.Rule.TheVariants.{Returning, BeforeFirst}
use Rattle.listing.specs.Listing.{listed_by}
use Rattle.name_run.specs.Run.{longest_name_run, names_of_run}

-- either counts from two names on (01, Name scan)
abbrev pub from_two : List Text → List Text
from_two l = pick (leb 2 (length l)) l []

-- of the two lists of candidates the second only if longer; if neither has names, those of the first longest run (01, Name scan)
unfoldable pub chosen_names : List Text → List Text → List Text → List Text
chosen_names returning before run =
    pick (ltb (length (from_two returning)) (length (from_two before))) (from_two before)
    (pick (leb 1 (length (from_two returning))) (from_two returning) run)

-- the names of a reply (01, Name scan)
unfoldable pub column_names : Page → List ℕ → List Text
column_names page s = chosen_names (listed_by s Returning) (listed_by s BeforeFirst) (names_of_run page s (longest_name_run page s))

-- what the name scan answers: the refusal's number and values, 0 alone if none, and the names (01, Answers: the name scan lists such texts)
pub record NameScan : Type 0 where
  pub refusal : List ℕ
  pub names : List Text

-- a refusal: no names (DECISIONS, Forms 12)
abbrev pub refused_with : List ℕ → NameScan
refused_with refusal = record { refusal = refusal; names = [] }

-- 5 over 65,536 bytes; 6 with the count needed, to who lends `room` texts; else the names (01, Numbers of refusal: name scan)
unfoldable pub name_scan : Page → ℕ → List ℕ → NameScan
name_scan page room s =
    pick (ltb 65536 (length s)) (refused_with (5 ∷ []))
    (pick (ltb room (length (column_names page s))) (refused_with (6 ∷ length (column_names page s) ∷ []))
    (record { refusal = 0 ∷ []; names = column_names page s }))
