-- Small replies, computed against the definition of the name scan.
use mathlib.Core.Path.{◌≡◌, refl}
use mathlib.Core.List.{List, [], ◌∷◌}
use Prim.Native.Nat.{ℕ}
use Rattle.search.specs.Walks.{keep, best_of, best, chain}
use Rattle.codepage.specs.Page.{page037, table037}
use Rattle.codepage.specs.Blank.{is_blank_in}
use Rattle.field.specs.Numbers.{number}
use Rattle.strings.specs.Strings.{string_end, strings_end, string_at, chosen, pair_at}
use Rattle.text.specs.Chars.{is_ascii, char_of}
use Rattle.text.specs.Text.{text_is, leading, kept, placed, text_on}
use Rattle.text.specs.Generated.{is_generated}
use Rattle.column.specs.Column.{string_text}
use Rattle.descriptor.specs.Nullable.{nullable_end, in_nullable}
use Rattle.descriptor.specs.Descriptor.{udt_end, dx_end, dx_start, opt_end, dx_pair}
use Rattle.identifier.specs.Identifier.{is_identifier, is_identifier_at}
use Rattle.name_run.specs.Layout.{name_in, has_options, is_named_layout}
use Rattle.name_run.specs.Run.{name_run_from, longest_name_run, names_of_run}
use Rattle.candidates.specs.Candidates.{same_text, is_candidate, is_kept, candidates_in, candidates_from, candidates}
use Rattle.listing.specs.Listing.{returns, is_before, is_listed, after, listed, listed_by}
use Rattle.names.specs.Names.{refused_with, chosen_names, column_names, name_scan}

-- to unfold this is to unfold the whole entry, for a proof that computes it
unfoldable pub everything : Unit {0}
unfolding keep best_of best chain table037 is_blank_in number string_end strings_end string_at chosen pair_at is_ascii char_of leading kept placed text_on is_generated string_text nullable_end in_nullable udt_end dx_end dx_start opt_end dx_pair is_identifier is_identifier_at name_in has_options is_named_layout name_run_from longest_name_run names_of_run same_text is_candidate is_kept candidates_in candidates_from candidates returns is_before is_listed after listed listed_by chosen_names column_names name_scan
everything = tt

-- AA, BB, CC, DD, AA, EE, BB, CC, DD, EE: AA and EE each return four later
abbrev twice : List ℕ
twice =
    0x00 ∷ 0x02 ∷ 0x41 ∷ 0x41 ∷ 0x00 ∷ 0x02 ∷ 0x42 ∷ 0x42 ∷ 0x00 ∷ 0x02 ∷ 0x43 ∷ 0x43 ∷ 0x00 ∷ 0x02 ∷ 0x44 ∷ 0x44 ∷ 0x00 ∷ 0x02 ∷ 0x41 ∷
    0x41 ∷ 0x00 ∷ 0x02 ∷ 0x45 ∷ 0x45 ∷ 0x00 ∷ 0x02 ∷ 0x42 ∷ 0x42 ∷ 0x00 ∷ 0x02 ∷ 0x43 ∷ 0x43 ∷ 0x00 ∷ 0x02 ∷ 0x44 ∷ 0x44 ∷ 0x00 ∷ 0x02 ∷
    0x45 ∷ 0x45 ∷ []

pub two_return : column_names page037 twice ≡ text_is 2 2 1 ∷ text_is 22 2 1 ∷ []
unfolding everything
two_return = refl

-- room for one where two are needed
pub room_for_one : name_scan page037 1 twice ≡ refused_with (6 ∷ 2 ∷ [])
unfolding everything
room_for_one = refl

-- AA, BB, CC, DD, AA, COL7, BB, CC, DD, COL7: COL7 is no candidate, and one name that returns is no list
abbrev generated : List ℕ
generated =
    0x00 ∷ 0x02 ∷ 0x41 ∷ 0x41 ∷ 0x00 ∷ 0x02 ∷ 0x42 ∷ 0x42 ∷ 0x00 ∷ 0x02 ∷ 0x43 ∷ 0x43 ∷ 0x00 ∷ 0x02 ∷ 0x44 ∷ 0x44 ∷ 0x00 ∷ 0x02 ∷ 0x41 ∷
    0x41 ∷ 0x00 ∷ 0x04 ∷ 0x43 ∷ 0x4F ∷ 0x4C ∷ 0x37 ∷ 0x00 ∷ 0x02 ∷ 0x42 ∷ 0x42 ∷ 0x00 ∷ 0x02 ∷ 0x43 ∷ 0x43 ∷ 0x00 ∷ 0x02 ∷ 0x44 ∷ 0x44 ∷
    0x00 ∷ 0x04 ∷ 0x43 ∷ 0x4F ∷ 0x4C ∷ 0x37 ∷ []

pub one_returns : column_names page037 generated ≡ []
unfolding everything
one_returns = refl

-- ZZ, AA, ZZ, BB, ZZ, BB, ZZ: AA and BB stand before a repeat of ZZ, and BB is kept once
abbrev repeated : List ℕ
repeated =
    0x00 ∷ 0x02 ∷ 0x5A ∷ 0x5A ∷ 0x00 ∷ 0x02 ∷ 0x41 ∷ 0x41 ∷ 0x00 ∷ 0x02 ∷ 0x5A ∷ 0x5A ∷ 0x00 ∷ 0x02 ∷ 0x42 ∷ 0x42 ∷ 0x00 ∷ 0x02 ∷ 0x5A ∷
    0x5A ∷ 0x00 ∷ 0x02 ∷ 0x42 ∷ 0x42 ∷ 0x00 ∷ 0x02 ∷ 0x5A ∷ 0x5A ∷ []

pub before_first : column_names page037 repeated ≡ text_is 6 2 1 ∷ text_is 14 2 1 ∷ []
unfolding everything
before_first = refl

-- a repeat of AA four bytes on is skipped
pub near_repeat : candidates (0x00 ∷ 0x02 ∷ 0x41 ∷ 0x41 ∷ 0x00 ∷ 0x02 ∷ 0x41 ∷ 0x41 ∷ []) ≡ text_is 2 2 1 ∷ []
unfolding everything
near_repeat = refl

-- eight bytes on it is kept
pub far_repeat : candidates (0x00 ∷ 0x02 ∷ 0x41 ∷ 0x41 ∷ 0x00 ∷ 0x02 ∷ 0x42 ∷ 0x42 ∷ 0x00 ∷ 0x02 ∷ 0x41 ∷ 0x41 ∷ [])
    ≡ text_is 2 2 1 ∷ text_is 6 2 1 ∷ text_is 10 2 1 ∷ []
unfolding everything
far_repeat = refl
