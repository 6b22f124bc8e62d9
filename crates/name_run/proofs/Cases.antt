-- Small layouts, by computation: which of their strings is the name, and the longest run of a reply.
use mathlib.Core.Path.{◌≡◌, refl}
use Rattle.std.proofs.Common.{Some, None}
use mathlib.Core.List.{List, [], ◌∷◌, ◌++◌}
use Prim.Native.Nat.{ℕ}
use lib.ListN.{replicate}
use Rattle.search.specs.Walks.{keep, best_of, best, chain}
use Rattle.codepage.specs.Page.{page037, table037}
use Rattle.codepage.specs.Blank.{is_blank_in}
use Rattle.text.specs.Chars.{is_ascii, char_of}
use Rattle.text.specs.Text.{text_is, placed, leading, kept, text_on}
use Rattle.text.specs.Generated.{is_generated}
use Rattle.field.specs.Numbers.{number}
use Rattle.strings.specs.Strings.{string_end, strings_end, string_at, chosen, pair_at}
use Rattle.column.specs.Column.{string_text}
use Rattle.descriptor.specs.Nullable.{nullable_end, in_nullable}
use Rattle.descriptor.specs.Descriptor.{udt_end, dx_end, dx_start, opt_end, dx_pair}
use Rattle.identifier.specs.Identifier.{is_identifier, is_identifier_at}
use Rattle.name_run.specs.Layout.{name_in, has_options, is_named_layout, scanned_name_at}
use Rattle.name_run.specs.Run.{name_run_from, longest_name_run, names_of_run}

-- to unfold this is to unfold the search for names, for a proof that computes it
unfoldable pub everything : Unit {0}
unfolding keep best_of best chain table037 is_blank_in is_ascii char_of placed leading kept text_on is_generated number string_end strings_end string_at chosen pair_at string_text nullable_end in_nullable udt_end dx_end dx_start opt_end dx_pair is_identifier is_identifier_at name_in has_options is_named_layout scanned_name_at name_run_from longest_name_run names_of_run
everything = tt

abbrev zeros : ℕ → List ℕ
zeros n = replicate n 0

-- m is - and s is A: m is tested, and s is the name
pub case_s : scanned_name_at page037 (zeros 19 ++ (0x00 ∷ 0x01 ∷ 0x2D ∷ 0x00 ∷ 0x01 ∷ 0x41 ∷ []) ++ zeros 8 ++ (0xFF ∷ 0xFF ∷ [])) 0
    ≡ Some (record { name = record { place = 24; length = 1; next = 25 }; next = 35 })
unfolding everything
case_s = refl

-- the extension's name m is - and s is A: of that pair m is chosen before it is tested, so there is no name
pub case_extension : scanned_name_at page037 (zeros 31 ++ (0xFF ∷ []) ++ zeros 23 ++ (0x00 ∷ 0x01 ∷ 0x2D ∷ 0x00 ∷ 0x01 ∷ 0x41 ∷ [])) 0 ≡ None
unfolding everything
case_extension = refl

-- the same where m is empty: the extension's s is the name
pub case_extension_s : scanned_name_at page037 (zeros 31 ++ (0xFF ∷ []) ++ zeros 25 ++ (0x00 ∷ 0x01 ∷ 0x41 ∷ [])) 0
    ≡ Some (record { name = record { place = 59; length = 1; next = 60 }; next = 60 })
unfolding everything
case_extension_s = refl

-- case A of document 01: one layout, at 4, whose name is DOOR
abbrev reply_a : List ℕ
reply_a =
    0xFF ∷ 0xFF ∷ 0x00 ∷ 0x01 ∷ 0x00 ∷ 0x00 ∷ 0x00 ∷ 0x00 ∷ 0x00 ∷ 0x00 ∷ 0x00 ∷ 0x00 ∷ 0x00 ∷ 0x00 ∷ 0x00 ∷ 0x04 ∷ 0x01 ∷ 0xC4 ∷ 0x04 ∷ 0xB8 ∷
    0x00 ∷ 0x00 ∷ 0x00 ∷ 0x00 ∷ 0x04 ∷ 0x44 ∷ 0x4F ∷ 0x4F ∷ 0x52 ∷ (zeros 10 ++ (0xFF ∷ 0xFF ∷ []))

pub case_a : longest_name_run page037 reply_a ≡ record { start = 4; count = 1 }
unfolding everything
case_a = refl

pub case_a_names : names_of_run page037 reply_a (record { start = 4; count = 1 }) ≡ text_is 25 4 1 ∷ []
unfolding everything
case_a_names = refl
