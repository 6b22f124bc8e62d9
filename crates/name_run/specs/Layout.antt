-- The name in a standard layout of any type: nothing of its first 16 bytes is asked (DRDA V1: SQLDAROW; 01, Name scan: standard layouts of any type).
use Rattle.std.specs.Prelude.{Bool, not, ◌&&◌, Option, Some, None, List, [], ◌∷◌, ℕ, ◌+◌, ◌≤◌, ltb, leb, eqb, length, get_or}
use Rattle.search.specs.Search.{pick, first_in}
use Rattle.codepage.specs.Page.{Page}
use Rattle.strings.specs.declared.StringRead.{StringRead}
use Rattle.strings.specs.Strings.{string_end, no_string, string_at}
use Rattle.identifier.specs.Identifier.{is_identifier_at}
use Rattle.descriptor.specs.Nullable.{lenient}
use Rattle.descriptor.specs.Descriptor.{dx_start, opt_end, dx_pair}
use Rattle.name_run.specs.declared.ScannedName.{ScannedName}

-- a string whose text may be a name (01, Name scan)
abbrev pub is_name_string : Page → List ℕ → StringRead → Bool
is_name_string page s r = is_identifier_at page s r.place r.length

-- the strings that may be the name of the layout at p, in their order (DRDA V1: SQLNAME_m, SQLNAME_s, SQLXNAME; 01, Name scan: m, else s, else the extension's)
abbrev pub name_strings : List ℕ → ℕ → List StringRead
name_strings s p = string_at s (p + 19) ∷ string_at s (string_end s (p + 19)) ∷ dx_pair 7 s (dx_start lenient s (p + 17)) ∷ []

-- the first of them that may be a name; none where there is no such one (01, Name scan)
unfoldable pub name_in : Page → List ℕ → ℕ → StringRead
name_in page s p = first_in (is_name_string page s) (name_strings s p) (no_string 0)

-- the option flag is there and is not FF (01, Name scan: each with an option flag not FF)
unfoldable pub has_options : List ℕ → ℕ → Bool
has_options s p = ltb (p + 16) (length s) && not (eqb (get_or s (p + 16) 0) 0xFF)

-- the layout at p can be read and has a name; e is past it (01, Name scan)
unfoldable pub is_named_layout : Page → List ℕ → ℕ → ℕ → Bool
is_named_layout page s p e = has_options s p && (leb e (length s) && is_name_string page s (name_in page s p))

-- past the layout at p (DRDA V1: SQLDAGRP's 16 bytes, SQLDOPTGRP)
abbrev pub layout_end : List ℕ → ℕ → ℕ
layout_end s p = opt_end lenient s (p + 17)

-- a string's bytes lie in the reply (01, Answers: place, length)
abbrev pub Inside : List ℕ → StringRead → Type 0
Inside s r = r.place + r.length ≤ length s

-- the name of the layout at p and what is past it, if it has one (01, Name scan)
unfoldable pub scanned_name_at : Page → List ℕ → ℕ → Option ScannedName
scanned_name_at page s p =
    pick (is_named_layout page s p (layout_end s p)) (Some (record { name = name_in page s p; next = layout_end s p })) None
