-- Which candidates are names: two rules, each over the candidates in order (01, Name scan).
use Rattle.std.specs.Prelude.{◌≡◌, Bool, not, ◌&&◌, ◌||◌, Option, Some, None, List, [], ◌∷◌, ℕ, ◌-◌, eqb, leb, length, get_or, slice_get}
use Rattle.std.specs.Option.{ForSome}
use Rattle.std.specs.Iterator.{YieldsFirst}
use Rattle.search.specs.Search.{pick, front}
use Rattle.text.specs.declared.Text.{Text}
use Rattle.text.specs.Text.{empty_text}
use Rattle.candidates.specs.Candidates.{same_text, repeats, candidates}
use Rattle.candidates.specs.View.{TextInside, reply_of, in_view}
use Rattle.listing.specs.declared.Rule.{Rule}
use Rattle.listing.specs.declared.Rule.TheVariants.{Returning, BeforeFirst}
use Rattle.listing.specs.declared.Listing.{Listing}
use Rattle.listing.specs.declared.Listed.{Listed}

-- candidate k of those after one; an empty text where there are fewer (01, Name scan)
abbrev pub later : List Text → ℕ → Text
later l k = get_or l k empty_text

-- the text of x returns four later and not between, l being the candidates after x (01, Name scan)
unfoldable pub returns : List ℕ → Text → List Text → Bool
returns s x l =
    leb 4 (length l)
    && (same_text s x (later l 3) && not (same_text s x (later l 0) || same_text s x (later l 1) || same_text s x (later l 2)))

-- x is unlike the first candidate, and just before a repeat of it (01, Name scan)
unfoldable pub is_before : List ℕ → Option Text → Text → List Text → Bool
is_before s first x l = leb 1 (length l) && (repeats s (later l 0) first && not (repeats s x first))

-- what a rule lists of x: one that returns, unless the search has still to go on; one before a repeat, unless its neighbour in the list is equal (01, Name scan)
unfoldable pub is_listed : List ℕ → Rule → Listing → Text → List Text → Bool
is_listed s Returning z x l = eqb z.skip 0 && returns s x l
is_listed s BeforeFirst z x l = is_before s z.first x l && not (repeats s x z.last)

-- behind one that is listed or not: the search goes on five later, and the last one listed is the neighbour of the next (01, Name scan)
unfoldable pub after : Listing → Text → Bool → Listing
after z x listed = record { first = z.first; skip = pick listed 4 (z.skip - 1); last = pick listed (Some x) z.last }

-- the candidates that a rule lists (01, Name scan)
unfoldable pub listed : List ℕ → Rule → Listing → List Text → List Text
listed s rule z [] = []
listed s rule z (x ∷ l) = front (is_listed s rule z x l) x (listed s rule (after z x (is_listed s rule z x l)) l)

-- before any candidate (01, Name scan: the first)
abbrev pub unlisted : Option Text → Listing
unlisted first = record { first = first; skip = 0; last = None }

-- all that a rule lists of a reply (01, Name scan)
unfoldable pub listed_by : List ℕ → Rule → List Text
listed_by s rule = listed s rule (unlisted (slice_get (candidates s) 0)) (candidates s)

-- what a rule knows lies in the reply (01, Answers: place, length)
pub record InsideListing (s : List ℕ) (z : Listing) : Type 0 where
  pub first : ForSome z.first (TextInside s)
  pub last : ForSome z.last (TextInside s)

-- what holds of a list of names: all that its rule knows lies in the reply (01, Answers: place, length)
abbrev pub WithinListed : Listed → Type 0
WithinListed n = InsideListing (reply_of n.view) n.listing

-- the names that are still to come (01, Name scan)
abbrev pub to_come : Listed → List Text
to_come n = listed (reply_of n.view) n.rule n.listing (in_view n.view)

-- a call gives the first of those that were to come, and goes on in the same reply, as far inside it as before (01, Name scan)
abbrev pub YieldsListed : Listed → Option Text → Listed → Type 0
YieldsListed n r m = YieldsFirst to_come n r m × ((reply_of m.view ≡ reply_of n.view) × (WithinListed n → WithinListed m))
