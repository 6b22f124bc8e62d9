-- Candidates one at a time, with five in view (01, Forms that must change: Candidate Vec).
use Rattle.std.specs.Prelude.{◌≡◌, Option, Some, None, List, [], ◌∷◌, ℕ, suc, ◌+◌, ◌≤◌, ltb, length, get_or}
use Rattle.std.specs.Iterator.{YieldsFirst}
use Rattle.std.specs.Option.{ForSome}
use Rattle.search.specs.Search.{pick}
use Rattle.search.specs.Walks.{first}
use Rattle.text.specs.declared.Text.{Text}
use Rattle.candidates.specs.declared.Candidates.{Candidates}
use Rattle.candidates.specs.declared.View.{View}
use Rattle.candidates.specs.Candidates.{string_text_at, is_kept, candidates_from}

-- where the next candidate's length stands, from p on; the reply's length where there is none (01, Name scan)
abbrev pub next_at : List ℕ → Option Text → ℕ → ℕ
next_at s last p = first (is_kept s last) p (length s)

-- a candidate, if there is one, and the position from which to look for the next one (01, Forms that must change: one candidate at a time)
pub record Candidate : Type 0 where
  pub text : Option Text
  pub next : ℕ

-- the next candidate from p on, behind the last one kept, and where to go on (01, Name scan)
unfoldable pub next_candidate : List ℕ → Option Text → ℕ → Candidate
next_candidate s last p =
    pick (ltb (next_at s last p) (length s))
    (record { text = Some (string_text_at s (next_at s last p)); next = suc (next_at s last p) })
    (record { text = None; next = length s })

-- the candidates that are still to come (01, Name scan)
abbrev pub left : Candidates → List Text
left c = candidates_from c.reply.now c.last c.next

-- a call gives the first that is left, which is the next candidate, and goes on behind it (01, Forms that must change: one candidate at a time)
abbrev pub YieldsCandidate : Candidates → Option Text → Candidates → Type 0
YieldsCandidate c r d = YieldsFirst left c r d
    × ((d.reply.now ≡ c.reply.now)
    × ((next_candidate c.reply.now c.last c.next ≡ record { text = r; next = d.next }) × ForSome r (λ text. d.last ≡ Some text)))

-- a text in front of others; where there is none, nothing comes after it (01, Name scan)
abbrev pub shown : Option Text → List Text → List Text
shown None l = []
shown (Some t) l = t ∷ l

-- the text in view behind so many others, if there is one (01, Forms that must change: five in view)
abbrev pub text_at : View → ℕ → Option Text
text_at v k = get_or v.texts k None

-- the reply that a view is of (01, Name scan)
abbrev pub reply_of : View → List ℕ
reply_of v = v.rest.reply.now

-- the candidates after the first one in view: the other four, and those after them (01, Forms that must change: five in view)
unfoldable pub behind : View → List Text
behind v = shown (text_at v 1) (shown (text_at v 2) (shown (text_at v 3) (shown (text_at v 4) (left v.rest))))

-- the candidates from a view on (01, Forms that must change: five in view)
unfoldable pub in_view : View → List Text
in_view v = shown (text_at v 0) (behind v)

-- a text's bytes lie in the reply (01, Answers: place, length)
abbrev pub TextInside : List ℕ → Text → Type 0
TextInside s t = t.place + t.length ≤ length s
