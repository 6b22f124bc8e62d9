-- The search for a byte that passes a test: for an FF (01, Layouts: Compact, a next), and for what is no name character (01, Layouts: Compact, the name).
use Rattle.std.specs.Prelude.{Bool, ◌||◌, List, ◌≡◌, ℕ, ◌+◌, ◌<◌, ltb, get_or, Option, Some, None}
use Rattle.search.specs.Search.{pick}

-- a closure answers at each byte as the test does (01, Layouts: Compact, the first FF)
abbrev pub Computes : (ℕ → Bool → Type 0) → (ℕ → Bool) → Type 0
Computes post test = (byte : ℕ) (answer : Bool) → byte < 256 → post byte answer → answer ≡ test byte

-- the byte at q passes a test (01, Layouts: Compact, the first FF)
abbrev pub at_byte : (ℕ → Bool) → List ℕ → ℕ → Bool
at_byte test s q = test (get_or s q 0)

-- a test passes at one of the eight positions from q on: a word of searches for an FF (01, Layouts: Compact)
abbrev pub in_eight : (ℕ → Bool) → ℕ → Bool
in_eight f q = f q || f (q + 1) || f (q + 2) || f (q + 3) || f (q + 4) || f (q + 5) || f (q + 6) || f (q + 7)

-- the position that a search before e ends at, none where that is e (01, Layouts: Compact, the first FF)
abbrev pub found_before : ℕ → ℕ → Option ℕ
found_before e q = pick (ltb q e) (Some q) None
