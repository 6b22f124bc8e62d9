-- The wrong readers of document 01 ("What each entry owes" (c)): what the definition of the description entry says of each.
use mathlib.Core.Path.{◌≡◌, refl, ap}
use mathlib.Core.List.{List, [], ◌∷◌, ◌++◌, map}
use Prim.Native.Nat.{ℕ, suc}
use native.Mathlib.Omega.{arith}
use lib.ListN.{length, get_or}
use Rattle.codepage.specs.Page.{page037}
use Rattle.types.specs.declared.ColumnMetadata.{ColumnMetadata}
use Rattle.column.specs.Column.{blank_column}
use Rattle.search.specs.Search.{over}
use Rattle.plan.specs.Description.{Description, description}
use Rattle.cases.specs.Replies.{door_of, reply_a, reply_d}
use Rattle.cases.specs.Questions.{list_of}
use Rattle.cases.specs.Collection.{accepted}
use Rattle.cases.proofs.Compute.{everything}

-- two columns, whose lengths are 4 and another
abbrev two : ℕ → List ℕ
two size = 0xFF ∷ 0xFF ∷ 0x00 ∷ 0x02 ∷ (door_of 4 0xC4 ++ door_of size 0xC4)

abbrev lengths : List ColumnMetadata → List ℕ
lengths l = map (λ (c : ColumnMetadata). c.length) l

-- one that refuses all replies
pub not_refusing_all : (n : ℕ) (rest : List ℕ) → (description page037 1 reply_a).refusal ≡ suc n ∷ rest → ⊥
unfolding everything
not_refusing_all n rest e = let z : 0 ≡ suc n = ap (λ (l : List ℕ). get_or l 0 0) e in omega arith

-- one that answers D's COL1 to everything
pub not_col1_to_everything : description page037 1 reply_a ≡ description page037 1 reply_d → ⊥
unfolding everything
not_col1_to_everything e =
    let z : ◌≡◌ {A = ℕ} 4 0 = ap (λ (d : Description). get_or (map (λ (c : ColumnMetadata). c.name.length) d.columns) 0 0) e in omega arith

-- one that writes no record
pub not_writing_none : over (list_of reply_a) (blank_column ∷ []) ≡ blank_column ∷ [] → ⊥
unfolding everything blank_column
not_writing_none e = let z : ◌≡◌ {A = ℕ} 4 0 = ap (λ (l : List ColumnMetadata). get_or (lengths l) 0 0) e in omega arith

-- one that reads column 1 and invents the rest: the second column's length is the reply's
pub not_inventing_the_rest : (lengths (description page037 2 (two 6)).columns ≡ 4 ∷ 6 ∷ [])
    × (lengths (description page037 2 (two 8)).columns ≡ 4 ∷ 8 ∷ [])
unfolding everything
not_inventing_the_rest = (refl, refl)

-- one with a made-up column count
pub not_counting_at_will : (length (description page037 2 (two 6)).columns ≡ 2) × (length (description page037 2 reply_a).columns ≡ 1)
unfolding everything
not_counting_at_will = (refl, refl)

-- one that says "list too short" before looking: a reply without columns needs no room
pub not_too_short_at_once : description page037 0 (0xFF ∷ []) ≡ accepted []
unfolding everything
not_too_short_at_once = refl

-- one that says "ends early" before looking: one byte can be a whole reply
pub not_early_at_once : description page037 1 (0xFF ∷ []) ≡ accepted []
unfolding everything
not_early_at_once = refl
