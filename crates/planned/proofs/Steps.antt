-- A step of an iterator of columns: where a column is still to come, its descriptor can be read, and the others come after it.
use mathlib.Core.Path.{◌≡◌, refl, ap, ◌∙◌}
use mathlib.Core.Bool.{Bool, true, false}
use mathlib.Core.List.{List, [], ◌∷◌}
use Prim.Native.Nat.{ℕ, suc, ◌+◌, ◌-◌, ◌≤◌, ◌<◌}
use native.Mathlib.Numerals.{add-one}
use native.Mathlib.Omega.{arith}
use lib.Dec.{ltb}
use lib.ListN.{length}
use borrow.Author.Tests.{ltb-true, ltb-false}
use Rattle.search.specs.Search.{pick}
use Rattle.search.specs.Walks.{Walk, chain}
use Rattle.codepage.specs.Page.{page037}
use Rattle.types.specs.declared.ColumnMetadata.{ColumnMetadata}
use Rattle.planned.specs.declared.reading.Columns.{Columns}
use Rattle.planned.specs.Planned.{walk_of, Reads}
use Rattle.planned.specs.Columns.{columns_left}

module _ {A : Type 0} (w : Walk A) (n i p : ℕ) where
  pub none_left : length (chain w (n - i) i p) ≡ 0 → chain w (n - i) i p ≡ []
  none_left h = go (chain w (n - i) i p) h
    where
      go : (l : List A) → length l ≡ 0 → l ≡ []
      go [] e = refl
      go (x ∷ l) e = absurd (omega arith)

  turn : i < n → chain w (n - i) i p ≡ pick (w.reads p (w.end (n - (i + 1)) p)) (w.view i p (w.end (n - (i + 1)) p) ∷ chain w (n - (i + 1)) (i + 1) (w.end (n - (i + 1)) p)) []
  unfolding chain
  turn h =
      let k : n - i ≡ suc (n - (i + 1)) = omega arith in
      ap (λ (j : ℕ). chain w j i p) k ∙ rw (add-one i) refl

  past : n ≤ i → length (chain w (n - i) i p) ≡ 0
  unfolding chain
  past h =
      let k : n - i ≡ 0 = omega arith in
      ap (λ (j : ℕ). length (chain w j i p)) k

  pub some_left : (length (chain w (n - i) i p) ≡ 0 → ⊥)
      → (i < n) × (w.reads p (w.end (n - (i + 1)) p) ≡ true) × (chain w (n - i) i p ≡ w.view i p (w.end (n - (i + 1)) p) ∷ chain w (n - (i + 1)) (i + 1) (w.end (n - (i + 1)) p))
  some_left h = within (ltb i n) refl
    where
      can : i < n → (b : Bool) → w.reads p (w.end (n - (i + 1)) p) ≡ b → chain w (n - i) i p ≡ pick b (w.view i p (w.end (n - (i + 1)) p) ∷ chain w (n - (i + 1)) (i + 1) (w.end (n - (i + 1)) p)) []
          → (i < n) × (w.reads p (w.end (n - (i + 1)) p) ≡ true) × (chain w (n - i) i p ≡ w.view i p (w.end (n - (i + 1)) p) ∷ chain w (n - (i + 1)) (i + 1) (w.end (n - (i + 1)) p))
      can j true e z = (j, e, z)
      can j false e z = absurd (h (ap length z))

      within : (b : Bool) → ltb i n ≡ b
          → (i < n) × (w.reads p (w.end (n - (i + 1)) p) ≡ true) × (chain w (n - i) i p ≡ w.view i p (w.end (n - (i + 1)) p) ∷ chain w (n - (i + 1)) (i + 1) (w.end (n - (i + 1)) p))
      within true e = let j = ltb-true i n e in can j (w.reads p (w.end (n - (i + 1)) p)) refl (turn j)
      within false e = absurd (h (past (ltb-false i n e)))

-- the same of an iterator whose count is not reached
module _ (it : Columns) (h : it.index ≡ it.plan.run.count → ⊥) where
  abbrev walk : Walk ColumnMetadata
  walk = walk_of page037 it.reply.now it.plan

  left : (length (chain walk (it.plan.limit - it.index) it.index it.offset) ≡ 0 → ⊥)
  left e = h (omega (arith, it.counted))

  pub next_below : it.index < it.plan.limit
  next_below = (some_left walk it.plan.limit it.index it.offset left).0

  pub next_reads : Reads page037 it.reply.now it.plan (it.plan.limit - (it.index + 1)) it.offset
  next_reads = (some_left walk it.plan.limit it.index it.offset left).1

  pub next_left : columns_left it ≡ walk.view it.index it.offset (walk.end (it.plan.limit - (it.index + 1)) it.offset)
      ∷ chain walk (it.plan.limit - (it.index + 1)) (it.index + 1) (walk.end (it.plan.limit - (it.index + 1)) it.offset)
  unfolding columns_left
  next_left = (some_left walk it.plan.limit it.index it.offset left).2
