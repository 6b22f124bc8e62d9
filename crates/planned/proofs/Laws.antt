-- A descriptor by its layout: what the walk's step says of it, and what it says for the walk.
use mathlib.Core.Path.{◌≡◌, refl, sym, ap, subst, ◌∙◌}
use mathlib.Core.Bool.{true}
use mathlib.Core.List.{List, ◌++◌}
use Prim.Native.Nat.{ℕ, ◌+◌, ◌≤◌}
use lib.ListN.{length}
use borrow.Author.Tests.{leb-true}
use Rattle.codepage.specs.Page.{Page}
use Rattle.field.specs.declared.ByteOrder.{ByteOrder}
use Rattle.types.specs.declared.ColumnMetadata.{ColumnMetadata}
use Rattle.column.specs.declared.Described.{Described}
use Rattle.column.specs.Column.{column_with}
use Rattle.column.specs.Numbers.{numbers_of, column_of}
use Rattle.column.proofs.Numbers.{column_back}
use Rattle.descriptor.specs.Nullable.{lenient}
use Rattle.descriptor.specs.Descriptor.{descriptor_end, described_at, column_at}
use Rattle.compact.specs.declared.Ends.{Ends}
use Rattle.compact.specs.Compact.{end_by, compact_at, compact_column}
use Rattle.compact.proofs.Laws.{end_room}
use Rattle.planned.specs.declared.Layout.{Layout}
use Rattle.planned.specs.declared.Layout.TheVariants.{Standard, Compact}
use Rattle.planned.specs.declared.Plan.{Plan}
use Rattle.planned.specs.Planned.{walk_by, walk_of, described_by, Reads}

-- ---- a step that can be made

module _ (page : Page) (s : List ℕ) (plan : Plan) (k p : ℕ) (h : Reads page s plan k p) where
  step : (l : Layout) → plan.layout ≡ l → (walk_by page s l).reads p ((walk_by page s l).end k p) ≡ true
  unfolding walk_of
  step l e = subst (λ (m : Layout). (walk_by page s m).reads p ((walk_by page s m).end k p) ≡ true) e h

  pub standard_room : (order : ByteOrder) → plan.layout ≡ Standard order → descriptor_end lenient order s p ≤ length s
  standard_room order e = leb-true (descriptor_end lenient order s p) (length s) (step (Standard order) e)

  -- the 16 bytes of a compact descriptor, and of the last reader's
  pub compact_room : (ends : Ends) → plan.layout ≡ Compact ends → (p + 16 ≤ end_by ends k s p) × (p + 16 ≤ length s)
  compact_room ends e =
      let r = leb-true (p + 16) (end_by ends k s p) (step (Compact ends) e) in
      (r, end_room ends k s p r)

-- ---- for the walk

next_by : (page : Page) (s : List ℕ) (l : Layout) (k p : ℕ) → (described_by l k s p).next ≡ (walk_by page s l).end k p
unfolding described_at compact_at
next_by page s (Standard order) k p = refl
next_by page s (Compact ends) k p = refl

view_by : (page : Page) (s : List ℕ) (l : Layout) (k i p : ℕ)
    → column_with page s i (described_by l k s p) ≡ (walk_by page s l).view i p ((walk_by page s l).end k p)
unfolding column_at compact_column
view_by page s (Standard order) k i p = refl
view_by page s (Compact ends) k i p = refl

module _ (page : Page) (s : List ℕ) (plan : Plan) (k p : ℕ) where
  pub described_next : (described_by plan.layout k s p).next ≡ (walk_of page s plan).end k p
  unfolding walk_of
  described_next = next_by page s plan.layout k p

  -- the record of the numbers is the column that the walk finds
  pub column_view : (i q : ℕ) (numbers rest : List ℕ) (c : ColumnMetadata) → q ≡ (walk_of page s plan).end k p
      → numbers ≡ numbers_of page s i (described_by plan.layout k s p) ++ rest → c ≡ column_of numbers
      → c ≡ (walk_of page s plan).view i p q
  unfolding walk_of
  column_view i q numbers rest c e f g =
      g
      ∙ (ap column_of f
      ∙ (column_back page s i (described_by plan.layout k s p) rest
      ∙ (view_by page s plan.layout k i p ∙ ap ((walk_by page s plan.layout).view i p) (sym e))))

pub next_is : (page : Page) (s : List ℕ) (plan : Plan) (k p : ℕ) (d : Described) → d ≡ described_by plan.layout k s p
    → d.next ≡ (walk_of page s plan).end k p
next_is page s plan k p d e = ap (λ (x : Described). x.next) e ∙ described_next page s plan k p
