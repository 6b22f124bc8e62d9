-- The walk from descriptor to descriptor, by whether the columns are named.
use Prim.Native.Nat.{ℕ, ◌+◌, ◌≤◌, ◌<◌}
use mathlib.Core.Path.{◌≡◌, ap, ◌∙◌}
use mathlib.Core.Bool.{Bool, false, not}
use mathlib.Core.List.{List}
use lib.Dec.{leb}
use lib.ListN.{length}
use borrow.Author.Tests.{le-leb, lt-leb}
use Rattle.std.proofs.Common.{Some}
use Rattle.codepage.specs.Page.{Page}
use Rattle.strings.specs.declared.StringRead.{StringRead}
use Rattle.text.specs.Generated.{is_generated_text}
use Rattle.column.specs.Column.{name_text, column_with, is_named}
use Rattle.walks.specs.Steps.{Takes, named_walk}
use Rattle.compact.specs.declared.Ends.{Ends}
use Rattle.compact.specs.Compact.{compact_name, compact_at, compact_column, end_by, compact_walk}
use Rattle.compact.proofs.Laws.{end_short}

module _ (page : Page) (ends : Ends) (s : List ℕ) (k p : ℕ) where
  -- it is no descriptor: the reply ends before its 16 bytes do
  pub step_short : length s < p + 16 → leb (p + 16) (end_by ends k s p) ≡ false
  step_short g = lt-leb (p + 16) (end_by ends k s p) (end_short ends k s p g)

  -- q is the descriptor's end, r its name, b whether that counts
  pub step_some : (q : ℕ) (r : StringRead) (b : Bool) → q ≡ end_by ends k s p → p + 16 ≤ q → r ≡ compact_name s p q
      → b ≡ not (is_generated_text page s (name_text page s r)) → Takes (named_walk page s (compact_walk page ends s)) k p (Some (record { named = b; next = q }))
  unfolding is_named compact_column column_with compact_at
  step_some q r b e g u f =
      (e, le-leb (p + 16) q g, λ _. f ∙ ap (λ (y : StringRead). not (is_generated_text page s (name_text page s y))) u)
