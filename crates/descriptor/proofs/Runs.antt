-- A run of standard descriptors: what each step of the walk says.
use mathlib.Core.Path.{◌≡◌, refl, ap, ◌∙◌}
use mathlib.Core.Bool.{Bool, true, false, not}
use mathlib.Core.List.{List}
use Prim.Native.Nat.{ℕ, ◌≤◌, ◌<◌}
use native.Mathlib.Omega.{arith}
use lib.Dec.{leb}
use lib.ListN.{length}
use borrow.Author.Tests.{le-leb, lt-leb, eq-eqb}
use Rattle.search.specs.Search.{pick}
use Rattle.codepage.specs.Page.{Page}
use Rattle.field.specs.declared.ByteOrder.{ByteOrder}
use Rattle.strings.specs.declared.StringRead.{StringRead}
use Rattle.text.specs.Generated.{is_generated_text}
use Rattle.column.specs.Column.{name_text, column_with, is_named}
use Rattle.descriptor.specs.declared.Step.{Step}
use Rattle.descriptor.specs.Nullable.{lenient}
use Rattle.descriptor.specs.Descriptor.{descriptor_end, described_at, column_at}
use Rattle.descriptor.specs.Groups.{no_step, step_at}

-- ---- a step

module _ (order : ByteOrder) (s : List ℕ) (p : ℕ) (r : Step) (e : r ≡ step_at order s p) where
  abbrev step_by : Bool → Step
  step_by b =
      pick b (record { name = (described_at order s p).name; next = descriptor_end lenient order s p }) (no_step (descriptor_end lenient order s p))

  is_step : (b : Bool) → leb (descriptor_end lenient order s p) (length s) ≡ b → r ≡ step_by b
  unfolding step_at
  is_step b f = e ∙ ap step_by f

  pub step_end : r.next ≡ descriptor_end lenient order s p
  step_end = go (leb (descriptor_end lenient order s p) (length s)) refl
    where
      go : (b : Bool) → leb (descriptor_end lenient order s p) (length s) ≡ b → r.next ≡ descriptor_end lenient order s p
      go true f = ap (λ (x : Step). x.next) (is_step true f)
      go false f = ap (λ (x : Step). x.next) (is_step false f)

  pub step_name : r.next ≤ length s → r.name ≡ (described_at order s p).name
  step_name h =
      ap (λ (x : Step). x.name) (is_step true (le-leb (descriptor_end lenient order s p) (length s) (omega (arith, step_end))))

-- a name without bytes is none of the column's own
pub unnamed : (page : Page) (s : List ℕ) (r : StringRead) → r.length ≡ 0 → false ≡ not (is_generated_text page s (name_text page s r))
unfolding is_generated_text name_text
unnamed page s r e = rw (eq-eqb r.length 0 e) refl

-- ---- what a step tells: the descriptor cannot be read, or can be, and b says whether its column is named

module _ (page : Page) (order : ByteOrder) (s : List ℕ) (p : ℕ) (r : Step) (e : r ≡ step_at order s p) where
  pub step_none : length s < r.next → leb (descriptor_end lenient order s p) (length s) ≡ false
  step_none g = lt-leb (descriptor_end lenient order s p) (length s) (omega (arith, step_end order s p r e))

  pub step_named : (i : ℕ) (b : Bool) → r.next ≤ length s → b ≡ not (is_generated_text page s (name_text page s r.name))
      → b ≡ is_named page s (column_at page order i s p)
  unfolding is_named column_at column_with
  step_named i b g f = f ∙ ap (λ (x : StringRead). not (is_generated_text page s (name_text page s x))) (step_name order s p r e g)
