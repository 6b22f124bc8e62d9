-- A descriptor, for counting and in full: a law for each way out of its readers.
use mathlib.Core.Bool.{Bool, true, false}
use mathlib.Core.List.{List}
use mathlib.Core.Path.{◌≡◌, refl, sym, ap, subst, ◌∙◌}
use Prim.Native.Nat.{ℕ, suc, ◌+◌, ◌≤◌, ◌<◌}
use native.Mathlib.Omega.{arith}
use lib.Dec.{leb}
use lib.ListN.{length}
use borrow.Author.Tests.{lt-ltb, le-ltb, lt-leb, le-leb}
use Rattle.search.specs.Search.{pick}
use Rattle.field.specs.declared.ByteOrder.{ByteOrder}
use Rattle.field.specs.Numbers.{number}
use Rattle.strings.specs.Strings.{no_string}
use Rattle.sqlda.specs.Types.{is_known}
use Rattle.column.specs.declared.Described.{Described}
use Rattle.column.specs.declared.Sqldagrp.{Sqldagrp}
use Rattle.column.specs.Column.{StringsInside}
use Rattle.column.specs.Sqldagrp.{sqldagrp_at}
use Rattle.descriptor.specs.declared.Sqldoptgrp.{Sqldoptgrp}
use Rattle.descriptor.specs.declared.Step.{Step}
use Rattle.descriptor.specs.Nullable.{Flags, lenient, nullable_end, in_nullable}
use Rattle.descriptor.specs.Descriptor.{opt_end, descriptor_end, opt_name, described_at}
use Rattle.descriptor.specs.Groups.{sqldoptgrp_at, no_step, step_at}
use Rattle.descriptor.proofs.Groups.{Inside, name_inside, label_inside, opt_pair_inside}
use Rattle.descriptor.proofs.Ends.{descriptor_end_grows}

-- ---- what is past a descriptor

module _ (flags : Flags) (order : ByteOrder) (s : List ℕ) (p : ℕ) where
  pub descriptor_end_short : length s < p + 16 → descriptor_end flags order s p ≡ p + 16
  unfolding descriptor_end
  descriptor_end_short h = rw (lt-ltb (length s) (p + 16) h) refl

  pub descriptor_end_unknown : p + 16 ≤ length s → is_known (number order 2 s (p + 12)) ≡ false → descriptor_end flags order s p ≡ suc (length s)
  unfolding descriptor_end
  descriptor_end_unknown h e = rw (le-ltb (length s) (p + 16) h, e) refl

  pub descriptor_end_known : p + 16 ≤ length s → is_known (number order 2 s (p + 12)) ≡ true
      → descriptor_end flags order s p ≡ nullable_end flags (opt_end flags) s (p + 16)
  unfolding descriptor_end
  descriptor_end_known h e = rw (le-ltb (length s) (p + 16) h, e) refl

  -- a descriptor that can be read has its 16 bytes, and a known type
  module _ (h : descriptor_end flags order s p ≤ length s) where
    pub descriptor_room : p + 16 ≤ length s
    descriptor_room = omega (arith, descriptor_end_grows flags order s p)

    pub descriptor_type : is_known (number order 2 s (p + 12)) ≡ true
    descriptor_type = go (is_known (number order 2 s (p + 12))) refl
      where
        go : (b : Bool) → is_known (number order 2 s (p + 12)) ≡ b → b ≡ true
        go true e = refl
        go false e = absurd (omega (arith, descriptor_end_unknown descriptor_room e))

    pub descriptor_end_inside : descriptor_end flags order s p ≡ nullable_end flags (opt_end flags) s (p + 16)
    descriptor_end_inside = descriptor_end_known descriptor_room descriptor_type

-- ---- for counting

module _ (order : ByteOrder) (s : List ℕ) (p : ℕ) where
  abbrev step_by : Bool → Step
  step_by b =
      pick b (record { name = (described_at order s p).name; next = descriptor_end lenient order s p }) (no_step (descriptor_end lenient order s p))

  -- no step, where the end lies past the reply
  none_stepped : (n : ℕ) → n ≡ descriptor_end lenient order s p → length s < n → no_step n ≡ step_at order s p
  unfolding step_at
  none_stepped n f h =
      let u : leb (descriptor_end lenient order s p) (length s) ≡ false = lt-leb (descriptor_end lenient order s p) (length s) (omega arith) in
      ap no_step f ∙ sym (ap step_by u)

  pub step_short : length s < p + 16 → no_step (p + 16) ≡ step_at order s p
  step_short h = none_stepped (p + 16) (sym (descriptor_end_short lenient order s p h)) h

  module _ (h : p + 16 ≤ length s) (t : ℕ) (e : t ≡ number order 2 s (p + 12)) (k : Bool) (f : k ≡ is_known t) where
    known_is : is_known (number order 2 s (p + 12)) ≡ k
    known_is = sym (f ∙ ap is_known e)

    pub step_unknown : k ≡ false → no_step (length s + 1) ≡ step_at order s p
    step_unknown g =
        none_stepped (length s + 1) (sym (descriptor_end_unknown lenient order s p h (known_is ∙ g) ∙ omega arith)) (omega arith)

    module _ (g : k ≡ true) where
      past_group : nullable_end lenient (opt_end lenient) s (p + 16) ≡ descriptor_end lenient order s p
      past_group = sym (descriptor_end_known lenient order s p h (known_is ∙ g))

      pub step_cut : (n : ℕ) → n ≡ nullable_end lenient (opt_end lenient) s (p + 16) → length s < nullable_end lenient (opt_end lenient) s (p + 16)
          → no_step n ≡ step_at order s p
      step_cut n f l = none_stepped n (f ∙ past_group) (omega arith)

      pub step_read : (o : Sqldoptgrp) → o ≡ sqldoptgrp_at s (p + 16) → nullable_end lenient (opt_end lenient) s (p + 16) ≤ length s
          → (record { name = o.name; next = o.next } ≡ step_at order s p) × (p + 16 ≤ o.next) × (o.next ≤ length s) × Inside s o.name
      unfolding step_at described_at
      step_read o x l =
          let next : o.next ≡ descriptor_end lenient order s p = ap (λ (o : Sqldoptgrp). o.next) x ∙ past_group in
          let n : o.name ≡ in_nullable (no_string 0) opt_name s (p + 16) = ap (λ (o : Sqldoptgrp). o.name) x in
          let u : leb (descriptor_end lenient order s p) (length s) ≡ true = le-leb (descriptor_end lenient order s p) (length s) (omega (arith, past_group)) in (
            (λ i. record { name = n i; next = next i }) ∙ sym (ap step_by u),
            omega (arith, descriptor_end_grows lenient order s p, next),
            omega (arith, past_group),
            rw n (name_inside s (p + 16)),
          )

-- ---- in full

module _ (order : ByteOrder) (s : List ℕ) (p : ℕ) where
  pub described_inside : StringsInside s (described_at order s p)
  unfolding described_at
  described_inside =
      record {
        name = name_inside s (p + 16);
        label = label_inside s (p + 16);
        base = opt_pair_inside s 3 (p + 16);
        schema = opt_pair_inside s 5 (p + 16);
      }

  -- two groups and what is past them as one descriptor
  abbrev pub described_by : Sqldagrp → Sqldoptgrp → ℕ → Described
  described_by g o next = record {
    sql_type = g.sql_type;
    raw_length = g.raw_length;
    precision = g.precision;
    scale = g.scale;
    ccsid = g.ccsid;
    byte_order = order;
    name = o.name;
    label = o.label;
    base_table_name = o.base_table_name;
    schema_name = o.schema_name;
    next = next;
  }

  -- one that can be read has its options in full
  pub options_read : descriptor_end lenient order s p ≤ length s → nullable_end lenient (opt_end lenient) s (p + 16) ≤ length s
  options_read h = rw (descriptor_end_inside lenient order s p h) at h

  pub described_read : (g : Sqldagrp) (o : Sqldoptgrp) → descriptor_end lenient order s p ≤ length s → g ≡ sqldagrp_at order s p → o ≡ sqldoptgrp_at s (p + 16)
      → (described_by g o o.next ≡ described_at order s p) × StringsInside s (described_by g o o.next)
  unfolding described_at
  described_read g o h e f =
      let next : o.next ≡ descriptor_end lenient order s p = ap (λ (o : Sqldoptgrp). o.next) f ∙ sym (descriptor_end_inside lenient order s p h) in
      let read : described_by g o o.next ≡ described_at order s p = λ i. described_by (e i) (f i) (next i) in
      (read, subst (StringsInside s) (sym read) described_inside)
