-- What the readers of a descriptor answer, as records of the definitions.
use Rattle.std.specs.Prelude.{Result, Ok, Err, List, ◌≡◌, ℕ, zero, suc, ◌+◌, ◌≤◌, leb, length}
use Rattle.search.specs.Search.{pick}
use Rattle.field.specs.declared.ByteOrder.{ByteOrder}
use Rattle.field.specs.declared.ByteOrder.TheVariants.{BigEndian}
use Rattle.field.specs.Numbers.{number}
use Rattle.strings.specs.Strings.{strings_end, no_string, pair_at}
use Rattle.strings.specs.declared.StringRead.{StringRead}
use Rattle.descriptor.specs.declared.Sqldxgrp.{Sqldxgrp}
use Rattle.descriptor.specs.declared.Label.{Label}
use Rattle.descriptor.specs.declared.Names.{Names}
use Rattle.descriptor.specs.declared.Sqldoptgrp.{Sqldoptgrp}
use Rattle.descriptor.specs.declared.Step.{Step}
use Rattle.descriptor.specs.Nullable.{lenient, nullable_end, in_nullable}
use Rattle.descriptor.specs.Descriptor.{dx_end, opt_end, descriptor_end, dx_pair, opt_name, opt_label, opt_pair, described_at}

-- n empty strings at p, each of two bytes 00 (01, Layouts: strings have a 16-bit BE length)
abbrev pub AllEmpty : ℕ → List ℕ → ℕ → Type 0
AllEmpty zero s p = p ≤ length s
AllEmpty (suc n) s p = (number BigEndian 2 s p ≡ 0) × AllEmpty n s (p + 2)

-- a label's pair at p, and what is past SQLCOMMENTS behind it (DRDA V1: SQLDOPTGRP; 01, Layouts: label m and s, comment m and s)
pub record LabelAt (s : List ℕ) (p : ℕ) (r : Label) : Type 0 where
  pub label : r.label ≡ pair_at s p
  pub next : r.next ≡ strings_end 2 s r.label.next

-- the six strings of names at p: SQLNAME, SQLLABEL, and what is past SQLCOMMENTS (DRDA V1: SQLDOPTGRP; 01, Layouts: name m and s, label m and s, comment m and s)
pub record NamesAt (s : List ℕ) (p : ℕ) (r : Names) : Type 0 where
  pub name : r.name ≡ pair_at s p
  pub label : r.label ≡ pair_at s r.name.next
  pub next : r.next ≡ strings_end 2 s r.label.next

-- the SQLDXGRP whose flag is due at p (DRDA V1: SQLDXGRP; 01, Layouts: extension)
abbrev pub sqldxgrp_at : List ℕ → ℕ → Sqldxgrp
sqldxgrp_at s p = record {
  base_table_name = dx_pair 3 s p;
  schema_name = dx_pair 5 s p;
  name = dx_pair 7 s p;
  next = nullable_end lenient dx_end s p;
}

-- a SQLDXGRP with these names, the last of which ends it, whether or not all of it is there (DRDA V1: SQLDXGRP)
abbrev pub with_names : StringRead → StringRead → StringRead → Sqldxgrp
with_names base schema name = record { base_table_name = base; schema_name = schema; name = name; next = name.next }

-- the SQLDOPTGRP whose flag is due at p (DRDA V1: SQLDOPTGRP; 01, Layouts: option flag)
abbrev pub sqldoptgrp_at : List ℕ → ℕ → Sqldoptgrp
sqldoptgrp_at s p = record {
  name = in_nullable (no_string 0) opt_name s p;
  label = in_nullable (no_string 0) opt_label s p;
  base_table_name = in_nullable (no_string 0) (opt_pair 3) s p;
  schema_name = in_nullable (no_string 0) (opt_pair 5) s p;
  next = nullable_end lenient (opt_end lenient) s p;
}

-- a descriptor that cannot be read, for counting (01, Choice: columns)
abbrev pub no_step : ℕ → Step
no_step next = record { name = no_string 0; next = next }

-- a step, or one that cannot be made, by how many bytes were expected (01, Choice: columns)
abbrev pub step_of : Result Step ℕ → Step
step_of (Ok step) = step
step_of (Err next) = no_step next

-- what counting a run asks of the descriptor at p: its name, none where it cannot be read, and what is past it (01, Choice: columns, generated)
unfoldable pub step_at : ByteOrder → List ℕ → ℕ → Step
step_at order s p =
    pick (leb (descriptor_end lenient order s p) (length s))
    (record { name = (described_at order s p).name; next = descriptor_end lenient order s p })
    (no_step (descriptor_end lenient order s p))
