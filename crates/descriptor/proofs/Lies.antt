-- The strings of a descriptor lie in it, and so do its column's texts.
use mathlib.Core.Path.{◌≡◌, refl, ap, ◌∙◌}
use mathlib.Core.Bool.{Bool, true, false}
use mathlib.Core.List.{List}
use Prim.Native.Nat.{ℕ, ◌+◌, ◌≤◌}
use native.Mathlib.Nat.{le_refl, le_trans}
use native.Mathlib.Omega.{arith}
use lib.Dec.{leb}
use lib.ListN.{length}
use borrow.Author.Tests.{leb-true}
use Rattle.search.specs.Search.{pick}
use Rattle.codepage.specs.Page.{Page}
use Rattle.field.specs.declared.ByteOrder.{ByteOrder}
use Rattle.field.specs.declared.ByteOrder.TheVariants.{BigEndian}
use Rattle.strings.specs.declared.StringRead.{StringRead}
use Rattle.field.specs.Numbers.{number}
use Rattle.strings.specs.Strings.{string_end, strings_end, string_at, no_string, pair_at}
use Rattle.strings.proofs.Strings.{end_inside}
use Rattle.strings.proofs.Windows.{Same, string_end_grows, strings_end_grows, strings_end_within}
use Rattle.column.specs.Moved.{column_bytes, LiesAll}
use Rattle.column.proofs.Lies.{StringLies, string_wider, string_none, string_chosen, StringsLie, all_wider, column_lies, column_bytes_kept}
use Rattle.descriptor.specs.Nullable.{Flags, lenient, nullable_end, in_nullable}
use Rattle.descriptor.specs.Descriptor.{udt_end, dx_end, dx_start, opt_end, descriptor_end, dx_pair, opt_name, opt_label, opt_pair, described_at, column_at}
use Rattle.descriptor.proofs.Flags.{in_nullable_missing, in_nullable_null, in_nullable_held}
use Rattle.descriptor.proofs.Ends.{nullable_end_grows, udt_end_grows, dx_end_grows, dx_start_grows}
use Rattle.descriptor.proofs.Cases.{GroupIs, gone, null, held, group_is, descriptor_in}
use Rattle.descriptor.proofs.Local.{FlagWindow, column_same, descriptor_lenient}

-- ---- strings

string_lies : (s : List ℕ) (p : ℕ) → StringLies p (string_end s p) (string_at s p)
unfolding string_at
string_lies s p = go (leb (string_end s p) (length s)) refl
  where
    go : (t : Bool) → leb (string_end s p) (length s) ≡ t
        → StringLies p (string_end s p)
        (pick t (record { place = p + 2; length = number BigEndian 2 s p; next = string_end s p }) (no_string (string_end s p)))
    go true e =
        let i = end_inside s p (leb-true (string_end s p) (length s) e) in
        record { from = λ z. omega arith; to = omega (arith, i.1) }
    go false e = string_none p (string_end s p) (string_end s p)

pair_lies : (s : List ℕ) (p : ℕ) → StringLies p (strings_end 2 s p) (pair_at s p)
unfolding pair_at strings_end
pair_lies s p =
    string_chosen p _ _ _
    (string_wider p (string_end s p) _ _ _ (le_refl p) (string_end_grows s (string_end s p)) (string_lies s p))
    (string_wider (string_end s p) (string_end s (string_end s p)) _ _ _ (string_end_grows s p) (le_refl _) (string_lies s (string_end s p)))

nullable_lies : (v : List ℕ → ℕ → StringRead) (f : List ℕ → ℕ → ℕ) (s : List ℕ) → ((p : ℕ) → StringLies p (f s p) (v s p))
    → (p : ℕ) → StringLies p (nullable_end lenient f s p) (in_nullable (no_string 0) v s p)
nullable_lies v f s l p = go (group_is lenient f s p)
  where
    go : GroupIs lenient f s p → StringLies p (nullable_end lenient f s p) (in_nullable (no_string 0) v s p)
    go (gone x e) = rw (in_nullable_missing (no_string 0) v s p x) (string_none p _ 0)
    go (null x y e) = rw (in_nullable_null (no_string 0) v s p x y) (string_none p _ 0)
    go (held x y e) = rw (in_nullable_held (no_string 0) v s p x y, e) (string_wider (p + 1) _ _ _ _ (omega arith) (le_refl _) (l (p + 1)))

-- ---- in the groups

dx_lies : (c : ℕ) → c ≤ 7 → (s : List ℕ) (p : ℕ) → StringLies p (nullable_end lenient dx_end s p) (dx_pair c s p)
unfolding dx_pair
dx_lies c x s =
    nullable_lies _ dx_end s
    (λ p.
    string_wider (strings_end c s (p + 8)) (strings_end 2 s (strings_end c s (p + 8))) p (dx_end s p) _
    (omega (arith, strings_end_grows c s (p + 8)))
    (unfold dx_end in strings_end_within c 2 9 (omega arith) s (p + 8))
    (pair_lies s (strings_end c s (p + 8))))

opt_pair_lies : (c : ℕ) → c ≤ 7 → (s : List ℕ) (p : ℕ) → StringLies p (opt_end lenient s p) (opt_pair c s p)
unfolding opt_pair opt_end
opt_pair_lies c x s p = string_wider _ _ _ _ _ (dx_start_grows lenient s p) (le_refl _) (dx_lies c x s (dx_start lenient s p))

-- the strings before the extension
opt_strings : (c : ℕ) → c ≤ 6 → (s : List ℕ) (p : ℕ) → strings_end c s (p + 2) ≤ dx_start lenient s p
unfolding dx_start strings_end
opt_strings c x s p =
    le_trans (strings_end_within c 0 6 (omega arith) s (p + 2)) (nullable_end_grows lenient udt_end s (udt_end_grows s) (strings_end 6 s (p + 2)))

opt_string_lies : (c : ℕ) → c ≤ 4 → (s : List ℕ) (p : ℕ) → StringLies p (opt_end lenient s p) (pair_at s (strings_end c s (p + 2)))
unfolding opt_end
opt_string_lies c x s p =
    string_wider _ (strings_end 2 s (strings_end c s (p + 2))) _ _ _
    (omega (arith, strings_end_grows c s (p + 2)))
    (omega (arith, strings_end_within c 2 6 (omega arith) s (p + 2), opt_strings 6 (omega arith) s p, nullable_end_grows lenient dx_end s (dx_end_grows s) (dx_start lenient s p)))
    (pair_lies s (strings_end c s (p + 2)))

name_lies : (s : List ℕ) (p : ℕ) → StringLies p (opt_end lenient s p) (opt_name s p)
unfolding opt_name opt_pair strings_end
name_lies s p = string_chosen p _ _ _ (opt_string_lies 0 (omega arith) s p) (opt_pair_lies 7 (omega arith) s p)

label_lies : (s : List ℕ) (p : ℕ) → StringLies p (opt_end lenient s p) (opt_label s p)
unfolding opt_label
label_lies s p = opt_string_lies 2 (omega arith) s p

-- ---- in the descriptor

pub strings_lie : (order : ByteOrder) (s : List ℕ) (p : ℕ) → descriptor_end lenient order s p ≤ length s
    → StringsLie p (descriptor_end lenient order s p) (described_at order s p)
unfolding described_at
strings_lie order s p h =
    let e = (descriptor_in lenient order s p h).2 in
    let text : (v : List ℕ → ℕ → StringRead) → ((p : ℕ) → StringLies p (opt_end lenient s p) (v s p))
    → StringLies p (descriptor_end lenient order s p) (in_nullable (no_string 0) v s (p + 16)) =
    λ v l. rw e (string_wider (p + 16) _ _ _ _ (omega arith) (le_refl _) (nullable_lies v (opt_end lenient) s l (p + 16))) in
    record {
      name = text opt_name (name_lies s);
      label = text opt_label (label_lies s);
      base = text (opt_pair 3) (opt_pair_lies 3 (omega arith) s);
      schema = text (opt_pair 5) (opt_pair_lies 5 (omega arith) s);
    }

pub texts_lie : (page : Page) (order : ByteOrder) (i : ℕ) (s : List ℕ) (p : ℕ) → descriptor_end lenient order s p ≤ length s
    → LiesAll p (descriptor_end lenient order s p) (column_at page order i s p)
unfolding column_at
texts_lie page order i s p h = column_lies page s i p (descriptor_end lenient order s p) (described_at order s p) (strings_lie order s p h)

-- ---- so their bytes are the same in a window

pub column_bytes_same : (page : Page) (flags : Flags) (s : List ℕ) (a : ℕ) (s' : List ℕ) (b n : ℕ) → FlagWindow flags s a s' b n
    → (order : ByteOrder) (i p q : ℕ) → Same a b p q → descriptor_end flags order s p ≤ a + n
    → column_bytes s' (column_at page order i s' q) ≡ column_bytes s (column_at page order i s p)
column_bytes_same page flags s a s' b n w order i p q h k =
    let e = descriptor_lenient flags order s p (le_trans k w.window.inside) in
    let l = texts_lie page order i s p (omega (arith, e, w.window.inside)) in
    ap (column_bytes s') (column_same page flags s a s' b n w order i p q h k)
    ∙ (column_bytes_kept s a s' b n w.window (column_at page order i s p) (all_wider _ _ _ _ _ h.from (omega arith) l))
