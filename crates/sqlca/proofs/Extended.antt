-- The extension: its warnings where they are there, and the ways out of its reader.
use mathlib.Core.Path.{◌≡◌, sym, ap, subst, ◌∙◌}
use mathlib.Core.Bool.{Bool, true, false, not}
use mathlib.Core.List.{List}
use Prim.Native.Nat.{ℕ, ◌≤◌}
use lib.Dec.{T, eqb, leb, leb→le}
use lib.IntN.{ℤ}
use lib.ListN.{length, get_or, take, drop, replicate}
use borrow.Author.Tests.{le-leb}
use Rattle.search.specs.Search.{pick}
use Rattle.search.proofs.Tests.{and_right}
use Rattle.field.specs.declared.ByteOrder.{ByteOrder}
use Rattle.field.specs.Numbers.{number, signed}
use Rattle.sqlca.specs.Code.{numbers_order}
use Rattle.sqlca.specs.Extension.{is_extended, numbers_from, rows_of, warnings_of, no_extension, extension_in, extension_of}

-- ---- warnings

pub warnings_there : (s : List ℕ) → 54 ≤ length s → warnings_of s ≡ take 11 (drop 43 s)
warnings_there s h = ap (λ (b : Bool). pick b (take 11 (drop 43 s)) (replicate 11 0)) (le-leb 54 (length s) h)

-- ---- the reader's ways out

pub extended_room : (s : List ℕ) → is_extended s ≡ true → 43 ≤ length s
unfolding is_extended
extended_room s e = leb→le 43 (length s) (and_right (not (eqb (get_or s 18 0) 0xFF)) (leb 43 (length s)) (subst T (sym e) tt))

pub extension_absent : (s : List ℕ) → is_extended s ≡ false → no_extension ≡ extension_of s
unfolding extension_of
extension_absent s e = sym (ap (λ (b : Bool). pick b (extension_in (numbers_order s) s) no_extension) e)

-- equal parts make equal extensions: those that the reader's callees promise
pub extension_there : (s : List ℕ) (o : ByteOrder) → is_extended s ≡ true → o ≡ numbers_order s → {a : List ℤ} {b : ℕ} {c : List ℕ}
    → a ≡ numbers_from 6 o s 19 → b ≡ rows_of (signed (number o 4 s 27)) → c ≡ warnings_of s
    → record { sqlerrd = a; rows_updated = b; sqlwarn = c } ≡ extension_of s
unfolding extension_of
extension_there s o e f x y z =
    (λ i. record { sqlerrd = x i; rows_updated = y i; sqlwarn = z i })
    ∙ (ap (λ (p : ByteOrder). extension_in p s) f ∙ sym (ap (λ (b : Bool). pick b (extension_in (numbers_order s) s) no_extension) e))
