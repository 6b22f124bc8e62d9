-- Numbers by their bytes, the lowest first, and by two halves, once over the width; signed numbers of 32 bits.
use mathlib.Core.Path.{◌≡◌, refl, sym, ap, ◌∙◌}
use mathlib.Core.Bool.{Bool, true, false}
use mathlib.Core.List.{List, [], ◌∷◌}
use Prim.Native.Nat.{ℕ, zero, suc, ◌+◌, ◌-◌, ◌*◌, ◌^◌, ◌≤◌, ◌<◌}
use native.Mathlib.Nat.{add-mul, mul_assoc, mul_comm, pow-succ'}
use lib.Pow.{pow-add}
use native.Mathlib.Omega.{arith}
use lib.IntN.{ℤ, pos, negsuc}
use lib.ListN.{length, get_or, take, drop}
use lib.Seq.{drop-cons}
use lib.Signed.{mag}
use mir.Syntax.{w16, w32, w64}
use mir.Val.{to_z, of_z, sel}
use mir.Facts.{to_z-of_z}
use lib.Dec.{ltb}
use borrow.Author.Tests.{lt-ltb, le-ltb}
use Rattle.std.specs.Int.{from_be_bytes, from_le_bytes}
use Rattle.search.specs.Search.{pick}
use Rattle.field.specs.declared.ByteOrder.{ByteOrder}
use Rattle.field.specs.declared.ByteOrder.TheVariants.{BigEndian, LittleEndian}
use Rattle.field.specs.Numbers.{number, signed}

-- ---- numbers

abbrev bytes_from : ℕ → List ℕ → ℕ → List ℕ
bytes_from zero s p = []
bytes_from (suc n) s p = get_or s p 0 ∷ bytes_from n s (suc p)

bytes_are : (n : ℕ) (s : List ℕ) (p : ℕ) → p + n ≤ length s → take n (drop p s) ≡ bytes_from n s p
bytes_are zero s p h = refl
bytes_are (suc n) s p h =
    let l : p < length s = omega arith in
    rw (drop-cons s p 0, bytes_are n s (suc p) (omega arith)) refl

-- what the standard library makes of a number's bytes, in either order
module _ (o : ByteOrder) (s : List ℕ) (p r : ℕ) where
  pub big_2 : o ≡ BigEndian → p + 2 ≤ length s → r ≡ from_be_bytes w16 (take 2 (drop p s)) → r ≡ number o 2 s p
  unfolding number
  big_2 e h = rw (e, bytes_are 2 s p h) (λ f. omega arith)

  pub little_2 : o ≡ LittleEndian → p + 2 ≤ length s → r ≡ from_le_bytes w16 (take 2 (drop p s)) → r ≡ number o 2 s p
  unfolding number
  little_2 e h = rw (e, bytes_are 2 s p h) (λ f. omega arith)

  pub big_4 : o ≡ BigEndian → p + 4 ≤ length s → r ≡ from_be_bytes w32 (take 4 (drop p s)) → r ≡ number o 4 s p
  unfolding number
  big_4 e h = rw (e, bytes_are 4 s p h) (λ f. omega arith)

  pub little_4 : o ≡ LittleEndian → p + 4 ≤ length s → r ≡ from_le_bytes w32 (take 4 (drop p s)) → r ≡ number o 4 s p
  unfolding number
  little_4 e h = rw (e, bytes_are 4 s p h) (λ f. omega arith)

  pub big_8 : o ≡ BigEndian → p + 8 ≤ length s → r ≡ from_be_bytes w64 (take 8 (drop p s)) → r ≡ number o 8 s p
  unfolding number
  big_8 e h = rw (e, bytes_are 8 s p h) (λ f. omega arith)

  pub little_8 : o ≡ LittleEndian → p + 8 ≤ length s → r ≡ from_le_bytes w64 (take 8 (drop p s)) → r ≡ number o 8 s p
  unfolding number
  little_8 e h = rw (e, bytes_are 8 s p h) (λ f. omega arith)

-- ---- halves

number_big : (v w : ℕ) (s : List ℕ) (p : ℕ) → number BigEndian (v + w) s p ≡ number BigEndian v s p * 256 ^ w + number BigEndian w s (p + v)
unfolding number
number_big zero w s p =
    let e : 0 + w ≡ w = omega arith in
    let f : p + 0 ≡ p = omega arith in
    rw (e, f) (omega arith)
number_big (suc v) w s p =
    let e : suc v + w ≡ suc (v + w) = omega arith in
    let f : p + suc v ≡ suc p + v = omega arith in
    rw
    (e, f, pow-add 256 v w, number_big v w s (suc p), add-mul (get_or s p 0 * 256 ^ v) (number BigEndian v s (suc p)) (256 ^ w), mul_assoc (get_or s p 0) (256 ^ v) (256 ^ w))
    (omega arith)

number_little : (v w : ℕ) (s : List ℕ) (p : ℕ)
    → number LittleEndian (v + w) s p ≡ number LittleEndian v s p + 256 ^ v * number LittleEndian w s (p + v)
unfolding number
number_little zero w s p =
    let e : 0 + w ≡ w = omega arith in
    let f : p + 0 ≡ p = omega arith in
    rw (e, f) (omega arith)
number_little (suc v) w s p =
    let e : suc v + w ≡ suc (v + w) = omega arith in
    let f : p + suc v ≡ suc p + v = omega arith in
    rw (e, f, number_little v w s (suc p), pow-succ' 256 v, mul_assoc 256 (256 ^ v) (number LittleEndian w s (suc p + v))) (omega arith)

-- one byte is its own number
pub number_one : (o : ByteOrder) (s : List ℕ) (p : ℕ) → get_or s p 0 ≡ number o 1 s p
unfolding number
number_one BigEndian s p = omega arith
number_one LittleEndian s p = omega arith

-- a number of w + w bytes by its two halves, each of w bytes
module _ (o : ByteOrder) (w : ℕ) (s : List ℕ) (p a b r : ℕ) (x : a ≡ number o w s p) (y : b ≡ number o w s (p + w)) where
  pub halves_big : o ≡ BigEndian → r ≡ a * 256 ^ w + b → r ≡ number o (w + w) s p
  halves_big e z = z ∙ rw (x, y, e) (sym (number_big w w s p))

  pub halves_little : o ≡ LittleEndian → r ≡ b * 256 ^ w + a → r ≡ number o (w + w) s p
  halves_little e z =
      z ∙ rw (x, y, e) (omega (arith, number_little w w s p, mul_comm (256 ^ w) (number LittleEndian w s (p + w))))

-- ---- signed numbers

-- the standard library's signed number of 32 bits
pub signed_is : (bits : ℕ) → to_z w32 bits ≡ signed bits
unfolding signed
signed_is bits = go (ltb bits 0x8000_0000)
  where
    go : (b : Bool) → sel b (pos bits) (negsuc (0x1_0000_0000 - suc bits)) ≡ pick b (pos bits) (negsuc (0xFFFF_FFFF - bits))
    go true = refl
    go false = let e : 0x1_0000_0000 - suc bits ≡ 0xFFFF_FFFF - bits = omega arith in ap negsuc e

pub signed_low : (bits : ℕ) → bits < 0x8000_0000 → signed bits ≡ pos bits
unfolding signed
signed_low bits h = ap (λ (b : Bool). pick b (pos bits) (negsuc (0xFFFF_FFFF - bits))) (lt-ltb bits 0x8000_0000 h)

pub signed_high : (bits : ℕ) → 0x8000_0000 ≤ bits → signed bits ≡ negsuc (0xFFFF_FFFF - bits)
unfolding signed
signed_high bits h = ap (λ (b : Bool). pick b (pos bits) (negsuc (0xFFFF_FFFF - bits))) (le-ltb bits 0x8000_0000 h)

-- a signed number, written to 32 bits and read back
pub back32 : (z : ℤ) → mag z < 0x8000_0000 → to_z w32 (of_z w32 z) ≡ z
back32 z h = to_z-of_z {w = w32} {z = z} (record { sfits = h })
