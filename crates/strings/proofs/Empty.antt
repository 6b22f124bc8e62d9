-- Empty strings: their lengths are 00 00.
use Prim.Native.Nat.{ℕ, ◌+◌, ◌≤◌}
use native.Mathlib.Omega.{arith}
use mathlib.Core.Path.{◌≡◌, sym, ◌∙◌}
use mathlib.Core.List.{List}
use lib.ListN.{length}
use Rattle.field.specs.declared.ByteOrder.TheVariants.{BigEndian}
use Rattle.strings.specs.declared.StringRead.{StringRead}
use Rattle.field.specs.Numbers.{number}
use Rattle.strings.specs.Strings.{string_end, string_at}
use Rattle.strings.proofs.Strings.{end_known, string_full}

-- an empty string that is read at p
abbrev pub empty_at : ℕ → StringRead
empty_at p = record { place = p + 2; length = 0; next = p + 2 }

module _ (s : List ℕ) (p : ℕ) (h : p + 2 ≤ length s) (e : number BigEndian 2 s p ≡ 0) where
  pub empty_end : string_end s p ≡ p + 2
  empty_end = end_known s p (omega arith) (omega arith) 0 (sym e) ∙ omega arith

  pub empty_string : empty_at p ≡ string_at s p
  empty_string =
      let z : p + 2 + 0 ≡ p + 2 = omega arith in
      rw z at (string_full s p (omega arith) (omega arith) 0 (sym e) (omega arith))
