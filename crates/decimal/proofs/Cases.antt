-- Numbers in decimal by computation: one digit, two, and the largest of 16 and of 64 bits.
use mathlib.Core.Path.{◌≡◌, refl}
use mathlib.Core.List.{[], ◌∷◌}
use Rattle.decimal.specs.Decimal.{digits_of, decimal_of}

pub case_0 : decimal_of 0 ≡ 0x30 ∷ []
unfolding digits_of decimal_of
case_0 = refl

pub case_9 : decimal_of 9 ≡ 0x39 ∷ []
unfolding digits_of decimal_of
case_9 = refl

pub case_10 : decimal_of 10 ≡ 0x31 ∷ 0x30 ∷ []
unfolding digits_of decimal_of
case_10 = refl

pub case_65535 : decimal_of 65535 ≡ 0x36 ∷ 0x35 ∷ 0x35 ∷ 0x33 ∷ 0x35 ∷ []
unfolding digits_of decimal_of
case_65535 = refl

pub case_18446744073709551615 : decimal_of 18446744073709551615 ≡
    0x31 ∷ 0x38 ∷ 0x34 ∷ 0x34 ∷ 0x36 ∷ 0x37 ∷ 0x34 ∷ 0x34 ∷ 0x30 ∷ 0x37 ∷ 0x33 ∷ 0x37 ∷ 0x30 ∷ 0x39 ∷ 0x35 ∷ 0x35 ∷ 0x31 ∷ 0x36 ∷ 0x31 ∷ 0x35 ∷ []
unfolding digits_of decimal_of
case_18446744073709551615 = refl
