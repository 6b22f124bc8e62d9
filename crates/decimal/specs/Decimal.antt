-- Numbers in decimal (01, Numbers of refusal: in decimal; 02, T-13: a decimal number).
use Rattle.std.specs.Prelude.{◌≡◌, List, [], ◌∷◌, ◌++◌, ℕ, zero, suc, ◌+◌, ◌/◌, ◌%◌, ◌≤◌, ltb, length, drop}
use Rattle.search.specs.Search.{pick}

-- the last digit of n, in ASCII (01, Numbers of refusal: in decimal)
abbrev pub digit_of : ℕ → ℕ
digit_of n = 0x30 + n % 10

-- the decimal digits of n, at most k of them (01, Numbers of refusal: in decimal)
unfoldable pub digits_of : ℕ → ℕ → List ℕ
digits_of zero n = []
digits_of (suc k) n = pick (ltb n 10) (digit_of n ∷ []) (digits_of k (n / 10) ++ (digit_of n ∷ []))

-- n in decimal: a number of 64 bits has at most 20 digits (01, Numbers of refusal: in decimal; 02, T-13: a decimal number)
unfoldable pub decimal_of : ℕ → List ℕ
decimal_of n = digits_of 20 n

-- 24 characters end with the number in decimal: four or more before it are free, for letters or a sign (01, Numbers of refusal: COL and the number)
pub record Spells (number : ℕ) (characters : List ℕ) (start : ℕ) : Type 0 where
  pub free : 4 ≤ start
  pub some : start ≤ 23
  pub long : length characters ≡ 24
  pub ends : drop start characters ≡ decimal_of number
