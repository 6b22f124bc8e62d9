-- Digits that are written from the last to the first: what one digit more tells.
use mathlib.Core.Path.{◌≡◌, refl, sym, ap, ◌∙◌}
use mathlib.Core.List.{List, [], ◌∷◌, ◌++◌, append_assoc, append-nil}
use Prim.Native.Nat.{ℕ, zero, suc, ◌+◌, ◌-◌, ◌*◌, ◌/◌, ◌<◌, ◌≤◌}
use native.Mathlib.Numerals.{add-one}
use native.Mathlib.Omega.{arith}
use lib.ListN.{length, get_or, drop, set, length-set, drop_of_length-le}
use lib.Seq.{drop-cons, drop-set-lt, get_or-set_same}
use borrow.Author.Tests.{lt-ltb, le-ltb}
use Rattle.decimal.specs.Decimal.{digit_of, digits_of, decimal_of, Spells}

-- a number of at most k digits is below this
abbrev tens : ℕ → ℕ
tens zero = 1
tens (suc k) = 10 * tens k

-- x is stored at i, before m
pub stored : (l m : List ℕ) (i j x : ℕ) → j ≡ i + 1 → i < length l → drop j l ≡ m → drop i (set l i x) ≡ x ∷ m
stored l m i j x z h e =
    let y : drop (suc i) l ≡ m = ap (λ (n : ℕ). drop n l) (sym (add-one i) ∙ sym z) ∙ e in
    let d : drop i (set l i x) ≡ get_or (set l i x) i 0 ∷ drop (suc i) (set l i x) = drop-cons (set l i x) i 0 (omega (arith, length-set l i x)) in
    d ∙ rw (get_or-set_same l i x 0 h, drop-set-lt (suc i) l i x (omega arith), y) refl

-- the digits of n from the last on stand past `at`; `rest` is what they leave, k digits and the one that goes to `at`
pub record Counting (n : ℕ) (cs : List ℕ) (rest at : ℕ) : Type 0 where
  pub k : ℕ
  pub stands : at ≡ k + 4
  pub within : at ≤ 23
  pub small : rest < 10 * tens k
  pub long : length cs ≡ 24
  pub goes_on : decimal_of n ≡ digits_of (suc k) rest ++ drop (at + 1) cs

pub counting_none : (n : ℕ) (cs : List ℕ) → n < 100000000000000000000 → length cs ≡ 24 → Counting n cs n 23
unfolding decimal_of
counting_none n cs h l =
    let z : length cs ≤ 24 = omega arith in
    record {
      k = 19;
      stands = refl;
      within = omega arith;
      small = h;
      long = l;
      goes_on = rw (drop_of_length-le cs z) (sym (append-nil (digits_of 20 n)));
    }

module _ (n : ℕ) (cs : List ℕ) (rest at : ℕ) (c : Counting n cs rest at) (d : ℕ) (e : d ≡ digit_of rest) where
  pub counting_more : 10 ≤ rest → Counting n (set cs at d) (rest / 10) (at - 1)
  unfolding digits_of
  counting_more h = go c.k c.stands c.small c.goes_on
    where
      go : (k : ℕ) → at ≡ k + 4 → rest < 10 * tens k → decimal_of n ≡ digits_of (suc k) rest ++ drop (at + 1) cs
          → Counting n (set cs at d) (rest / 10) (at - 1)
      go zero a s g = absurd (omega arith)
      go (suc k) a s g =
          let z : at - 1 + 1 ≡ at = omega arith in
          record {
            k = k;
            stands = omega arith;
            within = omega (arith, c.within);
            small = omega arith;
            long = length-set cs at d ∙ c.long;
            goes_on = g
                ∙ rw (
                  le-ltb rest 10 h,
                  append_assoc (digits_of (suc k) (rest / 10)) (digit_of rest ∷ []) (drop (at + 1) cs),
                  z,
                  stored cs (drop (at + 1) cs) at (at + 1) d refl (omega (arith, c.long, c.within)) refl,
                  e,
                ) refl;
          }

  -- the first digit
  pub counting_done : rest < 10 → Spells n (set cs at d) at
  unfolding digits_of
  counting_done h = record {
    free = omega (arith, c.stands);
    some = c.within;
    long = length-set cs at d ∙ c.long;
    ends = stored cs _ at (at + 1) d refl (omega (arith, c.long, c.within)) refl ∙ rw e (sym (c.goes_on ∙ rw (lt-ltb rest 10 h) refl));
  }
