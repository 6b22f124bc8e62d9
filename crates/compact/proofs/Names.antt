-- The name of a compact descriptor lies in the reply.
use mathlib.Core.Path.{◌≡◌, refl, ap}
use mathlib.Core.Bool.{Bool, true, false, ◌&&◌, and-eq-true_iff}
use mathlib.Core.List.{List}
use Prim.Native.Nat.{ℕ, ◌+◌, ◌≤◌}
use native.Mathlib.Omega.{arith}
use lib.Dec.{leb, ltb}
use lib.ListN.{length, get_or, take, drop}
use borrow.Author.Tests.{ltb-true, leb-true}
use Rattle.search.specs.Search.{pick, each}
use Rattle.search.proofs.Index.{Found, first_is}
use Rattle.strings.specs.declared.StringRead.{StringRead}
use Rattle.strings.specs.Strings.{no_string}
use Rattle.text.specs.Chars.{is_name_char}
use Rattle.compact.specs.Compact.{name_here, name_at, compact_name}

ends_here : (s : List ℕ) (e q : ℕ) → name_here s e q ≡ true → q + 1 + get_or s q 0 ≤ e
unfolding name_here
ends_here s e q h =
    let rest = ((and-eq-true_iff (leb 1 (get_or s q 0) && leb (get_or s q 0) 64) _).0 h).1 in
    let both = (and-eq-true_iff (leb (q + 1 + get_or s q 0) e) (each is_name_char (take (get_or s q 0) (drop (q + 1) s)))).0 rest in
    leb-true (q + 1 + get_or s q 0) e both.0

module _ (s : List ℕ) (p e : ℕ) (room : p + 16 ≤ e) (l : e ≤ length s) where
  inside : (compact_name s p e).place + (compact_name s p e).length ≤ length s
  unfolding compact_name name_at
  inside = go (ltb (name_at s p e) e) refl (first_is (name_here s e) (p + 16) e room)
    where
      name : Bool → StringRead
      name b = pick b (record { place = name_at s p e + 1; length = get_or s (name_at s p e) 0; next = e }) (no_string e)

      go : (b : Bool) → ltb (name_at s p e) e ≡ b → Found (name_here s e) (p + 16) e (name_at s p e) → (name b).place + (name b).length ≤ length s
      go true f h = omega (arith, ends_here s e (name_at s p e) (h.passes (ltb-true (name_at s p e) e f)))
      go false f h = omega arith

  pub name_inside : (n : StringRead) → n ≡ compact_name s p e → n.place + n.length ≤ length s
  name_inside n f =
      let a = ap (λ (x : StringRead). x.place) f in
      let b = ap (λ (x : StringRead). x.length) f in
      omega (arith, inside)

-- so does a string without bytes
pub none_inside : (s : List ℕ) (n : StringRead) → n ≡ no_string 0 → n.place + n.length ≤ length s
none_inside s n f =
    let a = ap (λ (x : StringRead). x.place) f in
    let b = ap (λ (x : StringRead). x.length) f in
    omega arith
