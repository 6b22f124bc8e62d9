-- Counting block by block; and a text has characters where its bytes have some that are no blanks.
use mathlib.Core.Path.{◌≡◌, refl, sym, ap, subst, ◌∙◌}
use mathlib.Core.Bool.{Bool, true, false, not}
use mathlib.Core.List.{List, [], ◌∷◌, ◌++◌, map}
use Prim.Native.Nat.{ℕ, suc, ◌+◌, ◌≤◌, ◌<◌}
use native.Mathlib.Omega.{arith}
use borrow.Author.Tests.{lt-ltb, le-ltb, ltb-true, ltb-false}
use denote.Param.Members.{Mut, Called}
use denote.Ref.{Bor}
use lib.Dec.{ltb}
use lib.ListN.{length, length-append}
use Rattle.std.specs.declared.slice.Chunks.{Chunks}
use Rattle.std.specs.declared.option.Option.{Option}
use Rattle.std.specs.declared.option.Option.TheVariants.{None, Some}
use Rattle.std.specs.Iterator.{ChecksAny, Yields}
use Rattle.std.specs.List.{FoldsTo}
use Rattle.std.specs.Option.{MatchOption}
use Rattle.std.specs.Slice.Iter.{chunks_rest, chunks_steps}
use Rattle.search.specs.Search.{pick, count}
use Rattle.codepage.specs.Blank.{is_blank}
use Rattle.message.specs.Squeezed.{after, is_gap, added, squeezed}
use Rattle.message.specs.declared.Behind.{Behind}
use Rattle.message.specs.declared.Behind.TheVariants.{Nothing}
use Rattle.message.proofs.Squeezed.{added_length}

-- ---- blocks

module _ (f : ℕ → Bool) where
  count_append : (a b : List ℕ) → count f (a ++ b) ≡ count f a + count f b
  count_append [] b = omega arith
  count_append (x ∷ a) b = let r = count_append a b in omega arith

  -- what is left is a block and what is left behind it
  pub count_split : (l a b : List ℕ) → l ≡ a ++ b → count f l ≡ count f a + count f b
  count_split l a b e = ap (count f) e ∙ count_append a b

  pub count_most : (a : List ℕ) → count f a ≤ length a
  count_most [] = omega arith
  count_most (x ∷ a) = go (f x) (count_most a)
    where
      go : (t : Bool) → count f a ≤ length a → pick t 1 0 + count f a ≤ suc (length a)
      go true h = omega arith
      go false h = omega arith

  pub count_none : (a : List ℕ) → length a ≡ 0 → count f a ≡ 0
  count_none a e = omega (arith, count_most a)

  -- ---- a test that is asked of block after block

  -- the calls of the test on the blocks that are left, up to the first that passes, tell whether a byte is counted in what is left
  pub any_block : {F : Type 0} {g : Mut F (Bor (List ℕ) × Unit {0}) Bool} {u : Chunks ℕ} {k : F} (r : Bool)
      → ((x : Bor (List ℕ)) (b : Bool) (q : F) → Called g k (x, tt) b q → (q ≡ k) × (b ≡ ltb 0 (count f x.now)))
      → (s : Chunks ℕ) → ChecksAny chunks_steps g s k r u → r ≡ ltb 0 (count f (chunks_rest s))
  any_block {F} {g} {u} {k} r test s d = go d.0 s d.1 d.2 d.3.0 d.3.1 d.3.2 d.4 d.5
    where
      ends : (o : Option (Bor (List ℕ))) (s : Chunks ℕ) → chunks_steps s o u → MatchOption o (r ≡ false) (λ x. (r ≡ true) × ((h : F) × Called g k (x, tt) true h))
          → r ≡ ltb 0 (count f (chunks_rest s))
      ends None s y m = m ∙ sym (le-ltb 0 (count f (chunks_rest s)) (omega (arith, count_none (chunks_rest s) y.1.0)))
      ends (Some x) s y m =
          let p = ltb-true 0 (count f x.now) (sym (test x true m.1.0 m.1.1).1) in
          m.0 ∙ sym (lt-ltb 0 (count f (chunks_rest s)) (omega (arith, p, count_split (chunks_rest s) x.now (chunks_rest u) y.1.0)))

      go : (xs : List (Bor (List ℕ))) (s : Chunks ℕ) (o : Option (Bor (List ℕ))) (j : F) (t : Chunks ℕ) → Yields chunks_steps s xs t → chunks_steps t o u
          → FoldsTo (λ p x q. Called g p (x, tt) false q) k xs j → MatchOption o (r ≡ false) (λ x. (r ≡ true) × ((h : F) × Called g j (x, tt) true h))
          → r ≡ ltb 0 (count f (chunks_rest s))
      go [] s o j t y z c m =
          subst (λ (w : Chunks ℕ). r ≡ ltb 0 (count f (chunks_rest w))) (sym y)
          (ends o t z (subst (λ (w : F). MatchOption o (r ≡ false) (λ x. (r ≡ true) × ((h : F) × Called g w (x, tt) true h))) (sym c) m))
      go (x ∷ xs) s o j t y z c m =
          let a = test x false c.0 c.1 in
          let n : count f x.now ≡ 0 = omega (arith, ltb-false 0 (count f x.now) (sym a.1)) in
          let e : count f (chunks_rest y.0) ≡ count f (chunks_rest s) = omega (arith, n, count_split (chunks_rest s) x.now (chunks_rest y.0) y.1.1.0) in
          go xs y.0 o j t y.2 z (subst (λ (w : F). FoldsTo (λ p x q. Called g p (x, tt) false q) w xs j) a.0 c.2) m ∙ ap (ltb 0) e

-- ---- characters

module _ (f : ℕ → ℕ) where
  abbrev pub is_character : ℕ → Bool
  is_character b = not (is_blank (f b))

  pub squeezed_none : (bs : List ℕ) → count is_character bs ≡ 0 → 0 ≡ length (squeezed Nothing (map f bs))
  unfolding added
  squeezed_none [] e = refl
  squeezed_none (b ∷ bs) e = go (is_blank (f b)) refl e (squeezed_none bs)
    where
      go : (t : Bool) → is_blank (f b) ≡ t → pick (not t) 1 0 + count is_character bs ≡ 0
          → (count is_character bs ≡ 0 → 0 ≡ length (squeezed Nothing (map f bs)))
          → 0 ≡ length (squeezed Nothing (map f (b ∷ bs)))
      go true u e r = rw u (r (omega arith))
      go false u e r = absurd (omega arith)

  pub squeezed_some : (behind : Behind) (bs : List ℕ) → 0 < count is_character bs → 0 < length (squeezed behind (map f bs))
  squeezed_some behind [] h = absurd (omega arith)
  squeezed_some behind (b ∷ bs) h = go (is_blank (f b)) refl h (squeezed_some (after (is_blank (f b)) behind) bs)
    where
      go : (t : Bool) → is_blank (f b) ≡ t → 0 < pick (not t) 1 0 + count is_character bs
          → (0 < count is_character bs → 0 < length (squeezed (after (is_blank (f b)) behind) (map f bs)))
          → 0 < length (squeezed behind (map f (b ∷ bs)))
      go true u h r =
          omega (arith, r (omega arith), length-append (added behind (f b)) (squeezed (after (is_blank (f b)) behind) (map f bs)))
      go false u h r =
          let a : length (added behind (f b)) ≡ pick (is_gap behind) 2 1 = added_length behind (f b) ∙ rw u refl in
          omega (arith, length-append (added behind (f b)) (squeezed (after (is_blank (f b)) behind) (map f bs)), gap (is_gap behind))
        where
          gap : (t : Bool) → 0 < pick {A = ℕ} t 2 1
          gap true = omega arith
          gap false = omega arith
