-- Laws of a line: one text after another is the two together, and a text with the gap behind it is a cell. Those of `Appended` are of a lent line:
-- a caller appends text after text from `used` on, lending the line anew to each call, and ends each cell with `append_padded`. Of what its calls
-- ensure, a and e the text and the gap of one cell, b and d those of the next, it says
--     appended_twice (appended_cell a 6 e) (appended_cell b 5 d) : Appended before used (padded 6 x ++ padded 5 y) after r
-- and so on, right or left, for more. From 0 on `.holds` of that is: take r after ≡ take (length before) (padded 6 x ++ padded 5 y).
use mathlib.Core.Bool.{Bool, true, false}
use mathlib.Core.Path.{◌≡◌, refl, sym, ap, ◌∙◌}
use mathlib.Core.List.{List, [], ◌∷◌, ◌++◌, append_assoc, append-nil}
use Prim.Native.Nat.{ℕ, zero, suc, ◌+◌, ◌-◌, ◌≤◌, min}
use native.Mathlib.Nat.{le_refl}
use native.Mathlib.Omega.{arith}
use lib.Dec.{leb}
use lib.ListN.{length, take, length-append, length-take, replicate-append-replicate}
use lib.Seq.{take-nil, take-append-add, take-append-le, take_all, take-take, length-take-le}
use borrow.Author.Tests.{leb-true, leb-false}
use borrow.Rule.Slice.PartMut.{put_mid, same_len_mid, mid_len}
use Rattle.std.proofs.lemmas.List.{take_min, take-replicate, length-replicate}
use Rattle.std.proofs.lemmas.Slice.{take-put_mid}
use Rattle.line.specs.Line.{with_text, Appended, blanks, gap, padded}

-- what finds room of a text is copied behind the bytes that are written: m stands there
pub text_written : (n u k : ℕ) (bytes t m l : List ℕ) → length bytes ≡ n → u ≤ n → k ≡ min (n - u) (length t) → m ≡ take k t → take u bytes ≡ l
    → take (u + k) (put_mid u (u + k - u) bytes m) ≡ with_text n l t
text_written n u k bytes t m l e h i j f =
    let a : length (take u bytes) ≡ u = length-take-le u bytes (omega arith) in
    let b : length m ≡ k = ap length j ∙ length-take-le k t (omega arith) in
    let d : n ≡ length (take u bytes) + (n - u) = omega arith in
    take-put_mid u (u + k - u) bytes m (u + k) (omega arith) (omega arith)
    ∙ rw (j, i, take_min (n - u) t, ← f) (sym (ap (λ (x : ℕ). take x (take u bytes ++ t)) d ∙ take-append-add (take u bytes) t (n - u)))

-- what is cut is cut once
cut_again : (n : ℕ) (x t : List ℕ) → take n (take n x ++ t) ≡ take n (x ++ t)
cut_again zero x t = refl
cut_again (suc n) [] t = refl
cut_again (suc n) (y ∷ x) t = ap (λ (l : List ℕ). y ∷ l) (cut_again n x t)

-- what follows a line is cut before or after it is put there
cut_before : (n m : ℕ) (l t : List ℕ) → n ≤ m → take n (l ++ take m t) ≡ take n (l ++ t)
cut_before n m [] t h = take-take n m t h
cut_before zero m (y ∷ l) t h = refl
cut_before (suc n) m (y ∷ l) t h = ap (λ (x : List ℕ). y ∷ x) (cut_before n m l t (omega arith))

-- of more blanks than a line has room for, so many as it has room for are seen
pub blanks_enough : (n c k : ℕ) (l : List ℕ) → k ≡ min c n → with_text n l (take k (blanks n)) ≡ with_text n l (blanks c)
blanks_enough n c k l e =
    let a : take k (blanks n) ≡ take k (blanks c) = take-replicate k n 0x20 (omega (arith, e)) ∙ sym (take-replicate k c 0x20 (omega (arith, e))) in
    let b : k ≡ min n (length (blanks c)) = rw length-replicate (omega (arith, e)) in
    ap (with_text n l) (a ∙ rw b (take_min n (blanks c))) ∙ cut_before n n l (blanks c) (le_refl n)

module _ (n : ℕ) (l s x : List ℕ) (e : x ≡ with_text n l s) where
  -- a text and then another is the two together
  pub text_twice : (t y : List ℕ) → y ≡ with_text n x t → y ≡ with_text n l (s ++ t)
  text_twice t y f = f ∙ rw e (cut_again n (l ++ s) t ∙ ap (take n) (append_assoc l s t))

  -- a line that is full holds no more, whatever comes
  text_full : n ≤ length (l ++ s) → (t : List ℕ) → with_text n x t ≡ x
  text_full h t = rw e (cut_again n (l ++ s) t ∙ take-append-le n (l ++ s) t h)

  -- a text, and the gap behind what was written of it, is a cell
  pub text_cell : (width start : ℕ) (y : List ℕ) → start ≡ length l → y ≡ with_text n x (gap width (length x - start)) → y ≡ with_text n l (padded width s)
  unfolding padded
  text_cell width start y d f = go (leb (length (l ++ s)) n) refl
    where
      go : (v : Bool) → leb (length (l ++ s)) n ≡ v → y ≡ with_text n l (s ++ gap width (length s))
      go true v =
          let h : length (l ++ s) ≤ n = leb-true (length (l ++ s)) n v in
          let k : length x - start ≡ length s = omega (arith, d, ap length (e ∙ take_all n (l ++ s) h), length-append l s) in
          text_twice (gap width (length s)) y (rw k at f)
      go false v =
          let h : n ≤ length (l ++ s) = omega (arith, leb-false (length (l ++ s)) n v) in
          f ∙ text_full h _ ∙ sym (text_full h (gap width (length s))) ∙ text_twice (gap width (length s)) _ refl

-- ---- a lent line

-- to take as many as there are is to take them all
take_least : (m n : ℕ) (l : List ℕ) → m ≡ min n (length l) → take m l ≡ take n l
take_least m n [] e = take-nil m ∙ sym (take-nil n)
take_least zero zero (x ∷ l) e = refl
take_least zero (suc n) (x ∷ l) e = absurd (omega arith)
take_least (suc m) zero (x ∷ l) e = absurd (omega arith)
take_least (suc m) (suc n) (x ∷ l) e = ap (λ (k : List ℕ). x ∷ k) (take_least m n l (omega arith))

-- a part of the line, n bytes from s on, takes n bytes of t: m stands there
pub appended_copied : (b : List ℕ) (u : ℕ) (t : List ℕ) (s n : ℕ) → s ≡ min u (length b) → n ≡ min (length t) (length b - s) → (m : List ℕ)
    → m ≡ take n t → Appended b u t (put_mid s (s + n - s) b m) (s + n)
appended_copied b u t s n e f m g =
    let i : length (put_mid s (s + n - s) b m) ≡ length b =
    same_len_mid s (s + n - s) b m (omega (arith, ap length g, length-take-le n t (omega arith), mid_len s (s + n) b (omega arith))) in
    record {
      holds = text_written (length b) s n b t m (take u b) refl (omega arith) (omega arith) g (take_least s u b e);
      within = omega (arith, i);
      as_long = i;
    }

-- nothing is put
pub appended_none : (b : List ℕ) (u : ℕ) → u ≤ length b → Appended b u [] b u
appended_none b u h = record {
  holds = sym (rw (append-nil (take u b)) (take_all (length b) (take u b) (omega (arith, length-take-le u b h))));
  within = h;
  as_long = refl;
}

module _ {b : List ℕ} {u : ℕ} {s a : List ℕ} {r : ℕ} {t c : List ℕ} {q : ℕ} where
  -- a text and then another is the two together
  pub appended_twice : Appended b u s a r → Appended a r t c q → Appended b u (s ++ t) c q
  appended_twice e f = record {
    holds = f.holds ∙ rw (e.as_long, e.holds, cut_again (length b) (take u b ++ s) t, append_assoc (take u b) s t) refl;
    within = f.within;
    as_long = f.as_long ∙ e.as_long;
  }

  -- blanks and then more
  pub appended_blanks : (m n k : ℕ) → k ≡ m + n → s ≡ blanks m → t ≡ blanks n → Appended b u s a r → Appended a r t c q → Appended b u (blanks k) c q
  appended_blanks m n k h x y e f = rw (h, ← replicate-append-replicate {A = ℕ} m n 0x20, ← x, ← y) (appended_twice e f)

  -- a line that is full holds no more, whatever comes
  appended_full : Appended b u s a r → Appended a r t c q → length b ≤ length (take u b ++ s) → (v : List ℕ) → Appended b u (s ++ v) c q
  appended_full e f h v =
      let g : Appended b u (s ++ t) c q = appended_twice e f in
      let cut : (w : List ℕ) → take (length b) (take u b ++ (s ++ w)) ≡ take (length b) (take u b ++ s) =
      λ w. rw (← append_assoc (take u b) s w) (take-append-le (length b) (take u b ++ s) w h) in
      record { holds = g.holds ∙ cut t ∙ sym (cut v); within = g.within; as_long = g.as_long }

module _ {b : List ℕ} {u : ℕ} {t a : List ℕ} {r : ℕ} (e : Appended b u t a r) where
  -- how many bytes are written then
  pub appended_count : r ≡ min (length b) (length (take u b ++ t))
  appended_count = sym (length-take-le r a e.within) ∙ ap length e.holds ∙ length-take (length b) (take u b ++ t)

  -- a text that finds room is all there
  pub appended_whole : length (take u b ++ t) ≤ length b → take r a ≡ take u b ++ t
  appended_whole h = e.holds ∙ take_all (length b) (take u b ++ t) h

  -- a text, and the gap behind what was written of it, is a cell
  pub appended_cell : (width : ℕ) {c : List ℕ} {q : ℕ} → Appended a r (gap width (r - u)) c q → Appended b u (padded width t) c q
  unfolding padded
  appended_cell width {c} {q} f = go (leb (length (take u b ++ t)) (length b)) refl
    where
      go : (v : Bool) → leb (length (take u b ++ t)) (length b) ≡ v → Appended b u (t ++ gap width (length t)) c q
      go true v =
          let h : length (take u b ++ t) ≤ length b = leb-true (length (take u b ++ t)) (length b) v in
          let k : r - u ≡ length t = omega (arith, appended_count, length-append (take u b) t, length-take u b) in
          rw k at (appended_twice e f)
      go false v =
          appended_full e f (omega (arith, leb-false (length (take u b ++ t)) (length b) v)) (gap width (length t))

  -- the bytes that are written of a line with room for n, which held l
  pub appended_text : (n : ℕ) (l : List ℕ) → length b ≡ n → take u b ≡ l → take r a ≡ with_text n l t
  appended_text n l h k = e.holds ∙ rw (h, k) refl
