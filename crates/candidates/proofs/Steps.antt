-- The candidates from a position on, one position at a time, and from one candidate to the next.
use Rattle.std.proofs.Common.{◌≡◌, refl, sym, ◌∙◌, Bool, true, false, Option, Some, None, List, [], ◌∷◌, ℕ, zero, suc, ◌+◌, ◌-◌, ◌≤◌, ◌<◌, ltb, leb, arith, length, add-one, ◌*◌, get_or}
use Rattle.std.proofs.lemmas.Bool.{lt-leb}
use borrow.Author.Tests.{lt-ltb, le-ltb, ltb-true, ltb-false, leb-true, leb-false}
use Rattle.search.specs.Search.{pick, front}
use Rattle.search.specs.Walks.{first_of, first}
use Rattle.search.proofs.Index.{first_more, first_found, first_done}
use Rattle.field.specs.declared.ByteOrder.TheVariants.{BigEndian}
use Rattle.field.specs.Numbers.{number}
use Rattle.text.specs.declared.Text.{Text}
use Rattle.std.specs.Iterator.{YieldsFirst}
use Rattle.candidates.specs.declared.Candidates.{Candidates}
use Rattle.candidates.specs.Candidates.{string_text_at, is_candidate, is_kept, kept_at, candidates_in, candidates_from}
use Rattle.candidates.specs.View.{left, next_at, next_candidate, shown}

pub candidates_over : (s : List ℕ) (last : Option Text) (p : ℕ) → length s ≤ p → candidates_from s last p ≡ []
unfolding candidates_from candidates_in
candidates_over s last p h = let k : length s - p ≡ 0 = omega arith in rw k refl

-- the length at p, by its two bytes
pub length_at : (s : List ℕ) (p : ℕ) → number BigEndian 2 s p ≡ get_or s p 0 * 256 + get_or s (p + 1) 0
unfolding number
length_at s p = rw (add-one p) (omega arith)

module _ (s : List ℕ) (last : Option Text) (p : ℕ) where
  -- the one at p, if it is kept, heads those from p on
  pub candidates_step : p < length s → candidates_from s last p
      ≡ front (is_kept s last p) (string_text_at s p) (candidates_from s (pick (is_kept s last p) (Some (string_text_at s p)) last) (p + 1))
  unfolding candidates_from candidates_in
  candidates_step h =
      let k : length s - p ≡ suc (length s - (p + 1)) = omega arith in
      rw (k, add-one p) refl

  skip : is_kept s last p ≡ false → candidates_from s last p ≡ candidates_from s last (p + 1)
  skip e = go (ltb p (length s)) refl
    where
      go : (b : Bool) → ltb p (length s) ≡ b → candidates_from s last p ≡ candidates_from s last (p + 1)
      go true f = candidates_step (ltb-true p (length s) f) ∙ rw e refl
      go false f =
          let h = ltb-false p (length s) f in
          candidates_over s last p h ∙ sym (candidates_over s last (p + 1) (omega arith))

  pub none_at : is_candidate s p ≡ false → candidates_from s last p ≡ candidates_from s last (p + 1)
  unfolding is_kept
  none_at e = skip (rw e refl)

  pub none_kept : kept_at s last p ≡ None → candidates_from s last p ≡ candidates_from s last (p + 1)
  unfolding kept_at
  none_kept e = go (is_kept s last p) refl
    where
      go : (b : Bool) → is_kept s last p ≡ b → candidates_from s last p ≡ candidates_from s last (p + 1)
      go true f = let k = rw f at e in absurd cc
      go false f = skip f

  pub one_kept : (t : Text) → p < length s → kept_at s last p ≡ Some t → candidates_from s last p ≡ t ∷ candidates_from s (Some t) (p + 1)
  unfolding kept_at
  one_kept t h e = go (is_kept s last p) refl
    where
      go : (b : Bool) → is_kept s last p ≡ b → candidates_from s last p ≡ t ∷ candidates_from s (Some t) (p + 1)
      go true f =
          let k = rw f at e in
          let g : string_text_at s p ≡ t = cc in
          candidates_step h ∙ rw (f, g) refl
      go false f = let k = rw f at e in absurd cc

  -- there is none behind the last but one byte
  pub none_left : length s ≤ p + 1 → candidates_from s last p ≡ []
  unfolding is_candidate
  none_left h = none_at (rw (lt-leb (p + 2) (length s) (omega arith)) refl) ∙ candidates_over s last (p + 1) h

module _ (s : List ℕ) where
  -- those from position q on, the first of them there
  abbrev headed : ℕ → List Text
  headed q = pick (ltb q (length s)) (string_text_at s q ∷ candidates_from s (Some (string_text_at s q)) (suc q)) []

  by_first : (last : Option Text) (k p : ℕ) → p + k ≡ length s → candidates_in s last k p ≡ headed (first_of (is_kept s last) k p)
  unfolding candidates_in candidates_from first_of
  by_first last zero p h = rw (le-ltb p (length s) (omega arith)) refl
  by_first last (suc k) p h = go (is_kept s last p) (by_first last k (suc p) (omega arith))
    where
      go : (b : Bool) → candidates_in s last k (suc p) ≡ headed (first_of (is_kept s last) k (suc p))
          → front b (string_text_at s p) (candidates_in s (pick b (Some (string_text_at s p)) last) k (suc p))
          ≡ headed (pick b p (first_of (is_kept s last) k (suc p)))
      go true e =
          let n : length s - suc p ≡ k = omega arith in
          rw (lt-ltb p (length s) (omega arith), n) refl
      go false e = e

  module _ (last : Option Text) (p : ℕ) where
    headed_at : candidates_from s last p ≡ headed (next_at s last p)
    unfolding candidates_from candidates_in first first_of
    headed_at = go (leb p (length s)) refl
      where
        go : (b : Bool) → leb p (length s) ≡ b → candidates_in s last (length s - p) p ≡ headed (first_of (is_kept s last) (length s - p) p)
        go true e = let h = leb-true p (length s) e in by_first last (length s - p) p (omega arith)
        go false e =
            let h = leb-false p (length s) e in
            let k : length s - p ≡ 0 = omega arith in
            rw (k, le-ltb p (length s) (omega arith)) refl

    -- the next candidate, wherever it is, heads those from p on
    pub candidates_next : candidates_from s last p
        ≡ shown (next_candidate s last p).text (candidates_from s (next_candidate s last p).text (next_candidate s last p).next)
    unfolding next_candidate
    candidates_next = headed_at ∙ go (ltb (next_at s last p) (length s)) refl
      where
        go : (b : Bool) → ltb (next_at s last p) (length s) ≡ b
            → headed (next_at s last p)
            ≡ shown (next_candidate s last p).text (candidates_from s (next_candidate s last p).text (next_candidate s last p).next)
        go true e = rw e refl
        go false e = rw e refl

  -- it is the same from one position on as from the next, where none is kept
  module _ (last : Option Text) (p : ℕ) where
    skip_at : is_kept s last p ≡ false → next_candidate s last p ≡ next_candidate s last (p + 1)
    unfolding next_candidate
    skip_at e = go (ltb p (length s)) refl
      where
        go : (b : Bool) → ltb p (length s) ≡ b → next_candidate s last p ≡ next_candidate s last (p + 1)
        go true f = rw (first_more (is_kept s last) (length s) p (next_at s last p) refl (ltb-true p (length s) f) e) refl
        go false f =
            let h = ltb-false p (length s) f in
            let a : p ≡ next_at s last p = first_done (is_kept s last) (length s) p (next_at s last p) refl h in
            let b : p + 1 ≡ next_at s last (p + 1) = first_done (is_kept s last) (length s) (p + 1) (next_at s last (p + 1)) refl (omega arith) in
            rw (← a, ← b, le-ltb p (length s) h, le-ltb (p + 1) (length s) (omega arith)) refl

    pub next_none_at : is_candidate s p ≡ false → next_candidate s last p ≡ next_candidate s last (p + 1)
    unfolding is_kept
    next_none_at e = skip_at (rw e refl)

    pub next_none_kept : kept_at s last p ≡ None → next_candidate s last p ≡ next_candidate s last (p + 1)
    unfolding kept_at
    next_none_kept e = go (is_kept s last p) refl
      where
        go : (b : Bool) → is_kept s last p ≡ b → next_candidate s last p ≡ next_candidate s last (p + 1)
        go true f = let k = rw f at e in absurd cc
        go false f = skip_at f

    pub next_one_kept : (t : Text) → p < length s → kept_at s last p ≡ Some t → next_candidate s last p ≡ record { text = Some t; next = p + 1 }
    unfolding kept_at next_candidate
    next_one_kept t h e = go (is_kept s last p) refl
      where
        go : (b : Bool) → is_kept s last p ≡ b → next_candidate s last p ≡ record { text = Some t; next = p + 1 }
        go true f =
            let k = rw f at e in
            let g : string_text_at s p ≡ t = cc in
            rw (← first_found (is_kept s last) (length s) p (next_at s last p) refl h f, lt-ltb p (length s) h, g, add-one p) refl
        go false f = let k = rw f at e in absurd cc

    pub next_none_left : length s ≤ p + 1 → next_candidate s last p ≡ record { text = None; next = length s }
    unfolding is_candidate next_candidate
    next_none_left h =
        let a : p + 1 ≡ next_at s last (p + 1) = first_done (is_kept s last) (length s) (p + 1) (next_at s last (p + 1)) refl h in
        next_none_at (rw (lt-leb (p + 2) (length s) (omega arith)) refl) ∙ rw (← a, le-ltb (p + 1) (length s) h) refl

-- a call of `next` takes the first of those that are left
pub left_next : (c d : Candidates) (r : Option Text) → YieldsFirst left c r d → left c ≡ shown r (left d)
left_next c d None h = h.0
left_next c d (Some t) h = h
