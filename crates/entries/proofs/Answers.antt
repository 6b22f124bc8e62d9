-- The ways out of same cut and widest row over words: too long, no columns, and as the lists are answered. And what a yes implies.
use mathlib.Core.Path.{◌≡◌, refl, sym, ◌∙◌}
use mathlib.Core.Bool.{Bool, true, false, false≢true, ◌&&◌, ◌||◌}
use mathlib.Core.List.{List, [], ◌∷◌}
use Prim.Native.Nat.{ℕ, ◌/◌, ◌≤◌, ◌<◌}
use native.Mathlib.Omega.{arith}
use lib.Dec.{ltb}
use lib.ListN.{length}
use borrow.Author.Tests.{lt-ltb, le-ltb}
use Rattle.std.proofs.Common.{IfOk, Option, None, Result, Ok, Err}
use Rattle.std.specs.Prelude.{unwrap_or}
use Rattle.std.specs.Result.{result_unwrap_or}
use Rattle.search.specs.Search.{pick}
use Rattle.outcome.specs.declared.Refusal.{Refusal}
use Rattle.outcome.specs.declared.Refusal.TheVariants.{EmptyReply, BufferTooShort, InvalidSqlcard, UnexpectedCodePoint, ReplyTooLong, RoomTooShort, OutsideReply, LargeObject}
use Rattle.outcome.specs.Refusal.{refusal_of, refusal_in, is_refused}
use Rattle.codepage.specs.Page.{Page}
use Rattle.sqlcard.specs.declared.SqlCard.{SqlCard}
use Rattle.sqlcard.specs.declared.Group.{Group}
use Rattle.sqlcard.specs.Card.{success_card}
use Rattle.sqlcard.specs.Alone.{alone_refusal, alone_card}
use Rattle.sqlcard.specs.Group.{group_refusal, group_card, group_length}
use Rattle.message_text.specs.Answer.{message_refusal, message_length}
use Rattle.column_name.specs.Part.{part_refusal}
use Rattle.column_name.specs.Name.{given_text, given_refusal, given_length}
use Rattle.text.specs.declared.Text.{Text}
use Rattle.outcome.specs.Room.{room_refusal, room_length}
use Rattle.entries.specs.Refused.{no_group}
use Rattle.types.specs.declared.ColumnMetadata.{ColumnMetadata}
use Rattle.columns.specs.Cut.{most_columns, cut_refusal, cut_answer}
use Rattle.columns.specs.Finer.{coarse_answer}
use Rattle.columns.specs.Row.{row_refusal, row_answer}
use Rattle.columns.proofs.Finer.{finer}
use Rattle.column_words.specs.Columns.{columns_in, are_columns}
use Rattle.column_words.proofs.Columns.{columns_length}
use Rattle.entries.specs.Lists.{no_columns, words_cut_refusal, words_cut_answer, WordsFiner, words_row_refusal, words_row_answer}

-- ---- an answer as a struct has it: its value, or that of a refusal

refused : (refusal : Refusal) → is_refused (refusal_of refusal) ≡ true
refused EmptyReply = refl
refused (BufferTooShort expected actual) = refl
refused InvalidSqlcard = refl
refused (UnexpectedCodePoint point) = refl
refused ReplyTooLong = refl
refused (RoomTooShort needed) = refl
refused OutsideReply = refl
refused (LargeObject number) = refl

-- f is the field, or the answer itself
pub value_of : {A B : Type 0} (f : A → B) (answer : Result A Refusal) (refusal : List ℕ) (value : B) (none : A) → refusal_in answer ≡ refusal
    → (is_refused refusal ≡ true → f none ≡ value) → IfOk answer (λ v. f v ≡ value) → f (result_unwrap_or answer none) ≡ value
value_of f (Ok v) refusal value none e n g = g
value_of f (Err r) refusal value none e n g = n (sym (λ i. is_refused (e i)) ∙ refused r)

-- ---- the status record

module _ (page : Page) (s : List ℕ) where
  pub alone_given : (answer : Result (Option SqlCard) Refusal) → refusal_in answer ≡ alone_refusal s
      → IfOk answer (λ card. unwrap_or card success_card ≡ alone_card page s) → unwrap_or (result_unwrap_or answer None) success_card ≡ alone_card page s
  unfolding alone_card
  alone_given answer e g =
      value_of (λ card. unwrap_or card success_card) answer (alone_refusal s) (alone_card page s) None e (λ h. rw h refl) g

  module _ (answer : Result Group Refusal) (e : refusal_in answer ≡ group_refusal s) where
    pub group_given : IfOk answer (λ group. group.card ≡ group_card page s) → (result_unwrap_or answer no_group).card ≡ group_card page s
    unfolding group_card
    group_given g = value_of (λ (group : Group). group.card) answer (group_refusal s) (group_card page s) no_group e (λ h. rw h refl) g

    pub group_taken : IfOk answer (λ group. group.length ≡ group_length s) → (result_unwrap_or answer no_group).length ≡ group_length s
    unfolding group_length
    group_taken g = value_of (λ (group : Group). group.length) answer (group_refusal s) (group_length s) no_group e (λ h. rw h refl) g

  -- ---- the texts

  pub message_given : (p n room : ℕ) (answer : Result ℕ Refusal) → refusal_in answer ≡ message_refusal page s p n room
      → IfOk answer (λ count. count ≡ message_length page s p n room) → result_unwrap_or answer 0 ≡ message_length page s p n room
  unfolding message_length
  message_given p n room answer e g =
      value_of (λ count. count) answer (message_refusal page s p n room) (message_length page s p n room) 0 e (λ h. rw h refl) g

  pub name_given : (number : ℕ) (t : Text) (room : ℕ) (answer : Result ℕ Refusal) → refusal_in answer ≡ given_refusal page s number t room
      → IfOk answer (λ count. count ≡ given_length page s number t room) → result_unwrap_or answer 0 ≡ given_length page s number t room
  unfolding given_refusal given_length room_refusal room_length
  name_given number t room answer e g =
      value_of (λ count. count) answer (given_refusal page s number t room) (given_length page s number t room) 0 e
      (none (is_refused (part_refusal s t)) (ltb room (length (given_text page s number t))) (part_refusal s t) _) g
    where
      none : (refused short : Bool) (refusal : List ℕ) (n : ℕ) → is_refused (pick refused refusal (pick short (6 ∷ n ∷ []) (0 ∷ []))) ≡ true
          → 0 ≡ pick refused 0 (pick short 0 n)
      none true short refusal n h = refl
      none false true refusal n h = refl
      none false false refusal n h = absurd (false≢true h)

-- ---- same cut

module _ (a b : List ℕ) where
  pub cut_long : (ltb most_columns (length a / 22) || ltb most_columns (length b / 22)) ≡ true → (5 ∷ [] ≡ words_cut_refusal a b) × (false ≡ words_cut_answer a b)
  unfolding words_cut_refusal words_cut_answer cut_answer cut_refusal
  cut_long h = (rw (columns_length a, columns_length b, h) refl, rw (columns_length a, columns_length b, h) (no (are_columns a && are_columns b)))
    where
      no : (x : Bool) → false ≡ pick x false false
      no true = refl
      no false = refl

  module _ (h : (ltb most_columns (length a / 22) || ltb most_columns (length b / 22)) ≡ false) where
    pub cut_unread : (are_columns a && are_columns b) ≡ false → (no_columns ≡ words_cut_refusal a b) × (false ≡ words_cut_answer a b)
    unfolding words_cut_refusal words_cut_answer
    cut_unread g = (rw (columns_length a, columns_length b, h, g) refl, rw g refl)

    pub cut_read : are_columns a ≡ true → are_columns b ≡ true
        → (cut_refusal (columns_in a) (columns_in b) ≡ words_cut_refusal a b) × (cut_answer (columns_in a) (columns_in b) ≡ words_cut_answer a b)
    unfolding words_cut_refusal words_cut_answer
    cut_read f g = (rw (columns_length a, columns_length b, h, f, g) refl, rw (f, g) refl)

-- words that stand for no columns are answered no
pub words_finer : (a b : List ℕ) → WordsFiner a b
unfolding words_cut_answer
words_finer a b = record { implies = go (are_columns a && are_columns b) }
  where
    go : (t : Bool) → pick t (cut_answer (columns_in a) (columns_in b)) false ≡ true → coarse_answer (columns_in a) (columns_in b) ≡ true
    go true e = (finer (columns_in a) (columns_in b)).answer_implies e
    go false e = absurd (false≢true e)

-- ---- widest row

module _ (w : List ℕ) where
  pub row_long : most_columns < length w / 22 → (5 ∷ [] ≡ words_row_refusal w) × (◌≡◌ {A = ℕ} 0 (words_row_answer w))
  unfolding words_row_refusal words_row_answer row_answer row_refusal
  row_long h =
      let l : ltb most_columns (length (columns_in w)) ≡ true = lt-ltb most_columns (length (columns_in w)) (omega (arith, columns_length w)) in
      (rw l refl, rw l (no (are_columns w)))
    where
      no : (x : Bool) → ◌≡◌ {A = ℕ} 0 (pick x 0 0)
      no true = refl
      no false = refl

  pub row_unread : length w / 22 ≤ most_columns → are_columns w ≡ false → (no_columns ≡ words_row_refusal w) × (◌≡◌ {A = ℕ} 0 (words_row_answer w))
  unfolding words_row_refusal words_row_answer
  row_unread h g =
      let l : ltb most_columns (length (columns_in w)) ≡ false = le-ltb most_columns (length (columns_in w)) (omega (arith, columns_length w)) in
      (rw (l, g) refl, rw g refl)

  pub row_read : length w / 22 ≤ most_columns → are_columns w ≡ true
      → (row_refusal (columns_in w) ≡ words_row_refusal w) × (row_answer (columns_in w) ≡ words_row_answer w)
  unfolding words_row_refusal words_row_answer
  row_read h g =
      let l : ltb most_columns (length (columns_in w)) ≡ false = le-ltb most_columns (length (columns_in w)) (omega (arith, columns_length w)) in
      (rw (l, g) refl, rw g refl)

-- ---- where the lists are refused, whatever they are

pub cut_none : (a b : List ColumnMetadata) → is_refused (cut_refusal a b) ≡ true → false ≡ cut_answer a b
unfolding cut_answer
cut_none a b h = rw h refl

pub row_none_of : (l : List ColumnMetadata) → is_refused (row_refusal l) ≡ true → ◌≡◌ {A = ℕ} 0 (row_answer l)
unfolding row_answer
row_none_of l h = rw h refl
