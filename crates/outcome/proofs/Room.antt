-- The two ways out of a function that writes a text to a lent buffer.
use mathlib.Core.Bool.{true, false}
use mathlib.Core.Path.{◌≡◌, refl}
use mathlib.Core.List.{List, [], ◌∷◌}
use Prim.Native.Nat.{ℕ, ◌<◌, ◌≤◌}
use lib.Dec.{ltb}
use lib.ListN.{length}
use borrow.Author.Tests.{lt-ltb, le-ltb}
use Rattle.search.specs.Search.{over}
use Rattle.outcome.specs.Room.{room_refusal, room_length, room_written}

-- a text for this buffer is refused so, is this long, and leaves the buffer so
pub record Answered (text buffer refusal : List ℕ) (n : ℕ) (left : List ℕ) : Type 0 where
  pub refuses : room_refusal text (length buffer) ≡ refusal
  pub gives : room_length text (length buffer) ≡ n
  pub leaves : room_written text buffer ≡ left

module _ (text buffer : List ℕ) where
  pub no_room : length buffer < length text → Answered text buffer (6 ∷ length text ∷ []) 0 buffer
  unfolding room_refusal room_length room_written
  no_room h =
      let k : ltb (length buffer) (length text) ≡ true = lt-ltb (length buffer) (length text) h in
      record { refuses = rw k refl; gives = rw k refl; leaves = rw k refl }

  pub has_room : length text ≤ length buffer → Answered text buffer (0 ∷ []) (length text) (over text buffer)
  unfolding room_refusal room_length room_written
  has_room h =
      let k : ltb (length buffer) (length text) ≡ false = le-ltb (length buffer) (length text) h in
      record { refuses = rw k refl; gives = rw k refl; leaves = rw k refl }
