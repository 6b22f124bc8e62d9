-- The status read alone: its message, what is past it, and its record.
use mathlib.Core.Path.{◌≡◌, refl}
use mathlib.Core.Bool.{true, false}
use mathlib.Core.List.{List}
use Prim.Native.Nat.{ℕ, ◌≤◌}
use lib.Dec.{leb}
use lib.ListN.{length}
use borrow.Author.Tests.{le-leb}
use Rattle.std.proofs.Common.{rules}
use Rattle.codepage.specs.Page.{Page}
use Rattle.strings.specs.Strings.{no_string}
use Rattle.sqlca.specs.Extension.{is_extended}
use Rattle.sqlca.specs.Message.{message_at}
use Rattle.sqlca.proofs.Messages.{message_next}
use Rattle.sqlcard.specs.Card.{success_card, card_with}
use Rattle.sqlcard.specs.Alone.{is_null, alone_end, alone_message, alone_refusal, alone_card}

module _ (page : Page) (s : List ℕ) where
  pub message_absent : is_extended s ≡ false → alone_message page s ≡ no_string 19
  unfolding alone_message
  message_absent e = rw e refl

  pub message_behind_warnings : is_extended s ≡ true → 54 ≤ length s → alone_message page s ≡ message_at page s 54
  unfolding alone_message
  message_behind_warnings e h =
      let k : leb 54 (length s) ≡ true = le-leb 54 (length s) h in
      rw (e, k) refl

  -- past the message is past the status
  pub alone_next : (alone_message page s).next ≡ alone_end s
  unfolding alone_message alone_end
  alone_next = search (rules, message_next)

  -- a null status, whatever follows
  pub null_card : is_null s ≡ true → alone_card page s ≡ success_card
  unfolding alone_card alone_refusal
  null_card e = rw e (search rules)

  pub read_card : length s ≤ 65536 → is_null s ≡ false → 19 ≤ length s → alone_end s ≤ length s → alone_card page s ≡ card_with page s (alone_message page s)
  unfolding alone_card alone_refusal
  read_card h e k l = rw e (search rules)
