-- A status record from its parts.
use mathlib.Core.Path.{◌≡◌}
use mathlib.Core.Bool.{false}
use mathlib.Core.List.{List}
use Prim.Native.Nat.{ℕ}
use lib.IntN.{ℤ}
use Rattle.codepage.specs.Page.{Page}
use Rattle.strings.specs.declared.StringRead.{StringRead}
use Rattle.sqlca.specs.declared.Extension.{Extension}
use Rattle.sqlca.specs.Code.{code_of, state_bytes, proc_bytes, fixed_chars}
use Rattle.sqlca.specs.Extension.{extension_of}
use Rattle.sqlcard.specs.declared.SqlCard.{SqlCard}
use Rattle.sqlcard.specs.Card.{card_with}

abbrev pub card_of : ℤ → List ℕ → List ℕ → Extension → StringRead → SqlCard
card_of code state proc extension message = record {
  is_null = false;
  sqlcode = code;
  sqlstate = state;
  sqlerrproc = proc;
  sqlerrproc_length = 8;
  sqlerrd = extension.sqlerrd;
  rows_fetched = 0;
  rows_updated = extension.rows_updated;
  sqlwarn = extension.sqlwarn;
  message_place = message.place;
  message_length = message.length;
}

-- equal parts make equal records
pub card_made : (page : Page) (s : List ℕ) {code : ℤ} {state proc : List ℕ} {extension : Extension} {m t : StringRead} → code ≡ code_of s
    → state ≡ fixed_chars page (state_bytes s) → proc ≡ fixed_chars page (proc_bytes s) → extension ≡ extension_of s → m ≡ t
    → card_of code state proc extension m ≡ card_with page s t
unfolding card_with
card_made page s p q r e f = λ i. card_of (p i) (q i) (r i) (e i) (f i)
