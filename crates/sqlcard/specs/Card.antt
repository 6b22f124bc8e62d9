-- The status record (01, Answers).
use Rattle.std.specs.Prelude.{true, false, List, ℕ, pos, replicate}
use Rattle.codepage.specs.Page.{Page}
use Rattle.strings.specs.declared.StringRead.{StringRead}
use Rattle.sqlca.specs.Code.{code_of, state_bytes, proc_bytes, fixed_chars}
use Rattle.sqlca.specs.Extension.{extension_of}
use Rattle.sqlcard.specs.declared.SqlCard.{SqlCard}

-- the status record for success: null, code 0, state 00000, proc empty, all else 0 (01, Answers)
abbrev pub success_card : SqlCard
success_card = record {
  is_null = true;
  sqlcode = pos 0;
  sqlstate = replicate 5 0x30;
  sqlerrproc = replicate 8 0;
  sqlerrproc_length = 0;
  sqlerrd = replicate 6 (pos 0);
  rows_fetched = 0;
  rows_updated = 0;
  sqlwarn = replicate 11 0;
  message_place = 0;
  message_length = 0;
}

-- the status record of a reply whose SQLCA is not null, with its message (DRDA V1: SQLCAGRP, SQLCAXGRP; 01, Answers)
unfoldable pub card_with : Page → List ℕ → StringRead → SqlCard
card_with page s message = record {
  is_null = false;
  sqlcode = code_of s;
  sqlstate = fixed_chars page (state_bytes s);
  sqlerrproc = fixed_chars page (proc_bytes s);
  sqlerrproc_length = 8;
  sqlerrd = (extension_of s).sqlerrd;
  rows_fetched = 0;
  rows_updated = (extension_of s).rows_updated;
  sqlwarn = (extension_of s).sqlwarn;
  message_place = message.place;
  message_length = message.length;
}
