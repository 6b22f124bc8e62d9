-- `at` characters of the text are written, and what the bytes from there on give is left: written behind them, it makes the buffer that is promised.
use Rattle.std.proofs.Common.{◌≡◌, ◌+◌, length}
use Rattle.std.proofs.lemmas.List.Edits.{sets}
use Rattle.search.specs.Search.{over}
use Rattle.codepage.specs.Page.{page037}
use Rattle.message.specs.Message.{is_ascii, message_char, message_text}
use Rattle.message.proofs.Squeezed.{left}
use Rattle.message_text.proofs.write_text.Given as goal

abbrev pub invariant-loop-byte : goal.invariant-loop-byte
invariant-loop-byte l = record {
  counted : l.at + length (left (message_char page037 (is_ascii l.message.alphabet)) l.message.bytes.now l.behind l.byte-index)
      ≡ length (message_text page037 l.message.bytes.now);
  leaves : sets l.buffer l.at (left (message_char page037 (is_ascii l.message.alphabet)) l.message.bytes.now l.behind l.byte-index)
      ≡ over (message_text page037 l.message.bytes.now) l.fn.buffer;
}
