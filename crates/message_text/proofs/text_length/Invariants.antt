-- `length` characters of the text are passed, and what the bytes from there on give is left.
use Rattle.std.proofs.Common.{◌≡◌, ◌+◌, length}
use Rattle.codepage.specs.Page.{page037}
use Rattle.message.specs.Message.{is_ascii, message_char, message_text}
use Rattle.message.proofs.Squeezed.{left}
use Rattle.message_text.proofs.text_length.Given as goal

abbrev pub invariant-loop-byte : goal.invariant-loop-byte
invariant-loop-byte l =
    l.length + length (left (message_char page037 (is_ascii l.message.alphabet)) l.message.bytes.now l.behind l.byte-index)
    ≡ length (message_text page037 l.message.bytes.now)
