-- The blocks, asked for a character one after another.
use Rattle.std.proofs.Common.{sym, refl, ◌∙◌, ℕ, Bool, rules}
use Rattle.codepage.specs.Page.{page037}
use Rattle.message.specs.Message.{is_ascii, message_char}
use Rattle.message.proofs.Blocks.{is_character, any_block}
use Rattle.message.proofs.Text.{has_text_is}
use Rattle.message.proofs.Message.has_text.Goals as goal

pub returns : goal.returns
returns c =
    let f : ℕ → Bool = is_character (message_char page037 (is_ascii c.args.self.alphabet)) in
    any_block f c.any.result (λ block passed after called. search rules) c.chunks.result c.any.ensures.ran
    ∙ sym (has_text_is page037 c.args.self.bytes.now ∙ rw (sym c.args.self.decided, c.chunks.ensures.rest) refl)
