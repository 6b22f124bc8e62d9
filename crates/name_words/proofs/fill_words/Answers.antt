-- All of the plan's names come from it, and each one's words are written.
use Rattle.std.proofs.Common.{rules, refl}
use Rattle.filling.proofs.Filling.{filled_left}
use Rattle.names.specs.Decision.{names_of_plan}
use Rattle.name_words.specs.Texts.{words_of_text, text_words}
use Rattle.name_words.proofs.fill_words.Goals as goal

pub returns : goal.returns
returns c =
    let puts = c.fill_blocks.ensures words_of_text (record { widths = λ text. refl; puts = λ text old new post. search rules }) in
    filled_left names_of_plan text_words _ _ _ _ puts refl
