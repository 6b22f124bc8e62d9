-- All of the decision's columns come from its iterator, and each one's words are written.
use Rattle.std.proofs.Common.{rules}
use Rattle.filling.proofs.Filling.{filled_left}
use Rattle.planned.specs.Columns.{columns_left}
use Rattle.column_words.specs.Words.{words_of, all_words}
use Rattle.column_words.proofs.Words.{words_length}
use Rattle.sqldard_words.proofs.fill_words.Goals as goal

pub returns-clause-fills : goal.returns-clause-fills
returns-clause-fills c =
    let puts = c.fill_blocks.ensures words_of (record { widths = words_length; puts = λ column old new post. search rules }) in
    filled_left columns_left all_words _ _ _ _ puts c.columns.ensures
