-- All arrays are columns', and no word is left over.
use Rattle.std.proofs.Common.{◌≡◌, refl, length, rules, tests, sym, ◌∙◌, arith}
use borrow.Author.Tests.{eqb-true}
use Rattle.std.proofs.lemmas.Iterator.{YieldsList-from_slice}
use Rattle.std.proofs.lemmas.Iterator.Search.{all_from_yields_List}
use Rattle.column_words.specs.Columns.{is_column}
use Rattle.column_words.proofs.Chunks.{arrays_are_columns}
use Rattle.column_words.proofs.are_columns.Goals as goal

pub returns-then-is_empty : goal.returns-then-is_empty
returns-then-is_empty c =
    let arrays = c.as_chunks.result.0.now in
    let all = all_from_yields_List (λ words. is_column words 0) _ _ c.all.result c.all.ensures.ran (YieldsList-from_slice arrays cc) (λ x b q k. search (rules, tests)) in
    let none : length c.as_chunks.result.1.now ≡ 0 = eqb-true _ _ (sym c.is_empty.ensures ∙ c.if-is_empty.true) in
    arrays_are_columns c.args.words.now c.all.result (omega arith) (all ∙ rw c.as_chunks.ensures.front refl)
