-- Words that are a column's, words that are none's, and a place past the last.
use Rattle.std.proofs.Common.{sym, ◌∙◌, ap, arith, Some, List, ℕ, get_or}
use borrow.Author.Tests.{ltb-false}
use Rattle.std.specs.Option.{is_some}
use Rattle.types.specs.declared.ColumnMetadata.{ColumnMetadata}
use Rattle.column_words.proofs.Chunks.{get_some, get_none, get_past}
use Rattle.column_words.proofs.column_get.Goals as goal

pub returns-in-Some : goal.returns-in-Some
returns-in-Some c =
    let x = c.in-Some.ensures.lookup in
    ap (λ (d : ColumnMetadata). Some d) c.column_at.ensures
    ∙ get_some c.args.words.now c.args.i c.in-Some.column.now (omega arith) (x.1 ∙ ap (λ (l : List (List ℕ)). get_or l c.args.i c.in-Some.column.now) c.as_chunks.ensures.front) (sym c.is_column.ensures ∙ c.if-is_column.true)

pub returns-in_default : goal.returns-in_default
returns-in_default c =
    let x = c.in-Some.ensures.lookup in
    get_none c.args.words.now c.args.i c.in-Some.column.now (omega arith) (x.1 ∙ ap (λ (l : List (List ℕ)). get_or l c.args.i c.in-Some.column.now) c.as_chunks.ensures.front) (sym c.is_column.ensures ∙ c.if-is_column.false)

pub returns-in_default-2 : goal.returns-in_default-2
returns-in_default-2 c =
    let le = ltb-false _ _ (sym c.get.ensures.lookup.0 ∙ ap is_some c.in_default.is) in
    get_past c.args.words.now c.args.i (omega (arith, le))
