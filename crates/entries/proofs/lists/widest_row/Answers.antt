-- The ways out, in the order of the refusals: 5, 255, and the widths added up.
use Rattle.std.proofs.Common.{ap, ◌∙◌, arith}
use Rattle.outcome.specs.Refusal.{in_numbers}
use Rattle.columns.specs.Row.{row_refusal, row_answer}
use Rattle.entries.proofs.Answers.{value_of, row_long, row_unread, row_read, row_none_of}
use Rattle.entries.proofs.lists.widest_row.Goals as goal

pub returns-then-columns-gt-MOST_COLUMNS-clause-refuses : goal.returns-then-columns-gt-MOST_COLUMNS-clause-refuses
returns-then-columns-gt-MOST_COLUMNS-clause-refuses c = c.from.ensures.0 ∙ ap in_numbers (row_long c.args.columns.now (omega arith)).0

pub returns-then-columns-gt-MOST_COLUMNS-clause-gives : goal.returns-then-columns-gt-MOST_COLUMNS-clause-gives
returns-then-columns-gt-MOST_COLUMNS-clause-gives c = c.from.ensures.1 ∙ (row_long c.args.columns.now (omega arith)).1

pub returns-in-Some-clause-refuses : goal.returns-in-Some-clause-refuses
returns-in-Some-clause-refuses c =
    let read = c.in-Some.ensures in
    let out = row_read c.args.columns.now (omega arith) read.0 in
    c.from-in-Some.ensures.0 ∙ ap in_numbers (c.widest_row_of.ensures.refuses ∙ ap row_refusal read.1 ∙ out.0)

pub returns-in-Some-clause-gives : goal.returns-in-Some-clause-gives
returns-in-Some-clause-gives c =
    let w = c.args.columns.now in
    let read = c.in-Some.ensures in
    let out = row_read w (omega arith) read.0 in
    c.from-in-Some.ensures.1
    ∙ value_of (λ v. v) c.widest_row_of.result (row_refusal (c.in-Some.columns)) (row_answer c.in-Some.columns) 0 c.widest_row_of.ensures.refuses (row_none_of c.in-Some.columns) c.widest_row_of.ensures.gives
    ∙ ap row_answer read.1 ∙ out.1

pub returns-in-None-clause-refuses : goal.returns-in-None-clause-refuses
returns-in-None-clause-refuses c = c.alone.ensures ∙ ap in_numbers (row_unread c.args.columns.now (omega arith) c.in-None.ensures).0

pub returns-in-None-clause-gives : goal.returns-in-None-clause-gives
returns-in-None-clause-gives c = (row_unread c.args.columns.now (omega arith) c.in-None.ensures).1
