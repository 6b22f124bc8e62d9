-- The ways out, in the order of the refusals: 5, 255, and the lists compared.
use Rattle.std.proofs.Common.{◌≡◌, ap, refl, ◌∙◌, Bool, true, false, ◌&&◌}
use Rattle.column_words.specs.Columns.{are_columns}
use Rattle.outcome.specs.Refusal.{in_numbers}
use Rattle.columns.specs.Cut.{cut_refusal, cut_answer}
use Rattle.entries.proofs.Answers.{value_of, cut_long, cut_unread, cut_read, cut_none}
use Rattle.entries.proofs.lists.same_cut.Goals as goal
use Rattle.entries.proofs.lists.same_cut.Goals.{in_default-via-in-Some+in_default, in_default-via-in_default}

first_not : {x : Bool} (y : Bool) → x ≡ false → (x && y) ≡ false
first_not y e = rw e refl

second_not : {y : Bool} (x : Bool) → y ≡ false → (x && y) ≡ false
second_not true e = e
second_not false e = refl

pub returns-then-first-second-clause-refuses : goal.returns-then-first-second-clause-refuses
returns-then-first-second-clause-refuses c = c.from.ensures.0 ∙ ap in_numbers (cut_long c.args.first.now c.args.second.now c.if-first-second.true).0

pub returns-then-first-second-clause-gives : goal.returns-then-first-second-clause-gives
returns-then-first-second-clause-gives c = c.from.ensures.1 ∙ (cut_long c.args.first.now c.args.second.now c.if-first-second.true).1

pub returns-in-Some-Some-clause-refuses : goal.returns-in-Some-Some-clause-refuses
returns-in-Some-Some-clause-refuses c =
    let first = c.in-Some-Some.ensures in
    let second = c.in-Some-Some.ensures' in
    let out = cut_read c.args.first.now c.args.second.now c.if-first-second.false first.0 second.0 in
    c.from-in-Some-Some.ensures.0 ∙ ap in_numbers (c.same_cut_of.ensures.refuses ∙ rw (first.1, second.1) refl ∙ out.0)

pub returns-in-Some-Some-clause-gives : goal.returns-in-Some-Some-clause-gives
returns-in-Some-Some-clause-gives c =
    let first = c.in-Some-Some.ensures in
    let second = c.in-Some-Some.ensures' in
    let out = cut_read c.args.first.now c.args.second.now c.if-first-second.false first.0 second.0 in
    let a = c.in-Some-Some.first in
    let b = c.in-Some-Some.second in
    c.from-in-Some-Some.ensures.1
    ∙ value_of (λ v. v) c.same_cut_of.result (cut_refusal a b) (cut_answer a b) false c.same_cut_of.ensures.refuses (cut_none a b) c.same_cut_of.ensures.gives
    ∙ rw (first.1, second.1) refl ∙ out.1

pub returns-in_default-clause-refuses : goal.returns-in_default-clause-refuses
returns-in_default-clause-refuses c =
    let out = cut_unread c.args.first.now c.args.second.now c.if-first-second.false in
    c.alone.ensures
    ∙ elim c.in_default.branch [
      | in_default-via-in-Some+in_default w ↦ ap in_numbers (out (second_not (are_columns c.args.first.now) w.in_default.ensures')).0
      | in_default-via-in_default w ↦ ap in_numbers (out (first_not (are_columns c.args.second.now) w.in_default.ensures)).0
    ]

pub returns-in_default-clause-gives : goal.returns-in_default-clause-gives
returns-in_default-clause-gives c =
    let out = cut_unread c.args.first.now c.args.second.now c.if-first-second.false in
    elim c.in_default.branch [
      | in_default-via-in-Some+in_default w ↦ (out (second_not (are_columns c.args.first.now) w.in_default.ensures')).1
      | in_default-via-in_default w ↦ (out (first_not (are_columns c.args.second.now) w.in_default.ensures)).1
    ]
