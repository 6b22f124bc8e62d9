-- The entry's refusal and part: whether the part has bytes.
use Rattle.std.proofs.Common.{ℕ, List, Bor, ap, ◌∙◌, refl}
use Rattle.outcome.specs.Refusal.{in_numbers}
use Rattle.text.specs.Text.{text_is}
use Rattle.entries.proofs.Parts.{part_given, part_empty, part_there}
use Rattle.entries.proofs.texts.name_part.Goals as goal

pub returns-then-count-eq0 : goal.returns-then-count-eq0
returns-then-count-eq0 c =
    let s = c.args.reply.now in
    let t = text_is c.args.place c.args.length c.args.alphabet in
    let given = c.given_part-part.ensures in
    let z =
    part_empty s t _
    (ap (λ (b : Bor (List ℕ)). b.now) c.unwrap_or-bytes.ensures
    ∙ part_given s t (λ (b : Bor (List ℕ)). b.now) c.given_part-part.result _ refl given.refuses given.gives)
    _
    (c.refusal_numbers-refusal.ensures ∙ ap in_numbers given.refuses)
    c.if-count-eq0.true in
    record { refuses = z.0; places = z.1.0; counts = z.1.1.0; gives = z.1.1.1 }

pub returns-else-count-eq0 : goal.returns-else-count-eq0
returns-else-count-eq0 c =
    let s = c.args.reply.now in
    let t = text_is c.args.place c.args.length c.args.alphabet in
    let given = c.given_part-part.ensures in
    let z =
    part_there s t _
    (ap (λ (b : Bor (List ℕ)). b.now) c.unwrap_or-bytes.ensures
    ∙ part_given s t (λ (b : Bor (List ℕ)). b.now) c.given_part-part.result _ refl given.refuses given.gives)
    _
    (c.refusal_numbers-refusal.ensures ∙ ap in_numbers given.refuses)
    c.if-count-eq0.false in
    record { refuses = z.0; places = z.1.0; counts = z.1.1.0; gives = z.1.1.1 }
