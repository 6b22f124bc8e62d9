-- A length byte of 1 to 64, its bytes inside the descriptor, and all of them name characters.
use Rattle.std.proofs.Common.{rules, not}
use Rattle.text.specs.Chars.{is_name_char}
use Rattle.compact.specs.Compact.{stop_at}
use Rattle.compact.proofs.Stops.{stops_later, name_whole, name_broken}
use Rattle.compact.proofs.name_here.Goals as goal

pub returns-then-not-contains-clause-ends : goal.returns-then-not-contains-clause-ends
returns-then-not-contains-clause-ends c = stops_later _ _ _ _ c.requires.in_range.0 c.requires.stops

pub returns-then-end-start-clause-ends : goal.returns-then-end-start-clause-ends
returns-then-end-start-clause-ends c = stops_later _ _ _ _ c.requires.in_range.0 c.requires.stops

pub returns-then-offset-stop-clause-ends : goal.returns-then-offset-stop-clause-ends
returns-then-offset-stop-clause-ends c = stops_later _ _ _ _ c.requires.in_range.0 c.requires.stops

pub returns-in-Some-clause-finds : goal.returns-in-Some-clause-finds
unfolding stop_at
returns-in-Some-clause-finds c =
    let other = c.in-Some.ensures (λ byte. not (is_name_char byte)) (λ byte answer small post. search rules) in
    (name_broken _ _ _ c.requires.in_range.1 (search rules) c.if-end-start.false _ other).0

pub returns-in-Some-clause-ends : goal.returns-in-Some-clause-ends
unfolding stop_at
returns-in-Some-clause-ends c =
    let other = c.in-Some.ensures (λ byte. not (is_name_char byte)) (λ byte answer small post. search rules) in
    (name_broken _ _ _ c.requires.in_range.1 (search rules) c.if-end-start.false _ other).1

pub returns-in-None-clause-finds : goal.returns-in-None-clause-finds
unfolding stop_at
returns-in-None-clause-finds c =
    name_whole _ _ _ c.requires.in_range.1 (search rules) c.if-end-start.false
    (c.in-None.ensures (λ byte. not (is_name_char byte)) (λ byte answer small post. search rules))
