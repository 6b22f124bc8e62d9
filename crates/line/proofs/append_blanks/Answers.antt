-- As many blanks as find room are written behind the bytes that are written.
use Rattle.std.proofs.Common.{arith, ap, sym, ◌∙◌, length, ◌+◌, ◌-◌, ◌≡◌}
use Rattle.std.proofs.lemmas.List.{take-replicate, length-replicate}
use Prim.Native.Nat.{min}
use lib.ListN.{take}
use borrow.Rule.Slice.PartMut.{mid_len, mid_of}
use Rattle.line.specs.Line.{blanks}
use Rattle.line.proofs.Appends.{appended_copied}
use Rattle.line.proofs.append_blanks.Goals as goal

pub returns : goal.returns
returns c =
    let a = c.args in
    let s = c.min-start.result in
    let n = c.min.result in
    let k : n ≡ min (length (blanks a.count)) (length a.line.now - s) = rw length-replicate c.min.ensures in
    let w : length (mid_of s (s + n - s) a.line.now) ≡ s + n - s = mid_len s (s + n) a.line.now (omega (arith, c.min-start.ensures, c.min.ensures)) in
    let d : s + n - s ≡ n = omega arith in
    let f : blanks n ≡ take n (blanks a.count) = sym (take-replicate n a.count 0x20 (omega (arith, c.min.ensures))) in
    appended_copied a.line.now a.used (blanks a.count) s n c.min-start.ensures k c.fill.new.self
    (c.fill.ensures.after (λ y h. h) ∙ ap blanks (w ∙ d) ∙ f)
