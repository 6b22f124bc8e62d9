-- Either of the two readings of the bytes.
use Rattle.std.proofs.Common.{sym, ◌∙◌, arith}
use Rattle.codepage.specs.Page.{page037}
use Rattle.text.proofs.Generated.{spells_037}
use Rattle.generated.proofs.Quick.{generated_first, generated_second}
use Rattle.generated.proofs.is_generated_string.Goals as goal

pub returns-then-is_generated : goal.returns-then-is_generated
returns-then-is_generated c =
    c.if-is_generated.true ∙ generated_first page037 spells_037 (λ e. omega (arith, e)) _ (sym c.is_generated.ensures ∙ c.if-is_generated.true)

pub returns-else-is_generated : goal.returns-else-is_generated
returns-else-is_generated c =
    generated_second page037 spells_037 (λ e. omega (arith, e)) _ _
    (sym c.is_generated.ensures ∙ c.if-is_generated.false) c.is_generated_trimmed.ensures
