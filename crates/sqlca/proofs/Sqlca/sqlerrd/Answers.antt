-- The number at each index.
use Rattle.std.proofs.Common.{ℕ, ◌+◌, ◌*◌, rules}
use Rattle.field.specs.Numbers.{number, signed}
use Rattle.sqlca.specs.Code.{numbers_order}
use Rattle.sqlca.proofs.Made.{from_fn_made}
use Rattle.sqlca.proofs.Sqlca.sqlerrd.Goals as goal

pub returns : goal.returns
returns c =
    let s = c.args.self.reply.now in
    from_fn_made _ (λ (i : ℕ). signed (number (numbers_order s) 4 s (19 + 4 * i))) _ (λ i y f' k. search rules) _ 6 c.from_fn.ensures.items
