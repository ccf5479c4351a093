use Rattle.std.proofs.Common.{◌≡◌, ◌∙◌, get_or, rules, sym}
use Rattle.vyrd_spec.proofs.RowAmounts.{row_amount}
use Rattle.vyrd_spec.proofs.row.amount_at.Goals as goal

pub returns : goal.returns
returns c =
    let there : c.unwrap_or.result ≡ get_or c.args.row.now c.args.key 0 = search rules in
    there ∙ sym (row_amount c.args.row.now c.args.key)
