use Rattle.vyrd_spec.proofs.RowAmounts.{row_set}
use Rattle.vyrd_spec.proofs.row.set_amount.Goals as goal

pub returns-clause-amounts : goal.returns-clause-amounts
returns-clause-amounts c = row_set c.args.row.now.items c.args.key c.args.amount c.requires
