use Rattle.vyrd_work.proofs.ItemLaws.{item_is}
use Rattle.vyrd_work.proofs.line.read_item.Goals as goal

pub returns-clause-read : goal.returns-clause-read
returns-clause-read c = item_is c.args.subject c.args.line.now c.spelled_item.result
    c.spelled_item.ensures
