use Rattle.std.proofs.Common.{arith}
use Rattle.vyrd_own.proofs.QueueLaws.{items_same}
use Rattle.vyrd_own.proofs.state.reserve_in.Goals as goal

pub returns-in_err-reserve-clause-items : goal.returns-in_err-reserve-clause-items
returns-in_err-reserve-clause-items c =
    items_same c.args.lists.now.items c.args.i c.index_mut-list.result.now c.reserve.new.self
    (omega arith)
    c.index_mut-list.ensures.value c.in_err-reserve.ensures.items

pub returns-in_ok-reserve-clause-items : goal.returns-in_ok-reserve-clause-items
returns-in_ok-reserve-clause-items c =
    items_same c.args.lists.now.items c.args.i c.index_mut-list.result.now c.reserve.new.self
    (omega arith)
    c.index_mut-list.ensures.value c.in_ok-reserve.ensures.items
