use Rattle.std.proofs.Common.{arith}
use Rattle.vyrd_mover.proofs.FrontLaws.{mark_read}
use Rattle.vyrd_mover.proofs.front.front_kind.Goals as goal

pub returns-in-108-clause-mark : goal.returns-in-108-clause-mark
returns-in-108-clause-mark c = search (mark_read, arith)

pub returns-in-117-clause-mark : goal.returns-in-117-clause-mark
returns-in-117-clause-mark c = mark_read c.args.subject c.args.text.now c.read_return.result
    (λ e. omega (arith, c.in-117.is, e)) (c.read_return.ensures c.args.subject)

pub returns-in-109-clause-mark : goal.returns-in-109-clause-mark
returns-in-109-clause-mark c = mark_read c.args.subject c.args.text.now c.read_commit.result
    (λ e. omega (arith, c.in-109.is, e)) (c.read_commit.ensures c.args.subject)

pub returns-in-110-clause-mark : goal.returns-in-110-clause-mark
returns-in-110-clause-mark c = mark_read c.args.subject c.args.text.now c.read_open.result
    (λ e. omega (arith, c.in-110.is, e)) (c.read_open.ensures c.args.subject)

pub returns-in-115-clause-mark : goal.returns-in-115-clause-mark
returns-in-115-clause-mark c = mark_read c.args.subject c.args.text.now c.read_close.result
    (λ e. omega (arith, c.in-115.is, e)) (c.read_close.ensures c.args.subject)
