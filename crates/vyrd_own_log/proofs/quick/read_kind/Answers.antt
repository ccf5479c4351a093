use Rattle.vyrd_own_log.proofs.Prelude.{arith, written}
use Rattle.vyrd_own_log.proofs.QuickLaws.{plain_read}
use Rattle.vyrd_own_log.proofs.quick.read_kind.Goals as goal

pub returns-in-114 : goal.returns-in-114
returns-in-114 c = plain_read (written c.args.program.now) c.args.text.now c.read_write.result
    (λ e. omega (arith, c.in-114.is, e)) c.read_write.ensures

pub returns-in-101 : goal.returns-in-101
returns-in-101 c = c.read_return.ensures (written c.args.program.now)

pub returns-in-112 : goal.returns-in-112
returns-in-112 c = plain_read (written c.args.program.now) c.args.text.now c.read_open.result
    (λ e. omega (arith, c.in-112.is, e)) c.read_open.ensures

pub returns-in-108 : goal.returns-in-108
returns-in-108 c = plain_read (written c.args.program.now) c.args.text.now c.read_close.result
    (λ e. omega (arith, c.in-108.is, e)) c.read_close.ensures

pub returns-in-111 : goal.returns-in-111
returns-in-111 c = plain_read (written c.args.program.now) c.args.text.now c.read_commit.result
    (λ e. omega (arith, c.in-111.is, e)) c.read_commit.ensures
