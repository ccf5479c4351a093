use Rattle.vyrd_own.specs.Layout.{written}
use Rattle.vyrd_own_log.proofs.entry.read_kind.Goals as goal

pub returns-in-Some : goal.returns-in-Some
returns-in-Some c = rw c.in-Some.ensures (c.read_write.ensures (written c.args.program.now))

pub returns-in-Some-after-2 : goal.returns-in-Some-after-2
returns-in-Some-after-2 c = rw c.in-Some-after-2.ensures
    (c.read_return.ensures (written c.args.program.now))
