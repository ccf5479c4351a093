use Rattle.vyrd_text.proofs.line.read_kind.Goals as goal

pub returns-in-Some : goal.returns-in-Some
returns-in-Some c = rw c.in-Some.ensures (c.read_write.ensures c.args.subject)

pub returns-in-Some-after-2 : goal.returns-in-Some-after-2
returns-in-Some-after-2 c = rw c.in-Some-after-2.ensures (c.read_return.ensures c.args.subject)
