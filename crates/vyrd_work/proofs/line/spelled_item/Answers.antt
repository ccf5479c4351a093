use Rattle.vyrd_work.proofs.line.spelled_item.Goals as goal

pub returns-in-Some-after : goal.returns-in-Some-after
returns-in-Some-after c = rw c.in-Some-after.ensures (c.read_turns.ensures c.args.subject)
