use Rattle.std.proofs.Common.{arith}
use Rattle.vyrd_own_log.proofs.EntryLaws.{no_reply}
use Rattle.vyrd_own_log.proofs.entry.read_return.Goals as goal

pub returns-then-reply : goal.returns-then-reply
returns-then-reply c = no_reply c.args.text.now c.in_ok-reply.reply (omega arith) c.if-reply.true
    c.in_ok-reply.ensures
