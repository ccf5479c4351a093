use Rattle.std.proofs.Common.{sym}
use Rattle.vyrd_witness.proofs.PartLaws.{chunk_passed, buffer_passed}
use Rattle.vyrd_witness.proofs.after.told_after.Goals as goal

pub returns-in-Cache : goal.returns-in-Cache
returns-in-Cache c =
    chunk_passed c.args.header c.args.words.now c.args.key c.args.word c.args.was c.args.before
    (sym c.in-Cache.ensures) c.requires.count c.requires.before (sym c.if-not-is_own_key.ensures)

pub returns-in-Buffers : goal.returns-in-Buffers
returns-in-Buffers c =
    buffer_passed c.args.header c.args.words.now c.args.key c.args.word c.args.was c.args.before
    (sym c.in-Buffers.ensures) c.requires.count c.requires.before
    (sym c.if-not-is_own_key-2.ensures)
