use Rattle.std.proofs.Common.{[]}
use Rattle.vyrd_mover.proofs.reader.read_blocks.Goals as goal

pub returns-clause-gathered : goal.returns-clause-gathered
returns-clause-gathered c = λ r n is e. c.finish.ensures.gathered c.args.bytes.now r n
    (c.feed.ensures [] c.new-reader.ensures) is e
