use Rattle.vyrd_text.proofs.ReaderLaws.{fresh_has_read}
use Rattle.vyrd_text.proofs.reader.LogReader.new.Goals as goal

pub returns-clause-read : goal.returns-clause-read
returns-clause-read c =
    rw c.new.ensures
    (rw c.new-2.ensures.items
    (fresh_has_read c.args.max_lines))
