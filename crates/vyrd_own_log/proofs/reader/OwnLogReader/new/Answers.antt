use Rattle.std.proofs.Common.{refl}
use Rattle.vyrd_own_log.proofs.ReadLaws.{fresh_read}
use Rattle.vyrd_own_log.proofs.reader.OwnLogReader.new.Goals as goal

pub returns-clause-read : goal.returns-clause-read
returns-clause-read c = fresh_read c.args.max_lines _ c.requires.low c.requires.high refl
    c.new.ensures
