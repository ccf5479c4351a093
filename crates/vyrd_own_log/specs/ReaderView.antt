-- What a reader of a log of version 3 keeps.
use Rattle.vyrd_own_log.specs.declared.reader.OwnLogReader.{OwnLogReader}
use Rattle.vyrd_own_log.specs.KeptView.{kept_of}
use Rattle.vyrd_own_log.specs.Readers.{ReaderState}

abbrev pub state_in : OwnLogReader → ReaderState
state_in r = record { kept = kept_of r.kept; has_failed = r.has_failed }
