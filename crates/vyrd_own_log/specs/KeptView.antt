-- What the fields of a reader of pieces stand for.
use Rattle.vyrd_own.specs.Layout.{texts}
use Rattle.vyrd_own_log.specs.declared.piece_reader.PieceReader.{PieceReader}
use Rattle.vyrd_own_log.specs.StateView.{state_of}
use Rattle.vyrd_own_log.specs.Readers.{OwnReaderKept}

abbrev pub kept_of : PieceReader → OwnReaderKept
kept_of r = record {
  lines = state_of r.lines;
  unfinished = r.unfinished.items;
  specified = texts r.specified.items;
  start = r.start.items;
}
