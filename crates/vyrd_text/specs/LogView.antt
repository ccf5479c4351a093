-- What the fields of a reader of a log stand for.
use Rattle.vyrd_text.specs.declared.reader.LogReader.TheInside.{Inside}
use Rattle.vyrd_text.specs.Readers.{ReaderState}

abbrev pub reader_of : Inside → ReaderState
reader_of r = record {
  max_lines = r.lines.max_lines;
  line = r.lines.line;
  header = r.lines.header;
  starting = r.lines.starting;
  last = r.lines.last;
  ended = r.lines.ended;
  fault = r.lines.fault;
  unfinished = r.lines.unfinished;
  start = r.start.items;
}
