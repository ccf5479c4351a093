-- What the fields of a reader stand for.
use Rattle.std.specs.Prelude.{option_map}
use Rattle.vyrd_base.specs.Reading.{TextFault}
use Rattle.vyrd_text.specs.declared.fault.LineFault.{LineFault}
use Rattle.vyrd_text.specs.declared.line_reader.LineReader.TheInside.{Inside}
use Rattle.vyrd_text.specs.Readers.{LineState}
use Rattle.vyrd_text.specs.Steps.{IsSteady}

-- a fault of text
abbrev pub fault_of : LineFault → TextFault
fault_of fault = record { line = fault.line; rule = fault.rule }

abbrev pub state_of : Inside → LineState
state_of r = record {
  max_lines = r.max_lines;
  line = r.line;
  header = r.header;
  starting = r.starting;
  last = r.last;
  ended = r.ended;
  fault = option_map fault_of r.fault;
  unfinished = r.unfinished;
}

abbrev pub IsSteadyInside : Inside → Type 0
IsSteadyInside r = IsSteady (state_of r)
