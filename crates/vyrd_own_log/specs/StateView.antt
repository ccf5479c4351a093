-- What the fields of a reader of lines stand for.
use Rattle.std.specs.Prelude.{Bool, option_map}
use Rattle.vyrd_base.specs.Reading.{TextFault}
use Rattle.vyrd_own_text.specs.Meaning.{so_far}
use Rattle.vyrd_own_log.specs.declared.fault.LineFault.{LineFault}
use Rattle.vyrd_own_log.specs.declared.line_reader.LineReader.{LineReader}
use Rattle.vyrd_own_log.specs.Callable.{are_callable}
use Rattle.vyrd_own_log.specs.States.{LineState}

-- a fault of text
abbrev pub fault_of : LineFault → TextFault
fault_of fault = record { line = fault.line; rule = fault.rule }

abbrev pub state_of : LineReader → LineState
state_of r = record {
  max_lines = r.max_lines;
  line = r.line;
  stage = r.stage;
  said = so_far r.specification;
  fault = option_map fault_of r.fault;
}

-- whether entries can call the methods that were read
abbrev pub can_call : LineReader → Bool
can_call r = are_callable (so_far r.specification).specification.methods
