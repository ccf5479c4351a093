-- What the bytes of a log say: as bytes that may go on, and as the whole input.
use Rattle.std.specs.Prelude.{ℕ, true, false, List}
use Rattle.vyrd_base.specs.Reading.{Reading, reading}

abbrev pub read_so_far : ℕ → List ℕ → Reading
read_so_far max bytes = reading (record { max_lines = max; is_whole = false }) bytes

abbrev pub read_whole : ℕ → List ℕ → Reading
read_whole max bytes = reading (record { max_lines = max; is_whole = true }) bytes
