-- What the bytes of a log of version 3 say: as bytes that may go on, and as the whole input.
use Rattle.std.specs.Prelude.{ℕ, true, false, List}
use Rattle.vyrd_base.specs.Own.Log.{OwnReading, own_reading}

abbrev pub read_so_far : ℕ → List ℕ → OwnReading
read_so_far max bytes = own_reading (record { max_lines = max; is_whole = false }) bytes

abbrev pub read_whole : ℕ → List ℕ → OwnReading
read_whole max bytes = own_reading (record { max_lines = max; is_whole = true }) bytes
