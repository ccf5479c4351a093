-- What is known of a source and of a sink, and what reads and writes do to it. Bytes that a device
-- doesn't tell are None.
use Rattle.std.specs.Prelude.{◌≡◌, ℕ, ◌+◌, ◌-◌, ◌^◌, ◌<◌, ◌≤◌, ◌==◌, ◌||◌, Bool, true, false}
use Rattle.std.specs.Prelude.{List, [], ◌++◌, length, take, Option, Some, None, option_map, IfSome}
use Rattle.std.specs.Prelude.{if◌then◌else◌}
use Rattle.std.specs.List.{list_any}

-- one more of what is counted; the count stays at its last value
abbrev pub next_count : ℕ → ℕ
next_count n = if n == 2 ^ 64 - 1 then n else n + 1

-- what is known of a source
pub record SourceKnown : Type 0 where
  -- the bytes that it will still give
  pub rest : Option (List ℕ)
  -- whether it has said its end
  pub ended : Bool
  -- how many reads have failed
  pub faults : ℕ
  -- what was still to come when a read last failed
  pub left_off : Option (List ℕ)
  -- whether it is known that no read will fail
  pub is_sure : Bool

-- the source has said its end, and if its bytes are told, none is left
pub record IsAtEnd (source : SourceKnown) : Type 0 where
  pub said : source.ended ≡ true
  pub none : IfSome source.rest (λ bytes. bytes ≡ [])

-- The source has given n bytes: they are the next ones of what was still to come, and stand at the
-- front of the buffer. A source that tells its bytes goes on telling them. If n is 0, it has said
-- its end, and else it hasn't.
pub record Gives (before : SourceKnown) (n : ℕ) (buffer : List ℕ)
    (after : SourceKnown) : Type 0 where
  pub within : n ≤ length buffer
  pub bytes : before.rest ≡ option_map (λ rest. take n buffer ++ rest) after.rest
  pub at_end : n ≡ 0 → IsAtEnd after
  pub goes_on : 0 < n → after.ended ≡ false

-- no byte is gone from the source, and it has said its end only if it had before
pub record GivesNothing (before after : SourceKnown) : Type 0 where
  pub bytes : after.rest ≡ before.rest
  pub ended : after.ended ≡ before.ended

-- What reads have done to a source, of which the last one failed or none did. A read that failed is
-- counted once, and has left off where the source stands now. A source that was sure is sure still,
-- and no read of it has failed.
pub record AfterReads (failed : Bool) (before after : SourceKnown) : Type 0 where
  pub counted : after.faults ≡ (if failed then next_count before.faults else before.faults)
  pub stopped : after.left_off ≡ (if failed then after.rest else before.left_off)
  pub stays_sure : before.is_sure ≡ true → after.is_sure ≡ true
  pub never : before.is_sure ≡ true → failed ≡ false

-- what is known of a sink
pub record SinkKnown : Type 0 where
  -- all bytes that it has taken so far
  pub taken : Option (List ℕ)
  -- how many writes have failed
  pub faults : ℕ
  -- what it had taken when a write last failed
  pub left_off : Option (List ℕ)
  -- how many bytes more it is known to take with no fault
  pub sure_room : ℕ

-- The sink has taken the first n bytes of the piece, one at least, after those that it had. Its
-- sure room is less by n at most.
pub record Takes (before : SinkKnown) (n : ℕ) (piece : List ℕ) (after : SinkKnown) : Type 0 where
  pub some : 0 < n
  pub within : n ≤ length piece
  pub bytes : after.taken ≡ option_map (λ taken. taken ++ take n piece) before.taken
  pub room : before.sure_room ≤ after.sure_room + n

-- What writes have done to a sink, of which the last one failed or none did. A write that failed is
-- counted once, and has left off where the sink stands now. If all that was to be written fits, no
-- write has failed.
pub record AfterWrites (failed : Bool) (fits : Type 0) (before after : SinkKnown) : Type 0 where
  pub counted : after.faults ≡ (if failed then next_count before.faults else before.faults)
  pub stopped : after.left_off ≡ (if failed then after.taken else before.left_off)
  pub never : fits → failed ≡ false

-- whether the call after that many has one of these numbers: calls are numbered from 1 on
abbrev pub fails_next : ℕ → List ℕ → Bool
fails_next made failing = list_any (λ n. n == next_count made) failing

-- a source in memory
pub record SourceState : Type 0 where
  -- the bytes that it will still give, and how many at most in one read
  pub rest : List ℕ
  pub cut : ℕ
  -- whether it has said its end
  pub ended : Bool
  -- what was still to come when a read last failed
  pub left_off : List ℕ
  -- how many reads there were, the numbers of those that fail, and how many failed
  pub made : ℕ
  pub failing : List ℕ
  pub faults : ℕ

-- what is known of it as a source
abbrev pub memory_source : SourceState → SourceKnown
memory_source source = record {
  rest = Some source.rest;
  ended = source.ended;
  faults = source.faults;
  left_off = Some source.left_off;
  is_sure = length source.failing == 0;
}

-- a sink in memory
pub record SinkState : Type 0 where
  -- the bytes that it has taken, how many it takes in all, and how many at most in one write
  pub taken : List ℕ
  pub room : ℕ
  pub cut : ℕ
  -- what it had taken when a write last failed
  pub left_off : List ℕ
  -- how many writes there were, the numbers of those that fail, and how many failed
  pub made : ℕ
  pub failing : List ℕ
  pub faults : ℕ

-- whether the next write finds no room, or is made to fail
abbrev pub write_fails : SinkState → Bool
write_fails sink = fails_next sink.made sink.failing || sink.room == length sink.taken

-- what is known of it as a sink: all of its room is sure if no write is made to fail
abbrev pub memory_sink : SinkState → SinkKnown
memory_sink sink = record {
  taken = Some sink.taken;
  faults = sink.faults;
  left_off = Some sink.left_off;
  sure_room = if length sink.failing == 0 then sink.room - length sink.taken else 0;
}

-- what is known of a source that tells no bytes: whether it has said its end, and its faults
abbrev pub untold_source : Bool → ℕ → SourceKnown
untold_source ended faults = record {
  rest = None;
  ended = ended;
  faults = faults;
  left_off = None;
  is_sure = false;
}

-- what is known of a sink that tells no bytes: its faults
abbrev pub untold_sink : ℕ → SinkKnown
untold_sink faults = record { taken = None; faults = faults; left_off = None; sure_room = 0 }
