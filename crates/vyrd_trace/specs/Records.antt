-- What a record becomes.
use Rattle.std.specs.Prelude.{ℕ, ◌+◌, ◌==◌, [], ◌∷◌, ◌++◌, true, false, if◌then◌else◌}
use Rattle.vyrd_base.specs.declared.history.Did.{Did}
use Rattle.vyrd_base.specs.declared.history.Did.TheVariants.{Read, Wrote, Took, Gave, Marked}
use Rattle.vyrd_trace.specs.declared.look.Look.{Look}
use Rattle.vyrd_trace.specs.declared.record.Record.{Record}
use Rattle.vyrd_trace.specs.declared.record.Lane.{Lane}
use Rattle.vyrd_trace.specs.declared.record.Stage.{Stage}
use Rattle.vyrd_trace.specs.declared.record.Stage.TheVariants.{Rest, Claimed, Drawn, Giving}
use Rattle.vyrd_trace.specs.Lanes.{stamp}

-- nothing was looked at yet
abbrev pub no_look : Look
no_look = record { looks = 0; cell = 0; first = 0; first_at = 0; last = 0; last_at = 0 }

-- one more look, the first of its call: the word found at the cell
abbrev pub look_first : Look → ℕ → ℕ → Look
look_first look cell word = record {
  looks = look.looks + 1;
  cell = cell;
  first = word;
  first_at = look.looks + 1;
  last = word;
  last_at = look.looks + 1;
}

-- one more look, at the cell looked at before
abbrev pub look_again : Look → ℕ → ℕ → Look
look_again look cell word =
    if cell == look.cell
    then (record {
      looks = look.looks + 1;
      cell = cell;
      first = look.first;
      first_at = look.first_at;
      last = word;
      last_at = look.looks + 1;
    })
    else look_first look cell word

-- a record with no event, and the number of the caller that it makes a record for next
abbrev pub record_of : ℕ → ℕ → Record
record_of caller next = record {
  live = true;
  caller = caller;
  next = next;
  lane = [];
  gathered = [];
  stage = Rest;
  look = no_look;
}

-- the record that a table begins with
abbrev pub first_record : Record
first_record = record_of 0 1

-- a record that has made one for the next caller
abbrev pub dealer : Record → Record
dealer v = record {
  live = v.live;
  caller = v.caller;
  next = v.next + 1;
  lane = v.lane;
  gathered = v.gathered;
  stage = v.stage;
  look = v.look;
}

-- the one that it made
abbrev pub dealt : Record → Record
dealt v = record_of v.next 0

abbrev pub own_lane : Record → Lane
own_lane v = record { caller = v.caller; events = v.lane }

-- a record with the lanes of another one too
abbrev pub gathering : Record → Record → Record
gathering v w = record {
  live = v.live;
  caller = v.caller;
  next = v.next;
  lane = v.lane;
  gathered = v.gathered ++ own_lane w ∷ w.gathered;
  stage = v.stage;
  look = v.look;
}

-- a record whose lanes another one has
abbrev pub spent : Record
spent = record {
  live = false;
  caller = 0;
  next = 0;
  lane = [];
  gathered = [];
  stage = Rest;
  look = no_look;
}

-- the record with another action in hand and other looks
abbrev pub acting : Record → Stage → Look → Record
acting v stage look = record {
  live = v.live;
  caller = v.caller;
  next = v.next;
  lane = v.lane;
  gathered = v.gathered;
  stage = stage;
  look = look;
}

-- the value of the claimed cell before the action
abbrev pub before_of : Stage → ℕ
before_of (Claimed cell before) = before
before_of _ = 0

-- the action in hand once the event's number is drawn
abbrev pub drawn : Stage → ℕ → Did → Stage
drawn stage caller (Read cell value) = Drawn cell value value
drawn stage caller (Wrote cell value) = Drawn cell (before_of stage) value
drawn stage caller (Took cell) = Drawn cell 0 (caller + 1)
drawn stage caller (Gave cell) = Giving cell
drawn stage caller (Marked kind) = stage

-- the record with one event more
abbrev pub with_event : Record → ℕ → Did → Record
with_event v number did = record {
  live = v.live;
  caller = v.caller;
  next = v.next;
  lane = v.lane ++ stamp number v.caller did ∷ [];
  gathered = v.gathered;
  stage = drawn v.stage v.caller did;
  look = v.look;
}
