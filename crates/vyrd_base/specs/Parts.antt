-- What a list of events has of one caller.
use Rattle.std.specs.Prelude.{ℕ, ◌==◌, List}
use Rattle.std.specs.List.{filter}
use Rattle.vyrd_base.specs.declared.history.Stamped.{Stamped}

-- the part of a list of events that is one caller's, in its order
abbrev pub part : ℕ → List Stamped → List Stamped
part caller events = filter (λ e. e.caller == caller) events
