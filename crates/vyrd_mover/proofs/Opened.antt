-- One name whose unfolding opens the definitions, so that what is said of a written-out history
-- computes.
use Rattle.vyrd_mover.proofs.Prelude.{ℕ, entry_in, is_legal, is_race_free, has_cut, blocks_of}
use Rattle.vyrd_mover.proofs.Prelude.{history_header_in, event_in, history_reading}
use Rattle.std.specs.Fmt.{digits}

unfoldable pub opened : ℕ
unfolding is_legal is_race_free has_cut blocks_of
opened = 0

unfoldable pub opened_text : ℕ
unfolding digits entry_in history_header_in event_in history_reading
opened_text = 0
