-- The log of a history with one more event.
use Rattle.vyrd_judge.proofs.Prelude.{◌≡◌, ℕ, ◌<◌, ◌+◌, ◌++◌, List, [], length, take, drop, refl}
use Rattle.vyrd_judge.proofs.Prelude.{ap, ◌∙◌, sym, get_or, cons_option, take-append-drop, logged}
use Rattle.vyrd_judge.proofs.Prelude.{log_of, filter_map_more}
use Rattle.std.proofs.lemmas.List.Elements.{filter_map-append}
use Rattle.vyrd_base.specs.declared.history.Stamped.{Stamped}
use Rattle.vyrd_base.specs.declared.history.Did.TheVariants.{Read}

-- what stands for the event past the end
abbrev pub past : Stamped
past = record { number = 0; caller = 0; did = Read 0 0 }

pub log_of_none : log_of [] ≡ []
unfolding log_of
log_of_none = refl

pub log_more : (history : List Stamped) (i : ℕ) → i < length history
    → log_of (take (i + 1) history) ≡ log_of (take i history)
    ++ cons_option (logged (get_or history i past).caller (get_or history i past).did) []
unfolding log_of
log_more history i p = filter_map_more (λ e. logged e.caller e.did) history i past p

-- and the log of those before a place, and from it on
pub log_around : (history : List Stamped) (i : ℕ) → log_of (take i history)
    ++ log_of (drop i history) ≡ log_of history
unfolding log_of
log_around history i = sym (filter_map-append (λ e. logged _ _) (take i _) (drop i _))
    ∙ ap log_of (take-append-drop i _)
