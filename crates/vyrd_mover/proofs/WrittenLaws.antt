-- What is appended in turn is a history's text.
use Rattle.vyrd_mover.proofs.Prelude.{◌≡◌, ℕ, List, [], ◌∷◌, ◌++◌, map, refl, ap, sym, ◌∙◌}
use Rattle.vyrd_mover.proofs.Prelude.{append_assoc, codes, flat_map, Header, Stamped, ended_line}
use Rattle.vyrd_mover.proofs.Prelude.{end_line, history_header_line, event_line, history_text}

-- the lines of events
abbrev pub events_text : List Stamped → List ℕ
events_text history = flat_map (λ e. ended_line (event_line e)) history

after_events : (history : List Stamped)
    → flat_map ended_line (map event_line history ++ end_line ∷ []) ≡ events_text history
    ++ codes "end\n"
after_events [] = refl
after_events (e ∷ history) =
    ap (λ rest. ended_line (event_line e) ++ rest) (after_events history)
    ∙ sym (append_assoc (ended_line (event_line e)) (events_text history) (codes "end\n"))

-- the first line, the events and `end` are a history's text
pub whole_history : (h : Header) (history : List Stamped) (old first second : List ℕ)
    → first ≡ old ++ ended_line (history_header_line h.subject h.size h.callers) → second ≡ first
    ++ events_text history
    → second ++ codes "end\n" ≡ old ++ history_text (record { header = h; history = history })
unfolding history_text
whole_history h history old first second e f =
    let line = ended_line (history_header_line h.subject h.size h.callers) in
    ap (λ t. t ++ codes "end\n") (f ∙ ap (λ t. t ++ events_text history) e)
    ∙ append_assoc (old ++ line) (events_text history) (codes "end\n")
    ∙ append_assoc old line (events_text history ++ codes "end\n")
    ∙ ap (λ t. old ++ (line ++ t)) (sym (after_events history))
