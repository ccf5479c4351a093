-- The calls in the log of a legal history of sound scripts are of the header's subject, and their
-- arguments are in range.
use Rattle.vyrd_memory.proofs.Prelude
use Prelude.{◌≡◌, ℕ, true, cond, List, [], ◌∷◌, Some, None, refl, subst, sym, filter_map}
use Prelude.{cons_option, AllByRecursion, Header, Kind, Call, Return, Write, Commit, BlockOpen}
use Prelude.{BlockClose, BlockCommit, Entry, Did, Read, Wrote, Took, Gave, Marked, Stamped}
use Prelude.{newest_first_onto, newest_first, cells_of, is_legal, logged, log_of, log_entry}
use Prelude.{first_true, same_number, Script, Situation, may_act, may_mark, is_at_rest, part_of}
use Prelude.{AreSoundScripts, PlayToTheEnd, is_call_of}
use Rattle.vyrd_memory.proofs.Situations.{act_of_event, situation_after, KeepsTo}
use Rattle.vyrd_memory.proofs.LegalEvents.{AreLegal, legal_events, caller_low}
use Rattle.vyrd_memory.proofs.Agreements.{keeps_before}
use Rattle.vyrd_memory.proofs.RaceLaws.{AllKeep, all_keep, newest_log}

-- each call of the list is one of the header's
abbrev pub AreCallsOf : Header → List Entry → Type 0
AreCallsOf h entries = AllByRecursion (λ e. is_call_of h e.kind ≡ true) entries

mark_fits : (h : Header) (s : Situation) (kind : Kind) → may_mark h s kind ≡ true
    → is_call_of h kind ≡ true
mark_fits h s (Call method args) may = first_true _ (is_at_rest s) may
mark_fits h s (Return reply) may = refl
mark_fits h s (Write word value) may = refl
mark_fits h s Commit may = refl
mark_fits h s BlockOpen may = refl
mark_fits h s BlockClose may = refl
mark_fits h s BlockCommit may = refl

event_fits : (h : Header) (c : ℕ) (did : Did) (s : Situation) (log : List Entry)
    → may_act h s (act_of_event did) ≡ true → AreCallsOf h log
    → AreCallsOf h (cons_option (logged c did) log)
event_fits h c (Read cell value) s log may fit = fit
event_fits h c (Wrote cell value) s log may fit = (refl, fit)
event_fits h c (Took lock) s log may fit = fit
event_fits h c (Gave lock) s log may fit = fit
event_fits h c (Marked kind) s log may fit = (mark_fits h s kind may, fit)

log_fits : (h : Header) (earlier : List Stamped) → AreLegal (cells_of h) earlier → AllKeep h earlier
    → AreCallsOf h (filter_map log_entry earlier)
log_fits h [] legal keep = tt
log_fits h (e ∷ earlier) legal keep =
    let low = caller_low (cells_of h) earlier e legal.0 in
    let own : KeepsTo h (e.did ∷ part_of e.caller earlier) =
    subst (λ b. KeepsTo h (cons_option (cond b (Some e.did) None) (part_of e.caller earlier)))
    (same_number e.caller) (keep e.caller low) in
    event_fits h e.caller e.did (situation_after (part_of e.caller earlier))
    (filter_map log_entry earlier) own.0
    (log_fits h earlier legal.1 (λ c low. keeps_before h c e earlier (keep c low)))

turned : (h : Header) (earlier xs : List Entry) → AreCallsOf h (newest_first_onto earlier xs)
    → AreCallsOf h earlier × AreCallsOf h xs
turned h earlier [] fit = (fit, tt)
turned h earlier (x ∷ xs) fit = let rest = turned h (x ∷ earlier) xs fit in
    (rest.0.1, (rest.0.0, rest.1))

pub calls_fit : (h : Header) (scripts : List Script) (history : List Stamped)
    → AreSoundScripts h scripts → is_legal (cells_of h) history ≡ true
    → PlayToTheEnd scripts history → AllByRecursion (λ e. is_call_of h e.kind ≡ true)
    (log_of history)
calls_fit h scripts history sound is_legal_ played =
    let legal = legal_events (cells_of h) history is_legal_ in
    (turned h [] (log_of history) (subst (AreCallsOf h) (sym (newest_log history))
    (log_fits h (newest_first history) legal (all_keep h scripts history sound legal played)))).1
