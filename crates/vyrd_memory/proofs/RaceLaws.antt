-- The log of a legal history of sound scripts breaks no rule, except that blocks may be raced.
use Rattle.vyrd_memory.proofs.Prelude
use Prelude.{◌≡◌, ℕ, zero, suc, ◌+◌, ◌<◌, ◌≤◌, Bool, true, false, cond, ◌||◌, List, [], ◌∷◌, Option}
use Prelude.{Some, None, option_map, refl, ap, ◌∙◌, sym, subst, arith, is_some, unwrap_or}
use Prelude.{filter_map, length, option_or, cons_option, list_any, Header, Entry, Did, Stamped}
use Prelude.{Rule, first_answer, newest_first_onto, newest_first, numbers_from, open_call}
use Prelude.{broken_rule, cells_of, is_legal, logged, log_of, same_number, Script, left_after}
use Prelude.{Situation, at_rest, may_act, part_of, script_of, AreSoundScripts, PlayToTheEnd}
use Rattle.std.specs.Bool.{then_some}
use Rattle.vyrd_base.specs.declared.verdict.Rule.TheVariants.{BlockRaced, CallOpen}
use Rattle.vyrd_base.specs.declared.verdict.Why.{Why}
use Rattle.vyrd_base.specs.declared.verdict.Verdict.{Verdict}
use Rattle.vyrd_base.specs.declared.verdict.Verdict.TheVariants.{Violation, Malformed}
use Rattle.vyrd_base.specs.Places.{Place, position_of}
use Rattle.vyrd_base.specs.Front.{front, first_break}
use Rattle.vyrd_base.specs.States.{State}
use Rattle.vyrd_base.specs.Faults.{fault_at}
use Rattle.vyrd_base.specs.Verdicts.{line_of, violation_at, first_fault, shape_verdict}
use Rattle.vyrd_base.specs.Verdicts.{is_call_open, accepted, verdict}
use Rattle.vyrd_base.proofs.NoStart.{verdict_so_far-none, end_verdict-none}
use Rattle.vyrd_base.proofs.HistoryLaws.{reversed_map, log_entry}
use Rattle.vyrd_base.proofs.Fronts.{break_after}
use Rattle.vyrd_memory.proofs.Situations.{act_of_event, situation_after, KeepsTo, sound_left}
use Rattle.vyrd_memory.proofs.Situations.{sound_keeps, rests_at_stop}
use Rattle.vyrd_memory.proofs.LegalEvents.{AreLegal, legal_events, caller_low, are_answers}
use Rattle.vyrd_memory.proofs.Agreements.{Agrees, agrees, keeps_before}
use Rattle.vyrd_memory.proofs.KeptRules.{OnlyRaced, none_broken, isnt_open, write_kept, mark_kept}
use Rattle.vyrd_base.specs.Rules.{rules_of}

-- each entry breaks no other rule after the entries before it, the newest entry first
abbrev pub AreOnlyRaced : Header → List Entry → Type 0
AreOnlyRaced h [] = Unit {0}
AreOnlyRaced h (e ∷ earlier) = OnlyRaced (broken_rule h earlier e) × AreOnlyRaced h earlier

only_before : (h : Header) (earlier xs : List Entry) → AreOnlyRaced h (newest_first_onto earlier xs)
    → AreOnlyRaced h earlier
only_before h earlier [] only = only
only_before h earlier (x ∷ xs) only = (only_before h (x ∷ earlier) xs only).1

or_only : (a b : Option Rule) → OnlyRaced a → OnlyRaced b → OnlyRaced (option_or a b)
or_only a b first later = search arith

break_only : (h : Header) (earlier xs : List Entry) → AreOnlyRaced h (newest_first_onto earlier xs)
    → OnlyRaced (break_after h earlier xs)
break_only h earlier [] only = none_broken
break_only h earlier (x ∷ xs) only =
    or_only (broken_rule h earlier x) (break_after h (x ∷ earlier) xs)
    (only_before h (x ∷ earlier) xs only).0 (break_only h (x ∷ earlier) xs only)

pub first_break_only : (h : Header) (entries : List Entry) → AreOnlyRaced h (newest_first entries)
    → OnlyRaced (first_break h entries)
unfolding first_break
first_break_only h entries only = break_only h [] entries only

-- one event more
event_only : (h : Header) (c : ℕ) (did : Did) (s : Situation) (log : List Entry) → c < h.callers
    → may_act h s (act_of_event did) ≡ true → Agrees c s log
    → AreOnlyRaced h log → AreOnlyRaced h (cons_option (logged c did) log)
event_only h c did s log low may a only = grind (arith, write_kept, mark_kept)

-- each caller's part keeps to what may be done
abbrev pub AllKeep : Header → List Stamped → Type 0
AllKeep h earlier = (c : ℕ) → c < h.callers → KeepsTo h (part_of c earlier)

log_only : (h : Header) (earlier : List Stamped) → AreLegal (cells_of h) earlier → AllKeep h earlier
    → AreOnlyRaced h (filter_map log_entry earlier)
log_only h [] legal keep = tt
log_only h (e ∷ earlier) legal keep =
    let low = caller_low (cells_of h) earlier e legal.0 in
    let own : KeepsTo h (e.did ∷ part_of e.caller earlier) =
    subst (λ b. KeepsTo h (cons_option (cond b (Some e.did) None) (part_of e.caller earlier)))
    (same_number e.caller) (keep e.caller low) in
    event_only h e.caller e.did (situation_after (part_of e.caller earlier))
    (filter_map log_entry earlier) low own.0
    (agrees h e.caller earlier own.1)
    (log_only h earlier legal.1 (λ c low. keeps_before h c e earlier (keep c low)))

-- the newest entries first are those of the newest events first
pub newest_log : (history : List Stamped) → newest_first (log_of history) ≡ filter_map log_entry
    (newest_first history)
unfolding log_of
newest_log history = reversed_map [] history

-- no call is open at the end
pub none_any : (test : ℕ → Bool) (k n : ℕ) → ((i : ℕ) → k ≤ i → i < k + n → test i ≡ false)
    → list_any test (numbers_from k n) ≡ false
none_any test k zero each = refl
none_any test k (suc n) each =
    ap (λ b. b || list_any test (numbers_from (k + 1) n)) (each k (omega arith) (omega arith))
    ∙ none_any test (k + 1) n (λ i from to. each i (omega arith) (omega arith))

pub none_open : (h : Header) (earlier : List Stamped) → AllKeep h earlier
    → ((c : ℕ) → c < h.callers → situation_after (part_of c earlier) ≡ at_rest)
    → is_call_open h (filter_map log_entry earlier) ≡ false
none_open h earlier keep rest = none_any (λ c. is_some (open_call c (filter_map log_entry earlier)))
    0 h.callers (λ c from to.
    let low : c < h.callers = omega arith in
    isnt_open c (situation_after (part_of c earlier)) (filter_map log_entry earlier)
    (agrees h c earlier (keep c low)) (cc (rest c low)))

-- a fault is no broken rule
fault_isnt : (h : Header) (states : List State) (ps : List (Place Entry)) (line : ℕ) (rule : Rule)
    → first_answer (violation_at (rules_of h) [] states) ps ≡ Some (Malformed line rule) → ⊥
fault_isnt h states [] line rule e = cc
fault_isnt h states (place ∷ ps) line rule e = by_fault (fault_at (rules_of h) [] states place)
    (fault_isnt h states ps line rule) e
  where
    by_fault : (o : Option Why)
        → (first_answer (violation_at (rules_of h) [] states) ps ≡ Some (Malformed line rule) → ⊥)
        → option_or (option_map (Violation (line_of [] (position_of place))) o)
        (first_answer (violation_at (rules_of h) [] states) ps)
        ≡ Some (Malformed line rule) → ⊥
    by_fault o later e = search arith

first_fault_isnt : (h : Header) (entries : List Entry) (line : ℕ) (rule : Rule)
    → first_fault (rules_of h) [] entries ≡ Some (Malformed line rule) → ⊥
unfolding first_fault
first_fault_isnt h entries line rule e = search (fault_isnt, arith)

-- a verdict that names a rule names a broken one
named : (fault : Option Verdict) (broken : Option Rule) (open_ : Bool) (at end : ℕ) (good : Verdict)
    (line : ℕ) (rule : Rule)
    → (fault ≡ Some (Malformed line rule) → ⊥) → open_ ≡ false → (good ≡ Malformed line rule → ⊥)
    → unwrap_or (option_or (option_or fault (option_map (Malformed at) broken))
    (then_some open_ (Malformed end CallOpen))) good ≡ Malformed line rule
    → broken ≡ Some rule
named (Some v) broken open_ at end good line rule isnt closed fine e = absurd (isnt (ap Some e))
named None (Some broken) open_ at end good line rule isnt closed fine e = cc
named None None true at end good line rule isnt closed fine e = cc
named None None false at end good line rule isnt closed fine e = absurd (fine e)

accepted_isnt : (entries : List Entry) (line : ℕ) (rule : Rule) → accepted entries
    ≡ Malformed line rule → ⊥
unfolding accepted
accepted_isnt entries line rule e = cc

-- without starting words a verdict has these parts
parts : (h : Header) (entries : List Entry) → verdict (rules_of h) [] entries ≡ unwrap_or
    (option_or (option_or (first_fault (rules_of h) [] (front h entries))
    (shape_verdict h [] entries))
    (then_some (is_call_open h (newest_first entries))
    (Malformed (line_of [] (length entries)) CallOpen))) (accepted entries)
unfolding verdict
parts h entries = search (verdict_so_far-none, front, end_verdict-none, arith)

named_is_broken : (h : Header) (entries : List Entry) (line : ℕ) (rule : Rule)
    → is_call_open h (newest_first entries) ≡ false
    → verdict (rules_of h) [] entries ≡ Malformed line rule
    → first_break h entries ≡ Some rule
unfolding verdict shape_verdict
named_is_broken h entries line rule closed e = named (first_fault _ [] _) _ (is_call_open h _)
    (line_of [] _) (line_of [] _) (accepted _) line _ (first_fault_isnt h _ _ _) closed
    (accepted_isnt _ _ _) (sym (parts h _) ∙ e)

-- in a legal history sound scripts that are played keep to what may be done, and at their end the
-- caller is at rest
pub all_keep : (h : Header) (scripts : List Script) (history : List Stamped)
    → AreSoundScripts h scripts
    → AreLegal (cells_of h) (newest_first history)
    → PlayToTheEnd scripts history → AllKeep h (newest_first history)
all_keep h scripts history sound legal played = search (part_of, sound_keeps, are_answers, arith)

pub all_rest : (h : Header) (scripts : List Script) (history : List Stamped)
    → AreSoundScripts h scripts → AreLegal (cells_of h) (newest_first history)
    → PlayToTheEnd scripts history → (c : ℕ) → c < h.callers
    → situation_after (part_of c (newest_first history)) ≡ at_rest
all_rest h scripts history sound legal played c low =
    let part = part_of c (newest_first history) in
    rests_at_stop h (situation_after part) (left_after (script_of scripts c) part)
    (sound_left h (script_of scripts c) part (sound.sound c low) (played c).plays
    (are_answers (cells_of h) (newest_first history) c legal)) (played c).done

-- so the first break is of that rule, and no call is open at the end
pub only_races_break : (h : Header) (scripts : List Script) (history : List Stamped)
    → AreSoundScripts h scripts
    → is_legal (cells_of h) history ≡ true → PlayToTheEnd scripts history
    → OnlyRaced (first_break h (log_of history))
only_races_break h scripts history sound is_legal_ played =
    search (played, legal_events, first_break_only, newest_log, log_only, all_keep, arith)

pub none_is_open : (h : Header) (scripts : List Script) (history : List Stamped)
    → AreSoundScripts h scripts
    → is_legal (cells_of h) history ≡ true → PlayToTheEnd scripts history
    → is_call_open h (newest_first (log_of history)) ≡ false
none_is_open h scripts history sound is_legal_ played =
    let legal = legal_events (cells_of h) history is_legal_ in
    ap (is_call_open h) (newest_log history)
    ∙ none_open h (newest_first history) (all_keep h scripts history sound legal played)
    (all_rest h scripts history sound legal played)

-- and a broken rule that the verdict names is that of raced blocks
pub only_races : (h : Header) (scripts : List Script) (history : List Stamped)
    → AreSoundScripts h scripts → is_legal (cells_of h) history ≡ true
    → PlayToTheEnd scripts history → (line : ℕ) (rule : Rule)
    → verdict (rules_of h) [] (log_of history) ≡ Malformed line rule → rule ≡ BlockRaced
only_races h scripts history sound is_legal_ played line rule e =
    (only_races_break h scripts history sound is_legal_ played).raced rule
    (named_is_broken h (log_of history) line rule
    (none_is_open h scripts history sound is_legal_ played) e)
