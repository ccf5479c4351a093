-- What an account has taken in with one event more, and the whole text that it leaves.
use Rattle.vyrd_command.proofs.Prelude
use Prelude.{◌≡◌, ℕ, List, [], ◌∷◌, ◌++◌, Some, None, refl, ap, ◌∙◌, sym, append_assoc, append-nil}
use Prelude.{codes, flat_map, flat_map-append, Header, Stamped, Entry, Verdict, logged, log_of}
use Prelude.{ended_line, header_line, entry_line, verdict_text, log_with, log_without, no_log}
use Prelude.{whole_log, history_header_line, event_line, whole_history, Show, text_so_far, run_text}
use Rattle.vyrd_command.specs.declared.show.Show.TheVariants as shown

-- one line more
line_more : {A : Type 0} (line : A → List ℕ) (first old new : List ℕ) (xs : List A) (x : A)
    → old ≡ first ++ flat_map (λ x. ended_line (line x)) xs
    → new ≡ old ++ ended_line (line x) → new ≡ first ++ flat_map (λ x. ended_line (line x))
    (xs ++ x ∷ [])
line_more line first old new xs x before now =
    let lines = flat_map (λ x. ended_line (line x)) xs in
    now ∙ ap (λ t. t ++ ended_line (line x)) before ∙ append_assoc first lines (ended_line (line x))
    ∙ ap (λ t. first ++ (lines ++ t)) (sym (append-nil (ended_line (line x))))
    ∙ ap (λ t. first ++ t) (sym (flat_map-append (λ x. ended_line (line x)) xs (x ∷ [])))

pub entry_shown : (h : Header) (history : List Stamped) (e : Stamped) (entry : Entry)
    (old new : List ℕ) → logged e.caller e.did ≡ Some entry
    → old ≡ text_so_far shown.Log h history → new ≡ old ++ ended_line (entry_line entry)
    → new ≡ text_so_far shown.Log h (history ++ e ∷ [])
entry_shown h history e entry old new is before now =
    let first = ended_line (header_line h.version h.subject h.size h.callers) in
    line_more entry_line first old new (log_of history) entry before now
    ∙ ap (λ log. first ++ flat_map (λ e. ended_line (entry_line e)) log)
    (sym (log_with history e entry is))

pub nothing_shown : (h : Header) (history : List Stamped) (e : Stamped) (text : List ℕ)
    → logged e.caller e.did ≡ None
    → text ≡ text_so_far shown.Log h history → text ≡ text_so_far shown.Log h (history ++ e ∷ [])
nothing_shown h history e text none before = cc (log_without history e none)

pub event_shown : (h : Header) (history : List Stamped) (e : Stamped) (old new : List ℕ)
    → old ≡ text_so_far shown.History h history → new ≡ old ++ ended_line (event_line e)
    → new ≡ text_so_far shown.History h (history ++ e ∷ [])
event_shown h history e old new before now = line_more event_line
    (ended_line (history_header_line h.subject h.size h.callers)) old new history e before now

-- the text of a run in which nothing was done yet
pub nothing_begun : (show : Show) (h : Header) (text : List ℕ) → show ≡ shown.Verdict → text ≡ []
    → text ≡ text_so_far show h []
nothing_begun show h text is none = none ∙ ap (λ show. text_so_far show h []) (sym is)

pub log_begun : (show : Show) (h own : Header) (text : List ℕ) → show ≡ shown.Log → own ≡ h
    → text ≡ ended_line (header_line h.version h.subject h.size h.callers)
    → text ≡ text_so_far show own []
log_begun show h own text is same line =
    let first = ended_line (header_line _ _ _ _) in
    line ∙ sym (append-nil _) ∙ ap (λ log. first ++ flat_map (λ e. ended_line (entry_line e)) log)
    (sym no_log) ∙ ap (λ h. text_so_far shown.Log h []) (sym same)
    ∙ ap (λ show. text_so_far show own []) (sym is)

pub history_begun : (show : Show) (h own : Header) (text : List ℕ) → show ≡ shown.History → own ≡ h
    → text ≡ ended_line (history_header_line h.subject h.size h.callers)
    → text ≡ text_so_far show own []
history_begun show h own text is same line =
    cc (append-nil (ended_line (history_header_line h.subject h.size h.callers)))

-- the whole text
pub verdict_told : (show : Show) (h : Header) (history : List Stamped) (v : Verdict)
    (old new : List ℕ) → show ≡ shown.Verdict
    → old ≡ text_so_far show h history → new ≡ old ++ verdict_text v
    → new ≡ run_text show h history v
verdict_told show h history v old new is before now = cc

pub log_told : (show : Show) (h : Header) (history : List Stamped) (v : Verdict)
    (old ended new : List ℕ) → show ≡ shown.Log
    → old ≡ text_so_far show h history → ended ≡ old ++ codes "end\n" → new ≡ ended
    ++ verdict_text v → new ≡ run_text show h history v
log_told show h history v old ended new is before line now =
    let first = ended_line (header_line _ _ _ _) in
    now ∙ ap (λ t. t ++ verdict_text v)
    (line ∙ whole_log h [] (log_of _) [] first first _ refl (sym (append-nil _)) (cc))
    ∙ ap (λ show. run_text show h history v) (sym is)

pub history_told : (show : Show) (h : Header) (history : List Stamped) (v : Verdict)
    (old new : List ℕ) → show ≡ shown.History
    → old ≡ text_so_far show h history → new ≡ old ++ codes "end\n"
    → new ≡ run_text show h history v
history_told show h history v old new is before now =
    now ∙ whole_history h history [] (ended_line (history_header_line _ _ _)) _ refl (cc)
    ∙ ap (λ show. run_text show h history v) (sym is)
