-- What is appended in turn.
use Rattle.vyrd_text.proofs.Prelude
use Prelude.{◌≡◌, ℕ, ◌≤◌, true, cond, List, [], ◌∷◌, ◌++◌, take, length, Result, refl, ap, sym, ◌∙◌}
use Prelude.{arith, append_assoc, append-nil, length-append, codes, decimal, map, flat_map, OnOk}
use Prelude.{AllByRecursion, is_ok, take_at, take-take, Header, Subject, Method, Args, Entry}
use Prelude.{StartWord, arity_of, ended_line, start_line, entry_line, header_line, log_text}
use Prelude.{is_entry_of, spaced, method_name, first_true, second_true, call_text, is_writable}
use Rattle.vyrd_base.proofs.ReadingLaws.{AllOf}

-- the front of a list that goes on from a longer front
pub front_of_front : (old more middle now : List ℕ) → middle ≡ old ++ more
    → take (length middle) now ≡ middle → take (length old) now ≡ old
front_of_front old more middle now e f =
    let long : length old ≤ length middle = omega (arith, ap length e, length-append old more) in
    sym (take-take _ _ _ long) ∙ ap (take _) (f ∙ e) ∙ take_at _ _ _ refl

-- the last part of what is appended
pub appended : {E : Type 0} (r : Result (Unit {0}) E) (was more now target : List ℕ)
    → now ≡ cond (is_ok r) (was ++ more) was
    → was ++ more ≡ target → OnOk r (now ≡ target)
appended r was more now target e f = search arith

-- a header, starting words, entries and `end` are a log's text
pub whole_log : (h : Header) (start : List StartWord) (entries : List Entry)
    (old first second third : List ℕ)
    → first ≡ old ++ ended_line (header_line h.version h.subject h.size h.callers)
    → second ≡ first ++ flat_map (λ s. ended_line (start_line s)) start
    → third ≡ second ++ flat_map (λ e. ended_line (entry_line e)) entries → third ++ codes "end\n"
    ≡ old ++ log_text h start entries
unfolding log_text
whole_log h start entries old first second third e f g = search (append_assoc, arith)

-- an entry that has a spelling can be written
entry_writable : (subject : Subject) (e : Entry) → is_entry_of subject e ≡ true
    → is_writable subject e ≡ true
entry_writable subject e is = grind (arith, second_true, first_true)

pub all_writable : (subject : Subject) (es : List Entry) → AllOf subject es
    → AllByRecursion (λ e. is_writable subject e ≡ true) es
all_writable subject [] all = tt
all_writable subject (e ∷ es) all = (entry_writable subject e all.0, all_writable subject es all.1)

-- fields joined by spaces, the first of them before each other one after a space
pub spaced_fields : (field : List ℕ) (ns : List ℕ)
    → spaced (field ∷ map decimal ns) ≡ field ++ flat_map (λ n. 32 ∷ decimal n) ns
spaced_fields field [] = sym (append-nil field)
spaced_fields field (n ∷ ns) = ap (λ rest. field ++ 32 ∷ rest) (spaced_fields (decimal n) ns)

-- a method's name, and after it its arguments, each after a space
pub call_text_after : (method : Method) (args : Args) → call_text method args
    ≡ method_name method ++ flat_map (λ n. 32 ∷ decimal n)
    (take (arity_of method) (args.a ∷ args.b ∷ args.c ∷ []))
call_text_after method args = search (spaced_fields, arith)
