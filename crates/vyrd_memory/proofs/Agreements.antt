-- A caller's situation is what the log says of it: its open call, whether it has committed, and
-- whether it has an open block.
use Rattle.vyrd_memory.proofs.Prelude
use Prelude.{◌≡◌, ℕ, Bool, true, false, cond, ◌&&◌, ◌||◌, List, [], ◌∷◌, Option, Some, None}
use Prelude.{option_map, refl, arith, ◌==◌, is_some, is_none, filter_map, option_or, option_flatten}
use Prelude.{cons_option, Header, Method, Args, Kind, Call, Return, Entry, Did, Stamped}
use Prelude.{first_answer, same_subject, subject_of, are_args, Called, by_caller, call_or_return}
use Prelude.{open_call, has_block, has_committed, logged, log_entry, entry, own_answer}
use Prelude.{other_answer, own_block, first_true, second_true, own_committed, Situation, holds_none}
use Prelude.{observes, is_at_rest, may_act, may_mark, after_act, after_mark, part_of}
use Rattle.vyrd_memory.proofs.Situations.{act_of_event, situation_after, KeepsTo}

-- the method of the caller's open execution
abbrev pub open_method : ℕ → List Entry → Option Method
open_method c log = option_map (λ (called : Called). called.method) (open_call c log)

-- the log, the newest entry first, says of the caller what the situation says
pub record Agrees (c : ℕ) (s : Situation) (log : List Entry) : Type 0 where
  pub called : open_method c log ≡ s.called
  pub committed : has_committed c log ≡ s.committed
  pub in_block : has_block c log ≡ s.in_block

-- three tests and four that hold together
pub three_true : (a b c : Bool) → (a && b && c) ≡ true → (a ≡ true) × (b ≡ true) × (c ≡ true)
three_true a b c e = grind (arith, first_true, second_true)

pub four_true : (a b c d : Bool) → (a && b && c && d) ≡ true → (a ≡ true) × (b ≡ true) × (c ≡ true)
    × (d ≡ true)
four_true a b c d e = grind (arith, first_true, second_true)

-- what is said of a caller at rest
pub record Rests (s : Situation) : Type 0 where
  pub locks : holds_none s ≡ true
  pub called : is_none s.called ≡ true
  pub committed : s.committed ≡ false
  pub in_block : s.in_block ≡ false

rests : (s : Situation) → is_at_rest s ≡ true → Rests s
rests s e = search (four_true, is_none, arith)

-- what is said where an act may come
pub may_call : (h : Header) (s : Situation) (method : Method) (args : Args)
    → may_mark h s (Call method args) ≡ true
    → (same_subject (subject_of method) h.subject ≡ true) × (are_args h.size method args ≡ true)
    × Rests s
may_call h s method args may = search (three_true, rests, arith)

pub may_return : (h : Header) (s : Situation) (reply : ℕ) → may_mark h s (Return reply) ≡ true
    → (is_some s.called ≡ true) × (s.in_block ≡ false) × ((observes s || s.committed) ≡ true)
    × (holds_none s ≡ true)
may_return h s reply may = search (four_true, is_some, arith)

-- the caller's own entry
own_method : (c : ℕ) (kind : Kind) (log : List Entry)
    → open_method c (entry c kind ∷ log)
    ≡ option_map (λ called. called.method)
    (option_flatten
    (option_or (call_or_return kind) (first_answer (by_caller c call_or_return) log)))
own_method c kind log = cc (own_answer c call_or_return kind log)

own_mark : (h : Header) (c : ℕ) (kind : Kind) (s : Situation) (log : List Entry) → may_mark h s kind
    ≡ true → Agrees c s log
    → Agrees c (after_mark s kind) (entry c kind ∷ log)
own_mark h c kind s log may a =
    grind (arith, own_method, own_committed, own_block, may_call, may_return)

own_event : (h : Header) (c : ℕ) (did : Did) (s : Situation) (log : List Entry)
    → may_act h s (act_of_event did) ≡ true → Agrees c s log
    → Agrees c (after_act s (act_of_event did)) (cons_option (logged c did) log)
own_event h c did s log may a = search (own_method, own_committed, own_block, own_mark, arith)

-- another caller's entry says nothing of the caller
other_entry : (c d : ℕ) (kind : Kind) (s : Situation) (log : List Entry) → (d == c) ≡ false
    → Agrees c s log → Agrees c s (entry d kind ∷ log)
other_entry c d kind s log apart a = grind (arith, apart, other_answer)

other_event : (c d : ℕ) (did : Did) (s : Situation) (log : List Entry) → (d == c) ≡ false
    → Agrees c s log
    → Agrees c s (cons_option (logged d did) log)
other_event c d did s log apart a = grind (arith, apart, other_entry)

-- what is left of the caller's events without the newest event of all
pub keeps_before : (h : Header) (c : ℕ) (e : Stamped) (earlier : List Stamped)
    → KeepsTo h (part_of c (e ∷ earlier)) → KeepsTo h (part_of c earlier)
keeps_before h c e earlier keeps = grind (arith, part_of)

next_agrees : (h : Header) (c d : ℕ) (did : Did) (earlier : List Did) (log : List Entry) (b : Bool)
    → (d == c) ≡ b
    → KeepsTo h (cons_option (cond b (Some did) None) earlier)
    → Agrees c (situation_after earlier) log
    → Agrees c (situation_after (cons_option (cond b (Some did) None) earlier))
    (cons_option (logged d did) log)
next_agrees h c d did earlier log b e keeps a = search (own_event, other_event, arith)

-- so a caller's situation is what the log of the history says of it
pub agrees : (h : Header) (c : ℕ) (earlier : List Stamped) → KeepsTo h (part_of c earlier)
    → Agrees c (situation_after (part_of c earlier)) (filter_map log_entry earlier)
agrees h c [] keeps = record { called = refl; committed = refl; in_block = refl }
agrees h c (e ∷ earlier) keeps = next_agrees h c e.caller e.did (part_of c _)
    (filter_map log_entry earlier) (e.caller == c) refl keeps
    (agrees h c earlier (keeps_before h c e _ keeps))
