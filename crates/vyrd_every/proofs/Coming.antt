-- A reply that a script will give comes in the log, where the script is played to its end.
use Rattle.vyrd_every.proofs.Prelude
use Prelude.{◌≡◌, ℕ, ◌⊎◌, inl, inr, Bool, true, false, cond, List, [], ◌∷◌, Option, Some, None}
use Prelude.{refl, ap, ◌∙◌, sym, subst, ◌==◌, filter_map, option_or, cons_option, Call, Return}
use Prelude.{Write, Commit, BlockOpen, BlockClose, BlockCommit, Entry, Did, Read, Wrote, Took, Gave}
use Prelude.{Marked, Stamped, newest_first_onto, returned, next_reply, logged, log_entry}
use Prelude.{own_answer, other_answer, same_of, Script, stop, step, next_act, after_answer}
use Prelude.{event_of, answer_of, left_after, IsAnswer, Plays, part_of, act_of_event, AreAnswers}
use Prelude.{event_act, WillReturn}

-- the reply that an event of the caller logs, if it is a return
abbrev reply_of : Did → Option ℕ
reply_of (Marked (Return reply)) = Some reply
reply_of _ = None

-- after an event the reply has come, or it is still to come
after_event : (reply : ℕ) (did : Did) (rest : ℕ → Script)
    → WillReturn reply (step (act_of_event did) rest) → IsAnswer (act_of_event did) (answer_of did)
    → (reply_of did ≡ Some reply)
    ⊎ ((reply_of did ≡ None) × WillReturn reply (rest (answer_of did)))
after_event reply (Read cell value) rest will is = inr (refl, will value is)
after_event reply (Wrote cell value) rest will is = inr (refl, will 0 refl)
after_event reply (Took lock) rest will is = inr (refl, will 0 refl)
after_event reply (Gave lock) rest will is = inr (refl, will 0 refl)
after_event reply (Marked (Call method args)) rest will is = inr (refl, will 0 refl)
after_event reply (Marked (Return other)) rest will is = inl (ap Some will)
after_event reply (Marked (Write word value)) rest will is = inr (refl, will 0 refl)
after_event reply (Marked Commit) rest will is = inr (refl, will 0 refl)
after_event reply (Marked BlockOpen) rest will is = inr (refl, will 0 refl)
after_event reply (Marked BlockClose) rest will is = inr (refl, will 0 refl)
after_event reply (Marked BlockCommit) rest will is = inr (refl, will 0 refl)

after_act_of : (reply : ℕ) (did : Did) (script : Script) → WillReturn reply script
    → event_of (next_act script) (answer_of did) ≡ Some did
    → IsAnswer (act_of_event did) (answer_of did)
    → (reply_of did ≡ Some reply)
    ⊎ ((reply_of did ≡ None) × WillReturn reply (after_answer script (answer_of did)))
after_act_of reply did stop will e is = absurd will
after_act_of reply did (step act rest) will e is =
    after_event _ _ rest (rw (← event_act act did e) will) is

-- what the log says of the reply after one more event
own_reply : (c : ℕ) (did : Did) (log : List Entry) → next_reply c (cons_option (logged c did) log)
    ≡ option_or (reply_of did) (next_reply c log)
own_reply c (Read cell value) log = refl
own_reply c (Took lock) log = refl
own_reply c (Gave lock) log = refl
own_reply c (Wrote cell value) log = own_answer c returned (Write cell value) log
own_reply c (Marked (Call method args)) log = own_answer c returned (Call method args) log
own_reply c (Marked (Return reply)) log = own_answer c returned (Return reply) log
own_reply c (Marked (Write word value)) log = own_answer c returned (Write word value) log
own_reply c (Marked Commit) log = own_answer c returned Commit log
own_reply c (Marked BlockOpen) log = own_answer c returned BlockOpen log
own_reply c (Marked BlockClose) log = own_answer c returned BlockClose log
own_reply c (Marked BlockCommit) log = own_answer c returned BlockCommit log

other_reply : (c d : ℕ) (did : Did) (log : List Entry) → (d == c) ≡ false
    → next_reply c (cons_option (logged d did) log) ≡ next_reply c log
other_reply c d (Read cell value) log apart = refl
other_reply c d (Took lock) log apart = refl
other_reply c d (Gave lock) log apart = refl
other_reply c d (Wrote cell value) log apart = simp (other_answer, returned, apart)
other_reply c d (Marked kind) log apart = other_answer c d returned kind log apart

-- what is played of a longer history was played before
plays_before : (c : ℕ) (script : Script) (earlier xs : List Stamped)
    → Plays script (part_of c (newest_first_onto earlier xs)) → Plays script (part_of c earlier)
plays_before c script earlier [] plays = plays
plays_before c script earlier (e ∷ xs) plays = by_test (e.caller == c)
    (plays_before c script (e ∷ earlier) xs plays)
  where
    by_test : (b : Bool) → Plays script (cons_option (cond b (Some e.did) None) (part_of c earlier))
        → Plays script (part_of c earlier)
    by_test true p = p.1
    by_test false p = p

answers_before : (c : ℕ) (earlier xs : List Stamped)
    → AreAnswers (part_of c (newest_first_onto earlier xs)) → AreAnswers (part_of c earlier)
answers_before c earlier [] answers = answers
answers_before c earlier (e ∷ xs) answers = by_test (e.caller == c)
    (answers_before c (e ∷ earlier) xs answers)
  where
    by_test : (b : Bool) → AreAnswers (cons_option (cond b (Some e.did) None) (part_of c earlier))
        → AreAnswers (part_of c earlier)
    by_test true a = a.1
    by_test false a = a

pub reply_comes : (c : ℕ) (script : Script) (earlier xs : List Stamped) (reply : ℕ)
    → WillReturn reply (left_after script (part_of c earlier))
    → Plays script (part_of c (newest_first_onto earlier xs))
    → AreAnswers (part_of c (newest_first_onto earlier xs))
    → left_after script (part_of c (newest_first_onto earlier xs)) ≡ stop
    → next_reply c (filter_map log_entry xs) ≡ Some reply
reply_comes c script earlier [] reply will plays answers done = absurd
    (subst (WillReturn reply) done will)
reply_comes c script earlier (e ∷ xs) reply will plays answers done =
    by_caller_of (e.caller == c) refl (plays_before c script (e ∷ earlier) xs plays)
    (answers_before c (e ∷ earlier) xs answers)
    (λ will'. reply_comes c script (e ∷ earlier) xs reply will' plays answers done)
  where
    by_caller_of : (b : Bool) → (e.caller == c) ≡ b
        → Plays script (cons_option (cond b (Some e.did) None) (part_of c earlier))
        → AreAnswers (cons_option (cond b (Some e.did) None) (part_of c earlier))
        → (WillReturn reply
        (left_after script
        (cons_option (cond (e.caller == c) (Some e.did) None) (part_of c earlier)))
        → next_reply c (filter_map log_entry xs) ≡ Some reply)
        → next_reply c (cons_option (logged e.caller e.did) (filter_map log_entry xs)) ≡ Some reply
    by_caller_of true same plays answers later =
        ap (λ d. next_reply c (cons_option (logged d e.did) (filter_map log_entry xs)))
        (same_of e.caller c same)
        ∙ own_reply c e.did (filter_map log_entry xs)
        ∙ here (after_act_of reply e.did (left_after script (part_of c earlier)) will plays.0
        answers.0)
      where
        here : (reply_of e.did ≡ Some reply)
            ⊎ ((reply_of e.did ≡ None)
            × WillReturn reply
            (after_answer (left_after script (part_of c earlier)) (answer_of e.did)))
            → option_or (reply_of e.did) (next_reply c (filter_map log_entry xs)) ≡ Some reply
        here (inl now) = ap (λ o. option_or o (next_reply c (filter_map log_entry xs))) now
        here (inr goes) = ap (λ o. option_or o (next_reply c (filter_map log_entry xs))) goes.0
            ∙ later (subst
            (λ b. WillReturn reply
            (left_after script (cons_option (cond b (Some e.did) None) (part_of c earlier))))
            (sym same) goes.1)
    by_caller_of false apart plays answers later =
        other_reply c e.caller e.did (filter_map log_entry xs) apart
        ∙ later (subst
        (λ b. WillReturn reply
        (left_after script (cons_option (cond b (Some e.did) None) (part_of c earlier))))
        (sym apart) will)
