-- How what is kept of a caller's execution changes with one more entry.
use Rattle.vyrd_plain.proofs.Prelude
use Prelude.{◌≡◌, ℕ, true, ◌||◌, List, [], ◌∷◌, ◌++◌, Option, Some, None, ap, ◌∙◌, sym, list_any}
use Prelude.{or-false, Entry, open_call, has_committed, State, next_reply, states_since_call}
use Prelude.{Execution, answers, seeing, with_commit, IsExecution, IsOpen, Rules}
use Rattle.std.proofs.lemmas.List.Folds.{list_any-append}

-- what is kept stays where the entry changes none of it
pub execution_stays : (r : Rules) (states : List State) (c : ℕ) (e : Entry)
    (earlier later : List Entry) (o : Option Execution)
    → open_call c (e ∷ earlier) ≡ open_call c earlier → next_reply c (e ∷ later)
    ≡ next_reply c later
    → has_committed c (e ∷ earlier) ≡ has_committed c earlier
    → states_since_call states c (e ∷ earlier) ≡ states_since_call states c earlier
    → IsOpen r states c earlier (e ∷ later) o → IsOpen r states c (e ∷ earlier) later o
execution_stays r states c e earlier later None called reply committed window is = called ∙ is
execution_stays r states c e earlier later (Some x) called reply committed window is = record {
  called = called ∙ is.called;
  allowed = is.allowed;
  reply = is.reply ∙ reply;
  committed = is.committed ∙ sym committed;
  answered = is.answered ∙ ap (list_any (answers r x)) (sym window);
}

-- what is kept sees the state after a commit
sees_more : (r : Rules) (states : List State) (c : ℕ) (e : Entry) (earlier later : List Entry)
    (next : State) (x : Execution)
    → states_since_call states c (e ∷ earlier) ≡ states_since_call states c earlier ++ next ∷ []
    → IsExecution r states c earlier (e ∷ later) x
    → (x.is_answered || answers r x next) ≡ list_any (answers r x)
    (states_since_call states c (e ∷ earlier))
sees_more r states c e earlier later next x window is =
    ap (λ b. b || answers r x next) is.answered
    ∙ ap (λ b. list_any (answers r x) (states_since_call states c earlier) || b)
    (sym (or-false (answers r x next)))
    ∙ sym (list_any-append (answers r x) (states_since_call states c earlier) (next ∷ []))
    ∙ ap (list_any (answers r x)) (sym window)

pub execution_sees : (r : Rules) (states : List State) (c : ℕ) (e : Entry)
    (earlier later : List Entry) (next : State) (o : Option Execution)
    → open_call c (e ∷ earlier) ≡ open_call c earlier → next_reply c (e ∷ later)
    ≡ next_reply c later
    → has_committed c (e ∷ earlier) ≡ has_committed c earlier
    → states_since_call states c (e ∷ earlier) ≡ states_since_call states c earlier ++ next ∷ []
    → IsOpen r states c earlier (e ∷ later) o → IsOpen r states c (e ∷ earlier) later
    (seeing r next o)
execution_sees r states c e earlier later next None called reply committed window is = called ∙ is
execution_sees r states c e earlier later next (Some x) called reply committed window is = record {
  called = called ∙ is.called;
  allowed = is.allowed;
  reply = is.reply ∙ reply;
  committed = is.committed ∙ sym committed;
  answered = sees_more r states c e earlier later next x window is;
}

-- and so does the execution whose commit it is
pub execution_commits : (r : Rules) (states : List State) (c : ℕ) (e : Entry)
    (earlier later : List Entry) (next : State) (x : Execution)
    → open_call c (e ∷ earlier) ≡ open_call c earlier → next_reply c (e ∷ later)
    ≡ next_reply c later
    → has_committed c (e ∷ earlier) ≡ true
    → states_since_call states c (e ∷ earlier) ≡ states_since_call states c earlier ++ next ∷ []
    → IsExecution r states c earlier (e ∷ later) x → IsOpen r states c (e ∷ earlier) later
    (seeing r next (Some (with_commit x)))
execution_commits r states c e earlier later next x called reply committed window is = record {
  called = called ∙ is.called;
  allowed = is.allowed;
  reply = is.reply ∙ reply;
  committed = sym committed;
  answered = sees_more r states c e earlier later next x window is;
}
