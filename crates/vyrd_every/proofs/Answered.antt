-- Which states an observer has seen: the commits along the log, and the states from a caller's call
-- on.
use Rattle.vyrd_every.proofs.Prelude
use Prelude.{◌≡◌, ℕ, zero, suc, ◌+◌, ◌≤◌, Bool, true, false, cond, ◌||◌, List, [], ◌∷◌, ◌++◌}
use Prelude.{length, refl, arith, ◌==◌, cons_option, list_any, Write, Entry, Did, Read, Wrote, Took}
use Prelude.{Gave, Marked, Called, is_call, entries_before_call, Amounts, answer_in, is_commit}
use Prelude.{commit_count, logged, commit_count-cons, entry, same_number, has_answer}

-- whether an event commits
abbrev pub commits_now : Did → Bool
commits_now (Marked kind) = is_commit kind
commits_now _ = false

-- how many commits there are after one more event
pub count_step : (c : ℕ) (did : Did) (log : List Entry)
    → commit_count (cons_option (logged c did) log) ≡ cond (commits_now did) 1 0 + commit_count log
count_step c (Read cell value) log = omega arith
count_step c (Took lock) log = omega arith
count_step c (Gave lock) log = omega arith
count_step c (Wrote cell value) log = commit_count-cons (entry c (Write cell value)) log
count_step c (Marked kind) log = commit_count-cons (entry c kind) log

-- the states that have passed, after one more event
abbrev pub passed_after : Did → List Amounts → Amounts → List Amounts
passed_after did passed state = cond (commits_now did) (passed ++ state ∷ []) passed

length_more : (xs : List Amounts) (x : Amounts) → length (xs ++ x ∷ []) ≡ length xs + 1
length_more [] x = refl
length_more (y ∷ xs) x = omega (arith, length_more xs x)

pub passed_step : (c : ℕ) (did : Did) (log : List Entry) (passed : List Amounts) (state : Amounts)
    → length passed ≡ commit_count log
    → length (passed_after did passed state) ≡ commit_count (cons_option (logged c did) log)
passed_step c did log passed state e = grind (arith, passed, count_step, length_more)

-- the caller's last call is the same after an event that isn't a call of its own
pub call_other : (c d : ℕ) (did : Did) (log : List Entry) → (c == d) ≡ false
    → entries_before_call d (cons_option (logged c did) log) ≡ entries_before_call d log
call_other c d did log apart = grind (arith, apart)

-- whether an event is a call
abbrev pub calls_now : Did → Bool
calls_now (Marked kind) = is_call kind
calls_now _ = false

pub call_own : (c : ℕ) (did : Did) (log : List Entry) → calls_now did ≡ false
    → entries_before_call c (cons_option (logged c did) log) ≡ entries_before_call c log
call_own c did log none = grind arith

any_more : (f : Amounts → Bool) (xs ys : List Amounts) → list_any f xs ≡ true
    → list_any f (xs ++ ys) ≡ true
any_more f [] ys e = cc
any_more f (x ∷ xs) ys e = by_test (f x) (any_more f xs ys) e
  where
    by_test : (b : Bool) → (list_any f xs ≡ true → list_any f (xs ++ ys) ≡ true)
        → (b || list_any f xs) ≡ true → (b || list_any f (xs ++ ys)) ≡ true
    by_test b rest e = search arith

pub answer_more : (states more : List Amounts) (n : ℕ) (called : Called) (reply : ℕ)
    → has_answer states n called reply ≡ true
    → has_answer (states ++ more) n called reply ≡ true
answer_more states more zero called reply e = search (any_more, more, arith)
answer_more [] more (suc n) called reply e = cc
answer_more (state ∷ states) more (suc n) called reply e = answer_more states more n called reply e

-- the answer in the last state
pub answer_last : (passed : List Amounts) (state : Amounts) (n : ℕ) (called : Called) (reply : ℕ)
    → n ≤ length passed
    → answer_in state called.method called.args ≡ reply
    → has_answer (passed ++ state ∷ []) n called reply ≡ true
answer_last [] state zero called reply low e = search (same_number, arith)
answer_last [] state (suc n) called reply low e = absurd (omega (arith, low))
answer_last (x ∷ passed) state zero called reply low e =
    by_test (answer_in x _ _ == reply) (answer_last passed state zero called reply (omega arith) e)
  where
    by_test : (b : Bool) → has_answer (passed ++ state ∷ []) 0 called reply ≡ true
        → (b || has_answer (passed ++ state ∷ []) 0 called reply) ≡ true
    by_test b rest = search arith
answer_last (x ∷ passed) state (suc n) called reply low e = answer_last passed state n called reply
    (omega (arith, low)) e
