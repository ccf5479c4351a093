-- How many answers are kept of open observers, by what is left open in the log.
use Rattle.vyrd_judge.proofs.Prelude
use Prelude.{◌≡◌, ℕ, suc, ◌+◌, ◌≤◌, true, false, List, [], ◌∷◌, length, Option, Some, None}
use Prelude.{slice_get, refl, ap, subst, ◌∙◌, arith, cons_option, sum_by, sum_by-cons, Header}
use Prelude.{Entry, is_commit, place_of, newest_first_onto, newest_first, numbers_from, broken_rule}
use Prelude.{break_after, both_none, Seen, answer_count, Waiting, answers_of, answers_left}
use Prelude.{AllReturned, AreSeenFew, is_left_open, AwaitsReturn, waiting_at, waiting_after}
use Rattle.vyrd_judge.specs.Answers.{before_open_commit}
use Rattle.vyrd_judge.proofs.AnswerLaws.{quiet_answers}
use Rattle.vyrd_judge.proofs.KeepingLaws.{left_open, log_parts}
use Rattle.vyrd_judge.proofs.WaitingLaws.{uncommitted}

-- where a commit is left open the entries before it are those meant, and otherwise one goes on
at_open : (e : Entry) (earlier later : List Entry) → is_left_open e later ≡ true
    → before_open_commit earlier (e ∷ later) ≡ earlier
at_open e earlier later is = cc

past : (e : Entry) (earlier later : List Entry) → is_left_open e later ≡ false
    → before_open_commit earlier (e ∷ later) ≡ before_open_commit (e ∷ earlier) later
past e earlier later is = cc

-- all entries before a place are passed over if their commits have returned
passed : (earlier later : List Entry) → AllReturned earlier later
    → before_open_commit [] (newest_first_onto later earlier) ≡ before_open_commit earlier later
passed [] later all = refl
passed (e ∷ earlier) later all = passed earlier (e ∷ later) all.1 ∙ past e earlier later all.0

-- from there on no answer goes, up to the commit that is left open
kept_on : (h : Header) (c : ℕ) (earlier later : List Entry) → break_after h earlier later ≡ None
    → AwaitsReturn (waiting_after earlier later)
    → answers_of c earlier ≤ answers_of c (before_open_commit earlier later)
kept_on h c earlier [] keeps awaits = omega arith
kept_on h c earlier (e ∷ later) keeps awaits = by_waiting (kept_on h c (e ∷ earlier) later both.1)
    (waiting_at (place_of e earlier later)) refl awaits
  where
    both : (broken_rule h earlier e ≡ None) × (break_after h (e ∷ earlier) later ≡ None)
    both = both_none (broken_rule h earlier e) (break_after h (e ∷ earlier) later) keeps

    isnt_open : is_commit e.kind ≡ false → is_left_open e later ≡ false
    isnt_open isnt = cc

    by_waiting : (AwaitsReturn (waiting_after (e ∷ earlier) later)
        → answers_of c (e ∷ earlier) ≤ answers_of c (before_open_commit (e ∷ earlier) later))
        → (o : Option Waiting) → waiting_at (place_of e earlier later) ≡ o
        → AwaitsReturn (cons_option o (waiting_after (e ∷ earlier) later))
        → answers_of c earlier ≤ answers_of c (before_open_commit earlier (e ∷ later))
    by_waiting further None quiet rest =
        let here = quiet_answers h e earlier later c both.0 quiet in
        let on = further rest in
        let is = ap (answers_of c)
        (past e earlier later (isnt_open (uncommitted h e earlier later both.0 quiet))) in
        omega (arith, here, on, is)
    by_waiting further (Some x) is first = search (at_open, left_open, arith)

-- as many in all as each caller has
sums_up : (bound : ℕ → ℕ) (k : ℕ) (watches : List Seen)
    → ((i : ℕ) (seen : Seen) → slice_get watches i ≡ Some seen
    → length seen.answers ≤ bound (k + i))
    → answer_count watches ≤ sum_by bound (numbers_from k (length watches))
sums_up bound k [] few = omega arith
sums_up bound k (seen ∷ watches) few =
    let rest = sums_up bound (k + 1) watches (λ i other here.
    let same : k + suc i ≡ k + 1 + i = omega arith in
    subst (λ n. length other.answers ≤ bound n) same (few (suc i) other here)) in
    let first : k + 0 ≡ k = omega arith in
    let here = subst (λ n. length seen.answers ≤ bound n) first (few 0 seen refl) in
    omega (
      arith,
      rest,
      here,
      sum_by-cons (λ (s : Seen). length s.answers) seen watches,
      sum_by-cons bound k (numbers_from (k + 1) (length watches)),
    )

-- what all callers have seen is no more than what the log leaves
pub seen_few_all : (callers : ℕ) (watches : List Seen) (earlier later log : List Entry) (h : Header)
    → newest_first_onto earlier later ≡ newest_first log → break_after h earlier later ≡ None
    → AwaitsReturn (waiting_after earlier later) → AllReturned earlier later
    → AreSeenFew earlier watches → length watches ≡ callers
    → answer_count watches ≤ answers_left callers log
seen_few_all callers watches earlier later log h whole keeps awaits returned few long =
    rw (← long) (sums_up bound 0 watches (λ c seen here.
    let low = few c seen here in
    let on = kept_on h c earlier later keeps awaits in
    let is = ap (answers_of c) (ap (before_open_commit []) (log_parts earlier later log whole)
    ∙ passed earlier later returned) in
    let there : length seen.answers ≤ bound c = omega (arith, low, on, is) in
    let same : c ≡ 0 + c = omega arith in
    rw (← same) there))
  where
    bound : ℕ → ℕ
    bound c = answers_of c (before_open_commit [] log)
