-- What holds between any two events of a legal history in which callers play scripts that do right,
-- and how one more event
-- keeps it.
use Rattle.vyrd_every.proofs.Prelude
use Prelude.{◌≡◌, ℕ, ◌<◌, ◌⊎◌, inl, inr, Bool, true, false, cond, List, [], ◌∷◌, ◌++◌, Option, Some}
use Prelude.{None, length, refl, ap, ◌∙◌, sym, subst, ◌==◌, cons_option, append-nil, same_Some}
use Prelude.{Header, Kind, Call, Return, Write, Commit, BlockOpen, BlockClose, BlockCommit, Entry}
use Prelude.{Did, Read, Wrote, Took, Gave, Marked, Stamped, Called, open_call, holds_word}
use Prelude.{entries_before_call, is_observer, Amounts, next_state, commit_count, cells_of, may_do}
use Prelude.{is_plain, logged, WellFormed, by_same, second_true, same_of, same_number}
use Prelude.{commits_before_call, Mark, Memory, Script, after_answer, answer_of, left_after, Plays}
use Prelude.{Situation, holds, may_act, after_act, part_of, script_of, AreSoundScripts}
use Prelude.{act_of_event, situation_after, KeepsTo, caller_low, does, Agrees, agrees, write_kept}
use Prelude.{mark_kept, IsRun, run_keeps, Structure, Fits, shown_by, Locals, Access, shown_after}
use Prelude.{called_after, answer_at, log_in, OfCaller, has_answer, Invariant, never}
use Rattle.vyrd_every.specs.RightScripts.{Sees, Answers, WillReturn, Commits, Reaches, ActsRight}
use Rattle.vyrd_every.proofs.Logs.{held_by_none, write_unraced, IsNoWrite, mark_unraced}
use Rattle.vyrd_every.proofs.Raw.{raw_is_shown, one_holder}
use Rattle.vyrd_every.proofs.Ones.{OwnStep, own_step, other_step, still_apart}
use Rattle.vyrd_every.proofs.Answered.{commits_now, calls_now, passed_after, passed_step}
use Rattle.vyrd_every.proofs.Answered.{call_other, call_own, answer_more, answer_last}

-- what a commit leads to
pub record Committing (c : ℕ) (log : List Entry) (rest : Script) (state next : Amounts) : Type 0
  where
    pub called : Called
    pub is_called : open_call c log ≡ Some called
    pub reply : ℕ
    pub returns : WillReturn reply rest
    pub allowed : next_state called.method called.args reply state ≡ Some next

-- what an event makes of the state
abbrev pub Leading : ℕ → Did → List Entry → Script → Amounts → Amounts → Type 0
Leading c (Marked Commit) log rest state next = Committing c log rest state next
Leading c (Marked BlockCommit) log rest state next = Committing c log rest state next
Leading c _ log rest state next = next ≡ state

-- an observer that returns has seen its answer
abbrev pub Returning : ℕ → Did → List Entry → List Amounts → Amounts → Type 0
Returning c (Marked (Return reply)) log passed state = (called : Called) → open_call c log
    ≡ Some called → is_observer called.method ≡ true
    → has_answer (passed ++ state ∷ []) (commit_count (entries_before_call c log)) called reply
    ≡ true
Returning c _ log passed state = Unit {0}

-- what one more event makes of it all
pub record Next (S : Structure) (scripts : List Script) (earlier : List Stamped) (number c : ℕ)
    (did : Did) (passed : List Amounts) (state : Amounts) : Type 0 where
  pub locals : ℕ → Locals
  pub next : Amounts
  pub holds : Invariant S scripts (record { number = number; caller = c; did = did } ∷ earlier)
      locals (passed_after did passed state) next
  pub leading : Leading c did (log_in earlier)
      (after_answer (left_after (script_of scripts c) (part_of c earlier)) 0) state next
  pub returning : Returning c did (log_in earlier) passed state

-- the parts of the history after one more event
pub part_own : (number c : ℕ) (did : Did) (earlier : List Stamped)
    → part_of c (record { number = number; caller = c; did = did } ∷ earlier) ≡ did
    ∷ part_of c earlier
part_own number c did earlier = cc (same_number c)

pub part_other : (number c d : ℕ) (did : Did) (earlier : List Stamped) → (c == d) ≡ false
    → part_of d (record { number = number; caller = c; did = did } ∷ earlier) ≡ part_of d earlier
part_other number c d did earlier apart = cc

pub run_before : (h : Header) (scripts : List Script) (e : Stamped) (earlier : List Stamped)
    → IsRun h scripts (e ∷ earlier) → IsRun h scripts earlier
run_before h scripts e earlier run =
    record { legal = run.legal.1; plays = λ d. by_test d (e.caller == d) (run.plays d) }
  where
    by_test : (d : ℕ) (b : Bool) → Plays (script_of scripts d)
        (cons_option (cond b (Some e.did) None) (part_of d earlier))
        → Plays (script_of scripts d) (part_of d earlier)
    by_test d true plays = plays.1
    by_test d false plays = plays

-- a word whose guard the caller holds isn't held by another caller's block
free_word : (S : Structure) (scripts : List Script) (earlier : List Stamped) (locals : ℕ → Locals)
    (passed : List Amounts) (state : Amounts) (c d cell : ℕ)
    → Fits S → AreSoundScripts S.header scripts → IsRun S.header scripts earlier
    → Invariant S scripts earlier locals passed state
    → c < S.header.callers → d < S.header.callers → (d == c) ≡ false
    → Access S (situation_after (part_of c earlier)) cell → holds_word d cell (log_in earlier)
    ≡ false
free_word S scripts earlier locals passed state c d cell is sound run holds low_c low_d apart
    access = by_test (holds_word d cell (log_in earlier)) refl
  where
    by_test : (b : Bool) → holds_word d cell (log_in earlier) ≡ b → b ≡ false
    by_test true e =
        let same : c ≡ d = one_holder S c d earlier cell is run.legal
        (run_keeps S.header scripts earlier c sound run low_c)
        (run_keeps S.header scripts earlier d sound run low_d) access
        ((holds.each d low_d).covers cell e) in
        absurd (never apart (rw (← same) (same_number c)))
    by_test false e = refl

-- what a load finds is what the log shows
found_in : (S : Structure) (scripts : List Script) (earlier : List Stamped) (locals : ℕ → Locals)
    (passed : List Amounts) (state : Amounts) (c : ℕ) (did : Did)
    → Fits S → AreSoundScripts S.header scripts → IsRun S.header scripts earlier
    → Invariant S scripts earlier locals passed state → c < S.header.callers
    → may_do (cells_of S.header) earlier c did ≡ true
    → Agrees c (situation_after (part_of c earlier)) (log_in earlier)
    → Reaches S (situation_after (part_of c earlier)) (act_of_event did) → answer_of did
    ≡ answer_at (shown_by (log_in earlier)) (act_of_event did)
found_in S scripts earlier locals passed state c (Read cell value) is sound run holds low may agree
    reaches = same_of _ _ (second_true (is_plain (cells_of S.header) _) _ may)
    ∙ raw_is_shown S earlier cell is run.legal holds.kept reaches.0.low
    (λ d low_d. by_same d c (λ same. rw same (cc (agree.in_block, reaches.1)))
    (λ apart. free_word S scripts earlier locals passed state c d cell is sound run holds low low_d
    apart reaches.0))
found_in S scripts earlier locals passed state c (Wrote cell value) is sound run holds low may agree
    reaches = refl
found_in S scripts earlier locals passed state c (Took lock) is sound run holds low may agree
    reaches = refl
found_in S scripts earlier locals passed state c (Gave lock) is sound run holds low may agree
    reaches = refl
found_in S scripts earlier locals passed state c (Marked kind) is sound run holds low may agree
    reaches = refl

no_write : (S : Structure) (s : Situation) (kind : Kind) → Reaches S s (Mark kind) → IsNoWrite kind
no_write S s (Call method args) reaches = tt
no_write S s (Return reply) reaches = tt
no_write S s (Write word value) reaches = reaches
no_write S s Commit reaches = tt
no_write S s BlockOpen reaches = tt
no_write S s BlockClose reaches = tt
no_write S s BlockCommit reaches = tt

-- the log stays well formed
kept_step : (S : Structure) (scripts : List Script) (earlier : List Stamped) (locals : ℕ → Locals)
    (passed : List Amounts) (state : Amounts) (c : ℕ) (did : Did)
    → Fits S → AreSoundScripts S.header scripts → IsRun S.header scripts earlier
    → Invariant S scripts earlier locals passed state → c < S.header.callers
    → may_act S.header (situation_after (part_of c earlier)) (act_of_event did) ≡ true
    → Agrees c (situation_after (part_of c earlier)) (log_in earlier)
    → Reaches S (situation_after (part_of c earlier)) (act_of_event did)
    → WellFormed S.header (cons_option (logged c did) (log_in earlier))
kept_step S scripts earlier locals passed state c (Read cell value) is sound run holds low may agree
    reaches = holds.kept
kept_step S scripts earlier locals passed state c (Took lock) is sound run holds low may agree
    reaches = holds.kept
kept_step S scripts earlier locals passed state c (Gave lock) is sound run holds low may agree
    reaches = holds.kept
kept_step S scripts earlier locals passed state c (Wrote cell value) is sound run holds low may
    agree reaches = (
      write_unraced S.header c cell value _ is.version holds.kept
          (held_by_none S.header c _ _
          (λ d low_d apart. free_word S scripts earlier locals passed state c d cell is sound run
          holds low low_d apart reaches))
          (write_kept S.header c cell value (situation_after (part_of c _)) _ low may agree),
      holds.kept,
    )
kept_step S scripts earlier locals passed state c (Marked kind) is sound run holds low may agree
    reaches = (
      mark_unraced S.header c kind (log_in earlier)
          (no_write S (situation_after (part_of c earlier)) _ reaches)
          (mark_kept S.header c kind (situation_after (part_of c _)) (log_in earlier) low may
          agree),
      holds.kept,
    )

-- the state after the event
commit_leads : (S : Structure) (k : Locals) (c : ℕ) (log : List Entry) (rest : Script)
    (now : Memory) (state : Amounts) → k.called ≡ open_call c log
    → Commits k S rest now state → (next : Amounts) × S.Represents now next
    × Committing c log rest state next
commit_leads S k c log rest now state called commits = (
  commits.next,
  commits.means,
  record {
    called = commits.called;
    is_called = sym called ∙ commits.is_called;
    reply = commits.reply;
    returns = commits.returns;
    allowed = commits.allowed;
  },
)

event_leads : (S : Structure) (s : Situation) (k next : Locals) (c : ℕ) (did : Did)
    (log : List Entry) (shown : Memory) (rest : Script) (state : Amounts)
    → k.called ≡ open_call c log → ActsRight S s k shown (act_of_event did) rest next
    → S.Represents shown state
    → (after : Amounts) × S.Represents (shown_after s k shown (act_of_event did)) after
    × Leading c did log rest state after
event_leads S s k next c (Read cell value) log shown rest state called does m =
    (state, does.leads _ m, refl)
event_leads S s k next c (Wrote cell value) log shown rest state called does m =
    (state, does.leads _ m, refl)
event_leads S s k next c (Took lock) log shown rest state called does m =
    (state, does.leads _ m, refl)
event_leads S s k next c (Gave lock) log shown rest state called does m =
    (state, does.leads _ m, refl)
event_leads S s k next c (Marked (Call method args)) log shown rest state called does m =
    (state, does.leads _ m, refl)
event_leads S s k next c (Marked (Return reply)) log shown rest state called does m =
    (state, does.leads _ m, refl)
event_leads S s k next c (Marked (Write word value)) log shown rest state called does m =
    (state, does.leads _ m, refl)
event_leads S s k next c (Marked Commit) log shown rest state called does m =
    commit_leads S k c _ _ _ _ called (does.leads _ m)
event_leads S s k next c (Marked BlockOpen) log shown rest state called does m =
    (state, does.leads _ m, refl)
event_leads S s k next c (Marked BlockClose) log shown rest state called does m =
    (state, does.leads _ m, refl)
event_leads S s k next c (Marked BlockCommit) log shown rest state called does m =
    commit_leads S k c _ _ _ _ called (does.leads _ m)

-- the states along the log grow at their end
path_same : (passed : List Amounts) (state next : Amounts) → next ≡ state → passed ++ next ∷ []
    ≡ (passed ++ state ∷ []) ++ []
path_same passed state next e = cc (append-nil (passed ++ state ∷ []))

pub path_grows : (c : ℕ) (did : Did) (log : List Entry) (rest : Script) (passed : List Amounts)
    (state next : Amounts) → Leading c did log rest state next
    → passed_after did passed state ++ next ∷ [] ≡ (passed ++ state ∷ []) ++ cond (commits_now did)
    (next ∷ []) []
path_grows c (Read cell value) log rest passed state next leading = path_same _ _ _ leading
path_grows c (Wrote cell value) log rest passed state next leading = path_same _ _ _ leading
path_grows c (Took lock) log rest passed state next leading = path_same _ _ _ leading
path_grows c (Gave lock) log rest passed state next leading = path_same _ _ _ leading
path_grows c (Marked (Call method args)) log rest passed state next leading =
    path_same _ _ _ leading
path_grows c (Marked (Return reply)) log rest passed state next leading = path_same _ _ _ leading
path_grows c (Marked (Write word value)) log rest passed state next leading =
    path_same _ _ _ leading
path_grows c (Marked Commit) log rest passed state next leading = refl
path_grows c (Marked BlockOpen) log rest passed state next leading = path_same _ _ _ leading
path_grows c (Marked BlockClose) log rest passed state next leading = path_same _ _ _ leading
path_grows c (Marked BlockCommit) log rest passed state next leading = refl

-- what a caller knows of the answer, with these states since the call
abbrev pub SeenBy : Locals → ℕ → List Entry → List Amounts → Type 0
SeenBy k c log states = (called : Called) → k.called ≡ Some called → (reply : ℕ) → k.answered
    ≡ Some reply
    → has_answer states (commit_count (entries_before_call c log)) called reply ≡ true

pub same_called : (x y : Called) → ◌≡◌ {A = Option Called} (Some x) (Some y) → x ≡ y
same_called x y e = cc

pub no_reply : (o : Option ℕ) (reply : ℕ) → o ≡ None → o ≡ Some reply → ⊥
no_reply o reply e f = cc

-- an event that isn't a call of the caller and finds no answer
pub seen_quiet : (c : ℕ) (did : Did) (k next : Locals) (log : List Entry)
    (states more : List Amounts) → calls_now did ≡ false → next.called ≡ k.called
    → next.answered ≡ k.answered → SeenBy k c log states
    → SeenBy next c (cons_option (logged c did) log) (states ++ more)
seen_quiet c did k next log states more none same_call same_answer seen called is reply answer =
    answer_more states more (commit_count (entries_before_call c (cons_option (logged c did) log)))
    called reply
    (ap (λ es. has_answer states (commit_count es) called reply) (call_own c did log none)
    ∙ seen called (sym same_call ∙ is) reply (sym same_answer ∙ answer))

seen_own : (S : Structure) (c : ℕ) (did : Did) (k next : Locals) (log : List Entry) (shown : Memory)
    (passed more : List Amounts) (state : Amounts)
    → Answers S k shown (act_of_event did) next → next.called
    ≡ called_after (act_of_event did) k.called → S.Represents shown state
    → length passed ≡ commit_count log → SeenBy k c log (passed ++ state ∷ [])
    → SeenBy next c (cons_option (logged c did) log) ((passed ++ state ∷ []) ++ more)
seen_own S c (Read cell value) k next log shown passed more state answers called m count seen =
    seen_quiet c (Read cell value) k next log (passed ++ state ∷ []) more refl called answers seen
seen_own S c (Wrote cell value) k next log shown passed more state answers called m count seen =
    seen_quiet c (Wrote cell value) k next log (passed ++ state ∷ []) more refl called answers seen
seen_own S c (Took lock) k next log shown passed more state answers called m count seen =
    seen_quiet c (Took lock) k next log (passed ++ state ∷ []) more refl called answers seen
seen_own S c (Gave lock) k next log shown passed more state answers called m count seen =
    by_answer answers
  where
    by_answer : (next.answered ≡ k.answered) ⊎ Sees S k next shown
        → SeenBy next c log ((passed ++ state ∷ []) ++ more)
    by_answer (inl same) = seen_quiet c (Gave lock) k next log (passed ++ state ∷ []) more refl
        called same seen
    by_answer (inr sees) = λ its is reply answer.
        let call : sees.called ≡ its = same_called sees.called its
        (sym (called ∙ sees.is_called) ∙ is) in
        let one : sees.reply ≡ reply = same_Some sees.reply reply (sym sees.answer ∙ answer) in
        answer_more (passed ++ state ∷ []) more (commit_count (entries_before_call c log)) its reply
        (answer_last passed state (commit_count (entries_before_call c log)) its reply
        (rw count (commits_before_call c log)) (rw (← call) (sees.seen state m ∙ one)))
seen_own S c (Marked (Call method args)) k next log shown passed more state answers called m count
    seen = λ its is reply answer. absurd (no_reply next.answered reply answers answer)
seen_own S c (Marked (Return other)) k next log shown passed more state answers called m count
    seen = λ its is reply answer. absurd (no_reply next.answered reply answers.0 answer)
seen_own S c (Marked (Write word value)) k next log shown passed more state answers called m count
    seen = seen_quiet c (Marked (Write word value)) k next log (passed ++ state ∷ []) more refl
    called answers seen
seen_own S c (Marked Commit) k next log shown passed more state answers called m count seen =
    seen_quiet c (Marked Commit) k next log (passed ++ state ∷ []) more refl called answers seen
seen_own S c (Marked BlockOpen) k next log shown passed more state answers called m count seen =
    seen_quiet c (Marked BlockOpen) k next log (passed ++ state ∷ []) more refl called answers seen
seen_own S c (Marked BlockClose) k next log shown passed more state answers called m count seen =
    seen_quiet c (Marked BlockClose) k next log (passed ++ state ∷ []) more refl called answers seen
seen_own S c (Marked BlockCommit) k next log shown passed more state answers called m count seen =
    seen_quiet c (Marked BlockCommit) k next log (passed ++ state ∷ []) more refl called answers
    seen

-- another caller's event
pub seen_other : (c d : ℕ) (did : Did) (k : Locals) (log : List Entry) (states more : List Amounts)
    → (c == d) ≡ false → SeenBy k d log states
    → SeenBy k d (cons_option (logged c did) log) (states ++ more)
seen_other c d did k log states more apart seen called is reply answer =
    answer_more states more (commit_count (entries_before_call d _)) called reply
    (cc (call_other c d did log apart, seen called is reply answer))

-- an observer returns what it has seen
event_returns : (S : Structure) (c : ℕ) (did : Did) (k next : Locals) (log : List Entry)
    (shown : Memory) (passed : List Amounts) (state : Amounts)
    → Answers S k shown (act_of_event did) next → k.called ≡ open_call c log
    → SeenBy k c log (passed ++ state ∷ []) → Returning c did log passed state
event_returns S c (Marked (Return reply)) k next log shown passed state answers called seen =
    λ its is observes. seen _ (called ∙ is) _ (answers.1 its (called ∙ is) observes)
event_returns S c (Read cell value) k next log shown passed state answers called seen = tt
event_returns S c (Wrote cell value) k next log shown passed state answers called seen = tt
event_returns S c (Took lock) k next log shown passed state answers called seen = tt
event_returns S c (Gave lock) k next log shown passed state answers called seen = tt
event_returns S c (Marked (Call method args)) k next log shown passed state answers called seen = tt
event_returns S c (Marked (Write word value)) k next log shown passed state answers called seen = tt
event_returns S c (Marked Commit) k next log shown passed state answers called seen = tt
event_returns S c (Marked BlockOpen) k next log shown passed state answers called seen = tt
event_returns S c (Marked BlockClose) k next log shown passed state answers called seen = tt
event_returns S c (Marked BlockCommit) k next log shown passed state answers called seen = tt

-- one more event keeps it all
pub next_event : (S : Structure) (scripts : List Script) (earlier : List Stamped) (number c : ℕ)
    (did : Did) (locals : ℕ → Locals) (passed : List Amounts) (state : Amounts)
    → Fits S → AreSoundScripts S.header scripts
    → IsRun S.header scripts (record { number = number; caller = c; did = did } ∷ earlier)
    → Invariant S scripts earlier locals passed state
    → Next S scripts earlier number c did passed state
next_event S scripts earlier number c did locals passed state is sound run holds =
    record {
      locals = now_locals;
      next = after.0;
      holds =
          record {
            kept = kept_step S scripts earlier locals passed state c did is sound before
                holds low may agree own.does.reaches;
            each = λ d low_d. by_same c d
                (λ same. subst
                (λ x. OfCaller S (script_of scripts x) (part_of x (e ∷ earlier)) log x
                (now_locals x)) same own_now)
                (λ other. subst (λ p. OfCaller S (script_of scripts d) p log d (now_locals d))
                (sym (part_other number c d did earlier other))
                (subst (λ k. OfCaller S (script_of scripts d) (part_of d earlier) log d k)
                (sym (cc)) (other_step S (script_of scripts d) (part_of d earlier)
                (log_in earlier) c d did s (locals c) (locals d) (holds.each d low_d) other
                own.shows own.does.guarantee
                (λ cell access_c access_d. never other
                (subst (λ x. (c == x) ≡ true)
                (one_holder S c d earlier cell is before.legal
                (run_keeps S.header scripts earlier c sound before low)
                (run_keeps S.header scripts earlier d sound before low_d) access_c access_d)
                (same_number c))) (holds.apart c d low low_d other))));
            apart = λ a b low_a low_b other slot mine its. two_apart a b low_a low_b other slot
                (c == a) refl (c == b) refl mine its;
            means = subst (λ m. S.Represents m after.0) (sym own.shows) after.1;
            count = passed_step c did (log_in earlier) passed state holds.count;
            seen = λ d low_d called is_called reply answer. subst
                (λ states. has_answer states (commit_count (entries_before_call d log)) called reply
                ≡ true) (sym (path_grows c did (log_in earlier) left passed state after.0 after.2))
                (seen_by d low_d (c == d) refl called is_called reply answer);
          };
      leading = after.2;
      returning = event_returns S c did (locals c) own.next (log_in earlier)
          (shown_by (log_in earlier)) passed state own.does.answers mine.called (holds.seen c low);
    }
  where
    e : Stamped
    e = record { number = number; caller = c; did = did }

    log : List Entry
    log = cons_option (logged c did) (log_in earlier)

    s : Situation
    s = situation_after (part_of c earlier)

    left : Script
    left = after_answer (left_after (script_of scripts c) (part_of c earlier)) 0

    before : IsRun S.header scripts earlier
    before = run_before S.header scripts e earlier run

    low : c < S.header.callers
    low = caller_low (cells_of S.header) earlier e run.legal.0

    mine : OfCaller S (script_of scripts c) (part_of c earlier) (log_in earlier) c (locals c)
    mine = holds.each c low

    keeps : KeepsTo S.header (did ∷ part_of c earlier)
    keeps = subst (KeepsTo S.header) (part_own number c did earlier)
        (run_keeps S.header scripts (e ∷ earlier) c sound run low)

    may : may_act S.header s (act_of_event did) ≡ true
    may = keeps.0

    agree : Agrees c s (log_in earlier)
    agree = agrees S.header c earlier keeps.1

    agree_now : Agrees c (after_act s (act_of_event did)) log
    agree_now = subst (λ p. Agrees c (situation_after p) log) (part_own number c did earlier)
        (agrees S.header c (e ∷ earlier) (run_keeps S.header scripts (e ∷ earlier) c sound run low))

    plays : Plays (script_of scripts c) (did ∷ part_of c earlier)
    plays = subst (Plays (script_of scripts c)) (part_own number c did earlier) (run.plays c)

    own : OwnStep S (script_of scripts c) (part_of c earlier) (log_in earlier) c did (locals c)
    own = own_step S (script_of scripts c) (part_of c earlier) (log_in earlier) c did
        (locals c) mine agree agree_now may plays.0
        (found_in S scripts earlier locals passed state c did is sound before holds low
        (does (cells_of S.header) earlier e run.legal.0) agree)

    now_locals : ℕ → Locals
    now_locals d = cond (c == d) own.next (locals d)

    own_now : OfCaller S (script_of scripts c) (part_of c (e ∷ earlier)) log c (now_locals c)
    own_now = subst (λ p. OfCaller S (script_of scripts c) p log c (now_locals c))
        (sym (part_own number c did earlier))
        (subst (λ k. OfCaller S (script_of scripts c) (did ∷ part_of c earlier) log c k)
        (sym (cc (same_number c))) own.one)

    after : (next : Amounts)
        × S.Represents (shown_after s (locals c) (shown_by (log_in earlier)) (act_of_event did))
        next
        × Leading c did (log_in earlier) left state next
    after = event_leads S s (locals c) own.next c did (log_in earlier) (shown_by (log_in earlier))
        left state mine.called own.does holds.means

    separate : (d : ℕ) → d < S.header.callers → (c == d) ≡ false → (slot : ℕ) → own.next.owned slot
        ≡ true → (locals d).owned slot ≡ true → ⊥
    separate d low_d other = still_apart S s (locals c) own.next (locals d)
        (shown_by (log_in earlier)) (act_of_event did) left own.does
        (holds.apart c d low low_d other) (holds.each d low_d).reserved

    two_apart : (a b : ℕ) → a < S.header.callers → b < S.header.callers → (a == b) ≡ false
        → (slot : ℕ) → (x : Bool) → (c == a) ≡ x → (y : Bool) → (c == b) ≡ y
        → (cond x own.next (locals a)).owned slot ≡ true → (cond y own.next (locals b)).owned slot
        ≡ true → ⊥
    two_apart a b low_a low_b other slot true f true g mine its = never other
        (subst (λ z. (a == z) ≡ true) (sym (same_of c a f) ∙ same_of c b g) (same_number a))
    two_apart a b low_a low_b other slot true f false g mine its = separate b low_b g slot mine its
    two_apart a b low_a low_b other slot false f true g mine its = separate a low_a f slot its mine
    two_apart a b low_a low_b other slot false f false g mine its = holds.apart a b low_a low_b
        other slot mine its

    grown : List Amounts
    grown = cond (commits_now did) (after.0 ∷ []) []

    seen_by : (d : ℕ) → d < S.header.callers → (x : Bool) → (c == d) ≡ x
        → SeenBy (cond x own.next (locals d)) d log ((passed ++ state ∷ []) ++ grown)
    seen_by d low_d true f = subst (λ z. SeenBy own.next z log ((passed ++ state ∷ []) ++ grown))
        (same_of c d f)
        (seen_own S c did (locals c) own.next (log_in earlier) (shown_by (log_in earlier)) passed
        grown state own.does.answers own.does.called holds.means holds.count (holds.seen c low))
    seen_by d low_d false f = seen_other c d did (locals d) (log_in earlier) (passed ++ state ∷ [])
        grown f (holds.seen d low_d)
