-- How what is judged of a log goes on: with one more entry of the log, and with one more entry that
-- is judged.
use Rattle.vyrd_judge.proofs.Prelude
use Prelude.{◌≡◌, ℕ, ◌+◌, ◌≤◌, Bool, true, false, List, [], ◌∷◌, ◌++◌, map, length, Option, Some}
use Prelude.{None, refl, ap, subst, ◌∙◌, sym, arith, append_assoc, append-nil, option_map}
use Prelude.{option_or, not-false, cons_option, then_some_false, both_none, Header, Kind, Call}
use Prelude.{Return, Write, Commit, BlockOpen, BlockClose, BlockCommit, Entry, StartWord, Why}
use Prelude.{Violation, Place, places_after, newest_first_onto, newest_first, first_answer, Called}
use Prelude.{open_call, has_committed, is_observer, must_commit, broken_rule, effects, words_with}
use Prelude.{ended_effects_at, State, is_commit, fault_at, line_of, violation_at, first_fault}
use Prelude.{states_along, WellFormed, entry, break_after, break_after-append}
use Prelude.{newest_first_onto-append, newest_first-push, IsReturned, Settled, settled_next, Event}
use Prelude.{Waiting, first_with, with_part, effect_parts, with_effects, cut_if, parts_behind}
use Prelude.{ActAlike, AllActAlike, HasParts, place_of, Seen, waiting_of, waiting_at, waiting_after}
use Prelude.{replied, commit_of, Reached, ShowsFew, AreCurrent, Judged, AllReturned, AreSeenFew}
use Prelude.{call_kept, commit_kept, block_commit_runs, return_kept, Rules}
use Rattle.vyrd_judge.proofs.AlikeLaws.{has_parts_more}
use Rattle.vyrd_judge.proofs.EndingLaws.{AllEnd, end_next, end_more}
use Rattle.vyrd_judge.proofs.PartLaws.{parts_more}
use Rattle.vyrd_judge.proofs.Reaching.{reached_inside, reached_owes, reached_return}
use Rattle.vyrd_judge.proofs.ReachedFaults.{return_committed_at}
use Rattle.vyrd_judge.proofs.AnswerLaws.{seen_on, closed_here, returned_more}
use Rattle.vyrd_judge.proofs.WaitingLaws.{listed, waiting_more, uncommitted}

-- one more entry that keeps the rules: it may be the reply of a commit that waits, and may wait
-- itself
pub judged_more : (r : Rules) (starting : List StartWord) (log : List Entry) (e : Entry)
    (state : State) (made : ℕ) (watches : List Seen)
    (queue : List Waiting) (first : List ℕ) (since : List (List (ℕ × ℕ))) (writes : List (ℕ × ℕ))
    → WellFormed r.header (newest_first log)
    → broken_rule r.header (newest_first log) e ≡ None
    → ActAlike writes (ended_effects_at (newest_first log) e.caller e.kind)
    → Judged r starting log state made watches queue first since
    → Judged r starting (log ++ e ∷ []) state made watches
    (map (replied e) queue ++ listed (waiting_at (place_of e (newest_first log) [])))
    (first_with (parts_behind (newest_first log) e.caller e.kind) writes first since)
    (cut_if (is_commit e.kind)
    (with_part (parts_behind (newest_first log) e.caller e.kind) writes since))
judged_more r starting log e state made watches queue first since writes well_formed keeps alike j =
    record {
      earlier = j.earlier;
      later = j.later ++ e ∷ [];
      whole = newest_first_onto-append j.earlier j.later (e ∷ []) ∙ ap (λ es. e ∷ es) j.whole
          ∙ sym (newest_first-push log e);
      kept = break_after-append r.header j.earlier j.later (e ∷ [])
          ∙ ap (λ o. option_or o
          (break_after r.header (newest_first_onto j.earlier j.later) (e ∷ [])))
          j.kept
          ∙ ap (λ es. break_after r.header es (e ∷ [])) j.whole ∙ ap (λ o. option_or o None) keeps;
      queued = ap (λ es. map (replied e) queue ++ listed (waiting_at (place_of e es [])))
          (sym j.whole)
          ∙ ap (λ q. map (replied e) q
          ++ listed (waiting_at (place_of e (newest_first_onto j.earlier j.later) []))) j.queued
          ∙ sym (waiting_more j.earlier j.later e);
      parts = subst
          (HasParts r.header starting (first_with (behind (newest_first log)) writes first since)
          (cut_if (is_commit e.kind) (with_part (behind (newest_first log)) writes since)))
          parts (has_parts_more r.header starting first since
          (effect_parts (effects j.earlier j.later) j.earlier j.later) (behind (newest_first log))
          writes
          (ended_effects_at (newest_first log) e.caller e.kind) (is_commit e.kind) alike j.parts);
      settled = λ more. ap (effects j.earlier) (append_assoc j.later (e ∷ []) more)
          ∙ j.settled (e ∷ more) ∙ sym (j.settled (e ∷ []));
      ended = end_more j.earlier j.later (e ∷ []) j.ended;
      reached = λ more. subst
          (λ es. Reached r (states_along r starting es) j.earlier ((j.later ++ e ∷ []) ++ more)
          state watches) (sym (append_assoc log (e ∷ []) more))
          (subst (λ es. Reached r (states_along r starting (log ++ e ∷ more)) j.earlier es state
          watches) (sym (append_assoc j.later (e ∷ []) more)) (j.reached (e ∷ more)));
      clean = λ more. ap (first_fault r starting) (append_assoc log (e ∷ []) more)
          ∙ j.clean (e ∷ more)
          ∙ ap (λ es. first_answer
          (violation_at r starting (states_along r starting (log ++ e ∷ more)))
          (places_after j.earlier es)) (sym (append_assoc j.later (e ∷ []) more))
          ∙ ap (λ es. first_answer (violation_at r starting (states_along r starting es))
          (places_after j.earlier ((j.later ++ e ∷ []) ++ more)))
          (sym (append_assoc log (e ∷ []) more));
      few = j.few;
      current = j.current;
      returned = returned_more j.earlier j.later (e ∷ []) j.returned;
      seen_few = j.seen_few;
      shows = j.shows;
    }
  where
    behind : List Entry → ℕ
    behind all = parts_behind all e.caller e.kind

    parts : cut_if (is_commit e.kind)
        (with_effects (behind (newest_first log))
        (ended_effects_at (newest_first log) e.caller e.kind)
        (effect_parts (effects j.earlier j.later) j.earlier j.later))
        ≡ effect_parts (effects j.earlier (j.later ++ e ∷ [])) j.earlier (j.later ++ e ∷ [])
    parts = search (behind, parts_more, arith)

-- What a place leads to, however the log goes on: it isn't a fault, and the next one is reached.
pub record Onward (r : Rules) (starting : List StartWord) (log : List Entry) (e : Entry)
    (earlier later : List Entry) (state : State) (watches : List Seen) : Type 0 where
  pub fault : (more : List Entry) → fault_at r starting (states_along r starting (log ++ more))
      (place_of e earlier (later ++ more)) ≡ None
  pub reached : (more : List Entry) → Reached r (states_along r starting (log ++ more))
      (e ∷ earlier) (later ++ more) state watches

-- no fault is found before the places from this one on
abbrev pub IsClean : Rules → List StartWord → List Entry → List Entry → List Entry → Type 0
IsClean r starting log earlier later = (more : List Entry) → first_fault r starting (log ++ more)
    ≡ first_answer (violation_at r starting (states_along r starting (log ++ more)))
    (places_after earlier (later ++ more))

abbrev pub IsReached : Rules → List StartWord → List Entry → List Entry → List Entry → State
    → List Seen → Type 0
IsReached r starting log earlier later state watches =
    (more : List Entry) → Reached r (states_along r starting (log ++ more)) earlier
    (later ++ more) state watches

clean_on : (r : Rules) (starting : List StartWord) (log : List Entry) (e : Entry)
    (earlier later : List Entry)
    → ((more : List Entry) → fault_at r starting (states_along r starting (log ++ more))
    (place_of e earlier (later ++ more)) ≡ None)
    → IsClean r starting log earlier (e ∷ later) → IsClean r starting log (e ∷ earlier) later
clean_on r starting log e earlier later fault clean = λ more. grind (arith, clean more, fault more)

-- an entry that isn't judged
quiet_on : (r : Rules) (starting : List StartWord) (log : List Entry) (e : Entry)
    (earlier later : List Entry) (state : State) (watches : List Seen)
    → broken_rule r.header earlier e ≡ None → waiting_at (place_of e earlier later) ≡ None
    → IsReached r starting log earlier (e ∷ later) state watches
    → Onward r starting log e earlier later state watches
unfolding fault_at
quiet_on r starting log e earlier later state watches keeps quiet val = by_kind e.kind keeps quiet
    val
  where
    c : ℕ
    c = e.caller

    Goal : Kind → Type 0
    Goal kind = Onward r starting log (entry c kind) earlier later state watches

    place : Kind → Place Entry
    place kind = place_of (entry c kind) earlier later

    unwaiting : (p : Place Entry) (o : Option Event) → option_map (waiting_of p) o ≡ None → o ≡ None
    unwaiting p None is = refl
    unwaiting p (Some event) is = cc

    at_commit : {A : Type 0} (o : Option Called) (reply : Option ℕ) → (called : Called)
        × (o ≡ Some called) × (is_observer called.method ≡ false)
        → option_map (commit_of reply) o ≡ None → A
    at_commit None reply runs none = absurd (apart runs.1)
      where
        apart : None ≡ Some runs.0 → ⊥
        apart p = cc
    at_commit (Some called) reply runs none = absurd (apart none)
      where
        apart : Some (commit_of reply called) ≡ None → ⊥
        apart p = cc

    by_kind : (kind : Kind) → broken_rule r.header earlier (entry c kind) ≡ None
        → waiting_at (place kind) ≡ None
        → IsReached r starting log earlier (entry c kind ∷ later) state watches → Goal kind
    by_kind (Call method args) keeps' none r' = record {
      fault = λ more. refl;
      reached = λ more. reached_owes r (states_along r starting (log ++ more)) c method args earlier
          (later ++ more) state watches
          (not-false (must_commit method)
          (then_some_false _ _ (unwaiting (place (Call method args)) _ none)))
          (call_kept r.header c method args earlier keeps') (r' more);
    }
    by_kind (Return reply) keeps' none r' =
        let called = return_kept r.header c reply earlier keeps' in
        let committed : has_committed c earlier ≡ true =
        not-false (has_committed c earlier)
        (then_some_false _ _ (unwaiting (place (Return reply)) _ none)) in
        record {
          fault = λ more. return_committed_at r starting (states_along r starting (log ++ more)) c
              reply earlier (later ++ more) state watches called.0 called.1 committed
              (r' more);
          reached = λ more. reached_return r (states_along r starting (log ++ more)) c reply earlier
              (later ++ more) state watches watches (λ d other. refl) (r' more);
        }
    by_kind (Write word value) keeps' none r' = record {
      fault = λ more. refl;
      reached = λ more. reached_inside r (states_along r starting (log ++ more)) c
          (Write word value) earlier (later ++ more) state watches refl refl refl refl (r' more);
    }
    by_kind BlockOpen keeps' none r' = record {
      fault = λ more. refl;
      reached = λ more. reached_inside r (states_along r starting (log ++ more)) c BlockOpen earlier
          (later ++ more) state watches refl refl refl refl (r' more);
    }
    by_kind BlockClose keeps' none r' = record {
      fault = λ more. refl;
      reached = λ more. reached_inside r (states_along r starting (log ++ more)) c BlockClose
          earlier (later ++ more) state watches refl refl refl refl (r' more);
    }
    by_kind Commit keeps' none r' = at_commit (open_call c earlier) _
        (commit_kept r.header c earlier keeps') (unwaiting (place Commit) _ none)
    by_kind BlockCommit keeps' none r' = at_commit (open_call c earlier) _
        (block_commit_runs r.header c earlier keeps') (unwaiting (place BlockCommit) _ none)

-- All before a place is judged: what is known there, however the log goes on.
pub record IsJudged (r : Rules) (starting : List StartWord) (log : List Entry) (state : State)
    (made : ℕ) (watches : List Seen)
    (first : List ℕ) (since : List (List (ℕ × ℕ))) (earlier later : List Entry) : Type 0 where
  pub parts : HasParts r.header starting first since
      (effect_parts (effects earlier later) earlier later)
  pub settled : Settled earlier later
  pub ended : AllEnd earlier later
  pub reached : IsReached r starting log earlier later state watches
  pub clean : IsClean r starting log earlier later
  pub few : made ≤ length earlier
  pub returned : AllReturned earlier later
  pub seen_few : AreSeenFew earlier watches
  pub shows : ShowsFew r starting state

-- what isn't a commit changes nothing of the words that wait
pub parts_on : (h : Header) (starting : List StartWord) (first : List ℕ)
    (since : List (List (ℕ × ℕ))) (e : Entry) (earlier later : List Entry)
    → is_commit e.kind ≡ false → HasParts h starting first since
    (effect_parts (effects earlier (e ∷ later)) earlier (e ∷ later))
    → HasParts h starting first since
    (effect_parts (effects (e ∷ earlier) later) (e ∷ earlier) later)
parts_on h starting first since e earlier later isnt has = grind (arith, starting, isnt)

-- at a commit the first words are those there, and the writes since act as the effects after it
pub parts_at : (h : Header) (starting : List StartWord) (first : List ℕ)
    (since : List (List (ℕ × ℕ))) (e : Entry) (earlier later : List Entry)
    → is_commit e.kind ≡ true → HasParts h starting first since
    (effect_parts (effects earlier (e ∷ later)) earlier (e ∷ later))
    → (first ≡ words_with h starting (effects (e ∷ earlier) later))
    × AllActAlike since (effect_parts [] (e ∷ earlier) later)
parts_at h starting first since e earlier later commits has = grind (arith, starting)

-- an entry that isn't judged leads on
judged_quiet : (r : Rules) (starting : List StartWord) (log : List Entry) (state : State) (made : ℕ)
    (watches : List Seen)
    (first : List ℕ) (since : List (List (ℕ × ℕ))) (e : Entry) (earlier later : List Entry)
    → broken_rule r.header earlier e ≡ None
    → waiting_at (place_of e earlier later) ≡ None
    → IsJudged r starting log state made watches first since earlier (e ∷ later)
    → IsJudged r starting log state made watches first since (e ∷ earlier) later
judged_quiet r starting log state made watches first since e earlier later keeps quiet j =
    let isnt = uncommitted r.header e earlier later keeps quiet in
    let is : IsReturned e.caller e.kind later = λ commits. absurd (apart isnt commits) in
    let onward = quiet_on r starting log e earlier later state watches keeps quiet j.reached in
    record {
      parts = parts_on r.header starting first since e earlier later isnt j.parts;
      settled = settled_next e earlier later is j.settled;
      ended = end_next r.header e earlier later keeps is j.ended;
      reached = onward.reached;
      clean = clean_on r starting log e earlier later onward.fault j.clean;
      few = omega (arith, j.few);
      returned = (closed_here e later is, j.returned);
      seen_few = seen_on r.header e earlier later watches keeps quiet j.seen_few;
      shows = j.shows;
    }
  where
    apart : {b : Bool} → b ≡ false → b ≡ true → ⊥
    apart p q = cc

-- The entry that waits first, where all before it is judged.
pub record AtHead (r : Rules) (starting : List StartWord) (log : List Entry) (state : State)
    (made : ℕ) (watches : List Seen) (x : Waiting)
    (xs : List Waiting) (first : List ℕ) (since : List (List (ℕ × ℕ))) : Type 0 where
  pub earlier : List Entry
  pub here : Entry
  pub later : List Entry
  pub whole : newest_first_onto (here ∷ earlier) later ≡ newest_first log
  pub keeps : broken_rule r.header earlier here ≡ None
  pub kept : break_after r.header (here ∷ earlier) later ≡ None
  pub is : waiting_at (place_of here earlier later) ≡ Some x
  pub rest : xs ≡ waiting_after (here ∷ earlier) later
  pub judged : IsJudged r starting log state made watches first since earlier (here ∷ later)
  pub current : AreCurrent (r.answer state) watches

-- the first entry that waits from a place on
head_from : (r : Rules) (starting : List StartWord) (log : List Entry) (state : State) (made : ℕ)
    (watches : List Seen) (x : Waiting)
    (xs : List Waiting) (first : List ℕ) (since : List (List (ℕ × ℕ))) (earlier later : List Entry)
    → newest_first_onto earlier later ≡ newest_first log → break_after r.header earlier later ≡ None
    → x ∷ xs ≡ waiting_after earlier later
    → IsJudged r starting log state made watches first since earlier later
    → AreCurrent (r.answer state) watches
    → AtHead r starting log state made watches x xs first since
head_from r starting log state made watches x xs first since earlier [] whole kept queued judged
    current = absurd (some_is_none queued)
  where
    some_is_none : x ∷ xs ≡ [] → ⊥
    some_is_none e = cc
head_from r starting log state made watches x xs first since earlier (e ∷ later) whole kept queued
    judged current =
    by_waiting (λ queued' judged'.
    head_from r starting log state made watches x xs first since (e ∷ earlier) later whole
    kept_both.1 queued' judged' current)
    (waiting_at (place_of e earlier later)) refl queued
  where
    kept_both : (broken_rule r.header earlier e ≡ None)
        × (break_after r.header (e ∷ earlier) later ≡ None)
    kept_both = search (both_none, kept, arith)

    by_waiting : (x ∷ xs ≡ waiting_after (e ∷ earlier) later
        → IsJudged r starting log state made watches first since (e ∷ earlier) later
        → AtHead r starting log state made watches x xs first since)
        → (o : Option Waiting) → waiting_at (place_of e earlier later) ≡ o
        → x ∷ xs ≡ cons_option o (waiting_after (e ∷ earlier) later)
        → AtHead r starting log state made watches x xs first since
    by_waiting on None quiet queued' =
        on queued' (judged_quiet r starting log state made watches first since e earlier later
        kept_both.0 quiet judged)
    by_waiting on (Some y) is queued' = search (rest_of, arith)
      where
        rest_of : x ∷ xs ≡ y ∷ waiting_after (e ∷ earlier) later
            → xs ≡ waiting_after (e ∷ earlier) later
        rest_of p = cc

known_of : {r : Rules} {starting : List StartWord} {log : List Entry} {state : State} {made : ℕ}
    {watches : List Seen} {queue : List Waiting}
    {first : List ℕ} {since : List (List (ℕ × ℕ))}
    (j : Judged r starting log state made watches queue first since)
    → IsJudged r starting log state made watches first since j.earlier j.later
known_of j = search arith

pub judged_head : (r : Rules) (starting : List StartWord) (log : List Entry) (state : State)
    (made : ℕ) (watches : List Seen) (x : Waiting)
    (xs : List Waiting) (first : List ℕ) (since : List (List (ℕ × ℕ)))
    → Judged r starting log state made watches (x ∷ xs) first since
    → AtHead r starting log state made watches x xs first since
judged_head r starting log state made watches x xs first since j =
    grind (arith, starting, made, watches, head_from, known_of)

-- where nothing waits there is no fault
none_from : (r : Rules) (starting : List StartWord) (log : List Entry) (state : State)
    (watches : List Seen) (earlier later : List Entry)
    → break_after r.header earlier later ≡ None → [] ≡ waiting_after earlier later
    → IsReached r starting log earlier later state watches → IsClean r starting log earlier later
    → first_fault r starting log ≡ None
none_from r starting log state watches earlier [] kept queued reached clean =
    ap (first_fault r starting) (sym (append-nil log)) ∙ clean []
none_from r starting log state watches earlier (e ∷ later) kept queued reached clean =
    by_waiting (λ queued' reached' clean'. none_from r starting log state watches
    (e ∷ earlier) later kept_both.1 queued' reached' clean')
    (waiting_at (place_of e earlier later)) refl queued
  where
    kept_both : (broken_rule r.header earlier e ≡ None)
        × (break_after r.header (e ∷ earlier) later ≡ None)
    kept_both = search (both_none, kept, arith)

    by_waiting : ([] ≡ waiting_after (e ∷ earlier) later → IsReached r starting log
        (e ∷ earlier) later state watches
        → IsClean r starting log (e ∷ earlier) later → first_fault r starting log ≡ None)
        → (o : Option Waiting) → waiting_at (place_of e earlier later) ≡ o
        → [] ≡ cons_option o (waiting_after (e ∷ earlier) later)
        → first_fault r starting log ≡ None
    by_waiting on None quiet queued' =
        let onward = quiet_on r starting log e earlier later state watches kept_both.0 quiet
        reached in
        on queued' onward.reached (clean_on r starting log e earlier later onward.fault clean)
    by_waiting on (Some y) is queued' = cc

pub judged_all : (r : Rules) (starting : List StartWord) (log : List Entry) (state : State)
    (made : ℕ) (watches : List Seen) (first : List ℕ) (since : List (List (ℕ × ℕ)))
    → Judged r starting log state made watches [] first since → first_fault r starting log ≡ None
judged_all r starting log state made watches first since j = none_from r starting log state watches
    j.earlier j.later j.kept j.queued j.reached j.clean

-- one more entry is judged
pub judged_next : (r : Rules) (starting : List StartWord) (log : List Entry) (state next : State)
    (made more : ℕ) (watches new : List Seen)
    (x : Waiting) (xs : List Waiting) (first next_first : List ℕ)
    (since next_since : List (List (ℕ × ℕ)))
    (at : AtHead r starting log state made watches x xs first since)
    → IsReturned at.here.caller at.here.kind at.later
    → HasParts r.header starting next_first next_since
    (effect_parts (effects (at.here ∷ at.earlier) at.later) (at.here ∷ at.earlier) at.later)
    → more ≤ made + 1 → AreCurrent (r.answer next) new → AreSeenFew (at.here ∷ at.earlier) new
    → ShowsFew r starting next → Onward r starting log at.here at.earlier at.later next new
    → Judged r starting log next more new xs next_first next_since
judged_next r starting log state next made more watches new x xs first next_first since next_since
    at is parts count current seen shows onward = record {
      earlier = at.here ∷ at.earlier;
      later = at.later;
      whole = at.whole;
      kept = at.kept;
      queued = at.rest;
      parts = parts;
      settled = settled_next at.here at.earlier at.later is at.judged.settled;
      ended = end_next r.header at.here at.earlier at.later at.keeps is at.judged.ended;
      reached = onward.reached;
      clean = clean_on r starting log at.here at.earlier at.later onward.fault at.judged.clean;
      few = omega (arith, count, at.judged.few);
      current = current;
      returned = (closed_here at.here at.later is, at.judged.returned);
      seen_few = seen;
      shows = shows;
    }

-- the entry that waits first is a fault
pub judged_fault : (r : Rules) (starting : List StartWord) (log : List Entry) (state : State)
    (made : ℕ) (watches : List Seen) (x : Waiting) (xs : List Waiting)
    (first : List ℕ) (since : List (List (ℕ × ℕ))) (why : Why)
    (at : AtHead r starting log state made watches x xs first since)
    → fault_at r starting (states_along r starting log) (place_of at.here at.earlier at.later)
    ≡ Some why
    → first_fault r starting log ≡ Some (Violation (line_of starting (length at.earlier)) why)
judged_fault r starting log state made watches x xs first since why at fault =
    cc (append-nil log, at.judged.clean [], append-nil at.later)
