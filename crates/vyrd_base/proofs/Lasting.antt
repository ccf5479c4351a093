-- The first fault of a front is that of every longer front.
use Rattle.vyrd_base.proofs.Prelude
use Prelude.{◌≡◌, ℕ, suc, zero, ◌+◌, ◌≤◌, Bool, true, false, cond, List, [], ◌∷◌, ◌++◌, map, length}
use Prelude.{Option, Some, None, refl, ap, ◌∙◌, sym, arith, slice_get, append_assoc, length-append}
use Prelude.{Entry, StartWord, Why, Verdict, Violation, Place, places_after, first_answer}
use Prelude.{position_of, State, is_commit, Committed, committed_at, commit_count, state_after}
use Prelude.{states_from, commits_after, fault_of_kind, fault_at, line_of, violation_at, Rules}
use Rattle.std.specs.Option.{option_map, option_or}
use Rattle.std.proofs.lemmas.List.Sums.{sum_by-cons}
use Rattle.std.proofs.lemmas.Option.{slice_get_past}
use Rattle.vyrd_base.proofs.PlaceLaws.{with_later}
use Rattle.vyrd_base.proofs.Growing.{once_returned_replied}
use Rattle.vyrd_base.proofs.Settled.{IsReturned, Settled, settled_next}
use Rattle.vyrd_base.proofs.Judged.{fault_stays, no_state_no_fault, fault_decided, commit_decided}

-- the first state is the one from which the states go on
pub states_begin : (r : Rules) (s : State) (xs : List Committed) → slice_get (states_from r s xs) 0
    ≡ Some s
states_begin r s [] = refl
states_begin r s (x ∷ xs) = refl

pub slice_get_seam : {A : Type 0} (xs ys : List A) (k : ℕ) → length xs ≡ k → slice_get (xs ++ ys) k
    ≡ slice_get ys 0
slice_get_seam [] ys zero e = refl
slice_get_seam [] ys (suc k) e = cc
slice_get_seam (x ∷ xs) ys zero e = absurd (omega arith)
slice_get_seam (x ∷ xs) ys (suc k) e = slice_get_seam xs ys k (omega arith)

-- `omega` reads a count as it stands: this says how one more entry counts
pub commit_count-cons : (e : Entry) (earlier : List Entry) → commit_count (e ∷ earlier)
    ≡ cond (is_commit e.kind) 1 0 + commit_count earlier
commit_count-cons e earlier = sum_by-cons (λ x. cond (is_commit x.kind) 1 0) e earlier

-- past the last state nothing is judged
pub no_fault_beyond : (r : Rules) (starting : List StartWord) (states : List State)
    (earlier xs : List Entry) → length states ≤ commit_count earlier
    → first_answer (violation_at r starting states) (places_after earlier xs) ≡ None
unfolding fault_at
no_fault_beyond r starting states earlier [] short = refl
no_fault_beyond r starting states earlier (x ∷ xs) short =
    let place : Place Entry = record { earlier = earlier; here = x; later = xs } in
    let here = no_state_no_fault r starting states place x.kind
    (slice_get_past states (commit_count earlier) short) in
    let grown : commit_count earlier ≤ commit_count (x ∷ earlier) =
    omega (arith, commit_count-cons x earlier) in
    cc (no_fault_beyond r starting states (x ∷ earlier) xs (omega arith))

-- one more commit, and how many there are then
counted : (p : ℕ) (b : Bool) → b ≡ true → cond b 1 0 + p ≡ p + 1
counted p b e = search arith

uncounted : (p : ℕ) (b : Bool) → b ≡ false → cond b 1 0 + p ≡ p
uncounted p b e = search arith

-- If the first fault of some places is known, it is the first fault of these places as the front
-- goes on. The states before these places are `pre`, and s is the state at the first of them.
pub first_fault_lasts : (r : Rules) (starting : List StartWord) (earlier xs later : List Entry)
    (pre states more : List State) (s : State) (v : Verdict)
    → Settled earlier xs → length pre ≡ commit_count earlier → states ≡ pre
    ++ states_from r s (commits_after earlier xs)
    → first_answer (violation_at r starting states) (places_after earlier xs) ≡ Some v
    → first_answer (violation_at r starting (states ++ more))
    (map (with_later later) (places_after earlier xs)) ≡ Some v
unfolding fault_at
first_fault_lasts r starting earlier [] later pre states more s v settled counts are found = cc
first_fault_lasts r starting earlier (x ∷ xs) later pre states more s v settled counts are found =
    here (λ pre' s' settled' counts' are' found'. first_fault_lasts r starting
    (x ∷ earlier) xs later pre' states more s' v settled' counts' are' found')
    (fault_of_kind r starting states place x.kind) refl found
  where
    place : Place Entry
    place = record { earlier = earlier; here = x; later = xs }

    rest : Option Verdict
    rest = first_answer (violation_at r starting states) (places_after (x ∷ earlier) xs)

    new_rest : Option Verdict
    new_rest = first_answer (violation_at r starting (states ++ more))
        (map (with_later later) (places_after (x ∷ earlier) xs))

    with_line : Option Why → Option Verdict
    with_line o = option_map (Violation (line_of starting (position_of place))) o

    new : Option Why
    new = fault_of_kind r starting (states ++ more) (with_later later place) x.kind

    known : slice_get states (commit_count earlier) ≡ Some s
    known = search (slice_get_seam, states_begin, arith)

    -- the claim about the places after this one
    Onward : Type 0
    Onward = (pre' : List State) (s' : State) → Settled (x ∷ earlier) xs → length pre'
        ≡ commit_count (x ∷ earlier)
        → states ≡ pre' ++ states_from r s' (commits_after (x ∷ earlier) xs) → rest ≡ Some v
        → new_rest ≡ Some v

    -- a place without a fault leads on to the places after it
    lead_on : new ≡ None → new_rest ≡ Some v → option_or (with_line new) new_rest ≡ Some v
    lead_on none onward = cc

    at_commit : Onward → is_commit x.kind ≡ true → states ≡ pre
        ++ states_from r s (committed_at place ∷ commits_after (x ∷ earlier) xs)
        → fault_of_kind r starting states place x.kind ≡ None → rest ≡ Some v → (o : Option State)
        → state_after r s (committed_at place) ≡ o → option_or (with_line new) new_rest ≡ Some v
    at_commit onward is_one are' none found' None after =
        let ended : states ≡ pre ++ s ∷ [] = cc in
        let short : length states ≤ commit_count (x ∷ earlier) = omega (
          arith,
          ap length ended,
          length-append pre (s ∷ []),
          counted (commit_count earlier) (is_commit x.kind) is_one,
          commit_count-cons x earlier,
        ) in
        let beyond = no_fault_beyond r starting states (x ∷ earlier) xs short in
        cc
    at_commit onward is_one are' none found' (Some next) after =
        let go_on : states ≡ (pre ++ s ∷ []) ++ states_from r next
        (commits_after (x ∷ earlier) xs) =
        cc (append_assoc pre (s ∷ []) (states_from r next (commits_after (x ∷ earlier) xs))) in
        let long : length (pre ++ s ∷ []) ≡ commit_count (x ∷ earlier) = omega (
          arith,
          length-append pre (s ∷ []),
          counted (commit_count earlier) (is_commit x.kind) is_one,
          commit_count-cons x earlier,
        ) in
        let replied = once_returned_replied
        (λ called reply. r.next called.method called.args reply s) (committed_at place) next
        after in
        let is : IsReturned x.caller x.kind xs = λ _. replied in
        lead_on (commit_decided r starting states more place later x.kind s next settled known after
        is_one ∙ none)
        (onward (pre ++ s ∷ []) next (settled_next x earlier xs is settled) long go_on found')

    by_kind : Onward → fault_of_kind r starting states place x.kind ≡ None → rest ≡ Some v
        → (b : Bool) → is_commit x.kind ≡ b
        → option_or (with_line new) new_rest ≡ Some v
    by_kind onward none found' false isnt =
        let is : IsReturned x.caller x.kind xs = λ e. cc in
        lead_on (fault_decided r starting states more place later x.kind s known isnt ∙ none)
        (onward pre s (settled_next x earlier xs is settled)
        (counts ∙ sym (commit_count-cons x earlier ∙ uncounted (commit_count earlier)
        (is_commit x.kind) isnt))
        (cc)
        found')
    by_kind onward none found' true is_one =
        at_commit onward is_one (cc)
        none found' (state_after r s (committed_at place)) refl

    here : Onward → (o : Option Why) → fault_of_kind r starting states place x.kind ≡ o
        → option_or (with_line o) rest ≡ Some v
        → option_or (with_line new) new_rest ≡ Some v
    here onward (Some why) e found' =
        cc (fault_stays r starting states more place later x.kind why settled e)
    here onward None e found' = by_kind onward e found' (is_commit x.kind) refl
